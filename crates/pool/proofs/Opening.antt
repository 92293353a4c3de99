-- An opened pool: each place of its nexts; its free chain is the numbers after the used ones; it is whole,
-- with the used records as chains of one and any further heads 0 (pool-opened). Assumes nothing.
use mathlib.Core.Path.{◌≡◌, refl, sym, ap, subst, ◌∙◌}
use mathlib.Core.Logic.{inl, inr}
use mathlib.Core.List.{List, [], ◌∷◌, ◌++◌, append-nil}
use Prim.Native.Nat.{ℕ, zero, suc, ◌+◌, ◌-◌, ◌≤◌, ◌<◌}
use native.Mathlib.Omega.{arith}
use lib.Dec.{ltb}
use lib.ListN.{length, get_or, replicate, length-append, length-replicate, get_or-replicate, get_or-append}
use lib.Seq.{get_or-append-add, get_or_at}
use borrow.Author.Tests.{lt-ltb, le-ltb}
use Rattle.lists.specs.Lists.{pick, at, times, up_from}
use Rattle.lists.proofs.Tests.{eq-or-ne, lt-or-le, zero-or-pos}
use Rattle.lists.proofs.Times.{times-nil, times-self, times-other, times-append, times-mem}
use Rattle.lists.proofs.Rising.{up-length, up_at, from_up}
use Rattle.pool.specs.Chains.{chain, Linked}
use Rattle.pool.specs.Whole.{chains, AllLinked, Pool}
use Rattle.pool.specs.Opening.{free_nexts, free_head, opened_nexts}
use Rattle.pool.proofs.Chains.{linked-nil, linked-cons, linked-chain, linked-self}
use Rattle.pool.proofs.Whole.{chains-nil, chains_cons, chains-append, all_nil, all_cons, all_join}

-- ---- the nexts, place by place

-- the free part, where there is one
free-is : (a k : ℕ) → a < k → free_nexts a k ≡ up_from (a + 2) (k - a - 1) ++ (0 ∷ [])
free-is a k h = rw (lt-ltb a k h) refl

pub free-length : (a k : ℕ) → a ≤ k → length (free_nexts a k) ≡ k - a
free-length a k h =
    elim (lt-or-le a k) [
      | inl l ↦ ap length (free-is a k l) ∙ length-append (up_from (a + 2) (k - a - 1)) (0 ∷ []) ∙ omega (arith, up-length (a + 2) (k - a - 1))
      | inr l ↦ rw (le-ltb a k l) (omega arith)
    ]

pub opened-length : (a k : ℕ) → a ≤ k → length (opened_nexts a k) ≡ k
opened-length a k h = length-append (replicate a 0) (free_nexts a k) ∙ omega (arith, length-replicate {A = ℕ} a 0, free-length a k h)

-- a used record ends its chain
pub opened-used : (a k i : ℕ) → i < a → get_or (opened_nexts a k) i 0 ≡ 0
opened-used a k i h =
    get_or-append (replicate a 0) (free_nexts a k) 0 i (omega (arith, length-replicate {A = ℕ} a 0)) ∙ get_or-replicate a i 0 0 h

free-place : (a k i : ℕ) → a ≤ i → get_or (opened_nexts a k) i 0 ≡ get_or (free_nexts a k) (i - a) 0
free-place a k i h =
    let e : i ≡ length (replicate {A = ℕ} a 0) + (i - a) = omega (arith, length-replicate {A = ℕ} a 0) in
    ap (λ (j : ℕ). get_or (opened_nexts a k) j 0) e ∙ get_or-append-add (replicate a 0) (free_nexts a k) (i - a) 0

-- a free record has the one after it
pub opened-free : (a k i : ℕ) → a ≤ i → i + 1 < k → get_or (opened_nexts a k) i 0 ≡ i + 2
opened-free a k i h l =
    free-place a k i h ∙ ap (λ (t : List ℕ). get_or t (i - a) 0) (free-is a k (omega arith)) ∙
    get_or-append (up_from (a + 2) (k - a - 1)) (0 ∷ []) 0 (i - a) (omega (arith, up-length (a + 2) (k - a - 1))) ∙
    up_at (a + 2) (k - a - 1) (i - a) (omega arith) ∙ omega arith

-- the last one ends the free chain
pub opened-last : (a k i : ℕ) → a ≤ i → i + 1 ≡ k → get_or (opened_nexts a k) i 0 ≡ 0
opened-last a k i h l =
    free-place a k i h ∙ ap (λ (t : List ℕ). get_or t (i - a) 0) (free-is a k (omega arith)) ∙
    get_or_at (up_from (a + 2) (k - a - 1)) 0 [] 0 (i - a) (omega (arith, up-length (a + 2) (k - a - 1)))

-- ---- the numbers from i on, as records

up-once : (i n x : ℕ) → times x (up_from i n) ≤ 1
unfolding up_from
up-once i zero x = omega (arith, times-nil x)
up-once i (suc n) x =
    elim (eq-or-ne x i) [
      | inl e ↦ rw e (elim (zero-or-pos (times i (up_from (suc i) n))) [
        | inl z ↦ omega (arith, times-self i (up_from (suc i) n))
        | inr p ↦ absurd (omega (arith, (from_up (suc i) n (times-mem i (up_from (suc i) n) p)).0))
      ])
      | inr e ↦ omega (arith, times-other x i (up_from (suc i) n) e, up-once (suc i) n x)
    ]

up-append : (i m n : ℕ) → up_from i m ++ up_from (i + m) n ≡ up_from i (m + n)
unfolding up_from
up-append i zero n =
    let e : i + 0 ≡ i = omega arith in
    let f : 0 + n ≡ n = omega arith in
    rw (e, f) refl
up-append i (suc m) n =
    let e : i + suc m ≡ suc i + m = omega arith in
    let f : suc m + n ≡ suc (m + n) = omega arith in
    rw (e, f) (ap (λ (t : List ℕ). i ∷ t) (up-append (suc i) m n))

-- ---- the chains of an opened pool

module _ (a k : ℕ) (h : a ≤ k) where
  pub zero-linked : Linked (opened_nexts a k) 0 (chain (opened_nexts a k) 0)
  zero-linked = linked-self (opened_nexts a k) 0 [] (linked-nil (opened_nexts a k))

  -- from a free record on to the last
  free-linked : (n i : ℕ) → a < i → i + n ≡ suc k → (next : ℕ) → next ≡ pick (ltb k i) 0 i → Linked (opened_nexts a k) next (up_from i n)
  unfolding up_from
  free-linked zero i p q next e = subst (λ (x : ℕ). Linked (opened_nexts a k) x []) (sym (e ∙ rw (lt-ltb k i (omega arith)) refl)) (linked-nil (opened_nexts a k))
  free-linked (suc n) i p q next e =
      let l : length (opened_nexts a k) ≡ k = opened-length a k h in
      let r : next ≡ i = e ∙ rw (le-ltb k i (omega arith)) refl in
      subst (λ (x : ℕ). Linked (opened_nexts a k) x (i ∷ up_from (suc i) n)) (sym r)
      (linked-cons (opened_nexts a k) i (up_from (suc i) n) (omega arith) (omega arith)
      (free-linked n (suc i) (omega arith) (omega arith) (at (opened_nexts a k) i) (after i (omega arith) (omega arith))))
    where
      after : (i : ℕ) → a < i → i ≤ k → at (opened_nexts a k) i ≡ pick (ltb k (suc i)) 0 (suc i)
      after i p q =
          elim (lt-or-le i k) [
            | inl l ↦ opened-free a k (i - 1) (omega arith) (omega arith) ∙ rw (le-ltb k (suc i) (omega arith)) (omega arith)
            | inr l ↦ opened-last a k (i - 1) (omega arith) (omega arith) ∙ rw (lt-ltb k (suc i) (omega arith)) refl
          ]

  -- the free chain is the numbers after the used ones
  pub opened-linked : Linked (opened_nexts a k) (free_head a k) (up_from (suc a) (k - a))
  opened-linked = free-linked (k - a) (suc a) (omega arith) (omega arith) (free_head a k) (turned a k)
    where
      turned : (a k : ℕ) → free_head a k ≡ pick (ltb k (suc a)) 0 (suc a)
      turned a k =
          elim (lt-or-le a k) [
            | inl l ↦ rw (lt-ltb a k l, le-ltb k (suc a) (omega arith)) refl
            | inr l ↦ rw (le-ltb a k l, lt-ltb k (suc a) (omega arith)) refl
          ]

  pub opened-chain : chain (opened_nexts a k) (free_head a k) ≡ up_from (suc a) (k - a)
  opened-chain = linked-chain (opened_nexts a k) (free_head a k) (up_from (suc a) (k - a)) opened-linked

  -- a used record alone
  used-linked : (i : ℕ) → 1 ≤ i → i ≤ a → Linked (opened_nexts a k) i (i ∷ [])
  used-linked i p q =
      let l : length (opened_nexts a k) ≡ k = opened-length a k h in
      let e : at (opened_nexts a k) i ≡ 0 = opened-used a k (i - 1) (omega arith) in
      linked-cons (opened_nexts a k) i [] p (omega arith) (subst (λ (x : ℕ). Linked (opened_nexts a k) x []) (sym e) (linked-nil (opened_nexts a k)))

  used_all : (n i : ℕ) → 1 ≤ i → i + n ≤ suc a → AllLinked (opened_nexts a k) (up_from i n) × (chains (opened_nexts a k) (up_from i n) ≡ up_from i n)
  unfolding up_from
  used_all zero i p q = (all_nil (opened_nexts a k), chains-nil (opened_nexts a k))
  used_all (suc n) i p q =
      let l : Linked (opened_nexts a k) i (i ∷ []) = used-linked i p (omega arith) in
      let r : AllLinked (opened_nexts a k) (up_from (suc i) n) × (chains (opened_nexts a k) (up_from (suc i) n) ≡ up_from (suc i) n) = used_all n (suc i) (omega arith) (omega arith) in (
        all_cons (opened_nexts a k) i (up_from (suc i) n) (linked-self (opened_nexts a k) i (i ∷ []) l) r.0,
        chains_cons (opened_nexts a k) i (up_from (suc i) n) ∙ rw (linked-chain (opened_nexts a k) i (i ∷ []) l, r.1) refl,
      )

  zeros-all : (n : ℕ) → AllLinked (opened_nexts a k) (replicate n 0) × (chains (opened_nexts a k) (replicate n 0) ≡ [])
  zeros-all zero = (all_nil (opened_nexts a k), chains-nil (opened_nexts a k))
  zeros-all (suc n) =
      let r : AllLinked (opened_nexts a k) (replicate n 0) × (chains (opened_nexts a k) (replicate n 0) ≡ []) = zeros-all n in (
        all_cons (opened_nexts a k) 0 (replicate n 0) zero-linked r.0,
        chains_cons (opened_nexts a k) 0 (replicate n 0) ∙ rw (linked-chain (opened_nexts a k) 0 [] (linked-nil (opened_nexts a k)), r.1) refl,
      )

  -- WHOLE, with n further heads 0
  pub pool-opened : (n : ℕ) → Pool (opened_nexts a k) (up_from 1 a ++ replicate n 0) (free_head a k)
  pool-opened n =
      let u : AllLinked (opened_nexts a k) (up_from 1 a) × (chains (opened_nexts a k) (up_from 1 a) ≡ up_from 1 a) = used_all a 1 (omega arith) (omega arith) in
      let z : AllLinked (opened_nexts a k) (replicate n 0) × (chains (opened_nexts a k) (replicate n 0) ≡ []) = zeros-all n in
      let c : chains (opened_nexts a k) (up_from 1 a ++ replicate n 0) ≡ up_from 1 a =
      chains-append (opened_nexts a k) (up_from 1 a) (replicate n 0) ∙ rw (u.1, z.1) (append-nil (up_from 1 a)) in
      let s : 1 + a ≡ suc a = omega arith in
      let both : up_from 1 a ++ up_from (suc a) (k - a) ≡ up_from 1 (a + (k - a)) = rw s at (up-append 1 a (k - a)) in
      record {
        linked = all_join (opened_nexts a k) (up_from 1 a) (replicate n 0) u.0 z.0;
        unused = linked-self (opened_nexts a k) (free_head a k) (up_from (suc a) (k - a)) opened-linked;
        once = λ x. rw (c, opened-chain) (omega (arith, times-append x (up_from 1 a) (up_from (suc a) (k - a)), ap (times x) both, up-once 1 (a + (k - a)) x));
        size = rw (c, opened-chain) (omega (arith, up-length 1 a, up-length (suc a) (k - a), opened-length a k h));
      }
