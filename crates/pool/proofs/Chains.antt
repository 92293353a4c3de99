-- Laws of chains, in this order: the list `chain_from` at its first record and its end; what a linked list of records has (range, end,
-- the part after a record) and how it stays or changes where the `next` table changes; a head has one linked list only, it
-- repeats nothing and has no more records than the pool (so Linked gives `chain ns h ≡ rs` with no bound to show); the test `ends` is Linked.
-- Assumes nothing.
use mathlib.Core.Path.{◌≡◌, refl, sym, ap, subst, ◌∙◌}
use mathlib.Core.Logic.{inl, inr, ◌≢◌}
use mathlib.Core.Bool.{true}
use mathlib.Core.List.{List, [], ◌∷◌, ◌++◌}
use Prim.Native.Nat.{ℕ, zero, suc, ◌≤◌}
use native.Mathlib.Omega.{arith}
use lib.ListN.{length, length-append}
use borrow.Author.Tests.{le-leb, eq-eqb, eqb-true}
use Rattle.lists.specs.Lists.{is_in, at, times}
use Rattle.lists.proofs.Tests.{cases, eq-or-ne, zero-or-pos, in-range}
use Rattle.lists.proofs.Member.{split-mem}
use Rattle.lists.proofs.Times.{times-nil, times-self, times-other, times-cons, times-mem, UpTo, once-length}
use Rattle.pool.specs.Chains.{chain_from, chain, last_of, ends_after, ends, Linked}

-- ---- the list from a head: at a record, at 0, out of the pool

pub chain-in : (n : ℕ) (ns : List ℕ) (r : ℕ) → 1 ≤ r → r ≤ length ns → chain_from (suc n) ns r ≡ r ∷ chain_from n ns (at ns r)
unfolding chain_from
chain-in n ns r p q = rw (le-leb 1 r p, le-leb r (length ns) q) refl

pub chain-nil : (n : ℕ) (ns : List ℕ) → chain_from n ns 0 ≡ []
unfolding chain_from
chain-nil zero ns = refl
chain-nil (suc n) ns = refl

pub ends_next : (ns : List ℕ) (r : ℕ) (rs : List ℕ) → ends_after ns r (r ∷ rs) ≡ ends_after ns (at ns r) rs
unfolding last_of
ends_next ns r [] = refl
ends_next ns r (x ∷ xs) = refl

-- a list's last record, and what stands before it
pub last-split : (r : ℕ) (rs : List ℕ) → (ds : List ℕ) × (r ∷ rs ≡ ds ++ (last_of r rs ∷ []))
unfolding last_of
last-split r [] = ([], refl)
last-split r (x ∷ xs) = let t : (ds : List ℕ) × (x ∷ xs ≡ ds ++ (last_of x xs ∷ [])) = last-split x xs in (r ∷ t.0, ap (λ (l : List ℕ). r ∷ l) t.1)

-- the last record after some others
pub last-append : (y : ℕ) (ds : List ℕ) (x : ℕ) (ts : List ℕ) → last_of y (ds ++ (x ∷ ts)) ≡ last_of x ts
unfolding last_of
last-append y [] x ts = refl
last-append y (d ∷ ds) x ts = last-append d ds x ts

-- ---- what a linked list of records has

pub linked-nil : (ns : List ℕ) → Linked ns 0 []
unfolding Linked
linked-nil ns = refl

pub linked-cons : (ns : List ℕ) (h : ℕ) (rs : List ℕ) → 1 ≤ h → h ≤ length ns → Linked ns (at ns h) rs → Linked ns h (h ∷ rs)
unfolding Linked
linked-cons ns h rs p q l = (refl, p, q, l)

-- every record of it is of the pool
pub linked-in : (ns : List ℕ) (h : ℕ) (rs : List ℕ) → Linked ns h rs → UpTo (length ns) rs
unfolding Linked
linked-in ns h [] l x n = absurd (omega (arith, times-nil x))
linked-in ns h (r ∷ rs) l x n =
    elim (eq-or-ne x r) [
      | inl e ↦ rw e (l.1, l.2)
      | inr e ↦ linked-in ns (at ns r) rs l.3 x (omega (arith, times-other x r rs e))
    ]

pub linked-low : (ns : List ℕ) (h : ℕ) (rs : List ℕ) (x : ℕ) → Linked ns h rs → 1 ≤ times x rs → 1 ≤ x
linked-low ns h rs x l n = (linked-in ns h rs l x n).0

pub linked-high : (ns : List ℕ) (h : ℕ) (rs : List ℕ) (x : ℕ) → Linked ns h rs → 1 ≤ times x rs → x ≤ length ns
linked-high ns h rs x l n = (linked-in ns h rs l x n).1

-- the head is 0 or of the pool
pub linked-head : (ns : List ℕ) (h : ℕ) (rs : List ℕ) → Linked ns h rs → h ≤ length ns
unfolding Linked
linked-head ns h [] l = omega (arith, l)
linked-head ns h (r ∷ rs) l = omega (arith, l.0, l.2)

-- one that has not ended goes on
pub record Step (ns : List ℕ) (h : ℕ) (rs : List ℕ) : Type 0 where
  pub rest : List ℕ
  pub parts : rs ≡ h ∷ rest
  pub low : 1 ≤ h
  pub high : h ≤ length ns
  pub next : Linked ns (at ns h) rest

pub linked-step : (ns : List ℕ) (h : ℕ) (rs : List ℕ) → h ≢ 0 → Linked ns h rs → Step ns h rs
unfolding Linked
linked-step ns h [] p l = absurd (p l)
linked-step ns h (r ∷ rs) p l =
    record {
      rest = rs;
      parts = ap (λ (x : ℕ). x ∷ rs) (sym l.0);
      low = omega (arith, l.0, l.1);
      high = omega (arith, l.0, l.2);
      next = subst (λ (x : ℕ). Linked ns (at ns x) rs) (sym l.0) l.3;
    }

pub linked-end : (ns : List ℕ) (h : ℕ) (rs : List ℕ) → h ≡ 0 → Linked ns h rs → rs ≡ []
unfolding Linked
linked-end ns h [] p l = refl
linked-end ns h (r ∷ rs) p l = absurd (omega (arith, l.0, l.1))

-- one with a record in it has not ended
pub linked-some : (ns : List ℕ) (h : ℕ) (rs : List ℕ) → 1 ≤ length rs → Linked ns h rs → h ≢ 0
linked-some ns h rs p l e = omega (arith, ap length (linked-end ns h rs e l))

-- the record p of it, and what follows
pub record After (ns : List ℕ) (p : ℕ) (bs : List ℕ) : Type 0 where
  pub low : 1 ≤ p
  pub high : p ≤ length ns
  pub tail : Linked ns (at ns p) bs

pub linked-after : (ns : List ℕ) (h : ℕ) (ds : List ℕ) (p : ℕ) (bs : List ℕ) → Linked ns h (ds ++ (p ∷ bs)) → After ns p bs
unfolding Linked
linked-after ns h [] p bs l = record { low = l.1; high = l.2; tail = l.3 }
linked-after ns h (a ∷ ds) p bs l = linked-after ns (at ns a) ds p bs l.3

-- ---- another next table

-- records that keep their nexts keep the chain
pub linked-frame : (ns₀ ns : List ℕ) (h : ℕ) (rs : List ℕ) → length ns ≡ length ns₀ → ((x : ℕ) → 1 ≤ x → 1 ≤ times x rs → at ns x ≡ at ns₀ x) → Linked ns₀ h rs → Linked ns h rs
unfolding Linked
linked-frame ns₀ ns h [] e same l = l
linked-frame ns₀ ns h (r ∷ rs) e same l =
    (l.0, l.1, omega (arith, l.2), rw (same r l.1 (omega (arith, times-self r rs))) (linked-frame ns₀ ns (at ns₀ r) rs e (λ x p q. same x p (omega (arith, times-cons x r rs))) l.3))

-- another tail after p
pub linked-tail : (ns₀ ns : List ℕ) (h : ℕ) (ds : List ℕ) (p : ℕ) (bs cs : List ℕ) → length ns ≡ length ns₀ → ((x : ℕ) → 1 ≤ x → 1 ≤ times x ds → at ns x ≡ at ns₀ x) →
    Linked ns (at ns p) cs → Linked ns₀ h (ds ++ (p ∷ bs)) → Linked ns h (ds ++ (p ∷ cs))
unfolding Linked
linked-tail ns₀ ns h [] p bs cs e same t l = (l.0, l.1, omega (arith, l.2), t)
linked-tail ns₀ ns h (a ∷ ds) p bs cs e same t l =
    (l.0, l.1, omega (arith, l.2), rw (same a l.1 (omega (arith, times-self a ds))) (linked-tail ns₀ ns (at ns₀ a) ds p bs cs e (λ x p q. same x p (omega (arith, times-cons x a ds))) t l.3))

-- ---- one list for a head, no record twice, and no more than there are

pub linked-unique : (ns : List ℕ) (h : ℕ) (rs ss : List ℕ) → Linked ns h rs → Linked ns h ss → rs ≡ ss
unfolding Linked
linked-unique ns h [] ss l k = sym (linked-end ns h ss l k)
linked-unique ns h (r ∷ rs) [] l k = absurd (omega (arith, l.0, l.1, k))
linked-unique ns h (r ∷ rs) (s ∷ ss) l k =
    let e : r ≡ s = sym l.0 ∙ k.0 in
    rw (e, linked-unique ns (at ns r) rs ss l.3 (subst (λ (x : ℕ). Linked ns (at ns x) ss) (sym e) k.3))

-- a record that came again would have its own tail after it twice
pub linked-once : (ns : List ℕ) (h : ℕ) (rs : List ℕ) → Linked ns h rs → (x : ℕ) → times x rs ≤ 1
unfolding Linked
linked-once ns h [] l x = omega (arith, times-nil x)
linked-once ns h (r ∷ rs) l x =
    elim (eq-or-ne x r) [
      | inl e ↦ rw e (elim (zero-or-pos (times r rs)) [
        | inl z ↦ omega (arith, times-self r rs)
        | inr q ↦
            let s : (ys : List ℕ) × (zs : List ℕ) × (rs ≡ ys ++ (r ∷ zs)) = split-mem (times-mem r rs q) in
            let t : After ns r s.1 = linked-after ns (at ns r) s.0 r s.1 (subst (λ (l : List ℕ). Linked ns (at ns r) l) s.2 l.3) in
            absurd (omega (arith, ap length s.2, length-append s.0 (r ∷ s.1), ap length (linked-unique ns (at ns r) rs s.1 l.3 t.tail)))
      ])
      | inr e ↦ omega (arith, times-other x r rs e, linked-once ns (at ns r) rs l.3 x)
    ]

pub linked-short : (ns : List ℕ) (h : ℕ) (rs : List ℕ) → Linked ns h rs → length rs ≤ length ns
linked-short ns h rs l = once-length (length ns) rs (linked-once ns h rs l) (linked-in ns h rs l)

pub linked-from : (n : ℕ) (ns : List ℕ) (h : ℕ) (rs : List ℕ) → Linked ns h rs → length rs ≤ n → chain_from n ns h ≡ rs
unfolding Linked
linked-from n ns h [] l e = rw l (chain-nil n ns)
linked-from zero ns h (r ∷ rs) l e = absurd (omega arith)
linked-from (suc n) ns h (r ∷ rs) l e =
    rw l.0 (chain-in n ns r l.1 l.2 ∙ ap (λ (t : List ℕ). r ∷ t) (linked-from n ns (at ns r) rs l.3 (omega arith)))

-- a linked list is the chain of its head
pub linked-chain : (ns : List ℕ) (h : ℕ) (rs : List ℕ) → Linked ns h rs → chain ns h ≡ rs
linked-chain ns h rs l = linked-from (length ns) ns h rs l (linked-short ns h rs l)

-- the same with the list left out: one linked list makes the head's chain linked
pub linked-self : (ns : List ℕ) (h : ℕ) (rs : List ℕ) → Linked ns h rs → Linked ns h (chain ns h)
linked-self ns h rs l = subst (λ (t : List ℕ). Linked ns h t) (sym (linked-chain ns h rs l)) l

-- a chain whose records keep their nexts stays
pub one-stays : (ns₀ ns : List ℕ) (h : ℕ) → length ns ≡ length ns₀ → ((x : ℕ) → 1 ≤ x → 1 ≤ times x (chain ns₀ h) → at ns x ≡ at ns₀ x) → Linked ns₀ h (chain ns₀ h) →
    (chain ns h ≡ chain ns₀ h) × Linked ns h (chain ns h)
one-stays ns₀ ns h e same l =
    let k : Linked ns h (chain ns₀ h) = linked-frame ns₀ ns h (chain ns₀ h) e same l in
    (linked-chain ns h (chain ns₀ h) k, linked-self ns h (chain ns₀ h) k)

-- ---- the test that a chain ends

from-linked : (n : ℕ) (ns : List ℕ) (h : ℕ) → ends_after ns h (chain_from n ns h) ≡ true → Linked ns h (chain_from n ns h)
unfolding chain_from Linked
from-linked zero ns h e = eqb-true h 0 e
from-linked (suc n) ns h e =
    elim (cases (is_in 1 (length ns) h)) [
      | inl t ↦
          let q : (1 ≤ h) × (h ≤ length ns) = in-range 1 (length ns) h t in
          let d : ends_after ns h (h ∷ chain_from n ns (at ns h)) ≡ true = rw t at e in
          rw t (refl, q.0, q.1, from-linked n ns (at ns h) (sym (ends_next ns h (chain_from n ns (at ns h))) ∙ d))
      | inr t ↦ rw t (eqb-true h 0 (rw t at e))
    ]

pub chain-linked : (ns : List ℕ) (h : ℕ) → ends ns h ≡ true → Linked ns h (chain ns h)
chain-linked ns h e = from-linked (length ns) ns h e

linked-after-ends : (ns : List ℕ) (h : ℕ) (rs : List ℕ) → Linked ns h rs → ends_after ns h rs ≡ true
unfolding Linked
linked-after-ends ns h [] l = eq-eqb h 0 l
linked-after-ends ns h (r ∷ rs) l = ends_next ns r rs ∙ linked-after-ends ns (at ns r) rs l.3

pub linked-ends : (ns : List ℕ) (h : ℕ) (rs : List ℕ) → Linked ns h rs → ends ns h ≡ true
linked-ends ns h rs l = rw (linked-chain ns h rs l) (linked-after-ends ns h rs l)
