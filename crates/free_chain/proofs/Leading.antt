-- Steps of `next` that lead from record to record: joined, along records that follow one another, and to the chain's end, where they are the chain. Assumes
-- nothing.
use mathlib.Core.Path.{◌≡◌, refl, sym, ap, subst, ◌∙◌}
use mathlib.Core.List.{List, [], ◌∷◌}
use Prim.Native.Nat.{ℕ, zero, suc, ◌+◌, ◌-◌, ◌≤◌, ◌<◌}
use native.Mathlib.Omega.{arith}
use lib.ListN.{length, get_or}
use Rattle.lists.specs.Lists.{at}
use Rattle.pool.specs.Chains.{chain, last_of, Linked}
use Rattle.pool.specs.Free.{FreeHas}
use Rattle.pool.proofs.Chains.{linked-chain}
use Rattle.free_chain.specs.Pieces.{Leads, RunsTo}

-- the records that n steps pass
unfoldable pub passed : ℕ → (next : List ℕ) → (from : ℕ) → List ℕ
passed zero ns a = []
passed (suc n) ns a = a ∷ passed n ns (at ns a)

pub passed_length : (n : ℕ) (ns : List ℕ) (a : ℕ) → length (passed n ns a) ≡ n
unfolding passed
passed_length zero ns a = refl
passed_length (suc n) ns a = ap suc (passed_length n ns (at ns a))

module _ (rs ns : List ℕ) where
  -- no step
  pub leads-none : (a : ℕ) → Leads rs ns 0 a a
  unfolding Leads
  leads-none a = refl

  -- one step
  pub leads_one : (a : ℕ) → 1 ≤ a → a ≤ length ns → (at ns a ≡ 0 → at rs a ≡ 0) → Leads rs ns 1 a (at ns a)
  unfolding Leads
  leads_one a p q z = (p, q, z, refl)

  pub leads-join : (n k a b c : ℕ) → Leads rs ns n a b → Leads rs ns k b c → Leads rs ns (n + k) a c
  unfolding Leads
  leads-join zero k a b c l m = subst (λ (n : ℕ). Leads rs ns n a c) (plus k) (subst (λ (x : ℕ). Leads rs ns k x c) (sym l) m)
    where
      plus : (k : ℕ) → k ≡ zero + k
      plus k = omega arith
  leads-join (suc n) k a b c l m =
      subst (λ (x : ℕ). Leads rs ns x a c) (plus n k) (l.0, l.1, l.2, leads-join n k (at ns a) b c l.3 m)
    where
      plus : (n k : ℕ) → suc (n + k) ≡ suc n + k
      plus n k = omega arith

  -- ---- to the end: the records passed are the chain, and the last has row 0

  pub leads-linked : (n a : ℕ) → Leads rs ns n a 0 → Linked ns a (passed n ns a)
  unfolding Leads passed Linked
  leads-linked zero a l = l
  leads-linked (suc n) a l = (refl, l.0, l.1, leads-linked n (at ns a) l.3)

  -- the last record passed on the way to b is the one before it
  pub passed-last : (n a b : ℕ) → Leads rs ns n a b → last_of 0 (passed (suc n) ns a) ≡ b
  unfolding Leads passed last_of
  passed-last zero a b l = l
  passed-last (suc n) a b l = passed-last n (at ns a) b l.3

  leads-zero : (n a : ℕ) → Leads rs ns (suc n) a 0 → at rs (last_of 0 (passed (suc n) ns a)) ≡ 0
  unfolding Leads passed last_of
  leads-zero zero a l = l.2 l.3
  leads-zero (suc n) a l = leads-zero n (at ns a) l.3

  last-zero : (n a : ℕ) → Leads rs ns n a 0 → 1 ≤ n → at rs (last_of 0 (passed n ns a)) ≡ 0
  last-zero zero a l h = absurd (omega arith)
  last-zero (suc n) a l h = leads-zero n a l

  pub leads-free : (n a : ℕ) → Leads rs ns n a 0 → FreeHas rs ns a n
  leads-free n a l =
      let k : Linked ns a (passed n ns a) = leads-linked n a l in
      let e : chain ns a ≡ passed n ns a = linked-chain ns a (passed n ns a) k in
      record {
        linked = rw e k;
        size = ap length e ∙ passed_length n ns a;
        zero = λ h. rw e (last-zero n a l h);
      }

  -- ---- a run, and the step after it

  rising : (n i : ℕ) → i + n < length ns → ((j : ℕ) → i ≤ j → j < i + n → get_or ns j 0 ≡ j + 2) → Leads rs ns n (i + 1) (i + n + 1)
  unfolding Leads
  rising zero i h f = omega arith
  rising (suc n) i h f =
      let e : get_or ns (i + 1 - 1) 0 ≡ suc i + 1 = subst (λ (x : ℕ). get_or ns x 0 ≡ suc i + 1) (back i) (f i (omega arith) (omega arith) ∙ two i) in
      let r : Leads rs ns n (suc i + 1) (suc i + n + 1) = rising n (suc i) (omega arith) (λ j p q. f j (omega arith) (omega arith)) in (
        omega arith,
        omega arith,
        λ z. absurd (omega arith),
        subst (λ (x : ℕ). Leads rs ns n x (i + suc n + 1)) (sym e) (subst (λ (x : ℕ). Leads rs ns n (suc i + 1) x) (on i n) r),
      )
    where
      back : (i : ℕ) → i ≡ i + 1 - 1
      back i = omega arith

      two : (i : ℕ) → i + 2 ≡ suc i + 1
      two i = omega arith

      on : (i n : ℕ) → suc i + n + 1 ≡ i + suc n + 1
      on i n = omega arith

  pub leads-run : {i e : ℕ} → RunsTo ns i e → Leads rs ns (e - i) (i + 1) (e + 1)
  leads-run {i} {e} r =
      let b : i + (e - i) ≡ e = omega arith in
      subst (λ (x : ℕ). Leads rs ns (e - i) (i + 1) (x + 1)) b (rising (e - i) i (omega arith) (λ j p q. r.rising j p (omega arith)))

-- ---- beside a chain that is linked

-- the rest of it, after n steps
pub linked-rest : (rs ns : List ℕ) (n a b : ℕ) (ks : List ℕ) → Linked ns a ks → Leads rs ns n a b → n ≤ length ks → (ts : List ℕ) × Linked ns b ts × (length ks ≡ n + length ts)
unfolding Leads Linked
linked-rest rs ns zero a b ks l m h = (ks, subst (λ (x : ℕ). Linked ns x ks) m l, omega arith)
linked-rest rs ns (suc n) a b [] l m h = absurd (omega arith)
linked-rest rs ns (suc n) a b (k ∷ ks) l m h =
    let t : (ts : List ℕ) × Linked ns b ts × (length ks ≡ n + length ts) =
    linked-rest rs ns n (at ns a) b ks (subst (λ (x : ℕ). Linked ns (at ns x) ks) (sym l.0) l.3) m.3 (omega arith) in
    (t.0, t.1, omega (arith, t.2))
