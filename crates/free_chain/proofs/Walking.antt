-- The free chain walked record by record: the loop's invariant (so many steps lead to where it stands, and which record came last), its start, one more
-- record, and each of its ends, which decides whether the chain has just k records and the last has row 0. Assumes nothing.
use mathlib.Core.Path.{◌≡◌, refl, sym, ap, subst, ◌∙◌}
use mathlib.Core.Logic.{inl, inr, ◌≢◌}
use mathlib.Core.Bool.{true}
use mathlib.Core.List.{List, [], ◌∷◌}
use Prim.Native.Nat.{ℕ, ◌+◌, ◌-◌, ◌≤◌, ◌<◌}
use native.Mathlib.Omega.{arith}
use native.Mathlib.Numerals.{add-one}
use lib.Dec.{eqb}
use lib.ListN.{length, get_or}
use borrow.Author.Tests.{eq-eqb, eqb-true}
use Rattle.lists.specs.Lists.{at, Decides}
use Rattle.lists.proofs.Tests.{zero-or-pos}
use Rattle.pool.specs.Chains.{chain, last_of, Linked}
use Rattle.pool.specs.Ends.{last_from}
use Rattle.pool.specs.Free.{FreeHas}
use Rattle.pool.proofs.Chains.{linked-chain, linked-end, linked-head, linked-self}
use Rattle.free_chain.specs.Pieces.{Leads}
use Rattle.free_chain.proofs.Leading.{passed, passed_length, leads-none, leads_one, leads-join, leads-linked, passed-last, linked-rest}

-- n steps lead from the head to r, and the last record passed is known. Of rows nothing is known on the way: those of an empty table are all 0
pub record Walking (rows next : List ℕ) (k head r last n : ℕ) : Type 0 where
  pub within : n ≤ k
  pub fits : r < 4294967296
  pub leads : Leads [] next n head r
  pub last-is : last ≡ last_of 0 (passed n next head)
  pub high : last ≤ length next
  pub none : last ≡ 0 → n ≡ 0
  pub some : n ≡ 0 → last ≡ 0

pub walking_start : (rs ns : List ℕ) (k h : ℕ) → h < 4294967296 → Walking rs ns k h h 0 0
unfolding passed last_of
walking_start rs ns k h f = record { within = omega arith; fits = f; leads = leads-none [] ns h; last-is = refl; high = omega arith; none = λ e. refl; some = λ e. refl }

empty : (ns : List ℕ) (r : ℕ) (ts : List ℕ) → length ts ≡ 0 → Linked ns r ts → r ≡ 0
unfolding Linked
empty ns r [] e l = l
empty ns r (t ∷ ts) e l = absurd (omega arith)

module _ {rs ns : List ℕ} {k h r z n : ℕ} (w : Walking rs ns k h r z n) where
  -- one record more
  pub walking-next : n < k → r ≢ 0 → r ≤ length ns → at ns r < 4294967296 → Walking rs ns k h (at ns r) r (n + 1)
  walking-next more p q f =
      record {
        within = omega arith;
        fits = f;
        leads = leads-join [] ns n 1 h r (at ns r) w.leads (leads_one [] ns r (omega arith) q (λ e. refl));
        last-is = rw (add-one n) (sym (passed-last [] ns n h r w.leads));
        high = q;
        none = λ e. absurd (p e);
        some = λ e. absurd (omega arith);
      }

  -- what is left of a chain of k records
  left : FreeHas rs ns h k → (ts : List ℕ) × Linked ns r ts × (k ≡ n + length ts)
  left f =
      let t : (ts : List ℕ) × Linked ns r ts × (length (chain ns h) ≡ n + length ts) =
      linked-rest [] ns n h r (chain ns h) f.linked w.leads (omega (arith, w.within, f.size)) in
      (t.0, t.1, omega (arith, t.2, f.size))

  -- it ends too soon, leaves the pool, or goes on
  pub walking-short : n < k → r ≡ 0 → FreeHas rs ns h k → ⊥
  walking-short more e f =
      let t : (ts : List ℕ) × Linked ns r ts × (k ≡ n + length ts) = left f in
      omega (arith, t.2, ap length (linked-end ns r t.0 e t.1))

  pub walking-out : length ns < r → FreeHas rs ns h k → ⊥
  walking-out out f = let t : (ts : List ℕ) × Linked ns r ts × (k ≡ n + length ts) = left f in omega (arith, linked-head ns r t.0 t.1)

  pub walking-long : k ≤ n → r ≢ 0 → FreeHas rs ns h k → ⊥
  walking-long full p f =
      let t : (ts : List ℕ) × Linked ns r ts × (k ≡ n + length ts) = left f in
      p (empty ns r t.0 (omega (arith, t.2)) t.1)

  module _ (full : k ≤ n) (e : r ≡ 0) where
    same : n ≡ k
    same = omega (arith, w.within)

    whole : Leads [] ns k h 0
    whole = subst (λ (x : ℕ). Leads [] ns x h 0) same (subst (λ (x : ℕ). Leads [] ns n h x) e w.leads)

    records : chain ns h ≡ passed k ns h
    records = linked-chain ns h (passed k ns h) (leads-linked [] ns k h whole)

    last : z ≡ last_from ns h
    last = w.last-is ∙ ap (λ (x : ℕ). last_of 0 (passed x ns h)) same ∙ ap (last_of 0) (sym records)

    has : (1 ≤ k → at rs z ≡ 0) → FreeHas rs ns h k
    has f =
        record {
          linked = linked-self ns h (passed k ns h) (leads-linked [] ns k h whole);
          size = ap length records ∙ passed_length k ns h;
          zero = λ p. subst (λ (x : ℕ). at rs x ≡ 0) last (f p);
        }

    -- it ends in time: with no record, or with one of row 0
    pub walking-empty : z ≡ 0 → Decides (FreeHas rs ns h k) true
    walking-empty q = record { yes = λ a. has (λ p. absurd (omega (arith, w.none q))); no = λ f. refl }

    some-record : z ≢ 0 → 1 ≤ k
    some-record q = elim (zero-or-pos k) [ inl p ↦ absurd (q (w.some (same ∙ p))) | inr p ↦ p ]

    pub walking-ended : z ≢ 0 → Decides (FreeHas rs ns h k) (eqb (get_or rs (z - 1) 0) 0)
    walking-ended q =
        record {
          yes = λ a. has (λ p. eqb-true (at rs z) 0 a);
          no = λ f. eq-eqb (at rs z) 0 (subst (λ (x : ℕ). at rs x ≡ 0) (sym last) (f.zero (some-record q)));
        }
