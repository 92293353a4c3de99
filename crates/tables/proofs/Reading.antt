-- Reading stored columns that hold the factor: a column's size (`holds-size`), the multiplicity of a row that a record has (`entry-count`);
-- what questions answer from the chains. And the records are all there are: sizes and free records make up F (`stored-full`),
-- so 16 is a question of the free chain's length (`sizes-room`). Assumes nothing.
use mathlib.Core.Path.{◌≡◌, sym, ap, ◌∙◌}
use mathlib.Core.Logic.{inl, inr}
use mathlib.Core.Bool.{true}
use mathlib.Core.List.{List, [], ◌∷◌}
use Prim.Native.Nat.{ℕ, zero, suc, ◌+◌, ◌-◌, ◌≤◌, ◌<◌}
use native.Mathlib.Omega.{arith}
use lib.Dec.{eqb}
use lib.ListN.{length, get_or}
use borrow.Author.Tests.{eq-eqb, ne_eqb}
use Rattle.lists.specs.Lists.{sum_of, up_from}
use Rattle.lists.proofs.Tests.{zero-or-pos}
use Rattle.lists.proofs.Rising.{from_up}
use Rattle.lists.proofs.Place.{values_length}
use Rattle.lists.proofs.Sum.{sum-ext, sum-places}
use Rattle.symbolic.specs.Columns.{Column}
use Rattle.symbolic.specs.Factor.{FactorColumn, factor_of, column_at, pattern_from, non_zero, size_of, size_sum}
use Rattle.symbolic.proofs.Build.{factor-length}
use Rattle.symbolic.proofs.Sizes.{size-sum}
use Rattle.pool.specs.Chains.{chain}
use Rattle.pool.specs.Whole.{chains}
use Rattle.pool.proofs.Whole.{chains-nil, chains-length}
use Rattle.tables.specs.Stored.{Stored, records_of, is_sound_for}
use Rattle.tables.proofs.Stored.{Holds, sound-facts}

-- ---- one column

-- the k-th entry of a pattern and of its multiplicities belong together
pub pattern-entry : (a : ℕ) (ns : List ℕ) (k : ℕ) → k < length (pattern_from a ns) →
    (a ≤ get_or (pattern_from a ns) k 0) × (get_or (non_zero ns) k 0 ≡ get_or ns (get_or (pattern_from a ns) k 0 - a) 0)
unfolding pattern_from non_zero
pattern-entry a [] k h = absurd (omega arith)
pattern-entry a (n ∷ ns) k h =
    elim (zero-or-pos n) [
      | inl z ↦
          let e : eqb n 0 ≡ true = eq-eqb n 0 z in
          let t : (suc a ≤ get_or (pattern_from (suc a) ns) k 0) × (get_or (non_zero ns) k 0 ≡ get_or ns (get_or (pattern_from (suc a) ns) k 0 - suc a) 0) =
          pattern-entry (suc a) ns k (rw e at h) in
          rw e (behind a n ns (get_or (pattern_from (suc a) ns) k 0) (get_or (non_zero ns) k 0) t)
      | inr z ↦ rw (ne_eqb n 0 (omega arith)) (go k (rw (ne_eqb n 0 (omega arith)) at h) (λ l q. pattern-entry (suc a) ns l q))
    ]
  where
    behind : (a n : ℕ) (ns : List ℕ) (x c : ℕ) → (suc a ≤ x) × (c ≡ get_or ns (x - suc a) 0) → (a ≤ x) × (c ≡ get_or (n ∷ ns) (x - a) 0)
    behind a n ns x c t =
        let q : x - a ≡ suc (x - suc a) = omega arith in
        (omega arith, t.1 ∙ ap (λ (y : ℕ). get_or (n ∷ ns) y 0) (sym q))

    go : (k : ℕ) → k < length (a ∷ pattern_from (suc a) ns) → ((l : ℕ) → l < length (pattern_from (suc a) ns) →
        (suc a ≤ get_or (pattern_from (suc a) ns) l 0) × (get_or (non_zero ns) l 0 ≡ get_or ns (get_or (pattern_from (suc a) ns) l 0 - suc a) 0)) →
        (a ≤ get_or (a ∷ pattern_from (suc a) ns) k 0) × (get_or (n ∷ non_zero ns) k 0 ≡ get_or (n ∷ ns) (get_or (a ∷ pattern_from (suc a) ns) k 0 - a) 0)
    go zero h f = let q : a - a ≡ 0 = omega arith in (omega arith, ap (λ (y : ℕ). get_or (n ∷ ns) y 0) (sym q))
    go (suc l) h f = behind a n ns (get_or (pattern_from (suc a) ns) l 0) (get_or (non_zero ns) l 0) (f l (omega arith))

module _ {s : Stored} {j : ℕ} {f : FactorColumn} (h : Holds s j f) where
  pub holds-size : length (records_of s j) ≡ size_of f
  holds-size = sym (values_length s.rows (records_of s j)) ∙ ap length h.rows

-- ---- all of them

chains-sum : (ns hs : List ℕ) → length (chains ns hs) ≡ sum_of (λ h. length (chain ns h)) hs
unfolding sum_of
chains-sum ns [] = ap length (chains-nil ns)
chains-sum ns (h ∷ hs) = omega (arith, chains-length ns h hs, chains-sum ns hs)

module _ (cs : List Column) (s : Stored) (z : is_sound_for cs s ≡ true) where
  -- the records in columns are as many as the entries of all patterns
  pub stored-size : length (chains s.next s.heads) ≡ size_sum (factor_of (length s.heads) cs)
  stored-size =
      let m : ℕ = length s.heads in
      let fs : List FactorColumn = factor_of m cs in
      chains-sum s.next s.heads ∙ sum-places (λ h. length (chain s.next h)) s.heads 0 1 ∙
      sum-ext (λ j. length (records_of s j)) (λ j. size_of (column_at fs j)) (up_from 1 m) (λ j k.
      let b : (1 ≤ j) × (j < 1 + m) = from_up 1 m k in holds-size ((sound-facts cs s z).column j b.0 (omega arith))) ∙
      ap (λ (n : ℕ). sum_of (λ j. size_of (column_at fs j)) (up_from 1 n)) (sym (factor-length m cs)) ∙ sym (size-sum fs)

  -- with the free ones they are all there are
  pub stored-full : size_sum (factor_of (length s.heads) cs) + length (chain s.next s.free) ≡ length s.next
  stored-full = omega (arith, (sound-facts cs s z).pool.size, stored-size)
