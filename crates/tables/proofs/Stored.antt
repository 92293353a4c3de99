-- Stored columns: the tests column by column (`holds_at`, `holds-make`), one column's facts (`Holds`), soundness as facts (`SoundFor`), read up to the
-- order of the columns (`sound-bag`); which rows stand in a chain (`stands-is`) and that chains of rows lead to just these (`stands-chain`).
-- Assumes nothing.
use mathlib.Core.Path.{◌≡◌, refl, sym, subst}
use mathlib.Core.Logic.{inl, inr, ◌↔◌}
use mathlib.Core.Bool.{Bool, true, ◌&&◌}
use mathlib.Core.List.{List}
use Prim.Native.Nat.{ℕ, zero, suc, ◌+◌, ◌≤◌, ◌<◌}
use native.Mathlib.Omega.{arith}
use lib.Dec.{eqb}
use lib.ListN.{length}
use borrow.Author.Tests.{eqb-true, eq-eqb}
use Rattle.lists.specs.Lists.{Mem, all, at, values_at, all_zero, same}
use Rattle.lists.proofs.Tests.{eq-or-ne, and_both, both-and}
use Rattle.lists.proofs.Member.{same-eq, eq-same}
use Rattle.symbolic.specs.Columns.{Column, fits_rows}
use Rattle.symbolic.specs.Factor.{FactorColumn, factor_of, column_at, pattern_of, multiplicities_of, in_pattern}
use Rattle.symbolic.specs.Chains.{ChainTo}
use Rattle.symbolic.specs.Change.{Bag}
use Rattle.symbolic.proofs.Patterns.{in-pattern, pattern-in, pattern-holds}
use Rattle.symbolic.proofs.Theorems.{order-free, chain-rule}
use Rattle.pool.specs.Chains.{chain}
use Rattle.pool.specs.Whole.{is_whole, Pool}
use Rattle.pool.proofs.Whole.{whole-pool, pool-whole}
use Rattle.tables.specs.Stored.{Stored, records_of, holds_column, holds_from, free_zero, is_sound_for}

-- ---- column by column

module _ (s : Stored) (fs : List FactorColumn) where
  pub holds_at : (i n : ℕ) → holds_from s fs i n ≡ true → (j : ℕ) → i ≤ j → j < i + n → holds_column s j (column_at fs j) ≡ true
  unfolding holds_from
  holds_at i zero h j a b = absurd (omega arith)
  holds_at i (suc n) h j a b =
      let t : (holds_column s i (column_at fs i) ≡ true) × (holds_from s fs (suc i) n ≡ true) =
      and_both (holds_column s i (column_at fs i)) (holds_from s fs (suc i) n) h in
      elim (eq-or-ne i j) [
        | inl q ↦ subst (λ (x : ℕ). holds_column s x (column_at fs x) ≡ true) q t.0
        | inr q ↦ holds_at (suc i) n t.1 j (omega arith) (omega arith)
      ]

  pub holds-make : (i n : ℕ) → ((j : ℕ) → i ≤ j → j < i + n → holds_column s j (column_at fs j) ≡ true) → holds_from s fs i n ≡ true
  unfolding holds_from
  holds-make i zero h = refl
  holds-make i (suc n) h = both-and (h i (omega arith) (omega arith)) (holds-make (suc i) n (λ j a b. h j (omega arith) (omega arith)))

-- ---- one column, as facts

pub record Holds (s : Stored) (j : ℕ) (f : FactorColumn) : Type 0 where
  pub rows : values_at s.rows (records_of s j) ≡ pattern_of f
  pub counts : values_at s.counts (records_of s j) ≡ multiplicities_of f
  pub parent : at s.parents j ≡ f.parent

module _ (s : Stored) (j : ℕ) (f : FactorColumn) where
  pub column-holds : holds_column s j f ≡ true → Holds s j f
  column-holds h =
      let x : Bool = same (values_at s.rows (records_of s j)) (pattern_of f) in
      let y : Bool = same (values_at s.counts (records_of s j)) (multiplicities_of f) in
      let t : ((x && y) ≡ true) × (eqb (at s.parents j) f.parent ≡ true) = and_both (x && y) (eqb (at s.parents j) f.parent) h in
      let u : (x ≡ true) × (y ≡ true) = and_both x y t.0 in
      record {
        rows = same-eq (values_at s.rows (records_of s j)) (pattern_of f) u.0;
        counts = same-eq (values_at s.counts (records_of s j)) (multiplicities_of f) u.1;
        parent = eqb-true (at s.parents j) f.parent t.1;
      }

  pub holds-column : Holds s j f → holds_column s j f ≡ true
  holds-column h =
      both-and (both-and (eq-same h.rows) (eq-same h.counts)) (eq-eqb (at s.parents j) f.parent h.parent)

-- ---- soundness, as facts

pub record SoundFor (cs : List Column) (s : Stored) : Type 0 where
  pub pool : Pool s.next s.heads s.free
  pub zero-rows : all_zero (values_at s.rows (chain s.next s.free)) ≡ true
  pub zero-counts : all_zero (values_at s.counts (chain s.next s.free)) ≡ true
  pub column : (j : ℕ) → 1 ≤ j → j ≤ length s.heads → Holds s j (column_at (factor_of (length s.heads) cs) j)

module _ (cs : List Column) (s : Stored) where
  pub sound-facts : is_sound_for cs s ≡ true → SoundFor cs s
  sound-facts h =
      let w : Bool = is_whole s.next s.heads s.free in
      let a : Bool = all_zero (values_at s.rows (chain s.next s.free)) in
      let b : Bool = all_zero (values_at s.counts (chain s.next s.free)) in
      let f : Bool = holds_from s (factor_of (length s.heads) cs) 1 (length s.heads) in
      let t : ((w && (a && b)) ≡ true) × (f ≡ true) = and_both (w && (a && b)) f h in
      let u : (w ≡ true) × ((a && b) ≡ true) = and_both w (a && b) t.0 in
      let v : (a ≡ true) × (b ≡ true) = and_both a b u.1 in
      record {
        pool = whole-pool s.next s.heads s.free u.0;
        zero-rows = v.0;
        zero-counts = v.1;
        column = λ j p q. column-holds s j (column_at (factor_of (length s.heads) cs) j)
            (holds_at s (factor_of (length s.heads) cs) 1 (length s.heads) t.1 j p (omega arith));
      }

  pub facts-sound : SoundFor cs s → is_sound_for cs s ≡ true
  facts-sound h =
      both-and (both-and (pool-whole s.next s.heads s.free h.pool) (both-and h.zero-rows h.zero-counts))
      (holds-make s (factor_of (length s.heads) cs) 1 (length s.heads) (λ j p q.
      holds-column s j (column_at (factor_of (length s.heads) cs) j) (h.column j p (omega arith))))

  -- the stored columns alone
  pub sound-holds : is_sound_for cs s ≡ true → holds_from s (factor_of (length s.heads) cs) 1 (length s.heads) ≡ true
  sound-holds h = (and_both (is_whole s.next s.heads s.free && free_zero s) (holds_from s (factor_of (length s.heads) cs) 1 (length s.heads)) h).1

-- the order of the columns of A does not matter
pub sound-bag : (cs ds : List Column) (s : Stored) → Bag cs ds → is_sound_for cs s ≡ is_sound_for ds s
sound-bag cs ds s b = rw (order-free (length s.heads) cs ds b) refl

-- ---- which rows stand in a chain

module _ (m : ℕ) (cs : List Column) (s : Stored) (h : holds_from s (factor_of m cs) 1 m ≡ true) where
  pub stored-column : (j : ℕ) → 1 ≤ j → j ≤ m → Holds s j (column_at (factor_of m cs) j)
  stored-column j a b = column-holds s j (column_at (factor_of m cs) j) (holds_at s (factor_of m cs) 1 m h j a (omega arith))

  pub stands-is : (i j : ℕ) → 1 ≤ i → i ≤ m → 1 ≤ j → j ≤ m → Mem i (values_at s.rows (records_of s j)) ↔ (in_pattern (factor_of m cs) i j ≡ true)
  stands-is i j a b c d =
      let e : values_at s.rows (records_of s j) ≡ pattern_of (column_at (factor_of m cs) j) = (stored-column j c d).rows in (
        λ k. in-pattern (factor_of m cs) i j ((pattern-holds m cs j c d i a b).0 (subst (λ (l : List ℕ). Mem i l) e k)),
        λ k. subst (λ (l : List ℕ). Mem i l) (sym e) ((pattern-holds m cs j c d i a b).1 (pattern-in (factor_of m cs) i j k)),
      )

  -- "row i in column j exactly if a chain of rows leads there"
  pub stands-chain : all (fits_rows m) cs ≡ true → (i j : ℕ) → 1 ≤ j → j < i → i ≤ m → Mem i (values_at s.rows (records_of s j)) ↔ ChainTo m cs i j
  stands-chain fits i j a b d = (
    λ k. (chain-rule m cs fits i j a b d).0 ((stands-is i j (omega arith) d a (omega arith)).0 k),
    λ k. (stands-is i j (omega arith) d a (omega arith)).1 ((chain-rule m cs fits i j a b d).1 k),
  )
