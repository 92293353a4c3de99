-- The chain of column j, walked after those before it: the walk's test is that the chain ends, holds the definition's rows and multiplicities (fits-held), and
-- with those before has no more records than there are. So a walk that is cut means that the tables are not sound (column-cut), and one that ended found
-- the column (column-ended). Before that: what soundness says of the pool and of each column. Assumes nothing.
use mathlib.Core.Path.{◌≡◌, refl, sym, ap, subst, ◌∙◌}
use mathlib.Core.Logic.{inl, inr}
use mathlib.Core.Bool.{Bool, true, false, ◌&&◌}
use mathlib.Core.List.{List, ◌∷◌, ◌++◌}
use Prim.Native.Nat.{ℕ, zero, suc, ◌+◌, ◌-◌, ◌≤◌, ◌<◌}
use native.Mathlib.Omega.{arith}
use Rattle.std.specs.Prelude.{Option, Some, None}
use lib.Dec.{eqb}
use lib.ListN.{length, take, drop}
use lib.Seq.{split_at}
use Rattle.lists.specs.Lists.{at, same, values_at}
use Rattle.lists.proofs.Tests.{cases, eq-or-ne, and_both, both-and, refute}
use Rattle.workspace.specs.Regions.{region}
use Rattle.workspace.proofs.Regions.{region-length}
use Rattle.symbolic.specs.Columns.{Column}
use Rattle.symbolic.specs.Factor.{FactorColumn, factor_of, column_at, pattern_of, multiplicities_of}
use Rattle.pool.specs.declared.Rec.{Rec}
use Rattle.pool.specs.Chains.{Linked}
use Rattle.pool.specs.Whole.{chains, is_whole, Pool}
use Rattle.pool.specs.Ends.{last_from, chain_answer}
use Rattle.pool.proofs.Whole.{chains-mid-length, pool-linked, whole-pool}
use Rattle.book.specs.Book as book
use Rattle.tables.specs.Stored.{Stored, records_of, holds_column, holds_from, free_zero, is_sound_for}
use Rattle.soundness.specs.Fitting.{fits}
use Rattle.counting.specs.Given.{Counted, given_in}
use Rattle.soundness.specs.Checking.{chain_fits, Checked}
use Rattle.soundness.specs.State.{live_in, walked, State}
use Rattle.soundness.proofs.Fitting.{fits-same}
use Rattle.soundness.proofs.Checking.{FitParts, fit_parts, fit-make}
use Rattle.soundness.proofs.Ready.{ready-counters}

-- ---- what soundness says

pub holds_at : (s : Stored) (fs : List FactorColumn) (i n : ℕ) → holds_from s fs i n ≡ true → (c : ℕ) → i ≤ c → c < i + n → holds_column s c (column_at fs c) ≡ true
unfolding holds_from
holds_at s fs i zero h c p q = absurd (omega arith)
holds_at s fs i (suc n) h c p q =
    let t : (holds_column s i (column_at fs i) ≡ true) × (holds_from s fs (suc i) n ≡ true) = and_both (holds_column s i (column_at fs i)) (holds_from s fs (suc i) n) h in
    elim (eq-or-ne c i) [
      | inl e ↦ subst (λ (x : ℕ). holds_column s x (column_at fs x) ≡ true) (sym e) t.0
      | inr e ↦ holds_at s fs (suc i) n t.1 c (omega arith) (omega arith)
    ]

pub holds-make : (s : Stored) (fs : List FactorColumn) (i n : ℕ) → ((c : ℕ) → i ≤ c → c < i + n → holds_column s c (column_at fs c) ≡ true) → holds_from s fs i n ≡ true
unfolding holds_from
holds-make s fs i zero h = refl
holds-make s fs i (suc n) h = both-and (h i (omega arith) (omega arith)) (holds-make s fs (suc i) n (λ c p q. h c (omega arith) (omega arith)))

pub record SoundParts (cs : List Column) (s : Stored) : Type 0 where
  pub whole : is_whole s.next s.heads s.free ≡ true
  pub free-zero : free_zero s ≡ true
  pub holds : (c : ℕ) → 1 ≤ c → c ≤ length s.heads → holds_column s c (column_at (factor_of (length s.heads) cs) c) ≡ true

pub sound-parts : (cs : List Column) (s : Stored) → is_sound_for cs s ≡ true → SoundParts cs s
sound-parts cs s e =
    let L : List FactorColumn = factor_of (length s.heads) cs in
    let w : Bool = is_whole s.next s.heads s.free in
    let t : ((w && free_zero s) ≡ true) × (holds_from s L 1 (length s.heads) ≡ true) = and_both (w && free_zero s) (holds_from s L 1 (length s.heads)) e in
    let u : (w ≡ true) × (free_zero s ≡ true) = and_both w (free_zero s) t.0 in
    record { whole = u.0; free-zero = u.1; holds = λ c p q. holds_at s L 1 (length s.heads) t.1 c p (omega arith) }

-- in a whole pool, a column and those before it have no more records than there are
pub pool-room : (s : Stored) (j met : ℕ) → Pool s.next s.heads s.free → met ≡ length (chains s.next (walked s j)) → 1 ≤ j → j ≤ length s.heads →
    met + length (records_of s j) ≤ length s.next
pool-room s j met p e low high =
    let rest : List ℕ = drop (suc (j - 1)) s.heads in
    let cut : s.heads ≡ take (j - 1) s.heads ++ (at s.heads j ∷ rest) = split_at s.heads (j - 1) 0 (omega arith) in
    omega (arith, p.size, ap (λ (l : List ℕ). length (chains s.next l)) cut, chains-mid-length s.next (take (j - 1) s.heads) (at s.heads j) rest)

-- ---- column j

-- the chain holds the definition's rows and multiplicities
abbrev pub entries_held : Stored → (j : ℕ) → FactorColumn → Bool
entries_held s j f = same (values_at s.rows (records_of s j)) (pattern_of f) && same (values_at s.counts (records_of s j)) (multiplicities_of f)

-- a walk that ended, after the rows given were counted in w₁
pub record Found (s : Stored) (b : book.Book) (windows : List ℕ) (clock : ℕ) (w₁ : List ℕ) (j met n last : ℕ) : Type 0 where
  pub fitted : chain_fits s.rows s.counts s.next w₁ (length s.heads) met (at s.heads j) ≡ true
  pub count : n ≡ met + length (records_of s j)
  pub within : n ≤ length s.next
  pub last-is : last ≡ last_from s.next (at s.heads j)
  pub linked : Linked s.next (at s.heads j) (records_of s j)
  pub held : entries_held s j (column_at (factor_of (length s.heads) (live_in s b windows clock)) j) ≡ true

module _ {s : Stored} {b : book.Book} {windows : List ℕ} {clock : ℕ} {w : List ℕ} {j met : ℕ} (st : State s b windows clock w j met) (inside : j ≤ length s.heads)
    {w₁ : List ℕ} {size : ℕ} (d : Counted (length s.heads) w w₁ (given_in b.heads b.rows b.next w (length s.heads) (length s.next) j) size) where
  abbrev m : ℕ
  m = length s.heads

  abbrev column : FactorColumn
  column = column_at (factor_of (length s.heads) (live_in s b windows clock)) j

  abbrev head : ℕ
  head = at s.heads j

  fits-held : fits s.rows s.counts m (region w₁ 0 m) (records_of s j) ≡ entries_held s j column
  fits-held =
      fits-same s.rows s.counts m (region w₁ 0 m) (records_of s j) (region-length w₁ 0 m (omega (arith, st.sizes.long, d.only.same_length))) ∙
      ap (λ (ns : List ℕ). entries_held s j (record { counts = ns; parent = 0 })) (ready-counters st inside d)

  module _ {w₂ : List ℕ} {a : Option (ℕ × Rec)} (k : Checked s.rows s.counts s.next w₁ w₂ m met (at s.heads j) a) where
    pub column-cut : a ≡ None → is_sound_for (live_in s b windows clock) s ≡ false
    column-cut e =
        refute (is_sound_for (live_in s b windows clock) s) (λ t.
        (let p : SoundParts (live_in s b windows clock) s = sound-parts (live_in s b windows clock) s t in
        let pool : Pool s.next s.heads s.free = whole-pool s.next s.heads s.free p.whole in
        let h : (entries_held s j column ≡ true) × (eqb (at s.parents j) column.parent ≡ true) =
        and_both (entries_held s j column) (eqb (at s.parents j) column.parent) (p.holds j st.low inside) in
        let y : chain_fits s.rows s.counts s.next w₁ m met head ≡ true =
        fit-make s.rows s.counts s.next w₁ m met head (pool-linked pool j st.low inside) (fits-held ∙ h.0) (pool-room s j met pool st.chains-walked.counted st.low inside) in
        let z : None ≡ chain_answer true met s.next head = sym e ∙ k.answer ∙ ap (λ (x : Bool). chain_answer x met s.next head) y in
        let o : ◌≡◌ {A = ℕ} 0 1 = cc in omega arith))

    pub column-ended : {n : ℕ} {last : Rec} → a ≡ Some (n, last) → Found s b windows clock w₁ j met n last.0
    column-ended {n} {last} e =
        elim (cases (chain_fits s.rows s.counts s.next w₁ m met head)) [
          | inl y ↦
              let z : Some (n, last) ≡ chain_answer true met s.next head = sym e ∙ k.answer ∙ ap (λ (x : Bool). chain_answer x met s.next head) y in
              let both : (n, last) ≡ (met + length (records_of s j), record { 0 = last_from s.next head }) = cc in
              let p : FitParts s.rows s.counts s.next w₁ m met head = fit_parts s.rows s.counts s.next w₁ m met head y in
              record {
                fitted = y;
                count = ap (λ (x : ℕ × Rec). x.0) both;
                within = omega (arith, p.room, ap (λ (x : ℕ × Rec). x.0) both);
                last-is = ap (λ (x : ℕ × Rec). x.1.0) both;
                linked = p.linked;
                held = sym fits-held ∙ p.fitting;
              }
          | inr y ↦
              let z : Some (n, last) ≡ chain_answer false met s.next head = sym e ∙ k.answer ∙ ap (λ (x : Bool). chain_answer x met s.next head) y in
              absurd (let o : ◌≡◌ {A = ℕ} 0 1 = cc in omega arith)
        ]
