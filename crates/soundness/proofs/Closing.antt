-- After a column's chain fitted: its second row is its parent (closing-parent, closing-second), so another parent means that the tables are not sound
-- (closing-differs); and what the code asks from there on. What is stored then: proofs/Storing.antt. Assumes nothing.
use mathlib.Core.Path.{◌≡◌, ap, ◌∙◌}
use mathlib.Core.Logic.{inl, inr, ◌≢◌}
use mathlib.Core.Bool.{true, false}
use mathlib.Core.List.{List, ◌∷◌}
use Prim.Native.Nat.{ℕ, suc, ◌+◌, ◌*◌, ◌-◌, ◌≤◌}
use native.Mathlib.Omega.{arith}
use Rattle.std.specs.Prelude.{Option, None}
use lib.Dec.{eqb}
use lib.ListN.{length, get_or}
use borrow.Author.Tests.{eqb-true}
use Rattle.lists.specs.Lists.{at, same, values_at, rises}
use Rattle.lists.proofs.Tests.{and_both, refute}
use Rattle.lists.proofs.Member.{same-eq}
use Rattle.workspace.specs.Layout.{work_need, row_stash}
use Rattle.workspace.specs.Regions.{region}
use Rattle.symbolic.specs.Factor.{FactorColumn, factor_of, column_at, parent_of, pattern_of, multiplicities_of}
use Rattle.symbolic.proofs.Patterns.{pattern-parts}
use Rattle.symbolic.proofs.Theorems.{parent_above}
use Rattle.pool.proofs.Apart.{last_within}
use Rattle.pool.specs.declared.Rec.{Rec}
use Rattle.book.specs.Book as book
use Rattle.tables.specs.Stored.{Stored, records_of, is_sound_for}
use Rattle.counting.specs.Counting.{CanLink}
use Rattle.counting.specs.Given.{Counted, given_in}
use Rattle.soundness.specs.Checking.{ChainRead, Checked}
use Rattle.soundness.specs.State.{live_in, State, SomeState, WithinWork, ColumnsRead}
use Rattle.soundness.proofs.Column.{SoundParts, sound-parts, entries_held, Found}

-- ---- what the code asks after a chain fitted

pub record CloseFacts (s : Stored) (b : book.Book) (w₂ : List ℕ) (j met n last : ℕ) : Type 0 where
  pub met-within : met ≤ n
  pub within : n ≤ length s.next
  pub last-in : last ≤ length s.next
  pub low : 1 ≤ j
  pub inside : j ≤ length s.heads
  pub long : work_need (length s.heads) (length b.heads) (length s.next) (length b.next) ≤ length w₂
  pub m-bound : length s.heads ≤ 4096
  pub f-bound : length s.next ≤ 1048576
  pub parents-long : length s.parents ≡ length s.heads

-- ---- a column that is not the definition's

module _ {s : Stored} {b : book.Book} {w : List ℕ} {j met : ℕ} (some : SomeState s b w j met)
    {w₁ : List ℕ} {size : ℕ} (d : Counted (length s.heads) w w₁ (given_in b.heads b.rows b.next w (length s.heads) (length s.next) j) size)
    {w₂ : List ℕ} {a : Option (ℕ × Rec)} (k : Checked s.rows s.counts s.next w₁ w₂ (length s.heads) met (at s.heads j) a) where
  pub walk-only : WithinWork s b w w₂
  walk-only =
      record {
        same_length = k.only.same_length ∙ d.only.same_length;
        outside = λ x o. elim o [
          | inl h ↦ absurd (omega arith)
          | inr h ↦ k.only.outside x (inr (omega arith)) (inr (omega arith)) ∙ d.only.outside x (inr (omega arith))
        ];
      }

  pub closing-cut : (l : ℕ) → ((windows : List ℕ) (clock : ℕ) → State s b windows clock w j met → is_sound_for (live_in s b windows clock) s ≡ false) →
      ColumnsRead s b w j met w₂ l None
  closing-cut l h =
      record { only = walk-only; cut = λ _. h; next = λ n t. absurd (let z : ◌≡◌ {A = ℕ} 0 1 = cc in omega arith) }

-- ---- the parent

module _ {s : Stored} {b : book.Book} {windows : List ℕ} {clock : ℕ} {w : List ℕ} {j met : ℕ} (st : State s b windows clock w j met) (inside : j ≤ length s.heads) {w₁ : List ℕ} {n last : ℕ} (found : Found s b windows clock w₁ j met n last) where
  abbrev m : ℕ
  m = length s.heads

  abbrev f : ℕ
  f = length s.next

  abbrev L : List FactorColumn
  L = factor_of (length s.heads) (live_in s b windows clock)

  pattern-is : values_at s.rows (records_of s j) ≡ pattern_of (column_at L j)
  pattern-is =
      same-eq (values_at s.rows (records_of s j)) (pattern_of (column_at L j))
      (and_both (same (values_at s.rows (records_of s j)) (pattern_of (column_at L j))) (same (values_at s.counts (records_of s j)) (multiplicities_of (column_at L j))) found.held).0

  pub closing-parent : get_or (values_at s.rows (records_of s j)) 1 0 ≡ parent_of L j
  closing-parent =
      let t : (rest : List ℕ) × (pattern_of (column_at L j) ≡ j ∷ rest) × (rises (suc j) m rest ≡ true) × (get_or rest 0 0 ≡ parent_of L j) = pattern-parts m (live_in s b windows clock) j st.low inside in
      ap (λ (l : List ℕ). get_or l 1 0) (pattern-is ∙ t.1) ∙ t.3

  pub closing-within : parent_of L j ≤ m
  closing-within = elim (parent_above m (live_in s b windows clock) j st.low inside) [ inl e ↦ omega arith | inr e ↦ e.1 ]

  pub closing-differs : at s.parents j ≢ parent_of L j → is_sound_for (live_in s b windows clock) s ≡ false
  closing-differs d =
      refute (is_sound_for (live_in s b windows clock) s) (λ t.
      (let p : SoundParts (live_in s b windows clock) s = sound-parts (live_in s b windows clock) s t in
      d (eqb-true (at s.parents j) (parent_of L j) (and_both (entries_held s j (column_at L j)) (eqb (at s.parents j) (parent_of L j)) (p.holds j st.low inside)).1)))

  -- ---- the table

  module _ {size : ℕ} (d : Counted (length s.heads) w w₁ (given_in b.heads b.rows b.next w (length s.heads) (length s.next) j) size)
      {w₂ : List ℕ} {a : Option (ℕ × Rec)} (k : Checked s.rows s.counts s.next w₁ w₂ (length s.heads) met (at s.heads j) a) where
    pub chain-read : ChainRead s.rows s.next w₁ w₂ m met (at s.heads j)
    chain-read = k.read found.fitted

    pub closing-length : length w₂ ≡ length w
    closing-length = k.only.same_length ∙ d.only.same_length

    -- the rows of the chain, in the stash
    pub closing-second : (x e : ℕ) → x ≡ row_stash m f + met → e ≡ row_stash m f + n → get_or (region w₂ x (e - x)) 1 0 ≡ parent_of L j
    closing-second x e p q =
        let l : e - x ≡ length (records_of s j) = omega (arith, found.count) in
        ap (λ (z : ℕ). get_or (region w₂ x z) 1 0) l ∙ ap (λ (z : ℕ). get_or (region w₂ z (length (records_of s j))) 1 0) p ∙ ap (λ (z : List ℕ). get_or z 1 0) chain-read.stash ∙ closing-parent

    pub closing-facts : CloseFacts s b w₂ j met n last
    closing-facts =
        record {
          met-within = omega (arith, found.count);
          within = found.within;
          last-in = omega (arith, found.last-is, last_within s.next (at s.heads j) (records_of s j) found.linked);
          low = st.low;
          inside = inside;
          long = omega (arith, closing-length, st.sizes.long);
          m-bound = st.sizes.m-bound;
          f-bound = st.sizes.f-bound;
          parents-long = st.sizes.stored.parents-long;
        }

    pub closing-link : (p : ℕ) → p ≡ parent_of L j → CanLink w₂ m (2 * m) p j
    closing-link p e =
        record {
          low = st.low;
          head_in = λ h. omega (arith, closing-within, closing-length, st.sizes.long);
          next-in = omega (arith, closing-length, st.sizes.long);
        }
