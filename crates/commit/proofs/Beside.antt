-- A plan beside other places: it stands in a work table that is changed in a region behind it, as it is when touched columns are gathered
-- (`plan-beside`). Assumes nothing.
use mathlib.Core.Path.{◌≡◌, sym, ◌∙◌, subst}
use mathlib.Core.Logic.{inl, inr}
use mathlib.Core.Bool.{true}
use mathlib.Core.List.{List, [], ◌∷◌}
use Prim.Native.Nat.{ℕ, ◌+◌, ◌-◌, ◌≤◌, ◌<◌}
use native.Mathlib.Omega.{arith}
use Rattle.lists.specs.Lists.{Mem, first, later, rises}
use Rattle.lists.proofs.Rising.{rises-in}
use Rattle.symbolic.specs.Factor.{FactorColumn, column_at}
use Rattle.workspace.specs.Regions.{cell, region, OnlyIn}
use Rattle.workspace.specs.Layout.{marks_at, starts_at, next_at, plan_at}
use Rattle.workspace.specs.Planned.{new_kind}
use Rattle.workspace.proofs.Regions.{place-cases, only-region}
use Rattle.columns.specs.Plan.{planned, Suits, of_kind}
use Rattle.updown.specs.Plans.{label_in, ColumnPlan, PlansFrom, PlanIs}
use Rattle.commit.proofs.Standing.{plans-within}

module _ (m : ℕ) (L L' : List FactorColumn) (label : ℕ → ℕ) (used : ℕ) {a n : ℕ} {w w' : List ℕ} (o : OnlyIn a n w w') (behind : plan_at m + used ≤ a) where
  -- a place before the region
  same-cell : (b i : ℕ) → b + i < a → cell w' b i ≡ cell w b i
  same-cell b i h = o.outside (b + i) (inl h)

  column-beside : {j start end next : ℕ} → 1 ≤ j → j ≤ m → end ≤ used → ColumnPlan m L L' label w j start end next → ColumnPlan m L L' label w' j start end next
  column-beside {j} {start} {end} p q u c =
      let mark : cell w' (marks_at m) (j - 1) ≡ cell w (marks_at m) (j - 1) = same-cell (marks_at m) (j - 1) (omega arith) in
      let entries : region w' (plan_at m + start) (end - start) ≡ region w (plan_at m + start) (end - start) =
      only-region o (plan_at m + start) (end - start) (inr (omega (arith, c.rises))) in
      record {
        rises = c.rises;
        label_is = subst (λ (x : ℕ). label_in x ≡ label j) (sym mark) c.label_is;
        parent_is = rw mark c.parent_is;
        starts = same-cell (starts_at m) (j - 1) (omega arith) ∙ c.starts;
        next-is = same-cell (next_at m) (j - 1) (omega arith) ∙ c.next-is;
        suits = subst (λ (l : List ℕ). Suits (column_at L j).counts j l) (sym entries) c.suits;
        becomes = subst (λ (l : List ℕ). planned (column_at L j).counts l ≡ (column_at L' j).counts) (sym entries) c.becomes;
      }

  plans-beside : (js : List ℕ) (start : ℕ) → ((j : ℕ) → Mem j js → (1 ≤ j) × (j ≤ m)) → PlansFrom m L L' label w js start used → PlansFrom m L L' label w' js start used
  unfolding PlansFrom
  plans-beside [] start within p = p
  plans-beside (j ∷ js) start within p =
      let b : (1 ≤ j) × (j ≤ m) = within j first in (
        p.0,
        (
          column-beside b.0 b.1 (plans-within m L L' label w js used js p.0 p.1.1) p.1.0,
          plans-beside js p.0 (λ l h. within l (later h)) p.1.1,
        ),
      )

-- the plan from another work table before it, that agrees with the one before elsewhere and with the changed one in the region
pub plan-beside : {m f free : ℕ} {L L' : List FactorColumn} {label : ℕ → ℕ} {columns before before' w w' : List ℕ} {first count entries used a n : ℕ} →
    PlanIs m f free L L' label columns before w first count entries used → rises 1 m columns ≡ true → plan_at m + used ≤ a → OnlyIn a n w w' →
    OnlyIn a n before before' → ((i : ℕ) → i < n → cell w' a i ≡ cell before' a i) → PlanIs m f free L L' label columns before' w' first count entries used
plan-beside {m} {f} {free} {L} {L'} {label} {columns} {before} {before'} {w} {w'} {used = used} {a} {n} p rising behind o q same =
    record {
      same_length = o.same_length ∙ p.same_length ∙ sym q.same_length;
      plans = plans-beside m L L' label used o behind columns 0 (λ j h. rises-in {x = j} 1 m h rising) p.plans;
      first-is = p.first-is;
      count-is = p.count-is;
      entries-is = p.entries-is;
      room = p.room;
      new-fit = subst (λ (l : List ℕ). of_kind new_kind l ≤ free) (sym (only-region o (plan_at m) used (inr behind))) p.new-fit;
      clean = λ k h. elim (place-cases a n k) [
        | inl s ↦ o.outside k s ∙ p.clean k h ∙ sym (q.outside k s)
        | inr t ↦ rw t.2 (same t.0 t.1)
      ];
    }
