-- The report: what is written is the report of the columns done (`Reporting`), and the plans stand in the work table, which is only read. Start, what
-- one turn reads and writes, end. Assumes nothing.
use mathlib.Core.Path.{◌≡◌, refl, sym, ap, ◌∙◌, subst}
use mathlib.Core.Logic.{◌⊎◌, ◌≢◌}
use mathlib.Core.List.{List, [], ◌∷◌, ◌++◌}
use Prim.Native.Nat.{ℕ, suc, ◌+◌, ◌-◌, ◌≤◌, ◌<◌}
use native.Mathlib.Omega.{arith}
use lib.ListN.{length, set, length-append}
use Rattle.lists.specs.Lists.{over}
use Rattle.lists.proofs.Rising.{rises-length}
use Rattle.lists.proofs.Place.{over-push, over-length}
use Rattle.symbolic.specs.Factor.{FactorColumn}
use Rattle.workspace.specs.Regions.{cell}
use Rattle.updown.specs.Plans.{label_in}
use Rattle.workspace.specs.Layout.{marks_at, next_at, plan_at}
use Rattle.commit.specs.Report.{labels_for, CanReport, Reported}
use Rattle.commit.proofs.Standing.{Standing, Ahead, standing-start, standing-next, standing-end}

-- ---- labels

labels-more : (f : ℕ → ℕ) (js : List ℕ) (j : ℕ) → labels_for f (js ++ (j ∷ [])) ≡ labels_for f js ++ (f j ∷ [])
unfolding labels_for
labels-more f [] j = refl
labels-more f (x ∷ js) j = ap (λ (l : List ℕ). f x ∷ l) (labels-more f js j)

labels_length : (f : ℕ → ℕ) (js : List ℕ) → length (labels_for f js) ≡ length js
unfolding labels_for
labels_length f [] = refl
labels_length f (x ∷ js) = ap suc (labels_length f js)

labels-none : (f : ℕ → ℕ) → labels_for f [] ≡ []
unfolding labels_for
labels-none f = refl

-- ---- the invariant

pub record Reporting (m : ℕ) (L L' : List FactorColumn) (label : ℕ → ℕ) (columns work : List ℕ) (used : ℕ) (touched₀ labels₀ touched labels : List ℕ) (j t : ℕ) : Type 0 where
  pub done : List ℕ
  pub start : ℕ
  pub standing : Standing m L L' label work columns used j done start
  pub counted : t ≡ length done
  pub reported : Reported label done touched₀ labels₀ touched labels

-- what holds at a column: its number, its place in the report, the lists' lengths, the column after it
pub record AtReport (m : ℕ) (work touched labels : List ℕ) (j t : ℕ) : Type 0 where
  pub low : 1 ≤ j
  pub high : j ≤ m
  pub bound : m ≤ 4096
  pub few : t < m
  pub work-long : plan_at m ≤ length work
  pub touched-long : m ≤ length touched
  pub labels-long : m ≤ length labels
  pub rises : (cell work (next_at m) (j - 1) ≡ 0) ⊎ ((j < cell work (next_at m) (j - 1)) × (cell work (next_at m) (j - 1) ≤ m))

module _ {m : ℕ} {L L' : List FactorColumn} {label : ℕ → ℕ} {columns work touched₀ labels₀ : List ℕ} {first used : ℕ}
    (can : CanReport m L L' label columns work touched₀ labels₀ first used) where
  pub reporting-start : Reporting m L L' label columns work used touched₀ labels₀ touched₀ labels₀ first 0
  reporting-start =
      record {
        done = [];
        start = 0;
        standing = standing-start can.first-is can.plans;
        counted = refl;
        reported = record { touched-is = refl; labels-is = sym (ap (λ (l : List ℕ). over l labels₀) (labels-none label)) };
      }

  module _ {touched labels : List ℕ} {j t : ℕ} (i : Reporting m L L' label columns work used touched₀ labels₀ touched labels j t) where
    done-few : length i.done ≤ m
    done-few = omega (arith, rises-length 1 m columns (omega arith) can.rising, ap length i.standing.parts, length-append i.done i.standing.rest)

    pub reporting-touched : length touched ≡ length touched₀
    reporting-touched = ap length i.reported.touched-is ∙ over-length i.done touched₀ (omega (arith, done-few, can.touched-long))

    pub reporting-labels : length labels ≡ length labels₀
    reporting-labels =
        ap length i.reported.labels-is ∙ over-length (labels_for label i.done) labels₀ (omega (arith, done-few, can.labels-long, labels_length label i.done))

    -- all is reported
    pub reporting-end : j ≡ 0 → Reported label columns touched₀ labels₀ touched labels
    reporting-end z = subst (λ (js : List ℕ). Reported label js touched₀ labels₀ touched labels) (standing-end can.rising i.standing z) i.reported

    -- ---- a turn

    module _ (n : j ≢ 0) where
      ahead : Ahead m L L' label work columns used j i.done i.start
      ahead = standing-next can.rising i.standing n

      pub at-report : AtReport m work touched labels j t
      at-report =
          record {
            low = ahead.low;
            high = ahead.high;
            bound = can.m-bound;
            few = omega (arith, ahead.few, i.counted);
            work-long = can.long;
            touched-long = omega (arith, reporting-touched, can.touched-long);
            labels-long = omega (arith, reporting-labels, can.labels-long);
            rises = ahead.after;
          }

      pub reporting-turn :
          Reporting m L L' label columns work used touched₀ labels₀ (set touched t j) (set labels t (label_in (cell work (marks_at m) (j - 1))))
          (cell work (next_at m) (j - 1)) (t + 1)
      reporting-turn =
          let d : List ℕ = i.done in
          record {
            done = d ++ (j ∷ []);
            start = ahead.end;
            standing = ahead.next;
            counted = omega (arith, i.counted, length-append d (j ∷ []));
            reported = record {
              touched-is =
                  ap (λ (l : List ℕ). set l t j) i.reported.touched-is ∙
                  over-push d touched₀ t j (sym i.counted) (omega (arith, can.touched-long, ahead.few, i.counted));
              labels-is =
                  ap (λ (l : List ℕ). set l t (label_in (cell work (marks_at m) (j - 1)))) i.reported.labels-is ∙
                  ap (λ (v : ℕ). set (over (labels_for label d) labels₀) t v) ahead.plan.label_is ∙
                  over-push (labels_for label d) labels₀ t (label j) (labels_length label d ∙ sym i.counted) (omega (arith, can.labels-long, ahead.few, i.counted)) ∙
                  sym (ap (λ (l : List ℕ). over l labels₀) (labels-more label d j));
            };
          }
