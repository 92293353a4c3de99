-- The work on column j: its turn begun (`Begun`); after A its children and lost children handled and its plan written, as one (`Worked`). Assumes nothing.
use mathlib.Core.Path.{◌≡◌, ◌∙◌}
use mathlib.Core.Logic.{inl, inr, ◌≢◌}
use mathlib.Core.Bool.{Bool, true}
use mathlib.Core.List.{List}
use Prim.Native.Nat.{ℕ, suc, ◌+◌, ◌-◌, ◌*◌, ◌≤◌}
use native.Mathlib.Omega.{arith}
use lib.ListN.{length, get_or}
use Rattle.symbolic.specs.Columns.{Column}
use Rattle.symbolic.specs.Batch.{is_touched}
use Rattle.workspace.specs.Regions.{cell, Outside, IsZero}
use Rattle.workspace.specs.Layout.{marks_at, starts_at, children_at, lost_at, plan_at, flag_count}
use Rattle.emission.specs.declared.Emission.{Emission}
use Rattle.updown.specs.Marks.{Room, Flagged}
use Rattle.updown.specs.Queues.{Queues}
use Rattle.updown.specs.Turns.{larger, before, after, label_at, done, standing, waiting, PlansTo}
use Rattle.updown.specs.SoFar.{children, family}
use Rattle.updown.specs.Walks.{Turn, TurnTo, TurnDone}
use Rattle.updown.specs.States.{MarksHold, Busy, Planned}
use Rattle.updown.proofs.Queueing.{queues-frame}

-- ---- the turn begun

-- the turn of j has begun: the plans so far go on to j, and j's own starts
pub record Begun (m flags : ℕ) (R W : List Column) (adding : Bool) (work₀ work : List ℕ) (j used : ℕ) : Type 0 where
  pub low : 1 ≤ j
  pub high : j ≤ m
  pub touched : is_touched (larger m R W) W j ≡ true
  pub room : Room m flags work
  pub plan-room : plan_at m + used ≤ flags
  pub same_length : length work ≡ length work₀
  pub zero : IsZero work₀ 0 (plan_at m)
  pub flags-zero : IsZero work₀ flags flag_count
  pub plans : PlansTo m (before adding m R W) (after adding m R W) (label_at m R W) work (done m R W j) 0 j used
  pub starts : cell work (starts_at m) (j - 1) ≡ used
  pub marks : MarksHold m R W work j
  pub flagged : Flagged m flags work (j - 1)
  pub queues : Queues m work j 0 (standing m R W j)
  pub rest : (k : ℕ) → (Busy m flags used (done m R W (suc j)) j k → ⊥) → get_or work k 0 ≡ get_or work₀ k 0

-- ---- from A to the plan

pub record Worked (next before-work after-work : List ℕ) (m : ℕ) (R W : List Column) (adding : Bool) (j used avail : ℕ) (e : Emission) : Type 0 where
  -- the work table after D
  pub work : List ℕ
  pub planned : Planned next work after-work m R W adding j used avail e
  pub queues : Queues m after-work j 0 (waiting m R W j (family m R W j))
  pub same_length : length after-work ≡ length before-work
  pub still : (k : ℕ) → marks_at m ≤ k → Outside (lost_at m) (2 * m) k → k ≢ children_at m + (j - 1) → Outside (plan_at m + used) (e.used - used) k → get_or after-work k 0 ≡ get_or before-work k 0

pub worked : {next w w₁ w₂ w₃ : List ℕ} {m : ℕ} {R W : List Column} {adding : Bool} {j used n n' avail : ℕ} {e : Emission} → TurnTo m R W adding w w₁ j used n (children m R W j) →
    TurnDone m R W adding w₁ w₂ j used n' → Planned next w₂ w₃ m R W adding j used avail e → Worked next w w₃ m R W adding j used avail e
worked {w₂ = w₂} {w₃} {m} {R} {W} {adding} {j} {used} {n' = n'} a b p =
    let t : Turn m R W adding w₂ j used n' 0 (family m R W j) = b.goes.turn in
    record {
      work = w₂;
      planned = p;
      queues = queues-frame m w₂ w₃ (omega (arith, t.long)) p.same_length t.queues t.low (omega (arith, t.high)) (λ k x y. p.frame k (inr (omega arith)) (inl (omega arith)));
      same_length = p.same_length ∙ b.goes.same_length ∙ a.same_length;
      still = λ k x y z u. p.frame k (inr (omega arith)) u ∙ b.goes.still k x y z ∙ a.still k x y z;
    }
