-- A batch judged: it is refused, or its plan made in the work table. Stated over the change, for adding and removing alike.
-- Assumes nothing: these are definitions.
use Rattle.std.specs.Prelude.{◌≡◌, false, Result, IfOk, List, ℕ, ◌≤◌, length}
use Rattle.symbolic.specs.Factor.{factor_for}
use Rattle.symbolic.specs.Grades.{Limits}
use Rattle.pool.specs.Chains.{chain}
use Rattle.tables.specs.Tables.{Tables, tables_of}
use Rattle.calls.specs.Refusals.{Refusal, is_accepted}
use Rattle.calls.specs.Calls.{Change}
use Rattle.calls.specs.Changes.{effect, touched_by}
use Rattle.calls.specs.Steps.{World, booked_in}
use Rattle.refusals.specs.declared.Refused.{Refused}
use Rattle.refusals.specs.Found.{found_in}
use Rattle.updown.specs.Plans.{PlanIs}
use Rattle.updown.specs.declared.Plan.{Plan}
use Rattle.steps.specs.Outcome.{number_for, cut_world, CanFind}

-- a verdict: the plan, or what refuses it
abbrev pub Verdict : Type 0
Verdict = Result Plan Refused

-- its number and position
abbrev pub verdict_number : Verdict → Refusal
verdict_number x = found_in x

-- the plan of an accepted batch: from the register's factor to the one after the call
pub record BatchPlan (u : World) (c : Change) (before after : List ℕ) (x : Plan) : Type 0 where
  pub room : ℕ
  pub room_fits : room ≤ length (chain u.tables.next u.state.free)
  pub plan :
      PlanIs u.state.sizes.m u.state.sizes.f room (factor_for (booked_in u)) (factor_for (effect (booked_in u) c).register)
      (effect (booked_in u) c).label (touched_by (booked_in u) c) before after x.first.0 x.count x.entries x.used

-- the number is the change's; accepted, the plan stands in the work table; refused, that is as lent
pub record Judged (u : World) (c : Change) (before after : List ℕ) (x : Verdict) : Type 0 where
  pub number_is : verdict_number x ≡ number_for u c
  pub plan : IfOk x (BatchPlan u c before after)
  pub unchanged : is_accepted (number_for u c) ≡ false → after ≡ before

-- what an addition's search asks: limits, the book's rows and its windows are not read, any that suit will do
pub record SomeRows (heads parents rows counts next book_heads book_next : List ℕ) (clock free book_free : ℕ) (work : List ℕ) : Type 0 where
  pub limits : Limits
  pub book-rows : List ℕ
  pub windows : List ℕ
  pub can : CanFind (cut_world (tables_of heads parents rows counts next book_heads book-rows book_next windows) limits clock free book_free) work

-- what it promises: the verdict, whatever limits, book's rows and windows suit
abbrev pub AddJudged : (heads parents rows counts next book_heads book_next : List ℕ) (clock free book_free : ℕ) → Change → (before after : List ℕ) → Verdict → Type 0
AddJudged hs ps rs cs ns bh bn o f g k w v x =
    (h : Limits) (br ws : List ℕ) → CanFind (cut_world (tables_of hs ps rs cs ns bh br bn ws) h o f g) w → Judged (cut_world (tables_of hs ps rs cs ns bh br bn ws) h o f g) k w v x

-- what a removal's search asks: limits and the free heads are not read, any that suit will do
pub record SomeFree (t : Tables) (clock : ℕ) (work : List ℕ) : Type 0 where
  pub limits : Limits
  pub free : ℕ
  pub book-free : ℕ
  pub can : CanFind (cut_world t limits clock free book-free) work

-- what it promises: the verdict, whatever limits and free heads suit
abbrev pub RemoveJudged : Tables → (clock : ℕ) → Change → (before after : List ℕ) → Verdict → Type 0
RemoveJudged t o k w v x = (h : Limits) (f g : ℕ) → CanFind (cut_world t h o f g) w → Judged (cut_world t h o f g) k w v x
