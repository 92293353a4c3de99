-- `updown::children::cases_b_and_c` meets its contract: the loop's invariant is `Emptying`, for all columns that the tables suit; the measure is the length
-- of the queue left. Assumes nothing.
use mathlib.Core.Path.{◌∙◌, refl}
use mathlib.Core.List.{List}
use mathlib.Core.Logic.{◌≢◌, inl}
use Prim.Native.Nat.{ℕ, ◌+◌, ◌-◌, ◌*◌}
use native.Mathlib.Omega.{arith}
use lib.ListN.{length, set, length-set}
use Rattle.symbolic.specs.Columns.{Column}
use Rattle.pool.specs.Chains.{chain}
use Rattle.updown.specs.Queues.{links}
use Rattle.updown.specs.Turns.{waiting}
use Rattle.updown.specs.SoFar.{nobody}
use Rattle.updown.specs.Walks.{Turn, AtChild}
use Rattle.updown.specs.Views.{ColumnsIn, ParentsIn}
use Rattle.updown.proofs.AtChild.{child-kept, other-within}
use Rattle.updown.proofs.Draining.{Drain, turn-open, drain-open, drained-less}
use Rattle.updown.proofs.Emptying.{Emptying, emptying-start, emptying-child, child-drained, emptying-next, children-handled}
use Rattle.updown.proofs.children.cases_b_and_c.Statement.{statement}
use Rattle.updown.proofs.children.cases_b_and_c.Tie as tie

abbrev invariant-loop-c : tie.invariant-loop-c
invariant-loop-c columns work₀ m n j adding head c₀ l₀ work c l = (R W : List Column) (used : ℕ) → ColumnsIn columns m R W adding → ParentsIn columns m R W adding → Turn m R W adding work₀ j.0 used n j.0 nobody → Drain m work₀ j.0 c₀.0 (waiting m R W j.0 nobody) → Emptying m R W adding work₀ work j.0 used l j.0 c.0 nobody

abbrev decreases-loop-c : tie.decreases-loop-c
decreases-loop-c columns work₀ m n j adding head c₀ l₀ work c l = length (chain (links m work) c.0)

-- what holds at the loop's test, for the columns of the premise
hand : (c : tie.At-loop-c invariant-loop-c decreases-loop-c) →
    Emptying c.args.m c.requires.R c.requires.W c.args.adding (set c.args.work.now (5 * c.args.m + (c.args.j.0 - 1)) 0) c.loop-c.work
    c.args.j.0 c.requires.used c.loop-c.l c.args.j.0 c.loop-c.c.0 nobody
hand c =
    c.loop-c.invariant c.requires.R c.requires.W c.requires.used c.requires.columns c.requires.parents-hold
    (turn-open c.requires.turn c.args.j.0 (inl refl)) (drain-open c.requires.turn c.args.j.0 (inl refl))

-- the column at hand
child : (c : tie.At-loop-c invariant-loop-c decreases-loop-c) → c.loop-c.c.0 ≢ 0 →
    AtChild c.loop-c.work c.args.m c.requires.R c.requires.W c.args.adding c.args.j.0 c.requires.used c.loop-c.l c.args.j.0 c.loop-c.c.0 (hand c).handled
child c s = emptying-child c.requires.columns (hand c) s (inl refl)

mul-head : tie.Need-overflow_mul-head invariant-loop-c decreases-loop-c
mul-head c = omega arith

sub-head : tie.Need-overflow_sub-head invariant-loop-c decreases-loop-c
sub-head c = omega arith

cast-head : tie.Need-overflow_cast-head invariant-loop-c decreases-loop-c
cast-head c = omega arith

add-head : tie.Need-overflow_add-head invariant-loop-c decreases-loop-c
add-head c = omega arith

mul-t14 : tie.Need-offset_bounds-work-head invariant-loop-c decreases-loop-c
mul-t14 c = omega arith

slice-read-t15 : tie.Need-bounds-work-head invariant-loop-c decreases-loop-c
slice-read-t15 c = omega arith

mul-work : tie.Need-offset_bounds-work-head-2 invariant-loop-c decreases-loop-c
mul-work c = omega arith

slice-write-work : tie.Need-bounds-work-head-2 invariant-loop-c decreases-loop-c
slice-write-work c = omega arith

loop-holds : tie.Need-loop-c-init invariant-loop-c decreases-loop-c
loop-holds c = λ R W used k p t d. emptying-start t d

other-parent-requires : tie.Need-other_parent-other-requires invariant-loop-c decreases-loop-c
other-parent-requires c κs = let a = child c.before.before.before c.loop-c-test.true in (omega (arith, a.turn.long), a.narrow, a.low, a.high, c.requires.parents-hold.long)

case-b-or-c-requires : tie.Need-case_b_or_c-l-requires invariant-loop-c decreases-loop-c
case-b-or-c-requires c κs = record { R = c.requires.R; W = c.requires.W; j = c.args.j.0; used = c.requires.used; handled = (hand c.before.before.before.before.before.before.before).handled; columns = c.requires.columns; here = child c.before.before.before.before.before.before.before c.loop-c-test.true }

pass-on-requires : tie.Need-pass_on-c-requires invariant-loop-c decreases-loop-c
pass-on-requires c κs = let a = child c.before.before.before.before.before.before.before.before.before.before.before c.loop-c-test.true in let b = c.case_b_or_c-l.ensures _ _ _ _ _ c.requires.columns a (child-kept a (inl refl) c.requires.parents-hold c.other_parent-other.ensures) in (omega (arith, b.only.same_length, a.turn.long), a.narrow, a.low, a.high, other-within a (inl refl) c.requires.parents-hold _ c.other_parent-other.ensures)

loop-less : tie.Need-loop-c-smaller invariant-loop-c decreases-loop-c
loop-less c = let a = child c.before.before.before.before.before.before.before.before.before.before.before.before.before.before c.loop-c-test.true in drained-less a (inl refl) (hand c.before.before.before.before.before.before.before.before.before.before.before.before.before.before).drain (child-drained (hand c.before.before.before.before.before.before.before.before.before.before.before.before.before.before) a refl c.requires.parents-hold c.other_parent-other.ensures (c.case_b_or_c-l.ensures _ _ _ _ _ c.requires.columns a (child-kept a (inl refl) c.requires.parents-hold c.other_parent-other.ensures)) c.pass_on-c.ensures.0 c.pass_on-c.ensures.1)

loop-again : tie.Need-loop-c-preserved invariant-loop-c decreases-loop-c
loop-again c = λ R W used k p t d. let i = c.loop-c.invariant R W used k p t d in let a = emptying-child k i c.loop-c-test.true (inl refl) in emptying-next i a (inl refl) (child-drained i a refl p c.other_parent-other.ensures (c.case_b_or_c-l.ensures _ _ _ _ _ k a (child-kept a (inl refl) p c.other_parent-other.ensures)) c.pass_on-c.ensures.0 c.pass_on-c.ensures.1)

same_length : tie.Need-shape_of-work invariant-loop-c decreases-loop-c
same_length c = (hand c.before.before).same_length ∙ length-set c.args.work.now (5 * c.args.m + (c.args.j.0 - 1)) 0

returns : tie.Need-returns invariant-loop-c decreases-loop-c
returns c = λ R W used k p t. children-handled t (c.loop-c.invariant R W used k p (turn-open t c.args.j.0 (inl refl)) (drain-open t c.args.j.0 (inl refl))) c.loop-c-test.false

pub cases_b_and_c_spec : {M : Type 1} → statement M
cases_b_and_c_spec =
    tie.close
    (tie.spec
    invariant-loop-c
    decreases-loop-c
    mul-head
    sub-head
    cast-head
    add-head
    mul-t14
    slice-read-t15
    mul-work
    slice-write-work
    loop-holds
    other-parent-requires
    case-b-or-c-requires
    pass-on-requires
    loop-less
    loop-again
    same_length
    returns)
