-- `updown::children::case_d` meets its contract: the loop's invariant is `Emptying`, for all columns that the tables suit; the measure is the length of
-- the queue left. Assumes nothing.
use mathlib.Core.Path.{refl, ◌∙◌}
use mathlib.Core.List.{List}
use mathlib.Core.Logic.{◌≢◌, inr}
use Prim.Native.Nat.{ℕ, ◌+◌, ◌-◌, ◌*◌}
use native.Mathlib.Omega.{arith}
use lib.ListN.{length, set, length-set}
use Rattle.symbolic.specs.Columns.{Column}
use Rattle.pool.specs.Chains.{chain}
use Rattle.updown.specs.Queues.{links}
use Rattle.updown.specs.Turns.{waiting}
use Rattle.updown.specs.SoFar.{children}
use Rattle.updown.specs.Walks.{Turn, AtChild}
use Rattle.updown.specs.Views.{ColumnsIn}
use Rattle.updown.proofs.Draining.{Drain, turn-lost, drained-less}
use Rattle.updown.proofs.Emptying.{Emptying, emptying-start, emptying-child, emptying-next, lost-open, lost-drain, family-handled}
use Rattle.updown.proofs.children.case_d.Statement.{statement}
use Rattle.updown.proofs.children.case_d.Tie as tie

abbrev invariant-loop-c : tie.invariant-loop-c
invariant-loop-c columns work₀ m n adding head c₀ l₀ work c l = (R W : List Column) (j used : ℕ) → ColumnsIn columns m R W adding → Turn m R W adding work₀ j used n (m + j) (children m R W j) → Drain m work₀ (m + j) c₀.0 (waiting m R W j (children m R W j)) → Emptying m R W adding work₀ work j used l (m + j) c.0 (children m R W j)

abbrev decreases-loop-c : tie.decreases-loop-c
decreases-loop-c columns work₀ m n adding head c₀ l₀ work c l = length (chain (links m work) c.0)

-- what holds at the loop's test, for the columns of the premise
hand : (c : tie.At-loop-c invariant-loop-c decreases-loop-c) →
    Emptying c.args.m c.requires.R c.requires.W c.args.adding (set c.args.work.now (6 * c.args.m + (c.args.j.0 - 1)) 0) c.loop-c.work
    c.args.j.0 c.requires.used c.loop-c.l (c.args.m + c.args.j.0) c.loop-c.c.0 (children c.args.m c.requires.R c.requires.W c.args.j.0)
hand c =
    c.loop-c.invariant c.requires.R c.requires.W c.args.j.0 c.requires.used c.requires.columns (lost-open c.requires.turn) (lost-drain c.requires.turn)

-- the column at hand
child : (c : tie.At-loop-c invariant-loop-c decreases-loop-c) → c.loop-c.c.0 ≢ 0 →
    AtChild c.loop-c.work c.args.m c.requires.R c.requires.W c.args.adding c.args.j.0 c.requires.used c.loop-c.l (c.args.m + c.args.j.0) c.loop-c.c.0 (hand c).handled
child c s = emptying-child c.requires.columns (hand c) s (inr refl)

mul-head : tie.Need-overflow_mul-head invariant-loop-c decreases-loop-c
mul-head c = omega arith

sub-head : tie.Need-overflow_sub-head invariant-loop-c decreases-loop-c
sub-head c = omega arith

cast-head : tie.Need-overflow_cast-head invariant-loop-c decreases-loop-c
cast-head c = omega arith

add-head : tie.Need-overflow_add-head invariant-loop-c decreases-loop-c
add-head c = omega arith

mul-t13 : tie.Need-offset_bounds-work-head invariant-loop-c decreases-loop-c
mul-t13 c = omega arith

slice-read-t14 : tie.Need-bounds-work-head invariant-loop-c decreases-loop-c
slice-read-t14 c = omega arith

mul-work : tie.Need-offset_bounds-work-head-2 invariant-loop-c decreases-loop-c
mul-work c = omega arith

slice-write-work : tie.Need-bounds-work-head-2 invariant-loop-c decreases-loop-c
slice-write-work c = omega arith

loop-holds : tie.Need-loop-c-init invariant-loop-c decreases-loop-c
loop-holds c = λ R W j used k t d. emptying-start t d

lost-child-requires : tie.Need-lost_child-l-requires invariant-loop-c decreases-loop-c
lost-child-requires c κs = record { R = c.requires.R; W = c.requires.W; j = c.args.j.0; used = c.requires.used; handled = (hand c.before.before.before).handled; columns = c.requires.columns; here = child c.before.before.before c.loop-c-test.true }

mul-i : tie.Need-overflow_mul-i invariant-loop-c decreases-loop-c
mul-i c = let a = child c.before.before.before.before.before.before c.loop-c-test.true in omega (arith, a.low, a.high, a.narrow)

sub-i : tie.Need-overflow_sub-i invariant-loop-c decreases-loop-c
sub-i c = let a = child c.before.before.before.before.before.before.before c.loop-c-test.true in omega (arith, a.low, a.high, a.narrow)

cast-i : tie.Need-overflow_cast-i invariant-loop-c decreases-loop-c
cast-i c = let a = child c.before.before.before.before.before.before.before c.loop-c-test.true in omega (arith, a.low, a.high, a.narrow)

add-i : tie.Need-overflow_add-i invariant-loop-c decreases-loop-c
add-i c = let a = child c.before.before.before.before.before.before.before c.loop-c-test.true in omega (arith, a.low, a.high, a.narrow)

mul-t21 : tie.Need-offset_bounds-work-i invariant-loop-c decreases-loop-c
mul-t21 c = let a = child c.before.before.before.before.before.before.before c.loop-c-test.true in omega (arith, a.low, a.high, a.narrow)

slice-read-t22 : tie.Need-bounds-work-i invariant-loop-c decreases-loop-c
slice-read-t22 c = let a = child c.before.before.before.before.before.before.before.before c.loop-c-test.true in let b = c.lost_child-l.ensures _ _ _ _ _ c.requires.columns a in omega (arith, a.low, a.high, a.narrow, a.turn.long, b.only.same_length)

mul-work-2 : tie.Need-offset_bounds-work-i-in-loop-c invariant-loop-c decreases-loop-c
mul-work-2 c = let a = child c.before.before.before.before.before.before.before.before c.loop-c-test.true in let b = c.lost_child-l.ensures _ _ _ _ _ c.requires.columns a in omega (arith, a.low, a.high, a.narrow, a.turn.long, b.only.same_length)

slice-write-work-2 : tie.Need-bounds-work-i-in-loop-c invariant-loop-c decreases-loop-c
slice-write-work-2 c = let a = child c.before.before.before.before.before.before.before.before c.loop-c-test.true in let b = c.lost_child-l.ensures _ _ _ _ _ c.requires.columns a in omega (arith, a.low, a.high, a.narrow, a.turn.long, b.only.same_length)

loop-less : tie.Need-loop-c-smaller invariant-loop-c decreases-loop-c
loop-less c = let a = child c.before.before.before.before.before.before.before.before c.loop-c-test.true in drained-less a (inr refl) (hand c.before.before.before.before.before.before.before.before).drain (turn-lost a (inr refl) (hand c.before.before.before.before.before.before.before.before).drain (c.lost_child-l.ensures _ _ _ _ _ c.requires.columns a) refl)

loop-again : tie.Need-loop-c-preserved invariant-loop-c decreases-loop-c
loop-again c = λ R W j used k t d. let i = c.loop-c.invariant R W j used k t d in let a = emptying-child k i c.loop-c-test.true (inr refl) in emptying-next i a (inr refl) (turn-lost a (inr refl) i.drain (c.lost_child-l.ensures _ _ _ _ _ k a) refl)

same_length : tie.Need-shape_of-work invariant-loop-c decreases-loop-c
same_length c = (hand c.before.before).same_length ∙ length-set c.args.work.now (6 * c.args.m + (c.args.j.0 - 1)) 0

returns : tie.Need-returns invariant-loop-c decreases-loop-c
returns c = λ R W used k t. family-handled t (c.loop-c.invariant R W c.args.j.0 used k (lost-open t) (lost-drain t)) c.loop-c-test.false

pub case_d_spec : {M : Type 1} → statement M
case_d_spec =
    tie.close
    (tie.spec
    invariant-loop-c
    decreases-loop-c
    mul-head
    sub-head
    cast-head
    add-head
    mul-t13
    slice-read-t14
    mul-work
    slice-write-work
    loop-holds
    lost-child-requires
    mul-i
    sub-i
    cast-i
    add-i
    mul-t21
    slice-read-t22
    mul-work-2
    slice-write-work-2
    loop-less
    loop-again
    same_length
    returns)
