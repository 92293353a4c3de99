-- `updown::walks::walk_add` meets its contract: at the loop's test the walk is between two turns or has stopped, for all columns that the tables and the list
-- suit; the measure is the rows left. Assumes nothing.
use Rattle.updown.proofs.Looping.{Looping, loop-begins, loop-stops, loop-ends, loop-on, listed_start, listed-turning}
use Rattle.updown.proofs.Turned.{turning-ready, family-ready, plan-ready, step-ready, turned}
use Rattle.updown.proofs.Seeking.{rows_left, rows-fewer, seeking-take}
use Rattle.updown.specs.Starts.{CanWalkListed}
use Rattle.pool.specs.Chains.{chain}
use Rattle.symbolic.specs.Columns.{Column}
use lib.ListN.{length}
use Prim.Native.Nat.{ℕ}
use mathlib.Core.List.{List}
use mathlib.Core.Bool.{true}
use mathlib.Core.Path.{◌≡◌, sym, ◌∙◌}
use borrow.Author.Rules.{rules}
use Rattle.updown.proofs.walks.walk_add.Statement.{statement}
use Rattle.updown.proofs.walks.walk_add.Tie as tie

abbrev invariant-loop-walk : tie.invariant-loop-walk
invariant-loop-walk columns work₀ row_counts row_list starts m flags walk₀ work walk =
    (R W : List Column) (lent : List ℕ) (free : ℕ) → walk₀.avail.0 ≡ free → CanWalkListed columns.heads.now columns.parents.now columns.rows.now columns.counts.now columns.next.now lent work₀ starts row_counts row_list m flags free R W →
    Looping columns.next.now lent work m flags (length (chain columns.next.now free)) R W true walk.fits walk.first.0 walk.last.0 walk.count walk.entries walk.used walk.avail.0

abbrev decreases-loop-walk : tie.decreases-loop-walk
decreases-loop-walk columns work₀ row_counts row_list starts m flags walk₀ work walk = rows_left m walk.fits walk.last.0

walk-from-requires : tie.Need-walk_from-walk-requires invariant-loop-walk decreases-loop-walk
walk-from-requires c κs = search rules

loop-holds : tie.Need-loop-walk-init invariant-loop-walk decreases-loop-walk
loop-holds c = λ R W lent free e can. let t = c.walk_from-walk.ensures in loop-begins can.walk (t.0, t.1, t.2, t.3, t.4, t.5, e)

take-column-requires : tie.Need-take_column-j-requires invariant-loop-walk decreases-loop-walk
take-column-requires c κs =
    let can = c.requires.can in
    let l = c.loop-walk.invariant c.requires.R c.requires.W c.requires.work₀ c.args.free.0 c.walk_from-walk.ensures.6 can in
    seeking-take can.walk.setting (l.onward c.loop-walk-test.true)

same_length : tie.Need-shape_of-work-then-j-eq0 invariant-loop-walk decreases-loop-walk
same_length c =
    let can = c.requires.can in
    let l = c.loop-walk.invariant c.requires.R c.requires.W c.requires.work₀ c.args.free.0 c.walk_from-walk.ensures.6 can in
    ((loop-ends can.walk l c.loop-walk-test.true c.take_column-j.ensures c.if-j-eq0.true).made c.loop-walk-test.true).walking.same_length ∙ sym can.walk.walking.same_length

returns : tie.Need-returns-then-j-eq0 invariant-loop-walk decreases-loop-walk
returns c = λ R W lent can. loop-ends can.walk (c.loop-walk.invariant R W lent c.args.free.0 c.walk_from-walk.ensures.6 can) c.loop-walk-test.true c.take_column-j.ensures c.if-j-eq0.true

case-a-listed-requires : tie.Need-case_a_listed-n-requires invariant-loop-walk decreases-loop-walk
case-a-listed-requires c κs =
    let can = c.requires.can in
    let l = c.loop-walk.invariant c.requires.R c.requires.W c.requires.work₀ c.args.free.0 c.walk_from-walk.ensures.6 can in
    listed_start can l c.loop-walk-test.true c.take_column-j.ensures c.if-j-eq0.false

cases-b-and-c-requires : tie.Need-cases_b_and_c-n-requires invariant-loop-walk decreases-loop-walk
cases-b-and-c-requires c κs =
    let can = c.requires.can in
    let l = c.loop-walk.invariant c.requires.R c.requires.W c.requires.work₀ c.args.free.0 c.walk_from-walk.ensures.6 can in
    turning-ready can.walk.setting (listed-turning can l c.loop-walk-test.true c.take_column-j.ensures c.if-j-eq0.false c.case_a_listed-n.ensures)

case-d-requires : tie.Need-case_d-n-requires invariant-loop-walk decreases-loop-walk
case-d-requires c κs =
    let can = c.requires.can in
    let l = c.loop-walk.invariant c.requires.R c.requires.W c.requires.work₀ c.args.free.0 c.walk_from-walk.ensures.6 can in
    family-ready can.walk.setting (listed-turning can l c.loop-walk-test.true c.take_column-j.ensures c.if-j-eq0.false c.case_a_listed-n.ensures)
    c.cases_b_and_c-n.ensures

write-plan-requires : tie.Need-write_plan-e-requires invariant-loop-walk decreases-loop-walk
write-plan-requires c κs =
    let can = c.requires.can in
    let l = c.loop-walk.invariant c.requires.R c.requires.W c.requires.work₀ c.args.free.0 c.walk_from-walk.ensures.6 can in
    plan-ready can.walk.setting (listed-turning can l c.loop-walk-test.true c.take_column-j.ensures c.if-j-eq0.false c.case_a_listed-n.ensures)
    c.cases_b_and_c-n.ensures c.case_d-n.ensures

step-up-requires : tie.Need-step_up-walk-requires invariant-loop-walk decreases-loop-walk
step-up-requires c κs =
    let can = c.requires.can in
    let l = c.loop-walk.invariant c.requires.R c.requires.W c.requires.work₀ c.args.free.0 c.walk_from-walk.ensures.6 can in
    step-ready can.walk.setting (listed-turning can l c.loop-walk-test.true c.take_column-j.ensures c.if-j-eq0.false c.case_a_listed-n.ensures)
    c.cases_b_and_c-n.ensures c.case_d-n.ensures c.write_plan-e.ensures

loop-less : tie.Need-loop-walk-smaller invariant-loop-walk decreases-loop-walk
loop-less c =
    let u = c.step_up-walk.ensures in
    rows-fewer c.loop-walk.walk.fits c.step_up-walk.result.fits c.loop-walk-test.true c.take_column-j.ensures c.if-j-eq0.false (λ x. u.last-is (sym u.fits-is ∙ x))

loop-again : tie.Need-loop-walk-preserved invariant-loop-walk decreases-loop-walk
loop-again c = λ R W lent free e can.
    let l = c.loop-walk.invariant R W lent free e can in
    let t = listed-turning can l c.loop-walk-test.true c.take_column-j.ensures c.if-j-eq0.false c.case_a_listed-n.ensures in
    loop-on can.walk l c.loop-walk-test.true c.take_column-j.ensures c.if-j-eq0.false t
    (turned can.walk.setting t c.cases_b_and_c-n.ensures c.case_d-n.ensures c.write_plan-e.ensures
    c.step_up-walk.ensures)

same-length-2 : tie.Need-shape_of-work invariant-loop-walk decreases-loop-walk
same-length-2 c =
    let can = c.requires.can in
    let l = c.loop-walk.invariant c.requires.R c.requires.W c.requires.work₀ c.args.free.0 c.walk_from-walk.ensures.6 can in
    (l.halted c.loop-walk-test.false).1.same_length ∙ sym can.walk.walking.same_length

returns-2 : tie.Need-returns invariant-loop-walk decreases-loop-walk
returns-2 c = λ R W lent can. loop-stops (c.loop-walk.invariant R W lent c.args.free.0 c.walk_from-walk.ensures.6 can) c.loop-walk-test.false

pub walk_add_spec : {M : Type 1} → statement M
walk_add_spec =
    tie.close
    (tie.spec
    invariant-loop-walk
    decreases-loop-walk
    walk-from-requires
    loop-holds
    take-column-requires
    same_length
    returns
    case-a-listed-requires
    cases-b-and-c-requires
    case-d-requires
    write-plan-requires
    step-up-requires
    loop-less
    loop-again
    same-length-2
    returns-2)
