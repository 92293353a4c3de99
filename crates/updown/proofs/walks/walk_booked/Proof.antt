-- `updown::walks::walk_booked` meets its contract: at the loop's test the walk is between two turns or has stopped, for all columns that the tables and the book
-- suit; the measure is the rows left. Assumes nothing.
use Rattle.updown.proofs.Looping.{Looping, loop-begins, loop-stops, loop-ends, loop-on, booked-start, booked-turning}
use Rattle.updown.proofs.Turned.{Turning, turning-ready, family-ready, plan-ready, step-ready, turned}
use Rattle.updown.proofs.Seeking.{rows_left, rows-fewer, seeking-take}
use Rattle.updown.specs.Starts.{CanWalkBooked}
use Rattle.pool.specs.Chains.{chain}
use Rattle.symbolic.specs.Columns.{Column}
use lib.ListN.{length}
use Prim.Native.Nat.{ℕ}
use mathlib.Core.List.{List}
use mathlib.Core.Path.{◌≡◌, sym, ◌∙◌}
use borrow.Author.Rules.{rules}
use Rattle.updown.proofs.walks.walk_booked.Statement.{statement}
use Rattle.updown.proofs.walks.walk_booked.Tie as tie

abbrev invariant-loop-walk : tie.invariant-loop-walk
invariant-loop-walk columns book work₀ ids starts m flags adding walk₀ work walk =
    (R W : List Column) (lent : List ℕ) (free : ℕ) → walk₀.avail.0 ≡ free → CanWalkBooked columns.heads.now columns.parents.now columns.rows.now columns.counts.now columns.next.now book.heads.now book.rows.now book.next.now lent work₀ starts ids m flags free R W adding →
    Looping columns.next.now lent work m flags (length (chain columns.next.now free)) R W adding walk.fits walk.first.0 walk.last.0 walk.count walk.entries walk.used walk.avail.0

abbrev decreases-loop-walk : tie.decreases-loop-walk
decreases-loop-walk columns book work₀ ids starts m flags adding walk₀ work walk = rows_left m walk.fits walk.last.0

-- ---- places: the start, the loop's test, and before each call the call before it

abbrev start : tie.At-loop-walk invariant-loop-walk decreases-loop-walk → tie.Start invariant-loop-walk decreases-loop-walk
start c = c.before.before.before.before.before

-- ---- what holds there, for columns that can enter or leave with the free records that the walk began with

abbrev Goes : (c : tie.At-loop-walk invariant-loop-walk decreases-loop-walk) (R W : List Column) (lent : List ℕ) (free : ℕ) → Type 0
Goes c R W lent free =
    let s = c.args in
    (c.walk_from-walk.result.avail.0 ≡ free) ×
    CanWalkBooked s.columns.heads.now s.columns.parents.now s.columns.rows.now s.columns.counts.now s.columns.next.now s.book.heads.now s.book.rows.now s.book.next.now lent s.work.now s.starts.now s.ids.now s.m s.flags free R W s.adding

-- those of the premise
given : (c : tie.At-loop-walk invariant-loop-walk decreases-loop-walk) → Goes c c.requires.R c.requires.W c.requires.work₀ c.args.free.0
given c = (c.walk_from-walk.ensures.6, c.requires.can)

-- the loop's test
looping : (c : tie.At-loop-walk invariant-loop-walk decreases-loop-walk) {R W : List Column} {lent : List ℕ} {free : ℕ} → Goes c R W lent free →
    let s = c.args in
    let l = c.loop-walk.walk in
    Looping s.columns.next.now lent c.loop-walk.work s.m s.flags (length (chain s.columns.next.now free)) R W s.adding
    l.fits l.first.0 l.last.0 l.count l.entries l.used l.avail.0
looping c {R} {W} {lent} {free} h = c.loop-walk.invariant R W lent free h.0 h.1

-- the turn after A
turning : (c : tie.After-cases_b_and_c-arg-1 invariant-loop-walk decreases-loop-walk) {R W : List Column} {lent : List ℕ} {free : ℕ} → Goes c.before.before.before.before.before.before.before.before.before.before.before.before.before R W lent free →
    let s = c.args in
    let l = c.loop-walk.walk in
    Turning s.columns.next.now lent c.case_a_booked-n.new.work s.m s.flags R W s.adding (length (chain s.columns.next.now free)) c.case_a_booked-n.result
    c.take_column-j.result.0 l.first.0 l.last.0 l.count l.entries l.used l.avail.0
turning c h =
    booked-turning h.1 (looping c.before.before.before.before.before.before.before.before.before.before.before.before.before h) c.loop-walk-test.true c.take_column-j.ensures c.if-j-eq0.false c.case_a_booked-n.ensures

walk-from-requires : tie.Need-walk_from-walk-requires invariant-loop-walk decreases-loop-walk
walk-from-requires c κs = search rules

loop-holds : tie.Need-loop-walk-init invariant-loop-walk decreases-loop-walk
loop-holds c = λ R W lent free e can. let t = c.walk_from-walk.ensures in loop-begins can.walk (t.0, t.1, t.2, t.3, t.4, t.5, e)

take-column-requires : tie.Need-take_column-j-requires invariant-loop-walk decreases-loop-walk
take-column-requires c κs =
    let h = given c.before.before.before in
    seeking-take h.1.walk.setting ((looping c.before.before.before h).onward c.loop-walk-test.true)

same_length : tie.Need-shape_of-work-then-j-eq0 invariant-loop-walk decreases-loop-walk
same_length c =
    let h = given c.before.before.before.before.before.before.before.before in
    ((loop-ends h.1.walk (looping c.before.before.before.before.before.before.before.before h) c.loop-walk-test.true c.take_column-j.ensures c.if-j-eq0.true).made c.loop-walk-test.true).walking.same_length ∙ sym h.1.walk.walking.same_length

returns : tie.Need-returns-then-j-eq0 invariant-loop-walk decreases-loop-walk
returns c = λ R W lent can. loop-ends can.walk (looping c.before.before.before.before.before.before.before.before ((given c.before.before.before.before.before.before.before.before).0, can)) c.loop-walk-test.true c.take_column-j.ensures c.if-j-eq0.true

case-a-booked-requires : tie.Need-case_a_booked-n-requires invariant-loop-walk decreases-loop-walk
case-a-booked-requires c κs =
    let h = given c.before.before.before.before.before.before.before.before.before in
    booked-start h.1 (looping c.before.before.before.before.before.before.before.before.before h) c.loop-walk-test.true c.take_column-j.ensures c.if-j-eq0.false

cases-b-and-c-requires : tie.Need-cases_b_and_c-n-requires invariant-loop-walk decreases-loop-walk
cases-b-and-c-requires c κs =
    let h = given c.before.before.before.before.before.before.before.before.before.before.before.before.before in
    turning-ready h.1.walk.setting (turning c h)

case-d-requires : tie.Need-case_d-n-requires invariant-loop-walk decreases-loop-walk
case-d-requires c κs =
    let h = given c.before.before.before.before.before.before.before.before.before.before.before.before.before.before.before.before.before in
    family-ready h.1.walk.setting (turning c.before.before.before.before h) c.cases_b_and_c-n.ensures

write-plan-requires : tie.Need-write_plan-e-requires invariant-loop-walk decreases-loop-walk
write-plan-requires c κs =
    let h = given c.before.before.before.before.before.before.before.before.before.before.before.before.before.before.before.before.before.before.before.before.before.before in
    plan-ready h.1.walk.setting (turning c.before.before.before.before.before.before.before.before.before h) c.cases_b_and_c-n.ensures c.case_d-n.ensures

step-up-requires : tie.Need-step_up-walk-requires invariant-loop-walk decreases-loop-walk
step-up-requires c κs =
    let h = given c.before.before.before.before.before.before.before.before.before.before.before.before.before.before.before.before.before.before.before.before.before.before.before.before.before.before.before in
    step-ready h.1.walk.setting (turning c.before.before.before.before.before.before.before.before.before.before.before.before.before.before h) c.cases_b_and_c-n.ensures c.case_d-n.ensures c.write_plan-e.ensures

loop-less : tie.Need-loop-walk-smaller invariant-loop-walk decreases-loop-walk
loop-less c =
    let u = c.step_up-walk.ensures in
    rows-fewer c.loop-walk.walk.fits c.step_up-walk.result.fits c.loop-walk-test.true c.take_column-j.ensures c.if-j-eq0.false (λ x. u.last-is (sym u.fits-is ∙ x))

loop-again : tie.Need-loop-walk-preserved invariant-loop-walk decreases-loop-walk
loop-again c = λ R W lent free e can.
    let t = turning c.before.before.before.before.before.before.before.before.before.before.before.before.before.before.before.before.before (e, can) in
    loop-on can.walk (looping c.before.before.before.before.before.before.before.before.before.before.before.before.before.before.before.before.before.before.before.before.before.before.before.before.before.before.before.before.before.before (e, can)) c.loop-walk-test.true c.take_column-j.ensures c.if-j-eq0.false t
    (turned can.walk.setting t c.cases_b_and_c-n.ensures c.case_d-n.ensures c.write_plan-e.ensures
    c.step_up-walk.ensures)

same-length-2 : tie.Need-shape_of-work invariant-loop-walk decreases-loop-walk
same-length-2 c =
    let h = given c.before in
    ((looping c.before h).halted c.loop-walk-test.false).1.same_length ∙ sym h.1.walk.walking.same_length

returns-2 : tie.Need-returns invariant-loop-walk decreases-loop-walk
returns-2 c = λ R W lent can. loop-stops (looping c.before ((given c.before).0, can)) c.loop-walk-test.false

pub walk_booked_spec : {M : Type 1} → statement M
walk_booked_spec =
    tie.close
    (tie.spec
    invariant-loop-walk
    decreases-loop-walk
    walk-from-requires
    loop-holds
    take-column-requires
    same_length
    returns
    case-a-booked-requires
    cases-b-and-c-requires
    case-d-requires
    write-plan-requires
    step-up-requires
    loop-less
    loop-again
    same-length-2
    returns-2)
