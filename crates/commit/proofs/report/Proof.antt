-- `commit::report` meets its contract. The loop's invariant is `Reporting`, for all factors and columns that the plan suits. The measure is how far the
-- column at hand is from the last. Assumes nothing.
use mathlib.Core.List.{List}
use Prim.Native.Nat.{ℕ}
use native.Mathlib.Omega.{arith}
use Rattle.symbolic.specs.Factor.{FactorColumn}
use Rattle.commit.specs.Report.{CanReport}
use Rattle.commit.proofs.Standing.{left, left_less}
use Rattle.commit.proofs.Reporting.{Reporting, AtReport, reporting-start, reporting-touched, reporting-labels, reporting-end, at-report, reporting-turn}
use Rattle.commit.proofs.report.Statement.{statement}
use Rattle.commit.proofs.report.Tie as tie

abbrev invariant-loop-j : tie.invariant-loop-j
invariant-loop-j work touched₀ labels₀ m j₀ t₀ touched labels j t =
    (L L' : List FactorColumn) (label : ℕ → ℕ) (columns : List ℕ) (used : ℕ) → CanReport m L L' label columns work touched₀ labels₀ j₀.0 used →
    Reporting m L L' label columns work used touched₀ labels₀ touched labels j.0 t

abbrev decreases-loop-j : tie.decreases-loop-j
decreases-loop-j work touched₀ labels₀ m j₀ t₀ touched labels j t = left m j.0

-- ---- the places, named

abbrev in-turn : tie.After-struct_known-in-loop-j-2-1 invariant-loop-j decreases-loop-j → tie.In-loop-j invariant-loop-j decreases-loop-j
in-turn c = c.before.before.before.before

-- the invariant for what the premise gives
now-is : (c : tie.At-loop-j invariant-loop-j decreases-loop-j) →
    Reporting c.before.args.m c.before.requires.L c.before.requires.L' c.before.requires.label c.before.requires.columns c.before.args.work.now c.before.requires.used c.before.args.touched.now c.before.args.labels.now c.loop-j.touched c.loop-j.labels c.loop-j.j.0 c.loop-j.t
now-is c = let p = c.before.requires in c.loop-j.invariant p.L p.L' p.label p.columns p.used p.can

facts : (c : tie.In-loop-j invariant-loop-j decreases-loop-j) →
    AtReport c.before.before.before.args.m c.before.before.before.args.work.now c.before.before.loop-j.touched c.before.before.loop-j.labels c.before.before.loop-j.j.0 c.before.before.loop-j.t
facts c = at-report c.before.before.before.requires.can (now-is c.before.before) c.loop-j-test.true

loop-holds : tie.Need-loop-j-init invariant-loop-j decreases-loop-j
loop-holds c = λ L L' label columns used can. reporting-start can

-- ---- a turn: what is read

sub-k : tie.Need-overflow_sub-k invariant-loop-j decreases-loop-j
sub-k c = let f = facts c.before in omega arith

cast-k : tie.Need-overflow_cast-k invariant-loop-j decreases-loop-j
cast-k c = let f = facts c.before in omega arith

mul-mark : tie.Need-overflow_mul-mark invariant-loop-j decreases-loop-j
mul-mark c = let f = facts c.before in omega arith

add-mark : tie.Need-overflow_add-mark invariant-loop-j decreases-loop-j
add-mark c = let f = facts c.before in omega arith

mul-mark-2 : tie.Need-offset_bounds-work-m invariant-loop-j decreases-loop-j
mul-mark-2 c = let f = facts c.before in omega arith

shared-slice-read-mark : tie.Need-bounds-work-m invariant-loop-j decreases-loop-j
shared-slice-read-mark c = let f = facts c.before.before in omega arith

mul-labels : tie.Need-overflow_mul-after invariant-loop-j decreases-loop-j
mul-labels c = let f = facts c.before.before in omega arith

add-labels : tie.Need-overflow_add-after invariant-loop-j decreases-loop-j
add-labels c = let f = facts c.before.before in omega arith

mul-labels-2 : tie.Need-offset_bounds-work-m-in-loop-j invariant-loop-j decreases-loop-j
mul-labels-2 c = let f = facts c.before.before in omega arith

shared-slice-read-labels : tie.Need-bounds-work-m-in-loop-j invariant-loop-j decreases-loop-j
shared-slice-read-labels c = let f = facts c.before.before.before in omega arith

-- ---- a turn: what is written

cast-touched : tie.Need-overflow_cast-touched invariant-loop-j decreases-loop-j
cast-touched c = let f = facts (in-turn c) in omega arith

mul-touched : tie.Need-offset_bounds-touched-t invariant-loop-j decreases-loop-j
mul-touched c = let f = facts (in-turn c) in omega arith

slice-write-touched : tie.Need-bounds-touched-t invariant-loop-j decreases-loop-j
slice-write-touched c = let f = facts (in-turn c) in omega arith

cast-labels : tie.Need-overflow_cast-labels invariant-loop-j decreases-loop-j
cast-labels c = let f = facts (in-turn c) in omega arith

mul-labels-3 : tie.Need-offset_bounds-labels-t invariant-loop-j decreases-loop-j
mul-labels-3 c = let f = facts (in-turn c) in omega arith

slice-write-labels : tie.Need-bounds-labels-t invariant-loop-j decreases-loop-j
slice-write-labels c = let f = facts (in-turn c) in omega arith

add-t : tie.Need-overflow_add-t invariant-loop-j decreases-loop-j
add-t c = let f = facts (in-turn c) in omega arith

loop-less : tie.Need-loop-j-smaller invariant-loop-j decreases-loop-j
loop-less c = let d = in-turn c in left_less _ d.before.before.loop-j.j.0 _ d.loop-j-test.true (facts d).high (facts d).rises

loop-again : tie.Need-loop-j-preserved invariant-loop-j decreases-loop-j
loop-again c = let d = in-turn c in λ L L' label columns used can. reporting-turn can (d.before.before.loop-j.invariant L L' label columns used can) d.loop-j-test.true

-- ---- after the loop

same_length : tie.Need-shape_of-touched invariant-loop-j decreases-loop-j
same_length c = reporting-touched c.before.before.before.requires.can (now-is c.before.before)

same-length-2 : tie.Need-shape_of-labels invariant-loop-j decreases-loop-j
same-length-2 c = reporting-labels c.before.before.before.requires.can (now-is c.before.before)

returns : tie.Need-returns invariant-loop-j decreases-loop-j
returns c = λ L L' label columns used can. reporting-end can (c.before.before.loop-j.invariant L L' label columns used can) c.loop-j-test.false

pub report_spec : {M : Type 1} → statement M
report_spec =
    tie.close
    (tie.spec
    invariant-loop-j
    decreases-loop-j
    loop-holds
    sub-k
    cast-k
    mul-mark
    add-mark
    mul-mark-2
    shared-slice-read-mark
    mul-labels
    add-labels
    mul-labels-2
    shared-slice-read-labels
    cast-touched
    mul-touched
    slice-write-touched
    cast-labels
    mul-labels-3
    slice-write-labels
    add-t
    loop-less
    loop-again
    same_length
    same-length-2
    returns)
