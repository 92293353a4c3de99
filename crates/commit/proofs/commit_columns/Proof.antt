-- `commit::commit_columns` meets its contract. The loop's invariant is `Committing`, for all parents, factors and columns that the plan suits. The measure
-- is how far the column at hand is from the last. Assumes nothing.
use mathlib.Core.Path.{refl}
use mathlib.Core.List.{List}
use Prim.Native.Nat.{ℕ}
use native.Mathlib.Omega.{arith}
use lib.ListN.{length}
use Rattle.symbolic.specs.Factor.{FactorColumn}
use Rattle.tables.specs.Stored.{stored_of}
use Rattle.commit.specs.Passes.{CanCommitPlans}
use Rattle.commit.proofs.Standing.{left, left_less}
use Rattle.commit.proofs.Committing.{Committing, AtColumn, committing-start, committing-long, committing-counts, committing-end, at-column, committing-ready, committing-turn}
use Rattle.commit.proofs.commit_columns.Statement.{statement}
use Rattle.commit.proofs.commit_columns.Tie as tie

abbrev invariant-loop-j : tie.invariant-loop-j
invariant-loop-j heads rows₀ counts₀ next₀ work used m j₀ z₀ rows counts next j z =
    (ps : List ℕ) (L L' : List FactorColumn) (label : ℕ → ℕ) (columns : List ℕ) →
    CanCommitPlans (stored_of heads ps rows₀ counts₀ next₀ z₀.0) L L' label columns work j₀.0 used →
    Committing (stored_of heads ps rows₀ counts₀ next₀ z₀.0) L L' label columns work used (stored_of heads ps rows counts next z.0) j.0

abbrev decreases-loop-j : tie.decreases-loop-j
decreases-loop-j heads rows₀ counts₀ next₀ work used m j₀ z₀ rows counts next j z = left (length heads) j.0

-- ---- the places, named

-- the invariant for what the premise gives
now-is : (c : tie.At-loop-j invariant-loop-j decreases-loop-j) →
    Committing (stored_of c.args.heads.now c.requires.parents c.args.rows.now c.args.counts.now c.args.next.now c.args.free.0) c.requires.L c.requires.L' c.requires.label c.requires.columns c.args.work.now c.args.used (stored_of c.args.heads.now c.requires.parents c.loop-j.rows c.loop-j.counts c.loop-j.next c.loop-j.z.0) c.loop-j.j.0
now-is c = let p = c.requires in c.loop-j.invariant p.parents p.L p.L' p.label p.columns p.can

facts : (c : tie.In-loop-j invariant-loop-j decreases-loop-j) →
    AtColumn (length c.args.heads.now) c.args.work.now c.args.used c.loop-j.j.0
facts c = at-column c.requires.can (now-is c.before.before) c.loop-j-test.true

loop-holds : tie.Need-loop-j-init invariant-loop-j decreases-loop-j
loop-holds c = λ ps L L' label columns can. committing-start can

-- ---- a turn: what is read

sub-k : tie.Need-overflow_sub-k invariant-loop-j decreases-loop-j
sub-k c = (facts c.before).low

cast-k : tie.Need-overflow_cast-k invariant-loop-j decreases-loop-j
cast-k c = let f = facts c.before in omega arith

mul-a : tie.Need-overflow_mul-after invariant-loop-j decreases-loop-j
mul-a c = let f = facts c.before in omega arith

add_a : tie.Need-overflow_add-after invariant-loop-j decreases-loop-j
add_a c = let f = facts c.before in omega arith

mul-a-2 : tie.Need-offset_bounds-work-m invariant-loop-j decreases-loop-j
mul-a-2 c = let f = facts c.before in omega arith

shared-slice-read-a : tie.Need-bounds-work-m invariant-loop-j decreases-loop-j
shared-slice-read-a c = let f = facts c.before.before in omega arith

mul-a-3 : tie.Need-overflow_mul-a invariant-loop-j decreases-loop-j
mul-a-3 c = let f = facts c.before.before in omega arith

mul-a-4 : tie.Need-overflow_mul-a-in-loop-j invariant-loop-j decreases-loop-j
mul-a-4 c = let f = facts c.before.before in omega arith

add-a-2 : tie.Need-overflow_add-a invariant-loop-j decreases-loop-j
add-a-2 c = let f = facts c.before.before in omega arith

mul-a-5 : tie.Need-offset_bounds-work-m-in-loop-j invariant-loop-j decreases-loop-j
mul-a-5 c = let f = facts c.before.before in omega arith

shared-slice-read-a-2 : tie.Need-bounds-work-m-in-loop-j invariant-loop-j decreases-loop-j
shared-slice-read-a-2 c = let f = facts c.before.before.before in omega arith

cast-a : tie.Need-overflow_cast-a invariant-loop-j decreases-loop-j
cast-a c = let f = facts c.before.before.before in omega arith

add-a-3 : tie.Need-overflow_add-a-in-loop-j invariant-loop-j decreases-loop-j
add-a-3 c = let f = facts c.before.before.before in omega arith

plan-end-requires : tie.Need-plan_end-e-requires invariant-loop-j decreases-loop-j
plan-end-requires c κs = let f = facts c.before.before.before in record { bound = f.bound; long = omega arith; high = f.after }

-- ---- a turn: the call

mul-commit-column : tie.Need-offset_bounds-work-a invariant-loop-j decreases-loop-j
mul-commit-column c = let f = facts c.before.before.before.before.before.before.before in omega (arith, c.plan_end-e.ensures)

sub-commit-column : tie.Need-slice_bounds-commit_column-count invariant-loop-j decreases-loop-j
sub-commit-column c = let f = facts c.before.before.before.before.before.before.before in omega (arith, c.plan_end-e.ensures)

part-commit-column-start : tie.Need-slice_bounds-commit_column-start invariant-loop-j decreases-loop-j
part-commit-column-start c = let f = facts c.before.before.before.before.before.before.before in omega (arith, c.plan_end-e.ensures)

part-commit-column-end : tie.Need-slice_bounds-commit_column-end invariant-loop-j decreases-loop-j
part-commit-column-end c = let f = facts c.before.before.before.before.before.before.before in omega (arith, c.plan_end-e.ensures)

mul-t19 : tie.Need-offset_bounds-heads-k invariant-loop-j decreases-loop-j
mul-t19 c = let f = facts c.before.before.before.before.before.before.before.before in omega arith

shared-slice-read-t17 : tie.Need-bounds-heads-k invariant-loop-j decreases-loop-j
shared-slice-read-t17 c = let f = facts c.before.before.before.before.before.before.before.before.before in omega arith

commit-column-requires : tie.Need-commit_column-z-requires invariant-loop-j decreases-loop-j
commit-column-requires c κs =
    committing-ready c.requires.can (now-is c.before.before.before.before.before.before.before.before.before.before.before) c.loop-j-test.true refl c.plan_end-e.ensures

loop-less : tie.Need-loop-j-smaller invariant-loop-j decreases-loop-j
loop-less c =
    left_less _ c.loop-j.j.0 _ c.loop-j-test.true (facts c.before.before.before.before.before.before.before.before.before.before.before.before.before.before.before.before).high (facts c.before.before.before.before.before.before.before.before.before.before.before.before.before.before.before.before).rises

loop-again : tie.Need-loop-j-preserved invariant-loop-j decreases-loop-j
loop-again c =
    λ ps L L' label columns can.
    committing-turn can (c.loop-j.invariant ps L L' label columns can) c.loop-j-test.true refl c.plan_end-e.ensures c.commit_column-z.ensures

-- ---- after the loop

same_length : tie.Need-shape_of-rows invariant-loop-j decreases-loop-j
same_length c = committing-long c.requires.can (now-is c.before.before)

same-length-2 : tie.Need-shape_of-counts invariant-loop-j decreases-loop-j
same-length-2 c = committing-counts c.requires.can (now-is c.before.before)

same-length-3 : tie.Need-shape_of-next invariant-loop-j decreases-loop-j
same-length-3 c = (now-is c.before.before).records

returns : tie.Need-returns invariant-loop-j decreases-loop-j
returns c = λ ps L L' label columns can. committing-end can (c.loop-j.invariant ps L L' label columns can) c.loop-j-test.false

pub commit_columns_spec : {M : Type 1} → statement M
commit_columns_spec =
    tie.close
    (tie.spec
    invariant-loop-j
    decreases-loop-j
    loop-holds
    sub-k
    cast-k
    mul-a
    add_a
    mul-a-2
    shared-slice-read-a
    mul-a-3
    mul-a-4
    add-a-2
    mul-a-5
    shared-slice-read-a-2
    cast-a
    add-a-3
    plan-end-requires
    mul-commit-column
    sub-commit-column
    part-commit-column-start
    part-commit-column-end
    mul-t19
    shared-slice-read-t17
    commit-column-requires
    loop-less
    loop-again
    same_length
    same-length-2
    same-length-3
    returns)
