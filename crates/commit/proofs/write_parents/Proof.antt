-- `commit::write_parents` meets its contract. The loop's invariant is `WritingParents`, for all factors and columns that the plan suits. The measure is
-- how far the column at hand is from the last. Assumes nothing.
use mathlib.Core.List.{List}
use Prim.Native.Nat.{ℕ, ◌+◌, ◌-◌, ◌*◌}
use native.Mathlib.Omega.{arith}
use lib.ListN.{length, length-set}
use Rattle.symbolic.specs.Factor.{FactorColumn}
use Rattle.commit.specs.Passes.{CanWriteParents}
use Rattle.commit.proofs.Standing.{left, left_less}
use Rattle.commit.proofs.WritingParents.{WritingParents, AtParent, parents-start, parents-length, parents-work, parents-end, at-parent, parents-turn}
use Rattle.commit.proofs.write_parents.Statement.{statement}
use Rattle.commit.proofs.write_parents.Tie as tie

abbrev invariant-loop-j : tie.invariant-loop-j
invariant-loop-j parents₀ work₀ m j₀ parents work j =
    (L L' : List FactorColumn) (label : ℕ → ℕ) (columns : List ℕ) (used : ℕ) → CanWriteParents L L' label columns parents₀ work₀ j₀.0 used →
    WritingParents L L' label columns used parents₀ work₀ parents work j.0

abbrev decreases-loop-j : tie.decreases-loop-j
decreases-loop-j parents₀ work₀ m j₀ parents work j = left (length parents₀) j.0

-- ---- the places, named

-- the invariant for what the premise gives
now-is : (c : tie.At-loop-j invariant-loop-j decreases-loop-j) →
    WritingParents c.requires.L c.requires.L' c.requires.label c.requires.columns c.requires.used c.args.parents.now c.args.work.now c.loop-j.parents c.loop-j.work c.loop-j.j.0
now-is c = let p = c.requires in c.loop-j.invariant p.L p.L' p.label p.columns p.used p.can

facts : (c : tie.In-loop-j invariant-loop-j decreases-loop-j) → AtParent c.args.parents.now c.loop-j.parents c.loop-j.work c.loop-j.j.0
facts c = at-parent c.requires.can (now-is c.before.before) c.loop-j-test.true

loop-holds : tie.Need-loop-j-init invariant-loop-j decreases-loop-j
loop-holds c = λ L L' label columns used can. parents-start can

-- ---- a turn: what is read

sub-k : tie.Need-overflow_sub-k invariant-loop-j decreases-loop-j
sub-k c = let f = facts c.before in omega arith

cast-k : tie.Need-overflow_cast-k invariant-loop-j decreases-loop-j
cast-k c = let f = facts c.before in omega arith

mul-mark : tie.Need-overflow_mul-mark invariant-loop-j decreases-loop-j
mul-mark c = let f = facts c.before in omega arith

add-mark : tie.Need-overflow_add-mark invariant-loop-j decreases-loop-j
add-mark c = let f = facts c.before in omega arith

mul-mark-2 : tie.Need-offset_bounds-work-m invariant-loop-j decreases-loop-j
mul-mark-2 c = let f = facts c.before in omega arith

slice-read-mark : tie.Need-bounds-work-m invariant-loop-j decreases-loop-j
slice-read-mark c = let f = facts c.before.before in omega arith

mul-parents : tie.Need-overflow_mul-after invariant-loop-j decreases-loop-j
mul-parents c = let f = facts c.before.before in omega arith

add-parents : tie.Need-overflow_add-after invariant-loop-j decreases-loop-j
add-parents c = let f = facts c.before.before in omega arith

mul-parents-2 : tie.Need-offset_bounds-work-m-in-loop-j invariant-loop-j decreases-loop-j
mul-parents-2 c = let f = facts c.before.before in omega arith

slice-read-parents : tie.Need-bounds-work-m-in-loop-j invariant-loop-j decreases-loop-j
slice-read-parents c = let f = facts c.before.before.before in omega arith

-- ---- a turn: what is written

cast-parents : tie.Need-overflow_cast-parents invariant-loop-j decreases-loop-j
cast-parents c = let f = facts c.before.before.before in omega (arith, c.slice_known-1.given (3 * length c.args.parents.now + (c.loop-j.j.0 - 1)))

mul-parents-3 : tie.Need-offset_bounds-parents-k invariant-loop-j decreases-loop-j
mul-parents-3 c = let f = facts c.before.before.before in omega arith

slice-write-parents : tie.Need-bounds-parents-k invariant-loop-j decreases-loop-j
slice-write-parents c = let f = facts c.before.before.before in omega arith

mul-work : tie.Need-overflow_mul-work invariant-loop-j decreases-loop-j
mul-work c = let f = facts c.before.before.before in omega arith

add-work : tie.Need-overflow_add-work invariant-loop-j decreases-loop-j
add-work c = let f = facts c.before.before.before in omega arith

mul-work-2 : tie.Need-offset_bounds-work-m-in-loop-j-2 invariant-loop-j decreases-loop-j
mul-work-2 c = let f = facts c.before.before.before in omega arith

slice-write-work : tie.Need-bounds-work-m-in-loop-j-2 invariant-loop-j decreases-loop-j
slice-write-work c = let f = facts c.before.before.before in omega arith

mul-work-3 : tie.Need-overflow_mul-work-in-loop-j invariant-loop-j decreases-loop-j
mul-work-3 c = let f = facts c.before.before.before in omega arith

add-work-2 : tie.Need-overflow_add-work-in-loop-j invariant-loop-j decreases-loop-j
add-work-2 c = let f = facts c.before.before.before in omega arith

mul-work-4 : tie.Need-offset_bounds-work-m-in-loop-j-3 invariant-loop-j decreases-loop-j
mul-work-4 c = let f = facts c.before.before.before in omega arith

slice-write-work-2 : tie.Need-bounds-work-m-in-loop-j-3 invariant-loop-j decreases-loop-j
slice-write-work-2 c = let f = facts c.before.before.before in simp length-set (omega arith)

mul-work-5 : tie.Need-overflow_mul-work-in-loop-j-2 invariant-loop-j decreases-loop-j
mul-work-5 c = let f = facts c.before.before.before in omega arith

add-work-3 : tie.Need-overflow_add-work-in-loop-j-2 invariant-loop-j decreases-loop-j
add-work-3 c = let f = facts c.before.before.before in omega arith

mul-work-6 : tie.Need-offset_bounds-work-m-in-loop-j-4 invariant-loop-j decreases-loop-j
mul-work-6 c = let f = facts c.before.before.before in omega arith

slice-write-work-3 : tie.Need-bounds-work-m-in-loop-j-4 invariant-loop-j decreases-loop-j
slice-write-work-3 c = let f = facts c.before.before.before in simp length-set (omega arith)

loop-less : tie.Need-loop-j-smaller invariant-loop-j decreases-loop-j
loop-less c = left_less _ c.loop-j.j.0 _ c.loop-j-test.true (facts c.before.before.before).high (facts c.before.before.before).rises

loop-again : tie.Need-loop-j-preserved invariant-loop-j decreases-loop-j
loop-again c = λ L L' label columns used can. parents-turn can (c.loop-j.invariant L L' label columns used can) c.loop-j-test.true

-- ---- after the loop

same_length : tie.Need-shape_of-parents invariant-loop-j decreases-loop-j
same_length c = parents-length c.requires.can (now-is c.before.before)

same-length-2 : tie.Need-shape_of-work invariant-loop-j decreases-loop-j
same-length-2 c = parents-work c.requires.can (now-is c.before.before)

returns : tie.Need-returns invariant-loop-j decreases-loop-j
returns c = λ L L' label columns used can. parents-end can (c.loop-j.invariant L L' label columns used can) c.loop-j-test.false

pub write_parents_spec : {M : Type 1} → statement M
write_parents_spec =
    tie.close
    (tie.spec
    invariant-loop-j
    decreases-loop-j
    loop-holds
    sub-k
    cast-k
    mul-mark
    add-mark
    mul-mark-2
    slice-read-mark
    mul-parents
    add-parents
    mul-parents-2
    slice-read-parents
    cast-parents
    mul-parents-3
    slice-write-parents
    mul-work
    add-work
    mul-work-2
    slice-write-work
    mul-work-3
    add-work-2
    mul-work-4
    slice-write-work-2
    mul-work-5
    add-work-3
    mul-work-6
    slice-write-work-3
    loop-less
    loop-again
    same_length
    same-length-2
    returns)
