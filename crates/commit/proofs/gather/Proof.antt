-- `commit::gather` meets its contract. The loop's invariant is `Gathering`, for all factors and columns that the plan suits. The measure is how far the
-- column at hand is from the last. Assumes nothing.
use mathlib.Core.List.{List}
use Prim.Native.Nat.{ℕ}
use native.Mathlib.Omega.{arith}
use lib.ListN.{length}
use Rattle.symbolic.specs.Factor.{FactorColumn}
use Rattle.commit.specs.Gather.{CanGatherColumns}
use Rattle.commit.proofs.Standing.{left, left_less}
use Rattle.commit.proofs.Gathering.{Gathering, AtGather, gathering-start, gathering-length, gathering-end, at-gather, gathering-turn}
use Rattle.commit.proofs.gather.Statement.{statement}
use Rattle.commit.proofs.gather.Tie as tie

abbrev invariant-loop-j : tie.invariant-loop-j
invariant-loop-j heads next work₀ start m j₀ work j =
    (L L' : List FactorColumn) (label : ℕ → ℕ) (columns : List ℕ) (used : ℕ) → CanGatherColumns heads next L L' label columns work₀ start j₀.0 used →
    Gathering heads next L L' label columns start used work₀ work j.0

abbrev decreases-loop-j : tie.decreases-loop-j
decreases-loop-j heads next work₀ start m j₀ work j = left (length heads) j.0

-- ---- the places, named

abbrev entry : tie.At-loop-j invariant-loop-j decreases-loop-j → tie.Start invariant-loop-j decreases-loop-j
entry c = c.before.before.before.before

abbrev in-turn : tie.After-with_size invariant-loop-j decreases-loop-j → tie.In-loop-j invariant-loop-j decreases-loop-j
in-turn c = c.before.before.before.before.before

-- the invariant for what the premise gives
now-is : (c : tie.At-loop-j invariant-loop-j decreases-loop-j) →
    Gathering (entry c).args.heads.now (entry c).args.next.now (entry c).requires.L (entry c).requires.L' (entry c).requires.label (entry c).requires.columns (entry c).args.at (entry c).requires.used (entry c).args.work.now c.loop-j.work c.loop-j.j.0
now-is c = let p = (entry c).requires in c.loop-j.invariant p.L p.L' p.label p.columns p.used p.can

facts : (c : tie.In-loop-j invariant-loop-j decreases-loop-j) →
    AtGather (entry c.before.before).args.heads.now (entry c.before.before).args.next.now c.before.before.loop-j.work (entry c.before.before).args.at c.before.before.loop-j.j.0
facts c = at-gather (entry c.before.before).requires.can (now-is c.before.before) c.loop-j-test.true

loop-holds : tie.Need-loop-j-init invariant-loop-j decreases-loop-j
loop-holds c = λ L L' label columns used can. gathering-start can

-- ---- a turn

sub-k : tie.Need-overflow_sub-k invariant-loop-j decreases-loop-j
sub-k c = let f = facts c.before in omega arith

cast-k : tie.Need-overflow_cast-k invariant-loop-j decreases-loop-j
cast-k c = let f = facts c.before in omega arith

mul-work : tie.Need-overflow_mul-after invariant-loop-j decreases-loop-j
mul-work c = let f = facts c.before in omega arith

add-work : tie.Need-overflow_add-after invariant-loop-j decreases-loop-j
add-work c = let f = facts c.before in omega arith

mul-work-2 : tie.Need-offset_bounds-work-m invariant-loop-j decreases-loop-j
mul-work-2 c = let f = facts c.before in omega arith

slice-read-work : tie.Need-bounds-work-m invariant-loop-j decreases-loop-j
slice-read-work c = let f = facts c.before.before in omega arith

mul-t12 : tie.Need-offset_bounds-heads-k invariant-loop-j decreases-loop-j
mul-t12 c = let f = facts c.before.before in omega arith

shared-slice-read-t17 : tie.Need-bounds-heads-k invariant-loop-j decreases-loop-j
shared-slice-read-t17 c = let f = facts c.before.before.before in omega arith

add-with-size : tie.Need-overflow_add-at invariant-loop-j decreases-loop-j
add-with-size c = let f = facts c.before.before.before in omega arith

mul-with-size : tie.Need-offset_bounds-work-at invariant-loop-j decreases-loop-j
mul-with-size c = let f = facts c.before.before.before in omega arith

slice-read-with-size : tie.Need-bounds-work-at invariant-loop-j decreases-loop-j
slice-read-with-size c = let f = facts c.before.before.before.before in omega arith

with-size-requires : tie.Need-with_size-requires invariant-loop-j decreases-loop-j
with-size-requires c κs = (facts c.before.before.before.before).count

add-work-2 : tie.Need-overflow_add-work invariant-loop-j decreases-loop-j
add-work-2 c = let f = facts (in-turn c) in omega arith

mul-work-3 : tie.Need-offset_bounds-work-at-in-loop-j invariant-loop-j decreases-loop-j
mul-work-3 c = let f = facts (in-turn c) in omega arith

slice-write-work : tie.Need-bounds-work-at-in-loop-j invariant-loop-j decreases-loop-j
slice-write-work c = let f = facts (in-turn c) in omega arith

loop-less : tie.Need-loop-j-smaller invariant-loop-j decreases-loop-j
loop-less c = let d = in-turn c in left_less _ d.before.before.loop-j.j.0 _ d.loop-j-test.true (facts d).high (facts d).rises

loop-again : tie.Need-loop-j-preserved invariant-loop-j decreases-loop-j
loop-again c =
    let d = in-turn c in
    λ L L' label columns used can. gathering-turn can (d.before.before.loop-j.invariant L L' label columns used can) d.loop-j-test.true c.with_size.ensures

-- ---- after the loop

same_length : tie.Need-shape_of-work invariant-loop-j decreases-loop-j
same_length c = gathering-length (entry c.before.before).requires.can (now-is c.before.before)

returns : tie.Need-returns invariant-loop-j decreases-loop-j
returns c = λ L L' label columns used can. gathering-end can (c.before.before.loop-j.invariant L L' label columns used can) c.loop-j-test.false

pub gather_spec : {M : Type 1} → statement M
gather_spec =
    tie.close
    (tie.spec
    invariant-loop-j
    decreases-loop-j
    loop-holds
    sub-k
    cast-k
    mul-work
    add-work
    mul-work-2
    slice-read-work
    mul-t12
    shared-slice-read-t17
    add-with-size
    mul-with-size
    slice-read-with-size
    with-size-requires
    add-work-2
    mul-work-3
    slice-write-work
    loop-less
    loop-again
    same_length
    returns)
