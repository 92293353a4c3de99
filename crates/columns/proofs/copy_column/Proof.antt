-- `columns::copy_column` meets its contract. The loop's invariant is `Copying`, and what a turn needs is `turn`; the measure is the length of the chain
-- that is left. Assumes nothing.
use Prim.Native.Nat.{◌-◌}
use native.Mathlib.Omega.{arith}
use lib.ListN.{length, length-set}
use Rattle.pool.specs.Chains.{chain}
use Rattle.columns.proofs.Copying.{Copying, Turn, copying-start, copying-turn, copying-long, copying-number, copying-written}
use Rattle.columns.proofs.copy_column.Statement.{statement}
use Rattle.columns.proofs.copy_column.Tie as tie

abbrev invariant-loop-r : tie.invariant-loop-r
invariant-loop-r rows counts next list₀ r₀ k₀ list r k = Copying rows counts next list₀ r₀ list r k

abbrev decreases-loop-r : tie.decreases-loop-r
decreases-loop-r rows counts next list₀ r₀ k₀ list r k = length (chain next r)

abbrev start : tie.In-loop-r invariant-loop-r decreases-loop-r → tie.Start invariant-loop-r decreases-loop-r
start c = c.before.before

turn : (c : tie.In-loop-r invariant-loop-r decreases-loop-r) → Turn (start c).args.rows.now (start c).args.counts.now (start c).args.next.now (start c).args.list.now (start c).args.head.0 c.before.loop-r.list c.before.loop-r.r c.before.loop-r.k
turn c = copying-turn (start c).requires c.before.loop-r.invariant c.loop-r-test.true

loop-holds : tie.Need-loop-r-init invariant-loop-r decreases-loop-r
loop-holds c = copying-start c.requires

sub-i : tie.Need-overflow_sub-i invariant-loop-r decreases-loop-r
sub-i c = (turn c).low

cast-i : tie.Need-overflow_cast-i invariant-loop-r decreases-loop-r
cast-i c = let t = turn c in omega arith

mul-list : tie.Need-offset_bounds-rows-i invariant-loop-r decreases-loop-r
mul-list c = let t = turn c in omega arith

shared-slice-read-list : tie.Need-bounds-rows-i invariant-loop-r decreases-loop-r
shared-slice-read-list c = let t = turn c.before in omega (arith, t, (start c.before).requires.read.rows_long)

cast-list : tie.Need-overflow_cast-list invariant-loop-r decreases-loop-r
cast-list c = omega (arith, c.shared_slice_known-1.given (c.before.before.loop-r.r - 1))

mul-list-2 : tie.Need-overflow_mul-list invariant-loop-r decreases-loop-r
mul-list-2 c = let t = turn c.before in omega (arith, t, (start c.before).requires.fits)

mul-list-3 : tie.Need-offset_bounds-list-k invariant-loop-r decreases-loop-r
mul-list-3 c = let t = turn c.before in omega (arith, t, (start c.before).requires.fits)

slice-write-list : tie.Need-bounds-list-k invariant-loop-r decreases-loop-r
slice-write-list c = let t = turn c.before in omega (arith, t, (start c.before).requires.fits)

mul-list-4 : tie.Need-offset_bounds-counts-i invariant-loop-r decreases-loop-r
mul-list-4 c = let t = turn c.before in omega arith

shared-slice-read-list-2 : tie.Need-bounds-counts-i invariant-loop-r decreases-loop-r
shared-slice-read-list-2 c = let t = turn c.before.before in omega (arith, t, (start c.before.before).requires.read.counts-long)

cast-list-2 : tie.Need-overflow_cast-list-in-loop-r invariant-loop-r decreases-loop-r
cast-list-2 c = omega (arith, c.shared_slice_known-in-loop-r-1.given (c.before.before.before.loop-r.r - 1))

mul-list-5 : tie.Need-overflow_mul-list-in-loop-r invariant-loop-r decreases-loop-r
mul-list-5 c = let t = turn c.before.before in omega (arith, t, (start c.before.before).requires.fits)

add-list : tie.Need-overflow_add-list invariant-loop-r decreases-loop-r
add-list c = let t = turn c.before.before in omega (arith, t, (start c.before.before).requires.fits)

mul-list-6 : tie.Need-offset_bounds-list-k-in-loop-r invariant-loop-r decreases-loop-r
mul-list-6 c = let t = turn c.before.before in omega (arith, t, (start c.before.before).requires.fits)

slice-write-list-2 : tie.Need-bounds-list-k-in-loop-r invariant-loop-r decreases-loop-r
slice-write-list-2 c = let t = turn c.before.before in simp length-set (omega (arith, t, (start c.before.before).requires.fits))

mul-r : tie.Need-offset_bounds-next-i invariant-loop-r decreases-loop-r
mul-r c = let t = turn c.before.before in omega arith

shared-slice-read-r : tie.Need-bounds-next-i invariant-loop-r decreases-loop-r
shared-slice-read-r c = let t = turn c.before.before.before in omega arith

add-k : tie.Need-overflow_add-k invariant-loop-r decreases-loop-r
add-k c = let t = turn c.before.before.before in omega (arith, t, (start c.before.before.before).requires.narrow)

loop-less : tie.Need-loop-r-smaller invariant-loop-r decreases-loop-r
loop-less c = (turn c.before.before.before).shorter

loop-again : tie.Need-loop-r-preserved invariant-loop-r decreases-loop-r
loop-again c = (turn c.before.before.before).again

cast-result : tie.Need-overflow_cast-result invariant-loop-r decreases-loop-r
cast-result c = omega (arith, copying-number c.before.before.requires c.before.loop-r.invariant c.loop-r-test.false, c.before.before.requires.narrow)

same_length : tie.Need-shape_of-list invariant-loop-r decreases-loop-r
same_length c = copying-long c.before.before.requires c.before.loop-r.invariant

returns : tie.Need-returns invariant-loop-r decreases-loop-r
returns c = (copying-number c.before.before.requires c.before.loop-r.invariant c.loop-r-test.false, copying-written c.before.before.requires c.before.loop-r.invariant c.loop-r-test.false)

pub copy_column_spec : {M : Type 1} → statement M
copy_column_spec =
    tie.close
    (tie.spec
    invariant-loop-r
    decreases-loop-r
    loop-holds
    sub-i
    cast-i
    mul-list
    shared-slice-read-list
    cast-list
    mul-list-2
    mul-list-3
    slice-write-list
    mul-list-4
    shared-slice-read-list-2
    cast-list-2
    mul-list-5
    add-list
    mul-list-6
    slice-write-list-2
    mul-r
    shared-slice-read-r
    add-k
    loop-less
    loop-again
    cast-result
    same_length
    returns)
