-- `differences::gather_chain` meets its contract. The loop's invariant is `Following`: the rows of the records passed stand in the buffer. The measure is
-- the length of the chain to come. Assumes nothing.
use Prim.Native.Nat.{◌-◌, ◌≤◌, ◌<◌, ◌*◌, ◌^◌}
use native.Mathlib.Omega.{arith}
use lib.ListN.{length}
use Rattle.pool.specs.Chains.{chain}
use Rattle.differences.proofs.Chain.{onward-less}
use Rattle.differences.proofs.Following.{Following, following-start, following-length, following-onward, following-room, following-next, following-done}
use Rattle.differences.proofs.gather_chain.Statement.{statement}
use Rattle.differences.proofs.gather_chain.Tie as tie

abbrev invariant-loop-q : tie.invariant-loop-q
invariant-loop-q rows next work₀ m q₀ k₀ work q k = Following m rows next work₀ q₀ work q k

abbrev decreases-loop-q : tie.decreases-loop-q
decreases-loop-q rows next work₀ m q₀ k₀ work q k = length (chain next q)

abbrev start : tie.In-loop-q invariant-loop-q decreases-loop-q → tie.Start invariant-loop-q decreases-loop-q
start c = c.before.before

-- what a turn asks, at the loop's test
pub record Facts (c : tie.In-loop-q invariant-loop-q decreases-loop-q) : Type 0 where
  pub low : 1 ≤ c.before.loop-q.q
  pub in-next : c.before.loop-q.q ≤ length (start c).args.next.now
  pub in_rows : c.before.loop-q.q ≤ length (start c).args.rows.now
  pub room : c.before.loop-q.k < (start c).args.m
  pub long : 3 * (start c).args.m ≤ length c.before.loop-q.work
  pub good : length (start c).args.next.now * 4 < 2 ^ 63
  pub good-work : length c.before.loop-q.work * 4 < 2 ^ 63

facts : (c : tie.In-loop-q invariant-loop-q decreases-loop-q) → Facts c
facts c =
    let i = c.before.loop-q.invariant in
    let o = following-onward (start c).requires.0 (start c).requires.1 i c.loop-q-test.true in
    let l = following-length (start c).requires.0 (start c).requires.1 i in
    let g = (start c).well_formed in
    record {
      low = o.low;
      in-next = o.high;
      in_rows = omega (arith, o.high, (start c).requires.1.rows_long);
      room = following-room (start c).requires.0 (start c).requires.1 i c.loop-q-test.true;
      long = omega (arith, (start c).requires.0.long);
      good = omega (arith, g);
      good-work = omega (arith, g);
    }

loop-holds : tie.Need-loop-q-init invariant-loop-q decreases-loop-q
loop-holds c = following-start c.requires.0 c.requires.1

sub-i : tie.Need-overflow_sub-i invariant-loop-q decreases-loop-q
sub-i c = let f = facts c in omega arith

cast-i : tie.Need-overflow_cast-i invariant-loop-q decreases-loop-q
cast-i c = let f = facts c in omega arith

mul-work : tie.Need-offset_bounds-rows-i invariant-loop-q decreases-loop-q
mul-work c = let f = facts c in omega arith

shared-slice-read-work : tie.Need-bounds-rows-i invariant-loop-q decreases-loop-q
shared-slice-read-work c = let f = facts c.before in omega arith

cast-work : tie.Need-overflow_cast-work invariant-loop-q decreases-loop-q
cast-work c = let d = c.before.before.loop-q in omega (arith, c.shared_slice_known-1.given (d.q - 1))

mul-work-2 : tie.Need-overflow_mul-work invariant-loop-q decreases-loop-q
mul-work-2 c = let f = facts c.before in omega arith

add-work : tie.Need-overflow_add-work invariant-loop-q decreases-loop-q
add-work c = let f = facts c.before in omega arith

mul-work-3 : tie.Need-offset_bounds-work-m invariant-loop-q decreases-loop-q
mul-work-3 c = let f = facts c.before in omega arith

slice-write-work : tie.Need-bounds-work-m invariant-loop-q decreases-loop-q
slice-write-work c = let f = facts c.before in omega arith

mul-q : tie.Need-offset_bounds-next-i invariant-loop-q decreases-loop-q
mul-q c = let f = facts c.before in omega arith

shared-slice-read-q : tie.Need-bounds-next-i invariant-loop-q decreases-loop-q
shared-slice-read-q c = let f = facts c.before.before in omega arith

add-k : tie.Need-overflow_add-k invariant-loop-q decreases-loop-q
add-k c = let f = facts c.before.before in omega arith

loop-less : tie.Need-loop-q-smaller invariant-loop-q decreases-loop-q
loop-less c = let d = c.before.before in onward-less (following-onward (start d).requires.0 (start d).requires.1 d.before.loop-q.invariant d.loop-q-test.true)

loop-again : tie.Need-loop-q-preserved invariant-loop-q decreases-loop-q
loop-again c = let d = c.before.before in following-next (start d).requires.0 (start d).requires.1 d.before.loop-q.invariant d.loop-q-test.true

same_length : tie.Need-shape_of-work invariant-loop-q decreases-loop-q
same_length c = c.before.loop-q.invariant.gathering.only.same_length

returns : tie.Need-returns invariant-loop-q decreases-loop-q
returns c = following-done c.before.before.requires.0 c.before.before.requires.1 c.before.loop-q.invariant c.loop-q-test.false

pub gather_chain_spec : {M : Type 1} → statement M
gather_chain_spec =
    tie.close
    (tie.spec
    invariant-loop-q
    decreases-loop-q
    loop-holds
    sub-i
    cast-i
    mul-work
    shared-slice-read-work
    cast-work
    mul-work-2
    add-work
    mul-work-3
    slice-write-work
    mul-q
    shared-slice-read-q
    add-k
    loop-less
    loop-again
    same_length
    returns)
