-- `differences::gather_grown` meets its contract. The loop's invariant is `Growing`: the rows up to the last of the chain passed stand in the buffer, the new
-- ones of the plan among them. The measure is the length of the chain to come. Assumes nothing.
use mathlib.Core.Path.{◌≡◌, refl, ◌∙◌}
use Prim.Native.Nat.{◌-◌, ◌*◌, ◌^◌, ◌≤◌, ◌<◌}
use native.Mathlib.Omega.{arith}
use lib.ListN.{length}
use Rattle.pool.specs.Chains.{chain}
use Rattle.differences.proofs.Chain.{Onward, chain-onward, onward-less}
use Rattle.differences.proofs.Growing.{Growing, growing-start, growing-length, growing-reach, growing-room, growing-next, growing-done}
use Rattle.differences.proofs.gather_grown.Statement.{statement}
use Rattle.differences.proofs.gather_grown.Tie as tie

abbrev invariant-loop-q : tie.invariant-loop-q
invariant-loop-q rows next work₀ m from to q₀ k₀ a₀ work q k a = Growing m rows next work₀ q₀ from to work q k a

abbrev decreases-loop-q : tie.decreases-loop-q
decreases-loop-q rows next work₀ m from to q₀ k₀ a₀ work q k a = length (chain next q)

-- ---- places

abbrev start : tie.In-loop-q invariant-loop-q decreases-loop-q → tie.Start invariant-loop-q decreases-loop-q
start c = c.before.before.before.before.before

abbrev start-end : tie.After-loop-q invariant-loop-q decreases-loop-q → tie.Start invariant-loop-q decreases-loop-q
start-end c = c.before.before.before.before.before

abbrev in-call : tie.After-gather_below-met invariant-loop-q decreases-loop-q → tie.In-loop-q invariant-loop-q decreases-loop-q
in-call c = c.before.before.before

-- ---- what a turn asks: at the loop's test, and after the call

onward : (c : tie.In-loop-q invariant-loop-q decreases-loop-q) → Onward (start c).args.next.now c.before.loop-q.q
onward c = chain-onward (start c).args.next.now c.before.loop-q.q c.loop-q-test.true c.before.loop-q.invariant.linked

pub record Facts (c : tie.In-loop-q invariant-loop-q decreases-loop-q) : Type 0 where
  pub low : 1 ≤ c.before.loop-q.q
  pub in-next : c.before.loop-q.q ≤ length (start c).args.next.now
  pub in_rows : c.before.loop-q.q ≤ length (start c).args.rows.now
  pub long : 3 * (start c).args.m ≤ length c.before.loop-q.work
  pub good : length (start c).args.next.now * 4 < 2 ^ 63
  pub good-work : length c.before.loop-q.work * 4 < 2 ^ 63

facts : (c : tie.In-loop-q invariant-loop-q decreases-loop-q) → Facts c
facts c =
    let o = onward c in
    let l = growing-length (start c).requires c.before.loop-q.invariant in
    let g = (start c).well_formed in
    record {
      low = o.low;
      in-next = o.high;
      in_rows = omega (arith, o.high, (start c).requires.column.rows_long);
      long = omega (arith, (start c).requires.table.long);
      good = omega (arith, g);
      good-work = omega (arith, g);
    }

pub record Turn (c : tie.After-gather_below-met invariant-loop-q decreases-loop-q) : Type 0 where
  pub facts-here : Facts (in-call c)
  pub room : c.gather_below-met.result.rows < (start (in-call c)).args.m
  pub same_length : length c.gather_below-met.new.work ≡ length (in-call c).before.loop-q.work

turn : (c : tie.After-gather_below-met invariant-loop-q decreases-loop-q) → Turn c
turn c =
    let d = in-call c in
    record {
      facts-here = facts d;
      room = growing-room (start d).requires d.before.loop-q.invariant c.gather_below-met.ensures d.loop-q-test.true refl;
      same_length = c.gather_below-met.ensures.gathering.only.same_length;
    }

-- ---- needs

loop-holds : tie.Need-loop-q-init invariant-loop-q decreases-loop-q
loop-holds c = growing-start c.before.before.before.requires

sub-i : tie.Need-overflow_sub-i invariant-loop-q decreases-loop-q
sub-i c = let f = facts c in omega arith

cast-i : tie.Need-overflow_cast-i invariant-loop-q decreases-loop-q
cast-i c = let f = facts c in omega arith

mul-row : tie.Need-offset_bounds-rows-i invariant-loop-q decreases-loop-q
mul-row c = let f = facts c in omega arith

shared-slice-read-row : tie.Need-bounds-rows-i invariant-loop-q decreases-loop-q
shared-slice-read-row c = let f = facts c.before in omega arith

cast-row : tie.Need-overflow_cast-row invariant-loop-q decreases-loop-q
cast-row c = omega (arith, c.shared_slice_known-in-loop-q-1.given (c.before.before.loop-q.q - 1))

cast-kind : tie.Need-overflow_cast-gather_below invariant-loop-q decreases-loop-q
cast-kind c = omega arith

gather-below-requires : tie.Need-gather_below-met-requires invariant-loop-q decreases-loop-q
gather-below-requires c κs = let d = c.before.before in growing-reach (start d).requires d.before.loop-q.invariant

mul-work : tie.Need-overflow_mul-work invariant-loop-q decreases-loop-q
mul-work c = let t = turn c.before.before in omega arith

add-work : tie.Need-overflow_add-work invariant-loop-q decreases-loop-q
add-work c = let t = turn c.before.before in omega arith

mul-work-2 : tie.Need-offset_bounds-work-m invariant-loop-q decreases-loop-q
mul-work-2 c = let t = turn c.before.before in omega arith

slice-write-work : tie.Need-bounds-work-m invariant-loop-q decreases-loop-q
slice-write-work c = let t = turn c.before.before in omega arith

mul-q : tie.Need-offset_bounds-next-i invariant-loop-q decreases-loop-q
mul-q c = let t = turn c.before.before in omega arith

shared-slice-read-q : tie.Need-bounds-next-i invariant-loop-q decreases-loop-q
shared-slice-read-q c = let f = facts (in-call c.before.before.before) in omega arith

add-k : tie.Need-overflow_add-k invariant-loop-q decreases-loop-q
add-k c = let t = turn c.before.before.before in omega arith

loop-less : tie.Need-loop-q-smaller invariant-loop-q decreases-loop-q
loop-less c = onward-less (onward (in-call c.before.before.before))

loop-again : tie.Need-loop-q-preserved invariant-loop-q decreases-loop-q
loop-again c = let b = c.before.before.before in let d = in-call b in growing-next (start d).requires d.before.loop-q.invariant b.gather_below-met.ensures d.loop-q-test.true refl

cast-kind-2 : tie.Need-overflow_cast-gather_below-2 invariant-loop-q decreases-loop-q
cast-kind-2 c = omega arith

gather-below-requires-2 : tie.Need-gather_below-last-requires invariant-loop-q decreases-loop-q
gather-below-requires-2 c κs = let d = c.before in growing-reach (start-end d).requires d.before.loop-q.invariant

same_length : tie.Need-shape_of-work invariant-loop-q decreases-loop-q
same_length c = let b = c.before.before in let d = b.before.before in b.gather_below-last.ensures.gathering.only.same_length ∙ d.before.loop-q.invariant.gathering.only.same_length

returns : tie.Need-returns invariant-loop-q decreases-loop-q
returns c = let b = c.before.before in let d = b.before.before in growing-done (start-end d).requires d.before.loop-q.invariant d.loop-q-test.false b.gather_below-last.ensures

pub gather_grown_spec : {M : Type 1} → statement M
gather_grown_spec =
    tie.close
    (tie.spec
    invariant-loop-q
    decreases-loop-q
    loop-holds
    sub-i
    cast-i
    mul-row
    shared-slice-read-row
    cast-row
    cast-kind
    gather-below-requires
    mul-work
    add-work
    mul-work-2
    slice-write-work
    mul-q
    shared-slice-read-q
    add-k
    loop-less
    loop-again
    cast-kind-2
    gather-below-requires-2
    same_length
    returns)
