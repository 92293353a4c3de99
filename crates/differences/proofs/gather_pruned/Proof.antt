-- `differences::gather_pruned` meets its contract. The loop's invariant is `Pruning`: the rows of the records passed that are not gone stand in the buffer.
-- The measure is the length of the chain to come. Assumes nothing.
use mathlib.Core.Path.{sym, ◌∙◌}
use Prim.Native.Nat.{◌-◌, ◌*◌, ◌^◌, ◌≤◌, ◌<◌}
use native.Mathlib.Omega.{arith}
use lib.ListN.{length}
use Rattle.pool.specs.Chains.{chain}
use Rattle.differences.proofs.Chain.{Onward, chain-onward, onward-less}
use Rattle.differences.proofs.Pruning.{Pruning, pruning-start, pruning-length, pruning-pass, pruning-room, pruning-skip, pruning-keep, pruning-done}
use Rattle.differences.proofs.gather_pruned.Statement.{statement}
use Rattle.differences.proofs.gather_pruned.Tie as tie

abbrev invariant-loop-q : tie.invariant-loop-q
invariant-loop-q rows next work₀ m from to q₀ k₀ a₀ work q k a = Pruning m rows next work₀ q₀ from to work q k a

abbrev decreases-loop-q : tie.decreases-loop-q
decreases-loop-q rows next work₀ m from to q₀ k₀ a₀ work q k a = length (chain next q)

-- ---- places

abbrev start : tie.In-loop-q invariant-loop-q decreases-loop-q → tie.Start invariant-loop-q decreases-loop-q
start c = c.before.before.before.before.before

-- ---- what a turn asks, at the loop's test

onward : (c : tie.In-loop-q invariant-loop-q decreases-loop-q) → Onward c.args.next.now c.loop-q.q
onward c = chain-onward c.args.next.now c.loop-q.q c.loop-q-test.true c.loop-q.invariant.linked

pub record Facts (c : tie.In-loop-q invariant-loop-q decreases-loop-q) : Type 0 where
  pub low : 1 ≤ c.before.loop-q.q
  pub in-next : c.before.loop-q.q ≤ length (start c).args.next.now
  pub in_rows : c.before.loop-q.q ≤ length (start c).args.rows.now
  pub long : 3 * (start c).args.m ≤ length c.before.loop-q.work
  pub good : length (start c).args.next.now * 4 < 2 ^ 63
  pub good-work : length c.before.loop-q.work * 4 < 2 ^ 63

facts : (c : tie.In-loop-q invariant-loop-q decreases-loop-q) → Facts c
facts c =
    let o = onward c in
    let q = c.requires in
    let l = pruning-length q.0 q.1 q.2 c.loop-q.invariant in
    let g = c.well_formed in
    record {
      low = o.low;
      in-next = o.high;
      in_rows = omega (arith, o.high, q.1.rows_long);
      long = omega (arith, q.0.long);
      good = omega (arith, g);
      good-work = omega (arith, g);
    }

room : (c : tie.Else-is_gone invariant-loop-q decreases-loop-q) → c.loop-q.k < c.args.m
room c =
    let q = c.requires in
    pruning-room q.0 q.1 q.2 c.loop-q.invariant c.loop-q-test.true c.pass-a.ensures (sym c.is_gone.ensures ∙ c.if-is_gone.false)

-- ---- needs

loop-holds : tie.Need-loop-q-init invariant-loop-q decreases-loop-q
loop-holds c = let q = c.requires in pruning-start q.0 q.1 q.2

sub-i : tie.Need-overflow_sub-i invariant-loop-q decreases-loop-q
sub-i c = let f = facts c in omega arith

cast-i : tie.Need-overflow_cast-i invariant-loop-q decreases-loop-q
cast-i c = let f = facts c in omega arith

mul-row : tie.Need-offset_bounds-rows-i invariant-loop-q decreases-loop-q
mul-row c = let f = facts c in omega arith

shared-slice-read-row : tie.Need-bounds-rows-i invariant-loop-q decreases-loop-q
shared-slice-read-row c = let f = facts c.before in omega arith

cast-row : tie.Need-overflow_cast-row invariant-loop-q decreases-loop-q
cast-row c = omega (arith, c.shared_slice_known-in-loop-q-1.given (c.loop-q.q - 1))

pass-requires : tie.Need-pass-a-requires invariant-loop-q decreases-loop-q
pass-requires c κs = let q = c.requires in pruning-pass q.0 q.1 q.2 c.loop-q.invariant

is-gone-requires : tie.Need-is_gone-requires invariant-loop-q decreases-loop-q
is-gone-requires c κs = let q = c.requires in omega (arith, pruning-pass q.0 q.1 q.2 c.loop-q.invariant)

mul-q : tie.Need-offset_bounds-next-i invariant-loop-q decreases-loop-q
mul-q c = let f = facts c.before.before.before.before in omega arith

shared-slice-read-q : tie.Need-bounds-next-i invariant-loop-q decreases-loop-q
shared-slice-read-q c = let f = facts c.before.before.before.before.before in omega arith

loop-less : tie.Need-loop-q-smaller-then-is_gone invariant-loop-q decreases-loop-q
loop-less c = onward-less (onward c.before.before.before.before.before)

loop-again : tie.Need-loop-q-preserved-then-is_gone invariant-loop-q decreases-loop-q
loop-again c = let q = c.requires in pruning-skip q.0 q.1 q.2 c.loop-q.invariant c.loop-q-test.true c.pass-a.ensures (sym c.is_gone.ensures ∙ c.if-is_gone.true)

mul-work : tie.Need-overflow_mul-work invariant-loop-q decreases-loop-q
mul-work c = let f = facts c.before.before.before.before in omega (arith, room c)

add-work : tie.Need-overflow_add-work invariant-loop-q decreases-loop-q
add-work c = let f = facts c.before.before.before.before in omega (arith, room c)

mul-work-2 : tie.Need-offset_bounds-work-m invariant-loop-q decreases-loop-q
mul-work-2 c = let f = facts c.before.before.before.before in omega (arith, room c)

slice-write-work : tie.Need-bounds-work-m invariant-loop-q decreases-loop-q
slice-write-work c = let f = facts c.before.before.before.before in omega (arith, room c)

mul-q-2 : tie.Need-offset_bounds-next-i-else-is_gone invariant-loop-q decreases-loop-q
mul-q-2 c = let f = facts c.before.before.before.before in omega (arith, room c)

shared-slice-read-q-2 : tie.Need-bounds-next-i-else-is_gone invariant-loop-q decreases-loop-q
shared-slice-read-q-2 c = let f = facts c.before.before.before.before.before in omega arith

add-k : tie.Need-overflow_add-k invariant-loop-q decreases-loop-q
add-k c = let f = facts c.before.before.before.before.before in omega (arith, room c.before)

loop-less-2 : tie.Need-loop-q-smaller invariant-loop-q decreases-loop-q
loop-less-2 c = onward-less (onward c.before.before.before.before.before)

loop-again-2 : tie.Need-loop-q-preserved invariant-loop-q decreases-loop-q
loop-again-2 c = let q = c.requires in pruning-keep q.0 q.1 q.2 c.loop-q.invariant c.loop-q-test.true c.pass-a.ensures (sym c.is_gone.ensures ∙ c.if-is_gone.false)

same_length : tie.Need-shape_of-work invariant-loop-q decreases-loop-q
same_length c = c.loop-q.invariant.gathering.only.same_length

returns : tie.Need-returns invariant-loop-q decreases-loop-q
returns c = let q = c.requires in pruning-done q.0 q.1 q.2 c.loop-q.invariant c.loop-q-test.false

pub gather_pruned_spec : {M : Type 1} → statement M
gather_pruned_spec =
    tie.close
    (tie.spec
    invariant-loop-q
    decreases-loop-q
    loop-holds
    sub-i
    cast-i
    mul-row
    shared-slice-read-row
    cast-row
    pass-requires
    is-gone-requires
    mul-q
    shared-slice-read-q
    loop-less
    loop-again
    mul-work
    add-work
    mul-work-2
    slice-write-work
    mul-q-2
    shared-slice-read-q-2
    add-k
    loop-less-2
    loop-again-2
    same_length
    returns)
