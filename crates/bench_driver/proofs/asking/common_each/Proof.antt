-- `common_each` asks about groups that lie in the list: the loop's invariant is `Grouping`, its measure the rows left. Assumes nothing.
use Prim.Native.Nat.{◌-◌, ◌+◌, ◌≤◌}
use native.Mathlib.Omega.{arith}
use lib.ListN.{length}
use borrow.Author.Rules.{rules}
use Rattle.bench_driver.proofs.Answered.{Grouping, grouped}
use Rattle.bench_driver.proofs.asking.common_each.Statement.{statement}
use Rattle.bench_driver.proofs.asking.common_each.Tie as tie

abbrev invariant-loop-first : tie.invariant-loop-first
invariant-loop-first factor heads parents rows counts next book-heads book-rows book-next windows row_list r first₀ done₀ sum₀ first done sum = Grouping (length row_list) first done sum

abbrev decreases-loop-first : tie.decreases-loop-first
decreases-loop-first factor heads parents rows counts next book-heads book-rows book-next windows row_list r first₀ done₀ sum₀ first done sum = length row_list - first

-- ---- the places, named

abbrev entry : tie.At-loop-first invariant-loop-first decreases-loop-first → tie.Start invariant-loop-first decreases-loop-first
entry c = c.before.before.before.before.before.before.before.before.before.before.before

abbrev turn : tie.After-struct_known-1 invariant-loop-first decreases-loop-first → tie.In-loop-first invariant-loop-first decreases-loop-first
turn c = c.before.before.before.before

-- ---- the group lies in the list

pub record Facts (c : tie.In-loop-first invariant-loop-first decreases-loop-first) : Type 0 where
  pub some : 1 ≤ (entry c.before).args.r
  pub few : length (entry c.before).args.row_list.now ≤ 1048576
  pub ends : c.before.loop-first.first + (entry c.before).args.r ≤ length (entry c.before).args.row_list.now
  pub inv : Grouping (length (entry c.before).args.row_list.now) c.before.loop-first.first c.before.loop-first.done c.before.loop-first.sum

facts : (c : tie.In-loop-first invariant-loop-first decreases-loop-first) → Facts c
facts c =
    let i = c.before.loop-first.invariant in
    record {
      some = (entry c.before).requires.1.1;
      few = (entry c.before).requires.1.0;
      ends = omega (arith, i.within, c.loop-first-test.true);
      inv = i;
    }

loop-holds : tie.Need-loop-first-init invariant-loop-first decreases-loop-first
loop-holds c = record { within = omega arith; some = omega arith; room = omega arith }

sub-loop : tie.Need-overflow_sub-row_list invariant-loop-first decreases-loop-first
sub-loop c = c.loop-first.invariant.within

add-end : tie.Need-overflow_add-end invariant-loop-first decreases-loop-first
add-end c = let f = facts c in omega (arith, f.ends, f.few)

mul-common-unchecked : tie.Need-offset_bounds-row_list-first invariant-loop-first decreases-loop-first
mul-common-unchecked c = let f = facts c in omega (arith, f.ends, f.few)

sub-common-unchecked : tie.Need-slice_bounds-common_unchecked-count invariant-loop-first decreases-loop-first
sub-common-unchecked c = omega arith

part-common-unchecked-start : tie.Need-slice_bounds-common_unchecked-start invariant-loop-first decreases-loop-first
part-common-unchecked-start c = omega arith

part-common-unchecked-end : tie.Need-slice_bounds-common_unchecked-end invariant-loop-first decreases-loop-first
part-common-unchecked-end c = (facts c).ends

common-unchecked-requires : tie.Need-common_unchecked-x-requires invariant-loop-first decreases-loop-first
common-unchecked-requires c κs = (entry c.before.before).requires.0

returns : tie.Need-returns-then-number-ne0 invariant-loop-first decreases-loop-first
returns c = search rules

cast-sum : tie.Need-overflow_cast-sum invariant-loop-first decreases-loop-first
cast-sum c = omega (arith, c.struct_known-1.given)

add-sum : tie.Need-overflow_add-sum invariant-loop-first decreases-loop-first
add-sum c = let f = facts (turn c) in omega (arith, f.ends, f.few, f.inv.room, c.struct_known-1.given)

add_done : tie.Need-overflow_add-done invariant-loop-first decreases-loop-first
add_done c = let f = facts (turn c) in omega (arith, f.ends, f.few, f.inv.some)

loop-less : tie.Need-loop-first-smaller invariant-loop-first decreases-loop-first
loop-less c = let f = facts (turn c) in omega (arith, f.ends, f.some)

loop-again : tie.Need-loop-first-preserved invariant-loop-first decreases-loop-first
loop-again c = let f = facts (turn c) in grouped f.inv f.some f.ends (omega (arith, f.some, c.struct_known-1.given))

returns-2 : tie.Need-returns invariant-loop-first decreases-loop-first
returns-2 c = search rules

pub common_each_spec : {M : Type 1} → statement M
common_each_spec =
    tie.close
    (tie.spec
    invariant-loop-first
    decreases-loop-first
    loop-holds
    sub-loop
    add-end
    mul-common-unchecked
    sub-common-unchecked
    part-common-unchecked-start
    part-common-unchecked-end
    common-unchecked-requires
    returns
    cast-sum
    add-sum
    add_done
    loop-less
    loop-again
    returns-2)
