-- `updown::marks::next_marked` meets its contract: the loop's invariant is `Passing`, that no row passed is marked; the measure is the rows left. Assumes
-- nothing.
use mathlib.Core.Path.{refl}
use Rattle.updown.proofs.Marking.{Passing, passing-start, passing-block, passing-row, passing-found, passing-none}
use Prim.Native.Nat.{◌-◌}
use native.Mathlib.Omega.{arith}
use Rattle.updown.proofs.marks.next_marked.Statement.{statement}
use Rattle.updown.proofs.marks.next_marked.Tie as tie

abbrev invariant-loop-i : tie.invariant-loop-i
invariant-loop-i work m flags from i₀ i = Passing m work from i

abbrev decreases-loop-i : tie.decreases-loop-i
decreases-loop-i work m flags from i₀ i = m - i

loop-holds : tie.Need-loop-i-init invariant-loop-i decreases-loop-i
loop-holds c = passing-start c.args.from

add-if1 : tie.Need-overflow_add-flags invariant-loop-i decreases-loop-i
add-if1 c = omega arith

mul-if1 : tie.Need-offset_bounds-work-flags invariant-loop-i decreases-loop-i
mul-if1 c = omega arith

shared-slice-read-if1 : tie.Need-bounds-work-flags invariant-loop-i decreases-loop-i
shared-slice-read-if1 c = omega arith

mul-i : tie.Need-overflow_mul-i invariant-loop-i decreases-loop-i
mul-i c = omega arith

add-i : tie.Need-overflow_add-i invariant-loop-i decreases-loop-i
add-i c = omega arith

loop-less : tie.Need-loop-i-smaller-then-work-flags-eq0 invariant-loop-i decreases-loop-i
loop-less c = omega arith

loop-again : tie.Need-loop-i-preserved-then-work-flags-eq0 invariant-loop-i decreases-loop-i
loop-again c = passing-block c.before.before.before.loop-i.invariant c.before.before.before.before.args.flags c.before.before.before.before.requires.1 c.if-work-flags-eq0.true

mul-if2 : tie.Need-overflow_mul-m invariant-loop-i decreases-loop-i
mul-if2 c = omega arith

add-if2 : tie.Need-overflow_add-m invariant-loop-i decreases-loop-i
add-if2 c = omega arith

mul-if2-2 : tie.Need-offset_bounds-work-m invariant-loop-i decreases-loop-i
mul-if2-2 c = omega arith

shared-slice-read-if2 : tie.Need-bounds-work-m invariant-loop-i decreases-loop-i
shared-slice-read-if2 c = omega arith

add-t20 : tie.Need-overflow_add-result invariant-loop-i decreases-loop-i
add-t20 c = omega arith

cast-t21 : tie.Need-overflow_cast-result invariant-loop-i decreases-loop-i
cast-t21 c = omega arith

returns : tie.Need-returns-then-work-m-ne0 invariant-loop-i decreases-loop-i
returns c = passing-found c.before.before.before.before.before.loop-i.invariant c.before.before.before.before.loop-i-test.true c.if-work-m-ne0.true refl

add-i-2 : tie.Need-overflow_add-i-else-work-flags-eq0 invariant-loop-i decreases-loop-i
add-i-2 c = omega arith

loop-less-2 : tie.Need-loop-i-smaller invariant-loop-i decreases-loop-i
loop-less-2 c = omega arith

loop-again-2 : tie.Need-loop-i-preserved invariant-loop-i decreases-loop-i
loop-again-2 c = passing-row c.before.before.before.before.before.loop-i.invariant c.before.before.before.before.loop-i-test.true c.if-work-m-ne0.false

returns-2 : tie.Need-returns invariant-loop-i decreases-loop-i
returns-2 c = passing-none c.before.loop-i.invariant c.loop-i-test.false refl

pub next_marked_spec : {M : Type 1} → statement M
next_marked_spec =
    tie.close
    (tie.spec
    invariant-loop-i
    decreases-loop-i
    loop-holds
    add-if1
    mul-if1
    shared-slice-read-if1
    mul-i
    add-i
    loop-less
    loop-again
    mul-if2
    add-if2
    mul-if2-2
    shared-slice-read-if2
    add-t20
    cast-t21
    returns
    add-i-2
    loop-less-2
    loop-again-2
    returns-2)
