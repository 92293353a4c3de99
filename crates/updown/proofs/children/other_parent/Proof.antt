-- `updown::children::other_parent` meets its contract: by the test whether columns are added. Assumes nothing.
use mathlib.Core.Path.{refl}
use Prim.Native.Nat.{◌-◌}
use native.Mathlib.Omega.{arith}
use borrow.Author.Rules.{rules}
use Rattle.updown.proofs.children.other_parent.Statement.{statement}
use Rattle.updown.proofs.children.other_parent.Tie as tie

sub-i : tie.Need-overflow_sub-i
sub-i c = search rules

cast-i : tie.Need-overflow_cast-i
cast-i c = search rules

mul-t9 : tie.Need-offset_bounds-parents-i
mul-t9 c = search rules

shared-slice-read-t11 : tie.Need-bounds-parents-i
shared-slice-read-t11 c = search rules

cast-t12 : tie.Need-overflow_cast-result
cast-t12 c = omega (arith, c.shared_slice_known-1.given (c.before.before.before.args.c.0 - 1))

returns : tie.Need-returns-then-adding
returns c = rw c.before.if-adding.true refl

mul-t13 : tie.Need-overflow_mul-result
mul-t13 c = search rules

add-t14 : tie.Need-overflow_add-result
add-t14 c = search rules

mul-t15 : tie.Need-offset_bounds-work-m
mul-t15 c = search rules

shared-slice-read-t7 : tie.Need-bounds-work-m
shared-slice-read-t7 c = search rules

returns-2 : tie.Need-returns
returns-2 c = rw c.before.if-adding.false refl

pub other_parent_spec : {M : Type 1} → statement M
other_parent_spec =
    tie.close
    (tie.spec
    sub-i
    cast-i
    mul-t9
    shared-slice-read-t11
    cast-t12
    returns
    mul-t13
    add-t14
    mul-t15
    shared-slice-read-t7
    returns-2)
