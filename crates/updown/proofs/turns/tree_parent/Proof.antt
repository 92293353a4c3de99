-- `updown::turns::tree_parent` meets its contract: by the test whether columns are added. Assumes nothing.
use Prim.Native.Nat.{◌-◌}
use mathlib.Core.Path.{refl}
use native.Mathlib.Omega.{arith}
use borrow.Author.Rules.{rules}
use Rattle.updown.proofs.turns.tree_parent.Statement.{statement}
use Rattle.updown.proofs.turns.tree_parent.Tie as tie

returns : tie.Need-returns-then-adding
returns c = search rules

sub-t6 : tie.Need-overflow_sub-result
sub-t6 c = search rules

cast-t7 : tie.Need-overflow_cast-result
cast-t7 c = search rules

mul-t8 : tie.Need-offset_bounds-parents-j
mul-t8 c = search rules

shared-slice-read-t10 : tie.Need-bounds-parents-j
shared-slice-read-t10 c = search rules

cast-t11 : tie.Need-overflow_cast-result-2
cast-t11 c = omega (arith, c.shared_slice_known-1.given (c.before.before.before.args.j.0 - 1))

returns-2 : tie.Need-returns
returns-2 c = rw c.before.before.if-adding.false refl

pub tree_parent_spec : {M : Type 1} → statement M
tree_parent_spec =
    tie.close
    (tie.spec
    returns
    sub-t6
    cast-t7
    mul-t8
    shared-slice-read-t10
    cast-t11
    returns-2)
