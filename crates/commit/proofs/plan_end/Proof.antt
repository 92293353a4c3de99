-- `commit::plan_end` meets its contract: by the test whether a column comes after. Assumes nothing.
use mathlib.Core.Path.{refl}
use Prim.Native.Nat.{◌+◌, ◌*◌, ◌-◌}
use native.Mathlib.Omega.{arith}
use borrow.Author.Rules.{rules}
use borrow.Author.Tests.{eq-eqb, ne_eqb}
use Rattle.commit.proofs.plan_end.Statement.{statement}
use Rattle.commit.proofs.plan_end.Tie as tie

mul-result : tie.Need-overflow_mul-result
mul-result c = search rules

add-result : tie.Need-overflow_add-result
add-result c = search rules

returns : tie.Need-returns-then-after-eq0
returns c = rw (eq-eqb c.before.before.args.after.0 0 c.if-after-eq0.true) refl

sub-k : tie.Need-overflow_sub-k
sub-k c = search rules

cast-k : tie.Need-overflow_cast-k
cast-k c = search rules

mul-result-2 : tie.Need-overflow_mul-result-2
mul-result-2 c = search rules

mul-result-3 : tie.Need-overflow_mul-result-3
mul-result-3 c = search rules

add-result-2 : tie.Need-overflow_add-result-2
add-result-2 c = search rules

mul-result-4 : tie.Need-offset_bounds-work-m
mul-result-4 c = search rules

shared-slice-read-result : tie.Need-bounds-work-m
shared-slice-read-result c = search rules

cast-result : tie.Need-overflow_cast-result-2
cast-result c = omega (arith, c.shared_slice_known-1.given (4 * c.before.before.before.before.args.m + (c.before.before.before.before.args.after.0 - 1)))

add-result-3 : tie.Need-overflow_add-result-3
add-result-3 c = omega (arith, c.shared_slice_known-1.given (4 * c.before.before.before.before.args.m + (c.before.before.before.before.args.after.0 - 1)), c.before.before.before.before.requires.bound)

returns-2 : tie.Need-returns
returns-2 c = rw (ne_eqb c.before.before.before.before.args.after.0 0 c.before.before.if-after-eq0.false) refl

pub plan_end_spec : {M : Type 1} → statement M
plan_end_spec =
    tie.close
    (tie.spec
    mul-result
    add-result
    returns
    sub-k
    cast-k
    mul-result-2
    mul-result-3
    add-result-2
    mul-result-4
    shared-slice-read-result
    cast-result
    add-result-3
    returns-2)
