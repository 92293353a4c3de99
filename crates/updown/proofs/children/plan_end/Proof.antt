-- `updown::children::plan_end` meets its contract: two reads. Assumes nothing.
use lib.ListN.{get_or}
use Prim.Native.Nat.{◌+◌, ◌-◌, ◌*◌}
use native.Mathlib.Omega.{arith}
use borrow.Author.Rules.{rules}
use Rattle.updown.proofs.children.plan_end.Statement.{statement}
use Rattle.updown.proofs.children.plan_end.Tie as tie

mul-result : tie.Need-overflow_mul-next
mul-result c = search rules

sub-result : tie.Need-overflow_sub-next
sub-result c = search rules

cast-result : tie.Need-overflow_cast-next
cast-result c = search rules

add-result : tie.Need-overflow_add-next
add-result c = search rules

mul-result-2 : tie.Need-offset_bounds-work-m
mul-result-2 c = search rules

shared-slice-read-result : tie.Need-bounds-work-m
shared-slice-read-result c = search rules

mul-result-3 : tie.Need-overflow_mul-result
mul-result-3 c = search rules

sub-result-2 : tie.Need-overflow_sub-result
sub-result-2 c = search rules

cast-result-2 : tie.Need-overflow_cast-result
cast-result-2 c = search rules

add-result-2 : tie.Need-overflow_add-result
add-result-2 c = search rules

mul-result-4 : tie.Need-offset_bounds-work-m-2
mul-result-4 c = search rules

shared-slice-read-result-2 : tie.Need-bounds-work-m-2
shared-slice-read-result-2 c = search rules

cast-result-3 : tie.Need-overflow_cast-result-2
cast-result-3 c = omega (arith, c.shared_slice_known-2-1.given (4 * c.before.before.before.before.args.m + (get_or c.before.before.before.before.args.work.now (5 * c.before.before.before.before.args.m + (c.before.before.before.before.args.c.0 - 1)) 0 - 1)))

returns : tie.Need-returns
returns c = search rules

pub plan_end_spec : {M : Type 1} → statement M
plan_end_spec =
    tie.close
    (tie.spec
    mul-result
    sub-result
    cast-result
    add-result
    mul-result-2
    shared-slice-read-result
    mul-result-3
    sub-result-2
    cast-result-2
    add-result-2
    mul-result-4
    shared-slice-read-result-2
    cast-result-3
    returns)
