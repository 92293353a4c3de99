-- `updown::marks::mark_start` meets its contract: two stores, none for row 0. Assumes nothing.
use mathlib.Core.Path.{refl}
use lib.ListN.{length-set}
use native.Mathlib.Omega.{arith}
use borrow.Author.Tests.{eq-eqb, ne_eqb}
use borrow.Author.Rules.{rules}
use Rattle.updown.proofs.marks.mark_start.Statement.{statement}
use Rattle.updown.proofs.marks.mark_start.Tie as tie

returns : tie.Need-returns-then-row-eq0
returns c = rw (eq-eqb c.before.before.args.row.0 0 c.if-row-eq0.true) refl

sub-i : tie.Need-overflow_sub-i
sub-i c = search rules

cast-i : tie.Need-overflow_cast-i
cast-i c = search rules

mul-work : tie.Need-overflow_mul-work
mul-work c = search rules

add-work : tie.Need-overflow_add-work
add-work c = search rules

mul-work-2 : tie.Need-overflow_mul-work-2
mul-work-2 c = search rules

add-work-2 : tie.Need-overflow_add-work-2
add-work-2 c = search rules

mul-work-3 : tie.Need-offset_bounds-work-m
mul-work-3 c = search rules

slice-write-work : tie.Need-bounds-work-m
slice-write-work c = search rules

add-work-3 : tie.Need-overflow_add-work-3
add-work-3 c = search rules

mul-work-4 : tie.Need-offset_bounds-work-flags
mul-work-4 c = search rules

slice-write-work-2 : tie.Need-bounds-work-flags
slice-write-work-2 c = simp length-set (omega arith)

same_length : tie.Need-shape_of-work
same_length c = search rules

returns-2 : tie.Need-returns
returns-2 c = rw (ne_eqb c.before.before.before.args.row.0 0 c.before.if-row-eq0.false) refl

pub mark_start_spec : {M : Type 1} → statement M
mark_start_spec =
    tie.close
    (tie.spec
    returns
    sub-i
    cast-i
    mul-work
    add-work
    mul-work-2
    add-work-2
    mul-work-3
    slice-write-work
    add-work-3
    mul-work-4
    slice-write-work-2
    same_length
    returns-2)
