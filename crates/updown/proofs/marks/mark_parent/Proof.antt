-- `updown::marks::mark_parent` meets its contract: by the test whether the label is larger. Assumes nothing.
use borrow.Author.Tests.{lt-ltb, le-ltb}
use lib.ListN.{length-set}
use native.Mathlib.Omega.{arith}
use borrow.Author.Rules.{rules}
use Rattle.updown.proofs.marks.mark_parent.Statement.{statement}
use Rattle.updown.proofs.marks.mark_parent.Tie as tie

sub-i : tie.Need-overflow_sub-i
sub-i c = search rules

cast-i : tie.Need-overflow_cast-i
cast-i c = search rules

mul-x : tie.Need-overflow_mul-x
mul-x c = search rules

add-x : tie.Need-overflow_add-x
add-x c = search rules

mul-x-2 : tie.Need-offset_bounds-work-m
mul-x-2 c = search rules

slice-read-x : tie.Need-bounds-work-m
slice-read-x c = search rules

mul-work : tie.Need-overflow_mul-work
mul-work c = search rules

add-work : tie.Need-overflow_add-work
add-work c = search rules

mul-work-2 : tie.Need-overflow_mul-work-then-x-label
mul-work-2 c = search rules

add-work-2 : tie.Need-overflow_add-work-then-x-label
add-work-2 c = search rules

mul-work-3 : tie.Need-offset_bounds-work-m-then-x-label
mul-work-3 c = search rules

slice-write-work : tie.Need-bounds-work-m-then-x-label
slice-write-work c = search rules

add-work-3 : tie.Need-overflow_add-work-then-x-label-2
add-work-3 c = search rules

mul-work-4 : tie.Need-offset_bounds-work-flags
mul-work-4 c = search rules

slice-write-work-2 : tie.Need-bounds-work-flags
slice-write-work-2 c = simp length-set (omega arith)

same_length : tie.Need-shape_of-work
same_length c = search rules

returns : tie.Need-returns-then-x-label
returns c = simp (lt-ltb _ _ c.if-x-label.true)

returns-2 : tie.Need-returns-else-x-label
returns-2 c = simp (le-ltb _ _ c.if-x-label.false)

pub mark_parent_spec : {M : Type 1} → statement M
mark_parent_spec =
    tie.close
    (tie.spec
    sub-i
    cast-i
    mul-x
    add-x
    mul-x-2
    slice-read-x
    mul-work
    add-work
    mul-work-2
    add-work-2
    mul-work-3
    slice-write-work
    add-work-3
    mul-work-4
    slice-write-work-2
    same_length
    returns
    returns-2)
