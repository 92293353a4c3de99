-- `updown::turns::place_marker` meets its contract: by the test whether there is a parent in the tree. Assumes nothing.
use lib.ListN.{length-set}
use borrow.Author.Tests.{eq-eqb, ne_eqb}
use mathlib.Core.Path.{refl}
use native.Mathlib.Omega.{arith}
use borrow.Author.Rules.{rules}
use Rattle.updown.proofs.turns.place_marker.Statement.{statement}
use Rattle.updown.proofs.turns.place_marker.Tie as tie

sub-i : tie.Need-overflow_sub-i
sub-i c = search rules

cast-i : tie.Need-overflow_cast-i
cast-i c = search rules

mul-x : tie.Need-overflow_mul-x
mul-x c = search rules

add-x : tie.Need-overflow_add-x
add-x c = search rules

mul-x-2 : tie.Need-offset_bounds-work-m
mul-x-2 c = search rules

slice-read-x : tie.Need-bounds-work-m
slice-read-x c = search rules

mul-work : tie.Need-overflow_mul-work
mul-work c = search rules

add-work : tie.Need-overflow_add-work
add-work c = search rules

mul-work-2 : tie.Need-overflow_mul-work-2
mul-work-2 c = search rules

add-work-2 : tie.Need-overflow_add-work-2
add-work-2 c = search rules

mul-work-3 : tie.Need-offset_bounds-work-m-2
mul-work-3 c = search rules

slice-write-work : tie.Need-bounds-work-m-2
slice-write-work c = search rules

same_length : tie.Need-shape_of-work-then-up-eq0
same_length c = search rules

returns : tie.Need-returns-then-up-eq0
returns c = rw (eq-eqb c.before.before.before.before.before.before.args.up.0 0 c.if-up-eq0.true) refl

mark-parent-requires : tie.Need-mark_parent-requires
mark-parent-requires c κs = (record { m-bound = c.before.before.before.before.before.before.before.requires.0.m-bound; low = c.before.before.before.before.before.before.before.requires.0.low; long = simp length-set c.before.before.before.before.before.before.before.requires.0.long }, omega arith, omega arith, omega arith)

mul-q : tie.Need-overflow_mul-q
mul-q c = search rules

sub-q : tie.Need-overflow_sub-q
sub-q c = search rules

cast-q : tie.Need-overflow_cast-q
cast-q c = search rules

add-q : tie.Need-overflow_add-q
add-q c = search rules

mul-work-4 : tie.Need-offset_bounds-work-q
mul-work-4 c = search rules

slice-read-work : tie.Need-bounds-work-q
slice-read-work c = omega (arith, simp length-set at c.before.before.before.before.mark_parent.auto.work, c.before.before.before.before.before.before.before.before.before.before.before.before.requires.0.low, c.before.before.before.before.before.before.before.before.before.before.before.before.requires.0.long)

mul-work-5 : tie.Need-overflow_mul-work-3
mul-work-5 c = search rules

add-work-3 : tie.Need-overflow_add-work-3
add-work-3 c = search rules

mul-work-6 : tie.Need-offset_bounds-work-m-3
mul-work-6 c = search rules

slice-write-work-2 : tie.Need-bounds-work-m-3
slice-write-work-2 c = omega (arith, simp length-set at c.before.before.before.before.mark_parent.auto.work, c.before.before.before.before.before.before.before.before.before.before.before.before.requires.0.low, c.before.before.before.before.before.before.before.before.before.before.before.before.requires.0.long)

mul-work-7 : tie.Need-offset_bounds-work-q-2
mul-work-7 c = search rules

slice-write-work-3 : tie.Need-bounds-work-q-2
slice-write-work-3 c = simp length-set (omega (arith, simp length-set at c.before.before.before.before.mark_parent.auto.work, c.before.before.before.before.before.before.before.before.before.before.before.before.requires.0.low, c.before.before.before.before.before.before.before.before.before.before.before.before.requires.0.long))

same-length-2 : tie.Need-shape_of-work
same-length-2 c = simp length-set (simp length-set at c.before.before.before.before.mark_parent.auto.work)

returns-2 : tie.Need-returns
returns-2 c = rw (c.before.before.before.before.mark_parent.ensures, ne_eqb c.before.before.before.before.before.before.before.before.before.before.before.before.args.up.0 0 c.before.before.before.before.before.before.if-up-eq0.false) refl

pub place_marker_spec : {M : Type 1} → statement M
place_marker_spec =
    tie.close
    (tie.spec
    sub-i
    cast-i
    mul-x
    add-x
    mul-x-2
    slice-read-x
    mul-work
    add-work
    mul-work-2
    add-work-2
    mul-work-3
    slice-write-work
    same_length
    returns
    mark-parent-requires
    mul-q
    sub-q
    cast-q
    add-q
    mul-work-4
    slice-read-work
    mul-work-5
    add-work-3
    mul-work-6
    slice-write-work-2
    mul-work-7
    slice-write-work-3
    same-length-2
    returns-2)
