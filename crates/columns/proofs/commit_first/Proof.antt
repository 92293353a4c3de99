-- `columns::commit_first` meets its contract: no entry, an entry for another row, an entry for the head's row. Assumes nothing.
use mathlib.Core.Path.{refl, sym, ap, ◌∙◌}
use Prim.Native.Nat.{◌≤◌, ◌-◌}
use native.Mathlib.Omega.{arith}
use borrow.Author.Rules.{rules}
use lib.ListN.{length}
use Rattle.lists.specs.Lists.{put}
use Rattle.columns.specs.Apply.{first-planned, first-stays}
use Rattle.columns.proofs.commit_first.Statement.{statement}
use Rattle.columns.proofs.commit_first.Tie as tie

abbrev start : tie.After-multiplicity_of-count → tie.Start
start c = c.before.before.before.before.before.before.before

abbrev in-else : tie.Else-row-rows → tie.After-multiplicity_of-count
in-else c = c.before.before

returns : tie.Need-returns-then-plan-eq0
returns c = first-stays (λ n. absurd (omega (arith, c.if-plan-eq0.true))) refl refl

shared-slice-read-entry : tie.Need-bounds-plan-0
shared-slice-read-entry c = search rules

row-of-requires : tie.Need-row_of-row-requires
row-of-requires c κs = search rules

multiplicity-of-requires : tie.Need-multiplicity_of-count-requires
multiplicity-of-requires c κs = search rules

sub-i : tie.Need-overflow_sub-i
sub-i c = search rules

cast-i : tie.Need-overflow_cast-i
cast-i c = search rules

mul-if2 : tie.Need-offset_bounds-rows-i
mul-if2 c = search rules

shared-slice-read-if2 : tie.Need-bounds-rows-i
shared-slice-read-if2 c = search rules

cast-if2 : tie.Need-overflow_cast-rows
cast-if2 c = omega (arith, c.shared_slice_known-4-1.given ((start c.before).args.head.0 - 1))

returns-2 : tie.Need-returns-then-row-rows
returns-2 c = let d = c.before.before in first-stays (λ n e. c.if-row-rows.true (d.before.row_of-row.ensures ∙ e)) refl refl

some : (c : tie.Else-row-rows) → 1 ≤ length (start (in-else c)).args.plan.now
some c = omega (arith, c.before.before.before.before.before.if-plan-eq0.false)

cast-counts : tie.Need-overflow_cast-counts
cast-counts c = let d = in-else c in omega (arith, d.multiplicity_of-count.ensures, (start d).requires.fits (some c))

mul-counts : tie.Need-offset_bounds-counts-i
mul-counts c = search rules

slice-write-counts : tie.Need-bounds-counts-i
slice-write-counts c = search rules

same_length : tie.Need-shape_of-counts
same_length c = search rules

returns-3 : tie.Need-returns
returns-3 c =
    let d = in-else c in
    first-planned (some c) (sym d.before.row_of-row.ensures ∙ c.if-row-rows.false) (ap (put (start d).args.counts.now (start d).args.head.0) d.multiplicity_of-count.ensures) refl

pub commit_first_spec : {M : Type 1} → statement M
commit_first_spec =
    tie.close
    (tie.spec
    returns
    shared-slice-read-entry
    row-of-requires
    multiplicity-of-requires
    sub-i
    cast-i
    mul-if2
    shared-slice-read-if2
    cast-if2
    returns-2
    cast-counts
    mul-counts
    slice-write-counts
    same_length
    returns-3)
