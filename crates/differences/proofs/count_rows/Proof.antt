-- `differences::count_rows` meets its contract: what the first step leaves can be merged, and merged it is the count. Assumes nothing.
use mathlib.Core.Path.{◌∙◌}
use native.Mathlib.Omega.{arith}
use borrow.Author.Rules.{rules}
use Rattle.differences.proofs.Count.{bumped-merge, merged-counted}
use Rattle.differences.proofs.count_rows.Statement.{statement}
use Rattle.differences.proofs.count_rows.Tie as tie

bump-requires : tie.Need-bump-f-requires
bump-requires c κs = search rules

merge-requires : tie.Need-merge-requires
merge-requires c κs = bumped-merge c.requires c.bump-f.ensures

add-result : tie.Need-overflow_add-result
add-result c = let q = bumped-merge c.requires c.bump-f.ensures in omega arith

same_length : tie.Need-shape_of-work
same_length c = c.merge.ensures.only.same_length ∙ c.bump-f.ensures.only.same_length

returns : tie.Need-returns
returns c = merged-counted c.requires c.bump-f.ensures c.merge.ensures

pub count_rows_spec : {M : Type 1} → statement M
count_rows_spec = tie.close (tie.spec bump-requires merge-requires add-result same_length returns)
