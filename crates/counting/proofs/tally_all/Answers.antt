-- The diagonal, the children and the columns that start there are counted one after another (proofs/Given.antt).
use Rattle.std.proofs.Common.{arith}
use Rattle.counting.proofs.Given.{giving-children, giving-columns, giving-first, giving-second, giving-end}
use Rattle.counting.proofs.tally_all.Goals as goal

pub tally_children-children-requires : goal.tally_children-children-requires
tally_children-children-requires c = giving-children c.requires

pub tally_columns-columns-requires : goal.tally_columns-columns-requires
tally_columns-columns-requires c = giving-columns c.requires c.tally_children-children.ensures

pub overflow_add-result : goal.overflow_add-result
overflow_add-result c = omega (arith, giving-first c.requires c.tally_children-children.ensures)

pub overflow_add-result-2 : goal.overflow_add-result-2
overflow_add-result-2 c =
    omega (arith, giving-first c.requires c.tally_children-children.ensures, giving-second c.requires c.tally_children-children.ensures c.tally_columns-columns.ensures)

pub returns : goal.returns
returns c = giving-end c.requires c.tally_children-children.ensures c.tally_columns-columns.ensures
