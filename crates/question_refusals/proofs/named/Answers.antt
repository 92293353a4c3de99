-- `question_refusals::named` meets its contract: few enough rows, by whether one of them is outside. Assumes nothing.
use Rattle.question_refusals.proofs.Rows.{named-outside, named_end}
use Rattle.question_refusals.proofs.named.Goals as goal

pub returns-then-some_outside : goal.returns-then-some_outside
returns-then-some_outside c =
    named-outside c.args.m c.args.row_list.now c.shape_outside.ensures c.if-shape_outside.false c.some_outside.ensures c.if-some_outside.true

pub returns : goal.returns
returns c = named_end c.args.m c.args.row_list.now c.shape_outside.ensures c.if-shape_outside.false c.some_outside.ensures c.if-some_outside.false
