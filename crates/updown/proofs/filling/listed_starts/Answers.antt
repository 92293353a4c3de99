-- `updown::filling::listed_starts` meets its contract. Assumes nothing.
use Rattle.std.proofs.Common.{arith}
use Rattle.updown.proofs.Filled.{summing_start, summing-end, summing-next, listed-filling, listed-filling-next, listed-filled}
use Rattle.updown.proofs.filling.listed_starts.Goals as goal

pub loop-k-init : goal.loop-k-init
loop-k-init c = (summing_start c.requires.1, listed-filling c.args.row_counts.now c.args.row_list.now c.requires.0)

pub first_row-requires : goal.first_row-requires
first_row-requires c = summing-end c.loop-k.invariant.0 c.loop-k-test.true

pub overflow_add-at : goal.overflow_add-at
overflow_add-at c = omega (arith, summing-end c.loop-k.invariant.0 c.loop-k-test.true)

pub loop-k-preserved : goal.loop-k-preserved
loop-k-preserved c =
    let i = c.loop-k.invariant in (
      summing-next i.0 c.loop-k-test.true,
      listed-filling-next c.args.row_counts.now c.args.row_list.now i.0 c.loop-k-test.true i.1 c.first_row.ensures,
    )

pub returns : goal.returns
returns c = listed-filled c.args.row_counts.now c.args.row_list.now c.loop-k.invariant.1 c.loop-k-test.false
