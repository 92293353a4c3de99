-- `open_rest` meets its contract: four numbers, the sizes. Assumes nothing.
use Rattle.std.proofs.Common.{drop, arith}
use Rattle.listing_text.specs.Command.{numbers_of}
use Rattle.listing_text.proofs.Commands.{open-other, open-four, open-room}
use Rattle.listing_text.proofs.command.open_rest.Goals as goal

pub returns-then-numbers_count-ne4 : goal.returns-then-numbers_count-ne4
returns-then-numbers_count-ne4 c = open-other (numbers_of (drop c.args.at c.args.line.now)) c.numbers_count.result c.numbers_count.ensures c.if-numbers_count-ne4.true

pub numbers_write-requires : goal.numbers_write-requires
numbers_write-requires c = open-room c.args.line.now c.args.at c.requires (omega arith)

pub returns : goal.returns
returns c = open-four (numbers_of (drop c.args.at c.args.line.now)) _ c.numbers_write.new.values (omega arith) c.numbers_write.ensures
