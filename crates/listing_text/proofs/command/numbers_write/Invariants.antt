use Rattle.std.proofs.Common.{length, drop}
use Rattle.listing_text.proofs.Reading.{Writing}
use Rattle.listing_text.proofs.command.numbers_write.Given as goal

abbrev pub invariant-loop-count : goal.invariant-loop-count
invariant-loop-count l = Writing (drop l.at l.line) l.initial.values l.values (length l.yielded)
