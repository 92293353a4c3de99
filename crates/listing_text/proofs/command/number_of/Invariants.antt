-- `number_of`: the digits so far give the value, and what is left decides as the word does. Assumes nothing.
use Rattle.listing_text.proofs.Numbers.{Spelling}
use Rattle.listing_text.proofs.command.number_of.Given as goal

abbrev pub invariant-loop-digit : goal.invariant-loop-digit
invariant-loop-digit l = Spelling l.word l.value l.digit-index
