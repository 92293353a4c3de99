use Rattle.std.proofs.Common.{◌≡◌, length, drop}
use Rattle.listing_text.specs.Command.{later_words, numbers_of}
use Rattle.listing_text.proofs.Reading.{counted}
use Rattle.listing_text.proofs.command.numbers_count.Given as goal

abbrev pub invariant-loop-word : goal.invariant-loop-word
invariant-loop-word l = (l.count ≡ length l.yielded) × (counted l.count (drop l.count (later_words (drop l.at l.line))) ≡ length (numbers_of (drop l.at l.line)))
