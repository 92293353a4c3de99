-- `word_is` meets its contract. Assumes nothing.
use Rattle.std.proofs.Common.{◌∙◌}
use Rattle.listing_text.proofs.Same.{bytes-same}
use Rattle.listing_text.proofs.command.word_is.Goals as goal

pub returns : goal.returns
returns c = c.eq.ensures ∙ bytes-same c.args.word.now c.args.name.now
