-- `nigvalds::nigvalds_read_0_7` meets its contract: the reader's entry, as a struct.
-- Assumes nothing.
use mathlib.Core.Path.{ap, ◌∙◌}
use borrow.Author.Rules.{rules}
use Rattle.crossing.specs.Crossing.{read_from}
use Rattle.nigvalds.proofs.nigvalds_read_0_7.Statement.{statement}
use Rattle.nigvalds.proofs.nigvalds_read_0_7.Tie as tie

entry-at-requires : tie.Need-entry_at-x-requires
entry-at-requires c κs = search rules

read-from-requires : tie.Need-read_from-requires
read-from-requires c κs = search rules

returns : tie.Need-returns
returns c = c.read_from.ensures ∙ ap read_from c.before.entry_at-x.ensures

pub nigvalds_read_0_7_spec : {M : Type 1} → statement M
nigvalds_read_0_7_spec = tie.close (tie.spec entry-at-requires read-from-requires returns)
