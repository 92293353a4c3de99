-- `show_pair` meets its contract: its parts one after another. Assumes nothing.
use native.Mathlib.Omega.{arith}
use Rattle.listing_text.specs.Text.{show_pair}
use Rattle.listing_text.proofs.Printing.{written-join, pair-length}
use borrow.Author.Rules.{rules}
use Rattle.listing_text.proofs.text.show_pair.Statement.{statement}
use Rattle.listing_text.proofs.text.show_pair.Tie as tie

marked-requires : tie.Need-marked-a-requires
marked-requires c κs =
    let s = c.before.before in
    record { room = omega (arith, pair-length s.args.row s.args.multiplicity) }

marked-requires-2 : tie.Need-marked-requires
marked-requires-2 c κs =
    let s = c.before.before.before.before.before.before in
    record { room = omega (arith, pair-length s.args.row s.args.multiplicity) }

same_length : tie.Need-shape_of-out
same_length c = search rules

returns : tie.Need-returns
unfolding show_pair
returns c =
    let s = c.before.before.before.before.before.before.before.before.before in
    written-join (omega (arith, pair-length s.args.row s.args.multiplicity)) c.before.before.before.before.before.before.marked-a.ensures c.before.before.marked.ensures

pub show_pair_spec : {M : Type 1} → statement M
show_pair_spec = tie.close (tie.spec marked-requires marked-requires-2 same_length returns)
