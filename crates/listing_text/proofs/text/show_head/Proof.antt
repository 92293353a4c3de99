-- `show_head` meets its contract: its parts one after another. Assumes nothing.
use native.Mathlib.Omega.{arith}
use Rattle.listing_text.specs.Text.{show_head}
use Rattle.listing_text.proofs.Printing.{written-join, head-length}
use borrow.Author.Rules.{rules}
use Rattle.listing_text.proofs.text.show_head.Statement.{statement}
use Rattle.listing_text.proofs.text.show_head.Tie as tie

number-requires : tie.Need-number-a-requires
number-requires c κs =
    let s = c.before.before in
    record { room = omega (arith, head-length s.args.column s.args.parent) }

marked-requires : tie.Need-marked-requires
marked-requires c κs =
    let s = c.before.before.before.before.before.before in
    record { room = omega (arith, head-length s.args.column s.args.parent) }

same_length : tie.Need-shape_of-out
same_length c = search rules

returns : tie.Need-returns
unfolding show_head
returns c =
    let s = c.before.before.before.before.before.before.before.before.before in
    written-join (omega (arith, head-length s.args.column s.args.parent)) c.before.before.before.before.before.before.number-a.ensures c.before.before.marked.ensures

pub show_head_spec : {M : Type 1} → statement M
show_head_spec = tie.close (tie.spec number-requires marked-requires same_length returns)
