-- `marked` meets its contract: a byte, then the call's digits. Assumes nothing.
use mathlib.Core.Path.{refl, ◌∙◌}
use native.Mathlib.Omega.{arith}
use lib.ListN.{length-set}
use Rattle.listing_text.proofs.Printing.{written_byte, written-join}
use borrow.Author.Rules.{rules}
use Rattle.listing_text.proofs.text.marked.Statement.{statement}
use Rattle.listing_text.proofs.text.marked.Tie as tie

slice-write-out : tie.Need-bounds-out-at
slice-write-out c = search rules

add-number : tie.Need-overflow_add-at
add-number c = search rules

number-requires : tie.Need-number-requires
number-requires c κs = record { room = simp length-set (omega arith) }

same_length : tie.Need-shape_of-out
same_length c = c.before.before.number.auto.out ∙ simp length-set refl

returns : tie.Need-returns
returns c =
    let s = c.before.before.before.before.before in
    written-join (omega arith) (written_byte s.args.out.now s.args.at s.args.mark (omega arith)) c.before.before.number.ensures

pub marked_spec : {M : Type 1} → statement M
marked_spec = tie.close (tie.spec slice-write-out add-number number-requires same_length returns)
