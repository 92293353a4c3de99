-- `letters` meets its contract: two bytes. Assumes nothing.
use native.Mathlib.Omega.{arith}
use lib.ListN.{length-set}
use Rattle.listing_text.proofs.Printing.{written-pair}
use borrow.Author.Rules.{rules}
use Rattle.listing_text.proofs.text.letters.Statement.{statement}
use Rattle.listing_text.proofs.text.letters.Tie as tie

slice-write-out : tie.Need-bounds-out-at
slice-write-out c = search rules

add-out : tie.Need-overflow_add-out
add-out c = search rules

slice-write-out-2 : tie.Need-bounds-out-at-2
slice-write-out-2 c = simp length-set (omega arith)

add-result : tie.Need-overflow_add-result
add-result c = search rules

same_length : tie.Need-shape_of-out
same_length c = search rules

returns : tie.Need-returns
returns c = written-pair c.args.out.now c.args.at c.args.first c.args.second (omega arith)

pub letters_spec : {M : Type 1} → statement M
letters_spec =
    tie.close (tie.spec slice-write-out add-out slice-write-out-2 add-result same_length returns)
