-- `line_end` meets its contract: one byte. Assumes nothing.
use native.Mathlib.Omega.{arith}
use Rattle.listing_text.proofs.Printing.{written_byte}
use borrow.Author.Rules.{rules}
use Rattle.listing_text.proofs.text.line_end.Statement.{statement}
use Rattle.listing_text.proofs.text.line_end.Tie as tie

slice-write-out : tie.Need-bounds-out-at
slice-write-out c = search rules

add-result : tie.Need-overflow_add-result
add-result c = search rules

same_length : tie.Need-shape_of-out
same_length c = search rules

returns : tie.Need-returns
returns c = written_byte c.args.out.now c.args.at 10 (omega arith)

pub line_end_spec : {M : Type 1} → statement M
line_end_spec = tie.close (tie.spec slice-write-out add-result same_length returns)
