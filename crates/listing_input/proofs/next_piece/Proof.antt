-- `next_piece` meets its contract: a write of what waits, then a read. Assumes nothing.
use native.Mathlib.Omega.{arith}
use borrow.Author.Rules.{rules}
use lib.Seq.{length-take-le}
use Rattle.listing_input.proofs.Taking.{piece-read}
use Rattle.listing_input.proofs.next_piece.Statement.{statement}
use Rattle.listing_input.proofs.next_piece.Tie as tie

slice-aggregate-write : tie.Need-slice_bounds-write-end
slice-aggregate-write c = omega (arith, length-take-le c.args.waiting c.args.out.now c.requires)

write-requires : tie.Need-write-after-requires
write-requires c κs = search rules

read-requires : tie.Need-read-requires
read-requires c κs = search rules

same_length : tie.Need-shape_of-piece
same_length c = c.read.auto.piece

returns : tie.Need-returns
returns c = piece-read c.write-after.ensures c.read.ensures

pub next_piece_spec : {M : Type 1} → statement M
next_piece_spec = tie.close (tie.spec slice-aggregate-write write-requires read-requires same_length returns)
