-- `no_line` meets its contract: its parts one after another. Assumes nothing.
use native.Mathlib.Omega.{arith}
use Rattle.listing_text.specs.Text.{no_line}
use Rattle.listing_text.proofs.Printing.{written-join, no_length}
use borrow.Author.Rules.{rules}
use Rattle.listing_text.proofs.text.no_line.Statement.{statement}
use Rattle.listing_text.proofs.text.no_line.Tie as tie

letters-requires : tie.Need-letters-a-requires
letters-requires c κs =
    let s = c.before.before in
    record { room = omega (arith, no_length s.args.refusal s.args.position) }

marked-requires : tie.Need-marked-b-requires
marked-requires c κs =
    let s = c.before.before.before.before.before.before in
    record { room = omega (arith, no_length s.args.refusal s.args.position) }

marked-requires-2 : tie.Need-marked-d-requires
marked-requires-2 c κs =
    let s = c.before.before.before.before.before.before.before.before.before.before in
    record { room = omega (arith, no_length s.args.refusal s.args.position) }

line-end-requires : tie.Need-line_end-requires
line-end-requires c κs =
    let s = c.before.before.before.before.before.before.before.before.before.before.before.before.before.before in
    record { room = omega (arith, no_length s.args.refusal s.args.position) }

same_length : tie.Need-shape_of-out
same_length c = search rules

returns : tie.Need-returns
unfolding no_line
returns c =
    let l4 = c.before.before in
    let l3 = l4.before.before.before.before in
    let l2 = l3.before.before.before.before in
    let l1 = l2.before.before.before.before in
    let s = l1.before.before.before in
    let long = no_length s.args.refusal s.args.position in
    let w2 = written-join (omega arith) l1.letters-a.ensures l2.marked-b.ensures in
    let w3 = written-join (omega arith) w2 l3.marked-d.ensures in
    written-join (omega arith) w3 l4.line_end.ensures

pub no_line_spec : {M : Type 1} → statement M
no_line_spec =
    tie.close
    (tie.spec
    letters-requires
    marked-requires
    marked-requires-2
    line-end-requires
    same_length
    returns)
