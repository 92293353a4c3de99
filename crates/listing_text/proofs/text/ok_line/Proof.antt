-- `ok_line` meets its contract: its parts one after another. Assumes nothing.
use native.Mathlib.Omega.{arith}
use Rattle.listing_text.specs.Text.{ok_line}
use Rattle.listing_text.proofs.Printing.{written-join, ok-length}
use borrow.Author.Rules.{rules}
use Rattle.listing_text.proofs.text.ok_line.Statement.{statement}
use Rattle.listing_text.proofs.text.ok_line.Tie as tie

letters-requires : tie.Need-letters-a-requires
letters-requires c κs =
    let s = c.before.before in
    record { room = omega (arith, ok-length s.args.touched s.args.entries s.args.grade) }

marked-requires : tie.Need-marked-b-requires
marked-requires c κs =
    let s = c.before.before.before.before.before.before in
    record { room = omega (arith, ok-length s.args.touched s.args.entries s.args.grade) }

marked-requires-2 : tie.Need-marked-d-requires
marked-requires-2 c κs =
    let s = c.before.before.before.before.before.before.before.before.before.before in
    record { room = omega (arith, ok-length s.args.touched s.args.entries s.args.grade) }

marked-requires-3 : tie.Need-marked-e-requires
marked-requires-3 c κs =
    let s = c.before.before.before.before.before.before.before.before.before.before.before.before.before.before in
    record { room = omega (arith, ok-length s.args.touched s.args.entries s.args.grade) }

line-end-requires : tie.Need-line_end-requires
line-end-requires c κs =
    let s = c.before.before.before.before.before.before.before.before.before.before.before.before.before.before.before.before.before.before in
    record { room = omega (arith, ok-length s.args.touched s.args.entries s.args.grade) }

same_length : tie.Need-shape_of-out
same_length c = search rules

returns : tie.Need-returns
unfolding ok_line
returns c =
    let l5 = c.before.before in
    let l4 = l5.before.before.before.before in
    let l3 = l4.before.before.before.before in
    let l2 = l3.before.before.before.before in
    let l1 = l2.before.before.before.before in
    let s = l1.before.before.before in
    let long = ok-length s.args.touched s.args.entries s.args.grade in
    let w2 = written-join (omega arith) l1.letters-a.ensures l2.marked-b.ensures in
    let w3 = written-join (omega arith) w2 l3.marked-d.ensures in
    let w4 = written-join (omega arith) w3 l4.marked-e.ensures in
    written-join (omega arith) w4 l5.line_end.ensures

pub ok_line_spec : {M : Type 1} → statement M
ok_line_spec =
    tie.close
    (tie.spec
    letters-requires
    marked-requires
    marked-requires-2
    marked-requires-3
    line-end-requires
    same_length
    returns)
