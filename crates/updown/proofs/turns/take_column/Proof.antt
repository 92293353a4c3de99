-- `updown::turns::take_column` meets its contract: by the test whether a row is marked. Assumes nothing.
use mathlib.Core.Path.{refl}
use native.Mathlib.Omega.{arith}
use borrow.Author.Rules.{rules}
use Rattle.updown.proofs.turns.take_column.Statement.{statement}
use Rattle.updown.proofs.turns.take_column.Tie as tie

cast-next-marked : tie.Need-overflow_cast-last
cast-next-marked c = search rules

next-marked-requires : tie.Need-next_marked-j-requires
next-marked-requires c κs = search rules

same_length : tie.Need-shape_of-work-then-j-eq0
same_length c = search rules

returns : tie.Need-returns-then-j-eq0
returns c = record { next = c.next_marked-j.ensures; begins = λ n. absurd (n c.if-j-eq0.true); ends = λ _. refl }

begin-requires : tie.Need-begin-requires
begin-requires c κs =
    let t = c.next_marked-j.ensures.found c.if-j-eq0.false in
    let p = c.requires in
    (omega (arith, p.0.low, p.0.long), p.0.m-bound, p.2, omega (arith, c.if-j-eq0.false), t.1.0, p.3)

same-length-2 : tie.Need-shape_of-work
same-length-2 c = search rules

returns-2 : tie.Need-returns
returns-2 c =
    let n = c.if-j-eq0.false in
    record { next = c.next_marked-j.ensures; begins = λ _. c.begin.ensures; ends = λ z. absurd (n z) }

pub take_column_spec : {M : Type 1} → statement M
take_column_spec =
    tie.close
    (tie.spec
    cast-next-marked
    next-marked-requires
    same_length
    returns
    begin-requires
    same-length-2
    returns-2)
