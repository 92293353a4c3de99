-- `open_line` meets its contract: the opening's step, and the line of its answer. Assumes nothing.
use mathlib.Core.Path.{subst}
use Prim.Native.Nat.{ℕ}
use borrow.Author.Rules.{rules}
use Rattle.std.specs.Prelude.{Result}
use Rattle.factor.specs.declared.Factor.{Factor}
use Rattle.listing_memory.specs.Memory.{OpeningPrinted}
use Rattle.listing_answers.proofs.changing.open_line.Statement.{statement}
use Rattle.listing_answers.proofs.changing.open_line.Tie as tie

open-requires : tie.Need-open-opened-requires
open-requires c κs = search rules

numbered-requires : tie.Need-numbered-requires
numbered-requires c κs = tt

opened-line-requires : tie.Need-opened_line-requires
opened-line-requires c κs = c.requires

same_length : tie.Need-shape_of-heads
same_length c = c.open-opened.auto.heads

same-length-2 : tie.Need-shape_of-parents
same-length-2 c = c.open-opened.auto.parents

same-length-3 : tie.Need-shape_of-rows
same-length-3 c = c.open-opened.auto.rows

same-length-4 : tie.Need-shape_of-counts
same-length-4 c = c.open-opened.auto.counts

same-length-5 : tie.Need-shape_of-next
same-length-5 c = c.open-opened.auto.next

same-length-6 : tie.Need-shape_of-book_heads
same-length-6 c = c.open-opened.auto.book_heads

same-length-7 : tie.Need-shape_of-book_rows
same-length-7 c = c.open-opened.auto.book_rows

same-length-8 : tie.Need-shape_of-book_next
same-length-8 c = c.open-opened.auto.book_next

same-length-9 : tie.Need-shape_of-windows
same-length-9 c = c.open-opened.auto.windows

same-length-10 : tie.Need-shape_of-work
same-length-10 c = c.open-opened.auto.work

same-length-11 : tie.Need-shape_of-out
same-length-11 c = c.opened_line.auto.out

returns : tie.Need-returns
returns c =
    record { opened = c.open-opened.result; step = c.open-opened.ensures; printed = subst (λ (o : Result Factor ℕ). OpeningPrinted c.args.factor o c.args.out.now c.opened_line.new.out c.opened_line.result) c.numbered.ensures c.opened_line.ensures }

pub open_line_spec : {M : Type 1} → statement M
open_line_spec =
    tie.close
    (tie.spec
    open-requires
    numbered-requires
    opened-line-requires
    same_length
    same-length-2
    same-length-3
    same-length-4
    same-length-5
    same-length-6
    same-length-7
    same-length-8
    same-length-9
    same-length-10
    same-length-11
    returns)
