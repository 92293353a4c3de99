use Rattle.std.proofs.Common.{refl, sym, ◌∙◌}
use borrow.Author.Tests.{eqb-true, eqb-false}
use Rattle.book.proofs.Reading.{reading-shared, reading-zeros, reading-free}
use Rattle.book.proofs.BookView.read_through.Goals as goal
use Rattle.book.proofs.BookView.read_through.Goals.{then-are_apart, else-are_apart}

pub returns-then-zeros-left : goal.returns-then-zeros-left
returns-then-zeros-left c =
    elim c.if-are_apart.branch [
      | then-are_apart w ↦
          reading-free (c.in-Some.ensures.walked _ refl) c.requires.sized c.args.free.0 c.are_apart.ensures w.if-are_apart.true w.zeros.ensures
          (eqb-true _ _ (sym w.value-is ∙ c.if-zeros-left.true)) c.has.ensures
      | else-are_apart w ↦ cc
    ]

pub returns-else-zeros-left : goal.returns-else-zeros-left
returns-else-zeros-left c =
    elim c.if-are_apart.branch [
      | then-are_apart w ↦
          c.if-zeros-left.false ∙
          sym (reading-zeros (c.in-Some.ensures.walked _ refl) c.requires.sized c.args.free.0 w.zeros.ensures (eqb-false _ _ (sym w.value-is ∙ c.if-zeros-left.false)))
      | else-are_apart w ↦
          c.if-zeros-left.false ∙
          sym (reading-shared (c.in-Some.ensures.walked _ refl) c.requires.sized c.args.free.0 c.are_apart.ensures w.if-are_apart.false)
    ]
