-- `parse` meets its contract: the first word is compared with the four names in turn, and each answer is the definition's. Assumes
-- nothing.
use Rattle.std.proofs.Common.{sym, inl, inr, ◌∙◌, arith, length-take-le}
use Rattle.listing_text.proofs.Words.{Front, word-front}
use Rattle.listing_text.proofs.Commands.{parsed-long, parsed-open, parsed-add, parsed-drop, parsed-show, parsed-more, parsed-other}
use Rattle.listing_text.proofs.command.parse.Goals as goal

pub returns-then-line-gt1999 : goal.returns-then-line-gt1999
returns-then-line-gt1999 c = parsed-long c.args.line.now c.args.rows.now (omega arith)

pub slice_bounds-word-end : goal.slice_bounds-word-end
slice_bounds-word-end c = sym (length-take-le c.word_end-end.result c.args.line.now (word-front c.args.line.now c.word_end-end.result c.word_end-end.ensures).ends.within)

pub open_rest-requires : goal.open_rest-requires
open_rest-requires c = (word-front c.args.line.now c.word_end-end.result c.word_end-end.ensures).ends

pub add_rest-requires : goal.add_rest-requires
add_rest-requires c = record { ends = (word-front c.args.line.now c.word_end-end.result c.word_end-end.ensures).ends; short = omega arith; enough = c.requires }

pub drop_rest-requires : goal.drop_rest-requires
drop_rest-requires c = (word-front c.args.line.now c.word_end-end.result c.word_end-end.ensures).ends

pub returns-then-word_is : goal.returns-then-word_is
returns-then-word_is c =
    parsed-open c.if-line-gt1999.false (word-front c.args.line.now c.word_end-end.result c.word_end-end.ensures) c.args.rows.now c.open_rest.result (sym c.if-word_is.ensures) c.open_rest.ensures

pub returns-then-word_is-2 : goal.returns-then-word_is-2
returns-then-word_is-2 c =
    parsed-add c.if-line-gt1999.false (word-front c.args.line.now c.word_end-end.result c.word_end-end.ensures) (sym c.if-word_is.ensures)
    c.args.rows.now c.add_rest.new.rows c.add_rest.result (sym c.if-word_is-2.ensures) c.add_rest.ensures

pub returns-then-word_is-3 : goal.returns-then-word_is-3
returns-then-word_is-3 c =
    parsed-drop c.if-line-gt1999.false (word-front c.args.line.now c.word_end-end.result c.word_end-end.ensures) (sym c.if-word_is.ensures) (sym c.if-word_is-2.ensures)
    c.args.rows.now c.drop_rest.result (sym c.if-word_is-3.ensures) c.drop_rest.ensures

pub returns-then-end-line : goal.returns-then-end-line
returns-then-end-line c =
    parsed-show c.if-line-gt1999.false (word-front c.args.line.now c.word_end-end.result c.word_end-end.ensures) (sym c.if-word_is.ensures) (sym c.if-word_is-2.ensures) (sym c.if-word_is-3.ensures)
    c.args.rows.now (sym c.if-word_is-4.ensures) (omega arith)

pub returns-else-word_is-4 : goal.returns-else-word_is-4
returns-else-word_is-4 c =
    let front : Front c.args.line.now c.word_end-end.result = word-front c.args.line.now c.word_end-end.result c.word_end-end.ensures in
    elim c.else-word_is-4.either [
      | inl h ↦
          parsed-more c.if-line-gt1999.false front (sym c.if-word_is.ensures) (sym c.if-word_is-2.ensures) (sym c.if-word_is-3.ensures)
          c.args.rows.now (sym c.word_is-else-word_is-3.ensures ∙ h.0) (omega (arith, front.ends.within, h.1))
      | inr h ↦
          parsed-other c.if-line-gt1999.false front (sym c.if-word_is.ensures) (sym c.if-word_is-2.ensures) (sym c.if-word_is-3.ensures)
          c.args.rows.now (sym c.word_is-else-word_is-3.ensures ∙ h)
    ]
