-- `add_rest` meets its contract: two numbers or more, an id and rows. Assumes nothing.
use Rattle.std.proofs.Common.{drop, sym, refl, subst, ◌∙◌, arith}
use Rattle.std.specs.Option.{IsSome}
use Rattle.listing_text.specs.Command.{numbers_of}
use Rattle.listing_text.proofs.Reading.{First, first_below, first-number}
use Rattle.listing_text.proofs.Numbers.{number-is, some-value}
use Rattle.listing_text.proofs.Commands.{add-few, add-rows, add-more}
use Rattle.listing_text.proofs.command.add_rest.Goals as goal

pub returns-then-count-lt2 : goal.returns-then-count-lt2
returns-then-count-lt2 c = add-few (numbers_of (drop c.args.at c.args.line.now)) c.args.rows.now c.numbers_count-count.result c.numbers_count-count.ensures (omega arith)

pub word_end-end-requires : goal.word_end-end-requires
word_end-end-requires c = let h = first_below c.args.line.now c.args.at (omega arith) in omega arith

-- the id after the word's end
pub slice_bounds-number_of-end : goal.slice_bounds-number_of-end
slice_bounds-number_of-end c = (first-number c.args.line.now c.args.at c.word_end-end.result c.requires.ends (omega arith) c.word_end-end.ensures).next.ends.within

pub unwrap-id-requires : goal.unwrap-id-requires
unwrap-id-requires c =
    let f : First c.args.line.now c.args.at c.word_end-end.result = first-number c.args.line.now c.args.at c.word_end-end.result c.requires.ends (omega arith) c.word_end-end.ensures in
    subst IsSome (sym (c.number_of.ensures ∙ number-is _ f.number)) refl

pub numbers_write-requires : goal.numbers_write-requires
numbers_write-requires c =
    (add-rows c.requires (first-number c.args.line.now c.args.at c.word_end-end.result c.requires.ends (omega arith) c.word_end-end.ensures) (omega arith)).numbers

pub overflow_cast-others : goal.overflow_cast-others
overflow_cast-others c =
    let r = add-rows c.requires (first-number c.args.line.now c.args.at c.word_end-end.result c.requires.ends (omega arith) c.word_end-end.ensures) (omega arith) in
    omega arith

pub returns : goal.returns
returns c =
    let f : First c.args.line.now c.args.at c.word_end-end.result = first-number c.args.line.now c.args.at c.word_end-end.result c.requires.ends (omega arith) c.word_end-end.ensures in
    add-more c.args.rows.now c.numbers_write.new.values c.numbers_count-count.result c.unwrap-id.result f c.numbers_count-count.ensures (omega arith)
    (some-value _ (sym c.number_of.ensures ∙ c.unwrap-id.ensures) f.number) c.numbers_write.ensures
