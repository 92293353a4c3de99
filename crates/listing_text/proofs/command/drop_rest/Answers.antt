-- `drop_rest` meets its contract: one number, and it is the id. Assumes nothing.
use Rattle.std.proofs.Common.{drop, sym, refl, ap, subst, ◌∙◌, arith}
use Rattle.std.specs.Option.{IsSome}
use Rattle.listing_text.specs.declared.command.Command.TheVariants.{Drop}
use Rattle.listing_text.specs.Command.{numbers_of}
use Rattle.listing_text.proofs.Reading.{First, first_below, first-number}
use Rattle.listing_text.proofs.Numbers.{number-is, some-value}
use Rattle.listing_text.proofs.Commands.{drop-other, drop-one}
use Rattle.listing_text.proofs.command.drop_rest.Goals as goal

pub returns-then-numbers_count-ne1 : goal.returns-then-numbers_count-ne1
returns-then-numbers_count-ne1 c = drop-other (numbers_of (drop c.args.at c.args.line.now)) c.numbers_count.result c.numbers_count.ensures c.if-numbers_count-ne1.true

pub word_end-end-requires : goal.word_end-end-requires
word_end-end-requires c = let h = first_below c.args.line.now c.args.at (omega arith) in omega arith

-- the number after the word's end
pub slice_bounds-number_of-end : goal.slice_bounds-number_of-end
slice_bounds-number_of-end c = (first-number c.args.line.now c.args.at c.word_end-end.result c.requires (omega arith) c.word_end-end.ensures).next.ends.within

pub unwrap-requires : goal.unwrap-requires
unwrap-requires c =
    let f : First c.args.line.now c.args.at c.word_end-end.result = first-number c.args.line.now c.args.at c.word_end-end.result c.requires (omega arith) c.word_end-end.ensures in
    subst IsSome (sym (c.number_of.ensures ∙ number-is _ f.number)) refl

pub returns : goal.returns
returns c =
    let f : First c.args.line.now c.args.at c.word_end-end.result = first-number c.args.line.now c.args.at c.word_end-end.result c.requires (omega arith) c.word_end-end.ensures in
    ap Drop (some-value _ (sym c.number_of.ensures ∙ c.unwrap.ensures) f.number) ∙ drop-one c.numbers_count.result f c.numbers_count.ensures c.if-numbers_count-ne1.false
