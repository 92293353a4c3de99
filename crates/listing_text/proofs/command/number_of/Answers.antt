-- `number_of` meets its contract. Assumes nothing.
use Rattle.std.proofs.Common.{sym, ◌∙◌, arith, rules}
use Rattle.listing_text.proofs.Numbers.{number-none, number-is-none, spelling-start, spelling-other, spelling-turn, spelling-large, spelling-end}
use Rattle.listing_text.proofs.command.number_of.Goals as goal

pub returns-then-is_empty : goal.returns-then-is_empty
returns-then-is_empty c = sym (number-is-none c.args.word.now (number-none c.args.word.now (search rules)))

pub loop-digit-init : goal.loop-digit-init
loop-digit-init c = spelling-start c.args.word.now (search rules)

pub returns-then-not-is_ascii_digit : goal.returns-then-not-is_ascii_digit
returns-then-not-is_ascii_digit c = spelling-other c.loop-digit.invariant c.loop-digit-test.true (sym c.is_ascii_digit.ensures.value ∙ c.if-not-is_ascii_digit.true)

pub returns-then-value-ge-LIMIT : goal.returns-then-value-ge-LIMIT
returns-then-value-ge-LIMIT c =
    spelling-large c.loop-digit.invariant c.loop-digit-test.true (sym c.is_ascii_digit.ensures.value ∙ c.if-not-is_ascii_digit.false) (omega arith)

pub loop-digit-preserved : goal.loop-digit-preserved
loop-digit-preserved c =
    spelling-turn c.loop-digit.invariant c.loop-digit-test.true (sym c.is_ascii_digit.ensures.value ∙ c.if-not-is_ascii_digit.false) (omega arith) (omega arith)

pub returns : goal.returns
returns c = spelling-end c.loop-digit.invariant c.loop-digit-test.false
