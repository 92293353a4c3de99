-- `numbers_count` meets its contract: it goes through the words of the line but the first. Assumes nothing.
use Rattle.std.proofs.Common.{◌≡◌, ℕ, ◌<◌, List, length, get_or, drop, refl, sym, ap, ◌∙◌, arith, rules, tests}
use Rattle.std.proofs.lemmas.List.{length_push}
use Rattle.std.specs.Option.{is_some}
use Rattle.listing_text.specs.Command.{later_words}
use Rattle.listing_text.proofs.Splitting.{begun, word-turn, words-end}
use Rattle.listing_text.proofs.Numbers.{some-number, no-number}
use Rattle.listing_text.proofs.Reading.{counted-all, counting-turn, counting-bad, counting-end}
use Rattle.listing_text.proofs.command.numbers_count.Goals as goal

pub loop-word-init : goal.loop-word-init
loop-word-init c = (refl, counted-all (drop c.args.at c.args.line.now))

pub returns-then-is_none : goal.returns-then-is_none
returns-then-is_none c =
    let ws : List (List ℕ) = later_words (drop c.args.at c.args.line.now) in
    let b = begun c.args.line.now c.args.at c.into_iter-word-iterator.ensures.into_iter_gives c.skip-word-items.ensures.source c.skip-word-items.ensures.count c.split.ensures.rest c.split.ensures.done in
    let t : (c.loop-word.count < length ws) × (c.in-Some.word.now ≡ get_or ws c.loop-word.count c.in-Some.word.now) =
    rw c.loop-word.invariant.0 (word-turn c.loop-word.yielded c.loop-word.word-iterator c.loop-word.yielded_by b c.next.result c.next.new.self c.in-Some.word c.in-Some.is c.next.ensures.steps (λ x b q k. search (rules, tests))) in
    counting-bad ws c.loop-word.invariant.1 t.0 t.1 (no-number c.in-Some.word.now (ap is_some (sym c.number_of.ensures) ∙ c.if-is_none.ensures))

pub loop-word-preserved : goal.loop-word-preserved
loop-word-preserved c =
    let ws : List (List ℕ) = later_words (drop c.args.at c.args.line.now) in
    let b = begun c.args.line.now c.args.at c.into_iter-word-iterator.ensures.into_iter_gives c.skip-word-items.ensures.source c.skip-word-items.ensures.count c.split.ensures.rest c.split.ensures.done in
    let t : (c.loop-word.count < length ws) × (c.in-Some.word.now ≡ get_or ws c.loop-word.count c.in-Some.word.now) =
    rw c.loop-word.invariant.0 (word-turn c.loop-word.yielded c.loop-word.word-iterator c.loop-word.yielded_by b c.next.result c.next.new.self c.in-Some.word c.in-Some.is c.next.ensures.steps (λ x b q k. search (rules, tests))) in
    (rw length_push (omega arith), counting-turn ws c.loop-word.invariant.1 t.0 t.1 (some-number c.in-Some.word.now (ap is_some (sym c.number_of.ensures) ∙ c.if-is_none.ensures)))

pub returns : goal.returns
returns c =
    let ws : List (List ℕ) = later_words (drop c.args.at c.args.line.now) in
    let b = begun c.args.line.now c.args.at c.into_iter-word-iterator.ensures.into_iter_gives c.skip-word-items.ensures.source c.skip-word-items.ensures.count c.split.ensures.rest c.split.ensures.done in
    counting-end ws c.loop-word.invariant.1 (c.loop-word.invariant.0 ∙ words-end c.loop-word.yielded c.loop-word.word-iterator c.loop-word.yielded_by b c.next.result c.next.new.self c.in-None.is c.next.ensures.steps (λ x b q k. search (rules, tests)))
