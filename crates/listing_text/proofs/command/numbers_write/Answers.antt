-- `numbers_write` meets its contract: it goes through the words of the line but the first. Assumes nothing.
use Rattle.std.proofs.Common.{◌≡◌, ◌+◌, true, [], ◌∷◌, ◌++◌, length, refl, sym, ap, subst, ◌∙◌, arith, rules, tests}
use Rattle.std.proofs.lemmas.List.{length_push}
use Rattle.std.specs.Option.{IsSome}
use Rattle.std.specs.Iterator.Adapters.{enumerate_count}
use Rattle.listing_text.specs.Command.{is_number, value_of}
use Rattle.listing_text.proofs.Splitting.{begun-numbered, placed-turn, placed-end}
use Rattle.listing_text.proofs.Numbers.{number-is, some-value}
use Rattle.listing_text.proofs.Reading.{writing_start, writing-number, writing-length, writing-below, writing-keep, writing-end}
use Rattle.listing_text.proofs.command.numbers_write.Goals as goal

pub loop-count-init : goal.loop-count-init
loop-count-init c = writing_start c.requires.good c.requires.fits

pub unwrap-requires : goal.unwrap-requires
unwrap-requires c =
    let b = begun-numbered c.args.line.now c.args.at c.into_iter-count-iterator.ensures.into_iter_gives c.enumerate-count-items.ensures.source c.skip.ensures.source c.skip.ensures.count c.split.ensures.rest c.split.ensures.done in
    let p = placed-turn c.loop-count.yielded c.loop-count.count-iterator c.loop-count.yielded_by b (ap enumerate_count c.into_iter-count-iterator.ensures.into_iter_gives ∙ c.enumerate-count-items.ensures.count) c.next.result c.next.new.self (c.in-Some.count, c.in-Some.word) c.in-Some.is c.next.ensures.steps (λ x b q k. search (rules, tests)) in
    let n : is_number c.in-Some.word.now ≡ true = writing-number c.requires.good c.requires.fits c.loop-count.invariant p.below p.word in
    subst IsSome (sym (c.number_of.ensures ∙ number-is c.in-Some.word.now n)) refl

pub bounds-values-count : goal.bounds-values-count
bounds-values-count c =
    let b = begun-numbered c.args.line.now c.args.at c.into_iter-count-iterator.ensures.into_iter_gives c.enumerate-count-items.ensures.source c.skip.ensures.source c.skip.ensures.count c.split.ensures.rest c.split.ensures.done in
    let p = placed-turn c.loop-count.yielded c.loop-count.count-iterator c.loop-count.yielded_by b (ap enumerate_count c.into_iter-count-iterator.ensures.into_iter_gives ∙ c.enumerate-count-items.ensures.count) c.next.result c.next.new.self (c.in-Some.count, c.in-Some.word) c.in-Some.is c.next.ensures.steps (λ x b q k. search (rules, tests)) in
    omega (arith, p.place, writing-length c.requires.good c.requires.fits c.loop-count.invariant, writing-below c.requires.good c.requires.fits c.loop-count.invariant p.below p.word)

pub loop-count-preserved : goal.loop-count-preserved
loop-count-preserved c =
    let b = begun-numbered c.args.line.now c.args.at c.into_iter-count-iterator.ensures.into_iter_gives c.enumerate-count-items.ensures.source c.skip.ensures.source c.skip.ensures.count c.split.ensures.rest c.split.ensures.done in
    let p = placed-turn c.loop-count.yielded c.loop-count.count-iterator c.loop-count.yielded_by b (ap enumerate_count c.into_iter-count-iterator.ensures.into_iter_gives ∙ c.enumerate-count-items.ensures.count) c.next.result c.next.new.self (c.in-Some.count, c.in-Some.word) c.in-Some.is c.next.ensures.steps (λ x b q k. search (rules, tests)) in
    let n : is_number c.in-Some.word.now ≡ true = writing-number c.requires.good c.requires.fits c.loop-count.invariant p.below p.word in
    let v : c.unwrap.result ≡ value_of c.in-Some.word.now = some-value c.in-Some.word.now (sym c.number_of.ensures ∙ c.unwrap.ensures) n in
    let place : c.in-Some.count ≡ length c.loop-count.yielded = p.place in
    let e : length (c.loop-count.yielded ++ ((c.in-Some.count, c.in-Some.word) ∷ [])) ≡ length c.loop-count.yielded + 1 = length_push _ _ in
    rw (e, place, v) (writing-keep c.requires.good c.requires.fits c.loop-count.invariant p.below p.word)

pub returns : goal.returns
returns c =
    let b = begun-numbered c.args.line.now c.args.at c.into_iter-count-iterator.ensures.into_iter_gives c.enumerate-count-items.ensures.source c.skip.ensures.source c.skip.ensures.count c.split.ensures.rest c.split.ensures.done in
    writing-end c.requires.good c.requires.fits c.loop-count.invariant (placed-end c.loop-count.yielded c.loop-count.count-iterator c.loop-count.yielded_by b (ap enumerate_count c.into_iter-count-iterator.ensures.into_iter_gives ∙ c.enumerate-count-items.ensures.count) c.next.result c.next.new.self c.in-None.is c.next.ensures.steps (λ x b q k. search (rules, tests)))
