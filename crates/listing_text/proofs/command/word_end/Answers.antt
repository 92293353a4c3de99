-- `word_end` meets its contract: a word ends at the first space, or at the line's end. Assumes nothing.
use Rattle.std.proofs.Common.{◌≡◌, ℕ, eqb, List, drop, sym, ◌∙◌, arith, rules, tests, length-drop}
use Rattle.std.proofs.lemmas.List.{take_rest}
use Rattle.std.proofs.lemmas.Iterator.{YieldsList-from_slice}
use Rattle.std.proofs.lemmas.Iterator.Search.{position_from_yields_List}
use Rattle.listing_text.proofs.Words.{space_in, word-found, word-whole}
use Rattle.listing_text.proofs.command.word_end.Goals as goal

pub returns-in-Some : goal.returns-in-Some
returns-in-Some c =
    let rest : List ℕ = drop c.args.at c.args.line.now in
    let found : c.position.result ≡ space_in rest = position_from_yields_List (λ b. eqb b 32) _ _ c.position.result c.position.ensures.ran (YieldsList-from_slice rest (c.iter.ensures.rest ∙ take_rest c.args.line.now c.args.at)) (λ x b q k. search (rules, tests)) in
    omega (arith, word-found rest c.in-Some.length (sym c.in-Some.is ∙ found))

pub returns-in-None : goal.returns-in-None
returns-in-None c =
    let rest : List ℕ = drop c.args.at c.args.line.now in
    let found : c.position.result ≡ space_in rest = position_from_yields_List (λ b. eqb b 32) _ _ c.position.result c.position.ensures.ran (YieldsList-from_slice rest (c.iter.ensures.rest ∙ take_rest c.args.line.now c.args.at)) (λ x b q k. search (rules, tests)) in
    omega (arith, word-whole rest (sym c.in-None.is ∙ found), length-drop c.args.at c.args.line.now)
