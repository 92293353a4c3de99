-- `take_line` meets its contract: it finds the newline and copies what is before it, as far as there is room. Assumes nothing.
use Rattle.std.proofs.Common.{◌≡◌, ℕ, ◌+◌, ◌-◌, eqb, List, length, take, drop, ap, ◌∙◌, rules, tests, min}
use Rattle.std.proofs.lemmas.List.{take_rest}
use Rattle.std.specs.Option.{unwrap_or}
use Rattle.std.proofs.lemmas.Iterator.{YieldsList-from_slice}
use Rattle.std.proofs.lemmas.Iterator.Search.{position_from_yields_List}
use Rattle.listing_lines.proofs.Lines.{newline_in, mapped, grown}
use Rattle.listing_lines.proofs.take_line.Goals as goal

pub returns : goal.returns
returns c =
    let rest : List ℕ = drop c.args.place c.args.piece.now in
    let same : take (length c.args.piece.now - c.args.place) rest ≡ rest = take_rest c.args.piece.now c.args.place in
    let found : c.position-newline.result ≡ newline_in rest =
    position_from_yields_List (λ b. eqb b 10) _ _ c.position-newline.result c.position-newline.ensures.ran (YieldsList-from_slice rest (c.iter.ensures.rest ∙ same)) (λ x b q k. search (rules, tests)) in
    let end : c.unwrap_or-end.result ≡ unwrap_or c.position-newline.result (length rest) = c.unwrap_or-end.ensures ∙ ap (λ (l : List ℕ). unwrap_or c.position-newline.result (length l)) same in
    let count : c.min-count.result ≡ min c.unwrap_or-end.result (length c.args.line.now - c.args.length) = c.min-count.ensures in
    let copied : c.copy_from_slice.new.self ≡ take c.min-count.result rest = c.copy_from_slice.ensures.after ∙ ap (take c.min-count.result) same in
    let after = mapped (λ n. c.args.place + n + 1) c.position-newline.result c.map.result c.map.ensures.cases (λ x y h. search rules) in
    rw copied (grown _ c.requires found (count ∙ ap (λ (n : ℕ). min n (length c.args.line.now - c.args.length)) end) after)
