-- All of the numbers from 1 on pass: they are the ids.
use Rattle.std.proofs.Common.{◌≡◌, ℕ, ◌+◌, ◌-◌, Bool, ◌&&◌, zero, suc, length, refl, ap, rules, arith, tests, ◌∙◌, add-one}
use Rattle.std.specs.List.{list_all, range_with_len}
use Rattle.std.proofs.lemmas.Iterator.{YieldsList-from_range}
use Rattle.std.proofs.lemmas.Iterator.Search.{all_from_yields_List}
use Rattle.lists.specs.Lists.{all, up_from}
use Rattle.windows.specs.Windowed.{minutes_fit}
use Rattle.windows.proofs.minutes.are_sound.Goals as goal

all-range : (f : ℕ → Bool) (a n : ℕ) → list_all f (range_with_len a n) ≡ all f (up_from a n)
unfolding all up_from
all-range f a zero = refl
all-range f a (suc n) = ap (λ (b : Bool). f a && b) (rw add-one (all-range f (suc a) n))

pub returns : goal.returns
returns c =
    let hs = c.args.book_heads.now in
    let n : length hs + 1 - 1 ≡ length hs = omega arith in
    all_from_yields_List (minutes_fit hs c.args.windows.now) _ _ _ c.all.ensures.ran
    (YieldsList-from_range 1 (length hs + 1) (length hs) refl n) (λ x b q k. search (rules, tests)) ∙
    all-range (minutes_fit hs c.args.windows.now) 1 (length hs)
