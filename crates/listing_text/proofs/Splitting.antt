-- The words of a line as std's `split` gives them: how a loop over all but the first finds the next one, and how it ends. Assumes nothing.
use Rattle.std.proofs.Common.{◌≡◌, ℕ, ◌+◌, ◌-◌, ◌<◌, Bool, false, eqb, Option, Some, None, List, length, get_or, take, drop, Bor, refl, ap, ◌∙◌, arith}
use Rattle.std.proofs.lemmas.List.{take_rest}
use denote.Param.Members.{Mut}
use Rattle.std.specs.Fn.{CalledAt}
use Rattle.std.specs.Iterator.{Yields}
use Rattle.std.specs.Iterator.Adapters.{skip_source, skip_count, skip_steps, enumerate_source, enumerate_count, enumerate_steps}
use Rattle.std.specs.Slice.Iter.{split_rest, split_done, split_callee, split_steps}
use Rattle.std.specs.List.{enumerate_from}
use Rattle.std.specs.declared.iter.Skip.{Skip}
use Rattle.std.specs.declared.iter.Enumerate.{Enumerate}
use Rattle.std.specs.declared.slice.Split.{Split}
use Rattle.std.proofs.lemmas.Iterator.{YieldsList}
use Rattle.std.proofs.lemmas.Iterator.Splits.{YieldsList-from_slice_split}
use Rattle.std.proofs.lemmas.Iterator.Adapters.{YieldsList-from_skip}
use Rattle.std.proofs.lemmas.Iterator.Consumers.{YieldsList-turn, YieldsList-end, YieldsList-from_enumerate}
use Rattle.std.proofs.lemmas.List.FromFn.{length-enumerate_from, get_or-enumerate_from}
use Rattle.listing_text.specs.Command.{later_words}
use Rattle.listing_text.proofs.Words.{words-skip}

-- nothing is taken of some bytes yet
pub record Begun {F : Type 0} (s : Skip (Split ℕ F)) (bs : List ℕ) : Type 0 where
  pub rest : split_rest (skip_source s) ≡ bs
  pub done : split_done (skip_source s) ≡ false
  pub first : skip_count s ≡ 1

pub begun : {F : Type 0} {s from : Skip (Split ℕ F)} {cut : Split ℕ F} (line : List ℕ) (at : ℕ) → s ≡ from → skip_source from ≡ cut → skip_count from ≡ 1
    → split_rest cut ≡ take (length line - at) (drop at line) → split_done cut ≡ false → Begun s (drop at line)
begun line at e f n r d =
    let source = ap skip_source e ∙ f in
    record { rest = ap split_rest source ∙ r ∙ take_rest line at; done = ap split_done source ∙ d; first = ap skip_count e ∙ n }

-- the same where the places count on
pub begun-numbered : {F : Type 0} {s from : Enumerate (Skip (Split ℕ F))} {skipped : Skip (Split ℕ F)} {cut : Split ℕ F} (line : List ℕ) (at : ℕ) → s ≡ from → enumerate_source from ≡ skipped
    → skip_source skipped ≡ cut → skip_count skipped ≡ 1 → split_rest cut ≡ take (length line - at) (drop at line) → split_done cut ≡ false → Begun (enumerate_source s) (drop at line)
begun-numbered line at e f g n r d = begun line at (ap enumerate_source e ∙ f) g n r d

-- a closure that says of each byte whether it is a space, as it stands at the start
abbrev pub FindsSpaces : {F : Type 0} → Mut F (Bor ℕ × Unit {0}) Bool → F → Type 0
FindsSpaces {F} g f = (x : ℕ) (b : Bool) (q : F) → CalledAt g f x b q → (q ≡ f) × (b ≡ eqb x 32)

road : {F : Type 0} {g : Mut F (Bor ℕ × Unit {0}) Bool} {s : Skip (Split ℕ F)} {bs : List ℕ} → Begun s bs → FindsSpaces g (split_callee (skip_source s)) → YieldsList (skip_steps (split_steps g)) (λ x. x.now) s (later_words bs)
road {F} {g} {s} {bs} b k = rw (← words-skip bs) (YieldsList-from_skip 1 (YieldsList-from_slice_split g (λ x. eqb x 32) bs b.rest b.done refl k) b.first)

-- ---- a loop over the words, some of which it had

module _ {F : Type 0} {g : Mut F (Bor ℕ × Unit {0}) Bool} {s : Skip (Split ℕ F)} (xs : List (Bor (List ℕ))) (t : Skip (Split ℕ F)) (y : Yields (skip_steps (split_steps g)) s xs t) {bs : List ℕ} (b : Begun s bs) where
  pub word-turn : (r : Option (Bor (List ℕ))) (u : Skip (Split ℕ F)) (x : Bor (List ℕ)) → r ≡ Some x → skip_steps (split_steps g) t r u → FindsSpaces g (split_callee (skip_source s)) →
      (length xs < length (later_words bs)) × (x.now ≡ get_or (later_words bs) (length xs) x.now)
  word-turn r u x e p k = YieldsList-turn (road b k) xs t y r u x e p

  pub words-end : (r : Option (Bor (List ℕ))) (u : Skip (Split ℕ F)) → r ≡ None → skip_steps (split_steps g) t r u → FindsSpaces g (split_callee (skip_source s)) → length xs ≡ length (later_words bs)
  words-end r u e p k = (YieldsList-end (road b k) xs t y r u e p).1

-- ---- the same over the words with their places

-- a word at its place, where so many came before
pub record Placed (before : ℕ) (ws : List (List ℕ)) (x : ℕ × Bor (List ℕ)) : Type 0 where
  pub place : x.0 ≡ before
  pub below : before < length ws
  pub word : x.1.now ≡ get_or ws before x.1.now

module _ {F : Type 0} {g : Mut F (Bor ℕ × Unit {0}) Bool} {s : Enumerate (Skip (Split ℕ F))} (xs : List (ℕ × Bor (List ℕ))) (t : Enumerate (Skip (Split ℕ F))) (y : Yields (enumerate_steps (skip_steps (split_steps g))) s xs t) {bs : List ℕ} (b : Begun (enumerate_source s) bs) (from : enumerate_count s ≡ 0) where
  pub placed-turn : (r : Option (ℕ × Bor (List ℕ))) (u : Enumerate (Skip (Split ℕ F))) (x : ℕ × Bor (List ℕ)) → r ≡ Some x → enumerate_steps (skip_steps (split_steps g)) t r u → FindsSpaces g (split_callee (skip_source (enumerate_source s))) → Placed (length xs) (later_words bs) x
  placed-turn r u x e p k =
      let q : (length xs < length (enumerate_from 0 (later_words bs))) × ((x.0, x.1.now) ≡ get_or (enumerate_from 0 (later_words bs)) (length xs) (x.0, x.1.now)) = YieldsList-turn (YieldsList-from_enumerate (road b k) from) xs t y r u x e p in
      let below : length xs < length (later_words bs) = omega (arith, q.0, length-enumerate_from 0 (later_words bs)) in
      let here : ◌≡◌ {A = ℕ × List ℕ} (x.0, x.1.now) (0 + length xs, get_or (later_words bs) (length xs) x.1.now) = q.1 ∙ get_or-enumerate_from 0 (later_words bs) (length xs) (x.0, x.1.now) below in
      let place : x.0 ≡ 0 + length xs = ap (λ (z : ℕ × List ℕ). z.0) here in
      record { place = omega arith; below = below; word = ap (λ (z : ℕ × List ℕ). z.1) here }

  pub placed-end : (r : Option (ℕ × Bor (List ℕ))) (u : Enumerate (Skip (Split ℕ F))) → r ≡ None → enumerate_steps (skip_steps (split_steps g)) t r u → FindsSpaces g (split_callee (skip_source (enumerate_source s))) → length xs ≡ length (later_words bs)
  placed-end r u e p k = (YieldsList-end (YieldsList-from_enumerate (road b k) from) xs t y r u e p).1 ∙ length-enumerate_from 0 (later_words bs)
