-- The rows that a question names: 7 by how many they are, 17 by one outside 1 to m, else none. A law for each return. Assumes nothing.
use mathlib.Core.Path.{◌≡◌, refl, sym, ap, ◌∙◌}
use mathlib.Core.Bool.{Bool, true, false, ◌&&◌, ◌||◌, not}
use mathlib.Core.List.{List, [], ◌∷◌}
use Prim.Native.Nat.{ℕ}
use Rattle.std.specs.List.{list_any}
use lib.ListN.{length}
use Rattle.lists.specs.Lists.{is_in, all}
use Rattle.calls.specs.Refusals.{or_else, unless, named_refusal}
use Rattle.early_refusals.proofs.Tests.{is-out, is-in}

-- the number that some rows are refused by, from the two tests
abbrev number_by : (few inside : Bool) → ℕ
number_by z y = (or_else (unless z 7 0) (unless y 17 0)).number

-- one row fails a test where not all pass it
some-fails : (f : ℕ → Bool) (xs : List ℕ) → list_any (λ x. not (f x)) xs ≡ not (all f xs)
unfolding all
some-fails f [] = refl
some-fails f (x ∷ xs) = ap (λ (b : Bool). not (f x) || b) (some-fails f xs) ∙ either (f x) (all f xs)
  where
    either : (a b : Bool) → (not a || not b) ≡ not (a && b)
    either true b = refl
    either false b = refl

module _ (m : ℕ) (rs : List ℕ) {z : Bool} (shape : z ≡ not (is_in 1 64 (length rs))) (few : z ≡ false) {x : Bool} (e : x ≡ list_any (λ (i : ℕ). not (is_in 1 m i)) rs) where
  by_rows : (y : Bool) → all (is_in 1 m) rs ≡ y → (named_refusal m rs).number ≡ number_by true y
  by_rows y h =
      ap (λ (b : Bool). number_by b (all (is_in 1 m) rs)) (is-in (is_in 1 64 (length rs)) shape few) ∙ ap (number_by true) h

  -- 17: one is outside
  pub named-outside : x ≡ true → 17 ≡ (named_refusal m rs).number
  named-outside t = sym (by_rows false (is-out (all (is_in 1 m) rs) (e ∙ some-fails (is_in 1 m) rs) t))

  -- none is
  pub named_end : x ≡ false → 0 ≡ (named_refusal m rs).number
  named_end t = sym (by_rows true (is-in (all (is_in 1 m) rs) (e ∙ some-fails (is_in 1 m) rs) t))
