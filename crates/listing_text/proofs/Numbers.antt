-- A word that is a number, digit by digit: what the digits that are left say (is_rest), and how a loop reads the value (Spelling). A value only rises with the digits that follow, so a test may end at the first that is too large.
-- Assumes nothing.
use mathlib.Core.Path.{◌≡◌, refl, sym, ap, ◌∙◌}
use Rattle.std.proofs.Common.{Some, None}
use mathlib.Core.Bool.{Bool, true, false, ◌&&◌}
use mathlib.Core.List.{List, [], ◌∷◌}
use Prim.Native.Nat.{ℕ, ◌+◌, ◌*◌, ◌-◌, ◌^◌, ◌≤◌, ◌<◌}
use native.Mathlib.Omega.{arith}
use native.Mathlib.Numerals.{add-one}
use lib.Dec.{ltb}
use lib.ListN.{length, get_or, drop, drop_of_length-le}
use lib.Seq.{drop-cons}
use borrow.Author.Tests.{le-ltb, lt-ltb, le-leb}
use Rattle.lists.specs.Lists.{all}
use mathlib.Core.Logic.{inl, inr}
use Rattle.std.specs.Option.{is_some}
use Rattle.std.proofs.lemmas.Bool.{false≢true}
use Rattle.lists.proofs.Tests.{cases, and-false, in-range}
use Rattle.listing_text.specs.Command.{is_digit, value_after, value_of, is_number, number_of}

-- digits that follow a value keep it below the limit
abbrev pub is_rest : ℕ → List ℕ → Bool
is_rest v ds = all is_digit ds && ltb (value_after v ds) (2 ^ 32)

value-rises : (v : ℕ) (ds : List ℕ) → v ≤ value_after v ds
unfolding value_after
value-rises v [] = omega arith
value-rises v (d ∷ ds) = omega (arith, value-rises (10 * v + (d - 48)) ds)

-- one digit more, in a word from a place on
pub rest-step : (w : List ℕ) (v i : ℕ) → i < length w → 48 ≤ get_or w i 0 → get_or w i 0 ≤ 57 → is_rest (10 * v + (get_or w i 0 - 48)) (drop (i + 1) w) ≡ is_rest v (drop i w)
unfolding all value_after
rest-step w v i h a b = rw (drop-cons w i 0 h, add-one i, le-leb 48 (get_or w i 0) a, le-leb (get_or w i 0) 57 b) refl

-- a byte that is no digit
pub rest-other : (w : List ℕ) (v i : ℕ) → i < length w → is_digit (get_or w i 0) ≡ false → is_rest v (drop i w) ≡ false
unfolding all value_after
rest-other w v i h e = rw (drop-cons w i 0 h, e) refl

-- a value only rises
pub rest-large : (ds : List ℕ) (v : ℕ) → 2 ^ 32 ≤ v → is_rest v ds ≡ false
rest-large ds v h = rw (le-ltb (value_after v ds) (2 ^ 32) (omega (arith, value-rises v ds))) (and-false (all is_digit ds))

pub rest_end : (w : List ℕ) (v i : ℕ) → length w ≤ i → v < 2 ^ 32 → is_rest v (drop i w) ≡ true
unfolding all value_after
rest_end w v i h b = rw (drop_of_length-le w h) (lt-ltb v (2 ^ 32) b)

-- a word with a byte or more, and one with none
pub number-rest : (w : List ℕ) → 0 < length w → is_number w ≡ is_rest 0 w
unfolding is_number
number-rest w h = rw (lt-ltb 0 (length w) h) refl

pub number-none : (w : List ℕ) → length w ≡ 0 → is_number w ≡ false
unfolding is_number
number-none w e = rw (le-ltb 0 (length w) (omega arith)) refl

pub value-end : (w : List ℕ) (v i : ℕ) → length w ≤ i → value_after v (drop i w) ≡ v
unfolding value_after
value-end w v i h = rw (drop_of_length-le w h) refl

value-step : (w : List ℕ) (v i : ℕ) → i < length w → value_after (10 * v + (get_or w i 0 - 48)) (drop (i + 1) w) ≡ value_after v (drop i w)
unfolding value_after
value-step w v i h = rw (drop-cons w i 0 h, add-one i) refl

-- ---- a word read digit by digit

pub number-is : (w : List ℕ) → is_number w ≡ true → number_of w ≡ Some (value_of w)
unfolding number_of
number-is w e = rw e refl

pub number-is-none : (w : List ℕ) → is_number w ≡ false → number_of w ≡ None
unfolding number_of
number-is-none w e = rw e refl

pub some-number : (w : List ℕ) → is_some (number_of w) ≡ true → is_number w ≡ true
some-number w h = elim (cases (is_number w)) [ inl e ↦ e | inr e ↦ absurd (false≢true (sym (ap is_some (number-is-none w e)) ∙ h)) ]

pub some-value : (w : List ℕ) {n : ℕ} → number_of w ≡ Some n → is_number w ≡ true → n ≡ value_of w
some-value w e g = let h : number_of w ≡ Some (value_of w) = number-is w g in cc

pub no-number : (w : List ℕ) → is_some (number_of w) ≡ false → is_number w ≡ false
no-number w h = elim (cases (is_number w)) [ inl e ↦ absurd (false≢true (sym h ∙ ap is_some (number-is w e))) | inr e ↦ e ]

-- the value of the digits before a place, when the rest decides as the word does
pub record Spelling (w : List ℕ) (v i : ℕ) : Type 0 where
  pub rest : is_rest v (drop i w) ≡ is_number w
  pub value : value_after v (drop i w) ≡ value_of w
  pub fits : v < 2 ^ 32

pub spelling-start : (w : List ℕ) → 0 < length w → Spelling w 0 0
spelling-start w h = record { rest = sym (number-rest w h); value = refl; fits = omega arith }

module _ {w : List ℕ} {v i : ℕ} (s : Spelling w v i) where
  pub spelling-other : i < length w → is_digit (get_or w i 0) ≡ false → None ≡ number_of w
  spelling-other h e = sym (number-is-none w (sym s.rest ∙ rest-other w v i h e))

  pub spelling-end : length w ≤ i → Some v ≡ number_of w
  spelling-end h = ap Some (sym (value-end w v i h) ∙ s.value) ∙ sym (number-is w (sym s.rest ∙ rest_end w v i h s.fits))

  module _ (h : i < length w) (d : is_digit (get_or w i 0) ≡ true) where
    next-rest : is_rest (10 * v + (get_or w i 0 - 48)) (drop (i + 1) w) ≡ is_number w
    next-rest = let r = in-range 48 57 (get_or w i 0) d in rest-step w v i h r.0 r.1 ∙ s.rest

    pub spelling-turn : {x : ℕ} → x ≡ 10 * v + (get_or w i 0 - 48) → x < 2 ^ 32 → Spelling w x (i + 1)
    spelling-turn e b =
        record { rest = ap (λ (n : ℕ). is_rest n (drop (i + 1) w)) e ∙ next-rest; value = ap (λ (n : ℕ). value_after n (drop (i + 1) w)) e ∙ value-step w v i h ∙ s.value; fits = b }

    -- a value only rises
    pub spelling-large : 2 ^ 32 ≤ 10 * v + (get_or w i 0 - 48) → None ≡ number_of w
    spelling-large b = sym (number-is-none w (sym next-rest ∙ rest-large (drop (i + 1) w) _ b))
