-- The loop that collects ids: its invariant Collecting, a turn that takes an id, and one that passes it. Assumes nothing.
use mathlib.Core.Path.{◌≡◌, sym, ap, ◌∙◌}
use mathlib.Core.Bool.{Bool, true, false, ◌&&◌}
use mathlib.Core.List.{List, [], ◌∷◌, ◌++◌, append_assoc}
use Prim.Native.Nat.{ℕ, suc, ◌+◌, ◌-◌, ◌≤◌, ◌<◌}
use native.Mathlib.Omega.{arith}
use native.Mathlib.Numerals.{add-one}
use lib.ListN.{length, take, set, length-set}
use lib.Seq.{take-suc-set}
use Rattle.book.specs.Book.{is_booked}
use Rattle.windows.specs.Chosen.{ids_from, ids_on}
use Rattle.windows.proofs.Chosen.{ids-in, ids-out}

-- the first k places have the ids up to i, and the rest comes
pub record Collecting (heads : List ℕ) (p : ℕ → Bool) (first : ℕ) (list₀ list : List ℕ) (k i : ℕ) : Type 0 where
  pub low : first ≤ i
  pub high : i ≤ length heads + 1
  pub long : length list ≡ length list₀
  pub fits : k ≤ length list₀
  pub ids : ids_on heads p first ≡ take k list ++ ids_on heads p i

-- ---- the ids from one id on

module _ (hs : List ℕ) (p : ℕ → Bool) (i : ℕ) (h : i ≤ length hs) where
  rest : ids_from hs p (suc i) (length hs - i) ≡ ids_on hs p (i + 1)
  rest =
      let e : length hs - i ≡ length hs + 1 - (i + 1) = omega arith in
      ap (λ (n : ℕ). ids_from hs p (suc i) n) e ∙ ap (λ (l : ℕ). ids_from hs p l (length hs + 1 - (i + 1))) (sym (add-one i))

  whole : ids_on hs p i ≡ ids_from hs p i (suc (length hs - i))
  whole = let e : length hs + 1 - i ≡ suc (length hs - i) = omega arith in ap (ids_from hs p i) e

  on_in : (is_booked hs i && p i) ≡ true → ids_on hs p i ≡ i ∷ ids_on hs p (i + 1)
  on_in e = whole ∙ ids-in hs p i (length hs - i) e ∙ ap (λ (l : List ℕ). i ∷ l) rest

  on_out : (is_booked hs i && p i) ≡ false → ids_on hs p i ≡ ids_on hs p (i + 1)
  on_out e = whole ∙ ids-out hs p i (length hs - i) e ∙ rest

-- ---- the loop

module _ {heads : List ℕ} {p : ℕ → Bool} {first : ℕ} {list₀ list : List ℕ} {k i : ℕ} (c : Collecting heads p first list₀ list k i) where
  pub collecting-took : i ≤ length heads → k < length list → (is_booked heads i && p i) ≡ true → Collecting heads p first list₀ (set list k i) (k + 1) (i + 1)
  collecting-took h l e =
      let t : take (k + 1) (set list k i) ≡ take k list ++ (i ∷ []) = ap (λ (n : ℕ). take n (set list k i)) (add-one k) ∙ take-suc-set list k i l in
      record {
        low = omega (arith, c.low);
        high = omega arith;
        long = length-set list k i ∙ c.long;
        fits = omega (arith, c.long);
        ids =
            c.ids ∙ ap (λ (r : List ℕ). take k list ++ r) (on_in heads p i h e) ∙ sym (append_assoc (take k list) (i ∷ []) (ids_on heads p (i + 1))) ∙
            ap (λ (r : List ℕ). r ++ ids_on heads p (i + 1)) (sym t);
      }

  pub collecting-passed : i ≤ length heads → (is_booked heads i && p i) ≡ false → Collecting heads p first list₀ list k (i + 1)
  collecting-passed h e = record {
    low = omega (arith, c.low);
    high = omega arith;
    long = c.long;
    fits = c.fits;
    ids = c.ids ∙ ap (λ (r : List ℕ). take k list ++ r) (on_out heads p i h e);
  }
