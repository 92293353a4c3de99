-- The numbers after a word's end, word by word: how a loop counts them (Counting), how a loop writes them (Writing), and the first of
-- them apart (First). Assumes nothing.
use mathlib.Core.Path.{◌≡◌, refl, sym, ap, ◌∙◌, subst}
use mathlib.Core.Bool.{true, false}
use mathlib.Core.Logic.{inl, inr}
use mathlib.Core.List.{List, [], ◌∷◌, ◌++◌, map, append_assoc, append-nil}
use Prim.Native.Nat.{ℕ, ◌+◌, ◌≤◌, ◌<◌}
use native.Mathlib.Omega.{arith}
use native.Mathlib.Numerals.{add-one}
use lib.ListN.{length, get_or, drop, set, drop_of_length-le, length-append, length-map}
use lib.Seq.{drop-cons}
use Rattle.lists.specs.Lists.{pick, Mem, all, over}
use Rattle.lists.proofs.Member.{place-mem, all-at}
use Rattle.lists.proofs.Tests.{cases, and_both, lt-or-le}
use Rattle.lists.proofs.Place.{over-push, over-length}
use Rattle.listing_text.specs.Command.{first_word, later_words, value_of, is_number, numbers_of, EndsWord}
use Rattle.listing_text.proofs.Words.{between, Next, word_next, later-end}

-- ---- the numbers of some bytes

pub numbers-are : (bs : List ℕ) → all is_number (later_words bs) ≡ true → numbers_of bs ≡ map value_of (later_words bs)
unfolding numbers_of
numbers-are bs g = rw g refl

numbers-none : (bs : List ℕ) → all is_number (later_words bs) ≡ false → numbers_of bs ≡ []
unfolding numbers_of
numbers-none bs g = rw g refl

pub numbers-good : (bs : List ℕ) → 0 < length (numbers_of bs) → all is_number (later_words bs) ≡ true
numbers-good bs h = elim (cases (all is_number (later_words bs))) [ inl g ↦ g | inr g ↦ absurd (omega (arith, ap length (numbers-none bs g))) ]

pub numbers-length : (bs : List ℕ) → all is_number (later_words bs) ≡ true → length (numbers_of bs) ≡ length (later_words bs)
numbers-length bs g = ap length (numbers-are bs g) ∙ length-map (later_words bs) value_of

all_first : (w : List ℕ) (ws : List (List ℕ)) → all is_number (w ∷ ws) ≡ true → (is_number w ≡ true) × (all is_number ws ≡ true)
unfolding all
all_first w ws g = and_both (is_number w) (all is_number ws) g

-- ---- counting

-- so many numbers, and those of some words more; 0 if one of these is none
abbrev pub counted : ℕ → List (List ℕ) → ℕ
counted k ws = pick (all is_number ws) (k + length ws) 0

counted_none : (k : ℕ) → counted k [] ≡ k
unfolding all
counted_none k = omega arith

counted-good : (k : ℕ) (w : List ℕ) (ws : List (List ℕ)) → is_number w ≡ true → counted k (w ∷ ws) ≡ counted (k + 1) ws
unfolding all
counted-good k w ws g = rw g (elim (cases (all is_number ws)) [ inl e ↦ rw e (omega arith) | inr e ↦ rw e refl ])

counted-bad : (k : ℕ) (w : List ℕ) (ws : List (List ℕ)) → is_number w ≡ false → counted k (w ∷ ws) ≡ 0
unfolding all
counted-bad k w ws g = rw g refl

pub counted-all : (bs : List ℕ) → counted 0 (later_words bs) ≡ length (numbers_of bs)
counted-all bs =
    elim (cases (all is_number (later_words bs))) [
      | inl g ↦ rw g (omega (arith, numbers-length bs g))
      | inr g ↦ rw g (omega (arith, ap length (numbers-none bs g)))
    ]

-- the words from a place on
from-here : (ws : List (List ℕ)) (k : ℕ) (w : List ℕ) → k < length ws → w ≡ get_or ws k w → drop k ws ≡ w ∷ drop (k + 1) ws
from-here ws k w h e = drop-cons ws k w h ∙ rw (sym e, add-one k) refl

-- of some words those before a place are counted
module _ (ws : List (List ℕ)) {k n : ℕ} (s : counted k (drop k ws) ≡ n) where
  pub counting-end : k ≡ length ws → k ≡ n
  counting-end e = sym (counted_none k) ∙ ap (counted k) (sym (drop_of_length-le ws (omega (arith, e)))) ∙ s

  module _ {w : List ℕ} (h : k < length ws) (e : w ≡ get_or ws k w) where
    pub counting-turn : is_number w ≡ true → counted (k + 1) (drop (k + 1) ws) ≡ n
    counting-turn g = sym (counted-good k w (drop (k + 1) ws) g) ∙ ap (counted k) (sym (from-here ws k w h e)) ∙ s

    pub counting-bad : is_number w ≡ false → 0 ≡ n
    counting-bad g = sym (counted-bad k w (drop (k + 1) ws) g) ∙ ap (counted k) (sym (from-here ws k w h e)) ∙ s

-- ---- writing

-- so many values stand over the front of a list; with those of the words that are left they are the numbers of some bytes
pub record Writing (bs values₀ values : List ℕ) (k : ℕ) : Type 0 where
  pub done : List ℕ
  pub whole : done ++ map value_of (drop k (later_words bs)) ≡ numbers_of bs
  pub count-is : length done ≡ k
  pub values-are : values ≡ over done values₀

-- words that are numbers, no more than there is room for
module _ {bs values₀ : List ℕ} (good : all is_number (later_words bs) ≡ true) (fits : length (later_words bs) ≤ length values₀) where
  pub writing_start : Writing bs values₀ values₀ 0
  writing_start = record { done = []; whole = sym (numbers-are bs good); count-is = refl; values-are = refl }

  module _ {values : List ℕ} {k : ℕ} (s : Writing bs values₀ values k) where
    pub writing-length : length values ≡ length values₀
    writing-length =
        rw s.values-are (over-length s.done values₀
        (omega (arith, numbers-length bs good, fits, ap length s.whole, length-append s.done (map value_of (drop k (later_words bs))))))

    pub writing-end : k ≡ length (later_words bs) → values ≡ over (numbers_of bs) values₀
    writing-end h =
        let e : s.done ≡ numbers_of bs = sym (append-nil s.done) ∙ ap (λ (ws : List (List ℕ)). s.done ++ map value_of ws) (sym (drop_of_length-le (later_words bs) (omega (arith, h)))) ∙ s.whole in
        s.values-are ∙ ap (λ (l : List ℕ). over l values₀) e

    module _ {w : List ℕ} (h : k < length (later_words bs)) (e : w ≡ get_or (later_words bs) k w) where
      pub writing-number : is_number w ≡ true
      writing-number = all-at is_number (subst (λ (x : List ℕ). Mem x (later_words bs)) (sym e) (place-mem (later_words bs) k w h)) good

      whole-next : s.done ++ (value_of w ∷ []) ++ map value_of (drop (k + 1) (later_words bs)) ≡ numbers_of bs
      whole-next =
          append_assoc s.done (value_of w ∷ []) (map value_of (drop (k + 1) (later_words bs)))
          ∙ ap (λ (ws : List (List ℕ)). s.done ++ map value_of ws) (sym (from-here (later_words bs) k w h e)) ∙ s.whole

      pub writing-below : k < length values₀
      writing-below = omega (arith, h, fits)

      pub writing-keep : Writing bs values₀ (set values k (value_of w)) (k + 1)
      writing-keep =
          record {
            done = s.done ++ (value_of w ∷ []);
            whole = whole-next;
            count-is = omega (arith, s.count-is, length-append s.done (value_of w ∷ []));
            values-are = ap (λ (l : List ℕ). set l k (value_of w)) s.values-are ∙ over-push s.done values₀ k (value_of w) s.count-is writing-below;
          }

-- ---- the first number apart

pub record First (line : List ℕ) (at end : ℕ) : Type 0 where
  pub next : Next line at end
  pub number : is_number (between line at end) ≡ true
  pub good : all is_number (later_words (drop end line)) ≡ true
  pub numbers : numbers_of (drop at line) ≡ value_of (between line at end) ∷ numbers_of (drop end line)

-- where there is a number, the line goes on
pub first_below : (line : List ℕ) (at : ℕ) → 0 < length (numbers_of (drop at line)) → at < length line
first_below line at h =
    elim (lt-or-le at (length line)) [
      | inl b ↦ b
      | inr b ↦ absurd (omega (arith, ap length (later-end line at b), numbers-length (drop at line) (numbers-good (drop at line) h)))
    ]

pub first-number : (line : List ℕ) (at end : ℕ) → EndsWord line at → 0 < length (numbers_of (drop at line))
    → end ≡ at + 1 + length (first_word (drop (at + 1) line)) → First line at end
first-number line at end w h e =
    let n = word_next line at end w (first_below line at h) e in
    let g = numbers-good (drop at line) h in
    let b = all_first (between line at end) (later_words (drop end line)) (rw n.later at g) in
    record {
      next = n;
      number = b.0;
      good = b.1;
      numbers = numbers-are (drop at line) g ∙ ap (map value_of) n.later ∙ ap (λ (l : List ℕ). value_of (between line at end) ∷ l) (sym (numbers-are (drop end line) b.1));
    }
