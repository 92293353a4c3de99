-- Words of a line: where the first word ends, byte by byte (how a loop finds it), and the next word after a word's end (how a loop goes
-- from word to word). Then how many words a line of numbers can have. Assumes nothing.
use mathlib.Core.Path.{◌≡◌, refl, sym, ap, ◌∙◌}
use mathlib.Core.Logic.{inl, inr, ◌≢◌}
use mathlib.Core.Bool.{true, cond}
use Rattle.std.proofs.Common.{Option, Some, None}
use Rattle.std.specs.List.{position_or_len, slice_split, onto_first}
use mathlib.Core.List.{List, [], ◌∷◌}
use Prim.Native.Nat.{ℕ, ◌+◌, ◌*◌, ◌-◌, ◌≤◌, ◌<◌}
use native.Mathlib.Omega.{arith}
use native.Mathlib.Numerals.{add-one}
use lib.Dec.{ltb, eqb}
use lib.ListN.{length, get_or, take, drop, length-drop, drop_of_length-le}
use lib.Seq.{drop-cons, drop-drop, get_or-drop}
use borrow.Author.Tests.{eq-eqb, ne_eqb, ltb-true, ltb-false}
use Rattle.lists.specs.Lists.{all}
use Rattle.lists.proofs.Tests.{cases, eq-or-ne, and_both}
use Rattle.listing_text.specs.Command.{first_word, later_words, is_number, EndsWord}

-- ---- the first word, by the first byte

word-space : (b : ℕ) (bs : List ℕ) → b ≡ 32 → first_word (b ∷ bs) ≡ []
unfolding first_word
word-space b bs e = rw (eq-eqb b 32 e) refl

word-other : (b : ℕ) (bs : List ℕ) → b ≢ 32 → first_word (b ∷ bs) ≡ b ∷ first_word bs
unfolding first_word
word-other b bs n = rw (ne_eqb b 32 n) refl

later-space : (b : ℕ) (bs : List ℕ) → b ≡ 32 → later_words (b ∷ bs) ≡ first_word bs ∷ later_words bs
unfolding later_words
later-space b bs e = rw (eq-eqb b 32 e) refl

later-other : (b : ℕ) (bs : List ℕ) → b ≢ 32 → later_words (b ∷ bs) ≡ later_words bs
unfolding later_words
later-other b bs n = rw (ne_eqb b 32 n) refl

-- ---- the first word of what follows a place

pub word-at-end : (line : List ℕ) (i : ℕ) → length line ≤ i → first_word (drop i line) ≡ []
unfolding first_word
word-at-end line i h = rw (drop_of_length-le line h) refl

-- ---- its end

pub word-within : (bs : List ℕ) → length (first_word bs) ≤ length bs
unfolding first_word
word-within [] = omega arith
word-within (b ∷ bs) =
    elim (eq-or-ne b 32) [
      | inl e ↦ omega (arith, ap length (word-space b bs e))
      | inr n ↦ omega (arith, ap length (word-other b bs n), word-within bs)
    ]

-- the place of the first space, or how many bytes there are without one
pub word-position : (bs : List ℕ) → position_or_len (λ b. eqb b 32) bs ≡ length (first_word bs)
unfolding first_word
word-position [] = refl
word-position (b ∷ bs) =
    elim (eq-or-ne b 32) [
      | inl e ↦ rw (eq-eqb b 32 e) refl
      | inr n ↦ rw (ne_eqb b 32 n) (omega (arith, word-position bs))
    ]

-- what a search for a space finds
abbrev pub space_in : List ℕ → Option ℕ
space_in bs = cond (ltb (position_or_len (λ b. eqb b 32) bs) (length bs)) (Some (position_or_len (λ b. eqb b 32) bs)) None

pub word-found : (bs : List ℕ) (n : ℕ) → Some n ≡ space_in bs → n ≡ length (first_word bs)
word-found bs n =
    rw (word-position bs)
    (elim (cases (ltb (length (first_word bs)) (length bs))) [
      | inl t ↦ rw t (λ e. cc)
      | inr t ↦ rw t (λ e. absurd cc)
    ])

pub word-whole : (bs : List ℕ) → None ≡ space_in bs → length bs ≡ length (first_word bs)
word-whole bs =
    rw (word-position bs)
    (elim (cases (ltb (length (first_word bs)) (length bs))) [
      | inl t ↦ rw t (λ e. absurd cc)
      | inr t ↦ rw t (λ e. omega (arith, ltb-false (length (first_word bs)) (length bs) t, word-within bs))
    ])

word-part : (bs : List ℕ) → take (length (first_word bs)) bs ≡ first_word bs
unfolding first_word
word-part [] = refl
word-part (b ∷ bs) =
    elim (eq-or-ne b 32) [
      | inl e ↦ rw (eq-eqb b 32 e) refl
      | inr n ↦ rw (ne_eqb b 32 n) (ap (λ (l : List ℕ). b ∷ l) (word-part bs))
    ]

word-stops : (bs : List ℕ) → length (first_word bs) < length bs → get_or bs (length (first_word bs)) 0 ≡ 32
unfolding first_word
word-stops [] h = absurd (omega arith)
word-stops (b ∷ bs) h =
    elim (eq-or-ne b 32) [
      | inl e ↦ rw (eq-eqb b 32 e) e
      | inr n ↦ rw (ne_eqb b 32 n) (word-stops bs (omega (arith, ap length (word-other b bs n))))
    ]

later-skip : (bs : List ℕ) → later_words (drop (length (first_word bs)) bs) ≡ later_words bs
unfolding first_word later_words
later-skip [] = refl
later-skip (b ∷ bs) =
    elim (eq-or-ne b 32) [
      | inl e ↦ rw (eq-eqb b 32 e) (rw (eq-eqb b 32 e) refl)
      | inr n ↦ rw (ne_eqb b 32 n) (later-skip bs)
    ]

-- ---- from a word's end to the next

-- the end of the word that starts at a place
pub word-ends : (line : List ℕ) (i end : ℕ) → i ≤ length line → end ≡ i + length (first_word (drop i line)) → EndsWord line end
word-ends line i end h e =
    let l : length (drop i line) ≡ length line - i = length-drop i line in
    rw e
    record {
      within = omega (arith, word-within (drop i line));
      space = λ k. sym (get_or-drop i line (length (first_word (drop i line))) 0) ∙ word-stops (drop i line) (omega arith);
    }

-- the bytes between a word's end and the next word's end, but for the space
abbrev pub between : (line : List ℕ) → (at end : ℕ) → List ℕ
between line at end = take (end - (at + 1)) (drop (at + 1) line)

pub record Next (line : List ℕ) (at end : ℕ) : Type 0 where
  pub start : at + 1 ≤ end
  pub ends : EndsWord line end
  pub later : later_words (drop at line) ≡ between line at end ∷ later_words (drop end line)

pub word_next : (line : List ℕ) (at end : ℕ) → EndsWord line at → at < length line → end ≡ at + 1 + length (first_word (drop (at + 1) line)) → Next line at end
word_next line at end w h e =
    let rest : List ℕ = drop (at + 1) line in
    let size : end - (at + 1) ≡ length (first_word rest) = omega arith in
    let skip : later_words (drop end line) ≡ later_words rest = ap (λ (n : ℕ). later_words (drop n line)) e ∙ ap later_words (sym (drop-drop (length (first_word rest)) (at + 1) line)) ∙ later-skip rest in
    let cons : drop at line ≡ get_or line at 0 ∷ rest = drop-cons line at 0 h ∙ ap (λ (n : ℕ). get_or line at 0 ∷ drop n line) (sym (add-one at)) in
    record {
      start = omega arith;
      ends = word-ends line (at + 1) end (omega arith) e;
      later = ap later_words cons ∙ later-space (get_or line at 0) rest (w.space h) ∙ rw (skip, size, word-part rest) refl;
    }

-- the parts between spaces are the words
pub words-split : (bs : List ℕ) → slice_split (λ b. eqb b 32) bs ≡ first_word bs ∷ later_words bs
unfolding first_word later_words
words-split [] = refl
words-split (b ∷ bs) =
    elim (eq-or-ne b 32) [
      | inl e ↦ rw (eq-eqb b 32 e) (ap (λ (ws : List (List ℕ)). [] ∷ ws) (words-split bs))
      | inr n ↦ rw (ne_eqb b 32 n) (ap (onto_first b) (words-split bs))
    ]

-- all but the first of them
pub words-skip : (bs : List ℕ) → drop 1 (slice_split (λ b. eqb b 32) bs) ≡ later_words bs
words-skip bs = ap (drop 1) (words-split bs)

pub later-end : (line : List ℕ) (at : ℕ) → length line ≤ at → later_words (drop at line) ≡ []
unfolding later_words
later-end line at h = rw (drop_of_length-le line h) refl

-- the first word of a line: its end, its bytes, and the words after it
pub record Front (line : List ℕ) (end : ℕ) : Type 0 where
  pub ends : EndsWord line end
  pub part : take end line ≡ first_word line
  pub later : later_words (drop end line) ≡ later_words line

pub word-front : (line : List ℕ) (end : ℕ) → end ≡ 0 + length (first_word line) → Front line end
word-front line end e =
    let f : end ≡ length (first_word line) = omega arith in
    record { ends = word-ends line 0 end (omega arith) e; part = rw f (word-part line); later = rw f (later-skip line) }

-- ---- how many words

number-long : (w : List ℕ) → is_number w ≡ true → 0 < length w
unfolding is_number
number-long w h = ltb-true 0 (length w) (and_both (ltb 0 (length w)) _ h).0

-- each number takes a space and a digit
later-room : (bs : List ℕ) → all is_number (later_words bs) ≡ true → length (first_word bs) + 2 * length (later_words bs) ≤ length bs
unfolding first_word later_words all
later-room [] g = omega arith
later-room (b ∷ bs) g =
    elim (eq-or-ne b 32) [
      | inl e ↦
          let g' : all is_number (first_word bs ∷ later_words bs) ≡ true = rw (later-space b bs e) at g in
          let t = and_both (is_number (first_word bs)) (all is_number (later_words bs)) g' in
          omega (arith, ap length (word-space b bs e), ap length (later-space b bs e), number-long (first_word bs) t.0, later-room bs t.1)
      | inr n ↦
          let g' : all is_number (later_words bs) ≡ true = rw (later-other b bs n) at g in
          omega (arith, ap length (word-other b bs n), ap length (later-other b bs n), later-room bs g')
    ]

-- after a place of a line
pub later-most : (line : List ℕ) (at : ℕ) → all is_number (later_words (drop at line)) ≡ true → 2 * length (later_words (drop at line)) ≤ length line
later-most line at g = omega (arith, later-room (drop at line) g, length-drop at line)
