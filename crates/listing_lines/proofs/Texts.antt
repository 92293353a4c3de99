-- The lines of a text as a piece gives them: bytes before a newline are the first line, the others follow (`grown-line`); a piece without one is held
-- (`grown-part`), cut where its list ends (`grown-held`); at the end what is held is the last line (`lines_end`). Assumes nothing.
use mathlib.Core.Path.{◌≡◌, refl, sym, ap, ◌∙◌}
use mathlib.Core.Logic.{inl, inr}
use mathlib.Core.Bool.{true, false, true≢false, false≢true}
use mathlib.Core.List.{List, [], ◌∷◌, ◌++◌, append_assoc, append-nil}
use Prim.Native.Nat.{ℕ, suc, ◌+◌, ◌≤◌, ◌<◌}
use native.Mathlib.Omega.{arith}
use lib.Dec.{eqb, ltb}
use lib.ListN.{length, length-drop, take, drop}
use lib.Seq.{length-take-le, take_all, take-append-le, drop-drop}
use borrow.Author.Tests.{lt-ltb, le-ltb}
use Rattle.lists.specs.Lists.{pick}
use Rattle.lists.proofs.Tests.{cases, lt-or-le}
use Rattle.listing_lines.specs.Lines.{before_newline, has_newline, Grown, last_line, lines_from, lines_of}
use Rattle.std.proofs.Common.{Some, None}
use Rattle.listing_lines.proofs.Lines.{grown-ended, grown-open}
use Rattle.listing_lines.specs.declared.Taken.{Taken}

-- ---- the first line of a text

has_rest : (b : ℕ) (d : List ℕ) → eqb b 10 ≡ false → has_newline (b ∷ d) ≡ has_newline d
unfolding has_newline
has_rest b d e = rw e refl

has_first : (b : ℕ) (d : List ℕ) → eqb b 10 ≡ true → has_newline (b ∷ d) ≡ true
unfolding has_newline
has_first b d e = rw e refl

lines-line : (h d more : List ℕ) → has_newline d ≡ true → lines_from h (d ++ more) ≡ (h ++ before_newline d) ∷ lines_of (drop (suc (length (before_newline d))) d ++ more)
unfolding before_newline has_newline lines_from
lines-line h [] more n = absurd (false≢true n)
lines-line h (b ∷ d) more n =
    elim (cases (eqb b 10)) [
      | inl e ↦ rw e (ap (λ (l : List ℕ). l ∷ lines_from [] (d ++ more)) (sym (append-nil h)))
      | inr e ↦ rw e (lines-line (h ++ (b ∷ [])) d more (sym (has_rest b d e) ∙ n) ∙
          ap (λ (l : List ℕ). l ∷ lines_from [] (drop (suc (length (before_newline d))) d ++ more)) (append_assoc h (b ∷ []) (before_newline d)))
    ]

lines-part : (h d more : List ℕ) → has_newline d ≡ false → lines_from h (d ++ more) ≡ lines_from (h ++ before_newline d) more
unfolding before_newline has_newline lines_from
lines-part h [] more n = ap (λ (l : List ℕ). lines_from l more) (sym (append-nil h))
lines-part h (b ∷ d) more n =
    elim (cases (eqb b 10)) [
      | inl e ↦ absurd (true≢false (sym (has_first b d e) ∙ n))
      | inr e ↦ rw e (lines-part (h ++ (b ∷ [])) d more (sym (has_rest b d e) ∙ n) ∙
          ap (λ (l : List ℕ). lines_from l more) (append_assoc h (b ∷ []) (before_newline d)))
    ]

-- a piece without a newline is all before it
part-long : (d : List ℕ) → has_newline d ≡ false → length (before_newline d) ≡ length d
unfolding before_newline has_newline
part-long [] n = refl
part-long (b ∷ d) n =
    elim (cases (eqb b 10)) [ inl e ↦ absurd (true≢false (sym (has_first b d e) ∙ n)) | inr e ↦ rw e (ap suc (part-long d (sym (has_rest b d e) ∙ n))) ]

-- ---- as a piece gives it

-- cutting a part first changes nothing
cut-part : (n : ℕ) (a b : List ℕ) → take n (take n a ++ b) ≡ take n (a ++ b)
cut-part n a b =
    elim (lt-or-le (length a) n) [
      | inl h ↦ ap (λ (l : List ℕ). take n (l ++ b)) (take_all n a (omega arith))
      | inr h ↦
          take-append-le n (take n a) b (omega (arith, length-take-le n a h)) ∙ take_all n (take n a) (omega (arith, length-take-le n a h)) ∙
          sym (take-append-le n a b h)
    ]

module _ {piece xs : List ℕ} {place n : ℕ} {ys : List ℕ} {r : Taken} (g : Grown piece xs place n ys r) where
  -- the bytes that a piece has of the line
  abbrev pub bytes_of : List ℕ
  bytes_of = before_newline (drop place piece)

  -- the line so far, with them
  pub grown-held : (h : List ℕ) → take n xs ≡ take (length xs) h → take r.length ys ≡ take (length xs) (h ++ bytes_of)
  grown-held h q = g.line-is ∙ ap (λ (l : List ℕ). take (length xs) (l ++ bytes_of)) q ∙ cut-part (length xs) h bytes_of

  -- a newline: the line is the first, and the others are those behind it
  pub grown-line : {after : ℕ} → r.after ≡ Some after → (h more : List ℕ) → lines_from h (drop place piece ++ more) ≡ (h ++ bytes_of) ∷ lines_of (drop after piece ++ more)
  grown-line {after} e h more =
      let p : place + suc (length bytes_of) ≡ after = omega (arith, (grown-ended g e).place_is) in
      lines-line h (drop place piece) more (grown-ended g e).newline ∙
      ap (λ (l : List ℕ). (h ++ bytes_of) ∷ lines_from [] (l ++ more)) (drop-drop (suc (length bytes_of)) place piece ∙ ap (λ (k : ℕ). drop k piece) p)

  -- none: all of the piece is held
  pub grown-part : r.after ≡ None → (h more : List ℕ) → lines_from h (drop place piece ++ more) ≡ lines_from (h ++ bytes_of) more
  grown-part e h more = lines-part h (drop place piece) more (grown-open g e)

  pub grown-all : r.after ≡ None → place ≤ length piece → length bytes_of + place ≡ length piece
  grown-all e h = omega (arith, part-long (drop place piece) (grown-open g e), length-drop place piece)

-- ---- the end

-- a cut line is empty just if the line is
cut-none : (h : List ℕ) → length (take 2000 h) ≡ 0 → length h ≡ 0
cut-none h e = elim (lt-or-le (length h) 2000) [ inl l ↦ sym (ap length (take_all 2000 h (omega arith))) ∙ e | inr l ↦ absurd (omega (arith, length-take-le 2000 h l)) ]

none_last : (h : List ℕ) → length h ≡ 0 → last_line h ≡ []
none_last [] e = refl
none_last (b ∷ h) e = absurd (omega arith)

some-last : (h : List ℕ) → 0 < length h → last_line h ≡ h ∷ []
some-last [] e = absurd (omega arith)
some-last (b ∷ h) e = refl

cut-some : (h : List ℕ) → 0 < length (take 2000 h) → 0 < length h
cut-some [] e = absurd (omega arith)
cut-some (b ∷ h) e = omega arith

-- a line that is held is not empty just if its list's front is not
pub held-some : (xs h : List ℕ) (n : ℕ) → n ≤ length xs → take n xs ≡ take 2000 h → 0 < n → 0 < length h
held-some xs h n l q s = cut-some h (omega (arith, ap length q, length-take-le n xs l))

lines-nil : (h : List ℕ) → lines_from h [] ≡ last_line h
unfolding lines_from
lines-nil h = refl

-- what is held at the end is the last line, if it is not empty
pub lines_end : (xs h : List ℕ) (n : ℕ) → n ≤ length xs → take n xs ≡ take 2000 h → lines_from h [] ≡ pick (ltb 0 n) (h ∷ []) [] ++ lines_of []
lines_end xs h n l q =
    elim (lt-or-le 0 n) [
      | inl s ↦ rw (lt-ltb 0 n s) (lines-nil h ∙ some-last h (held-some xs h n l q s) ∙ ap (λ (ls : List (List ℕ)). h ∷ ls) (sym (lines-nil [])))
      | inr z ↦ rw (le-ltb 0 n z) (lines-nil h ∙ none_last h (cut-none h (omega (arith, ap length q, length-take-le n xs l))) ∙ sym (lines-nil []))
    ]
