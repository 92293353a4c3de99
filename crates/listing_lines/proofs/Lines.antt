-- A line that takes the bytes of a piece: those before the first newline, found as a search finds it, and no more than there is room for. A longer line is cut at
-- the list's end, and is too long all the same. Assumes nothing.
use Rattle.std.proofs.Common.{◌≡◌, ℕ, suc, ◌+◌, ◌-◌, ◌≤◌, ◌<◌, true, false, cond, eqb, ltb, Option, Some, None, List, [], ◌∷◌, ◌++◌, length, take, drop, inl, inr, refl, sym, ap, ◌∙◌, true≢false, append_assoc, arith, length-append, length-drop, length-take-le, min}
use Rattle.std.specs.Option.{MatchOption, IsSomeAnd, unwrap_or, option_map}
use Rattle.std.specs.List.{position_or_len}
use lib.Seq.{take-append-le, take-append-add, take-append_seam}
use Rattle.std.proofs.lemmas.List.{take_min, take-append-drop}
use borrow.Author.Tests.{ltb-true, ltb-false}
use Rattle.lists.specs.Lists.{pick}
use Rattle.lists.proofs.Tests.{cases, lt-or-le}
use Rattle.listing_lines.specs.Lines.{before_newline, has_newline, Growing, Grown}
use Rattle.listing_lines.specs.declared.Taken.{Taken}

-- ---- the first newline

-- the place of the first newline, or how many bytes there are without one
before-position : (bs : List ℕ) → position_or_len (λ b. eqb b 10) bs ≡ length (before_newline bs)
unfolding before_newline
before-position [] = refl
before-position (b ∷ bs) = elim (cases (eqb b 10)) [ inl e ↦ rw e refl | inr e ↦ rw e (omega (arith, before-position bs)) ]

-- there is one just if it ends before the bytes do
has-some : (bs : List ℕ) → length (before_newline bs) < length bs → has_newline bs ≡ true
unfolding before_newline has_newline
has-some [] h = absurd (omega arith)
has-some (b ∷ bs) h =
    elim (cases (eqb b 10)) [
      | inl e ↦ rw e refl
      | inr e ↦ let k : length (before_newline (b ∷ bs)) < suc (length bs) = h in let l = rw e at k in rw e (has-some bs (omega (arith, l)))
    ]

has-none : (bs : List ℕ) → length bs ≤ length (before_newline bs) → has_newline bs ≡ false
unfolding before_newline has_newline
has-none [] h = refl
has-none (b ∷ bs) h =
    elim (cases (eqb b 10)) [
      | inl e ↦ let k : suc (length bs) ≤ length (before_newline (b ∷ bs)) = h in let l = rw e at k in absurd (omega (arith, l))
      | inr e ↦ let k : suc (length bs) ≤ length (before_newline (b ∷ bs)) = h in let l = rw e at k in rw e (has-none bs (omega (arith, l)))
    ]

before-part : (bs : List ℕ) → take (length (before_newline bs)) bs ≡ before_newline bs
unfolding before_newline
before-part [] = refl
before-part (b ∷ bs) = elim (cases (eqb b 10)) [ inl e ↦ rw e refl | inr e ↦ rw e (ap (λ (l : List ℕ). b ∷ l) (before-part bs)) ]

pub before-most : (bs : List ℕ) → length (before_newline bs) ≤ length bs
unfolding before_newline
before-most [] = omega arith
before-most (b ∷ bs) = elim (cases (eqb b 10)) [ inl e ↦ rw e (omega arith) | inr e ↦ rw e (omega (arith, before-most bs)) ]

-- what a search for a newline finds
abbrev pub newline_in : List ℕ → Option ℕ
newline_in bs = cond (ltb (position_or_len (λ b. eqb b 10) bs) (length bs)) (Some (position_or_len (λ b. eqb b 10) bs)) None

-- how many bytes it says the line has
line-end : (bs : List ℕ) (newline : Option ℕ) → newline ≡ newline_in bs → unwrap_or newline (length bs) ≡ length (before_newline bs)
line-end bs newline e =
    rw e (rw (before-position bs)
    (elim (cases (ltb (length (before_newline bs)) (length bs))) [
      | inl t ↦ rw t refl
      | inr t ↦ rw t (omega (arith, ltb-false (length (before_newline bs)) (length bs) t, before-most bs))
    ]))

-- and the place after it
after-newline : (bs : List ℕ) (place : ℕ) (newline : Option ℕ) → newline ≡ newline_in bs
    → option_map (λ n. place + n + 1) newline ≡ pick (has_newline bs) (Some (place + length (before_newline bs) + 1)) None
after-newline bs place newline e =
    rw e (rw (before-position bs)
    (elim (cases (ltb (length (before_newline bs)) (length bs))) [
      | inl t ↦ rw (t, has-some bs (ltb-true (length (before_newline bs)) (length bs) t)) refl
      | inr t ↦ rw (t, has-none bs (ltb-false (length (before_newline bs)) (length bs) t)) refl
    ]))

-- what std's map of an option says
pub mapped : {Q : ℕ → ℕ → Type 0} (f : ℕ → ℕ) (o r : Option ℕ) → MatchOption o (r ≡ None) (λ x. IsSomeAnd r (Q x)) → ((x y : ℕ) → Q x y → y ≡ f x) → r ≡ option_map f o
mapped f None r h k = h
mapped f (Some x) None h k = absurd h
mapped f (Some x) (Some y) h k = ap Some (k x y h)

-- ---- a line with the bytes added

pub grown : {piece line₀ : List ℕ} {place filled count : ℕ} {newline after : Option ℕ} (tail : List ℕ) → Growing piece line₀ place filled → newline ≡ newline_in (drop place piece)
    → count ≡ min (unwrap_or newline (length (drop place piece))) (length line₀ - filled) → after ≡ option_map (λ n. place + n + 1) newline
    → Grown piece line₀ place filled (take filled line₀ ++ (take count (drop place piece) ++ tail)) (record { length = filled + count; after = after })
grown {piece} {line₀} {place} {filled} {count} {newline} tail g n c a =
    let rest : List ℕ = drop place piece in
    let before : List ℕ = before_newline rest in
    let p : ℕ = length before in
    let room : ℕ = length line₀ - filled in
    let l : count ≡ min p room = c ∙ ap (λ (k : ℕ). min k room) (line-end rest newline n) in
    let most : p ≤ length rest = before-most rest in
    let front : List ℕ = take filled line₀ in
    let part : List ℕ = take count rest in
    let front-long : length front ≡ filled = length-take-le filled line₀ g.fits in
    let long : filled + count ≡ length (front ++ part) = omega (arith, length-append front part, front-long, length-take-le count rest (omega arith)) in
    let left : take (filled + count) (front ++ (part ++ tail)) ≡ front ++ part =
    ap (take (filled + count)) (sym (append_assoc front part tail)) ∙ ap (λ (k : ℕ). take k ((front ++ part) ++ tail)) long ∙ take-append_seam (front ++ part) tail in
    let whole : length line₀ ≡ length front + room = omega (arith, front-long, g.fits) in
    let cut : take room before ≡ part =
    sym (take_min room before) ∙ ap (λ (k : ℕ). take k before) (omega arith) ∙ ap (take count) (sym (before-part rest)) ∙
    sym (take-append-le count (take p rest) (drop p rest) (omega (arith, length-take-le p rest most))) ∙ ap (take count) (take-append-drop p rest) in
    let right : take (length line₀) (front ++ before) ≡ front ++ part =
    ap (λ (k : ℕ). take k (front ++ before)) whole ∙ take-append-add front before room ∙ ap (λ (x : List ℕ). front ++ x) cut in
    record {
      line-is = left ∙ sym right;
      fits = omega (arith, g.fits, l);
      after-is = a ∙ after-newline rest place newline n;
    }

-- ---- how far it goes

passed-most : (bs : List ℕ) → has_newline bs ≡ true → length (before_newline bs) < length bs
passed-most bs e = elim (lt-or-le (length (before_newline bs)) (length bs)) [ inl h ↦ h | inr h ↦ absurd (true≢false (sym e ∙ has-none bs h)) ]

module _ {piece line₀ : List ℕ} {place filled : ℕ} {line : List ℕ} {r : Taken} (g : Grown piece line₀ place filled line r) where
  -- a line that ended, and one that goes on
  pub record Ended (after : ℕ) : Type 0 where
    pub newline : has_newline (drop place piece) ≡ true
    pub place_is : after ≡ place + length (before_newline (drop place piece)) + 1

  pub grown-ended : {after : ℕ} → r.after ≡ Some after → Ended after
  grown-ended {after} e =
      elim (cases (has_newline (drop place piece))) [
        | inl t ↦ let f = rw t at g.after-is in record { newline = t; place_is = cc }
        | inr t ↦ let f = rw t at g.after-is in absurd cc
      ]

  pub grown-open : r.after ≡ None → has_newline (drop place piece) ≡ false
  grown-open e = elim (cases (has_newline (drop place piece))) [ inl t ↦ let f = rw t at g.after-is in absurd cc | inr t ↦ t ]

  pub grown-within : {after : ℕ} → r.after ≡ Some after → place ≤ length piece → after ≤ length piece
  grown-within e h = omega (arith, (grown-ended e).place_is, passed-most (drop place piece) (grown-ended e).newline, length-drop place piece)
