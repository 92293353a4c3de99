-- Bytes written to a list from a place on: its length, one byte, and bytes after bytes (how a printer's calls add up). Then a number by
-- its last digit, and how long each line is. Assumes nothing.
use mathlib.Core.Path.{◌≡◌, refl, sym, ap, ◌∙◌}
use mathlib.Core.List.{List, [], ◌∷◌, ◌++◌, append_assoc, append-nil}
use Prim.Native.Nat.{ℕ, zero, suc, ◌+◌, ◌*◌, ◌/◌, ◌%◌, ◌^◌, ◌≤◌, ◌<◌}
use native.Mathlib.Omega.{arith}
use native.Mathlib.Numerals.{add-one}
use lib.ListN.{length, get_or, take, drop, set, length-append, length-drop, length-set}
use lib.Seq.{length-take-le, take-suc, set_split, take_at, drop-append-add, drop-drop}
use Rattle.lists.specs.Lists.{written_at}
use Rattle.listing_text.specs.Text.{decimal, newline, marked_number, ok_line, no_line, show_head, show_pair, show_pairs, Room, Written}
use Rattle.listing_text.proofs.Decimal.{decimal-small, decimal-more, decimal-room}

pub written-length : (out : List ℕ) (at : ℕ) (bs : List ℕ) → at + length bs ≤ length out → length (written_at at bs out) ≡ length out
written-length out at bs h =
    omega (
      arith,
      length-append (take at out) (bs ++ drop (at + length bs) out),
      length-append bs (drop (at + length bs) out),
      length-take-le at out (omega arith),
      length-drop (at + length bs) out,
    )

-- one byte
pub written_byte : (out : List ℕ) (at b : ℕ) → at < length out → Written out at (b ∷ []) (set out at b) (at + 1)
written_byte out at b h =
    record { out-is = set_split out at b h ∙ ap (λ (n : ℕ). take at out ++ (b ∷ drop n out)) (sym (add-one at)); next-is = refl }

-- bytes after bytes
written_twice : (out : List ℕ) (at : ℕ) (xs ys : List ℕ) → at + length xs ≤ length out → written_at (at + length xs) ys (written_at at xs out) ≡ written_at at (xs ++ ys) out
written_twice out at xs ys h =
    let p : List ℕ = take at out ++ xs in
    let q : List ℕ = drop (at + length xs) out in
    let size : length p ≡ at + length xs = omega (arith, length-append (take at out) xs, length-take-le at out (omega arith)) in
    let cut : written_at at xs out ≡ p ++ q = sym (append_assoc (take at out) xs q) in
    let front : take (at + length xs) (p ++ q) ≡ p = take_at p q (at + length xs) size in
    let whole : at + length xs + length ys ≡ at + length (xs ++ ys) = omega (arith, length-append xs ys) in
    let tail : drop (at + length xs + length ys) (p ++ q) ≡ drop (at + length (xs ++ ys)) out =
    ap (λ (n : ℕ). drop (n + length ys) (p ++ q)) (sym size) ∙ drop-append-add p q (length ys) ∙ drop-drop (length ys) (at + length xs) out
    ∙ ap (λ (n : ℕ). drop n out) whole in
    ap (λ (l : List ℕ). written_at (at + length xs) ys l) cut ∙ rw (front, tail) (append_assoc (take at out) xs (ys ++ drop (at + length (xs ++ ys)) out) ∙ ap (λ (l : List ℕ). take at out ++ l) (sym (append_assoc xs ys (drop (at + length (xs ++ ys)) out))))

pub written-join : {out₀ out₁ out₂ : List ℕ} {at next end : ℕ} {xs ys : List ℕ} → next ≤ length out₀
    → Written out₀ at xs out₁ next → Written out₁ next ys out₂ end → Written out₀ at (xs ++ ys) out₂ end
written-join {out₀} {out₁} {out₂} {at} {next} {end} {xs} {ys} h a b =
    record {
      out-is = b.out-is ∙ rw (a.out-is, a.next-is) (written_twice out₀ at xs ys (omega (arith, a.next-is)));
      next-is = omega (arith, a.next-is, b.next-is, length-append xs ys);
    }

-- two bytes
pub written-pair : (out : List ℕ) (at a b : ℕ) → at + 2 ≤ length out → Written out at (a ∷ b ∷ []) (set (set out at a) (at + 1) b) (at + 2)
written-pair out at a b h =
    let l : length (set out at a) ≡ length out = length-set out at a in
    let w : Written out at (a ∷ b ∷ []) (set (set out at a) (at + 1) b) (at + 1 + 1) =
    written-join (omega arith) (written_byte out at a (omega arith)) (written_byte (set out at a) (at + 1) b (omega arith)) in
    record { out-is = w.out-is; next-is = refl }

-- ---- a number, by its last digit

pub number_small : {out : List ℕ} {at n : ℕ} → Room out at (decimal n) → n < 10 → (at < length out) × Written out at (decimal n) (set out at (48 + n)) (at + 1)
number_small {out} {at} {n} r h =
    let b : at < length out = omega (arith, r.room, ap length (decimal-small n h)) in
    (b, rw (decimal-small n h) (written_byte out at (48 + n) b))

pub number-rest : {out : List ℕ} {at n : ℕ} → Room out at (decimal n) → 10 ≤ n → Room out at (decimal (n / 10))
number-rest {out} {at} {n} r h =
    record { room = omega (arith, r.room, ap length (decimal-more n h), length-append (decimal (n / 10)) ((48 + n % 10) ∷ [])) }

-- the last digit after the others
pub record Last (out₀ : List ℕ) (at n : ℕ) (out : List ℕ) (end : ℕ) : Type 0 where
  pub below : end < length out
  pub long : length out ≡ length out₀
  pub after : Written out₀ at (decimal n) (set out end (48 + n % 10)) (end + 1)

pub number-last : {out₀ out : List ℕ} {at n end : ℕ} → Room out₀ at (decimal n) → 10 ≤ n → Written out₀ at (decimal (n / 10)) out end → Last out₀ at n out end
number-last {out₀} {out} {at} {n} {end} r h w =
    let s = (number-rest r h).room in
    let l : length out ≡ length out₀ = ap length w.out-is ∙ written-length out₀ at (decimal (n / 10)) s in
    let b : end < length out = omega (arith, r.room, w.next-is, ap length (decimal-more n h), length-append (decimal (n / 10)) ((48 + n % 10) ∷ [])) in
    record { below = b; long = l; after = rw (decimal-more n h) (written-join (omega (arith, w.next-is)) w (written_byte out end (48 + n % 10) b)) }

-- ---- how long the lines are

pub ok-length : (t e g : ℕ) → length (ok_line t e g) ≡ 6 + (length (decimal t) + length (decimal e) + length (decimal g))
unfolding ok_line
ok-length t e g =
    let x : List ℕ = (111 ∷ 107 ∷ []) ++ marked_number 32 t in
    let y : List ℕ = x ++ marked_number 32 e in
    let z : List ℕ = y ++ marked_number 32 g in
    omega (arith, length-append z newline, length-append y (marked_number 32 g), length-append x (marked_number 32 e))

pub no_length : (n p : ℕ) → length (no_line n p) ≡ 5 + (length (decimal n) + length (decimal p))
unfolding no_line
no_length n p =
    let x : List ℕ = (110 ∷ 111 ∷ []) ++ marked_number 32 n in
    let y : List ℕ = x ++ marked_number 32 p in
    omega (arith, length-append y newline, length-append x (marked_number 32 p))

pub head-length : (j p : ℕ) → length (show_head j p) ≡ 1 + (length (decimal j) + length (decimal p))
unfolding show_head
head-length j p = omega (arith, length-append (decimal j) (marked_number 32 p))

pub pair-length : (i n : ℕ) → length (show_pair i n) ≡ 2 + (length (decimal i) + length (decimal n))
unfolding show_pair
pair-length i n = omega (arith, length-append (marked_number 32 i) (marked_number 58 n))

-- ---- how much room they take at most, for numbers below 2^32

pub ok-room : (t e g : ℕ) → t < 2 ^ 32 → e < 2 ^ 32 → g < 2 ^ 32 → length (ok_line t e g) ≤ 36
ok-room t e g p q r = omega (arith, ok-length t e g, decimal-room t p, decimal-room e q, decimal-room g r)

pub no_room : (n p : ℕ) → n < 2 ^ 32 → p < 2 ^ 32 → length (no_line n p) ≤ 25
no_room n p q r = omega (arith, no_length n p, decimal-room n q, decimal-room p r)

pub head-room : (j p : ℕ) → j < 2 ^ 32 → p < 2 ^ 32 → length (show_head j p) ≤ 21
head-room j p q r = omega (arith, head-length j p, decimal-room j q, decimal-room p r)

pub pair-room : (i n : ℕ) → i < 2 ^ 32 → n < 2 ^ 32 → length (show_pair i n) ≤ 22
pair-room i n q r = omega (arith, pair-length i n, decimal-room i q, decimal-room n r)

-- ---- a shown column, pair by pair

-- whole pairs, then others
pub pairs-append : (k : ℕ) (xs ys : List ℕ) → length xs ≡ 2 * k → show_pairs (xs ++ ys) ≡ show_pairs xs ++ show_pairs ys
unfolding show_pairs
pairs-append zero [] ys e = refl
pairs-append zero (x ∷ xs) ys e = absurd (omega arith)
pairs-append (suc k) [] ys e = absurd (omega arith)
pairs-append (suc k) (x ∷ []) ys e = absurd (omega arith)
pairs-append (suc k) (x ∷ y ∷ xs) ys e =
    ap (λ (l : List ℕ). show_pair x y ++ l) (pairs-append k xs ys (omega arith)) ∙ sym (append_assoc (show_pair x y) (show_pairs xs) (show_pairs ys))

-- one pair more, of a list of entries
pub pairs-push : (es : List ℕ) (k : ℕ) → 2 * k + 2 ≤ length es
    → show_pairs (take (2 * k + 2) es) ≡ show_pairs (take (2 * k) es) ++ show_pair (get_or es (2 * k) 0) (get_or es (2 * k + 1) 0)
unfolding show_pairs
pairs-push es k h =
    let two : 2 * k + 2 ≡ suc (suc (2 * k)) = omega arith in
    let one : suc (2 * k) ≡ 2 * k + 1 = omega arith in
    let a : ℕ = get_or es (2 * k) 0 in
    let b : ℕ = get_or es (2 * k + 1) 0 in
    let cut : take (2 * k + 2) es ≡ take (2 * k) es ++ (a ∷ b ∷ []) =
    ap (λ (n : ℕ). take n es) two ∙ take-suc es (suc (2 * k)) 0 (omega arith)
    ∙ ap (λ (l : List ℕ). l ++ (get_or es (suc (2 * k)) 0 ∷ [])) (take-suc es (2 * k) 0 (omega arith))
    ∙ append_assoc (take (2 * k) es) (a ∷ []) (get_or es (suc (2 * k)) 0 ∷ []) ∙ ap (λ (n : ℕ). take (2 * k) es ++ (a ∷ get_or es n 0 ∷ [])) one in
    ap show_pairs cut ∙ pairs-append k (take (2 * k) es) (a ∷ b ∷ []) (length-take-le (2 * k) es (omega arith))
    ∙ ap (λ (l : List ℕ). show_pairs (take (2 * k) es) ++ l) (append-nil (show_pair a b))
