-- Numbers in decimal: the definition by the last digit (how a recursion writes it), how long it is, and that reading it gives the number
-- back. Assumes nothing.
use mathlib.Core.Path.{◌≡◌, refl, sym, ap, ◌∙◌}
use mathlib.Core.Bool.{true}
use mathlib.Core.Logic.{inl, inr}
use mathlib.Core.List.{List, [], ◌∷◌, ◌++◌}
use Prim.Native.Nat.{ℕ, zero, suc, ◌+◌, ◌*◌, ◌-◌, ◌/◌, ◌%◌, ◌^◌, ◌≤◌, ◌<◌}
use native.Mathlib.Omega.{arith}
use native.Mathlib.Nat.{pow-suc}
use lib.ListN.{length, length-append}
use borrow.Author.Tests.{lt-ltb, le-ltb}
use Rattle.lists.specs.Lists.{all}
use Rattle.lists.proofs.Tests.{lt-or-le, and_both, both-and, range-in}
use Rattle.listing_text.specs.Command.{is_digit, value_after, value_of, is_number}
use Rattle.listing_text.specs.Text.{digits, decimal}

-- ---- by the last digit

digits-small : (k n : ℕ) → n < 10 → digits (suc k) n ≡ (48 + n) ∷ []
unfolding digits
digits-small k n h = rw (lt-ltb n 10 h) refl

digits_more : (k n : ℕ) → 10 ≤ n → digits (suc k) n ≡ digits k (n / 10) ++ ((48 + n % 10) ∷ [])
unfolding digits
digits_more k n h = rw (le-ltb n 10 h) refl

-- more room than a number needs changes nothing
digits-enough : (k l n : ℕ) → n < k → n < l → digits k n ≡ digits l n
digits-enough zero l n p q = absurd (omega arith)
digits-enough (suc k) zero n p q = absurd (omega arith)
digits-enough (suc k) (suc l) n p q =
    elim (lt-or-le n 10) [
      | inl h ↦ digits-small k n h ∙ sym (digits-small l n h)
      | inr h ↦
          digits_more k n h ∙ ap (λ (ds : List ℕ). ds ++ ((48 + n % 10) ∷ [])) (digits-enough k l (n / 10) (omega arith) (omega arith)) ∙ sym (digits_more l n h)
    ]

pub decimal-small : (n : ℕ) → n < 10 → decimal n ≡ (48 + n) ∷ []
unfolding decimal
decimal-small n h = digits-small n n h

pub decimal-more : (n : ℕ) → 10 ≤ n → decimal n ≡ decimal (n / 10) ++ ((48 + n % 10) ∷ [])
unfolding decimal
decimal-more n h =
    digits_more n n h ∙ ap (λ (ds : List ℕ). ds ++ ((48 + n % 10) ∷ [])) (digits-enough n (suc (n / 10)) (n / 10) (omega arith) (omega arith))

-- ---- its length

pub decimal-least : (n : ℕ) → 1 ≤ length (decimal n)
decimal-least n =
    elim (lt-or-le n 10) [
      | inl h ↦ omega (arith, ap length (decimal-small n h))
      | inr h ↦ omega (arith, ap length (decimal-more n h), length-append (decimal (n / 10)) ((48 + n % 10) ∷ []))
    ]

-- a digit more for ten times as much
pub decimal-length : (k n : ℕ) → n < 10 ^ suc k → length (decimal n) ≤ suc k
decimal-length zero n b = omega (arith, ap length (decimal-small n (omega arith)))
decimal-length (suc k) n b =
    elim (lt-or-le n 10) [
      | inl h ↦ omega (arith, ap length (decimal-small n h))
      | inr h ↦
          let r : length (decimal (n / 10)) ≤ suc k = decimal-length k (n / 10) (omega (arith, pow-suc 10 (suc k))) in
          omega (arith, ap length (decimal-more n h), length-append (decimal (n / 10)) ((48 + n % 10) ∷ []))
    ]

-- a number below 2^32 has at most 10 bytes
pub decimal-room : (n : ℕ) → n < 2 ^ 32 → length (decimal n) ≤ 10
decimal-room n h = decimal-length 9 n (omega arith)

-- ---- read again

value-last : (v d : ℕ) (ds : List ℕ) → value_after v (ds ++ (d ∷ [])) ≡ 10 * value_after v ds + (d - 48)
unfolding value_after
value-last v d [] = refl
value-last v d (e ∷ ds) = value-last (10 * v + (e - 48)) d ds

all-last : (d : ℕ) (ds : List ℕ) → all is_digit ds ≡ true → is_digit d ≡ true → all is_digit (ds ++ (d ∷ [])) ≡ true
unfolding all
all-last d [] p q = rw q refl
all-last d (e ∷ ds) p q = let t = and_both (is_digit e) (all is_digit ds) p in both-and t.0 (all-last d ds t.1 q)

-- the value and the digits of a number's decimal, for numbers below a bound
reads : (k n : ℕ) → n < k → (value_of (decimal n) ≡ n) × (all is_digit (decimal n) ≡ true)
unfolding value_after all
reads zero n h = absurd (omega arith)
reads (suc k) n h =
    elim (lt-or-le n 10) [
      | inl l ↦ (rw (decimal-small n l) (omega arith), rw (decimal-small n l, range-in 48 57 (48 + n) (omega arith) (omega arith)) refl)
      | inr l ↦
          let r = reads k (n / 10) (omega arith) in (
            rw (decimal-more n l) (omega (arith, value-last 0 (48 + n % 10) (decimal (n / 10)))),
            rw (decimal-more n l) (all-last (48 + n % 10) (decimal (n / 10)) r.1 (range-in 48 57 (48 + n % 10) (omega arith) (omega arith))),
          )
    ]

pub decimal-number : (n : ℕ) → n < 2 ^ 32 → is_number (decimal n) ≡ true
unfolding is_number
decimal-number n h =
    let r = reads (suc n) n (omega arith) in
    rw (lt-ltb 0 (length (decimal n)) (decimal-least n), r.1, r.0) (lt-ltb n (2 ^ 32) h)
