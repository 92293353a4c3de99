-- Ordered choices of refusals: `or_else` and `unless` taken apart and put together, that an accepted choice is number 0 at position 0 (`Whole`), and
-- which numbers a choice can have (`NumberOf`). Refusals.antt and Numbers.antt apply them group by group.
-- Assumes nothing.
use mathlib.Core.Path.{◌≡◌, refl, sym, ◌∙◌}
use mathlib.Core.Logic.{◌⊎◌, inl, inr}
use mathlib.Core.Bool.{Bool, true, false, false≢true}
use Prim.Native.Nat.{ℕ}
use lib.Dec.{eqb}
use Rattle.lists.proofs.Tests.{cases}
use Rattle.calls.specs.Refusals.{Refusal, refusal, accepted, is_accepted, or_else, unless}

-- ---- taken apart

pub or-both : (x y : Refusal) → is_accepted (or_else x y) ≡ true → (is_accepted x ≡ true) × (is_accepted y ≡ true)
or-both x y h = elim (cases (is_accepted x)) [ inl e ↦ (e, rw e at h) | inr e ↦ absurd (false≢true (sym e ∙ (rw e at h))) ]

pub unless_holds : (z : Bool) (n p : ℕ) → eqb n 0 ≡ false → is_accepted (unless z n p) ≡ true → z ≡ true
unless_holds true n p q h = refl
unless_holds false n p q h = absurd (false≢true (sym q ∙ h))

-- ---- put together

pub or-second : (x y : Refusal) → is_accepted x ≡ true → or_else x y ≡ y
or-second x y e = rw e refl

pub or-first : (x y : Refusal) → is_accepted x ≡ false → or_else x y ≡ x
or-first x y e = rw e refl

pub or_assoc : (x y z : Refusal) → or_else (or_else x y) z ≡ or_else x (or_else y z)
or_assoc x y z = elim (cases (is_accepted x)) [ inl e ↦ rw e refl | inr e ↦ rw (e, e) refl ]

pub both-or : (x y : Refusal) → is_accepted x ≡ true → is_accepted y ≡ true → is_accepted (or_else x y) ≡ true
both-or x y e f = rw (e, f) refl

pub unless-true : (z : Bool) (n p : ℕ) → z ≡ true → unless z n p ≡ accepted
unless-true z n p e = rw e refl

pub unless-false : (z : Bool) (n p : ℕ) → z ≡ false → unless z n p ≡ refusal n p
unless-false z n p e = rw e refl

-- ---- "Accepted is 0": with position 0

abbrev pub Whole : Refusal → Type 0
Whole x = is_accepted x ≡ true → x ≡ accepted

pub unless-whole : (z : Bool) (n p : ℕ) → eqb n 0 ≡ false → Whole (unless z n p)
unless-whole true n p q h = refl
unless-whole false n p q h = absurd (false≢true (sym q ∙ h))

pub or-whole : (x y : Refusal) → Whole y → Whole (or_else x y)
or-whole x y f h = let t : (is_accepted x ≡ true) × (is_accepted y ≡ true) = or-both x y h in or-second x y t.0 ∙ f t.1

-- ---- which numbers

-- no number, or one of these
abbrev pub NumberOf : (ℕ → Type 0) → Refusal → Type 0
NumberOf P x = (x.number ≡ 0) ⊎ P x.number

module _ (P : ℕ → Type 0) where
  pub number-none : NumberOf P accepted
  number-none = inl refl

  pub number-unless : (z : Bool) (n p : ℕ) → P n → NumberOf P (unless z n p)
  number-unless true n p h = inl refl
  number-unless false n p h = inr h

  pub number-or : (x y : Refusal) → NumberOf P x → NumberOf P y → NumberOf P (or_else x y)
  number-or x y f g = elim (cases (is_accepted x)) [ inl e ↦ rw e g | inr e ↦ rw e f ]
