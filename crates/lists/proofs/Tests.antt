-- Tests and choices: case splits that keep the fact, conjunctions and disjunctions taken apart and put together. Assumes nothing.
use mathlib.Core.Path.{◌≡◌, refl, sym}
use mathlib.Core.Logic.{◌⊎◌, inl, inr, ◌≢◌}
use mathlib.Core.Bool.{Bool, true, false, ◌&&◌, ◌||◌, false≢true, not}
use Prim.Native.Nat.{ℕ, ◌≤◌, ◌<◌}
use native.Mathlib.Omega.{arith}
use lib.Dec.{ltb, leb, eqb}
use borrow.Author.Tests.{ltb-true, ltb-false, leb-true, eqb-true, eqb-false, le-leb}
use Rattle.lists.specs.Lists.{one, is_in, Decides}

-- ---- case splits that keep the fact

pub cases : (b : Bool) → (b ≡ true) ⊎ (b ≡ false)
cases true = inl refl
cases false = inr refl

pub eq-or-ne : (a b : ℕ) → (a ≡ b) ⊎ (a ≢ b)
eq-or-ne a b = elim (cases (eqb a b)) [ inl e ↦ inl (eqb-true a b e) | inr e ↦ inr (eqb-false a b e) ]

pub lt-or-le : (a b : ℕ) → (a < b) ⊎ (b ≤ a)
lt-or-le a b = elim (cases (ltb a b)) [ inl e ↦ inl (ltb-true a b e) | inr e ↦ inr (ltb-false a b e) ]

pub zero-or-pos : (a : ℕ) → (a ≡ 0) ⊎ (0 < a)
zero-or-pos a = elim (eq-or-ne a 0) [ inl e ↦ inl e | inr e ↦ inr (omega arith) ]

-- ---- conjunctions and disjunctions

pub and_both : (a b : Bool) → (a && b) ≡ true → (a ≡ true) × (b ≡ true)
and_both true b h = (refl, h)
and_both false b h = absurd (false≢true h)

pub both-and : {a b : Bool} → a ≡ true → b ≡ true → (a && b) ≡ true
both-and p q = rw (p, q)

pub or-either : (a b : Bool) → (a || b) ≡ true → (a ≡ true) ⊎ (b ≡ true)
or-either true b h = inl refl
or-either false b h = inr h

pub or_left : (a b : Bool) → a ≡ true → (a || b) ≡ true
or_left a b h = rw h

pub or_right : (a b : Bool) → b ≡ true → (a || b) ≡ true
or_right true b h = refl
or_right false b h = h

pub and_assoc : (a b c : Bool) → (a && b) && c ≡ a && (b && c)
and_assoc true b c = refl
and_assoc false b c = refl

pub and-false : (a : Bool) → (a && false) ≡ false
and-false true = refl
and-false false = refl

pub and-true : (a : Bool) → (a && true) ≡ a
and-true true = refl
and-true false = refl

pub and-swap : (a b : Bool) → (a && b) ≡ (b && a)
and-swap true b = sym (and-true b)
and-swap false b = sym (and-false b)

pub and-not : (a b : Bool) → b ≡ false → (a && not b) ≡ a
and-not a b e = rw e (and-true a)

pub or-false : (a : Bool) → (a || false) ≡ a
or-false true = refl
or-false false = refl

pub or_swap : (a b : Bool) → (a || b) ≡ (b || a)
or_swap true true = refl
or_swap true false = refl
or_swap false true = refl
or_swap false false = refl

-- two tests that imply one another are equal
pub both_ways : (x y : Bool) → (x ≡ true → y ≡ true) → (y ≡ true → x ≡ true) → x ≡ y
both_ways true true f g = refl
both_ways true false f g = sym (f refl)
both_ways false true f g = g refl
both_ways false false f g = refl

-- a test that its truth contradicts is false
pub refute : (b : Bool) → (b ≡ true → ⊥) → b ≡ false
refute true f = absurd (f refl)
refute false f = refl

-- a fact that does not hold is answered so
pub decides-no : {fact : Type 0} → (fact → ⊥) → Decides fact false
decides-no f = record { yes = λ e. absurd (false≢true e); no = λ x. absurd (f x) }

pub in-range : (a b x : ℕ) → is_in a b x ≡ true → (a ≤ x) × (x ≤ b)
in-range a b x h = let t : (leb a x ≡ true) × (leb x b ≡ true) = and_both (leb a x) (leb x b) h in (leb-true a x t.0, leb-true x b t.1)

pub range-in : (a b x : ℕ) → a ≤ x → x ≤ b → is_in a b x ≡ true
range-in a b x p q = both-and (le-leb a x p) (le-leb x b q)

-- ---- one

pub one-pos : (b : Bool) → 0 < one b → b ≡ true
one-pos true h = refl
one-pos false h = absurd (omega arith)

pub pos-one : (b : Bool) → b ≡ true → 0 < one b
pos-one true e = omega arith
pos-one false e = absurd (false≢true e)

pub one-le : (b : Bool) → one b ≤ 1
one-le true = omega arith
one-le false = omega arith
