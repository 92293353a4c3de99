-- Numbers counted up when adding and down when removing. Assumes nothing.
use mathlib.Core.Path.{◌≡◌}
use mathlib.Core.Bool.{Bool, true, false, not}
use Prim.Native.Nat.{ℕ, ◌+◌, ◌≤◌}
use native.Mathlib.Omega.{arith}
use Rattle.lists.specs.Lists.{pick, one}
use Rattle.differences.specs.Tally.{base, counted}

-- ---- a number counted up or down

abbrev pub CountedAt : (up : Bool) (d d' t : ℕ) → Type 0
CountedAt true d d' t = d' ≡ d + t
CountedAt false d d' t = d' + t ≡ d

pub counted-at : (up : Bool) (m : ℕ) (d e : ℕ → ℕ) (p : ℕ → Bool) → counted up d e m p → (i : ℕ) → 1 ≤ i → i ≤ m → CountedAt up (d i) (e i) (one (p i))
counted-at true m d e p h i a b = h i a b
counted-at false m d e p h i a b = h i a b

-- difference and multiplicity go the same way
pub counted-both : (up : Bool) (o d d' x x' t : ℕ) → CountedAt up d d' t → CountedAt up x x' t → o + d ≡ base + x → o + d' ≡ base + x'
counted-both true o d d' x x' t g h e = omega arith
counted-both false o d d' x x' t g h e = omega arith

pub counted_none : (up : Bool) (d d' t : ℕ) → CountedAt up d d' t → t ≡ 0 → d' ≡ d
counted_none true d d' t h z = omega arith
counted_none false d d' t h z = omega arith

-- beside what stays
pub counted-more : (up : Bool) (y x x' z t t' : ℕ) → CountedAt up x x' t → t ≡ t' → CountedAt up (y + x + z) (y + x' + z) t'
counted-more true y x x' z t t' h e = omega arith
counted-more false y x x' z t t' h e = omega arith

-- what two numbers differ by, one way when adding and the other way when removing
pub counted-with : (adding : Bool) (x x' a b t : ℕ) → b ≡ a + t → x' + pick adding a b ≡ x + pick adding b a → CountedAt adding x x' t
counted-with true x x' a b t e h = omega arith
counted-with false x x' a b t e h = omega arith

pub counted-without : (adding : Bool) (x x' a b t : ℕ) → a ≡ b + t → x' + pick adding a b ≡ x + pick adding b a → CountedAt (not adding) x x' t
counted-without true x x' a b t e h = omega arith
counted-without false x x' a b t e h = omega arith
