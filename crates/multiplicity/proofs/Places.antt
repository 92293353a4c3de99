-- Laws of multiplicities in one or two places: how many there are, what is read at a place, what a store leaves.
-- Induction goes two places at a time. Assumes nothing.
use Rattle.std.proofs.Common.{◌≡◌, refl, ap, ◌∙◌, Bool, true, false, List, [], ◌∷◌, ℕ, zero, suc, ◌+◌, ◌*◌, ◌/◌, ◌%◌, ◌<◌, ◌≤◌, length, get_or, set, arith}
use Rattle.multiplicity.specs.Places.{pairs, multiplicities, count_end}

-- ---- how many

pub pairs-long : (xs : List ℕ) → (2 * length (pairs xs) ≤ length xs) × (length xs ≤ 2 * length (pairs xs) + 1)
unfolding pairs
pairs-long [] = omega arith
pairs-long (x ∷ []) = omega arith
pairs-long (x ∷ (y ∷ zs)) = omega (arith, pairs-long zs)

-- as many places, as many multiplicities
pub multiplicities-long : (z : Bool) (xs ys : List ℕ) → length xs ≡ length ys → length (multiplicities z xs) ≡ length (multiplicities z ys)
multiplicities-long false xs ys e = e
multiplicities-long true xs ys e = omega (arith, pairs-long xs, pairs-long ys)

-- ---- the places of the next number

lower : (i : ℕ) → 2 * suc i ≡ suc (suc (2 * i))
lower i = omega arith

upper : (i : ℕ) → 2 * suc i + 1 ≡ suc (suc (2 * i + 1))
upper i = omega arith

-- ---- read

pub pairs-get : (xs : List ℕ) (i : ℕ) → i < length (pairs xs) →
    get_or xs (2 * i) 0 + 65536 * get_or xs (2 * i + 1) 0 ≡ get_or (pairs xs) i 0
unfolding pairs
pairs-get [] i h = absurd (omega arith)
pairs-get (x ∷ []) i h = absurd (omega arith)
pairs-get (x ∷ (y ∷ zs)) zero h = refl
pairs-get (x ∷ (y ∷ zs)) (suc i) h = rw (upper i, lower i) (pairs-get zs i (omega arith))

-- ---- stored

pub pairs_set : (xs : List ℕ) (i v w : ℕ) → pairs (set (set xs (2 * i) v) (2 * i + 1) w) ≡ set (pairs xs) i (v + 65536 * w)
unfolding pairs
pairs_set [] i v w = refl
pairs_set (x ∷ []) zero v w = refl
pairs_set (x ∷ []) (suc i) v w = rw (upper i, lower i)
pairs_set (x ∷ (y ∷ zs)) zero v w = refl
pairs_set (x ∷ (y ∷ zs)) (suc i) v w = rw (upper i, lower i) (ap (λ (l : List ℕ). (x + 65536 * y) ∷ l) (pairs_set zs i v w))

-- ---- by width: the facts that `load` and `store` need, under the test that the code makes

-- two places for each
pub length_wide : (z : Bool) (xs : List ℕ) → z ≡ true → 2 * length (multiplicities z xs) ≤ length xs
length_wide true xs e = omega (arith, pairs-long xs)
length_wide false xs e = cc

pub get_wide : (z : Bool) (xs : List ℕ) (i : ℕ) → z ≡ true → i < length (multiplicities z xs) →
    get_or xs (2 * i) 0 + 65536 * get_or xs (2 * i + 1) 0 ≡ get_or (multiplicities z xs) i 0
get_wide true xs i e h = pairs-get xs i h
get_wide false xs i e h = cc

pub set_wide : (z : Bool) (xs : List ℕ) (i v : ℕ) → z ≡ true →
    multiplicities z (set (set xs (2 * i) (v % 65536)) (2 * i + 1) (v / 65536)) ≡ set (multiplicities z xs) i v
set_wide true xs i v e =
    let whole : v % 65536 + 65536 * (v / 65536) ≡ v = omega arith in
    pairs_set xs i (v % 65536) (v / 65536) ∙ ap (λ (x : ℕ). set (pairs xs) i x) whole
set_wide false xs i v e = cc

-- ---- what is stored

pub end-least : (z : Bool) → 65536 ≤ count_end z
end-least false = omega arith
end-least true = omega arith

pub end-most : (z : Bool) → count_end z ≤ 262144
end-most false = omega arith
end-most true = omega arith
