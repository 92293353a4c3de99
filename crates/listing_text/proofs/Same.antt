-- The test `same` is what `==` says of two lists of bytes. What it says by the lists' members is in the crate lists. Assumes nothing.
use Rattle.std.proofs.Common.{◌≡◌, ℕ, eqb, List, [], ◌∷◌, refl, ap, ◌&&◌}
use Rattle.std.specs.Str.{bytes_eq}
use Rattle.lists.specs.Lists.{same}

pub bytes-same : (xs ys : List ℕ) → bytes_eq xs ys ≡ same xs ys
unfolding same
bytes-same [] [] = refl
bytes-same [] (y ∷ ys) = refl
bytes-same (x ∷ xs) [] = refl
bytes-same (x ∷ xs) (y ∷ ys) = ap (λ b. eqb x y && b) (bytes-same xs ys)
