-- Zeros of one list, and places with 0 in both of two, counted place by place and block by block. Assumes nothing.
use mathlib.Core.Path.{◌≡◌, refl, sym, ap}
use mathlib.Core.Logic.{◌⊎◌, inl, inr, ◌≢◌}
use mathlib.Core.Bool.{true, false, ◌&&◌}
use mathlib.Core.List.{List, [], ◌∷◌, ◌++◌}
use Prim.Native.Nat.{ℕ, ◌+◌, ◌≤◌, ◌<◌}
use native.Mathlib.Omega.{arith}
use native.Mathlib.Numerals.{add-one}
use lib.Dec.{eqb}
use lib.ListN.{length, get_or, take}
use lib.Seq.{take-suc}
use Rattle.lists.specs.Lists.{one, times}
use Rattle.lists.proofs.Tests.{one-le}
use Rattle.lists.proofs.Times.{times-nil, times-self, times-other, times-append, times-length}
use Rattle.pool.specs.Free.{zero_pairs}

-- ---- zeros of one list

times-next : (xs : List ℕ) (i : ℕ) → i < length xs → times 0 (take (i + 1) xs) ≡ times 0 (take i xs) + times 0 (get_or xs i 0 ∷ [])
times-next xs i h = rw (add-one i, take-suc xs i 0 h) (times-append 0 (take i xs) (get_or xs i 0 ∷ []))

times-hit : (xs : List ℕ) (i : ℕ) → i < length xs → get_or xs i 0 ≡ 0 → times 0 (take (i + 1) xs) ≡ times 0 (take i xs) + 1
times-hit xs i h e =
    omega (arith, times-next xs i h, ap (λ (v : ℕ). times 0 (v ∷ [])) e, times-self 0 [], times-nil 0)

times-miss : (xs : List ℕ) (i : ℕ) → i < length xs → get_or xs i 0 ≢ 0 → times 0 (take (i + 1) xs) ≡ times 0 (take i xs)
times-miss xs i h e = omega (arith, times-next xs i h, times-other 0 (get_or xs i 0) [] (λ q. e (sym q)), times-nil 0)

-- n of the rows before place i are 0
pub record ZerosTo (rows : List ℕ) (i n : ℕ) : Type 0 where
  pub within : i ≤ length rows
  pub few : n ≤ i
  pub count : n ≡ times 0 (take i rows)

pub zeros-none : (xs : List ℕ) → ZerosTo xs 0 0
zeros-none xs = record { within = omega arith; few = omega arith; count = sym (times-nil 0) }

module _ {xs : List ℕ} {i n : ℕ} (z : ZerosTo xs i n) where
  pub zeros-hit : i < length xs → get_or xs i 0 ≡ 0 → ZerosTo xs (i + 1) (n + 1)
  zeros-hit h e = record { within = omega arith; few = omega (arith, z.few); count = omega (arith, z.count, times-hit xs i h e) }

  pub zeros-miss : i < length xs → get_or xs i 0 ≢ 0 → ZerosTo xs (i + 1) n
  zeros-miss h e = record { within = omega arith; few = omega (arith, z.few); count = omega (arith, z.count, times-miss xs i h e) }

-- k of the next block's rows are 0
pub zeros-block : (n k m : ℕ) (block left : List ℕ) {rest : List ℕ} → rest ≡ block ++ left → k ≡ times 0 block → n + times 0 rest ≡ m → n + k + times 0 left ≡ m
zeros-block n k m block left e h z = omega (arith, ap (times 0) e, times-append 0 block left)

-- none is left
pub zeros-done : (n m : ℕ) (rest : List ℕ) → length rest ≡ 0 → n + times 0 rest ≡ m → n ≡ m
zeros-done n m rest e z = omega (arith, times-length 0 rest)

-- ---- zeros of both of two lists

pub pairs-le : (xs us : List ℕ) → zero_pairs xs us ≤ length xs
unfolding zero_pairs
pairs-le [] us = omega arith
pairs-le (x ∷ xs) [] = omega arith
pairs-le (x ∷ xs) (u ∷ us) = omega (arith, pairs-le xs us, one-le (eqb x 0 && eqb u 0))

pairs-append : (xs ys us vs : List ℕ) → length us ≡ length xs → zero_pairs (xs ++ ys) (us ++ vs) ≡ zero_pairs xs us + zero_pairs ys vs
unfolding zero_pairs
pairs-append [] ys [] vs e = omega arith
pairs-append [] ys (u ∷ us) vs e = absurd (omega arith)
pairs-append (x ∷ xs) ys [] vs e = absurd (omega arith)
pairs-append (x ∷ xs) ys (u ∷ us) vs e = omega (arith, pairs-append xs ys us vs (omega arith))

pairs-none : (xs us : List ℕ) → (length xs ≡ 0) ⊎ (length us ≡ 0) → zero_pairs xs us ≡ 0
unfolding zero_pairs
pairs-none [] us h = refl
pairs-none (x ∷ xs) [] h = refl
pairs-none (x ∷ xs) (u ∷ us) (inl e) = absurd (omega arith)
pairs-none (x ∷ xs) (u ∷ us) (inr e) = absurd (omega arith)

-- the next record has 0 in both
pub pairs-hit : (n m x u : ℕ) (xs us : List ℕ) {rows counts : List ℕ} → rows ≡ x ∷ xs → counts ≡ u ∷ us → (eqb x 0 && eqb u 0) ≡ true →
    n + zero_pairs rows counts ≡ m → n + 1 + zero_pairs xs us ≡ m
unfolding zero_pairs
pairs-hit n m x u xs us {rows} {counts} p q e z =
    let s : zero_pairs rows counts ≡ one (eqb x 0 && eqb u 0) + zero_pairs xs us = rw (p, q) refl in omega (arith, ap one e)

-- it has not
pub pairs-miss : (n m x u : ℕ) (xs us : List ℕ) {rows counts : List ℕ} → rows ≡ x ∷ xs → counts ≡ u ∷ us → (eqb x 0 && eqb u 0) ≡ false →
    n + zero_pairs rows counts ≡ m → n + zero_pairs xs us ≡ m
unfolding zero_pairs
pairs-miss n m x u xs us {rows} {counts} p q e z =
    let s : zero_pairs rows counts ≡ one (eqb x 0 && eqb u 0) + zero_pairs xs us = rw (p, q) refl in omega (arith, ap one e)

-- k of the next block's records have 0 in both
pub pairs-block : (n k m : ℕ) (xs us left beside : List ℕ) {rows counts : List ℕ} → rows ≡ xs ++ left → counts ≡ us ++ beside → length us ≡ length xs →
    k ≡ zero_pairs xs us → n + zero_pairs rows counts ≡ m → n + k + zero_pairs left beside ≡ m
pairs-block n k m xs us left beside {rows} {counts} p q e h z =
    let s : zero_pairs rows counts ≡ zero_pairs xs us + zero_pairs left beside = rw (p, q) (pairs-append xs left us beside e) in omega arith

-- none is left
pub pairs-done : (n m : ℕ) (rows counts : List ℕ) → (length rows ≡ 0) ⊎ (length counts ≡ 0) → n + zero_pairs rows counts ≡ m → n ≡ m
pairs-done n m rows counts e z = omega (arith, pairs-none rows counts e)
