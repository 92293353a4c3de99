-- The loops that write minutes as ids enter (`Entering`) and leave (`Leaving`): what is left to write, on the table so far, gives the whole. Assumes nothing.
use mathlib.Core.Path.{◌≡◌, refl, sym, ap, ◌∙◌}
use mathlib.Core.List.{List, ◌∷◌}
use Prim.Native.Nat.{ℕ, suc, ◌+◌, ◌≤◌, ◌<◌}
use native.Mathlib.Omega.{arith}
use native.Mathlib.Numerals.{add-one}
use lib.ListN.{length, get_or, drop, drop_of_length-le}
use lib.Seq.{drop-cons, drop-drop, get_or-drop}
use Rattle.windows.specs.Windowed.{put_minutes, entered, left}
use Rattle.windows.proofs.Written.{minutes-long}

-- the first of what is left of a list, and the rest
left-first : (xs : List ℕ) (k : ℕ) → get_or (drop k xs) 0 0 ≡ get_or xs k 0
left-first xs k = let e : k + 0 ≡ k = omega arith in get_or-drop k xs 0 0 ∙ ap (λ (j : ℕ). get_or xs j 0) e

-- ---- ids that enter

-- the first k ids have their minutes
pub record Entering (windows₀ : List ℕ) (n : ℕ) (ids firsts seconds windows : List ℕ) (k : ℕ) : Type 0 where
  pub long : length windows ≡ length windows₀
  pub same : entered windows₀ n ids firsts seconds ≡ entered windows n (drop k ids) (drop k firsts) (drop k seconds)

module _ {w₀ : List ℕ} {n : ℕ} {ids ps qs w : List ℕ} {k : ℕ} (e : Entering w₀ n ids ps qs w k) where
  pub entering-turn : {w₁ : List ℕ} → k < length ids → w₁ ≡ put_minutes w n (get_or ids k 0) (get_or ps k 0) (get_or qs k 0) → Entering w₀ n ids ps qs w₁ (k + 1)
  unfolding entered
  entering-turn {w₁} h z =
      let i : ℕ = get_or ids k 0 in
      let first : entered w n (drop k ids) (drop k ps) (drop k qs) ≡ entered w n (i ∷ drop (suc k) ids) (drop k ps) (drop k qs) =
      ap (λ (is : List ℕ). entered w n is (drop k ps) (drop k qs)) (drop-cons ids k 0 h) in
      let rest : entered (put_minutes w n i (get_or (drop k ps) 0 0) (get_or (drop k qs) 0 0)) n (drop (suc k) ids) (drop 1 (drop k ps)) (drop 1 (drop k qs)) ≡
      entered w₁ n (drop (k + 1) ids) (drop (k + 1) ps) (drop (k + 1) qs) =
      rw (left-first ps k, left-first qs k, drop-drop 1 k ps, drop-drop 1 k qs, add-one k, z) refl in
      record { long = ap length z ∙ minutes-long w n i (get_or ps k 0) (get_or qs k 0) ∙ e.long; same = e.same ∙ first ∙ rest }

  pub entering-end : length ids ≤ k → w ≡ entered w₀ n ids ps qs
  unfolding entered
  entering-end h = sym (e.same ∙ ap (λ (is : List ℕ). entered w n is (drop k ps) (drop k qs)) (drop_of_length-le ids {i = k} h))

-- ---- ids that leave

-- the first k ids have none
pub record Leaving (windows₀ : List ℕ) (n : ℕ) (ids windows : List ℕ) (k : ℕ) : Type 0 where
  pub long : length windows ≡ length windows₀
  pub same : left windows₀ n ids ≡ left windows n (drop k ids)

module _ {w₀ : List ℕ} {n : ℕ} {ids w : List ℕ} {k : ℕ} (e : Leaving w₀ n ids w k) where
  pub leaving-turn : {w₁ : List ℕ} → k < length ids → w₁ ≡ put_minutes w n (get_or ids k 0) 0 0 → Leaving w₀ n ids w₁ (k + 1)
  unfolding left
  leaving-turn {w₁} h z =
      let i : ℕ = get_or ids k 0 in
      let first : left w n (drop k ids) ≡ left w n (i ∷ drop (suc k) ids) = ap (left w n) (drop-cons ids k 0 h) in
      let rest : left (put_minutes w n i 0 0) n (drop (suc k) ids) ≡ left w₁ n (drop (k + 1) ids) = rw (add-one k, z) refl in
      record { long = ap length z ∙ minutes-long w n i 0 0 ∙ e.long; same = e.same ∙ first ∙ rest }

  pub leaving-end : length ids ≤ k → w ≡ left w₀ n ids
  unfolding left
  leaving-end h = sym (e.same ∙ ap (left w n) (drop_of_length-le ids {i = k} h))
