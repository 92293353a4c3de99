-- The numbers of a range that pass a test, as a rising list (`passing`): its members, that it rises, that it has no more members than the range, two tests side by side, a
-- range in two parts, and that the touched columns are such a list. Touched.antt, Exchange.antt, Meeting.antt and Common.antt apply them.
-- Assumes nothing.
use mathlib.Core.Path.{◌≡◌, refl, ap, ◌∙◌}
use mathlib.Core.Logic.{inl, inr}
use mathlib.Core.Bool.{Bool, true, false}
use mathlib.Core.List.{List, [], ◌∷◌, ◌++◌}
use Prim.Native.Nat.{ℕ, zero, suc, ◌+◌, ◌≤◌, ◌<◌}
use native.Mathlib.Omega.{arith}
use lib.ListN.{length}
use borrow.Author.Tests.{le-leb}
use Rattle.lists.specs.Lists.{Mem, first, later, rises}
use Rattle.lists.proofs.Tests.{cases, eq-or-ne, both-and}
use Rattle.lists.proofs.Rising.{rises-weaken}
use Rattle.symbolic.specs.Columns.{Column}
use Rattle.symbolic.specs.Factor.{FactorColumn}
use Rattle.symbolic.specs.Batch.{is_touched, touched_from, passing}

pub passing-mem : (f : ℕ → Bool) (i n j : ℕ) → i ≤ j → j < i + n → f j ≡ true → Mem j (passing f i n)
unfolding passing
passing-mem f i zero j a b h = absurd (omega arith)
passing-mem f i (suc n) j a b h =
    elim (eq-or-ne i j) [
      | inl q ↦ rw (q, h) first
      | inr q ↦
          let m : Mem j (passing f (suc i) n) = passing-mem f (suc i) n j (omega arith) (omega arith) h in
          elim (cases (f i)) [ inl e ↦ rw e (later m) | inr e ↦ rw e m ]
    ]

pub mem-passing : (f : ℕ → Bool) (i n j : ℕ) → Mem j (passing f i n) → (i ≤ j) × (j < i + n) × (f j ≡ true)
unfolding passing
mem-passing f i zero j m = elim m [ ]
mem-passing f i (suc n) j m =
    elim (cases (f i)) [
      | inr z ↦
          let t : (suc i ≤ j) × (j < suc i + n) × (f j ≡ true) = mem-passing f (suc i) n j (rw z at m) in (omega arith, omega arith, t.2)
      | inl z ↦ go j (rw z at m) z (λ k. mem-passing f (suc i) n j k)
    ]
  where
    go : (j : ℕ) → Mem j (i ∷ passing f (suc i) n) → f i ≡ true → (Mem j (passing f (suc i) n) → (suc i ≤ j) × (j < suc i + n) × (f j ≡ true)) →
        (i ≤ j) × (j < i + suc n) × (f j ≡ true)
    go j first z g = (omega arith, omega arith, z)
    go j (later m) z g = let t : (suc i ≤ j) × (j < suc i + n) × (f j ≡ true) = g m in (omega arith, omega arith, t.2)

pub passing-rises : (f : ℕ → Bool) (i n b : ℕ) → i + n ≤ suc b → rises i b (passing f i n) ≡ true
unfolding passing rises
passing-rises f i zero b h = refl
passing-rises f i (suc n) b h =
    let ih : rises (suc i) b (passing f (suc i) n) ≡ true = passing-rises f (suc i) n b (omega arith) in
    elim (cases (f i)) [
      | inl e ↦ rw e (both-and (both-and (le-leb i i (omega arith)) (le-leb i b (omega arith))) ih)
      | inr e ↦ rw e (rises-weaken (suc i) b i (passing f (suc i) n) (omega arith) ih)
    ]

pub passing-short : (f : ℕ → Bool) (i n : ℕ) → length (passing f i n) ≤ n
unfolding passing
passing-short f i zero = omega arith
passing-short f i (suc n) =
    elim (cases (f i)) [ inl e ↦ rw e (omega (arith, passing-short f (suc i) n)) | inr e ↦ rw e (omega (arith, passing-short f (suc i) n)) ]

-- two tests that agree on a range let the same numbers of it pass
pub passing-within : (f g : ℕ → Bool) (i n : ℕ) → ((j : ℕ) → i ≤ j → j < i + n → f j ≡ g j) → passing f i n ≡ passing g i n
unfolding passing
passing-within f g i zero e = refl
passing-within f g i (suc n) e =
    rw (passing-within f g (suc i) n (λ j a b. e j (omega arith) (omega arith)), e i (omega arith) (omega arith))

pub passing-same : (f g : ℕ → Bool) → ((j : ℕ) → f j ≡ g j) → (i n : ℕ) → passing f i n ≡ passing g i n
passing-same f g e i n = passing-within f g i n (λ j a b. e j)

pub passing-none : (f : ℕ → Bool) (i n : ℕ) → ((j : ℕ) → i ≤ j → j < i + n → f j ≡ false) → passing f i n ≡ []
unfolding passing
passing-none f i zero e = refl
passing-none f i (suc n) e = rw (e i (omega arith) (omega arith), passing-none f (suc i) n (λ j a b. e j (omega arith) (omega arith)))

-- n numbers from i on, then k more
pub passing-join : (f : ℕ → Bool) (i n k : ℕ) → passing f i (n + k) ≡ passing f i n ++ passing f (i + n) k
unfolding passing
passing-join f i zero k =
    let p : 0 + k ≡ k = omega arith in
    let q : i ≡ i + 0 = omega arith in
    ap (passing f i) p ∙ ap (λ (x : ℕ). passing f x k) q
passing-join f i (suc n) k =
    let p : suc n + k ≡ suc (n + k) = omega arith in
    let q : suc i + n ≡ i + suc n = omega arith in
    let ih : passing f (suc i) (n + k) ≡ passing f (suc i) n ++ passing f (i + suc n) k =
    passing-join f (suc i) n k ∙ ap (λ (x : ℕ). passing f (suc i) n ++ passing f x k) q in
    ap (passing f i) p ∙ elim (cases (f i)) [ inl e ↦ rw (e, ih) refl | inr e ↦ rw (e, ih) refl ]

pub touched-passing : (fs : List FactorColumn) (cs : List Column) (i n : ℕ) → touched_from fs cs i n ≡ passing (is_touched fs cs) i n
unfolding touched_from passing
touched-passing fs cs i zero = refl
touched-passing fs cs i (suc n) = rw (touched-passing fs cs (suc i) n)
