-- The steps at one column, for any two factors over the same rows: nothing handled gives the multiplicities before, one child more moves them by
-- that child, and with every child handled that differs they are those after (`steps-at`: the record StepsAt). Then what one child does, by the
-- paper's cases: kept (B), gained (C), lost (D); for adding, where rows only enter. Assumes nothing.
use mathlib.Core.Path.{◌≡◌, refl, sym, ap, ◌∙◌}
use mathlib.Core.Logic.{inl, inr, ◌≢◌}
use mathlib.Core.Bool.{Bool, true, false, ◌&&◌, not, true≢false}
use Prim.Native.Nat.{ℕ, ◌+◌, ◌≤◌, ◌<◌}
use native.Mathlib.Omega.{arith}
use lib.Dec.{eqb}
use borrow.Author.Tests.{eqb-true, eqb-false, not-true}
use Rattle.lists.specs.Lists.{one}
use Rattle.lists.proofs.Tests.{cases, eq-or-ne, and_both, refute}
use Rattle.lists.proofs.Count.{count-ext, count_at}
use Rattle.symbolic.specs.Definition.{child_with, IsFactor}
use Rattle.symbolic.specs.Steps.{child_so_far, count_so_far, StepsAt}
use Rattle.symbolic.proofs.Laws.{child-is, child-other}
use Rattle.symbolic.proofs.Two.{Agree, child-same}

-- ---- the steps

module _ {m : ℕ} {S M : ℕ → ℕ → ℕ} {P : ℕ → ℕ} (L : IsFactor m S M P) {S' M' : ℕ → ℕ → ℕ} {P' : ℕ → ℕ} (L' : IsFactor m S' M' P') where
  pub steps-none : (H : ℕ → Bool) (i j : ℕ) → 1 ≤ j → j ≤ i → i ≤ m → ((c : ℕ) → 1 ≤ c → c ≤ m → H c ≡ false) →
      count_so_far m H M P M' P' (S j i) i j ≡ M i j
  steps-none H i j a b d h =
      omega (arith, L.counted i j a b d, count-ext (child_so_far H M P M' P' j i) (child_with M P j i) m (λ c x y. rw (h c x y)))

  -- one child more
  pub steps-one : (H K : ℕ → Bool) (c s i j : ℕ) → 1 ≤ c → c ≤ m → H c ≡ false → K c ≡ true → ((d : ℕ) → d ≢ c → H d ≡ K d) →
      count_so_far m K M P M' P' s i j + one (child_with M P j i c) ≡ count_so_far m H M P M' P' s i j + one (child_with M' P' j i c)
  steps-one H K c s i j a b e f g =
      let p : child_so_far H M P M' P' j i c ≡ child_with M P j i c = rw e in
      let q : child_so_far K M P M' P' j i c ≡ child_with M' P' j i c = rw f in
      omega (
        arith,
        count_at (child_so_far H M P M' P' j i) (child_so_far K M P M' P' j i) m c a b (λ d x y n. rw (g d n)),
        ap one p,
        ap one q,
      )

  -- every child handled that counts differently
  pub steps_all : (H : ℕ → Bool) (i j : ℕ) → 1 ≤ j → j ≤ i → i ≤ m →
      ((c : ℕ) → 1 ≤ c → c ≤ m → H c ≡ false → child_with M P j i c ≡ child_with M' P' j i c) → count_so_far m H M P M' P' (S' j i) i j ≡ M' i j
  steps_all H i j a b d h =
      omega (
        arith,
        L'.counted i j a b d,
        count-ext (child_so_far H M P M' P' j i) (child_with M' P' j i) m (λ c x y. elim (cases (H c)) [
          | inl e ↦ rw e
          | inr e ↦ rw e (h c x y e)
        ]),
      )

  -- THE STEPS at column j, where columns off T are the same before and after
  pub steps-at : (T : ℕ → Bool) → ((c : ℕ) → 1 ≤ c → c ≤ m → T c ≡ false → Agree m M M' P P' c) → (i j : ℕ) → 1 ≤ j → j ≤ i → i ≤ m →
      StepsAt m S M P S' M' P' T i j
  steps-at T off i j a b d = record {
    start = λ H h. steps-none H i j a b d h;
    child = λ H K c s x y e f g. steps-one H K c s i j x y e f g;
    end = λ H h. steps_all H i j a b d (λ c x y e. elim (cases (T c)) [
      | inr n ↦ child-same L L' j i c (omega arith) d (off c x y n)
      | inl t ↦ elim (eq-or-ne (P c) j) [
        | inl p ↦ absurd (true≢false (sym (h c x y t (inl p)) ∙ e))
        | inr p ↦ elim (eq-or-ne (P' c) j) [
          | inl q ↦ absurd (true≢false (sym (h c x y t (inr q)) ∙ e))
          | inr q ↦ rw (child-other M P j i c p, child-other M' P' j i c q)
        ]
      ]
    ]);
  }

-- ---- rows that enter or leave a child

-- row i is new in L_c; it is gone from L_c
abbrev pub is_new : (M M' : ℕ → ℕ → ℕ) (i c : ℕ) → Bool
is_new M M' i c = eqb (M i c) 0 && not (eqb (M' i c) 0)

abbrev pub is_gone : (M M' : ℕ → ℕ → ℕ) (i c : ℕ) → Bool
is_gone M M' i c = is_new M' M i c

pub new-inv : (M M' : ℕ → ℕ → ℕ) (i c : ℕ) → is_new M M' i c ≡ true → (M i c ≡ 0) × (0 < M' i c)
new-inv M M' i c h =
    let t : (eqb (M i c) 0 ≡ true) × (not (eqb (M' i c) 0) ≡ true) = and_both (eqb (M i c) 0) (not (eqb (M' i c) 0)) h in
    let n : M' i c ≢ 0 = eqb-false (M' i c) 0 (not-true (eqb (M' i c) 0) t.1) in
    (eqb-true (M i c) 0 t.0, omega arith)

-- where every row of after was there before, none is new
pub new_none : (M M' : ℕ → ℕ → ℕ) (i c : ℕ) → (0 < M' i c → 0 < M i c) → is_new M M' i c ≡ false
new_none M M' i c g =
    refute (is_new M M' i c) (λ h. let t : (M i c ≡ 0) × (0 < M' i c) = new-inv M M' i c h in omega (arith, g t.1))

-- ---- one child, by the paper's cases: what it counts before and after, for row i

module _ (M : ℕ → ℕ → ℕ) (P : ℕ → ℕ) (M' : ℕ → ℕ → ℕ) (P' : ℕ → ℕ) (j i c : ℕ) where
  -- B. kept: its new rows enter, its gone rows leave
  pub child-kept : P c ≡ j → P' c ≡ j →
      one (child_with M' P' j i c) + one (is_gone M M' i c) ≡ one (child_with M P j i c) + one (is_new M M' i c)
  child-kept p q = rw (child-is M P j i c p, child-is M' P' j i c q) (both (eqb (M i c) 0) (eqb (M' i c) 0))
    where
      both : (x y : Bool) → one (not y) + one (y && not x) ≡ one (not x) + one (x && not y)
      both true true = refl
      both true false = refl
      both false true = refl
      both false false = refl

  -- C. gained: all rows that it has after enter
  pub child-gained : P c ≢ j → P' c ≡ j → (one (child_with M P j i c) ≡ 0) × (one (child_with M' P' j i c) ≡ one (not (eqb (M' i c) 0)))
  child-gained p q = (ap one (child-other M P j i c p), ap one (child-is M' P' j i c q))

  -- D. lost: all rows that it had before leave
  pub child-lost : P c ≡ j → P' c ≢ j → (one (child_with M P j i c) ≡ one (not (eqb (M i c) 0))) × (one (child_with M' P' j i c) ≡ 0)
  child-lost p q = (ap one (child-is M P j i c p), ap one (child-other M' P' j i c q))

  -- B when rows only enter (adding) and when they only leave (removing)
  pub child-kept-adding : (0 < M i c → 0 < M' i c) → P c ≡ j → P' c ≡ j →
      one (child_with M' P' j i c) ≡ one (child_with M P j i c) + one (is_new M M' i c)
  child-kept-adding g p q = omega (arith, child-kept p q, ap one (new_none M' M i c g))
