-- Marks and flags as the walk finds and makes them: a block without a flag is passed at once. Assumes nothing.
use mathlib.Core.Path.{◌≡◌, sym, ap, ◌∙◌}
use mathlib.Core.Logic.{inl, inr}
use mathlib.Core.List.{List}
use Prim.Native.Nat.{ℕ, ◌+◌, ◌-◌, ◌*◌, ◌/◌, ◌≤◌, ◌<◌}
use native.Mathlib.Omega.{arith}
use Rattle.lists.proofs.Tests.{eq-or-ne, lt-or-le}
use Rattle.workspace.specs.Regions.{cell}
use Rattle.updown.specs.Marks.{mark_at, Flagged, Next}

-- the first i rows past the first ones are not marked
pub record Passing (m : ℕ) (work : List ℕ) (from i : ℕ) : Type 0 where
  pub low : from ≤ i
  pub passed : (q : ℕ) → from < q → q ≤ i → q ≤ m → mark_at m work q ≡ 0

pub passing-start : {m : ℕ} {work : List ℕ} (from : ℕ) → Passing m work from from
passing-start from = record { low = omega arith; passed = λ q a b d. absurd (omega arith) }

module _ {m : ℕ} {work : List ℕ} {from i : ℕ} (p : Passing m work from i) where
  -- a block without a flag
  pub passing-block : (flags : ℕ) → Flagged m flags work from → cell work flags (i / 64) ≡ 0 → Passing m work from (i / 64 * 64 + 64)
  passing-block flags h z =
      record {
        low = omega (arith, p.low);
        passed = λ q a b d. elim (lt-or-le i (q - 1)) [
          | inl l ↦ quiet q a d (omega arith)
          | inr l ↦ elim (eq-or-ne (q - 1) i) [ inl e ↦ quiet q a d (omega arith) | inr e ↦ p.passed q a (omega arith) d ]
        ];
      }
    where
      quiet : (q : ℕ) → from < q → q ≤ m → (q - 1) / 64 ≡ i / 64 → mark_at m work q ≡ 0
      quiet q a d e =
          elim (eq-or-ne (mark_at m work q) 0) [
            | inl y ↦ y
            | inr y ↦ absurd (h q a d y (ap (λ (b : ℕ). cell work flags b) e ∙ z))
          ]

  pub passing-row : i < m → cell work (3 * m) i ≡ 0 → Passing m work from (i + 1)
  passing-row l z =
      record {
        low = omega (arith, p.low);
        passed = λ q a b d. elim (eq-or-ne (q - 1) i) [
          | inl e ↦ ap (λ (k : ℕ). cell work (3 * m) k) e ∙ z
          | inr e ↦ p.passed q a (omega arith) d
        ];
      }

  pub passing-found : {r : ℕ} → i < m → (cell work (3 * m) i ≡ 0 → ⊥) → r ≡ i + 1 → Next m work from r
  passing-found {r} l y e =
      let q : r - 1 ≡ i = omega arith in
      record {
        found = λ n. (omega (arith, p.low), (omega arith, λ z. y (sym (ap (λ (k : ℕ). cell work (3 * m) k) q) ∙ z)));
        passed = λ q a b d. p.passed q a (omega (arith, d (omega arith))) b;
      }

  pub passing-none : {r : ℕ} → m ≤ i → r ≡ 0 → Next m work from r
  passing-none l e =
      record { found = λ n. absurd (omega arith); passed = λ q a b d. p.passed q a (omega arith) b }
