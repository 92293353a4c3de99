-- A walk that stops since no free record is left: after such a turn only the first 8 m + used places and the flags are not as lent (`halted`), and with
-- these cleared the work table is as lent where it was zero there (`cleared-back`). Assumes nothing.
use mathlib.Core.Path.{◌≡◌, sym, ap, ◌∙◌}
use mathlib.Core.Logic.{inl, inr}
use mathlib.Core.Bool.{Bool}
use mathlib.Core.List.{List}
use Prim.Native.Nat.{ℕ, suc, ◌+◌, ◌-◌, ◌*◌, ◌≤◌}
use native.Mathlib.Omega.{arith}
use lib.ListN.{length, get_or}
use Rattle.symbolic.specs.Columns.{Column}
use Rattle.workspace.specs.Regions.{Outside, IsZero, cleared}
use Rattle.workspace.proofs.Regions.{table-ext, place-cases, zero-at, cleared-length, cleared-zero, cleared-outside}
use Rattle.emission.specs.declared.Emission.{Emission}
use Rattle.updown.specs.Turns.{larger, done}
use Rattle.updown.specs.States.{Busy, differs, plans, marks, queues, flagged, Halted}
use Rattle.updown.proofs.Worked.{Begun, Worked}
use Rattle.updown.proofs.Plans.{in-touched}

module _ {next : List ℕ} {m flags : ℕ} {R W : List Column} {adding : Bool} {work₀ w w₁ : List ℕ} {j used avail : ℕ} {e : Emission}
    (b : Begun m flags R W adding work₀ w j used) (d : Worked next w w₁ m R W adding j used avail e) (fit : 8 * m + length next ≤ flags) where
  -- such a place is not busy before the turn
  idle : (k : ℕ) → 8 * m + e.used ≤ k → Outside flags 64 k → Busy m flags used (done m R W (suc j)) j k → ⊥
  idle k h o (differs x) = omega arith
  idle k h o (plans (inl x)) =
      let v = in-touched (larger m R W) W 1 (suc j - 1) x.0 x.1.0 in
      elim x.1.1 [ inl y ↦ omega (arith, b.high, v) | inr (inl y) ↦ omega (arith, b.high, v) | inr (inr y) ↦ omega (arith, b.high, v) ]
  idle k h o (plans (inr x)) = omega (arith, d.planned.used_low)
  idle k h o (marks x y) = omega arith
  idle k h o (queues x y) = omega arith
  idle k h o (flagged x y) = elim o [ inl z ↦ omega arith | inr z ↦ omega arith ]

  pub halted : Halted m (length next) flags work₀ w₁ e.used
  halted =
      record {
        plan-room = d.planned.used_high;
        flags-past = fit;
        long = omega (arith, b.room.long, d.same_length);
        same_length = d.same_length ∙ b.same_length;
        rest = λ k h o. d.still k (omega arith) (inr (omega arith)) (omega (arith, b.low, b.high)) (inr (omega (arith, d.planned.used_low))) ∙ b.rest k (idle k h o);
      }

module _ {m f flags used : ℕ} {work₀ w w₁ : List ℕ} (h : Halted m f flags work₀ w used) (x : w₁ ≡ cleared w flags 64) where
  pub cleared-room : 0 + (8 * m + used) ≤ length w₁
  cleared-room = omega (arith, h.plan-room, h.flags-past, h.long, ap length x, cleared-length w flags 64 h.long)

  -- the place k after the first clearing
  flags-clear : IsZero work₀ flags 64 → (k : ℕ) → 8 * m + used ≤ k → get_or w₁ k 0 ≡ get_or work₀ k 0
  flags-clear z k l = ap (λ (v : List ℕ). get_or v k 0) x ∙ elim (place-cases flags 64 k) [
    | inl o ↦ cleared-outside w flags 64 h.long k o ∙ h.rest k l o
    | inr t ↦ zero-at (cleared w flags 64) flags 64 k (cleared-zero w flags 64 h.long) (omega (arith, t)) (omega (arith, t)) ∙ sym (zero-at work₀ flags 64 k z (omega (arith, t)) (omega (arith, t)))
  ]

  pub cleared-back : IsZero work₀ 0 (8 * m + f) → IsZero work₀ flags 64 → {w₂ : List ℕ} → w₂ ≡ cleared w₁ 0 (8 * m + used) → w₂ ≡ work₀
  cleared-back plan₀ flags₀ {w₂} y =
      table-ext work₀ w₂
      (ap length y ∙ cleared-length w₁ 0 (8 * m + used) cleared-room ∙ ap length x ∙ cleared-length w flags 64 h.long ∙ h.same_length)
      (λ k. ap (λ (v : List ℕ). get_or v k 0) y ∙ elim (place-cases 0 (8 * m + used) k) [
        | inl o ↦ cleared-outside w₁ 0 (8 * m + used) cleared-room k o ∙ flags-clear flags₀ k (elim o [ inl z ↦ omega arith | inr z ↦ omega arith ])
        | inr t ↦
            zero-at (cleared w₁ 0 (8 * m + used)) 0 (8 * m + used) k (cleared-zero w₁ 0 (8 * m + used) cleared-room) (omega arith) (omega (arith, t)) ∙
            sym (zero-at work₀ 0 (8 * m + f) k plan₀ (omega arith) (omega (arith, t, h.plan-room)))
      ])
