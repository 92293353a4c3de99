-- A child of j that waits in one of its queues: it is done, it waited there before the turn, its plan and chain can be read, and what was counted can be
-- counted on; once its rows are counted it is handled (`handled-kept`: B, `handled-gained`: C, `handled-lost`: D). Assumes nothing.
use mathlib.Core.Path.{◌≡◌, refl, ap, ◌∙◌}
use mathlib.Core.Logic.{◌⊎◌, inl, inr, ◌≢◌}
use mathlib.Core.Bool.{Bool, true, false, not}
use mathlib.Core.List.{List}
use Prim.Native.Nat.{ℕ, ◌+◌, ◌-◌, ◌≤◌, ◌<◌}
use native.Mathlib.Omega.{arith}
use lib.Dec.{eqb}
use lib.ListN.{length}
use Rattle.lists.proofs.Tests.{eq-or-ne}
use Rattle.symbolic.specs.Columns.{Column}
use Rattle.symbolic.specs.Factor.{column_at}
use Rattle.symbolic.specs.Batch.{is_touched}
use Rattle.workspace.specs.Regions.{cell}
use Rattle.workspace.specs.Layout.{next_at, plan_at}
use Rattle.updown.specs.Marks.{other_at}
use Rattle.updown.specs.Turns.{larger, smaller, other_parent, standing}
use Rattle.updown.specs.Walks.{ChainOf, Columns, Parents, AtChild, Handled}
use Rattle.updown.proofs.Brought.{Steady, Bumps, PlanOf, old_of, kept_row, whole_row}
use Rattle.updown.proofs.SoFar.{so_far_kept, so-far-gained, so-far-lost, so-far-steady}
use Rattle.updown.proofs.Standing.{waits-child, waits-lost, waits-fresh, other-above}
use Rattle.updown.proofs.Turning.{turn-plan, turn-chain, turn-other}

-- ---- what is known of it

module _ {work : List ℕ} {m : ℕ} {R W : List Column} {adding : Bool} {j used n queue c : ℕ} {H : ℕ → Bool} (a : AtChild work m R W adding j used n queue c H) where
  -- what was counted can be counted on
  pub child-steady : Steady m work n
  child-steady = so-far-steady m R W adding j a.turn.low a.turn.high a.turn.so_far a.narrow a.few

  -- the queue is one of j's
  module _ (side : (queue ≡ j) ⊎ (queue ≡ m + j)) where
    -- it is not handled, and waits there since before the turn
    pub child-fresh : (H c ≡ false) × (standing m R W j c ≡ queue)
    child-fresh = waits-fresh m R W j a.turn.low a.turn.high H c queue a.low a.high side a.waits

    child-done : (c < j) × (is_touched (larger m R W) W c ≡ true)
    child-done =
        elim side [
          | inl e ↦ let v : (is_touched (larger m R W) W c ≡ true) × (c < j) × (_ ≡ j) = waits-child m R W j a.turn.low a.turn.high c (child-fresh.1 ∙ e) in (v.1, v.0)
          | inr e ↦
              let v : (is_touched (larger m R W) W c ≡ true) × (c < j) × (_ < j) × (0 < _) × (_ ≡ j) =
              waits-lost m R W j a.turn.low a.turn.high c a.low a.high (child-fresh.1 ∙ e) in
              (v.1, v.0)
        ]

    pub child-plan : PlanOf work m c adding (column_at (larger m R W) c).counts (column_at (smaller m R) c).counts
    child-plan = turn-plan a.turn c a.low child-done.0 child-done.1 a.narrow a.few

    -- the end of its plan can be read
    pub child-end : (plan_at m ≤ length work) × (m ≤ 4096) × (1 ≤ c) × (c ≤ m) × (1 ≤ cell work (next_at m) (c - 1)) × (cell work (next_at m) (c - 1) ≤ m)
    child-end = (omega (arith, a.turn.long), a.narrow, a.low, a.high, child-plan.next_low, child-plan.next-high)

    pub child-chain : {heads rows next : List ℕ} → Columns heads rows next m R W adding →
        ChainOf heads rows next m c (old_of adding (column_at (larger m R W) c).counts (column_at (smaller m R) c).counts)
    child-chain k = turn-chain a.turn c a.low child-done.0 child-done.1 k

    pub child-other : {parents : List ℕ} → Parents parents m R W adding → other_at parents work m c adding ≡ other_parent m R c
    child-other p = turn-other a.turn c a.low child-done.0 child-done.1 p

    -- whether it is kept, by the other parent that is read
    pub child-kept : {parents : List ℕ} → Parents parents m R W adding → {o : ℕ} → o ≡ other_at parents work m c adding → eqb o j ≡ eqb (other_parent m R c) j
    child-kept p e = ap (λ (x : ℕ). eqb x j) (e ∙ child-other p)

    pub other-within : {parents : List ℕ} → Parents parents m R W adding → (o : ℕ) → o ≡ other_at parents work m c adding → o ≤ m
    other-within p o e =
        elim (eq-or-ne (other_parent m R c) 0) [
          | inl z ↦ omega (arith, child-other p)
          | inr z ↦ omega (arith, child-other p, other-above m R W c a.low a.high (omega arith))
        ]

-- ---- its rows counted

module _ {work work' : List ℕ} {m : ℕ} {R W : List Column} {adding : Bool} {j used n n' c : ℕ} {H : ℕ → Bool} where
  -- B
  pub handled-kept : AtChild work m R W adding j used n j c H → other_parent m R c ≡ j →
      Bumps m work work' n' adding (kept_row (column_at (larger m R W) c).counts (column_at (smaller m R) c).counts) → Handled m R W adding work work' n' j c H
  handled-kept a o b =
      record {
        so_far = so_far_kept m R W adding j a.turn.low a.turn.high c a.low a.high (child-fresh a (inl refl)).0 (child-done a (inl refl)).0 a.turn.so_far b
            (waits-child m R W j a.turn.low a.turn.high c (child-fresh a (inl refl)).1).2 o;
        only = b.only;
      }

  -- C
  pub handled-gained : AtChild work m R W adding j used n j c H → other_parent m R c ≢ j → Bumps m work work' n' adding (whole_row (column_at (larger m R W) c).counts c) →
      Handled m R W adding work work' n' j c H
  handled-gained a o b =
      record {
        so_far = so-far-gained m R W adding j a.turn.low a.turn.high c a.low a.high (child-fresh a (inl refl)).0 (child-done a (inl refl)).0 a.turn.so_far b
            (waits-child m R W j a.turn.low a.turn.high c (child-fresh a (inl refl)).1).2 o;
        only = b.only;
      }

  -- D
  pub handled-lost : AtChild work m R W adding j used n (m + j) c H → Bumps m work work' n' (not adding) (whole_row (column_at (smaller m R) c).counts c) →
      Handled m R W adding work work' n' j c H
  handled-lost a b =
      let v : (is_touched (larger m R W) W c ≡ true) × (c < j) × (_ < j) × (0 < _) × (other_parent m R c ≡ j) =
      waits-lost m R W j a.turn.low a.turn.high c a.low a.high (child-fresh a (inr refl)).1 in
      record {
        so_far = so-far-lost m R W adding j a.turn.low a.turn.high c a.low a.high (child-fresh a (inr refl)).0 v.1 a.turn.so_far b (omega arith) v.4;
        only = b.only;
      }
