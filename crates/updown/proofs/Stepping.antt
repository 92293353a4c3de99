-- From the turn of j to the next row: column j planned and one step taken up gives the state before the next row (`walk-on`), whatever way the step stores
-- its marks and queues; and the list of done columns has one more. Assumes nothing.
use mathlib.Core.Path.{◌≡◌, refl, sym, ap, ◌∙◌, subst}
use mathlib.Core.Logic.{inl, inr, ◌≢◌}
use mathlib.Core.Bool.{Bool, true, false}
use mathlib.Core.List.{List, [], ◌∷◌, ◌++◌, append-nil}
use Prim.Native.Nat.{ℕ, suc, ◌+◌, ◌-◌, ◌*◌, ◌/◌, ◌≤◌, ◌<◌}
use native.Mathlib.Omega.{arith}
use lib.ListN.{length, get_or}
use borrow.Author.Tests.{ne_eqb}
use Rattle.lists.specs.Lists.{pick, Mem, first}
use Rattle.lists.proofs.Tests.{lt-or-le}
use Rattle.lists.proofs.Member.{mem-left, mem-right}
use Rattle.symbolic.specs.Columns.{Column}
use Rattle.symbolic.specs.Factor.{FactorColumn, column_at, parent_of}
use Rattle.symbolic.specs.Batch.{is_touched, touched_from}
use Rattle.workspace.specs.Regions.{cell, region, Outside}
use Rattle.emission.specs.Emit as emit
use Rattle.emission.specs.declared.Emission.{Emission}
use Rattle.columns.specs.Plan.{planned, Suits}
use Rattle.updown.specs.Plans.{label_in, parent_in, InPlan}
use Rattle.workspace.specs.Layout.{plan_at}
use Rattle.workspace.proofs.Regions.{not-inside}
use Rattle.updown.specs.Marks.{mark_at, Flagged}
use Rattle.updown.specs.Queues.{Queues}
use Rattle.updown.specs.Turns.{larger, before, after, label_at, done, standing, waiting, DoneColumn, PlansTo}
use Rattle.updown.specs.SoFar.{family}
use Rattle.updown.specs.States.{MarksHold, Busy, differs, plans, marks, queues, flagged, Walking}
use Rattle.updown.proofs.Worked.{Begun, Worked}
use Rattle.updown.proofs.Queueing.{queue-none, links-length}
use Rattle.updown.proofs.Plans.{touched-more, in-touched, region-same, plans-frame, plans-more}
use Rattle.updown.proofs.Standing.{family-none}
use Rattle.updown.proofs.Turning.{tally-frame}
use Rattle.updown.proofs.Marked.{mark-label}

-- ---- the done columns, one row more

module _ (m : ℕ) (R W : List Column) (j : ℕ) (a : 1 ≤ j) where
  done-one : done m R W (suc j) ≡ done m R W j ++ pick (is_touched (larger m R W) W j) (j ∷ []) []
  done-one =
      let p : suc j - 1 ≡ suc (j - 1) = omega arith in
      let q : 1 + (j - 1) ≡ j = omega arith in
      ap (λ (n : ℕ). touched_from (larger m R W) W 1 n) p ∙ touched-more (larger m R W) W 1 (j - 1) ∙ ap (λ (x : ℕ). done m R W j ++ pick (is_touched (larger m R W) W x) (x ∷ []) []) q

  pub done_next : is_touched (larger m R W) W j ≡ true → done m R W (suc j) ≡ done m R W j ++ (j ∷ [])
  done_next t = done-one ∙ rw t refl

  pub done-skip : is_touched (larger m R W) W j ≡ false → done m R W (suc j) ≡ done m R W j
  done-skip t = done-one ∙ rw t (append-nil (done m R W j))

  pub done-in : {c : ℕ} → Mem c (done m R W j) → (1 ≤ c) × (c < j)
  done-in {c} x = let v : (1 ≤ c) × (c < 1 + (j - 1)) × (is_touched (larger m R W) W c ≡ true) = in-touched (larger m R W) W 1 (j - 1) c x in omega arith

  -- the plans' places, one column more
  pub in-plan-wider : is_touched (larger m R W) W j ≡ true → {used used' k : ℕ} → used ≤ used' → InPlan m used (done m R W j) k → InPlan m used' (done m R W (suc j)) k
  in-plan-wider t l (inr x) = inr (x.0, omega arith)
  in-plan-wider t l (inl x) = inl (x.0, (subst (λ (y : List ℕ). Mem x.0 y) (sym (done_next t)) (mem-left (j ∷ []) x.1.0), x.1.1))

  pub own_in : is_touched (larger m R W) W j ≡ true → Mem j (done m R W (suc j))
  own_in t = subst (λ (y : List ℕ). Mem j y) (sym (done_next t)) (mem-right (done m R W j) first)

-- ---- the step

module _ {next : List ℕ} {m flags : ℕ} {R W : List Column} {adding : Bool} {work₀ w w₁ : List ℕ} {j used avail : ℕ} {e : Emission} (b : Begun m flags R W adding work₀ w j used)
    (d : Worked next w w₁ m R W adding j used avail e) where
  abbrev L : List FactorColumn
  L = before adding m R W

  abbrev L' : List FactorColumn
  L' = after adding m R W

  long₁ : 8 * m ≤ length w₁
  long₁ = omega (arith, b.room.low, b.room.long, d.same_length)

  -- its queue is empty
  pub next-zero : cell w₁ (5 * m) (j - 1) ≡ 0
  next-zero =
      queue-none (λ c x y. ne_eqb (waiting m R W j (family m R W j) c) j (family-none m R W j b.low b.high c x (omega (arith, links-length m w₁ long₁))))
      (d.queues.queue j (omega arith) (omega (arith, b.high)) (omega (arith, b.low)))

  mark-same : mark_at m w₁ j ≡ mark_at m w j
  mark-same = d.still (3 * m + (j - 1)) (omega arith) (inl (omega (arith, b.high, b.low))) (omega (arith, b.high, b.low)) (inl (omega (arith, b.high, b.low)))

  pub label_same : mark_at m w₁ j / 4 ≡ label_at m R W j
  label_same = ap (λ (x : ℕ). x / 4) mark-same ∙ mark-label m R W b.marks b.low b.high b.touched

  module _ (ok : e.fits ≡ true) (fit : 8 * m + length next ≤ flags) where
    module _ (w₂ : List ℕ) (p : ℕ) (l : length w₂ ≡ length w₁) (few : label_at m R W j ≤ 64) (parent : p ≡ parent_of L' j) (own : cell w₂ (3 * m) (j - 1) ≡ mark_at m w₁ j + 262144 * p)
        (other : (k : ℕ) → k ≢ 3 * m + (j - 1) → Outside (3 * m + j) (m - j) k → Outside (5 * m + j) (3 * m - j) k → Outside flags 64 k → get_or w₂ k 0 ≡ get_or w₁ k 0)
        (ms : MarksHold m R W w₂ (suc j)) (fs : Flagged m flags w₂ j) (qs : Queues m w₂ (suc j) 0 (standing m R W (suc j))) where
      -- a place before the plan that the step and the turn leave
      stay : (k : ℕ) → 3 * m ≤ k → k < 6 * m → k ≢ 3 * m + (j - 1) → Outside (3 * m + j) (m - j) k → Outside (5 * m + j) (3 * m - j) k → k ≢ 5 * m + (j - 1) →
          get_or w₂ k 0 ≡ get_or w k 0
      stay k x y z u v n = other k z u v (inl (omega (arith, b.room.low))) ∙ d.still k x (inl y) n (inl (omega arith))

      -- places of plans stay in the step
      plan-stays : (k : ℕ) → InPlan m used (done m R W j) k → get_or w₂ k 0 ≡ get_or w k 0
      plan-stays k (inr x) =
          other k (omega (arith, b.high)) (inr (omega (arith, b.high))) (inr (omega (arith, b.high))) (inl (omega (arith, b.plan-room))) ∙
          d.still k (omega arith) (inr (omega arith)) (omega (arith, b.low, b.high)) (inl (omega arith))
      plan-stays k (inl x) =
          let v : (1 ≤ x.0) × (x.0 < j) = done-in m R W j b.low x.1.0 in
          elim x.1.1 [
            | inl y ↦ stay k (omega arith) (omega (arith, b.high)) (omega (arith, b.high)) (inl (omega arith)) (inl (omega (arith, b.high))) (omega (arith, b.high))
            | inr (inl y) ↦ stay k (omega arith) (omega (arith, b.high)) (omega (arith, b.high)) (inr (omega (arith, b.high))) (inl (omega (arith, b.high))) (omega (arith, b.high))
            | inr (inr y) ↦ stay k (omega arith) (omega (arith, b.high)) (omega (arith, b.high)) (inr (omega (arith, b.high))) (inl (omega arith)) (omega arith)
          ]

      own-column : DoneColumn m L L' (label_at m R W) w₂ j used e.used 0
      own-column =
          let f : emit.Plan next m j used avail (column_at L j).counts (column_at L' j).counts w₁ e = d.planned.plan ok in
          let r : region w₂ (plan_at m + used) (e.used - used) ≡ region w₁ (plan_at m + used) (e.used - used) =
          region-same w₁ w₂ (plan_at m + used) (e.used - used) l (λ i x.
          other (plan_at m + used + i) (omega (arith, b.high)) (inr (omega (arith, b.high))) (inr (omega (arith, b.high))) (inl (omega (arith, fit, d.planned.used_high, d.planned.used_low)))) in
          record {
            plan = record {
              rises = d.planned.used_low;
              label_is = ap label_in own ∙ omega (arith, label_same);
              parent_is = ap parent_in own ∙ omega (arith, label_same, parent);
              starts = stay (4 * m + (j - 1)) (omega arith) (omega (arith, b.high)) (omega (arith, b.high)) (inr (omega (arith, b.high))) (inl (omega (arith, b.high))) (omega (arith, b.high)) ∙ b.starts;
              next-is = other (5 * m + (j - 1)) (omega (arith, b.high)) (inr (omega (arith, b.high))) (inl (omega (arith, b.low))) (inl (omega (arith, b.room.low, b.high))) ∙ next-zero;
              suits = subst (λ (x : List ℕ). Suits (column_at L j).counts j x) (sym r) f.suits;
              becomes = ap (planned (column_at L j).counts) r ∙ f.becomes;
            };
            entries = r ∙ f.entries;
          }

      -- what is not busy before the next row was not busy before
      calm : (k : ℕ) → (Busy m flags e.used (done m R W (suc j)) (suc j) k → ⊥) → get_or w₂ k 0 ≡ get_or work₀ k 0
      calm k n =
          let at_mark : k ≢ 3 * m + (j - 1) = λ x. n (plans (inl (j, (own_in m R W j b.low b.touched, inl x)))) in
          let at_next : k ≢ 5 * m + (j - 1) = λ x. n (plans (inl (j, (own_in m R W j b.low b.touched, inr (inr x))))) in
          let past : 3 * m ≤ k = elim (lt-or-le k (3 * m)) [ inl x ↦ absurd (n (differs x)) | inr x ↦ x ] in
          other k at_mark (not-inside (3 * m + j) (m - j) k (λ x y. n (marks (omega arith) (omega (arith, b.high)))))
          (not-inside (5 * m + j) (3 * m - j) k (λ x y. n (queues (omega arith) (omega (arith, b.high))))) (not-inside flags 64 k (λ x y. n (flagged x y))) ∙
          d.still k past (not-inside (6 * m) (2 * m) k (λ x y. n (queues (omega (arith, b.high)) (omega arith)))) at_next
          (not-inside (8 * m + used) (e.used - used) k (λ x y. n (plans (inr (omega arith, omega (arith, d.planned.used_low)))))) ∙
          b.rest k (λ x. n (busier at_mark at_next x))
        where
          busier : k ≢ 3 * m + (j - 1) → k ≢ 5 * m + (j - 1) → Busy m flags used (done m R W (suc j)) j k → Busy m flags e.used (done m R W (suc j)) (suc j) k
          busier x y (differs z) = differs z
          busier x y (plans (inl z)) = plans (inl z)
          busier x y (plans (inr z)) = plans (inr (z.0, omega (arith, d.planned.used_low)))
          busier x y (marks u v) = marks (omega (arith, b.low)) v
          busier x y (queues u v) = queues (omega (arith, b.low)) v
          busier x y (flagged u v) = flagged u v

      pub walk-on : Walking m flags R W adding work₀ w₂ (suc j) e.used
      walk-on =
          let same : length w₂ ≡ length w = l ∙ d.same_length in
          let ps : PlansTo m L L' (label_at m R W) w₂ (done m R W j) 0 j used =
          plans-frame m L L' (label_at m R W) w w₂ same (done m R W j) 0 j used b.plans plan-stays in
          let q : suc j - 1 ≡ j = omega arith in
          record {
            low = omega arith;
            high = omega (arith, b.high);
            room = record { m-bound = b.room.m-bound; low = b.room.low; long = omega (arith, b.room.long, same) };
            plan-room = omega (arith, d.planned.used_high, fit);
            same_length = same ∙ b.same_length;
            zero = b.zero;
            flags-zero = b.flags-zero;
            plans = subst (λ (x : List ℕ). PlansTo m L L' (label_at m R W) w₂ x 0 0 e.used) (sym (done_next m R W j b.low b.touched))
                (plans-more m L L' (label_at m R W) w₂ (done m R W j) 0 j used 0 e.used ps own-column);
            marks = ms;
            flagged = subst (λ (x : ℕ). Flagged m flags w₂ x) (sym q) fs;
            queues = qs;
            tally = tally-frame l (λ k x. other k (omega arith) (inl (omega arith)) (inl (omega arith)) (inl (omega (arith, b.room.low)))) d.planned.tally;
            rest = calm;
          }
