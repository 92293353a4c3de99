-- The walk's start: a table that is zero but for the marked starts is in the state before row 1 (`walking_start`). Assumes nothing.
use mathlib.Core.Path.{◌≡◌, refl, sym, ap, ◌∙◌, subst}
use mathlib.Core.Logic.{◌⊎◌, inl, inr}
use mathlib.Core.Bool.{Bool, ◌&&◌, false≢true}
use mathlib.Core.List.{List, [], ◌++◌}
use Prim.Native.Nat.{ℕ, ◌+◌, ◌-◌, ◌*◌, ◌/◌, ◌≤◌, ◌<◌}
use native.Mathlib.Omega.{arith}
use lib.Dec.{eqb}
use lib.ListN.{length, get_or}
use borrow.Author.Tests.{le-ltb, ne_eqb}
use Rattle.lists.specs.Lists.{one, among, rises}
use Rattle.lists.proofs.Tests.{eq-or-ne, and-false}
use Rattle.lists.proofs.Times.{times-nil}
use Rattle.symbolic.specs.Columns.{Column}
use Rattle.symbolic.specs.Batch.{is_touched, touched_from}
use Rattle.symbolic.proofs.Labels.{label-start}
use Rattle.workspace.specs.Regions.{IsZero}
use Rattle.workspace.proofs.Regions.{zero-at, not-inside}
use Rattle.pool.specs.Chains.{Linked}
use Rattle.pool.proofs.Chains.{linked-nil}
use Rattle.differences.specs.Tally.{base, Tally}
use Rattle.updown.specs.Marks.{Room, mark_at}
use Rattle.updown.specs.Queues.{links, Queues}
use Rattle.updown.specs.Turns.{larger, before, after, label_at, standing}
use Rattle.updown.specs.States.{start_of, MarksHold, marks, flagged, Walking}
use Rattle.updown.specs.Starts.{StartsTo}
use Rattle.updown.proofs.Plans.{plans-none}
use Rattle.updown.proofs.Standing.{stands-none}

-- ---- nothing counted

pub tally-zero : (m : ℕ) (w : List ℕ) → 3 * m ≤ length w → IsZero w 0 (3 * m) → Tally m w 0 (λ i. base)
unfolding rises among
tally-zero m w l z =
    record {
      touched = record {
        long = l;
        within = omega arith;
        rising = refl;
        listed = λ i a b. (λ h. absurd (false≢true h), λ n. absurd (n (zero_of (i - 1) (omega arith))));
        rest = λ i h. zero_of (m + 0 + i) (omega arith);
      };
      values = λ i a b. rw (zero_of (i - 1) (omega arith)) refl;
      buffer = λ i h. zero_of (2 * m + i) (omega arith);
    }
  where
    zero_of : (k : ℕ) → k < 3 * m → get_or w k 0 ≡ 0
    zero_of k h = zero-at w 0 (3 * m) k z (omega arith) (omega arith)

-- ---- nobody waits

pub queues-none : (m : ℕ) (w : List ℕ) (place : ℕ → ℕ) → ((c : ℕ) → 1 ≤ c → place c ≡ 0) → ((k : ℕ) → 5 * m ≤ k → k < 8 * m → get_or w k 0 ≡ 0) → Queues m w 1 0 place
queues-none m w place p z =
    record {
      queue = λ x a b n. record {
        members = [];
        linked = subst (λ (h : ℕ). Linked (links m w) h []) (sym (z (5 * m + (x - 1)) (omega arith) (omega arith))) (linked-nil (links m w));
        holds = λ c d e. times-nil c ∙ ap one (sym (ap (λ (y : ℕ). eqb y x) (p c d) ∙ ne_eqb 0 x (omega arith)));
      };
      idle = λ c a b e. z (7 * m + (c - 1)) (omega arith) (omega arith);
    }

module _ {m flags : ℕ} (R : List Column) {W : List Column} (adding : Bool) {w₀ w : List ℕ} (s : StartsTo m flags W w₀ w (length W)) (r : Room m flags w₀) (zero₀ : IsZero w₀ 0 (8 * m)) (flags₀ : IsZero w₀ flags 64)
    (some : 1 ≤ m) where
  marks-start : MarksHold m R W w 1
  marks-start =
      record {
        start = s.start;
        bit = s.bit;
        child = λ c x y t l. absurd (omega arith);
        bound = λ q x y. elim (eq-or-ne (mark_at m w q) 0) [
          | inl e ↦ omega (arith, ap (λ (v : ℕ). v / 4) e)
          | inr e ↦
              let t : (k : ℕ) × (1 ≤ k) × (k ≤ length W) × (start_of W k ≡ q) × (mark_at m w q ≡ 4 * k + 2) = s.cause q x y e in
              omega (arith, t.4, label-start m (R ++ W) W q t.0 x y t.1 t.2 t.3)
        ];
        whole = λ q x y e.
            let t : (k : ℕ) × (1 ≤ k) × (k ≤ length W) × (start_of W k ≡ q) × (mark_at m w q ≡ 4 * k + 2) = s.cause q x y e in
            omega (arith, t.4, t.1);
        cause = λ q x y e.
            let t : (k : ℕ) × (1 ≤ k) × (k ≤ length W) × (start_of W k ≡ q) × (mark_at m w q ≡ 4 * k + 2) = s.cause q x y e in
            inl (t.0, t.1, t.2, t.3);
      }

  cell-zero : (k : ℕ) → (k < 3 * m) ⊎ (4 * m ≤ k) → k < 8 * m → get_or w k 0 ≡ 0
  cell-zero k x y = s.rest k (elim x [ inl u ↦ inl u | inr u ↦ inr (omega arith) ]) (inl (omega (arith, r.low))) ∙ zero-at w₀ 0 (8 * m) k zero₀ (omega arith) (omega arith)

  pub walking_start : Walking m flags R W adding w₀ w 1 0
  unfolding touched_from
  walking_start =
      record {
        low = omega arith;
        high = omega arith;
        room = record { m-bound = r.m-bound; low = r.low; long = omega (arith, r.long, s.same_length) };
        plan-room = omega (arith, r.low);
        same_length = s.same_length;
        zero = zero₀;
        flags-zero = flags₀;
        plans = plans-none m (before adding m R W) (after adding m R W) (label_at m R W) w 0;
        marks = marks-start;
        flagged = s.flagged;
        queues = queues-none m w (standing m R W 1) unplaced (λ k x y. cell-zero k (inr (omega arith)) y);
        tally = tally-zero m w (omega (arith, r.low, r.long, s.same_length)) (λ k x. let q : 0 + k ≡ k = omega arith in ap (λ (v : ℕ). get_or w v 0) q ∙ cell-zero k (inl x) (omega arith));
        rest = λ k n. s.rest k (not-inside (3 * m) m k (λ x y. n (marks (omega arith) (omega arith)))) (not-inside flags 64 k (λ x y. n (flagged x y)));
      }
    where
      unplaced : (c : ℕ) → 1 ≤ c → standing m R W 1 c ≡ 0
      unplaced c a = stands-none m R W 1 c (ap (λ (z : Bool). is_touched (larger m R W) W c && z) (le-ltb c 1 a) ∙ and-false (is_touched (larger m R W) W c))
