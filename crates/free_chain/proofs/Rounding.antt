-- A round of steps over the queue, and rounds: what holds at each turn, that a queued piece can be stepped, and the two turns: the piece stays in the queue, or
-- the last of the queue takes its place. Assumes nothing.
use mathlib.Core.Path.{◌≡◌, refl, ◌∙◌}
use mathlib.Core.Logic.{inl, inr}
use mathlib.Core.List.{List}
use Prim.Native.Nat.{ℕ, ◌+◌, ◌-◌, ◌*◌, ◌≤◌, ◌<◌}
use native.Mathlib.Omega.{arith}
use lib.ListN.{length, get_or, set, length-set}
use lib.Seq.{get_or-set_same, get_or-set_other}
use Rattle.lists.proofs.Tests.{eq-or-ne}
use Rattle.free_chain.specs.Pieces.{Stands, CanStep, Stepped, Kept, queue_of, Queued, CanRound, Rounded}
use Rattle.free_chain.proofs.Stepping.{stands_same, stepped-length, kept_step, queue-step}

-- a place of the queue written
pub kept-queue : (rs ns w : List ℕ) (c q v : ℕ) → Kept rs ns c w (set w (queue_of c + q) v)
kept-queue rs ns w c q v f ps s h =
    stands_same (set w (queue_of c + q) v) (ps s h) (get_or-set_other w (queue_of c + q) (2 * s) v 0 (λ e. omega arith)) (get_or-set_other w (queue_of c + q) (2 * s + 1) v 0 (λ e. omega arith))

-- the last of the queue moved to place q
pub queue-drop : {w : List ℕ} {c n : ℕ} (q : ℕ) → Queued w c n → q < n → queue_of c + q < length w → Queued (set w (queue_of c + q) (get_or w (queue_of c + (n - 1)) 0)) c (n - 1)
queue-drop {w} {c} {n} q u h room = record { few = omega (arith, u.few); pieces = λ j k. moved j k }
  where
    moved : (j : ℕ) → j < n - 1 → get_or (set w (queue_of c + q) (get_or w (queue_of c + (n - 1)) 0)) (queue_of c + j) 0 ≤ c
    moved j k =
        elim (eq-or-ne j q) [
          | inl e ↦ rw e (omega (arith, get_or-set_same w (queue_of c + q) (get_or w (queue_of c + (n - 1)) 0) 0 room, u.pieces (n - 1) (omega arith)))
          | inr e ↦ omega (arith, get_or-set_other w (queue_of c + q) (queue_of c + j) (get_or w (queue_of c + (n - 1)) 0) 0 (λ z. e (omega arith)), u.pieces j (omega arith))
        ]

-- the first q of n queued pieces were stepped
pub record Rounding (rows next : List ℕ) (cuts : ℕ) (scratch₀ scratch : List ℕ) (n q : ℕ) : Type 0 where
  pub kept : Kept rows next cuts scratch₀ scratch
  pub queue : Queued scratch cuts n
  pub within : q ≤ n
  pub same : length scratch ≡ length scratch₀

pub rounding-start : {rs ns w : List ℕ} {c n : ℕ} → CanRound rs ns w c n → Rounding rs ns c w w n 0
rounding-start p = record { kept = λ f ps. ps; queue = p.queue; within = omega arith; same = refl }

module _ {rs ns w₀ : List ℕ} {c n₀ : ℕ} (p : CanRound rs ns w₀ c n₀) where
  module _ {w : List ℕ} {n q : ℕ} (i : Rounding rs ns c w₀ w n q) (more : q < n) where
    pub rounding-piece : get_or w (queue_of c + q) 0 ≤ c
    rounding-piece = i.queue.pieces q more

    pub rounding-can : CanStep rs ns w (get_or w (queue_of c + q) 0)
    rounding-can =
        let b : get_or w (queue_of c + q) 0 ≤ c = rounding-piece in
        let t : Stands rs ns w (p.starts (get_or w (queue_of c + q) 0)) (get_or w (queue_of c + q) 0) = i.kept p.starts p.pieces (get_or w (queue_of c + q) 0) b in
        record { can = p.can; room = omega (arith, p.room.long, i.same); size = t.size; stand = t.stand }

    module _ {w₁ : List ℕ} (t : Stepped rs ns w w₁ (get_or w (queue_of c + q) 0)) where
      pub rounding-same : length w₁ ≡ length w₀
      rounding-same = stepped-length t c rounding-piece ∙ i.same

      pub rounding-kept : Kept rs ns c w₀ w₁
      rounding-kept f ps = kept_step t c rounding-piece (omega (arith, p.room.long, i.same)) f (i.kept f ps)

      -- it stays in the queue
      pub rounding-on : Rounding rs ns c w₀ w₁ n (q + 1)
      rounding-on = record { kept = rounding-kept; queue = queue-step t c rounding-piece i.queue; within = omega arith; same = rounding-same }

      -- the last takes its place
      pub rounding-drop : Rounding rs ns c w₀ (set w₁ (queue_of c + q) (get_or w₁ (queue_of c + (n - 1)) 0)) (n - 1) q
      rounding-drop =
          record {
            kept = λ f ps. kept-queue rs ns w₁ c q (get_or w₁ (queue_of c + (n - 1)) 0) f (rounding-kept f ps);
            queue = queue-drop q (queue-step t c rounding-piece i.queue) more (omega (arith, p.room.long, i.queue.few, rounding-same));
            within = omega arith;
            same = length-set w₁ (queue_of c + q) (get_or w₁ (queue_of c + (n - 1)) 0) ∙ rounding-same;
          }

-- the budget is spent: none is walked further
pub queue-none : (w : List ℕ) (c : ℕ) → Queued w c 0
queue-none w c = record { few = omega arith; pieces = λ q l. absurd (omega arith) }

-- ---- round after round

pub rounds-can : {rs ns w₀ w : List ℕ} {c n₀ n q : ℕ} → CanRound rs ns w₀ c n₀ → Rounding rs ns c w₀ w n q → CanRound rs ns w c n
rounds-can p i =
    record {
      can = p.can;
      room = record { small = p.room.small; above = p.room.above; below = p.room.below; long = omega (arith, p.room.long, i.same) };
      starts = p.starts;
      pieces = i.kept p.starts p.pieces;
      queue = i.queue;
    }

pub rounds-next : {rs ns w₀ w w₁ : List ℕ} {c n q left n₁ left₁ : ℕ} → Rounding rs ns c w₀ w n q → Rounded rs ns c w w₁ left n₁ left₁ → length w₁ ≡ length w → Rounding rs ns c w₀ w₁ n₁ 0
rounds-next i r e = record { kept = λ f ps. r.kept f (i.kept f ps); queue = r.queue; within = omega arith; same = e ∙ i.same }
