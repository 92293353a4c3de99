-- Pieces laid out and queued: what holds at each turn and at the end, and that pieces laid out stand. Assumes nothing.
use mathlib.Core.Path.{◌≡◌}
use mathlib.Core.Logic.{inl, inr}
use mathlib.Core.List.{List}
use Prim.Native.Nat.{ℕ, ◌+◌, ◌*◌, ◌≤◌, ◌<◌}
use native.Mathlib.Omega.{arith}
use lib.ListN.{length}
use Rattle.lists.proofs.Tests.{eq-or-ne}
use Rattle.free_chain.specs.Pieces.{start_of, Pieces, Queued, LaidAt, Laid}
use Rattle.free_chain.proofs.Leading.{leads-none}
use Rattle.free_chain.proofs.Stepping.{stands-with}
use Rattle.free_chain.proofs.Adding.{start-cut, start-head}

-- ---- the loop

-- the last piece and the first s are laid out, and n are queued
pub record Laying (cuts head : ℕ) (scratch₀ scratch : List ℕ) (n s : ℕ) : Type 0 where
  pub last : LaidAt scratch head cuts
  pub done : (t : ℕ) → t < s → LaidAt scratch (1024 * t + 1) t
  pub queue : Queued scratch cuts n
  pub few : n ≤ s + 1
  pub within : s ≤ cuts
  pub long : 3 * (cuts + 1) ≤ length scratch
  pub same : length scratch ≡ length scratch₀

pub laying-end : {c h : ℕ} {w₀ w : List ℕ} {n s : ℕ} → Laying c h w₀ w n s → c ≤ s → Laid c h w n
laying-end {c} {h} {w₀} {w} {n} {s} i full = record { pieces = λ t l. laid t l; queue = i.queue }
  where
    laid : (t : ℕ) → t ≤ c → LaidAt w (start_of c h t) t
    laid t l =
        elim (eq-or-ne t c) [
          | inl e ↦ rw (e, start-head c h) i.last
          | inr e ↦ rw (start-cut c h t (omega arith)) (i.done t (omega arith))
        ]

-- ---- laid out, every piece stands

pub laid-stands : (rs ns : List ℕ) {c h : ℕ} {w : List ℕ} {n : ℕ} → Laid c h w n → h ≤ length ns → 1024 * c < length ns + 1024 → Pieces rs ns c (start_of c h) w
laid-stands rs ns {c} {h} {w} l high below s k =
    stands-with
    rs
    ns
    w
    (start_of c h s)
    s
    0
    (start_of c h s)
    (leads-none rs ns (start_of c h s))
    (omega arith)
    start
    (l.pieces s k).0
    (l.pieces s k).1
  where
    start : start_of c h s ≤ length ns
    start =
        elim (eq-or-ne s c) [
          | inl e ↦ rw (e, start-head c h) high
          | inr e ↦ omega (arith, start-cut c h s (omega arith))
        ]
