-- What a done column brings to a parent, as it is counted into the differences: more are its multiplicities with the batch, less those without it, so
-- adding goes from less to more and removing from more to less. Assumes nothing: these are definitions.
use mathlib.Core.Path.{◌≡◌}
use mathlib.Core.Bool.{Bool, ◌&&◌, not}
use mathlib.Core.List.{List}
use Prim.Native.Nat.{ℕ, ◌+◌, ◌-◌, ◌≤◌, ◌<◌}
use lib.Dec.{eqb}
use lib.ListN.{length, get_or}
use Rattle.lists.specs.Lists.{pick, at}
use Rattle.workspace.specs.Regions.{cell, OnlyIn}
use Rattle.workspace.specs.Layout.{marks_at, starts_at, next_at, plan_at}
use Rattle.differences.specs.Tally.{difference_at, Tally, counted}
use Rattle.differences.specs.Gather.{plan_part}
use Rattle.emission.specs.Plans.{plan_from}
use Rattle.updown.specs.Marks.{end_at}

-- ---- differences counted

-- n touched rows, and differences that can be counted up and down
pub record Steady (m : ℕ) (work : List ℕ) (n : ℕ) : Type 0 where
  pub tally : Tally m work n (difference_at work)
  pub ranges : (i : ℕ) → 1 ≤ i → i ≤ m → (2 ≤ difference_at work i) × (difference_at work i < 2147483647)

-- the rows that pass a test are counted up or down, and nothing but the differences changes
pub record Bumps (m : ℕ) (before after : List ℕ) (n : ℕ) (up : Bool) (p : ℕ → Bool) : Type 0 where
  pub tally : Tally m after n (difference_at after)
  pub counts : counted up (difference_at before) (difference_at after) m p
  pub only : OnlyIn 0 (marks_at m) before after

-- ---- a column's multiplicities, its plan

-- column c with the batch (more) and without it (less): 16 bits hold its multiplicities, its diagonal stands, more has all rows of less
pub record Counts (m c : ℕ) (more less : List ℕ) : Type 0 where
  pub low : 1 ≤ c
  pub high : c ≤ m
  pub narrow : m ≤ 4096
  pub more-long : length more ≡ m
  pub less-long : length less ≡ m
  pub more-small : (k : ℕ) → get_or more k 0 < 65536
  pub less-small : (k : ℕ) → get_or less k 0 < 65536
  pub diagonal : (0 < at more c) × (0 < at less c)
  pub below : (i : ℕ) → 1 ≤ i → i < c → (at more i ≡ 0) × (at less i ≡ 0)
  pub grows : (i : ℕ) → 1 ≤ i → i ≤ m → 0 < at less i → 0 < at more i

-- multiplicities before the batch: without it when adding, with it when removing
abbrev pub old_of : (adding : Bool) (more less : List ℕ) → List ℕ
old_of z xs ys = pick z ys xs

-- multiplicities after the batch: with it when adding, without it when removing
abbrev pub new_of : (adding : Bool) (more less : List ℕ) → List ℕ
new_of z xs ys = pick z xs ys

-- the plan of column c, which ends where that of the next touched column starts
pub record PlanOf (work : List ℕ) (m c : ℕ) (adding : Bool) (more less : List ℕ) : Type 0 where
  pub column : Counts m c more less
  pub long : plan_at m + end_at m work c ≤ length work
  pub next_low : 1 ≤ cell work (next_at m) (c - 1)
  pub next-high : cell work (next_at m) (c - 1) ≤ m
  pub order : cell work (starts_at m) (c - 1) ≤ end_at m work c
  pub entries : plan_part m work (cell work (starts_at m) (c - 1)) (end_at m work c) ≡ plan_from 1 (old_of adding more less) (new_of adding more less)

-- ---- what it brings

-- B: a row that c has with the batch and not without it
abbrev pub kept_row : (more less : List ℕ) (i : ℕ) → Bool
kept_row xs ys i = eqb (at ys i) 0 && not (eqb (at xs i) 0)

-- C, by its multiplicities with the batch, and D, by those without it: a row of c other than c itself
abbrev pub whole_row : (counts : List ℕ) (c i : ℕ) → Bool
whole_row xs c i = not (eqb (at xs i) 0) && not (eqb i c)
