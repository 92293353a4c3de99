-- Column j planned: after D the differences are those from before to after the batch (`can-emit`), and what emission leaves is what
-- the walk goes on with (`planned`). Assumes nothing.
use mathlib.Core.Path.{◌≡◌}
use mathlib.Core.Logic.{inl, inr}
use mathlib.Core.Bool.{Bool, true, false}
use mathlib.Core.List.{List}
use Prim.Native.Nat.{ℕ, ◌+◌, ◌-◌, ◌*◌, ◌≤◌, ◌<◌}
use native.Mathlib.Omega.{arith}
use lib.ListN.{length}
use Rattle.lists.specs.Lists.{at}
use Rattle.lists.proofs.Tests.{lt-or-le}
use Rattle.symbolic.specs.Columns.{Column}
use Rattle.symbolic.specs.Factor.{column_at, size_of}
use Rattle.pool.specs.Chains.{chain, Linked}
use Rattle.emission.specs.Emit.{CanEmit, Ready, Emits}
use Rattle.emission.specs.declared.Emission.{Emission}
use Rattle.updown.proofs.Brought.{Counts}
use Rattle.updown.specs.Turns.{larger, smaller, before, after}
use Rattle.updown.specs.SoFar.{IsDefinition}
use Rattle.updown.specs.Walks.{ChainOf, Columns}
use Rattle.updown.specs.States.{Multiplicities, Planned}
use Rattle.updown.proofs.Turning.{column-counts}

module _ {heads rows counts next : List ℕ} {m : ℕ} {R W : List Column} {adding : Bool} (k : Columns heads rows next m R W adding) (q : Multiplicities heads counts next m R W adding)
    {w : List ℕ} {j n : ℕ} (low : 1 ≤ j) (high : j ≤ m) (definition : IsDefinition m R W adding w n j) (used avail : ℕ) (linked : Linked next avail (chain next avail))
    (room : used + size_of (column_at (before adding m R W) j) + length (chain next avail) ≤ length next) (long : 8 * m + length next ≤ length w) where
  abbrev old : List ℕ
  old = (column_at (before adding m R W) j).counts

  abbrev new : List ℕ
  new = (column_at (after adding m R W) j).counts

  own-counts : Counts m j (column_at (larger m R W) j).counts (column_at (smaller m R) j).counts
  own-counts = column-counts m R W j low high k.narrow k.few

  -- by direction
  lengths : (z : Bool) → (length (column_at (before z m R W) j).counts ≡ m) × (length (column_at (after z m R W) j).counts ≡ m)
  lengths true = (own-counts.less-long, own-counts.more-long)
  lengths false = (own-counts.more-long, own-counts.less-long)

  lows : (z : Bool) (i : ℕ) → 1 ≤ i → i < j → (at (column_at (before z m R W) j).counts i ≡ 0) × (at (column_at (after z m R W) j).counts i ≡ 0)
  lows true i x y = ((own-counts.below i x y).1, (own-counts.below i x y).0)
  lows false i x y = ((own-counts.below i x y).0, (own-counts.below i x y).1)

  smalls : (z : Bool) (i : ℕ) → at (column_at (after z m R W) j).counts i < 65536
  smalls true i = own-counts.more-small (i - 1)
  smalls false i = own-counts.less-small (i - 1)

  can-emit : CanEmit rows counts next w m n j (at heads j) used avail old new
  can-emit =
      let c : ChainOf heads rows next m j old = k.chains j low high in
      record {
        tally = definition.tally;
        narrow = k.narrow;
        rows_long = c.rows_long;
        counts-long = q.long;
        linked = c.linked;
        free = linked;
        old-long = (lengths adding).0;
        new-long = (lengths adding).1;
        old-rows = c.rows_are;
        old-counts = q.are j low high;
        moved = λ i x y. elim (lt-or-le i j) [
          | inl l ↦ let z : (at old i ≡ 0) × (at new i ≡ 0) = lows adding i x l in omega (arith, definition.still i x l)
          | inr l ↦ omega (arith, definition.rows i l y)
        ];
        below = lows adding;
        small = smalls adding;
        room = room;
        plan-long = long;
      }

  pub emit-ready : Ready rows counts next w m n j (at heads j) used avail
  emit-ready = record { old = old; new = new; can = can-emit }

  pub planned : {w' : List ℕ} {e : Emission} → Emits rows counts next w m n j (at heads j) used avail w' e → Planned next w w' m R W adding j used avail e
  planned h = h old new can-emit
