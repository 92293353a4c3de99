-- "Its tables serve m 64, n 256, F 2,048, C 2,048": with the lengths that the listing program has, an opening with these sizes is not refused for a table that is too short,
-- and the lists of a batch have a place for each column. Assumes nothing.
use mathlib.Core.Path.{◌≡◌, refl}
use mathlib.Core.Bool.{true}
use Prim.Native.Nat.{◌≤◌}
use native.Mathlib.Omega.{arith}
use lib.Dec.{leb}
use lib.ListN.{length}
use Rattle.tables.specs.Tables.{Sizes, sizes_of, long_enough}
use Rattle.calls.specs.Refusals.{work_for}
use Rattle.listing_memory.specs.Memory.{Memory, Lengths}

-- document 01's sizes
abbrev pub served : Sizes
served = sizes_of 64 256 2048 2048

pub serves-tables : (u : Memory) → Lengths u → long_enough served u.world.tables ≡ true
serves-tables u l = rw (l.heads, l.parents, l.rows, l.counts, l.next, l.book-heads, l.book-rows, l.book-next, l.windows) refl

pub serves-work : (u : Memory) → Lengths u → leb (work_for served) (length u.work) ≡ true
serves-work u l = rw l.work refl

pub serves-report : (u : Memory) → Lengths u → (64 ≤ length u.touched) × (64 ≤ length u.labels)
serves-report u l = (omega (arith, l.touched), omega (arith, l.labels))
