-- The loop that counts the rows of the book columns that start at a row, as one that gathers (proofs/Gathering.antt): what a turn reads and asks.
-- Assumes nothing.
use mathlib.Core.Logic.{◌≢◌}
use mathlib.Core.List.{List}
use Prim.Native.Nat.{ℕ, ◌+◌, ◌-◌, ◌≤◌}
use native.Mathlib.Omega.{arith}
use lib.ListN.{length}
use Rattle.workspace.specs.Layout.{column_head, column_next}
use Rattle.workspace.specs.Regions.{cell}
use Rattle.book.specs.Tally.{booked_rows, CanCount}
use Rattle.counting.specs.Given.{CanTallyColumns}
use Rattle.counting.proofs.Gathering.{CanGather, Gathering, gathering-length, gathering-few, gathering-room, gathering-in, gathering-listed}

abbrev pub Starting : (hs rs ns w₀ : List ℕ) → (m f j : ℕ) → (w : List ℕ) → (size i : ℕ) → Type 0
Starting hs rs ns w₀ m f j w size i = Gathering (column_next m f (length ns)) (length hs) (cell w₀ (column_head m) (j - 1)) (booked_rows hs rs ns) w₀ w size i

-- what a turn reads and asks
pub record IdFacts (hs ns : List ℕ) (m f : ℕ) (w : List ℕ) (size i : ℕ) : Type 0 where
  pub low : 1 ≤ i
  pub high : i ≤ length hs
  pub long : column_next m f (length ns) + length hs ≤ length w
  pub m-bound : m ≤ 4096
  pub f-bound : f ≤ 1048576
  pub n-bound : length hs ≤ 200000
  pub c-bound : length ns ≤ 4194304
  pub few : size ≤ 4096

module _ {hs rs ns w₀ : List ℕ} {m f j : ℕ} (pre : CanTallyColumns hs rs ns w₀ m f j) where
  pub starting-gathers : CanGather m (column_next m f (length ns)) (length hs) 256 (cell w₀ (column_head m) (j - 1)) (booked_rows hs rs ns) w₀
  starting-gathers =
      record { before = omega arith; long = pre.table-long; linked = pre.linked; rows_in = pre.rows_in; short = λ i n. (pre.each i n).fits }

  module _ {w : List ℕ} {size i : ℕ} (s : Starting hs rs ns w₀ m f j w size i) (more : i ≢ 0) where
    pub starting-facts : IdFacts hs ns m f w size i
    starting-facts =
        record {
          low = (gathering-in starting-gathers s more).0;
          high = (gathering-in starting-gathers s more).1;
          long = omega (arith, pre.table-long, gathering-length starting-gathers s);
          m-bound = pre.sizes.m-bound;
          f-bound = pre.sizes.f-bound;
          n-bound = pre.n-bound;
          c-bound = pre.c-bound;
          few = omega (arith, gathering-few starting-gathers s, pre.sizes.m-bound);
        }

    pub starting-can : CanCount hs rs ns w i
    starting-can =
        record {
          m = m;
          column = pre.each i (gathering-listed starting-gathers s more);
          rows_in = pre.rows_in i (gathering-listed starting-gathers s more);
          long = omega (arith, pre.sizes.long, gathering-length starting-gathers s);
          room = λ k p. omega (arith, pre.room k p, pre.n-bound, gathering-room starting-gathers s k);
        }
