-- What the walk of a column's chain asks and answers: it must hold the counters, so its length is known before. Then what is asked of the records that the
-- columns do not have. Counters, stash and pieces are in the work table. Assumes nothing: these are definitions.
use Rattle.std.specs.Prelude.{◌≡◌, Bool, true, ◌&&◌, List, ℕ, ◌+◌, ◌*◌, ◌-◌, ◌≤◌, ◌<◌, leb, length, set, Option}
use Rattle.lists.specs.Lists.{pick, values_at, times}
use Rattle.workspace.specs.Layout.{row_stash}
use Rattle.workspace.specs.Regions.{cell, region, IsZero}
use Rattle.pool.specs.Chains.{chain, ends}
use Rattle.pool.specs.Ends.{chain_answer}
use Rattle.pool.specs.Free.{FreeHas, zero_pairs}
use Rattle.pool.specs.declared.Rec.{Rec}
use Rattle.book.specs.Tally.{filled}
use Rattle.counting.specs.Counting.{OnlyTwo}
use Rattle.soundness.specs.Fitting.{entry_fits, fits}

-- ---- one entry, against the counters that are the first m places

-- place p, where the row will stand, lies in the work table past the counters
pub record CanCheckEntry (work : List ℕ) (m p : ℕ) : Type 0 where
  pub before : m ≤ p
  pub inside : p < length work

-- one that fits loses its counter, and its row stands at place p
pub record EntryChecked (work₀ work : List ℕ) (m p before row count : ℕ) (a : Bool) : Type 0 where
  pub answer : a ≡ entry_fits m work₀ before row count
  pub changed : work ≡ pick (entry_fits m work₀ before row count) (set (set work₀ (row - 1) 0) p row) work₀

-- ---- a column's chain

-- a row and a multiplicity for each record, room for the stash, and size is the number of counters that are not 0
pub record CanCheck (rows counts next work : List ℕ) (m met size : ℕ) : Type 0 where
  pub rows_long : length rows ≡ length next
  pub counts-long : length counts ≡ length next
  pub m-bound : m ≤ 4096
  pub f-bound : length next ≤ 1048576
  pub long : 8 * m + 2 * length next ≤ length work
  pub within : met ≤ length next
  pub size_is : size ≡ filled (region work 0 m)

-- the chain ends, holds the counters, and with those met before has no more records than there are
abbrev pub chain_fits : (rows counts next work : List ℕ) → (m met head : ℕ) → Bool
chain_fits rs vs ns w m n h = ends ns h && fits rs vs m (region w 0 m) (chain ns h) && leb (n + length (chain ns h)) (length ns)

-- what a chain that fits leaves: no counter, its rows in the stash after those before
pub record ChainRead (rows next work₀ work : List ℕ) (m met head : ℕ) : Type 0 where
  pub zero : IsZero work 0 m
  pub stash : region work (row_stash m (length next) + met) (length (chain next head)) ≡ values_at rows (chain next head)
  pub stash-before : (k : ℕ) → k < met → cell work (row_stash m (length next)) k ≡ cell work₀ (row_stash m (length next)) k

-- after the walk of a column's chain: whether it fits, with the records met and its last one, and what it leaves if so; only counters and stash changed
pub record Checked (rows counts next work₀ work : List ℕ) (m met head : ℕ) (a : Option (ℕ × Rec)) : Type 0 where
  pub only : OnlyTwo 0 m (row_stash m (length next)) (length next) work₀ work
  pub answer : a ≡ chain_answer (chain_fits rows counts next work₀ m met head) met next head
  pub read : chain_fits rows counts next work₀ m met head ≡ true → ChainRead rows next work₀ work m met head

-- ---- the records that the columns do not have

-- a row and a multiplicity for each record, and room for the pieces of the free chain
pub record CanReadFree (rows counts next work : List ℕ) (m : ℕ) : Type 0 where
  pub rows_long : length rows ≡ length next
  pub counts-long : length counts ≡ length next
  pub m-bound : m ≤ 4096
  pub f-bound : length next ≤ 1048576
  pub long : 8 * m + 4 * length next ≤ length work

-- k records have row 0, all of them multiplicity 0, and the free chain has so many
pub record FreeRead (rows counts next : List ℕ) (free k : ℕ) : Type 0 where
  pub rows-zero : times 0 rows ≡ k
  pub both_zero : zero_pairs rows counts ≡ k
  pub has : FreeHas rows next free k
