-- What column j of L is given: 1 on its diagonal, the rows of each child but its first, the rows of each book column that starts at j; the first two
-- are read in the work table. Each function that counts says what it asks and what it has counted. Assumes nothing: these are definitions.
use Rattle.std.specs.Prelude.{◌≡◌, List, ◌∷◌, ◌++◌, ℕ, ◌+◌, ◌*◌, ◌-◌, ◌≤◌, ◌<◌, length, get_or}
use Rattle.lists.specs.Lists.{times}
use Rattle.workspace.specs.Layout.{child_head, child_next, column_head, stash_start, row_stash, column_next}
use Rattle.workspace.specs.Regions.{cell, region, IsZero, OnlyIn}
use Rattle.pool.specs.Chains.{chain, Linked}
use Rattle.book.specs.Entries.{CanCopy}
use Rattle.book.specs.Tally.{tallied, filled, WithinRows, booked_rows}
use Rattle.counting.specs.Counting.{gathered}

-- ---- what was counted

-- the counters, the first m places, have the rows more, and nothing else changed; how many counters left 0
pub record Counted (m : ℕ) (work₀ work : List ℕ) (rows : List ℕ) (size : ℕ) : Type 0 where
  pub only : OnlyIn 0 m work₀ work
  pub counters : region work 0 m ≡ tallied (region work₀ 0 m) rows
  pub size_is : size + filled (region work₀ 0 m) ≡ filled (region work 0 m)

-- a work table long enough for the sizes, and a row of 1 to m
pub record Places (m f : ℕ) (work : List ℕ) (j : ℕ) : Type 0 where
  pub low : 1 ≤ j
  pub high : j ≤ m
  pub m-bound : m ≤ 4096
  pub f-bound : f ≤ 1048576
  pub long : 8 * m + 4 * f + 1024 ≤ length work

-- ---- the children of column j

-- the children of column j, as the work table lists them
abbrev pub children_in : (work : List ℕ) → (m j : ℕ) → List ℕ
children_in w m j = chain (region w (child_next m) m) (cell w (child_head m) (j - 1))

-- the stashed rows of column c but its first
abbrev pub stashed : (work : List ℕ) → (m f c : ℕ) → List ℕ
stashed w m f c = region w (row_stash m f + cell w (stash_start m) (c - 1) + 1) (cell w (stash_start m) c - cell w (stash_start m) (c - 1) - 1)

-- column c has rows in the stash
pub record Stashed (work : List ℕ) (m f c : ℕ) : Type 0 where
  pub some : cell work (stash_start m) (c - 1) < cell work (stash_start m) c
  pub short : cell work (stash_start m) c ≤ cell work (stash_start m) (c - 1) + m
  pub within : cell work (stash_start m) c ≤ f
  pub rows_in : WithinRows m (stashed work m f c)

-- the list of j's children ends, the rows of each stand in the stash, and 32 bits hold the counters
pub record CanTallyChildren (work : List ℕ) (m f j : ℕ) : Type 0 where
  pub sizes : Places m f work j
  pub linked : Linked (region work (child_next m) m) (cell work (child_head m) (j - 1)) (children_in work m j)
  pub each : (c : ℕ) → 1 ≤ times c (children_in work m j) → Stashed work m f c
  pub room : (i : ℕ) → i < m → get_or work i 0 < 1073741824

-- ---- the book columns that start at row j

-- the ids whose column starts at row j, as the work table lists them
abbrev pub starting_in : (work : List ℕ) → (m f n c j : ℕ) → List ℕ
starting_in w m f n c j = chain (region w (column_next m f c) n) (cell w (column_head m) (j - 1))

-- the list of the ids that start at j ends, each has at most 256 rows, all of 1 to m, and 32 bits hold the counters
pub record CanTallyColumns (heads rows next work : List ℕ) (m f j : ℕ) : Type 0 where
  pub sizes : Places m f work j
  -- ids and book records: loose bounds above document 01's 16,384 and 262,144, which only keep counts within 32 bits
  pub n-bound : length heads ≤ 200000
  pub c-bound : length next ≤ 4194304
  pub table-long : column_next m f (length next) + length heads ≤ length work
  pub linked : Linked (region work (column_next m f (length next)) (length heads)) (cell work (column_head m) (j - 1)) (starting_in work m f (length heads) (length next) j)
  pub each : (i : ℕ) → 1 ≤ times i (starting_in work m f (length heads) (length next) j) → CanCopy heads rows next i 256
  pub rows_in : (i : ℕ) → 1 ≤ times i (starting_in work m f (length heads) (length next) j) → WithinRows m (booked_rows heads rows next i)
  pub room : (i : ℕ) → i < m → get_or work i 0 < 2147483648

-- ---- all of it

-- all rows that column j is given: j, those of each child but its first, those of each book column that starts at j
abbrev pub given_in : (heads rows next work : List ℕ) → (m f j : ℕ) → List ℕ
given_in hs rs ns w m f j =
    j ∷ (gathered (stashed w m f) (children_in w m j) ++ gathered (booked_rows hs rs ns) (starting_in w m f (length hs) (length ns) j))

-- zero counters, and what counting the children and the book columns asks
pub record CanTallyAll (heads rows next work : List ℕ) (m f j : ℕ) : Type 0 where
  pub zero : IsZero work 0 m
  pub sizes : Places m f work j
  -- ids and book records: loose bounds above document 01's 16,384 and 262,144, which only keep counts within 32 bits
  pub n-bound : length heads ≤ 200000
  pub c-bound : length next ≤ 4194304
  pub table-long : column_next m f (length next) + length heads ≤ length work
  pub children : Linked (region work (child_next m) m) (cell work (child_head m) (j - 1)) (children_in work m j)
  pub stash : (c : ℕ) → 1 ≤ times c (children_in work m j) → Stashed work m f c
  pub starting : Linked (region work (column_next m f (length next)) (length heads)) (cell work (column_head m) (j - 1)) (starting_in work m f (length heads) (length next) j)
  pub copied : (i : ℕ) → 1 ≤ times i (starting_in work m f (length heads) (length next) j) → CanCopy heads rows next i 256
  pub rows_in : (i : ℕ) → 1 ≤ times i (starting_in work m f (length heads) (length next) j) → WithinRows m (booked_rows heads rows next i)
