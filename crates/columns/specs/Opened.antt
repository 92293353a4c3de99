-- Fresh stored columns, within their sizes: "At opening column j has record j, and the free chains rise." tables/specs/Opening.antt has them with the
-- places beyond. Assumes nothing: these are definitions.
use Rattle.std.specs.Prelude.{◌≡◌, List, ◌++◌, ℕ, ◌-◌, ◌≤◌, ◌<◌, length, replicate}
use Rattle.lists.specs.Lists.{up_from}
use Rattle.pool.specs.Opening.{opened_nexts, free_head}

-- rows 1 to m, then 0
abbrev pub opened_rows : (m f : ℕ) → List ℕ
opened_rows m f = up_from 1 m ++ replicate (f - m) 0

-- m ones, then 0
abbrev pub opened_counts : (m f : ℕ) → List ℕ
opened_counts m f = replicate m 1 ++ replicate (f - m) 0

-- a parent for each head, a row and a multiplicity for each record, a record for each head, and numbers that 16 and 32 bits hold
pub record CanOpen (heads parents rows counts next : List ℕ) : Type 0 where
  pub parents-long : length parents ≡ length heads
  pub rows_long : length rows ≡ length next
  pub counts-long : length counts ≡ length next
  pub enough : length heads ≤ length next
  pub rows-narrow : length heads < 65536
  pub records-narrow : length next < 4294967295

-- the tables of L that an opening leaves: column j is record j alone, every parent is 0, and the free chain rises
pub record Opened (m f : ℕ) (heads parents rows counts next : List ℕ) (free : ℕ) : Type 0 where
  pub heads-are : heads ≡ up_from 1 m
  pub parents-are : parents ≡ replicate m 0
  pub rows_are : rows ≡ opened_rows m f
  pub counts-are : counts ≡ opened_counts m f
  pub next-is : next ≡ opened_nexts m f
  pub free-is : free ≡ free_head m f
