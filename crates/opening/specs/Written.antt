-- What an opening writes, part by part: the tables of L, those of the book, all of them with the windows and the work table. tables/specs/Opening.antt has them as one.
-- Assumes nothing: these are definitions.
use Rattle.std.specs.Prelude.{◌≡◌, List, ℕ, ◌≤◌, ◌<◌, length, replicate}
use Rattle.lists.specs.Lists.{over, up_from}
use Rattle.workspace.specs.Regions.{zero_first}
use Rattle.pool.specs.Opening.{opened_nexts, free_head}
use Rattle.tables.specs.Tables.{Tables, Sizes}
use Rattle.tables.specs.Opening.{opened_tables}
use Rattle.columns.specs.Opened.{opened_rows, opened_counts}
use Rattle.calls.specs.Refusals.{work_for}

-- tables of L with places for m columns and f records
pub record HoldColumns (m f : ℕ) (heads parents rows counts next : List ℕ) : Type 0 where
  pub heads-long : m ≤ length heads
  pub parents-long : m ≤ length parents
  pub rows_long : f ≤ length rows
  pub counts-long : f ≤ length counts
  pub next-long : f ≤ length next
  pub enough : m ≤ f
  pub rows-narrow : m < 65536
  pub records-narrow : f < 4294967295

-- the tables of L hold m fresh columns and the free chain; places beyond the sizes are as lent
pub record ColumnsWritten (m f : ℕ) (heads₀ parents₀ rows₀ counts₀ next₀ heads parents rows counts next : List ℕ) (free : ℕ) : Type 0 where
  pub heads-are : heads ≡ over (up_from 1 m) heads₀
  pub parents-are : parents ≡ over (replicate m 0) parents₀
  pub rows_are : rows ≡ over (opened_rows m f) rows₀
  pub counts-are : counts ≡ over (opened_counts m f) counts₀
  pub next-is : next ≡ over (opened_nexts m f) next₀
  pub free-is : free ≡ free_head m f

-- tables of the book with places for n ids and c records
pub record HoldBook (n c : ℕ) (heads rows next : List ℕ) : Type 0 where
  pub heads-long : n ≤ length heads
  pub rows_long : c ≤ length rows
  pub next-long : c ≤ length next
  pub records-narrow : c < 4294967295

-- the tables of the book hold no column and the free chain; places beyond the sizes are as lent
pub record BookWritten (n c : ℕ) (heads₀ rows₀ next₀ heads rows next : List ℕ) (free : ℕ) : Type 0 where
  pub heads-are : heads ≡ over (replicate n 0) heads₀
  pub rows_are : rows ≡ over (replicate c 0) rows₀
  pub next-is : next ≡ over (opened_nexts 0 c) next₀
  pub free-is : free ≡ free_head 0 c

-- all tables, the work table and the two free heads after an opening
pub record OpeningWritten (l : Sizes) (t₀ : Tables) (work₀ : List ℕ) (t : Tables) (work : List ℕ) (free book_free : ℕ) : Type 0 where
  pub tables : t ≡ opened_tables l t₀
  pub left : work ≡ zero_first (work_for l) work₀
  pub free-is : free ≡ free_head l.m l.f
  pub book-free-is : book_free ≡ free_head 0 l.c
