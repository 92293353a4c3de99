-- All records of the columns of L, and all parents, kept in the work table: 2F places for records, F for rows with their multiplicities and F for nexts; m places
-- for parents, whose upper parts may come to hold other things. What was kept comes back exactly, whatever the tables hold by then. Laws: proofs/Kept.antt.
-- Assumes nothing: these are definitions.
use Rattle.std.specs.Prelude.{◌≡◌, List, [], ◌∷◌, map, ℕ, ◌+◌, ◌*◌, ◌≤◌, ◌<◌, length, get_or}
use Rattle.workspace.specs.Regions.{cell, region, OnlyIn}
use Rattle.workspace.specs.Parts.{upper_weight, lower_part, upper_part}

-- ---- row and multiplicity in one place

-- the row is the lower part, the multiplicity the upper part
abbrev pub paired : (row multiplicity : ℕ) → ℕ
paired i n = i + upper_weight * n

-- the row in such a place
abbrev pub paired_row : (place : ℕ) → ℕ
paired_row x = lower_part x

-- the multiplicity in such a place
abbrev pub paired_count : (place : ℕ) → ℕ
paired_count x = upper_part x

-- rows with their multiplicities, in their order
unfoldable pub all_paired : (rows counts : List ℕ) → List ℕ
all_paired [] ns = []
all_paired (i ∷ is) [] = []
all_paired (i ∷ is) (n ∷ ns) = paired i n ∷ all_paired is ns

-- the tables' multiplicities, of 16 bits, are below this bound; an upper part has room for 19 bits
abbrev pub count_bound : ℕ
count_bound = 65536

-- ---- what can be kept

-- records whose rows fit the lower part of a place, and whose multiplicities are below the bound
pub record CanPair (rows counts next : List ℕ) : Type 0 where
  pub rows_long : length rows ≡ length next
  pub counts-long : length counts ≡ length next
  pub rows-small : (k : ℕ) → get_or rows k 0 < upper_weight
  pub counts-small : (k : ℕ) → get_or counts k 0 < count_bound

-- parents, which are rows too, and m places for them from a on
pub record CanSaveParents (parents work : List ℕ) (a : ℕ) : Type 0 where
  pub small : (k : ℕ) → get_or parents k 0 < upper_weight
  pub inside : a + length parents ≤ length work

-- records that can be kept, and 2F places for them from a on
pub record CanSaveRecords (rows counts next work : List ℕ) (a : ℕ) : Type 0 where
  pub can : CanPair rows counts next
  pub inside : a + 2 * length next ≤ length work

-- ---- what is kept, and where

-- the 2F places from a on hold all records
pub record RecordsKept (work : List ℕ) (a : ℕ) (rows counts next : List ℕ) : Type 0 where
  pub inside : a + 2 * length next ≤ length work
  pub pairs : region work a (length next) ≡ all_paired rows counts
  pub nexts : region work (a + length next) (length next) ≡ next

-- the m places from a on hold all parents in their lower parts
pub record ParentsKept (work : List ℕ) (a : ℕ) (parents : List ℕ) : Type 0 where
  pub inside : a + length parents ≤ length work
  pub parents-are : (k : ℕ) → k < length parents → paired_row (cell work a k) ≡ get_or parents k 0

-- ---- saved

-- after the call the records are kept, and nothing else in the work table changed
pub record RecordsSaved (rows counts next before after : List ℕ) (a : ℕ) : Type 0 where
  pub kept : RecordsKept after a rows counts next
  pub only : OnlyIn a (2 * length next) before after

-- after the call the parents are kept, with nothing in the upper parts of their places, and nothing else in the work table changed
pub record ParentsSaved (parents before after : List ℕ) (a : ℕ) : Type 0 where
  pub kept : ParentsKept after a parents
  pub low : (k : ℕ) → k < length parents → cell after a k < upper_weight
  pub only : OnlyIn a (length parents) before after

-- ---- brought back

-- places that hold records of tables that are as long as these three, with multiplicities below the bound
pub record CanUnpair (rows counts next work : List ℕ) (a : ℕ) : Type 0 where
  pub inside : a + 2 * length next ≤ length work
  pub rows_long : length rows ≡ length next
  pub counts-long : length counts ≡ length next
  pub counts-small : (k : ℕ) → k < length next → paired_count (cell work a k) < count_bound

-- the three tables are what the places from a on say
pub record Unpaired (rows counts next work : List ℕ) (a : ℕ) : Type 0 where
  pub rows_are : rows ≡ map paired_row (region work a (length next))
  pub counts-are : counts ≡ map paired_count (region work a (length next))
  pub next-are : next ≡ region work (a + length next) (length next)

-- the parents are what the lower parts of the places from a on say
abbrev pub Taken : (parents work : List ℕ) (a : ℕ) → Type 0
Taken ps w a = ps ≡ map paired_row (region w a (length ps))

-- three tables as long as those marked ₀, which are kept
pub record CanRestore (rows counts next work : List ℕ) (a : ℕ) (rows₀ counts₀ next₀ : List ℕ) : Type 0 where
  pub can : CanPair rows₀ counts₀ next₀
  pub kept : RecordsKept work a rows₀ counts₀ next₀
  pub rows_long : length rows ≡ length rows₀
  pub counts-long : length counts ≡ length counts₀
  pub next-long : length next ≡ length next₀

-- three tables are those marked ₀
pub record Restored (rows₀ counts₀ next₀ rows counts next : List ℕ) : Type 0 where
  pub rows_are : rows ≡ rows₀
  pub counts-are : counts ≡ counts₀
  pub next-are : next ≡ next₀
