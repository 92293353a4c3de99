-- Regions of the work table, by start and length: what stands in one, when two are apart, when one is zero, what a change leaves, a region cleared.
-- The whole table is lent, so every contract over it speaks of regions, never of take and drop. Laws: proofs/Regions.antt, by the same groups.
-- Assumes nothing: these are definitions.
use Rattle.std.specs.Prelude.{◌≡◌, ◌⊎◌, List, ◌++◌, ℕ, ◌+◌, ◌≤◌, ◌<◌, length, get_or, take, drop, replicate}
use Rattle.lists.specs.Lists.{over}

-- place i of the region that starts at a
abbrev pub cell : (work : List ℕ) → (a i : ℕ) → ℕ
cell w a i = get_or w (a + i) 0

-- the n places from a on, as a list
abbrev pub region : (work : List ℕ) → (a n : ℕ) → List ℕ
region w a n = take n (drop a w)

-- place k is none of the n places from a on
abbrev pub Outside : (a n k : ℕ) → Type 0
Outside a n k = (k < a) ⊎ (a + n ≤ k)

-- the n places from a on and the l places from b on share none
abbrev pub Apart : (a n b l : ℕ) → Type 0
Apart a n b l = (a + n ≤ b) ⊎ (b + l ≤ a)

-- the n places from a on are zero
abbrev pub IsZero : (work : List ℕ) → (a n : ℕ) → Type 0
IsZero w a n = (i : ℕ) → i < n → cell w a i ≡ 0

-- after differs from before at most in the n places from a on
pub record OnlyIn (a n : ℕ) (before after : List ℕ) : Type 0 where
  pub same_length : length after ≡ length before
  pub outside : (k : ℕ) → Outside a n k → get_or after k 0 ≡ get_or before k 0

-- the n places from a on set to zero
abbrev pub cleared : (work : List ℕ) → (a n : ℕ) → List ℕ
cleared w a n = take a w ++ (replicate n 0 ++ drop (a + n) w)

-- "the first W work places are zero", the rest as lent
abbrev pub zero_first : (n : ℕ) → (work : List ℕ) → List ℕ
zero_first n w = over (replicate n 0) w
