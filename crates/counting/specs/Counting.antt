-- What a column of L is given, counted row by row: numbers listed by a value, the rows that they bring, rows that stand in the work table.
-- Laws: proofs/Numbers.antt, proofs/Tallies.antt. Assumes nothing: these are definitions.
use Rattle.std.specs.Prelude.{◌≡◌, List, [], ◌∷◌, ◌++◌, ℕ, zero, suc, ◌+◌, ◌*◌, ◌-◌, ◌≤◌, ◌<◌, eqb, length, get_or, set}
use Rattle.lists.specs.Lists.{pick, at, sum_of}
use Rattle.workspace.specs.Regions.{cell, region, Outside, IsZero}
use Rattle.pool.specs.Chains.{Linked}
use Rattle.symbolic.specs.Columns.{smallest}
use Rattle.book.specs.Book.{Book, tables_of, column_for}
use Rattle.book.specs.Entries.{HasHead}
use Rattle.windows.specs.Windows.{counts_at}

-- ---- numbers by a value

-- the numbers n down to 1 whose value is v
unfoldable pub numbered : (value : ℕ → ℕ) → (v n : ℕ) → List ℕ
numbered f v zero = []
numbered f v (suc n) = pick (eqb (f (suc n)) v) (suc n ∷ numbered f v n) (numbered f v n)

-- what each of some numbers brings, one after another
unfoldable pub gathered : (ℕ → List ℕ) → (numbers : List ℕ) → List ℕ
gathered g [] = []
gathered g (c ∷ cs) = g c ++ gathered g cs

-- the sum of all counters
abbrev pub total : List ℕ → ℕ
total ns = sum_of (λ (n : ℕ). n) ns

-- ---- lists in the work table: heads from place a on, nexts from place b on

-- number i at the front of the list of v; value 0 has no list
abbrev pub linked_in : (work : List ℕ) → (a b v i : ℕ) → List ℕ
linked_in w a b v i = pick (eqb v 0) w (set (set w (b + (i - 1)) (cell w a (v - 1))) (a + (v - 1)) i)

-- the work table has a place for the head of v's list and one for the next of number i
pub record CanLink (work : List ℕ) (a b v i : ℕ) : Type 0 where
  pub low : 1 ≤ i
  pub head_in : 1 ≤ v → a + (v - 1) < length work
  pub next-in : b + (i - 1) < length work

-- each of the values 1 to m has the list of its numbers among 1 to n
abbrev pub ListedIn : (work : List ℕ) → (a m b l : ℕ) → (value : ℕ → ℕ) → (n : ℕ) → Type 0
ListedIn w a m b l f n = (v : ℕ) → 1 ≤ v → v ≤ m → Linked (region w b l) (cell w a (v - 1)) (numbered f v n)

-- after differs from before at most in two regions
pub record OnlyTwo (a n b l : ℕ) (before after : List ℕ) : Type 0 where
  pub same_length : length after ≡ length before
  pub outside : (k : ℕ) → Outside a n k → Outside b l k → get_or after k 0 ≡ get_or before k 0

-- where the column under an id starts: its smallest row, 0 where it has none
abbrev pub start_in : Book → (id : ℕ) → ℕ
start_in b i = smallest (column_for b i)

-- where it starts at a minute: nowhere, row 0, if it is outside its window
abbrev pub start_at : Book → (windows : List ℕ) → (minute id : ℕ) → ℕ
start_at b w t i = pick (counts_at w (length b.heads) t i) (start_in b i) 0

-- an id whose head is read, and two minutes for each id
pub record CanStart (heads rows windows : List ℕ) (id : ℕ) : Type 0 where
  pub has : HasHead heads rows id
  pub few : length heads ≤ 200000
  pub windows-long : 2 * length heads ≤ length windows

-- a row is where the column under an id starts at a minute, whatever the nexts
abbrev pub StartsInside : (heads rows windows : List ℕ) → (minute id row : ℕ) → Type 0
StartsInside hs rs w t i r = (next : List ℕ) → length rs ≡ length next → r ≡ start_at (tables_of hs rs next) w t i

-- ids to be listed by where they start; nexts are not read, any that suit will do
pub record CanList (heads rows windows work : List ℕ) (minute a m b : ℕ) : Type 0 where
  pub next : List ℕ
  pub sized : length rows ≡ length next
  -- of ids: a loose bound above document 01's 16,384
  pub few : length heads ≤ 200000
  pub windows-long : 2 * length heads ≤ length windows
  pub heads-in : (i : ℕ) → 1 ≤ i → i ≤ length heads → at heads i ≤ length rows
  pub rows_in : (i : ℕ) → 1 ≤ i → i ≤ length heads → start_at (tables_of heads rows next) windows minute i ≤ m
  pub apart : a + m ≤ b
  pub long : b + length heads ≤ length work
  pub empty : IsZero work a m

-- each row of 1 to m has the list of the ids whose column starts there at a minute, and only the two regions of these lists changed
pub record Listed (heads rows windows work₀ work : List ℕ) (minute a m b : ℕ) : Type 0 where
  pub only : OnlyTwo a m b (length heads) work₀ work
  pub lists : (next : List ℕ) → length rows ≡ length next →
      ListedIn work a m b (length heads) (start_at (tables_of heads rows next) windows minute) (length heads)

-- ---- counting rows that stand in the work table, whose first places are the counters

-- rows at places a to e - 1, with counters before them that have room
pub record CanTally (work : List ℕ) (a e : ℕ) : Type 0 where
  pub m : ℕ
  pub before : m ≤ a
  pub long : e ≤ length work
  pub rows_in : (k : ℕ) → a ≤ k → k < e → (1 ≤ get_or work k 0) × (get_or work k 0 ≤ m)
  pub room : (i : ℕ) → i < m → get_or work i 0 + (e - a) < 4294967296
