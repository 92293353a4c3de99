-- The booked ids that a choice takes, and their columns, by rising id; the ids collected in groups. Assumes nothing: these are definitions.
use Rattle.std.specs.Prelude.{◌≡◌, Bool, ◌&&◌, List, [], ◌∷◌, ◌++◌, ◌⊎◌, ℕ, zero, suc, ◌+◌, ◌-◌, ◌*◌, ◌≤◌, length, take}
use Rattle.lists.specs.Lists.{pick}
use Rattle.symbolic.specs.Columns.{Column}
use Rattle.book.specs.Book.{Book, is_booked, column_for}

-- the booked ids that a choice takes, of so many ids from one on
unfoldable pub ids_from : (heads : List ℕ) → (choice : ℕ → Bool) → (id : ℕ) → ℕ → List ℕ
ids_from hs p i zero = []
ids_from hs p i (suc k) = pick (is_booked hs i && p i) (i ∷ ids_from hs p (suc i) k) (ids_from hs p (suc i) k)

-- the columns of the booked ids that a choice takes, of so many ids from one on
unfoldable pub chosen_from : Book → (choice : ℕ → Bool) → (id : ℕ) → ℕ → List Column
chosen_from b p i zero = []
chosen_from b p i (suc k) = pick (is_booked b.heads i && p i) (column_for b i ∷ chosen_from b p (suc i) k) (chosen_from b p (suc i) k)

-- all booked ids that a choice takes
abbrev pub chosen_ids : (heads : List ℕ) → (choice : ℕ → Bool) → List ℕ
chosen_ids hs p = ids_from hs p 1 (length hs)

-- the columns of all booked ids that a choice takes
abbrev pub chosen : Book → (choice : ℕ → Bool) → List Column
chosen b p = chosen_from b p 1 (length b.heads)

-- the booked ids that a choice takes from an id on
abbrev pub ids_on : (heads : List ℕ) → (choice : ℕ → Bool) → (id : ℕ) → List ℕ
ids_on hs p i = ids_from hs p i (length hs + 1 - i)

-- an id to go on from, two minutes for each id, and no more ids than document 01 allows
pub record CanCollect (heads windows : List ℕ) (first : ℕ) : Type 0 where
  pub low : 1 ≤ first
  pub high : first ≤ length heads + 1
  pub windows-long : 2 * length heads ≤ length windows
  pub few : length heads ≤ 16384

-- the next ids that a choice takes stand in the first places of a list; it is full, or there are no more
pub record Collected (heads : List ℕ) (choice : ℕ → Bool) (first : ℕ) (before after : List ℕ) (count next : ℕ) : Type 0 where
  pub same_length : length after ≡ length before
  pub count_fits : count ≤ length before
  pub low : first ≤ next
  pub high : next ≤ length heads + 1
  pub ids : ids_on heads choice first ≡ take count after ++ ids_on heads choice next
  pub full : (count ≡ length before) ⊎ (next ≡ length heads + 1)
