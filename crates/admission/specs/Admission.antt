-- What is found before a call is answered: number 1 to 6, and the work table by then; when tables are usable without looking. A change brings the test of
-- its own lists, a question has none. Assumes nothing: these are definitions.
use Rattle.std.specs.Prelude.{◌≡◌, Bool, true, List, ℕ, ◌≤◌, length}
use Rattle.lists.specs.Lists.{pick}
use Rattle.workspace.specs.Regions.{IsZero, zero_first}
use Rattle.tables.specs.Tables.{Tables, Sizes, State, long_enough, is_sound}
use Rattle.calls.specs.Refusals.{Refusal, accepted, is_accepted, or_else, unless, bounds, sizes_refusal, work_for, early_refusal}

-- 1 to 6; lists: those of a change are long enough
abbrev pub admission : State → Tables → (work : List ℕ) → (lists : Bool) → Refusal
admission s t w z = or_else (early_refusal s.sizes true t w z) (unless (is_sound s t) 6 0)

-- "from check 6 on, the first W work places are zero"
pub record Admitted (s : State) (t : Tables) (work : List ℕ) (lists : Bool) (number : ℕ) (after : List ℕ) : Type 0 where
  pub found : number ≡ (admission s t work lists).number
  pub left : after ≡ pick (is_accepted (early_refusal s.sizes true t work lists)) (zero_first (work_for s.sizes) work) work

-- 1 to 5 are passed: sizes in range, tables and work table long enough for them
pub record HasPlaces (l : Sizes) (t : Tables) (work : List ℕ) : Type 0 where
  pub sizes : sizes_refusal bounds l ≡ accepted
  pub long : long_enough l t ≡ true
  pub room : work_for l ≤ length work

-- sizes in range, tables long enough and sound: a question needs no check
pub record Usable (s : State) (t : Tables) : Type 0 where
  pub sizes : sizes_refusal bounds s.sizes ≡ accepted
  pub long : long_enough s.sizes t ≡ true
  pub sound : is_sound s t ≡ true

-- the same with a work table whose first W places are zero: for a question that marks columns in it
pub record CanUse (s : State) (t : Tables) (work : List ℕ) : Type 0 where
  pub usable : Usable s t
  pub room : work_for s.sizes ≤ length work
  pub zero : IsZero work 0 (work_for s.sizes)
