-- The room that an answer asks for, by the length of its list alone. The number 18 is in calls, Refusals.
-- Assumes nothing: this is a definition.
use Rattle.std.specs.Prelude.{◌≡◌, Bool, not, List, ℕ, length}
use Rattle.calls.specs.Refusals.{is_accepted, room_for}

-- an answer is refused by 18, for every list of that length
abbrev pub NoRoom : (len place places : ℕ) → (answer : Bool) → Type 0
NoRoom len p n a = (xs : List ℕ) → length xs ≡ len → a ≡ not (is_accepted (room_for xs p n))
