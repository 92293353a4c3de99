-- Where the rows of each column of a batch stand in the list of "the rows of all columns one after another", and the column at a place. Places are
-- from 0: position p is place p − 1. That these are the columns of `batch_of`: proofs/Offsets.antt.
-- Assumes nothing: these are definitions.
use Rattle.std.specs.Prelude.{List, [], ◌∷◌, ℕ, zero, suc, ◌+◌, get_or, take, drop}
use Rattle.symbolic.specs.Columns.{Column, column_with}

-- how many rows come before those of the column at place k
unfoldable pub offset_of : (counts : List ℕ) → (k : ℕ) → ℕ
offset_of [] k = 0
offset_of (n ∷ ns) zero = 0
offset_of (n ∷ ns) (suc k) = n + offset_of ns k

-- the column at place k
abbrev pub column_lent : (ids counts rows : List ℕ) → (k : ℕ) → Column
column_lent is ns rs k = column_with (get_or is k 0) (take (get_or ns k 0) (drop (offset_of ns k) rs))
