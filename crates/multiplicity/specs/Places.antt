-- The multiplicities of records in a table of 16-bit places: one place for each record, or, in wide tables, two, the lower half first, which on
-- x86-64 are the bytes of one number of 32 bits. Contracts speak of the numbers alone. Laws: proofs/Places.antt.
-- Assumes nothing: these are definitions.
use Rattle.std.specs.Prelude.{Bool, true, false, List, [], ◌∷◌, ℕ, ◌+◌, ◌*◌}

-- places two by two, each pair a lower and an upper half; a last place without a partner is none's
unfoldable pub pairs : (places : List ℕ) → List ℕ
pairs [] = []
pairs (x ∷ []) = []
pairs (x ∷ (y ∷ zs)) = (x + 65536 * y) ∷ pairs zs

-- the multiplicities that some places hold
abbrev pub multiplicities : (wide : Bool) (places : List ℕ) → List ℕ
multiplicities false xs = xs
multiplicities true xs = pairs xs

-- one more than the largest multiplicity that is stored: 16 bits, and in wide tables 18, which plans and snapshots have for it; "none can pass 204,096"
abbrev pub count_end : (wide : Bool) → ℕ
count_end false = 65536
count_end true = 262144
