-- A planned entry in one place of the work table: row − 1 in 12 bits, multiplicity in 18 bits, kind in 2 bits, from the lowest bit up; packed by
-- weights and read by `/` and `%`, no masks. Laws: proofs/Planned.antt.
-- Assumes nothing: these are definitions.
use Rattle.std.specs.Prelude.{ℕ, ◌+◌, ◌*◌, ◌-◌, ◌/◌, ◌%◌, ◌≤◌, ◌<◌}
use Rattle.workspace.specs.declared.Kind.{Kind}
use Rattle.workspace.specs.declared.Kind.TheVariants.{Changed, New, Gone}

-- a planned entry of row, new multiplicity and kind, as one number
abbrev pub packed : (row multiplicity kind : ℕ) → ℕ
packed i n k = i - 1 + 4096 * n + 1073741824 * k

-- the row of a planned entry
abbrev pub row_of : (entry : ℕ) → ℕ
row_of x = x % 4096 + 1

-- the new multiplicity of a planned entry
abbrev pub multiplicity_of : (entry : ℕ) → ℕ
multiplicity_of x = x / 4096 % 262144

-- the kind of a planned entry
abbrev pub kind_of : (entry : ℕ) → ℕ
kind_of x = x / 1073741824

-- ---- kinds

-- the row stays, with another multiplicity
abbrev pub changed_kind : ℕ
changed_kind = 0

-- the row comes
abbrev pub new_kind : ℕ
new_kind = 1

-- the row goes
abbrev pub gone_kind : ℕ
gone_kind = 2

-- the number of a kind
abbrev pub kind_number : Kind → ℕ
kind_number Changed = changed_kind
kind_number New = new_kind
kind_number Gone = gone_kind

-- ---- what one place can hold

-- a row, a multiplicity and a kind that it can hold
pub record FitsEntry (row multiplicity kind : ℕ) : Type 0 where
  pub row_low : 1 ≤ row
  pub row-high : row ≤ 4096
  pub multiplicity-fits : multiplicity < 262144
  pub kind_fits : kind < 4
