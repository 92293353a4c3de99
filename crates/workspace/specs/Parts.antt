-- A place of the work table that holds two numbers: a lower part, below 8,192, so that a row or a column fits, and an upper part, which counts 8,192 times.
-- Assumes nothing: these are definitions.
use Rattle.std.specs.Prelude.{ℕ, ◌/◌, ◌%◌}

-- by which the upper part of a place counts; a lower part is below it
abbrev pub upper_weight : ℕ
upper_weight = 8192

-- the lower part of a place
abbrev pub lower_part : (place : ℕ) → ℕ
lower_part x = x % upper_weight

-- the upper part of a place
abbrev pub upper_part : (place : ℕ) → ℕ
upper_part x = x / upper_weight
