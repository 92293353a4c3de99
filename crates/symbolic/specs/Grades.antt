-- The grade of a change's entries, and the limits that it is read from: document 02's "three limits, the first entries of grades 2, 3 and 4".
-- Assumes nothing: these are definitions.
use Rattle.std.specs.Prelude.{Bool, ◌&&◌, ℕ, suc, ◌+◌, ltb, leb, eqb}
use Rattle.lists.specs.Lists.{pick, one}

-- "the first entries of grades 2, 3 and 4"
pub record Limits : Type 0 where
  pub grade2 : ℕ
  pub grade3 : ℕ
  pub grade4 : ℕ

-- three limits as one
abbrev pub limits_of : (grade2 grade3 grade4 : ℕ) → Limits
limits_of a b c = record { grade2 = a; grade3 = b; grade4 = c }

-- "The first must be at least 2 and each must exceed the one before"
abbrev pub are_limits : Limits → Bool
are_limits g = leb 2 g.grade2 && ltb g.grade2 g.grade3 && ltb g.grade3 g.grade4

-- "the old ones": document 01's "Grade 1 is for 1 to 255 entries, 2 for 256 to 4,095, 3 for 4,096 to 65,535, 4 for more"
abbrev pub old_limits : Limits
old_limits = limits_of 256 4096 65536

-- the limits that an opening gets for those it asks: "Three zeros mean the old ones, which the factor then keeps"
abbrev pub limits_for : Limits → Limits
limits_for g = pick (eqb g.grade2 0 && eqb g.grade3 0 && eqb g.grade4 0) old_limits g

-- how many limits the entries reach
abbrev pub reached : Limits → (entries : ℕ) → ℕ
reached g n = one (leb g.grade2 n) + one (leb g.grade3 n) + one (leb g.grade4 n)

-- "every grade is read from them": one more than the limits that the entries reach; 0 for no entry
abbrev pub grade_of : Limits → (entries : ℕ) → ℕ
grade_of g n = pick (eqb n 0) 0 (suc (reached g n))
