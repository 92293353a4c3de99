-- The plan that takes a column's multiplicities from old to new: one entry for each row that changes, rising, and nothing for the others.
-- Assumes nothing: these are definitions.
use Rattle.std.specs.Prelude.{List, [], ◌∷◌, ℕ, suc, eqb}
use Rattle.lists.specs.Lists.{pick}
use Rattle.workspace.specs.Planned.{packed, changed_kind, new_kind, gone_kind}

-- the kind of a change
abbrev pub kind_for : (old new : ℕ) → ℕ
kind_for n n' = pick (eqb n 0) new_kind (pick (eqb n' 0) gone_kind changed_kind)

-- the plan for the rows from one on
unfoldable pub plan_from : (row : ℕ) → (old new : List ℕ) → List ℕ
plan_from i [] ns' = []
plan_from i (n ∷ ns) [] = []
plan_from i (n ∷ ns) (n' ∷ ns') = pick (eqb n n') (plan_from (suc i) ns ns') (packed i n' (kind_for n n') ∷ plan_from (suc i) ns ns')
