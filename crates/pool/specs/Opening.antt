-- A pool as it is opened: the first records are chains of one, the rest "rise" in the free chain. Assumes nothing: these are definitions.
use Rattle.std.specs.Prelude.{List, [], ◌∷◌, ◌++◌, ℕ, suc, ◌+◌, ◌-◌, ltb, replicate}
use Rattle.lists.specs.Lists.{pick, up_from}

-- the nexts of the free records of a pool of k, the first of which is number used + 1: each has the one after it, the last 0
abbrev pub free_nexts : (used k : ℕ) → List ℕ
free_nexts a k = pick (ltb a k) (up_from (a + 2) (k - a - 1) ++ (0 ∷ [])) []

-- the head of the free chain: the first record past the used ones, or 0 if all are used
abbrev pub free_head : (used k : ℕ) → ℕ
free_head a k = pick (ltb a k) (suc a) 0

-- all nexts: used records each end a chain
abbrev pub opened_nexts : (used k : ℕ) → List ℕ
opened_nexts a k = replicate a 0 ++ free_nexts a k
