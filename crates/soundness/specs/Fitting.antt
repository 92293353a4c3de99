-- When a chain of records holds the rows that have a counter, each with its counter, rising: the test entry by entry, as a walk makes it. It is the
-- definition's pattern and multiplicities (proofs/Fitting.antt). Assumes nothing: these are definitions.
use Rattle.std.specs.Prelude.{Bool, true, ◌&&◌, not, List, [], ◌∷◌, ℕ, ltb, leb, eqb}
use Rattle.lists.specs.Lists.{at, put, values_at}
use Rattle.counting.specs.Counting.{total}

-- a row above the one before, within 1 to m, with its counter, which is not 0
abbrev pub entry_fits : (m : ℕ) → (counters : List ℕ) → (before row count : ℕ) → Bool
entry_fits m ns z x v = ltb z x && (leb x m && (not (eqb v 0) && eqb (at ns x) v))

-- each record fits, and takes its counter away
unfoldable pub passes : (rows counts : List ℕ) → (m : ℕ) → (counters : List ℕ) → (before : ℕ) → (records : List ℕ) → Bool
passes rs vs m ns z [] = true
passes rs vs m ns z (d ∷ ds) = entry_fits m ns z (at rs d) (at vs d) && passes rs vs m (put ns (at rs d) 0) (at rs d) ds

-- counters taken away
unfoldable pub struck : (counters rows : List ℕ) → List ℕ
struck ns [] = ns
struck ns (x ∷ xs) = struck (put ns x 0) xs

-- the records fit, and no counter is left
abbrev pub fits : (rows counts : List ℕ) → (m : ℕ) → (counters records : List ℕ) → Bool
fits rs vs m ns ds = passes rs vs m ns 0 ds && eqb (total (struck ns (values_at rs ds))) 0
