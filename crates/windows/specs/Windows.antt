-- Windows of booked columns: two minutes for each id in one table of 2n places, the first minutes of ids 1 to n, then the second minutes. Which ids count at a
-- minute. Assumes nothing: these are definitions.
use Rattle.std.specs.Prelude.{Bool, ◌&&◌, not, List, ℕ, ◌+◌}
use Rattle.lists.specs.Lists.{at}
use Rattle.symbolic.specs.Columns.{is_inside}

-- whether an id, of n, counts at a minute
abbrev pub counts_at : (windows : List ℕ) → (n minute id : ℕ) → Bool
counts_at w n t i = is_inside (at w i) (at w (n + i)) t

-- whether an id counts at one minute and not at another
abbrev pub moves_from : (windows : List ℕ) → (n minute other id : ℕ) → Bool
moves_from w n t u i = counts_at w n t i && not (counts_at w n u i)

-- whether an id counts at both
abbrev pub stays_between : (windows : List ℕ) → (n minute other id : ℕ) → Bool
stays_between w n t u i = counts_at w n t i && counts_at w n u i
