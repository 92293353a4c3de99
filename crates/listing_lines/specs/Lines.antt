-- A line that grows piece by piece. What it has so far stands at the front of a list; what is added are the bytes before the piece's first newline (10), and
-- no more than the list has places. Then the lines of a whole text. Laws: proofs/Lines.antt and proofs/Texts.antt. Assumes nothing: these are definitions.
use Rattle.std.specs.Prelude.{◌≡◌, Bool, true, false, Some, None, List, [], ◌∷◌, ◌++◌, ℕ, ◌+◌, ◌≤◌, eqb, length, take, drop}
use Rattle.lists.specs.Lists.{pick}
use Rattle.listing_lines.specs.declared.Taken.{Taken}

-- the bytes before the first newline
unfoldable pub before_newline : List ℕ → List ℕ
before_newline [] = []
before_newline (b ∷ bs) = pick (eqb b 10) [] (b ∷ before_newline bs)

-- whether there is a newline
unfoldable pub has_newline : List ℕ → Bool
has_newline [] = false
has_newline (b ∷ bs) = pick (eqb b 10) true (has_newline bs)

-- a place of the piece, and a line no longer than its list
pub record Growing (piece line : List ℕ) (place filled : ℕ) : Type 0 where
  pub within : place ≤ length piece
  pub fits : filled ≤ length line

-- the line with the bytes added, as many as there is room for; a newline is passed over
pub record Grown (piece line₀ : List ℕ) (place filled : ℕ) (line : List ℕ) (r : Taken) : Type 0 where
  pub line-is : take r.length line ≡ take (length line₀) (take filled line₀ ++ before_newline (drop place piece))
  pub fits : r.length ≤ length line₀
  pub after-is : r.after ≡ pick (has_newline (drop place piece)) (Some (place + length (before_newline (drop place piece)) + 1)) None

-- ---- the lines of a text

-- the line after the last newline, if it is not empty
abbrev pub last_line : (held : List ℕ) → List (List ℕ)
last_line [] = []
last_line (b ∷ bs) = (b ∷ bs) ∷ []

-- "A newline ends a line": the lines of a text, the first of them with the bytes held before it
unfoldable pub lines_from : (held text : List ℕ) → List (List ℕ)
lines_from h [] = last_line h
lines_from h (b ∷ bs) = pick (eqb b 10) (h ∷ lines_from [] bs) (lines_from (h ++ (b ∷ [])) bs)

-- all lines of a text: the last may lack its newline
abbrev pub lines_of : (text : List ℕ) → List (List ℕ)
lines_of t = lines_from [] t
