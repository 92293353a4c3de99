-- What the listing program prints of an answer and of a whole factor, by the definitions of calls/ and listing_text/; then what the functions here ask and
-- promise: room for the longest lines (a number below 2^32 has at most 10 bytes, so a pair 22, a line of 64 entries 1,430, 64 lines 91,520).
-- Assumes nothing: these are definitions.
use Rattle.std.specs.Prelude.{◌≡◌, ◌⊎◌, List, [], ◌++◌, ℕ, zero, suc, ◌+◌, ◌*◌, ◌≤◌, eqb, take}
use Rattle.lists.specs.Lists.{pick}
use Rattle.symbolic.specs.Columns.{Register}
use Rattle.symbolic.specs.Factor.{factor_for, parent_of}
use Rattle.symbolic.specs.Grades.{limits_of}
use Rattle.tables.specs.Tables.{Tables, State, register_of, sizes_of}
use Rattle.calls.specs.Refusals.{is_accepted, bounds, sizes_refusal}
use Rattle.calls.specs.Questions.{column_list}
use Rattle.calls.specs.Steps.{Answer, refused_by, World}
use Rattle.admission.specs.Admission.{Usable}
use Rattle.listing_text.specs.Text.{ok_line, no_line, show_pairs, show_line, Written}

-- ---- what it prints

-- "It prints `ok touched entries grade` (zeros for open), or `no number position`"
abbrev pub answer_line : Answer → List ℕ
answer_line a = pick (eqb a.number 0) (ok_line a.touched a.entries a.grade) (no_line a.number a.position)

-- "show prints a line for each j: j, parent, then row:multiplicity pairs"
abbrev pub shown_line : Register → (j : ℕ) → List ℕ
shown_line r j = show_line j (parent_of (factor_for r) j) (column_list r j)

-- columns 1 to k
unfoldable pub shown_to : Register → (k : ℕ) → List ℕ
shown_to r zero = []
shown_to r (suc k) = shown_to r k ++ shown_line r (suc k)

-- all columns; sizes of 0 are refused, "`show` too"
abbrev pub shown_by : World → List ℕ
shown_by u =
    pick (is_accepted (sizes_refusal bounds u.state.sizes)) (shown_to (register_of u.state u.tables) u.state.sizes.m)
    (answer_line (refused_by (sizes_refusal bounds u.state.sizes)))

-- "Before an accepted open the sizes are 0", as all other numbers of the record
abbrev pub no_state : State
no_state = record { sizes = sizes_of 0 0 0 0; limits = limits_of 0 0 0; free = 0; book_free = 0; clock = 0 }

-- ---- what the functions ask and promise

-- entries in a list of two places each, and room for their pairs
pub record PairsRoom (room places at count : ℕ) : Type 0 where
  pub entries : 2 * count ≤ places
  pub fits : at + 22 * count ≤ room

-- the pairs of the entries, of at most 22 bytes each
pub record PairsWritten (out₀ entries : List ℕ) (at count : ℕ) (out : List ℕ) (next : ℕ) : Type 0 where
  pub pairs : Written out₀ at (show_pairs (take (2 * count) entries)) out next
  pub short : next ≤ at + 22 * count

-- a column of usable tables, places for its entries, and room for its line
pub record CanShow (s : State) (t : Tables) (places room : ℕ) (j at : ℕ) : Type 0 where
  pub usable : Usable s t
  pub few : s.sizes.m ≤ 64
  pub low : 1 ≤ j
  pub high : j ≤ s.sizes.m
  pub entries : 128 ≤ places
  pub fits : at + 1430 ≤ room

-- the line of a column, of at most 1,430 bytes
pub record LineWritten (s : State) (t : Tables) (out₀ : List ℕ) (j at : ℕ) (out : List ℕ) (next : ℕ) : Type 0 where
  pub line : Written out₀ at (shown_line (register_of s t) j) out next
  pub short : next ≤ at + 1430

-- no factor is open, or one with usable tables; room for all lines
pub record CanShowAll (s : State) (t : Tables) (places room : ℕ) : Type 0 where
  pub usable : (s ≡ no_state) ⊎ Usable s t
  pub few : s.sizes.m ≤ 64
  pub entries : 128 ≤ places
  pub fits : 91520 ≤ room
