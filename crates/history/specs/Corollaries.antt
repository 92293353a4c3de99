-- Document 03's statements over these definitions, each a consequence of specs/Statements.antt and of equation 3.1: `KeepsPattern` is demand 3's first
-- half with the numbers of any next call, `AltersOnly` its second half with what the tables hold for the register, `PatternsAre` equation 3.1 as a test.
-- Instances.antt has the fourth. Assumes nothing: these are definitions.
use Rattle.std.specs.Prelude.{◌≡◌, ◌⊎◌, ◌≢◌, ◌↔◌, Bool, true, false, ◌&&◌, ◌||◌, not, List, ℕ, ◌≤◌, ◌<◌, eqb}
use Rattle.lists.specs.Lists.{Mem, all, any, among, up_from}
use Rattle.symbolic.specs.Columns.{Column, smallest, holds, fits_rows, Register, live}
use Rattle.symbolic.specs.Factor.{factor_for, in_pattern, is_child}
use Rattle.symbolic.specs.Chains.{ChainTo}
use Rattle.tables.specs.Stored.{holds_from}
use Rattle.tables.specs.Tables.{stored_in, is_sound}
use Rattle.tables.specs.Stays.{ColumnStays}
use Rattle.calls.specs.Calls.{Change, changing, Call, is_opening, is_change}
use Rattle.calls.specs.Changes.{touched_by}
use Rattle.calls.specs.Numbers.{call_refusal}
use Rattle.calls.specs.Steps.{World, booked_in, Transition}
use Rattle.history.specs.Runs.{Event, Run, Plain, plain_after, Begun}
use Rattle.history.specs.Statements.{Stands}

-- sound tables that hold the register's columns and its factor at its clock, with the chains of rows, and the numbers of any next call
pub record Keeps (p : Plain) (v : World) : Type 0 where
  pub sound : is_sound v.state v.tables ≡ true
  pub clock : v.state.clock ≡ p.register.clock
  pub columns : (c : Column) → Mem c (booked_in v).columns ↔ Mem c p.register.columns
  pub means : holds_from (stored_in v.state v.tables) (factor_for p.register) 1 p.sizes.m ≡ true
  pub chains : (i j : ℕ) → 1 ≤ j → j < i → i ≤ p.register.m → Stands v i j ↔ ChainTo p.register.m (live p.register) i j
  pub refusals : (k : Call) → call_refusal v.state.sizes (booked_in v) k ≡ call_refusal p.sizes p.register k

-- after every list of calls from an accepted opening, record and tables are those of the register by then
abbrev pub KeepsPattern : Type 0
KeepsPattern = (u : World) (p : Plain) (es : List Event) (v : World) → Begun u p → Run u es v → Keeps (plain_after p es) v

-- a call that is neither an opening nor an accepted change alters no factor column; an accepted change alters only those it reports
abbrev pub AltersOnly : Type 0
AltersOnly =
    (u : World) (p : Plain) (es : List Event) (v : World) (e : Event) (w : World) (j : ℕ) → Begun u p → Run u es v →
    Transition v e.call e.answer e.left w → is_opening e.call.entry ≡ false → 1 ≤ j → j ≤ v.state.sizes.m →
    ((c : Change) → e.call.entry ≡ changing c → e.answer.number ≡ 0 → among j (touched_by (booked_in v) c) ≡ false →
    ColumnStays (stored_in v.state v.tables) (stored_in w.state w.tables) j) ×
    ((e.answer.number ≢ 0) ⊎ (is_change e.call.entry ≡ false) → ColumnStays (stored_in v.state v.tables) (stored_in w.state w.tables) j)

-- "of L_c without c for every child c of j": row i comes from child c
abbrev pub from_child : Register → (i j c : ℕ) → Bool
from_child r i j c = is_child (factor_for r) c j && in_pattern (factor_for r) i c && not (eqb i c)

-- "of every live column whose smallest row is j": column c is one and holds i
abbrev pub starts_here : (i j : ℕ) → Column → Bool
starts_here i j c = eqb (smallest c) j && holds c i

-- row i is in the union of {j}, of the children's patterns without the child, and of the live columns that start at j
abbrev pub is_union : Register → (i j : ℕ) → Bool
is_union r i j = eqb i j || any (from_child r i j) (up_from 1 r.m) || any (starts_here i j) (live r)

-- equation 3.1: row i from j on is in L_j exactly if it is in that union
abbrev pub PatternsAre : Type 0
PatternsAre =
    (r : Register) (i j : ℕ) → all (fits_rows r.m) (live r) ≡ true → 1 ≤ j → j ≤ i → i ≤ r.m → in_pattern (factor_for r) i j ≡ is_union r i j
