-- A reader's value: the tables that it holds and its place; what a call reads of it, how it moves on, and what a run of calls gives. All by the one
-- definition of a reading, `entry_at` of Reading.antt; Statements.antt's CallsRead says that calls are readings.
-- Assumes nothing: these are definitions.
use Rattle.std.specs.Prelude.{◌≡◌, Option, List, [], ◌∷◌, ℕ, zero, suc}
use Rattle.std.specs.Borrow.{Bor}
use Rattle.pool.specs.declared.Rec.{Rec}
use Rattle.reader.specs.Reading.{entry_at, after}
use Rattle.reader.specs.declared.Entry.{Entry}
use Rattle.reader.specs.declared.Reader.{Reader}

-- a reader of three tables, from a record on
abbrev pub begun : (rows counts next : Bor (List ℕ)) → Rec → Reader
begun xs cs ns r = record { rows = xs; counts = cs; next = ns; at = r }

-- what it reads
abbrev pub entry_of : Reader → Option Entry
entry_of d = entry_at d.rows.now d.counts.now d.next.now d.at.0

-- the same tables, at the record after
abbrev pub moved : Reader → Reader
moved d = record { rows = d.rows; counts = d.counts; next = d.next; at = after (entry_of d) }

-- a call: what it reads, and how the reader moves on
abbrev pub Reads : Reader → Option Entry → Reader → Type 0
Reads d e d' = (e ≡ entry_of d) × (d' ≡ moved d)

-- what k calls of a reader give
unfoldable pub calls : ℕ → Reader → List (Option Entry)
calls zero d = []
calls (suc k) d = entry_of d ∷ calls k (moved d)
