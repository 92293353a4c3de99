-- What is proved of readings: a column's entries and then the end, of stored columns and of whole tables, which may be longer; the end where there is no
-- entry to read; k calls of a reader are k readings. Terms: proofs/Reading.antt, proofs/Column.antt.
-- Assumes nothing: these are statements.
use Rattle.std.specs.Prelude.{◌≡◌, true, None, List, ◌++◌, ℕ, ◌+◌, ◌≤◌, ◌<◌, length, take, replicate}
use Rattle.lists.specs.Lists.{Mem, at}
use Rattle.symbolic.specs.Columns.{Column}
use Rattle.symbolic.specs.Factor.{factor_of, factor_for, column_at, size_of}
use Rattle.pool.specs.Chains.{chain}
use Rattle.tables.specs.Stored.{Stored, Sized, is_sound_for}
use Rattle.tables.specs.Tables.{Tables, State, long_enough, register_of, is_sound}
use Rattle.reader.specs.Reading.{readings, all_given, entries_in, end}
use Rattle.reader.specs.Reader.{calls}
use Rattle.reader.specs.declared.Reader.{Reader}

-- ---- "A reader over one column gives its entries one for each call, then the end each time"

-- readings from the head of a sound stored column j give the entries of the factor's column j, then k times the end
abbrev pub ReadsColumn : Type 0
ReadsColumn =
    (cs : List Column) (s : Stored) → Sized s → is_sound_for cs s ≡ true → (j : ℕ) → 1 ≤ j → j ≤ length s.heads → (k : ℕ) →
    all_given (readings (size_of (column_at (factor_of (length s.heads) cs) j) + k) s.rows s.counts s.next (at s.heads j)) ≡
    entries_in (column_at (factor_of (length s.heads) cs) j) ++ replicate k end

-- the same of sound tables, which may be longer than the sizes, and of the register that their book holds
abbrev pub ReadsTables : Type 0
ReadsTables =
    (s : State) (t : Tables) → long_enough s.sizes t ≡ true → is_sound s t ≡ true → (j : ℕ) → 1 ≤ j → j ≤ s.sizes.m → (k : ℕ) →
    all_given (readings (size_of (column_at (factor_for (register_of s t)) j) + k) t.rows t.counts t.next (at t.heads j)) ≡
    entries_in (column_at (factor_for (register_of s t)) j) ++ replicate k end

-- the first k readings do not depend on how many follow
abbrev pub ReadsInTurn : Type 0
ReadsInTurn = (xs cs ns : List ℕ) (r k l : ℕ) → take k (readings (k + l) xs cs ns r) ≡ readings k xs cs ns r

-- ---- "a reader whose record number is 0, past its tables or a free record's gives the end"

-- a record number without an entry: 0, past one of the three tables, or a free record's
pub data NoEntry (rows counts next free : List ℕ) (r : ℕ) : Type 0 where
  none : r ≡ 0 → NoEntry rows counts next free r
  past-rows : length rows < r → NoEntry rows counts next free r
  past-counts : length counts < r → NoEntry rows counts next free r
  past_next : length next < r → NoEntry rows counts next free r
  unused : Mem r free → NoEntry rows counts next free r

-- of sound stored columns, every reading from such a number on gives the end
abbrev pub ReadsEnd : Type 0
ReadsEnd =
    (cs : List Column) (s : Stored) → Sized s → is_sound_for cs s ≡ true → (r : ℕ) → NoEntry s.rows s.counts s.next (chain s.next s.free) r → (k : ℕ) →
    readings k s.rows s.counts s.next r ≡ replicate k None

-- the same of sound tables, which may be longer than the sizes
abbrev pub ReadsTablesEnd : Type 0
ReadsTablesEnd =
    (s : State) (t : Tables) → long_enough s.sizes t ≡ true → is_sound s t ≡ true → (r : ℕ) →
    NoEntry t.rows t.counts t.next (chain (take s.sizes.f t.next) s.free) r → (k : ℕ) →
    readings k t.rows t.counts t.next r ≡ replicate k None

-- ---- calls of a reader are readings from its place on

-- k calls of a reader give what k readings from its record on give
abbrev pub CallsRead : Type 0
CallsRead = (d : Reader) (k : ℕ) → calls k d ≡ readings k d.rows.now d.counts.now d.next.now d.at.0
