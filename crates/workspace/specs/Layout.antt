-- Where each region of the work table starts, by the sizes m, n, F and C; W is document 01's. A region has m places where nothing else is said.
-- A batch and the read-through use the same table at different times, so each has its own regions; an exchange has some in places that its batches leave
-- free. That they follow one another and fill no more than W places: proofs/Starts.antt. A question that marks columns uses the first m places.
-- Assumes nothing: these are definitions.
use Rattle.std.specs.Prelude.{ℕ, ◌+◌, ◌*◌}

-- "W = 8 × m + 4 × F + C + n + 1,024"
abbrev pub work_need : (m n f c : ℕ) → ℕ
work_need m n f c = 8 * m + 4 * f + c + n + 1024

-- ---- a batch

-- per row: 2^30 + (new − old) multiplicity of the column at hand, 0 if untouched
abbrev pub difference : ℕ
difference = 0

-- the touched rows, rising
abbrev pub rows_at : (m : ℕ) → ℕ
rows_at m = m

-- rows gathered to be counted; those of them that were not touched are then merged into the touched rows
abbrev pub buffer_at : (m : ℕ) → ℕ
buffer_at m = 2 * m

-- per column: its mark, with label and new parent
abbrev pub marks_at : (m : ℕ) → ℕ
marks_at m = 3 * m

-- per column: where its planned entries begin
abbrev pub starts_at : (m : ℕ) → ℕ
starts_at m = 4 * m

-- per column, until its turn: its first touched child, the head of a queue
abbrev pub children_at : (m : ℕ) → ℕ
children_at m = 5 * m

-- the same places after its turn: the next touched column
abbrev pub next_at : (m : ℕ) → ℕ
next_at m = children_at m

-- per column: its first lost child (removing: gained), the head of a queue
abbrev pub lost_at : (m : ℕ) → ℕ
lost_at m = 6 * m

-- per column: the next in the one queue that it is in
abbrev pub links_at : (m : ℕ) → ℕ
links_at m = 7 * m

-- the planned entries, F places
abbrev pub plan_at : (m : ℕ) → ℕ
plan_at m = 8 * m

-- 3F places that planning does not use; an exchange keeps what it may have to bring back there
abbrev pub spare : (m f : ℕ) → ℕ
spare m f = 8 * m + f

-- per block of rows: whether one of them was marked, flag_count places of 1,024
abbrev pub flags_at : (m f : ℕ) → ℕ
flags_at m f = 8 * m + 4 * f

-- rows of a block
abbrev pub block_rows : ℕ
block_rows = 64

-- blocks of 4,096 rows, a flag for each
abbrev pub flag_count : ℕ
flag_count = 64

-- left to the read-through, C + n places
abbrev pub read_through : (m f : ℕ) → ℕ
read_through m f = 8 * m + 4 * f + 1024

-- ---- an exchange: in the 3F places that its plans leave free

-- all records as they were before it, 2F places
abbrev pub saved_at : (m f : ℕ) → ℕ
saved_at m f = spare m f

-- per column: in the lower part its parent before the exchange, and in the upper part, once it is gathered, one more than its size before
abbrev pub gather_at : (m f : ℕ) → ℕ
gather_at m f = saved_at m f + 2 * f

-- ---- the read-through

-- per row: what the local equation gives for the column at hand
abbrev pub counters : ℕ
counters = 0

-- per column: the first of its children
abbrev pub child_head : (m : ℕ) → ℕ
child_head m = m

-- per column: the next child of the same parent
abbrev pub child_next : (m : ℕ) → ℕ
child_next m = 2 * m

-- per row: the first book column whose smallest row it is
abbrev pub column_head : (m : ℕ) → ℕ
column_head m = 3 * m

-- per column: where its rows begin in the row stash, and the end of the last; m + 1 places, one of them in the next m
abbrev pub stash_start : (m : ℕ) → ℕ
stash_start m = 4 * m

-- per column: its last record
abbrev pub lasts_at : (m : ℕ) → ℕ
lasts_at m = 6 * m

-- per record of L: the last column read whose chain ends there, F places, written before they are read
abbrev pub names_at : (m : ℕ) → ℕ
names_at m = 8 * m

-- the rows met, column by column, F places
abbrev pub row_stash : (m f : ℕ) → ℕ
row_stash m f = 8 * m + f

-- pieces of the free chain, 2F places
abbrev pub pieces_at : (m f : ℕ) → ℕ
pieces_at m f = 8 * m + 2 * f

-- per record of the book: the last id read whose column ends there, C places, written before they are read; then pieces of the book's free chain
abbrev pub book_names : (m f : ℕ) → ℕ
book_names m f = 8 * m + 4 * f + 1024

-- per id: the last record of its column while the book is read, then the next id with the same smallest row, n places
abbrev pub column_next : (m f c : ℕ) → ℕ
column_next m f c = 8 * m + 4 * f + 1024 + c
