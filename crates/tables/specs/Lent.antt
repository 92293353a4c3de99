-- What a contract says of lists that are lent to be read: each as it is at the call (`tables_in`), and in a premise as it is (`tables_now`). Of tables that are lent to
-- be written it says `tables_of heads.old ..` and `tables_of heads.new ..`. A later table enters here. Assumes nothing: these are definitions.
use Rattle.std.specs.Prelude.{◌≡◌, List, ℕ, ◌*◌, length, take}
use Rattle.std.specs.Borrow.{Bor, MutBor}
use denote.Triple.Both.{Both}
use Rattle.tables.specs.Tables.{Tables, Sizes, tables_of}
use Rattle.tables.specs.Stored.{Stored, stored_of}
use Rattle.tables.specs.declared.ColumnsMut.{ColumnsMut}
use Rattle.tables.specs.declared.ColumnsView.{ColumnsView}
use Rattle.tables.specs.declared.TablesView.{TablesView}

-- a list lent to a function to be read, at its entry and at its exit
abbrev pub LentList : Type 0
LentList = Both (Bor (List ℕ)) (Bor (List ℕ))

-- a list lent to be written
abbrev pub LentTable : Type 0
LentTable = Both (MutBor (List ℕ)) (MutBor (List ℕ))

-- the tables lent, at the call
abbrev pub tables_in : (heads parents rows counts next book_heads book_rows book_next windows : LentList) → Tables
tables_in hs ps rs cs ns bh br bn ws =
    tables_of hs.entry.now ps.entry.now rs.entry.now cs.entry.now ns.entry.now bh.entry.now br.entry.now bn.entry.now ws.entry.now

-- the tables lent, in a premise
abbrev pub tables_now : (heads parents rows counts next book_heads book_rows book_next windows : Bor (List ℕ)) → Tables
tables_now hs ps rs cs ns bh br bn ws = tables_of hs.now ps.now rs.now cs.now ns.now bh.now br.now bn.now ws.now

-- ---- tables that go together in one struct

-- the stored columns of L that a struct lends, with a free head
abbrev pub columns_viewed : ColumnsView → (free : ℕ) → Stored
columns_viewed l f = stored_of l.heads.now l.parents.now l.rows.now l.counts.now l.next.now f

-- those that are lent to be written, with a free head
abbrev pub columns_lent : ColumnsMut → (free : ℕ) → Stored
columns_lent l f = stored_of l.heads.now l.parents.now l.rows.now l.counts.now l.next.now f

-- the same loans, so that a host learns what stands in its tables at the end; as long as before
pub record SameColumns (before after : ColumnsMut) : Type 0 where
  pub heads : after.heads ≡ before.heads
  pub parents : after.parents.ghost_name ≡ before.parents.ghost_name
  pub rows : after.rows.ghost_name ≡ before.rows.ghost_name
  pub counts : after.counts.ghost_name ≡ before.counts.ghost_name
  pub next : after.next.ghost_name ≡ before.next.ghost_name
  pub parents-long : length after.parents.now ≡ length before.parents.now
  pub rows_long : length after.rows.now ≡ length before.rows.now
  pub counts-long : length after.counts.now ≡ length before.counts.now
  pub next-long : length after.next.now ≡ length before.next.now

-- the nine tables that a struct lends
abbrev pub tables_viewed : TablesView → Tables
tables_viewed l =
    tables_of l.columns.heads.now l.columns.parents.now l.columns.rows.now l.columns.counts.now l.columns.next.now l.book.heads.now l.book.rows.now l.book.next.now
    l.windows.now

-- the tables within their sizes
abbrev pub tables_cut : Sizes → Tables → Tables
tables_cut l t =
    tables_of (take l.m t.heads) (take l.m t.parents) (take l.f t.rows) (take l.f t.counts) (take l.f t.next) (take l.n t.book_heads) (take l.c t.book_rows)
    (take l.c t.book_next) (take (2 * l.n) t.windows)
