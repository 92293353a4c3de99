-- `read_through` meets its contract: the work table made ready can be read with, and is cleared again. Assumes nothing.
use mathlib.Core.Path.{sym, ◌∙◌, subst}
use Prim.Native.Nat.{ℕ}
use Rattle.state.specs.Record.{state_of}
use Rattle.book.specs.Book.{Book, book_of}
use Rattle.tables.specs.Stored.{Stored, stored_of}
use Rattle.tables.specs.Tables.{Tables}
use Rattle.soundness.specs.State.{WithinWork}
use Rattle.soundness.specs.ReadThrough.{CanReadThrough}
use Rattle.admission.proofs.Cutting.{can-read-through, read-clears}
use Rattle.admission.proofs.read_through.Goals as goal

-- stored columns and book of tables that are cut to their sizes
abbrev stored : Tables → (free : ℕ) → Stored
stored t f = stored_of t.heads t.parents t.rows t.counts t.next f

abbrev book : Tables → (free : ℕ) → Book
book t f = book_of t.book_heads t.book_rows t.book_next f

pub read_through-sound-requires : goal.read_through-sound-requires
read_through-sound-requires c =
    let s = c.args.state in
    subst (λ (t : Tables). CanReadThrough (stored t s.free.0) (book t s.book_free.0) t.windows c.make_ready.new.work) (sym c.within-within.ensures)
    (can-read-through (state_of s) c.requires c.make_ready.ensures)

pub returns-then-sound-clause-work : goal.returns-then-sound-clause-work
returns-then-sound-clause-work c =
    let s = c.args.state in
    c.clear.ensures ∙
    read-clears (state_of s) c.requires c.make_ready.ensures
    (subst (λ (t : Tables). WithinWork (stored t s.free.0) (book t s.book_free.0) c.make_ready.new.work c.read_through-sound.new.work) c.within-within.ensures
    c.read_through-sound.ensures.work)
    c.work_need.ensures

pub returns-else-sound-clause-work : goal.returns-else-sound-clause-work
returns-else-sound-clause-work c =
    let s = c.args.state in
    c.clear.ensures ∙
    read-clears (state_of s) c.requires c.make_ready.ensures
    (subst (λ (t : Tables). WithinWork (stored t s.free.0) (book t s.book_free.0) c.make_ready.new.work c.read_through-sound.new.work) c.within-within.ensures
    c.read_through-sound.ensures.work)
    c.work_need.ensures
