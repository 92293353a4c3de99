-- `drop_line` meets its contract: before an accepted opening the refusal by 1, after it the unchecked batch, whose premise is kept. Assumes nothing.
use mathlib.Core.List.{[], ◌∷◌}
use native.Mathlib.Omega.{arith}
use borrow.Author.Rules.{rules}
use Rattle.tables.specs.Tables.{Tables, tables_of}
use Rattle.factor.specs.Entries.{state_of}
use Rattle.answers.specs.Answers.{CanChange}
use Rattle.listing_text.proofs.Printing.{no_room}
use Rattle.listing_memory.specs.Memory.{Memory, memory_of}
use Rattle.calls.specs.Calls.{removing}
use Rattle.listing_answers.proofs.Changes.{ready-none, ready-some, closed-changes, open-changes}
use Rattle.listing_answers.proofs.changing.drop_line.Statement.{statement}
use Rattle.listing_answers.proofs.changing.drop_line.Tie as tie

abbrev tables : tie.Start → Tables
tables s =
    let a = s.args in
    tables_of a.heads.now a.parents.now a.rows.now a.counts.now a.next.now a.book_heads.now a.book_rows.now a.book_next.now a.windows.now

abbrev memory : tie.Start → Memory
memory s = memory_of s.args.factor (tables s) s.args.work.now s.args.touched.now s.args.labels.now

can : (c : tie.Else-factor-eq0) → CanChange (state_of c.args.factor) (tables c.before.before.before.before.before.before.before.before.before.before.before.before.before.before.before) c.args.work.now c.args.touched.now c.args.labels.now
can c = ready-some (memory c.before.before.before.before.before.before.before.before.before.before.before.before.before.before.before) c.requires.1 c.if-factor-eq0.false

no-line-requires : tie.Need-no_line-end-requires
no-line-requires c κs = record { room = omega (arith, c.requires.0, no_room 1 0 (omega arith) (omega arith)) }

same_length : tie.Need-shape_of-out-then-factor-eq0
same_length c = c.no_line-end.auto.out

returns : tie.Need-returns-then-factor-eq0
returns c =
    closed-changes c.args.factor (tables c.before.before.before.before.before.before.before.before.before.before.before.before.before.before.before.before.before.before.before) c.args.work.now c.args.touched.now c.args.labels.now c.args.out.now c.no_line-end.new.out c.no_line-end.result
    c.no_line-end.ensures (ready-none (memory c.before.before.before.before.before.before.before.before.before.before.before.before.before.before.before.before.before.before.before) c.requires.1 c.if-factor-eq0.true) (removing (c.args.id ∷ []))

slice-aggregate-remove-unchecked : tie.Need-slice_bounds-remove_unchecked-end
slice-aggregate-remove-unchecked c = search rules

remove-unchecked-requires : tie.Need-remove_unchecked-x-requires
remove-unchecked-requires c κs = can c.before.before.before.before.before.before.before.before.before.before.before.before

changed-line-requires : tie.Need-changed_line-end-requires
changed-line-requires c κs = c.requires.0

same-length-2 : tie.Need-shape_of-parents
same-length-2 c = c.remove_unchecked-x.auto.parents

same-length-3 : tie.Need-shape_of-rows
same-length-3 c = c.remove_unchecked-x.auto.rows

same-length-4 : tie.Need-shape_of-counts
same-length-4 c = c.remove_unchecked-x.auto.counts

same-length-5 : tie.Need-shape_of-next
same-length-5 c = c.remove_unchecked-x.auto.next

same-length-6 : tie.Need-shape_of-book_heads
same-length-6 c = c.remove_unchecked-x.auto.book_heads

same-length-7 : tie.Need-shape_of-book_rows
same-length-7 c = c.remove_unchecked-x.auto.book_rows

same-length-8 : tie.Need-shape_of-book_next
same-length-8 c = c.remove_unchecked-x.auto.book_next

same-length-9 : tie.Need-shape_of-windows
same-length-9 c = c.remove_unchecked-x.auto.windows

same-length-10 : tie.Need-shape_of-work
same-length-10 c = c.remove_unchecked-x.auto.work

same-length-11 : tie.Need-shape_of-touched
same-length-11 c = c.remove_unchecked-x.auto.touched

same-length-12 : tie.Need-shape_of-labels
same-length-12 c = c.remove_unchecked-x.auto.labels

same-length-13 : tie.Need-shape_of-out
same-length-13 c = c.changed_line-end.auto.out

returns-2 : tie.Need-returns
returns-2 c =
    let l = c.remove_unchecked-x.new in
    open-changes c.args.factor (tables c.before.before.before.before.before.before.before.before.before.before.before.before.before.before.before.before.before.before.before.before.before.before.before.before.before.before.before.before.before.before.before.before.before.before.before.before.before.before.before.before.before.before.before.before.before.before.before.before.before.before.before.before.before.before.before) c.args.work.now c.args.touched.now c.args.labels.now (can c.before.before.before.before.before.before.before.before.before.before.before.before.before.before.before.before.before.before.before.before.before.before.before.before.before.before.before.before.before.before.before.before.before.before.before.before.before.before.before.before) c.remove_unchecked-x.result
    (tables_of c.args.heads.now l.parents l.rows l.counts l.next l.book_heads l.book_rows l.book_next l.windows)
    l.work l.touched l.labels c.args.out.now c.changed_line-end.new.out c.changed_line-end.result c.changed_line-end.ensures
    c.remove_unchecked-x.auto.touched c.remove_unchecked-x.auto.labels (removing (c.args.id ∷ [])) c.remove_unchecked-x.ensures

pub drop_line_spec : {M : Type 1} → statement M
drop_line_spec =
    tie.close
    (tie.spec
    no-line-requires
    same_length
    returns
    slice-aggregate-remove-unchecked
    remove-unchecked-requires
    changed-line-requires
    same-length-2
    same-length-3
    same-length-4
    same-length-5
    same-length-6
    same-length-7
    same-length-8
    same-length-9
    same-length-10
    same-length-11
    same-length-12
    same-length-13
    returns-2)
