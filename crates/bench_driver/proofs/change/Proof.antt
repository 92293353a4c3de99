-- `change` keeps the premise of the next batch, by the laws of the crate continuing. Assumes nothing.
use Rattle.tables.specs.Tables.{Tables, tables_of}
use Rattle.continuing.proofs.Continuing.{change-can}
use Rattle.calls.specs.Calls.{removing}
use Rattle.factor.specs.Entries.{world_of}
use Rattle.answers.specs.Answers.{changed_answer}
use Rattle.bench_driver.proofs.change.Statement.{statement}
use Rattle.bench_driver.proofs.change.Tie as tie

-- ---- the places, named

abbrev added : tie.After-slice_known-then-adds-11-1 → tie.After-add_plain
added c = c.before.before.before.before.before.before.before.before.before.before.before.before.before.before.before.before.before.before.before.before.before.before

abbrev adding-from : tie.After-add_plain-arg-then-adds-10-1 → tie.Start
adding-from c = c.before.before.before.before.before.before.before.before.before.before.before.before.before.before.before.before.before.before.before.before.before.before.before.before.before.before.before

abbrev removed : tie.After-slice_known-22-1 → tie.After-remove_unchecked
removed c = c.before.before.before.before.before.before.before.before.before.before.before.before.before.before.before.before.before.before.before.before.before.before

abbrev removing-from : tie.After-remove_unchecked-arg-11-1 → tie.Start
removing-from c = c.before.before.before.before.before.before.before.before.before.before.before.before.before.before.before.before.before.before.before.before.before.before.before.before.before.before.before

add-plain-requires : tie.Need-add_plain-requires
add-plain-requires c κs = (adding-from c).requires

same_length : tie.Need-shape_of-parents-then-adds
same_length c = (added c).add_plain.auto.parents

same-length-2 : tie.Need-shape_of-rows-then-adds
same-length-2 c = (added c).add_plain.auto.rows

same-length-3 : tie.Need-shape_of-counts-then-adds
same-length-3 c = (added c).add_plain.auto.counts

same-length-4 : tie.Need-shape_of-next-then-adds
same-length-4 c = (added c).add_plain.auto.next

same-length-5 : tie.Need-shape_of-book_heads-then-adds
same-length-5 c = (added c).add_plain.auto.book_heads

same-length-6 : tie.Need-shape_of-book_rows-then-adds
same-length-6 c = (added c).add_plain.auto.book_rows

same-length-7 : tie.Need-shape_of-book_next-then-adds
same-length-7 c = (added c).add_plain.auto.book_next

same-length-8 : tie.Need-shape_of-windows-then-adds
same-length-8 c = (added c).add_plain.auto.windows

same-length-9 : tie.Need-shape_of-work-then-adds
same-length-9 c = (added c).add_plain.auto.work

same-length-10 : tie.Need-shape_of-touched-then-adds
same-length-10 c = (added c).add_plain.auto.touched

same-length-11 : tie.Need-shape_of-labels-then-adds
same-length-11 c = (added c).add_plain.auto.labels

returns : tie.Need-returns-then-adds
returns c = (added c).add_plain.ensures

remove-unchecked-requires : tie.Need-remove_unchecked-requires
remove-unchecked-requires c κs = (removing-from c).requires

same-length-12 : tie.Need-shape_of-parents
same-length-12 c = (removed c).remove_unchecked.auto.parents

same-length-13 : tie.Need-shape_of-rows
same-length-13 c = (removed c).remove_unchecked.auto.rows

same-length-14 : tie.Need-shape_of-counts
same-length-14 c = (removed c).remove_unchecked.auto.counts

same-length-15 : tie.Need-shape_of-next
same-length-15 c = (removed c).remove_unchecked.auto.next

same-length-16 : tie.Need-shape_of-book_heads
same-length-16 c = (removed c).remove_unchecked.auto.book_heads

same-length-17 : tie.Need-shape_of-book_rows
same-length-17 c = (removed c).remove_unchecked.auto.book_rows

same-length-18 : tie.Need-shape_of-book_next
same-length-18 c = (removed c).remove_unchecked.auto.book_next

same-length-19 : tie.Need-shape_of-windows
same-length-19 c = (removed c).remove_unchecked.auto.windows

same-length-20 : tie.Need-shape_of-work
same-length-20 c = (removed c).remove_unchecked.auto.work

same-length-21 : tie.Need-shape_of-touched
same-length-21 c = (removed c).remove_unchecked.auto.touched

same-length-22 : tie.Need-shape_of-labels
same-length-22 c = (removed c).remove_unchecked.auto.labels

returns-2 : tie.Need-returns
returns-2 c =
    let u : tie.After-remove_unchecked = removed c in
    let s : tie.Start = removing-from u.before in
    let t : Tables = tables_of s.args.heads.now u.remove_unchecked.new.parents u.remove_unchecked.new.rows u.remove_unchecked.new.counts u.remove_unchecked.new.next u.remove_unchecked.new.book_heads u.remove_unchecked.new.book_rows u.remove_unchecked.new.book_next u.remove_unchecked.new.windows in
    change-can s.requires u.remove_unchecked.new.work u.remove_unchecked.new.touched u.remove_unchecked.new.labels (world_of u.remove_unchecked.result.factor t)
    u.remove_unchecked.auto.touched u.remove_unchecked.auto.labels (removing s.args.ids.now) (changed_answer u.remove_unchecked.result) u.remove_unchecked.ensures

pub change_spec : {M : Type 1} → statement M
change_spec =
    tie.close
    (tie.spec
    add-plain-requires
    same_length
    same-length-2
    same-length-3
    same-length-4
    same-length-5
    same-length-6
    same-length-7
    same-length-8
    same-length-9
    same-length-10
    same-length-11
    returns
    remove-unchecked-requires
    same-length-12
    same-length-13
    same-length-14
    same-length-15
    same-length-16
    same-length-17
    same-length-18
    same-length-19
    same-length-20
    same-length-21
    same-length-22
    returns-2)
