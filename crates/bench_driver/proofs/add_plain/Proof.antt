-- `add_plain` keeps the premise of the next batch, by the laws of the crate continuing: refused, nothing changes. Assumes nothing.
use mathlib.Core.Path.{sym, subst}
use Prim.Native.Nat.{ℕ, ◌≤◌}
use native.Mathlib.Omega.{arith}
use borrow.Author.Rules.{rules}
use lib.ListN.{length, take, replicate}
use lib.Seq.{length-take-le}
use Rattle.tables.specs.Tables.{Tables, tables_of}
use Rattle.calls.specs.Calls.{adding}
use Rattle.factor.specs.Entries.{state_of, world_of}
use Rattle.factor.specs.declared.Factor.{Factor}
use Rattle.answers.specs.Answers.{CanChange, changed_answer}
use Rattle.continuing.proofs.Continuing.{change-can}
use Rattle.bench_driver.proofs.add_plain.Statement.{statement}
use Rattle.bench_driver.proofs.add_plain.Tie as tie

-- ---- the places, named

abbrev entry : tie.Else-count-gt64 → tie.Start
entry c = c.before.before.before.before.before.before.before.before.before.before.before.before.before.before.before.before

abbrev lent : tie.After-seconds-1 → tie.Else-count-gt64
lent c = c.before.before.before.before.before.before.before.before.before.before.before.before.before

abbrev ran : tie.After-slice_known-22-1 → tie.After-add_unchecked
ran c = c.before.before.before.before.before.before.before.before.before.before.before.before.before.before.before.before.before.before.before.before.before.before

abbrev tables_at : tie.Start → Tables
tables_at s = tables_of s.args.heads.now s.args.parents.now s.args.rows.now s.args.counts.now s.args.next.now s.args.book_heads.now s.args.book_rows.now s.args.book_next.now s.args.windows.now

-- a batch has at most 64 ids
few : (c : tie.Else-count-gt64) → length (entry c).args.ids.now ≤ 64
few c = omega (arith, c.if-count-gt64.false)

refused-requires : tie.Need-refused-requires
refused-requires c κs = search rules

returns : tie.Need-returns-then-count-gt64
returns c =
    let s : tie.Start = c.before.before.before.before.before.before.before.before.before.before.before.before.before.before.before.before.before in
    subst (λ (x : Factor). CanChange (state_of x) (tables_at s) s.args.work.now s.args.touched.now s.args.labels.now) (sym c.refused.ensures) s.requires

array-share-prefix-firsts : tie.Need-slice_bounds-firsts-end
array-share-prefix-firsts c = few c.before.before.before.before.before.before.before.before.before.before.before

slice-aggregate-add-unchecked : tie.Need-slice_bounds-add_unchecked-end
slice-aggregate-add-unchecked c = sym (length-take-le _ _ (few c.before.before.before.before.before.before.before.before.before.before.before.before))

array-share-prefix-seconds : tie.Need-slice_bounds-seconds-end
array-share-prefix-seconds c = few c.before.before.before.before.before.before.before.before.before.before.before.before

slice-aggregate-add-unchecked-2 : tie.Need-slice_bounds-add_unchecked-end-2
slice-aggregate-add-unchecked-2 c = sym (length-take-le _ _ (few (lent c)))

add-unchecked-requires : tie.Need-add_unchecked-requires
add-unchecked-requires c κs = (entry (lent c)).requires

same_length : tie.Need-shape_of-parents
same_length c = (ran c).add_unchecked.auto.parents

same-length-2 : tie.Need-shape_of-rows
same-length-2 c = (ran c).add_unchecked.auto.rows

same-length-3 : tie.Need-shape_of-counts
same-length-3 c = (ran c).add_unchecked.auto.counts

same-length-4 : tie.Need-shape_of-next
same-length-4 c = (ran c).add_unchecked.auto.next

same-length-5 : tie.Need-shape_of-book_heads
same-length-5 c = (ran c).add_unchecked.auto.book_heads

same-length-6 : tie.Need-shape_of-book_rows
same-length-6 c = (ran c).add_unchecked.auto.book_rows

same-length-7 : tie.Need-shape_of-book_next
same-length-7 c = (ran c).add_unchecked.auto.book_next

same-length-8 : tie.Need-shape_of-windows
same-length-8 c = (ran c).add_unchecked.auto.windows

same-length-9 : tie.Need-shape_of-work
same-length-9 c = (ran c).add_unchecked.auto.work

same-length-10 : tie.Need-shape_of-touched
same-length-10 c = (ran c).add_unchecked.auto.touched

same-length-11 : tie.Need-shape_of-labels
same-length-11 c = (ran c).add_unchecked.auto.labels

returns-2 : tie.Need-returns
returns-2 c =
    let u : tie.After-add_unchecked = ran c in
    let s : tie.Start = entry (lent u.before) in
    let zeros = take (length s.args.ids.now) (replicate {A = ℕ} 64 0) in
    let t : Tables = tables_of s.args.heads.now u.add_unchecked.new.parents u.add_unchecked.new.rows u.add_unchecked.new.counts u.add_unchecked.new.next u.add_unchecked.new.book_heads u.add_unchecked.new.book_rows u.add_unchecked.new.book_next u.add_unchecked.new.windows in
    change-can s.requires u.add_unchecked.new.work u.add_unchecked.new.touched u.add_unchecked.new.labels (world_of u.add_unchecked.result.factor t)
    u.add_unchecked.auto.touched u.add_unchecked.auto.labels (adding s.args.ids.now s.args.row_counts.now s.args.row_list.now zeros zeros) (changed_answer u.add_unchecked.result) u.add_unchecked.ensures

pub add_plain_spec : {M : Type 1} → statement M
add_plain_spec =
    tie.close
    (tie.spec
    refused-requires
    returns
    array-share-prefix-firsts
    slice-aggregate-add-unchecked
    array-share-prefix-seconds
    slice-aggregate-add-unchecked-2
    add-unchecked-requires
    same_length
    same-length-2
    same-length-3
    same-length-4
    same-length-5
    same-length-6
    same-length-7
    same-length-8
    same-length-9
    same-length-10
    same-length-11
    returns-2)
