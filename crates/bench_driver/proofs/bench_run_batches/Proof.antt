-- The entry meets its contract: refused it has a number, and what the check accepts can be changed, by `checked-can`. Assumes nothing.
use mathlib.Core.Path.{◌≡◌, refl, ◌∙◌}
use Prim.Native.Nat.{ℕ}
use native.Mathlib.Omega.{arith}
use borrow.Author.Rules.{rules}
use Rattle.questions.specs.Asked.{reply_of}
use Rattle.tables.specs.Tables.{Tables, State, tables_of}
use Rattle.factor.specs.Entries.{state_of}
use Rattle.continuing.proofs.Checked.{lists-fit, checked-can}
use Rattle.bench_driver.proofs.bench_run_batches.Statement.{statement}
use Rattle.bench_driver.proofs.bench_run_batches.Tie as tie

-- ---- the places, named

abbrev entry : tie.After-check-found → tie.Start
entry c = c.before.before.before.before.before.before.before.before.before.before.before.before.before.before.before.before.before.before

abbrev passed : tie.After-short_lists → tie.Else-number-ne0
passed c = c.before

abbrev checked : tie.Else-number-ne0 → tie.After-check-found
checked c = c.before.before.before

abbrev ran : tie.After-slice_known-23-1 → tie.After-run
ran c = c.before.before.before.before.before.before.before.before.before.before.before.before.before.before.before.before.before.before.before.before.before.before

abbrev lent : tie.After-run-arg-11-1 → tie.Else-short_lists
lent c = c.before.before.before.before.before.before.before.before.before.before.before

abbrev state_at : tie.Start → State
state_at s = state_of s.args.factor

abbrev tables_at : tie.Start → Tables
tables_at s = tables_of s.args.heads.now s.args.parents.now s.args.rows.now s.args.counts.now s.args.next.now s.args.book_heads.now s.args.book_rows.now s.args.book_next.now s.args.windows.now

five-some : ◌≡◌ {A = ℕ} 5 0 → ⊥
five-some e = omega arith

check-requires : tie.Need-check-found-requires
check-requires c κs = search rules

same_length : tie.Need-shape_of-parents-then-number-ne0
same_length c = refl

same-length-2 : tie.Need-shape_of-rows-then-number-ne0
same-length-2 c = refl

same-length-3 : tie.Need-shape_of-counts-then-number-ne0
same-length-3 c = refl

same-length-4 : tie.Need-shape_of-next-then-number-ne0
same-length-4 c = refl

same-length-5 : tie.Need-shape_of-book_heads-then-number-ne0
same-length-5 c = refl

same-length-6 : tie.Need-shape_of-book_rows-then-number-ne0
same-length-6 c = refl

same-length-7 : tie.Need-shape_of-book_next-then-number-ne0
same-length-7 c = refl

same-length-8 : tie.Need-shape_of-windows-then-number-ne0
same-length-8 c = refl

same-length-9 : tie.Need-shape_of-work-then-number-ne0
same-length-9 c = c.before.before.before.check-found.auto.work

returns : tie.Need-returns-then-number-ne0
returns c = λ e. absurd (c.if-number-ne0.true e)

short-lists-requires : tie.Need-short_lists-requires
short-lists-requires c κs = search rules

same-length-10 : tie.Need-shape_of-parents-then-short_lists
same-length-10 c = refl

same-length-11 : tie.Need-shape_of-rows-then-short_lists
same-length-11 c = refl

same-length-12 : tie.Need-shape_of-counts-then-short_lists
same-length-12 c = refl

same-length-13 : tie.Need-shape_of-next-then-short_lists
same-length-13 c = refl

same-length-14 : tie.Need-shape_of-book_heads-then-short_lists
same-length-14 c = refl

same-length-15 : tie.Need-shape_of-book_rows-then-short_lists
same-length-15 c = refl

same-length-16 : tie.Need-shape_of-book_next-then-short_lists
same-length-16 c = refl

same-length-17 : tie.Need-shape_of-windows-then-short_lists
same-length-17 c = refl

same-length-18 : tie.Need-shape_of-work-then-short_lists
same-length-18 c = (checked (passed c.before)).check-found.auto.work

same-length-19 : tie.Need-shape_of-touched-then-short_lists
same-length-19 c = refl

same-length-20 : tie.Need-shape_of-labels-then-short_lists
same-length-20 c = refl

returns-2 : tie.Need-returns-then-short_lists
returns-2 c = λ e. absurd (five-some e)

run-requires : tie.Need-run-requires
run-requires c κs =
    let e : tie.Else-short_lists = lent c in
    let h : tie.After-short_lists = e.before in
    let d : tie.Else-number-ne0 = passed h in
    let k : tie.After-check-found = checked d in
    let s : tie.Start = entry k in
    let x = lists-fit s.args.factor.m s.args.touched.now s.args.labels.now h.short_lists.ensures e.if-short_lists.false in
    checked-can (state_at s) (tables_at s) s.args.work.now (reply_of k.check-found.result) k.check-found.new.work k.check-found.ensures d.if-number-ne0.false s.args.touched.now s.args.labels.now x.0 x.1

same-length-21 : tie.Need-shape_of-parents
same-length-21 c = (ran c).run.auto.parents

same-length-22 : tie.Need-shape_of-rows
same-length-22 c = (ran c).run.auto.rows

same-length-23 : tie.Need-shape_of-counts
same-length-23 c = (ran c).run.auto.counts

same-length-24 : tie.Need-shape_of-next
same-length-24 c = (ran c).run.auto.next

same-length-25 : tie.Need-shape_of-book_heads
same-length-25 c = (ran c).run.auto.book_heads

same-length-26 : tie.Need-shape_of-book_rows
same-length-26 c = (ran c).run.auto.book_rows

same-length-27 : tie.Need-shape_of-book_next
same-length-27 c = (ran c).run.auto.book_next

same-length-28 : tie.Need-shape_of-windows
same-length-28 c = (ran c).run.auto.windows

same-length-29 : tie.Need-shape_of-work
same-length-29 c = (ran c).run.auto.work ∙ (checked (passed (lent (ran c).before).before)).check-found.auto.work

same-length-30 : tie.Need-shape_of-touched
same-length-30 c = (ran c).run.auto.touched

same-length-31 : tie.Need-shape_of-labels
same-length-31 c = (ran c).run.auto.labels

returns-3 : tie.Need-returns
returns-3 c = λ e. (ran c).run.ensures

pub bench_run_batches_spec : {M : Type 1} → statement M
bench_run_batches_spec =
    tie.close
    (tie.spec
    check-requires
    same_length
    same-length-2
    same-length-3
    same-length-4
    same-length-5
    same-length-6
    same-length-7
    same-length-8
    same-length-9
    returns
    short-lists-requires
    same-length-10
    same-length-11
    same-length-12
    same-length-13
    same-length-14
    same-length-15
    same-length-16
    same-length-17
    same-length-18
    same-length-19
    same-length-20
    returns-2
    run-requires
    same-length-21
    same-length-22
    same-length-23
    same-length-24
    same-length-25
    same-length-26
    same-length-27
    same-length-28
    same-length-29
    same-length-30
    same-length-31
    returns-3)
