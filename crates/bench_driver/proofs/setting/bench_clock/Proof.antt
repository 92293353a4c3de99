-- The entry meets its contract: refused it has a number, and what the check accepts can be changed, by `checked-can`. Assumes nothing.
use mathlib.Core.Path.{◌≡◌, refl, ◌∙◌}
use Prim.Native.Nat.{ℕ}
use native.Mathlib.Omega.{arith}
use borrow.Author.Rules.{rules}
use Rattle.questions.specs.Asked.{reply_of}
use Rattle.tables.specs.Tables.{Tables, State, tables_of}
use Rattle.factor.specs.Entries.{state_of}
use Rattle.continuing.proofs.Checked.{lists-fit, checked-can}
use Rattle.bench_driver.proofs.setting.bench_clock.Statement.{statement}
use Rattle.bench_driver.proofs.setting.bench_clock.Tie as tie

-- ---- the places, named

abbrev entry : tie.After-check-found → tie.Start
entry c = c.before.before.before.before.before.before.before.before.before.before.before.before.before.before.before

abbrev passed : tie.After-short_lists → tie.Else-number-ne0
passed c = c.before

abbrev checked : tie.Else-number-ne0 → tie.After-check-found
checked c = c.before.before.before

abbrev ran : tie.After-slice_known-15-1 → tie.After-clock_each
ran c = c.before.before.before.before.before.before.before.before.before.before.before.before.before.before

abbrev lent : tie.After-clock_each-arg-7-1 → tie.Else-minutes-gt-MOST_MINUTES
lent c = c.before.before.before.before.before.before.before

abbrev state_at : tie.Start → State
state_at s = state_of s.args.factor

abbrev tables_at : tie.Start → Tables
tables_at s = tables_of s.args.heads.now s.args.parents.now s.args.rows.now s.args.counts.now s.args.next.now s.args.book_heads.now s.args.book_rows.now s.args.book_next.now s.args.windows.now

five-some : ◌≡◌ {A = ℕ} 5 0 → ⊥
five-some e = omega arith

seven-some : ◌≡◌ {A = ℕ} 7 0 → ⊥
seven-some e = omega arith

check-requires : tie.Need-check-found-requires
check-requires c κs = search rules

same_length : tie.Need-shape_of-parents-then-number-ne0
same_length c = refl

same-length-2 : tie.Need-shape_of-rows-then-number-ne0
same-length-2 c = refl

same-length-3 : tie.Need-shape_of-counts-then-number-ne0
same-length-3 c = refl

same-length-4 : tie.Need-shape_of-next-then-number-ne0
same-length-4 c = refl

same-length-5 : tie.Need-shape_of-work-then-number-ne0
same-length-5 c = c.before.before.before.check-found.auto.work

returns : tie.Need-returns-then-number-ne0
returns c = λ e. absurd (c.if-number-ne0.true e)

short-lists-requires : tie.Need-short_lists-requires
short-lists-requires c κs = search rules

same-length-6 : tie.Need-shape_of-parents-then-short_lists
same-length-6 c = refl

same-length-7 : tie.Need-shape_of-rows-then-short_lists
same-length-7 c = refl

same-length-8 : tie.Need-shape_of-counts-then-short_lists
same-length-8 c = refl

same-length-9 : tie.Need-shape_of-next-then-short_lists
same-length-9 c = refl

same-length-10 : tie.Need-shape_of-work-then-short_lists
same-length-10 c = (checked (passed c.before)).check-found.auto.work

same-length-11 : tie.Need-shape_of-touched-then-short_lists
same-length-11 c = refl

same-length-12 : tie.Need-shape_of-labels-then-short_lists
same-length-12 c = refl

returns-2 : tie.Need-returns-then-short_lists
returns-2 c = λ e. absurd (five-some e)

same-length-13 : tie.Need-shape_of-parents-then-minutes-gt-MOST_MINUTES
same-length-13 c = refl

same-length-14 : tie.Need-shape_of-rows-then-minutes-gt-MOST_MINUTES
same-length-14 c = refl

same-length-15 : tie.Need-shape_of-counts-then-minutes-gt-MOST_MINUTES
same-length-15 c = refl

same-length-16 : tie.Need-shape_of-next-then-minutes-gt-MOST_MINUTES
same-length-16 c = refl

same-length-17 : tie.Need-shape_of-work-then-minutes-gt-MOST_MINUTES
same-length-17 c = (checked (passed c.before.before)).check-found.auto.work

same-length-18 : tie.Need-shape_of-touched-then-minutes-gt-MOST_MINUTES
same-length-18 c = refl

same-length-19 : tie.Need-shape_of-labels-then-minutes-gt-MOST_MINUTES
same-length-19 c = refl

returns-3 : tie.Need-returns-then-minutes-gt-MOST_MINUTES
returns-3 c = λ e. absurd (seven-some e)

clock-each-requires : tie.Need-clock_each-requires
clock-each-requires c κs =
    let g : tie.Else-minutes-gt-MOST_MINUTES = lent c in
    let e : tie.Else-short_lists = g.before in
    let h : tie.After-short_lists = e.before in
    let d : tie.Else-number-ne0 = passed h in
    let k : tie.After-check-found = checked d in
    let s : tie.Start = entry k in
    let x = lists-fit s.args.factor.m s.args.touched.now s.args.labels.now h.short_lists.ensures e.if-short_lists.false in
    (checked-can (state_at s) (tables_at s) s.args.work.now (reply_of k.check-found.result) k.check-found.new.work k.check-found.ensures d.if-number-ne0.false s.args.touched.now s.args.labels.now x.0 x.1, omega (arith, g.if-minutes-gt-MOST_MINUTES.false))

same-length-20 : tie.Need-shape_of-parents
same-length-20 c = (ran c).clock_each.auto.parents

same-length-21 : tie.Need-shape_of-rows
same-length-21 c = (ran c).clock_each.auto.rows

same-length-22 : tie.Need-shape_of-counts
same-length-22 c = (ran c).clock_each.auto.counts

same-length-23 : tie.Need-shape_of-next
same-length-23 c = (ran c).clock_each.auto.next

same-length-24 : tie.Need-shape_of-work
same-length-24 c = (ran c).clock_each.auto.work ∙ (checked (passed (lent (ran c).before).before.before)).check-found.auto.work

same-length-25 : tie.Need-shape_of-touched
same-length-25 c = (ran c).clock_each.auto.touched

same-length-26 : tie.Need-shape_of-labels
same-length-26 c = (ran c).clock_each.auto.labels

returns-4 : tie.Need-returns
returns-4 c = λ e. (ran c).clock_each.ensures

pub bench_clock_spec : {M : Type 1} → statement M
bench_clock_spec =
    tie.close
    (tie.spec
    check-requires
    same_length
    same-length-2
    same-length-3
    same-length-4
    same-length-5
    returns
    short-lists-requires
    same-length-6
    same-length-7
    same-length-8
    same-length-9
    same-length-10
    same-length-11
    same-length-12
    returns-2
    same-length-13
    same-length-14
    same-length-15
    same-length-16
    same-length-17
    same-length-18
    same-length-19
    returns-3
    clock-each-requires
    same-length-20
    same-length-21
    same-length-22
    same-length-23
    same-length-24
    same-length-25
    same-length-26
    returns-4)
