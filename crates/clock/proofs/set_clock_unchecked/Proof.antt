-- `clock::set_clock_unchecked` meets its contract: usable tables within their sizes can be exchanged, and the exchange's promise decides the number; where it does not fit
-- all is as before, else its report is the change's; either way the work table is cleared. By the laws of Answering.antt. Assumes nothing.
use mathlib.Core.Path.{sym, subst, ◌∙◌}
use Prim.Native.Nat.{ℕ}
use borrow.Author.Rules.{rules}
use borrow.Author.Tests.{not-true, not-false}
use lib.Seq.{length-take-le}
use Rattle.tables.specs.Tables.{tables_of}
use Rattle.calls.specs.Refusals.{refusal}
use Rattle.calls.specs.Steps.{refused_by}
use Rattle.factor.specs.Entries.{state_of}
use Rattle.admission.proofs.Cutting.{cut}
use Rattle.answers.specs.Answers.{AnswerIs}
use Rattle.answers.proofs.Stepping.{change-long, change-can, joined_length}
use Rattle.clock.proofs.Asking.{can-exchange}
use Rattle.clock.proofs.Answering.{next-long, clock-clear, clock-refused, clock-report, clock-some, clock-taken}
use Rattle.clock.proofs.set_clock_unchecked.Statement.{statement}
use Rattle.clock.proofs.set_clock_unchecked.Tie as tie

cast-m : tie.Need-overflow_cast-m
cast-m c = search rules

cast-n : tie.Need-overflow_cast-n
cast-n c = search rules

cast_f : tie.Need-overflow_cast-f
cast_f c = search rules

cast-c : tie.Need-overflow_cast-c
cast-c c = search rules

-- ---- exchanged

slice-aggregate-exchange : tie.Need-slice_bounds-exchange-end
slice-aggregate-exchange c = sym (cut (state_of c.args.factor) (tables_of c.args.heads.now c.args.parents.now c.args.rows.now c.args.counts.now c.args.next.now c.args.book_heads.now c.args.book_rows.now c.args.book_next.now c.args.windows.now) c.requires.can-use.usable.long).heads

slice-relend-prefix-exchange : tie.Need-slice_bounds-exchange-end-2
slice-relend-prefix-exchange c = (change-long c.args.factor (tables_of c.args.heads.now c.args.parents.now c.args.rows.now c.args.counts.now c.args.next.now c.args.book_heads.now c.args.book_rows.now c.args.book_next.now c.args.windows.now) c.requires).parents

slice-aggregate-exchange-2 : tie.Need-slice_bounds-exchange-end-3
slice-aggregate-exchange-2 c = sym (cut (state_of c.args.factor) (tables_of c.args.heads.now c.args.parents.now c.args.rows.now c.args.counts.now c.args.next.now c.args.book_heads.now c.args.book_rows.now c.args.book_next.now c.args.windows.now) c.requires.can-use.usable.long).parents

slice-relend-prefix-exchange-2 : tie.Need-slice_bounds-exchange-end-4
slice-relend-prefix-exchange-2 c = (change-long c.args.factor (tables_of c.args.heads.now c.args.parents.now c.args.rows.now c.args.counts.now c.args.next.now c.args.book_heads.now c.args.book_rows.now c.args.book_next.now c.args.windows.now) c.requires).rows

slice-aggregate-exchange-3 : tie.Need-slice_bounds-exchange-end-5
slice-aggregate-exchange-3 c = sym (cut (state_of c.args.factor) (tables_of c.args.heads.now c.args.parents.now c.args.rows.now c.args.counts.now c.args.next.now c.args.book_heads.now c.args.book_rows.now c.args.book_next.now c.args.windows.now) c.requires.can-use.usable.long).rows

slice-relend-prefix-exchange-3 : tie.Need-slice_bounds-exchange-end-6
slice-relend-prefix-exchange-3 c = (change-long c.args.factor (tables_of c.args.heads.now c.args.parents.now c.args.rows.now c.args.counts.now c.args.next.now c.args.book_heads.now c.args.book_rows.now c.args.book_next.now c.args.windows.now) c.requires).counts

slice-aggregate-exchange-4 : tie.Need-slice_bounds-exchange-end-7
slice-aggregate-exchange-4 c = sym (cut (state_of c.args.factor) (tables_of c.args.heads.now c.args.parents.now c.args.rows.now c.args.counts.now c.args.next.now c.args.book_heads.now c.args.book_rows.now c.args.book_next.now c.args.windows.now) c.requires.can-use.usable.long).counts

slice-relend-prefix-exchange-4 : tie.Need-slice_bounds-exchange-end-8
slice-relend-prefix-exchange-4 c = (change-long c.args.factor (tables_of c.args.heads.now c.args.parents.now c.args.rows.now c.args.counts.now c.args.next.now c.args.book_heads.now c.args.book_rows.now c.args.book_next.now c.args.windows.now) c.requires).next

slice-aggregate-exchange-5 : tie.Need-slice_bounds-exchange-end-9
slice-aggregate-exchange-5 c = sym (cut (state_of c.args.factor) (tables_of c.args.heads.now c.args.parents.now c.args.rows.now c.args.counts.now c.args.next.now c.args.book_heads.now c.args.book_rows.now c.args.book_next.now c.args.windows.now) c.requires.can-use.usable.long).next

slice-aggregate-exchange-6 : tie.Need-slice_bounds-exchange-end-10
slice-aggregate-exchange-6 c = sym (cut (state_of c.args.factor) (tables_of c.args.heads.now c.args.parents.now c.args.rows.now c.args.counts.now c.args.next.now c.args.book_heads.now c.args.book_rows.now c.args.book_next.now c.args.windows.now) c.requires.can-use.usable.long).book_heads

slice-aggregate-exchange-7 : tie.Need-slice_bounds-exchange-end-11
slice-aggregate-exchange-7 c = sym (cut (state_of c.args.factor) (tables_of c.args.heads.now c.args.parents.now c.args.rows.now c.args.counts.now c.args.next.now c.args.book_heads.now c.args.book_rows.now c.args.book_next.now c.args.windows.now) c.requires.can-use.usable.long).book_rows

slice-aggregate-exchange-8 : tie.Need-slice_bounds-exchange-end-12
slice-aggregate-exchange-8 c = sym (cut (state_of c.args.factor) (tables_of c.args.heads.now c.args.parents.now c.args.rows.now c.args.counts.now c.args.next.now c.args.book_heads.now c.args.book_rows.now c.args.book_next.now c.args.windows.now) c.requires.can-use.usable.long).book_next

mul-exchange : tie.Need-overflow_mul-n
mul-exchange c = search rules

slice-aggregate-exchange-9 : tie.Need-slice_bounds-exchange-end-13
slice-aggregate-exchange-9 c = sym (cut (state_of c.args.factor) (tables_of c.args.heads.now c.args.parents.now c.args.rows.now c.args.counts.now c.args.next.now c.args.book_heads.now c.args.book_rows.now c.args.book_next.now c.args.windows.now) c.requires.can-use.usable.long).windows

exchange-requires : tie.Need-exchange-x-requires
exchange-requires c κs = can-exchange (change-can c.args.factor (tables_of c.args.heads.now c.args.parents.now c.args.rows.now c.args.counts.now c.args.next.now c.args.book_heads.now c.args.book_rows.now c.args.book_next.now c.args.windows.now) c.requires).find

-- ---- it does not fit

clear-requires : tie.Need-clear-requires
clear-requires c κs =
    clock-clear c.args.factor (tables_of c.args.heads.now c.args.parents.now c.args.rows.now c.args.counts.now c.args.next.now c.args.book_heads.now c.args.book_rows.now c.args.book_next.now c.args.windows.now) c.requires c.args.minute (record { parents = c.exchange-x.auto.parents; rows = c.exchange-x.auto.rows; counts = c.exchange-x.auto.counts; next = c.exchange-x.auto.next }) c.exchange-x.ensures

number-requires : tie.Need-number-requires
number-requires c κs = tt

refused-requires : tie.Need-refused-requires
refused-requires c κs = tt

same_length : tie.Need-shape_of-parents-then-not-x
same_length c = joined_length c.args.factor.m c.args.parents.now c.exchange-x.new.parents c.exchange-x.auto.parents

same-length-2 : tie.Need-shape_of-rows-then-not-x
same-length-2 c = joined_length c.args.factor.f c.args.rows.now c.exchange-x.new.rows c.exchange-x.auto.rows

same-length-3 : tie.Need-shape_of-counts-then-not-x
same-length-3 c = joined_length c.args.factor.f c.args.counts.now c.exchange-x.new.counts c.exchange-x.auto.counts

same-length-4 : tie.Need-shape_of-next-then-not-x
same-length-4 c = joined_length c.args.factor.f c.args.next.now c.exchange-x.new.next c.exchange-x.auto.next

same-length-5 : tie.Need-shape_of-work-then-not-x
same-length-5 c = c.clear.auto.work ∙ c.exchange-x.auto.work

returns : tie.Need-returns-then-not-x
returns c =
    clock-refused c.args.factor (tables_of c.args.heads.now c.args.parents.now c.args.rows.now c.args.counts.now c.args.next.now c.args.book_heads.now c.args.book_rows.now c.args.book_next.now c.args.windows.now) c.requires c.args.minute (record { parents = c.exchange-x.auto.parents; rows = c.exchange-x.auto.rows; counts = c.exchange-x.auto.counts; next = c.exchange-x.auto.next }) c.exchange-x.ensures (not-true c.exchange-x.result.fits c.if-not-x.true) c.clear.ensures (subst (λ (n : ℕ). AnswerIs (refused_by (refusal n 0)) (state_of c.args.factor) c.refused.result) c.number.ensures c.refused.ensures)

-- ---- it fits

slice-aggregate-report : tie.Need-slice_bounds-report-end
slice-aggregate-report c = sym (cut (state_of c.args.factor) (tables_of c.args.heads.now c.args.parents.now c.args.rows.now c.args.counts.now c.args.next.now c.args.book_heads.now c.args.book_rows.now c.args.book_next.now c.args.windows.now) c.requires.can-use.usable.long).heads

slice-reshare-prefix-report : tie.Need-slice_bounds-report-end-2
slice-reshare-prefix-report c =
    next-long c.args.factor (tables_of c.args.heads.now c.args.parents.now c.args.rows.now c.args.counts.now c.args.next.now c.args.book_heads.now c.args.book_rows.now c.args.book_next.now c.args.windows.now) c.requires c.args.minute (record { parents = c.exchange-x.auto.parents; rows = c.exchange-x.auto.rows; counts = c.exchange-x.auto.counts; next = c.exchange-x.auto.next }) c.exchange-x.ensures

slice-aggregate-report-2 : tie.Need-slice_bounds-report-end-3
slice-aggregate-report-2 c = sym (length-take-le _ _ (slice-reshare-prefix-report c))

report-requires : tie.Need-report-report-requires
report-requires c κs =
    clock-some c.args.factor (tables_of c.args.heads.now c.args.parents.now c.args.rows.now c.args.counts.now c.args.next.now c.args.book_heads.now c.args.book_rows.now c.args.book_next.now c.args.windows.now) c.requires c.args.minute (record { parents = c.exchange-x.auto.parents; rows = c.exchange-x.auto.rows; counts = c.exchange-x.auto.counts; next = c.exchange-x.auto.next }) c.exchange-x.ensures (not-false c.exchange-x.result.fits c.if-not-x.false)

-- where it fits, the place after the test
clear-requires-2 : tie.Need-clear-requires-2
clear-requires-2 c κs =
    clock-clear c.args.factor (tables_of c.args.heads.now c.args.parents.now c.args.rows.now c.args.counts.now c.args.next.now c.args.book_heads.now c.args.book_rows.now c.args.book_next.now c.args.windows.now) c.requires c.args.minute (record { parents = c.exchange-x.auto.parents; rows = c.exchange-x.auto.rows; counts = c.exchange-x.auto.counts; next = c.exchange-x.auto.next }) c.exchange-x.ensures

clocked-requires : tie.Need-clocked-requires
clocked-requires c κs = tt

same-length-6 : tie.Need-shape_of-parents
same-length-6 c = joined_length c.args.factor.m c.args.parents.now c.exchange-x.new.parents c.exchange-x.auto.parents

same-length-7 : tie.Need-shape_of-rows
same-length-7 c = joined_length c.args.factor.f c.args.rows.now c.exchange-x.new.rows c.exchange-x.auto.rows

same-length-8 : tie.Need-shape_of-counts
same-length-8 c = joined_length c.args.factor.f c.args.counts.now c.exchange-x.new.counts c.exchange-x.auto.counts

same-length-9 : tie.Need-shape_of-next
same-length-9 c = joined_length c.args.factor.f c.args.next.now c.exchange-x.new.next c.exchange-x.auto.next

same-length-10 : tie.Need-shape_of-work
same-length-10 c = c.clear-2.auto.work ∙ c.exchange-x.auto.work

same-length-11 : tie.Need-shape_of-touched
same-length-11 c = c.report-report.auto.touched

same-length-12 : tie.Need-shape_of-labels
same-length-12 c = c.report-report.auto.labels

returns-2 : tie.Need-returns
returns-2 c =
    let x = clock-report c.args.factor (tables_of c.args.heads.now c.args.parents.now c.args.rows.now c.args.counts.now c.args.next.now c.args.book_heads.now c.args.book_rows.now c.args.book_next.now c.args.windows.now) c.requires c.args.minute (record { parents = c.exchange-x.auto.parents; rows = c.exchange-x.auto.rows; counts = c.exchange-x.auto.counts; next = c.exchange-x.auto.next }) c.exchange-x.ensures (not-false c.exchange-x.result.fits c.if-not-x.false) in
    clock-taken c.args.factor (tables_of c.args.heads.now c.args.parents.now c.args.rows.now c.args.counts.now c.args.next.now c.args.book_heads.now c.args.book_rows.now c.args.book_next.now c.args.windows.now) c.requires c.args.minute (record { parents = c.exchange-x.auto.parents; rows = c.exchange-x.auto.rows; counts = c.exchange-x.auto.counts; next = c.exchange-x.auto.next }) c.exchange-x.ensures (not-false c.exchange-x.result.fits c.if-not-x.false) (c.report-report.ensures _ _ _ _ _ _ _ x) c.clear-2.ensures c.clocked.ensures

pub set_clock_unchecked_spec : {M : Type 1} → statement M
set_clock_unchecked_spec =
    tie.close
    (tie.spec
    cast-m
    cast-n
    cast_f
    cast-c
    slice-aggregate-exchange
    slice-relend-prefix-exchange
    slice-aggregate-exchange-2
    slice-relend-prefix-exchange-2
    slice-aggregate-exchange-3
    slice-relend-prefix-exchange-3
    slice-aggregate-exchange-4
    slice-relend-prefix-exchange-4
    slice-aggregate-exchange-5
    slice-aggregate-exchange-6
    slice-aggregate-exchange-7
    slice-aggregate-exchange-8
    mul-exchange
    slice-aggregate-exchange-9
    exchange-requires
    clear-requires
    number-requires
    refused-requires
    same_length
    same-length-2
    same-length-3
    same-length-4
    same-length-5
    returns
    slice-aggregate-report
    slice-reshare-prefix-report
    slice-aggregate-report-2
    report-requires
    clear-requires-2
    clocked-requires
    same-length-6
    same-length-7
    same-length-8
    same-length-9
    same-length-10
    same-length-11
    same-length-12
    returns-2)
