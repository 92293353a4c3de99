-- `set_clock` meets its contract: refused by its admission, or handed on to the unchecked twin, by the laws of `answers`. Assumes nothing.
use mathlib.Core.Path.{refl, subst}
use Prim.Native.Nat.{ℕ}
use Rattle.tables.specs.Tables.{tables_of}
use Rattle.calls.specs.Calls.{setting, report_lists}
use Rattle.calls.specs.Refusals.{refusal}
use Rattle.calls.specs.Steps.{refused_by}
use Rattle.early_refusals.proofs.Tests.{number-not0}
use Rattle.factor.specs.Entries.{state_of, world_of}
use Rattle.answers.specs.Answers.{changed_answer, AnswerIs}
use Rattle.answers.proofs.Changing.{admits-change, change-refused, admitted-can, changed-whole}
use Rattle.clock.proofs.set_clock.Goals as goal

pub returns-in-Err : goal.returns-in-Err
returns-in-Err c =
    change-refused c.args.factor (tables_of c.args.heads.now c.args.parents.now c.args.rows.now c.args.counts.now c.args.next.now c.args.book_heads.now c.args.book_rows.now c.args.book_next.now c.args.windows.now)
    (admits-change (state_of c.args.factor) (tables_of c.args.heads.now c.args.parents.now c.args.rows.now c.args.counts.now c.args.next.now c.args.book_heads.now c.args.book_rows.now c.args.book_next.now c.args.windows.now) c.args.work.now c.args.touched.now c.args.labels.now c.short_lists-short.ensures (setting c.args.minute)) c.in-Err.ensures
    (number-not0 c.in-Err.reason) (report_lists c.admit.new.work c.args.touched.now c.args.labels.now) refl
    (subst (λ (n : ℕ). AnswerIs (refused_by (refusal n 0)) (state_of c.args.factor) c.refused.result) c.number.ensures c.refused.ensures)

pub set_clock_unchecked-requires : goal.set_clock_unchecked-requires
set_clock_unchecked-requires c =
    admitted-can (state_of c.args.factor) (tables_of c.args.heads.now c.args.parents.now c.args.rows.now c.args.counts.now c.args.next.now c.args.book_heads.now c.args.book_rows.now c.args.book_next.now c.args.windows.now) c.args.work.now c.args.touched.now c.args.labels.now c.short_lists-short.ensures c.in_default.ensures refl

pub returns : goal.returns
returns c =
    changed-whole (state_of c.args.factor) (tables_of c.args.heads.now c.args.parents.now c.args.rows.now c.args.counts.now c.args.next.now c.args.book_heads.now c.args.book_rows.now c.args.book_next.now c.args.windows.now) c.args.work.now c.args.touched.now c.args.labels.now c.short_lists-short.ensures c.in_default.ensures refl (setting c.args.minute)
    (changed_answer c.set_clock_unchecked.result) (report_lists c.set_clock_unchecked.new.work c.set_clock_unchecked.new.touched c.set_clock_unchecked.new.labels)
    (world_of c.set_clock_unchecked.result.factor
    (tables_of c.args.heads.now c.set_clock_unchecked.new.parents c.set_clock_unchecked.new.rows c.set_clock_unchecked.new.counts c.set_clock_unchecked.new.next c.args.book_heads.now
    c.args.book_rows.now c.args.book_next.now c.args.windows.now)) c.set_clock_unchecked.ensures
