-- `Factor::meets` meets its contract: refused by its admission, or answered by the unchecked question. Assumes nothing.
use mathlib.Core.Path.{refl}
use Rattle.tables.specs.Tables.{tables_of}
use Rattle.calls.specs.Calls.{ask_meets, work_and_list}
use Rattle.factor.specs.Entries.{state_of}
use Rattle.early_refusals.proofs.Tests.{number-not0}
use Rattle.admission.proofs.Admitting.{admitted-use}
use Rattle.factor.proofs.Asking.{admits-ask, refused-early, kept_step}
use Rattle.factor.proofs.Factor.meets.Goals as goal

pub returns-in-Err : goal.returns-in-Err
returns-in-Err c =
    rw c.refused.ensures
    (refused-early (admits-ask (state_of c.args.self) (tables_of c.args.heads.now c.args.parents.now c.args.rows.now c.args.counts.now c.args.next.now c.args.book_heads.now c.args.book_rows.now c.args.book_next.now c.args.windows.now) (ask_meets c.args.i.0) c.args.place (work_and_list c.args.work.now c.args.list.now)) c.in-Err.ensures (number-not0 c.in-Err.reason) refl)

pub meets_unchecked-requires : goal.meets_unchecked-requires
meets_unchecked-requires c = admitted-use c.in_default.ensures refl

pub returns : goal.returns
returns c =
    kept_step (state_of c.args.self) (tables_of c.args.heads.now c.args.parents.now c.args.rows.now c.args.counts.now c.args.next.now c.args.book_heads.now c.args.book_rows.now c.args.book_next.now c.args.windows.now) c.args.work.now c.in_default.ensures refl (ask_meets c.args.i.0) c.args.place c.args.list.now c.meets_unchecked.ensures.reply c.meets_unchecked.ensures.written c.meets_unchecked.ensures.kept
