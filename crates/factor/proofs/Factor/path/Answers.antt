-- `Factor::path` meets its contract: refused by its admission, or answered by the unchecked question. Assumes nothing.
use mathlib.Core.Path.{refl}
use Rattle.tables.specs.Tables.{tables_of}
use Rattle.calls.specs.Calls.{ask_path, work_and_list}
use Rattle.factor.specs.Entries.{state_of}
use Rattle.early_refusals.proofs.Tests.{number-not0}
use Rattle.admission.proofs.Admitting.{admitted-usable}
use Rattle.factor.proofs.Asking.{admits-ask, refused-early, list-step}
use Rattle.factor.proofs.Factor.path.Goals as goal

pub returns-in-Err : goal.returns-in-Err
returns-in-Err c =
    rw c.refused.ensures
    (refused-early (admits-ask (state_of c.args.self) (tables_of c.args.heads.now c.args.parents.now c.args.rows.now c.args.counts.now c.args.next.now c.args.book_heads.now c.args.book_rows.now c.args.book_next.now c.args.windows.now) (ask_path c.args.j.0) c.args.place (work_and_list c.args.work.now c.args.list.now)) c.in-Err.ensures (number-not0 c.in-Err.reason) refl)

pub path_unchecked-requires : goal.path_unchecked-requires
path_unchecked-requires c = admitted-usable c.in_default.ensures refl

pub returns : goal.returns
returns c =
    list-step (state_of c.args.self) (tables_of c.args.heads.now c.args.parents.now c.args.rows.now c.args.counts.now c.args.next.now c.args.book_heads.now c.args.book_rows.now c.args.book_next.now c.args.windows.now) c.args.work.now c.in_default.ensures refl (ask_path c.args.j.0) c.args.place c.args.list.now c.path_unchecked.ensures.reply c.path_unchecked.ensures.written
