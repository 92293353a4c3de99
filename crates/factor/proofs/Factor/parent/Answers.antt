-- `Factor::parent` meets its contract: refused by its admission, or answered by the unchecked question. Assumes nothing.
use mathlib.Core.Path.{refl}
use Rattle.tables.specs.Tables.{tables_of}
use Rattle.calls.specs.Calls.{ask_parent, work_only}
use Rattle.factor.specs.Entries.{state_of}
use Rattle.early_refusals.proofs.Tests.{number-not0}
use Rattle.admission.proofs.Admitting.{admitted-usable}
use Rattle.factor.proofs.Asking.{admits-ask, refused-early, plain_step}
use Rattle.factor.proofs.Factor.parent.Goals as goal

pub returns-in-Err : goal.returns-in-Err
returns-in-Err c =
    rw c.refused.ensures
    (refused-early (admits-ask (state_of c.args.self) (tables_of c.args.heads.now c.args.parents.now c.args.rows.now c.args.counts.now c.args.next.now c.args.book_heads.now c.args.book_rows.now c.args.book_next.now c.args.windows.now) (ask_parent c.args.j.0) 0 (work_only c.args.work.now)) c.in-Err.ensures (number-not0 c.in-Err.reason) refl)

pub parent_unchecked-requires : goal.parent_unchecked-requires
parent_unchecked-requires c = admitted-usable c.in_default.ensures refl

pub returns : goal.returns
returns c =
    plain_step (state_of c.args.self) (tables_of c.args.heads.now c.args.parents.now c.args.rows.now c.args.counts.now c.args.next.now c.args.book_heads.now c.args.book_rows.now c.args.book_next.now c.args.windows.now) c.args.work.now c.in_default.ensures refl (ask_parent c.args.j.0) refl c.parent_unchecked.ensures
