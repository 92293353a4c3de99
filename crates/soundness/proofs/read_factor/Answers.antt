-- The columns by rising number (first-state of proofs/Columns.antt), their last records compared, then the records that they do not have (last-shared and
-- last-answer of proofs/ReadThrough.antt).
use Rattle.std.proofs.Common.{refl, sym, arith}
use Rattle.soundness.proofs.Columns.{first-state, first_some}
use Rattle.soundness.proofs.ReadThrough.{some_after, last-compare, last_within, last-can, last-shared, last-answer}
use Rattle.soundness.proofs.read_factor.Goals as goal

pub read_columns-requires : goal.read_columns-requires
read_columns-requires c = first_some c.requires

pub returns-in_default : goal.returns-in_default
returns-in_default c =
    record {
      only = c.read_columns.ensures.only;
      answer = λ windows clock p. sym (c.read_columns.ensures.cut c.in_default.is windows clock (first-state p));
    }

pub overflow_sub-left : goal.overflow_sub-left
overflow_sub-left c = omega (arith, last_within (some_after c.in-Some.ensures refl c.requires).state)

pub are_apart-requires : goal.are_apart-requires
are_apart-requires c = last-compare (some_after c.in-Some.ensures refl c.requires).state

pub read_free-requires : goal.read_free-requires
read_free-requires c = last-can (some_after c.in-Some.ensures refl c.requires).state

pub returns-then-are_apart : goal.returns-then-are_apart
returns-then-are_apart c =
    last-answer c.in-Some.ensures refl c.are_apart.ensures c.if-are_apart.true c.read_free.ensures.answer c.read_free.ensures.work

pub returns-else-are_apart : goal.returns-else-are_apart
returns-else-are_apart c = rw c.if-are_apart.false (last-shared c.in-Some.ensures refl c.are_apart.ensures c.if-are_apart.false)
