-- `exchange::undo` meets its contract: the records, then the parents, by snapshot's laws. Assumes nothing.
use Rattle.std.proofs.Common.{arith, ◌∙◌}
use Rattle.snapshot.proofs.Kept.{can-unpair, records-back, parents-back}
use Rattle.exchange.proofs.undo.Goals as goal

pub restore_records-requires : goal.restore_records-requires
restore_records-requires c = can-unpair c.requires.can.records

pub restore_parents-requires : goal.restore_parents-requires
restore_parents-requires c = let p = c.requires.can in omega (arith, p.parents-kept.inside, p.parents-long)

pub returns-clause-done : goal.returns-clause-done
returns-clause-done c = λ ps xs ns ls r.
    record {
      records = records-back r.records c.restore_records.auto.next c.restore_records.ensures;
      parents-are = parents-back r.parents-kept (c.restore_parents.auto.parents ∙ r.parents-long) c.restore_parents.ensures;
    }
