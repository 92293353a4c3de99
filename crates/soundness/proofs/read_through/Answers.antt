-- Book and windows are read first, the columns that count are listed, and the stored columns decide the rest (proofs/Preparing.antt).
use Rattle.std.proofs.Common.{sym, ◌∙◌}
use Rattle.soundness.proofs.Preparing.{preparing-list, preparing-done, preparing-answer}
use Rattle.soundness.proofs.read_through.Goals as goal

pub link_columns-requires : goal.link_columns-requires
link_columns-requires c =
    preparing-list c.requires c.read_booked.ensures.work (sym c.read_booked.ensures.answer ∙ c.if-not-read_booked.false) c.args.clock

pub read_factor-requires : goal.read_factor-requires
read_factor-requires c =
    preparing-done c.requires c.read_booked.ensures.work (sym c.read_booked.ensures.answer ∙ c.if-not-read_booked.false) c.args.clock c.link_columns.ensures

pub returns-clause-answer : goal.returns-clause-answer
returns-clause-answer c =
    preparing-answer c.requires c.read_booked.ensures.work (sym c.read_booked.ensures.answer ∙ c.if-not-read_booked.false) c.args.clock
    c.link_columns.ensures c.read_factor.ensures
