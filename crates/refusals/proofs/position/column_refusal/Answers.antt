-- `position::column_refusal` meets its contract: an id that is not refused has a head. Assumes nothing.
use mathlib.Core.Path.{refl}
use lib.ListN.{length}
use Rattle.refusals.proofs.Parts.{id_range}
use Rattle.refusals.proofs.position.column_refusal.Goals as goal

pub is_booked-requires : goal.is_booked-requires
is_booked-requires c = id_range (length c.args.book_heads.now) c.args.ids.now c.args.k c.in_ok-id_refusal.ensures refl
