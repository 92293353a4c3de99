-- Pieces laid out can be walked and added, and the sum says how long the chain is.
use Rattle.free_chain.proofs.Reaching.{cuts-room, room-same, laid-round, pieces-add, adds-free}
use Rattle.free_chain.proofs.pieces.reach.Goals as goal

pub rounds-requires : goal.rounds-requires
rounds-requires c =
    laid-round c.requires (room-same (cuts-room _ _ c.requires.small c.if-scratch-cuts.false) c.lay-n.auto.scratch) c.lay-n.ensures c.if-next-head.false

pub add_up-requires : goal.add_up-requires
add_up-requires c =
    pieces-add c.requires (room-same (cuts-room _ _ c.requires.small c.if-scratch-cuts.false) c.lay-n.auto.scratch) c.lay-n.ensures c.if-next-head.false
    c.rounds.ensures c.rounds.auto.scratch

pub returns : goal.returns
returns c =
    adds-free c.requires (room-same (cuts-room _ _ c.requires.small c.if-scratch-cuts.false) c.lay-n.auto.scratch) c.lay-n.ensures c.if-next-head.false
    c.rounds.ensures _ _ c.add_up.ensures
