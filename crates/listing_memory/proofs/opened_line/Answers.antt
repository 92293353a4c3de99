-- `opened_line` meets its contract: 40 bytes are room for either line. Assumes nothing.
use native.Mathlib.Omega.{arith}
use Rattle.listing_show.proofs.Showing.{ok-fits, no-fits}
use Rattle.listing_memory.proofs.opened_line.Goals as goal

pub ok_line-end-requires : goal.ok_line-end-requires
ok_line-end-requires c = ok-fits (omega arith) (omega arith) (omega arith) c.requires

pub no_line-end-requires : goal.no_line-end-requires
no_line-end-requires c = no-fits (omega arith) (omega arith) c.requires
