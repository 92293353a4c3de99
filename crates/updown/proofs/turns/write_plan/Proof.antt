-- `updown::turns::write_plan` meets its contract: the head of the column, then its plan from there. Assumes nothing.
use Rattle.updown.proofs.Columning.{emit-ready, planned}
use native.Mathlib.Omega.{arith}
use borrow.Author.Rules.{rules}
use Rattle.updown.proofs.turns.write_plan.Statement.{statement}
use Rattle.updown.proofs.turns.write_plan.Tie as tie

sub-t12 : tie.Need-overflow_sub-h
sub-t12 c = search rules

cast-t13 : tie.Need-overflow_cast-h
cast-t13 c = search rules

mul-t14 : tie.Need-offset_bounds-columns-j
mul-t14 c = search rules

shared-slice-read-t16 : tie.Need-bounds-columns-j
shared-slice-read-t16 c =
    let s = c.requires in
    omega (arith, s.low, s.high, (s.columns.chains _ s.low s.high).heads-long)

emit-requires : tie.Need-emit-requires
emit-requires c κs =
    let s = c.requires in
    emit-ready s.columns s.multiplicities s.low s.high s.definition _ c.args.avail.0 s.linked s.room s.long

same_length : tie.Need-shape_of-work
same_length c = search rules

returns : tie.Need-returns
returns c =
    let s = c in
    λ R W adding k q f r. planned k q s.requires.low s.requires.high f _ s.args.avail.0 s.requires.linked r s.requires.long c.emit.ensures

pub write_plan_spec : {M : Type 1} → statement M
write_plan_spec =
    tie.close
    (tie.spec sub-t12 cast-t13 mul-t14 shared-slice-read-t16 emit-requires same_length returns)
