-- `updown::children::lost_child` meets its contract: what is gathered from the chain and the plan is counted. Assumes nothing.
use mathlib.Core.Path.{refl}
use mathlib.Core.Logic.{inr}
use Prim.Native.Nat.{◌+◌, ◌-◌, ◌*◌}
use native.Mathlib.Omega.{arith}
use Rattle.updown.proofs.AtChild.{child-plan, child-end, child-chain, child-steady, handled-lost}
use Rattle.updown.proofs.Bringing.{column-head, column-rises, plan-read, chain-lost, pruned-up}
use Rattle.updown.proofs.Gathering.{can-gather, can-count}
use borrow.Author.Rules.{rules}
use Rattle.updown.proofs.children.lost_child.Statement.{statement}
use Rattle.updown.proofs.children.lost_child.Tie as tie

second-requires : tie.Need-second-r-requires
second-requires c κs = column-head (child-plan c.requires.here (inr refl)).column c.args.adding (child-chain c.requires.here (inr refl) c.requires.columns)

gather-chain-requires : tie.Need-gather_chain-g-requires
gather-chain-requires c κs = (can-gather (child-steady c.requires.here), column-rises (child-plan c.requires.here (inr refl)).column c.args.adding (child-chain c.requires.here (inr refl) c.requires.columns) _ c.second-r.ensures)

count-rows-requires : tie.Need-count_rows-requires
count-rows-requires c κs = can-count c.gather_chain-g.ensures (child-steady c.requires.here)

same_length : tie.Need-shape_of-work-then-adding
same_length c = search rules

returns : tie.Need-returns-then-adding
returns c = λ R W j used H k a. handled-lost a (chain-lost _ c.second-r.ensures _ c.if-adding.true c.gather_chain-g.ensures c.count_rows.ensures (child-plan a (inr refl)) (child-chain a (inr refl) k))

mul-from : tie.Need-overflow_mul-from
mul-from c = search rules

sub-from : tie.Need-overflow_sub-from
sub-from c = search rules

cast-from : tie.Need-overflow_cast-from
cast-from c = search rules

add-from : tie.Need-overflow_add-from
add-from c = search rules

mul-from-2 : tie.Need-offset_bounds-work-m
mul-from-2 c = search rules

slice-read-from : tie.Need-bounds-work-m
slice-read-from c = search rules

cast-from-2 : tie.Need-overflow_cast-from-2
cast-from-2 c = omega (arith, c.slice_known-2-1.given (4 * c.args.m + (c.args.c.0 - 1)))

plan-end-requires : tie.Need-plan_end-to-requires
plan-end-requires c κs = child-end c.requires.here (inr refl)

gather-pruned-requires : tie.Need-gather_pruned-k-requires
gather-pruned-requires c κs = (can-gather (child-steady c.requires.here), column-rises (child-plan c.requires.here (inr refl)).column c.args.adding (child-chain c.requires.here (inr refl) c.requires.columns) _ c.second-r.ensures, plan-read _ c.plan_end-to.ensures (child-plan c.requires.here (inr refl)))

count-rows-requires-2 : tie.Need-count_rows-requires-2
count-rows-requires-2 c κs = can-count c.gather_pruned-k.ensures (child-steady c.requires.here)

same-length-2 : tie.Need-shape_of-work
same-length-2 c = search rules

returns-2 : tie.Need-returns
returns-2 c = λ R W j used H k a. handled-lost a (pruned-up _ c.second-r.ensures _ c.plan_end-to.ensures _ c.if-adding.false c.gather_pruned-k.ensures c.count_rows-2.ensures (child-plan a (inr refl)) (child-chain a (inr refl) k))

pub lost_child_spec : {M : Type 1} → statement M
lost_child_spec =
    tie.close
    (tie.spec
    second-requires
    gather-chain-requires
    count-rows-requires
    same_length
    returns
    mul-from
    sub-from
    cast-from
    add-from
    mul-from-2
    slice-read-from
    cast-from-2
    plan-end-requires
    gather-pruned-requires
    count-rows-requires-2
    same-length-2
    returns-2)
