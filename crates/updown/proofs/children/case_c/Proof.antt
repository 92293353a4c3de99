-- `updown::children::case_c` meets its contract: what is gathered from the chain and the plan is counted. Assumes nothing.
use mathlib.Core.Path.{refl}
use mathlib.Core.Logic.{inl}
use Prim.Native.Nat.{◌+◌, ◌-◌, ◌*◌}
use native.Mathlib.Omega.{arith}
use Rattle.updown.proofs.AtChild.{child-plan, child-end, child-chain, child-steady, handled-gained}
use Rattle.updown.proofs.Bringing.{column-head, column-rises, grow-read, grown-up, chain-down}
use Rattle.updown.proofs.Gathering.{can-gather, can-count}
use borrow.Author.Rules.{rules}
use Rattle.updown.proofs.children.case_c.Statement.{statement}
use Rattle.updown.proofs.children.case_c.Tie as tie

second-requires : tie.Need-second-r-requires
second-requires c κs = column-head (child-plan c.requires.here (inl refl)).column c.args.adding (child-chain c.requires.here (inl refl) c.requires.columns)

mul-from : tie.Need-overflow_mul-from
mul-from c = search rules

sub-from : tie.Need-overflow_sub-from
sub-from c = search rules

cast-from : tie.Need-overflow_cast-from
cast-from c = search rules

add-from : tie.Need-overflow_add-from
add-from c = search rules

mul-from-2 : tie.Need-offset_bounds-work-m
mul-from-2 c = search rules

slice-read-from : tie.Need-bounds-work-m
slice-read-from c = search rules

cast-from-2 : tie.Need-overflow_cast-from-then-adding
cast-from-2 c = omega (arith, c.slice_known-then-adding-1.given (4 * c.args.m + (c.args.c.0 - 1)))

plan-end-requires : tie.Need-plan_end-to-requires
plan-end-requires c κs = child-end c.requires.here (inl refl)

gather-grown-requires : tie.Need-gather_grown-g-requires
gather-grown-requires c κs = grow-read _ c.second-r.ensures _ c.plan_end-to.ensures _ c.if-adding.true (child-steady c.requires.here) (child-plan c.requires.here (inl refl)) (child-chain c.requires.here (inl refl) c.requires.columns)

count-rows-requires : tie.Need-count_rows-requires
count-rows-requires c κs = can-count c.gather_grown-g.ensures (child-steady c.requires.here)

same_length : tie.Need-shape_of-work-then-adding
same_length c = search rules

returns : tie.Need-returns-then-adding
returns c = λ R W j used H k a o. handled-gained a o (grown-up _ c.second-r.ensures _ c.plan_end-to.ensures _ c.if-adding.true c.gather_grown-g.ensures c.count_rows.ensures (child-plan a (inl refl)) (child-chain a (inl refl) k))

gather-chain-requires : tie.Need-gather_chain-k-requires
gather-chain-requires c κs = (can-gather (child-steady c.requires.here), column-rises (child-plan c.requires.here (inl refl)).column c.args.adding (child-chain c.requires.here (inl refl) c.requires.columns) _ c.second-r.ensures)

count-rows-requires-2 : tie.Need-count_rows-requires-2
count-rows-requires-2 c κs = can-count c.gather_chain-k.ensures (child-steady c.requires.here)

same-length-2 : tie.Need-shape_of-work
same-length-2 c = search rules

returns-2 : tie.Need-returns
returns-2 c = λ R W j used H k a o. handled-gained a o (chain-down _ c.second-r.ensures _ c.if-adding.false c.gather_chain-k.ensures c.count_rows-2.ensures (child-plan a (inl refl)) (child-chain a (inl refl) k))

pub case_c_spec : {M : Type 1} → statement M
case_c_spec =
    tie.close
    (tie.spec
    second-requires
    mul-from
    sub-from
    cast-from
    add-from
    mul-from-2
    slice-read-from
    cast-from-2
    plan-end-requires
    gather-grown-requires
    count-rows-requires
    same_length
    returns
    gather-chain-requires
    count-rows-requires-2
    same-length-2
    returns-2)
