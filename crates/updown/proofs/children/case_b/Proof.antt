-- `updown::children::case_b` meets its contract: what is gathered from the plan is counted. Assumes nothing.
use mathlib.Core.Path.{refl, subst}
use mathlib.Core.Logic.{inl}
use mathlib.Core.List.{List}
use Prim.Native.Nat.{ℕ, ◌+◌, ◌-◌, ◌*◌}
use native.Mathlib.Omega.{arith}
use Rattle.lists.specs.Lists.{among}
use Rattle.workspace.specs.Regions.{cell}
use Rattle.differences.specs.Gather.{rows_of_kind, plan_part, Gathered}
use Rattle.updown.proofs.AtChild.{child-plan, child-end, child-steady, handled-kept}
use Rattle.updown.proofs.Bringing.{plan-read, kept-up, kept-down}
use Rattle.updown.proofs.Gathering.{can-gather, can-count}
use borrow.Author.Rules.{rules}
use Rattle.updown.proofs.children.case_b.Statement.{statement}
use Rattle.updown.proofs.children.case_b.Tie as tie

mul-from : tie.Need-overflow_mul-from
mul-from c = search rules

sub-from : tie.Need-overflow_sub-from
sub-from c = search rules

cast-from : tie.Need-overflow_cast-from
cast-from c = search rules

add-from : tie.Need-overflow_add-from
add-from c = search rules

mul-from-2 : tie.Need-offset_bounds-work-m
mul-from-2 c = search rules

slice-read-from : tie.Need-bounds-work-m
slice-read-from c = search rules

cast-from-2 : tie.Need-overflow_cast-from-2
cast-from-2 c = omega (arith, c.slice_known-2-1.given (4 * c.args.m + (c.args.c.0 - 1)))

plan-end-requires : tie.Need-plan_end-to-requires
plan-end-requires c κs = child-end c.requires.here (inl refl)

number-requires : tie.Need-number-requires
number-requires c κs = tt

-- the rows gathered are those of a kind in a part of the plan
abbrev Rows : (m : ℕ) → (w w₁ : List ℕ) → (g from to kind : ℕ) → Type 0
Rows m w w₁ g from to kind = Gathered m w w₁ g (λ i. among i (rows_of_kind kind (plan_part m w from to)))

gather-plan-requires : tie.Need-gather_plan-g-requires
gather-plan-requires c κs = (can-gather (child-steady c.requires.here), plan-read _ c.plan_end-to.ensures (child-plan c.requires.here (inl refl)))

count-rows-requires : tie.Need-count_rows-requires
count-rows-requires c κs = can-count c.gather_plan-g.ensures (child-steady c.requires.here)

same_length : tie.Need-shape_of-work-then-adding
same_length c = search rules

returns : tie.Need-returns-then-adding
returns c = λ R W j used H a o. handled-kept a o (kept-up _ c.plan_end-to.ensures _ c.if-adding.true (subst (Rows c.args.m c.args.work.now c.gather_plan-g.new.work c.gather_plan-g.result (cell c.args.work.now (4 * c.args.m) (c.args.c.0 - 1)) c.plan_end-to.result) c.number.ensures c.gather_plan-g.ensures) c.count_rows.ensures (child-plan a (inl refl)))

number-requires-2 : tie.Need-number-requires-2
number-requires-2 c κs = tt

gather-plan-requires-2 : tie.Need-gather_plan-k-requires
gather-plan-requires-2 c κs = (can-gather (child-steady c.requires.here), plan-read _ c.plan_end-to.ensures (child-plan c.requires.here (inl refl)))

count-rows-requires-2 : tie.Need-count_rows-requires-2
count-rows-requires-2 c κs = can-count c.gather_plan-k.ensures (child-steady c.requires.here)

same-length-2 : tie.Need-shape_of-work
same-length-2 c = search rules

returns-2 : tie.Need-returns
returns-2 c = λ R W j used H a o. handled-kept a o (kept-down _ c.plan_end-to.ensures _ c.if-adding.false (subst (Rows c.args.m c.args.work.now c.gather_plan-k.new.work c.gather_plan-k.result (cell c.args.work.now (4 * c.args.m) (c.args.c.0 - 1)) c.plan_end-to.result) c.number-2.ensures c.gather_plan-k.ensures) c.count_rows-2.ensures (child-plan a (inl refl)))

pub case_b_spec : {M : Type 1} → statement M
case_b_spec =
    tie.close
    (tie.spec
    mul-from
    sub-from
    cast-from
    add-from
    mul-from-2
    slice-read-from
    cast-from-2
    plan-end-requires
    number-requires
    gather-plan-requires
    count-rows-requires
    same_length
    returns
    number-requires-2
    gather-plan-requires-2
    count-rows-requires-2
    same-length-2
    returns-2)
