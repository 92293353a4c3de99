-- `updown::plan_of` meets its contract: one clearing, and one more where the walk stopped. Assumes nothing.
use mathlib.Core.Path.{refl, ap, ◌∙◌}
use mathlib.Core.Bool.{false≢true}
use mathlib.Core.List.{List}
use Prim.Native.Nat.{ℕ, ◌+◌, ◌*◌}
use borrow.Author.Rules.{rules}
use Rattle.workspace.specs.Regions.{cleared}
use Rattle.updown.proofs.plan_of.Statement.{statement}
use Rattle.updown.proofs.plan_of.Tie as tie

clear-requires : tie.Need-clear-requires
clear-requires c κs = search rules

cast-t10 : tie.Need-overflow_cast-result
cast-t10 c = search rules

same_length : tie.Need-shape_of-work-then-walk
same_length c = search rules

returns : tie.Need-returns-then-walk
returns c = rw c.before.before.if-walk.true (record { table = c.before.before.before.before.before.clear.ensures; fits-is = refl; numbers = λ _. (refl, refl, refl, refl) })

mul-clear : tie.Need-overflow_mul-m
mul-clear c = search rules

add-clear : tie.Need-overflow_add-m
add-clear c = search rules

clear-requires-2 : tie.Need-clear-requires-2
clear-requires-2 c κs = search rules

same-length-2 : tie.Need-shape_of-work
same-length-2 c = search rules

returns-2 : tie.Need-returns
returns-2 c =
    let d = c.before.before.before.before.before in
    let f = d.before.before.before in
    let s = f.before.before.before.args in
    rw d.if-walk.false (record {
      table = c.before.before.clear-2.ensures ∙ ap (λ (w : List ℕ). cleared w 0 (8 * s.m + s.walk.used)) f.clear.ensures;
      fits-is = refl;
      numbers = λ x. absurd (false≢true x);
    })

pub plan_of_spec : {M : Type 1} → statement M
plan_of_spec =
    tie.close
    (tie.spec
    clear-requires
    cast-t10
    same_length
    returns
    mul-clear
    add-clear
    clear-requires-2
    same-length-2
    returns-2)
