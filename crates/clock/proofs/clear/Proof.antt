-- `clock::clear` meets its contract: the places that it clears lie in the work table, and which they are goes by whether records were saved. Assumes nothing.
use native.Mathlib.Omega.{arith}
use Rattle.clock.proofs.clear.Statement.{statement}
use Rattle.clock.proofs.clear.Tie as tie

-- ---- the places, named

abbrev in-saved : tie.After-clear-arg-1 → tie.Start
in-saved c = c.before.before.before

abbrev in-gathered : tie.After-clear-arg-else-saved-1 → tie.Start
in-gathered c = c.before.before.before

mul-clear : tie.Need-overflow_mul-m
mul-clear c = omega (arith, (in-saved c).requires.m-bound)

add-clear : tie.Need-overflow_add-m
add-clear c = omega (arith, (in-saved c).requires.m-bound, (in-saved c).requires.f-bound)

mul-clear-2 : tie.Need-overflow_mul-f
mul-clear-2 c = omega (arith, (in-saved c).requires.f-bound)

clear-requires : tie.Need-clear-requires
clear-requires c κs = omega (arith, (in-saved c).requires.long)

mul-clear-3 : tie.Need-overflow_mul-m-else-saved
mul-clear-3 c = omega (arith, (in-gathered c).requires.m-bound)

add-clear-2 : tie.Need-overflow_add-m-else-saved
add-clear-2 c = omega (arith, (in-gathered c).requires.m-bound, (in-gathered c).requires.f-bound)

mul-clear-4 : tie.Need-overflow_mul-f-else-saved
mul-clear-4 c = omega (arith, (in-gathered c).requires.f-bound)

add-clear-3 : tie.Need-overflow_add-m-else-saved-2
add-clear-3 c = omega (arith, (in-gathered c).requires.m-bound, (in-gathered c).requires.f-bound)

clear-requires-2 : tie.Need-clear-requires-else-saved
clear-requires-2 c κs = omega (arith, (in-gathered c).requires.long, (in-gathered c).requires.room)

same_length : tie.Need-shape_of-work-then-saved
same_length c = c.before.before.clear.auto.work

returns : tie.Need-returns-then-saved
returns c = let k = c.before.before in rw k.before.before.if-saved.true k.clear.ensures

same-length-2 : tie.Need-shape_of-work-else-saved
same-length-2 c = c.before.before.clear-else-saved.auto.work

returns-2 : tie.Need-returns-else-saved
returns-2 c = let k = c.before.before in rw k.before.before.if-saved.false k.clear-else-saved.ensures

pub clear_spec : {M : Type 1} → statement M
clear_spec =
    tie.close
    (tie.spec
    mul-clear
    add-clear
    mul-clear-2
    clear-requires
    mul-clear-3
    add-clear-2
    mul-clear-4
    add-clear-3
    clear-requires-2
    same_length
    returns
    same-length-2
    returns-2)
