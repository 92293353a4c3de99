-- `ancestors::join` meets its contract. The loop's invariant: for every register with these parents, what lies on the paths of a and b lies on those of x and y,
-- both of 1 to m. The measure is what m is above x and above y together. Assumes nothing.
use Prim.Native.Nat.{◌+◌, ◌-◌, ◌≤◌, ◌<◌}
use native.Mathlib.Omega.{arith}
use lib.ListN.{length}
use Rattle.symbolic.specs.Columns.{Register}
use Rattle.questions.specs.Asked.{ParentsFor}
use Rattle.questions.proofs.Nearing.{parent-higher, Nearing, nearing-start, nearing-left, left-root, nearing-right, right-root, nearing-end}
use Rattle.questions.proofs.ancestors.join.Statement.{statement}
use Rattle.questions.proofs.ancestors.join.Tie as tie

abbrev invariant-loop-x : tie.invariant-loop-x
invariant-loop-x parents x₀ y₀ x y = (r : Register) → ParentsFor parents r → Nearing parents r x₀ y₀ x y

abbrev decreases-loop-x : tie.decreases-loop-x
decreases-loop-x parents x₀ y₀ x y = (length parents - x) + (length parents - y)

-- ---- the places, named
record Facts (c : tie.In-loop-x invariant-loop-x decreases-loop-x) : Type 0 where
  pub left-low : 1 ≤ c.loop-x.x
  pub left-high : c.loop-x.x ≤ length c.args.parents.now
  pub right-low : 1 ≤ c.loop-x.y
  pub right-high : c.loop-x.y ≤ length c.args.parents.now
  pub narrow : length c.args.parents.now ≤ 4096

facts : (c : tie.In-loop-x invariant-loop-x decreases-loop-x) → Facts c
facts c =
    let p = c.requires.0 in
    let i = c.loop-x.invariant p.register p.followed in
    record { left-low = i.left-low; left-high = i.left-high; right-low = i.right-low; right-high = i.right-high; narrow = p.narrow }

loop-holds : tie.Need-loop-x-init invariant-loop-x decreases-loop-x
loop-holds c = λ r f. nearing-start f c.args.a.0 c.args.b.0 c.requires.1 c.requires.2 c.requires.3 c.requires.4

-- ---- the first is smaller

sub-x : tie.Need-overflow_sub-x invariant-loop-x decreases-loop-x
sub-x c = (facts c.before).left-low

cast-x : tie.Need-overflow_cast-x invariant-loop-x decreases-loop-x
cast-x c = let f = facts c.before in omega arith

mul-x : tie.Need-offset_bounds-parents-x invariant-loop-x decreases-loop-x
mul-x c = let f = facts c.before in omega arith

shared-slice-read-x : tie.Need-bounds-parents-x invariant-loop-x decreases-loop-x
shared-slice-read-x c = let f = facts c.before.before in omega arith

cast-x-2 : tie.Need-overflow_cast-x-then-x-y invariant-loop-x decreases-loop-x
cast-x-2 c = omega (arith, c.shared_slice_known-1.given (c.loop-x.x - 1))

returns : tie.Need-returns-then-x-eq0 invariant-loop-x decreases-loop-x
returns c =
    let a = c.args in
    λ r f. left-root f a.a.0 a.b.0 (c.loop-x.invariant r f) c.if-x-y.true c.if-x-eq0.true

loop-less : tie.Need-loop-x-smaller-else-x-eq0 invariant-loop-x decreases-loop-x
loop-less c =
    let g = facts c.before.before.before in
    omega (arith, g, parent-higher c.requires.0.followed c.loop-x.x g.left-low g.left-high c.if-x-eq0.false)

loop-again : tie.Need-loop-x-preserved-else-x-eq0 invariant-loop-x decreases-loop-x
loop-again c =
    let a = c.args in
    λ r f. nearing-left f a.a.0 a.b.0 (c.loop-x.invariant r f) c.if-x-y.true c.if-x-eq0.false

-- ---- the second is smaller

sub-y : tie.Need-overflow_sub-y invariant-loop-x decreases-loop-x
sub-y c = (facts c.before).right-low

cast-y : tie.Need-overflow_cast-y invariant-loop-x decreases-loop-x
cast-y c = let f = facts c.before in omega arith

mul-y : tie.Need-offset_bounds-parents-y invariant-loop-x decreases-loop-x
mul-y c = let f = facts c.before in omega arith

shared-slice-read-y : tie.Need-bounds-parents-y invariant-loop-x decreases-loop-x
shared-slice-read-y c = let f = facts c.before.before in omega arith

cast-y-2 : tie.Need-overflow_cast-y-else-x-y invariant-loop-x decreases-loop-x
cast-y-2 c = omega (arith, c.shared_slice_known-else-x-y-1.given (c.loop-x.y - 1))

above : (c : tie.Else-x-y invariant-loop-x decreases-loop-x) → c.loop-x.y < c.loop-x.x
above c = omega (arith, c.loop-x-test.true, c.if-x-y.false)

returns-2 : tie.Need-returns-then-y-eq0 invariant-loop-x decreases-loop-x
returns-2 c =
    let a = c.args in
    λ r f. right-root f a.a.0 a.b.0 (c.loop-x.invariant r f) (above c.before.before) c.if-y-eq0.true

loop-less-2 : tie.Need-loop-x-smaller invariant-loop-x decreases-loop-x
loop-less-2 c =
    let g = facts c.before.before.before in
    omega (arith, g, parent-higher c.requires.0.followed c.loop-x.y g.right-low g.right-high c.if-y-eq0.false)

loop-again-2 : tie.Need-loop-x-preserved invariant-loop-x decreases-loop-x
loop-again-2 c =
    let a = c.args in
    λ r f. nearing-right f a.a.0 a.b.0 (c.loop-x.invariant r f) (above c.before.before) c.if-y-eq0.false

-- ---- they have met

returns-3 : tie.Need-returns invariant-loop-x decreases-loop-x
returns-3 c =
    let a = c.args in
    λ r f. nearing-end f a.a.0 a.b.0 (c.loop-x.invariant r f) c.loop-x-test.false

pub join_spec : {M : Type 1} → statement M
join_spec =
    tie.close
    (tie.spec
    invariant-loop-x
    decreases-loop-x
    loop-holds
    sub-x
    cast-x
    mul-x
    shared-slice-read-x
    cast-x-2
    returns
    loop-less
    loop-again
    sub-y
    cast-y
    mul-y
    shared-slice-read-y
    cast-y-2
    returns-2
    loop-less-2
    loop-again-2
    returns-3)
