-- `steps::grade_of` meets its contract: the match gives one more than the limits that the entries reach, which are at most three. Assumes nothing.
use mathlib.Core.Path.{◌≡◌, refl}
use mathlib.Core.Logic.{◌≢◌}
use Prim.Native.Nat.{ℕ, suc, ◌+◌, ◌≤◌}
use native.Mathlib.Omega.{arith}
use borrow.Author.Rules.{rules}
use borrow.Author.Tests.{eq-eqb}
use Rattle.symbolic.specs.Grades.{Limits, limits_of, grade_of}
use Rattle.steps.proofs.Grading.{count_most, grade-counted}
use Rattle.steps.proofs.grade_of.Statement.{statement}
use Rattle.steps.proofs.grade_of.Tie as tie

abbrev limits_at : tie.After-reaches-fourth → Limits
limits_at c = limits_of c.args.grade2 c.args.grade3 c.args.grade4

-- each limit is reached once or not at all
most : (c : tie.After-reaches-fourth) → (c.reaches-second.result ≤ 1) × (c.reaches-third.result ≤ 1) × (c.reaches-fourth.result ≤ 1)
most c = count_most (limits_at c) c.args.entries c.reaches-second.ensures c.reaches-third.ensures c.reaches-fourth.ensures

-- one more than the limits that are reached is the grade
graded : (c : tie.After-reaches-fourth) {k : ℕ} → c.reaches-second.result + c.reaches-third.result + c.reaches-fourth.result ≡ k →
    suc k ≡ grade_of (limits_at c) c.args.entries
graded c e =
    grade-counted (limits_at c) c.args.entries c.reaches-second.ensures c.reaches-third.ensures c.reaches-fourth.ensures
    c.if-entries-eq0.false e

returns : tie.Need-returns-then-entries-eq0
returns c = rw (eq-eqb _ _ c.if-entries-eq0.true) refl

reaches-requires : tie.Need-reaches-second-requires
reaches-requires c κs = search rules

reaches-requires-2 : tie.Need-reaches-third-requires
reaches-requires-2 c κs = search rules

reaches-requires-3 : tie.Need-reaches-fourth-requires
reaches-requires-3 c κs = search rules

add-match : tie.Need-overflow_add-second
add-match c = let m = most c in omega arith

add-match-2 : tie.Need-overflow_add-second-2
add-match-2 c = let m = most c in omega arith

returns-2 : tie.Need-returns-in-0
returns-2 c = graded c.before c.in-0.is

returns-3 : tie.Need-returns-in-1
returns-3 c = graded c.before c.in-1.is

returns-4 : tie.Need-returns-in-2
returns-4 c = graded c.before c.in-2.is

returns-5 : tie.Need-returns-in_default
returns-5 c =
    let m = most c.before in
    let n : ℕ = c.reaches-second.result + c.reaches-third.result + c.reaches-fourth.result in
    let a : n ≢ 0 = c.in_default.in_default-own.rest.0.0.1 in
    let b : n ≢ 1 = c.in_default.in_default-own.rest.0.1 in
    let d : n ≢ 2 = c.in_default.in_default-own.rest.1 in
    graded c.before (omega arith)

pub grade_of_spec : {M : Type 1} → statement M
grade_of_spec =
    tie.close
    (tie.spec
    returns
    reaches-requires
    reaches-requires-2
    reaches-requires-3
    add-match
    add-match-2
    returns-2
    returns-3
    returns-4
    returns-5)
