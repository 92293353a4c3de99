-- `questions::path_length` meets its contract. The loop's invariant: for every register with these parents, the rows done and the path of q make up the path
-- of j. The measure is m less the rows done. Assumes nothing.
use Prim.Native.Nat.{◌-◌, ◌≤◌, ◌<◌}
use native.Mathlib.Omega.{arith}
use lib.ListN.{length}
use Rattle.symbolic.specs.Columns.{Register}
use Rattle.questions.specs.Asked.{ParentsFor}
use Rattle.questions.proofs.Following.{step-up, path-short, Following, following-start, following-within, following-turn, following-end}
use Rattle.questions.proofs.path_length.Statement.{statement}
use Rattle.questions.proofs.path_length.Tie as tie

abbrev invariant-loop-q : tie.invariant-loop-q
invariant-loop-q parents q₀ n₀ q n = (r : Register) → ParentsFor parents r → Following parents r q₀ q n

abbrev decreases-loop-q : tie.decreases-loop-q
decreases-loop-q parents q₀ n₀ q n = length parents - n

abbrev entry : tie.In-loop-q invariant-loop-q decreases-loop-q → tie.Start invariant-loop-q decreases-loop-q
entry c = c.before.before

record Facts (c : tie.In-loop-q invariant-loop-q decreases-loop-q) : Type 0 where
  pub low : 1 ≤ c.before.loop-q.q
  pub high : c.before.loop-q.q ≤ length (entry c).args.parents.now
  pub more : c.before.loop-q.n < length (entry c).args.parents.now
  pub narrow : length (entry c).args.parents.now ≤ 4096

facts : (c : tie.In-loop-q invariant-loop-q decreases-loop-q) → Facts c
facts c =
    let p = (entry c).requires in
    let f = p.0.followed in
    let i = c.before.loop-q.invariant p.0.register f in
    let j = (entry c).args.j.0 in
    let u = step-up f c.before.loop-q.q (omega (arith, c.loop-q-test.true)) i.high in
    record {
      low = omega (arith, c.loop-q-test.true);
      high = i.high;
      more = omega (arith, following-within f j p.2 i, u.shorter, path-short f j p.1 p.2);
      narrow = p.0.narrow;
    }

loop-holds : tie.Need-loop-q-init invariant-loop-q decreases-loop-q
loop-holds c = λ r f. following-start f c.args.j.0 c.requires.2

sub-q : tie.Need-overflow_sub-q invariant-loop-q decreases-loop-q
sub-q c = (facts c).low

cast-q : tie.Need-overflow_cast-q invariant-loop-q decreases-loop-q
cast-q c = let f = facts c in omega arith

mul-q : tie.Need-offset_bounds-parents-q invariant-loop-q decreases-loop-q
mul-q c = let f = facts c in omega arith

shared-slice-read-q : tie.Need-bounds-parents-q invariant-loop-q decreases-loop-q
shared-slice-read-q c = let f = facts c.before in omega arith

cast-q-2 : tie.Need-overflow_cast-q-in-loop-q invariant-loop-q decreases-loop-q
cast-q-2 c = omega (arith, c.shared_slice_known-1.given (c.before.before.loop-q.q - 1))

add-n : tie.Need-overflow_add-n invariant-loop-q decreases-loop-q
add-n c = let f = facts c.before in omega arith

loop-less : tie.Need-loop-q-smaller invariant-loop-q decreases-loop-q
loop-less c = let f = facts c.before in omega arith

loop-again : tie.Need-loop-q-preserved invariant-loop-q decreases-loop-q
loop-again c =
    let s = entry c.before in
    λ r f. following-turn f s.args.j.0 s.requires.2 (c.before.before.loop-q.invariant r f) c.before.loop-q-test.true

returns : tie.Need-returns invariant-loop-q decreases-loop-q
returns c = let s = c.before.before in λ r f. following-end f s.args.j.0 s.requires.2 (c.before.loop-q.invariant r f) c.loop-q-test.false

pub path_length_spec : {M : Type 1} → statement M
path_length_spec =
    tie.close
    (tie.spec
    invariant-loop-q
    decreases-loop-q
    loop-holds
    sub-q
    cast-q
    mul-q
    shared-slice-read-q
    cast-q-2
    add-n
    loop-less
    loop-again
    returns)
