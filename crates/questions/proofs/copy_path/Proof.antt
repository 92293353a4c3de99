-- `questions::copy_path` meets its contract. The loop's invariant: for every register with these parents, the rows done stand at the front of the list and
-- make up, with the path of q, the path of j. The measure is m less the rows done. Assumes nothing.
use Prim.Native.Nat.{◌-◌, ◌≤◌, ◌<◌}
use native.Mathlib.Omega.{arith}
use lib.ListN.{length}
use Rattle.symbolic.specs.Columns.{Register}
use Rattle.questions.specs.Asked.{ParentsFor}
use Rattle.questions.proofs.Following.{step-up, path-short, following-within, Climbing, climbing-start, climbing-long, climbing-turn, climbing-end}
use Rattle.questions.proofs.copy_path.Statement.{statement}
use Rattle.questions.proofs.copy_path.Tie as tie

abbrev invariant-loop-q : tie.invariant-loop-q
invariant-loop-q parents list₀ q₀ k₀ list q k = (r : Register) → ParentsFor parents r → Climbing parents list₀ r q₀ list q k

abbrev decreases-loop-q : tie.decreases-loop-q
decreases-loop-q parents list₀ q₀ k₀ list q k = length parents - k

abbrev entry : tie.In-loop-q invariant-loop-q decreases-loop-q → tie.Start invariant-loop-q decreases-loop-q
entry c = c.before.before

record Facts (c : tie.In-loop-q invariant-loop-q decreases-loop-q) : Type 0 where
  pub low : 1 ≤ c.before.loop-q.q
  pub high : c.before.loop-q.q ≤ length (entry c).args.parents.now
  pub more : c.before.loop-q.k < length (entry c).args.parents.now
  pub room : c.before.loop-q.k < length c.before.loop-q.list
  pub narrow : length (entry c).args.parents.now ≤ 4096

facts : (c : tie.In-loop-q invariant-loop-q decreases-loop-q) → Facts c
facts c =
    let p = (entry c).requires in
    let r = p.0.register in
    let f = p.0.followed in
    let i = c.before.loop-q.invariant r f in
    let j = (entry c).args.j.0 in
    let u = step-up f c.before.loop-q.q (omega (arith, c.loop-q-test.true)) i.following.high in
    record {
      low = omega (arith, c.loop-q-test.true);
      high = i.following.high;
      more = omega (arith, following-within f j p.2 i.following, u.shorter, path-short f j p.1 p.2);
      room = omega (arith, following-within f j p.2 i.following, u.shorter, p.3 r f, climbing-long f j p.2 (p.3 r f) i);
      narrow = p.0.narrow;
    }

loop-holds : tie.Need-loop-q-init invariant-loop-q decreases-loop-q
loop-holds c = λ r f. climbing-start f c.args.j.0 c.requires.2

mul-list : tie.Need-offset_bounds-list-k invariant-loop-q decreases-loop-q
mul-list c = let f = facts c in omega arith

slice-write-list : tie.Need-bounds-list-k invariant-loop-q decreases-loop-q
slice-write-list c = (facts c).room

sub-q : tie.Need-overflow_sub-q invariant-loop-q decreases-loop-q
sub-q c = (facts c).low

cast-q : tie.Need-overflow_cast-q invariant-loop-q decreases-loop-q
cast-q c = let f = facts c in omega arith

mul-q : tie.Need-offset_bounds-parents-q invariant-loop-q decreases-loop-q
mul-q c = let f = facts c in omega arith

shared-slice-read-q : tie.Need-bounds-parents-q invariant-loop-q decreases-loop-q
shared-slice-read-q c = let f = facts c.before in omega arith

cast-q-2 : tie.Need-overflow_cast-q-in-loop-q invariant-loop-q decreases-loop-q
cast-q-2 c = omega (arith, c.shared_slice_known-1.given (c.before.before.loop-q.q - 1))

add-k : tie.Need-overflow_add-k invariant-loop-q decreases-loop-q
add-k c = let f = facts c.before in omega arith

loop-less : tie.Need-loop-q-smaller invariant-loop-q decreases-loop-q
loop-less c = let f = facts c.before in omega arith

loop-again : tie.Need-loop-q-preserved invariant-loop-q decreases-loop-q
loop-again c =
    let s = entry c.before in
    λ r f. climbing-turn f s.args.j.0 s.requires.2 (s.requires.3 r f) (c.before.before.loop-q.invariant r f) c.before.loop-q-test.true

same_length : tie.Need-shape_of-list invariant-loop-q decreases-loop-q
same_length c =
    let s = c.before.before in
    let r = s.requires.0.register in
    let f = s.requires.0.followed in
    climbing-long f s.args.j.0 s.requires.2 (s.requires.3 r f) (c.before.loop-q.invariant r f)

returns : tie.Need-returns invariant-loop-q decreases-loop-q
returns c =
    let s = c.before.before in
    λ r f. climbing-end f s.args.j.0 s.requires.2 (s.requires.3 r f) (c.before.loop-q.invariant r f) c.loop-q-test.false

pub copy_path_spec : {M : Type 1} → statement M
copy_path_spec =
    tie.close
    (tie.spec
    invariant-loop-q
    decreases-loop-q
    loop-holds
    mul-list
    slice-write-list
    sub-q
    cast-q
    mul-q
    shared-slice-read-q
    cast-q-2
    add-k
    loop-less
    loop-again
    same_length
    returns)
