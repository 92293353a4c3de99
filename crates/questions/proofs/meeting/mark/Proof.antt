-- `meeting::mark` meets its contract. The loop's invariant is `Marking`: the columns above j are marked and counted. The measure is j. Assumes nothing.
use mathlib.Core.Path.{sym, ◌∙◌}
use Prim.Native.Nat.{◌-◌, ◌≤◌, ◌<◌}
use native.Mathlib.Omega.{arith}
use lib.ListN.{length, set, length-set}
use Rattle.questions.proofs.Marking.{Marking, marking-start, marking-short, marking-long, marking-take, marking-pass, marking-number, marking-all, marking-only}
use Rattle.questions.proofs.meeting.mark.Statement.{statement}
use Rattle.questions.proofs.meeting.mark.Tie as tie

abbrev invariant-loop-j : tie.invariant-loop-j
invariant-loop-j heads parents rows counts next work₀ i top n₀ j₀ work n j = Marking heads parents rows counts next work₀ top work n j

abbrev decreases-loop-j : tie.decreases-loop-j
decreases-loop-j heads parents rows counts next work₀ i top n₀ j₀ work n j = j

-- ---- the places, named
-- row i is one of 1 to m, and the work table has a place for each column, before and after row i is marked
record Facts (s : tie.Start invariant-loop-j decreases-loop-j) : Type 0 where
  pub low : 1 ≤ s.args.i.0
  pub high : s.args.i.0 ≤ length s.args.heads.now
  pub room : length s.args.heads.now ≤ length s.args.work.now
  pub room-marked : length s.args.heads.now ≤ length (set s.args.work.now (s.args.i.0 - 1) 1)
  pub narrow : length s.args.heads.now ≤ 4096

facts : (s : tie.Start invariant-loop-j decreases-loop-j) → Facts s
facts s =
    let p = s.requires in
    record {
      low = p.1;
      high = p.2;
      room = p.0.room;
      room-marked = omega (arith, p.0.room, length-set s.args.work.now (s.args.i.0 - 1) 1);
      narrow = p.0.climb.ask.narrow;
    }

-- column j is one of 1 to i - 1
record Here (c : tie.In-loop-j invariant-loop-j decreases-loop-j) : Type 0 where
  pub low : 1 ≤ c.loop-j.j
  pub below : c.loop-j.j < c.args.i.0
  pub high : c.args.i.0 ≤ length c.args.heads.now
  pub room : length c.args.heads.now ≤ length c.loop-j.work
  pub few : c.loop-j.n ≤ 4096
  pub narrow : length c.args.heads.now ≤ 4096

here : (c : tie.In-loop-j invariant-loop-j decreases-loop-j) → Here c
here c =
    let f = facts c.before.before.before.before.before.before.before.before in
    let i = c.args.i.0 in
    let v = c.loop-j.invariant in
    record {
      low = omega (arith, c.loop-j-test.true);
      below = v.below;
      high = f.high;
      room = omega (arith, f.room-marked, marking-long i f.low f.high f.room-marked v);
      few = omega (arith, marking-short i f.low f.high f.room-marked v, f.high, f.narrow);
      narrow = f.narrow;
    }

sub-work : tie.Need-overflow_sub-work invariant-loop-j decreases-loop-j
sub-work c = (facts c.before.before.before.before.before.before).low

cast-work : tie.Need-overflow_cast-work invariant-loop-j decreases-loop-j
cast-work c = let f = facts c.before.before.before.before.before.before in omega arith

mul-work : tie.Need-offset_bounds-work-top invariant-loop-j decreases-loop-j
mul-work c = let f = facts c.before.before.before.before.before.before in omega arith

slice-write-work : tie.Need-bounds-work-top invariant-loop-j decreases-loop-j
slice-write-work c = let f = facts c.before.before.before.before.before.before in omega arith

sub-j : tie.Need-overflow_sub-j invariant-loop-j decreases-loop-j
sub-j c = (facts c.before.before.before.before.before.before).low

loop-holds : tie.Need-loop-j-init invariant-loop-j decreases-loop-j
loop-holds c =
    let f = facts c.before.before.before.before.before.before in
    marking-start c.args.i.0 f.low f.high c.args.work.now f.room c.requires.0.zero

holds-row-requires : tie.Need-holds_row-requires invariant-loop-j decreases-loop-j
holds-row-requires c κs = let h = here c in (c.requires.0.climb, h.low, h.below, h.high, h.room)

sub-work-2 : tie.Need-overflow_sub-work-then-holds_row invariant-loop-j decreases-loop-j
sub-work-2 c = (here c.before.before).low

cast-work-2 : tie.Need-overflow_cast-work-then-holds_row invariant-loop-j decreases-loop-j
cast-work-2 c = let h = here c.before.before in omega arith

mul-work-2 : tie.Need-offset_bounds-work-j invariant-loop-j decreases-loop-j
mul-work-2 c = let h = here c.before.before in omega arith

slice-write-work-2 : tie.Need-bounds-work-j invariant-loop-j decreases-loop-j
slice-write-work-2 c = let h = here c.before.before in omega arith

add-n : tie.Need-overflow_add-n invariant-loop-j decreases-loop-j
add-n c = let h = here c.before.before in omega arith

sub-j-2 : tie.Need-overflow_sub-j-then-holds_row invariant-loop-j decreases-loop-j
sub-j-2 c = (here c.before.before).low

loop-less : tie.Need-loop-j-smaller-then-holds_row invariant-loop-j decreases-loop-j
loop-less c = let h = here c.before.before in omega arith

loop-again : tie.Need-loop-j-preserved-then-holds_row invariant-loop-j decreases-loop-j
loop-again c =
    let f = facts c.before.before.before.before.before.before.before.before.before.before in
    marking-take c.args.i.0 f.low f.high f.room-marked c.loop-j.invariant (here c.before.before).low
    (λ r t k. sym (c.holds_row.ensures r t k) ∙ c.if-holds_row.true)

sub-j-3 : tie.Need-overflow_sub-j-else-holds_row invariant-loop-j decreases-loop-j
sub-j-3 c = (here c.before.before).low

loop-less-2 : tie.Need-loop-j-smaller invariant-loop-j decreases-loop-j
loop-less-2 c = let h = here c.before.before in omega arith

loop-again-2 : tie.Need-loop-j-preserved invariant-loop-j decreases-loop-j
loop-again-2 c =
    let f = facts c.before.before.before.before.before.before.before.before.before.before in
    marking-pass c.args.i.0 f.low f.high f.room-marked c.loop-j.invariant (here c.before.before).low
    (λ r t k. sym (c.holds_row.ensures r t k) ∙ c.if-holds_row.false)

same_length : tie.Need-shape_of-work invariant-loop-j decreases-loop-j
same_length c =
    let f = facts c.before.before.before.before.before.before.before.before in
    marking-long c.args.i.0 f.low f.high f.room-marked c.loop-j.invariant ∙ length-set c.args.work.now (c.args.i.0 - 1) 1

returns : tie.Need-returns invariant-loop-j decreases-loop-j
returns c =
    let f = facts c.before.before.before.before.before.before.before.before in
    let i = c.args.i.0 in
    let v = c.loop-j.invariant in (
      marking-number i f.low f.high f.room-marked v c.loop-j-test.false,
      (λ r t. marking-all i f.low f.high f.room-marked v c.loop-j-test.false r t, marking-only i f.low v),
    )

pub mark_spec : {M : Type 1} → statement M
mark_spec =
    tie.close
    (tie.spec
    invariant-loop-j
    decreases-loop-j
    sub-work
    cast-work
    mul-work
    slice-write-work
    sub-j
    loop-holds
    holds-row-requires
    sub-work-2
    cast-work-2
    mul-work-2
    slice-write-work-2
    add-n
    sub-j-2
    loop-less
    loop-again
    sub-j-3
    loop-less-2
    loop-again-2
    same_length
    returns)
