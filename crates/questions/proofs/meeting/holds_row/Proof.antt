-- `meeting::holds_row` meets its contract: the parent decides, or the mark of the parent, or the search of the column. Assumes nothing.
use mathlib.Core.Path.{◌≡◌}
use mathlib.Core.Logic.{◌≢◌}
use Prim.Native.Nat.{◌-◌, ◌≤◌, ◌<◌}
use native.Mathlib.Omega.{arith}
use lib.ListN.{length}
use Rattle.lists.specs.Lists.{at}
use Rattle.questions.proofs.Reading.{can-count}
use Rattle.questions.proofs.Marking.{row-parent, row-root, row-above, row-unmarked, row-counted}
use Rattle.questions.proofs.meeting.holds_row.Statement.{statement}
use Rattle.questions.proofs.meeting.holds_row.Tie as tie

-- ---- the places, named
abbrev read : tie.After-shared_slice_known-7-1 → tie.Start
read c = c.before.before.before.before.before.before.before.before

record Facts (s : tie.Start) : Type 0 where
  pub low : 1 ≤ s.args.j.0
  pub below : s.args.j.0 < s.args.i.0
  pub high : s.args.i.0 ≤ length s.args.heads.now
  pub parents-long : length s.args.parents.now ≡ length s.args.heads.now
  pub room : length s.args.heads.now ≤ length s.args.work.now
  pub narrow : length s.args.heads.now ≤ 4096

facts : (s : tie.Start) → Facts s
facts s =
    let p = s.requires in
    record {
      low = p.1;
      below = p.2;
      high = p.3;
      parents-long = omega (arith, p.0.ask.held.size, p.0.parents-are.size);
      room = p.4;
      narrow = p.0.ask.narrow;
    }

-- the parent that was read, one of 1 to i
record Parent (c : tie.Else-row-p) : Type 0 where
  pub some : at c.args.parents.now c.args.j.0 ≢ 0
  pub high : at c.args.parents.now c.args.j.0 ≤ c.args.i.0

parent : (c : tie.Else-row-p) → Parent c
parent c = record { some = c.if-p-eq0.false; high = c.if-row-p.false }

sub-k : tie.Need-overflow_sub-k
sub-k c = (facts c.before.before.before.before.before.before.before).low

cast-k : tie.Need-overflow_cast-k
cast-k c = let f = facts c.before.before.before.before.before.before.before in omega arith

mul-p : tie.Need-offset_bounds-parents-k
mul-p c = let f = facts c.before.before.before.before.before.before.before in omega arith

shared-slice-read-p : tie.Need-bounds-parents-k
shared-slice-read-p c = let f = facts c.before.before.before.before.before.before.before.before in omega arith

cast-p : tie.Need-overflow_cast-p
cast-p c = omega (arith, c.shared_slice_known-7-1.given (c.args.j.0 - 1))

returns : tie.Need-returns-then-p-row
returns c =
    let f = facts c.before.before.before.before.before.before.before.before.before in
    λ r t k. row-parent t c.args.i.0 c.args.j.0 f.low f.below f.high c.if-p-row.true

returns-2 : tie.Need-returns-then-p-eq0
returns-2 c =
    let f = facts c.before.before.before.before.before.before.before.before.before.before in
    λ r t k. row-root t c.args.i.0 c.args.j.0 f.low f.below f.high c.if-p-eq0.true

returns-3 : tie.Need-returns-then-row-p
returns-3 c =
    let f = facts c.before.before.before.before.before.before.before.before.before.before.before in
    λ r t k. row-above t c.args.i.0 c.args.j.0 f.low f.below f.high c.if-row-p.true

sub-if4 : tie.Need-overflow_sub-p
sub-if4 c = omega (arith, (parent c).some)

cast-if4 : tie.Need-overflow_cast-p-2
cast-if4 c = let f = facts c.before.before.before.before.before.before.before.before.before.before.before in omega (arith, (parent c).high)

mul-if4 : tie.Need-offset_bounds-work-p
mul-if4 c = let f = facts c.before.before.before.before.before.before.before.before.before.before.before in omega (arith, (parent c).high)

shared-slice-read-if4 : tie.Need-bounds-work-p
shared-slice-read-if4 c = let f = facts c.before.before.before.before.before.before.before.before.before.before.before.before in omega (arith, (parent c.before).some, (parent c.before).high)

returns-4 : tie.Need-returns-then-work-p-eq0
returns-4 c =
    let f = facts c.before.before.before.before.before.before.before.before.before.before.before.before.before in
    λ r t k. row-unmarked t c.args.i.0 c.args.j.0 f.low f.below f.high c.args.work.now k (parent c.before.before).some (parent c.before.before).high c.if-work-p-eq0.true

mul-t14 : tie.Need-offset_bounds-heads-k
mul-t14 c = let f = facts c.before.before.before.before.before.before.before.before.before.before.before.before.before in omega arith

shared-slice-read-t13 : tie.Need-bounds-heads-k
shared-slice-read-t13 c = let f = facts c.before.before.before.before.before.before.before.before.before.before.before.before.before.before in omega arith

count-at-requires : tie.Need-count_at-n-requires
count-at-requires c κs =
    let f = facts c.before.before.before.before.before.before.before.before.before.before.before.before.before.before in
    can-count c.requires.0.ask c.args.j.0 f.low (omega (arith, f.below, f.high))

returns-5 : tie.Need-returns
returns-5 c =
    let f = facts c.before.before.before.before.before.before.before.before.before.before.before.before.before.before.before in
    λ r t k. row-counted t c.args.i.0 c.args.j.0 f.low f.below f.high c.count_at-n.result c.count_at-n.ensures

pub holds_row_spec : {M : Type 1} → statement M
holds_row_spec =
    tie.close
    (tie.spec
    sub-k
    cast-k
    mul-p
    shared-slice-read-p
    cast-p
    returns
    returns-2
    returns-3
    sub-if4
    cast-if4
    mul-if4
    shared-slice-read-if4
    returns-4
    mul-t14
    shared-slice-read-t13
    count-at-requires
    returns-5)
