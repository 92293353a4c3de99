-- `differences::merge` meets its contract. The loop's invariant is `Merging`; a turn moves the list's last row or the buffer's to the back. The measure is how
-- many are left of both. Assumes nothing.
use mathlib.Core.Path.{sym, ◌∙◌}
use Prim.Native.Nat.{◌+◌, ◌*◌, ◌^◌, ◌≤◌, ◌<◌}
use native.Mathlib.Omega.{arith}
use lib.ListN.{length, length-set}
use Rattle.differences.proofs.Merging.{Merging, merging_start, merging-length, merging-low, merging-list, merging-buffer, merging-done}
use Rattle.differences.proofs.merge.Statement.{statement}
use Rattle.differences.proofs.merge.Tie as tie

abbrev invariant-loop-k : tie.invariant-loop-k
invariant-loop-k work₀ m n f i₀ k₀ work i k = Merging m work₀ n f work i k

abbrev decreases-loop-k : tie.decreases-loop-k
decreases-loop-k work₀ m n f i₀ k₀ work i k = i + k

-- ---- places

abbrev start : tie.In-loop-k invariant-loop-k decreases-loop-k → tie.Start invariant-loop-k decreases-loop-k
start c = c.before.before.before

-- what a turn asks, at the loop's test
pub record Facts (c : tie.In-loop-k invariant-loop-k decreases-loop-k) : Type 0 where
  pub some : 0 < c.before.loop-k.k
  pub i-high : c.before.loop-k.i ≤ (start c).args.n
  pub k-high : c.before.loop-k.k ≤ (start c).args.f
  pub within : (start c).args.n + (start c).args.f ≤ (start c).args.m
  pub long : 3 * (start c).args.m ≤ length c.before.loop-k.work
  pub good : length c.before.loop-k.work * 4 < 2 ^ 63

facts : (c : tie.In-loop-k invariant-loop-k decreases-loop-k) → Facts c
facts c =
    let i = c.loop-k.invariant in
    let l = merging-length c.requires i in
    let g = c.well_formed in
    record {
      some = c.loop-k-test.true;
      i-high = i.i-high;
      k-high = i.k-high;
      within = c.requires.within;
      long = omega (arith, c.requires.long);
      good = omega (arith, g);
    }

low : (c : tie.Then-is_above invariant-loop-k decreases-loop-k) → 0 < c.loop-k.i
low c =
    merging-low c.requires c.loop-k.invariant c.loop-k-test.true (sym c.is_above.ensures ∙ c.if-is_above.true)

-- ---- needs

loop-holds : tie.Need-loop-k-init invariant-loop-k decreases-loop-k
loop-holds c = merging_start c.requires

mul-row : tie.Need-overflow_mul-row invariant-loop-k decreases-loop-k
mul-row c = let f = facts c in omega arith

sub_row : tie.Need-overflow_sub-row invariant-loop-k decreases-loop-k
sub_row c = let f = facts c in omega arith

add_row : tie.Need-overflow_add-row invariant-loop-k decreases-loop-k
add_row c = let f = facts c in omega arith

mul-row-2 : tie.Need-offset_bounds-work-m invariant-loop-k decreases-loop-k
mul-row-2 c = let f = facts c in omega arith

slice-read-row : tie.Need-bounds-work-m invariant-loop-k decreases-loop-k
slice-read-row c = let f = facts c.before in omega arith

is-above-requires : tie.Need-is_above-requires invariant-loop-k decreases-loop-k
is-above-requires c κs = let f = facts c.before in omega arith

sub-work : tie.Need-overflow_sub-work invariant-loop-k decreases-loop-k
sub-work c = let f = facts c.before.before.before in let l = low c in omega arith

add-work : tie.Need-overflow_add-work invariant-loop-k decreases-loop-k
add-work c = let f = facts c.before.before.before in let l = low c in omega arith

mul-work : tie.Need-offset_bounds-work-m-then-is_above invariant-loop-k decreases-loop-k
mul-work c = let f = facts c.before.before.before in let l = low c in omega arith

slice-read-work : tie.Need-bounds-work-m-then-is_above invariant-loop-k decreases-loop-k
slice-read-work c = let f = facts c.before.before.before.before in let l = low c.before in omega arith

add-work-2 : tie.Need-overflow_add-work-then-is_above invariant-loop-k decreases-loop-k
add-work-2 c = let f = facts c.before.before.before.before in let l = low c.before in omega arith

sub-work-2 : tie.Need-overflow_sub-work-then-is_above invariant-loop-k decreases-loop-k
sub-work-2 c = let f = facts c.before.before.before.before in let l = low c.before in omega arith

add-work-3 : tie.Need-overflow_add-work-then-is_above-2 invariant-loop-k decreases-loop-k
add-work-3 c = let f = facts c.before.before.before.before in let l = low c.before in omega arith

mul-work-2 : tie.Need-offset_bounds-work-m-then-is_above-2 invariant-loop-k decreases-loop-k
mul-work-2 c = let f = facts c.before.before.before.before in let l = low c.before in omega arith

slice-write-work : tie.Need-bounds-work-m-then-is_above-2 invariant-loop-k decreases-loop-k
slice-write-work c = let f = facts c.before.before.before.before in let l = low c.before in omega arith

sub-i : tie.Need-overflow_sub-i invariant-loop-k decreases-loop-k
sub-i c = let f = facts c.before.before.before.before in let l = low c.before in omega arith

loop-less : tie.Need-loop-k-smaller-then-is_above invariant-loop-k decreases-loop-k
loop-less c = let f = facts c.before.before.before.before in let l = low c.before in omega arith

loop-again : tie.Need-loop-k-preserved-then-is_above invariant-loop-k decreases-loop-k
loop-again c = merging-list c.requires c.loop-k.invariant c.loop-k-test.true (sym c.is_above.ensures ∙ c.if-is_above.true)

add-work-4 : tie.Need-overflow_add-work-else-is_above invariant-loop-k decreases-loop-k
add-work-4 c = let f = facts c.before.before.before in omega arith

sub-work-3 : tie.Need-overflow_sub-work-else-is_above invariant-loop-k decreases-loop-k
sub-work-3 c = let f = facts c.before.before.before in omega arith

add-work-5 : tie.Need-overflow_add-work-else-is_above-2 invariant-loop-k decreases-loop-k
add-work-5 c = let f = facts c.before.before.before in omega arith

mul-work-3 : tie.Need-offset_bounds-work-m-else-is_above invariant-loop-k decreases-loop-k
mul-work-3 c = let f = facts c.before.before.before in omega arith

slice-write-work-2 : tie.Need-bounds-work-m-else-is_above invariant-loop-k decreases-loop-k
slice-write-work-2 c = let f = facts c.before.before.before in omega arith

mul-work-4 : tie.Need-overflow_mul-work invariant-loop-k decreases-loop-k
mul-work-4 c = let f = facts c.before.before.before in omega arith

sub-work-4 : tie.Need-overflow_sub-work-else-is_above-2 invariant-loop-k decreases-loop-k
sub-work-4 c = let f = facts c.before.before.before in omega arith

add-work-6 : tie.Need-overflow_add-work-else-is_above-3 invariant-loop-k decreases-loop-k
add-work-6 c = let f = facts c.before.before.before in omega arith

mul-work-5 : tie.Need-offset_bounds-work-m-else-is_above-2 invariant-loop-k decreases-loop-k
mul-work-5 c = let f = facts c.before.before.before in omega arith

slice-write-work-3 : tie.Need-bounds-work-m-else-is_above-2 invariant-loop-k decreases-loop-k
slice-write-work-3 c = let f = facts c.before.before.before in simp length-set (omega arith)

sub-k : tie.Need-overflow_sub-k invariant-loop-k decreases-loop-k
sub-k c = let f = facts c.before.before.before in omega arith

loop-less-2 : tie.Need-loop-k-smaller invariant-loop-k decreases-loop-k
loop-less-2 c = let f = facts c.before.before.before in omega arith

loop-again-2 : tie.Need-loop-k-preserved invariant-loop-k decreases-loop-k
loop-again-2 c = merging-buffer c.requires c.loop-k.invariant c.loop-k-test.true (sym c.is_above.ensures ∙ c.if-is_above.false)

same_length : tie.Need-shape_of-work invariant-loop-k decreases-loop-k
same_length c = c.loop-k.invariant.only.same_length

returns : tie.Need-returns invariant-loop-k decreases-loop-k
returns c = merging-done c.requires c.loop-k.invariant (omega arith)

pub merge_spec : {M : Type 1} → statement M
merge_spec =
    tie.close
    (tie.spec
    invariant-loop-k
    decreases-loop-k
    loop-holds
    mul-row
    sub_row
    add_row
    mul-row-2
    slice-read-row
    is-above-requires
    sub-work
    add-work
    mul-work
    slice-read-work
    add-work-2
    sub-work-2
    add-work-3
    mul-work-2
    slice-write-work
    sub-i
    loop-less
    loop-again
    add-work-4
    sub-work-3
    add-work-5
    mul-work-3
    slice-write-work-2
    mul-work-4
    sub-work-4
    add-work-6
    mul-work-5
    slice-write-work-3
    sub-k
    loop-less-2
    loop-again-2
    same_length
    returns)
