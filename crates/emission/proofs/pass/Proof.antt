-- `emission::pass` meets its contract. The loop's invariant is `Walking`: the records passed are below the bound and counted. The measure is the length of the
-- chain to come. Assumes nothing.
use mathlib.Core.Path.{sym, ap, subst}
use Prim.Native.Nat.{◌-◌, ◌*◌, ◌^◌, ◌≤◌, ◌<◌}
use native.Mathlib.Omega.{arith}
use lib.ListN.{length}
use Rattle.pool.specs.Chains.{chain}
use Rattle.differences.proofs.Chain.{onward-less}
use Rattle.emission.specs.declared.Walk.{Walk}
use Rattle.emission.proofs.Walks.{Walking, walking_start, walking-onward, walking-small, walking-behind, walking-next, passed-stop, passed-end}
use Rattle.emission.proofs.pass.Statement.{statement}
use Rattle.emission.proofs.pass.Tie as tie

abbrev invariant-loop-w : tie.invariant-loop-w
invariant-loop-w rows next j least w₀ w = Walking rows next j.0 least w₀ w

abbrev decreases-loop-w : tie.decreases-loop-w
decreases-loop-w rows next j least w₀ w = length (chain next w.at.0)

-- ---- places

-- what a turn asks, at the loop's test
pub record Facts (c : tie.In-loop-w invariant-loop-w decreases-loop-w) : Type 0 where
  pub low : 1 ≤ c.loop-w.w.at.0
  pub in-next : c.loop-w.w.at.0 ≤ length c.args.next.now
  pub in_rows : c.loop-w.w.at.0 ≤ length c.args.rows.now
  pub good : length c.args.next.now * 4 < 2 ^ 63

facts : (c : tie.In-loop-w invariant-loop-w decreases-loop-w) → Facts c
facts c =
    let o = walking-onward c.requires c.loop-w.invariant c.loop-w-test.true in
    let g = c.well_formed in
    record { low = o.low; in-next = o.high; in_rows = omega (arith, o.high, c.requires.rows_long); good = omega (arith, g) }

-- ---- needs

loop-holds : tie.Need-loop-w-init invariant-loop-w decreases-loop-w
loop-holds c = walking_start c.requires

sub-i : tie.Need-overflow_sub-i invariant-loop-w decreases-loop-w
sub-i c = let f = facts c in omega arith

cast-i : tie.Need-overflow_cast-i invariant-loop-w decreases-loop-w
cast-i c = let f = facts c in omega arith

mul-row : tie.Need-offset_bounds-rows-i invariant-loop-w decreases-loop-w
mul-row c = let f = facts c in omega arith

shared-slice-read-row : tie.Need-bounds-rows-i invariant-loop-w decreases-loop-w
shared-slice-read-row c = let f = facts c.before in omega arith

cast-row : tie.Need-overflow_cast-row invariant-loop-w decreases-loop-w
cast-row c = omega (arith, c.shared_slice_known-in-loop-w-1.given (c.loop-w.w.at.0 - 1))

returns : tie.Need-returns-then-least-row invariant-loop-w decreases-loop-w
returns c = passed-stop c.requires c.loop-w.invariant c.if-least-row.true

stay-requires : tie.Need-stay-w-requires invariant-loop-w decreases-loop-w
stay-requires c κs = walking-small c.requires c.loop-w.invariant c.loop-w-test.true

mul-q : tie.Need-offset_bounds-next-i invariant-loop-w decreases-loop-w
mul-q c = let f = facts c.before.before.before in omega arith

shared-slice-read-q : tie.Need-bounds-next-i invariant-loop-w decreases-loop-w
shared-slice-read-q c = let f = facts c.before.before.before.before in omega arith

on-to-requires : tie.Need-on_to-w-requires invariant-loop-w decreases-loop-w
on-to-requires c κs =
    omega (arith, ap (λ (w : Walk). w.behind) c.stay-w.ensures, walking-behind c.requires c.loop-w.invariant c.loop-w-test.true)

loop-less : tie.Need-loop-w-smaller invariant-loop-w decreases-loop-w
loop-less c =
    subst (λ (w : Walk). length (chain c.args.next.now w.at.0) < length (chain c.args.next.now c.loop-w.w.at.0)) (sym c.on_to-w.ensures)
    (onward-less (walking-onward c.requires c.loop-w.invariant c.loop-w-test.true))

loop-again : tie.Need-loop-w-preserved invariant-loop-w decreases-loop-w
loop-again c = rw (c.on_to-w.ensures, c.stay-w.ensures) (walking-next c.requires c.loop-w.invariant c.loop-w-test.true (omega arith))

returns-2 : tie.Need-returns invariant-loop-w decreases-loop-w
returns-2 c = passed-end c.requires c.loop-w.invariant c.loop-w-test.false

pub pass_spec : {M : Type 1} → statement M
pass_spec =
    tie.close
    (tie.spec
    invariant-loop-w
    decreases-loop-w
    loop-holds
    sub-i
    cast-i
    mul-row
    shared-slice-read-row
    cast-row
    returns
    stay-requires
    mul-q
    shared-slice-read-q
    on-to-requires
    loop-less
    loop-again
    returns-2)
