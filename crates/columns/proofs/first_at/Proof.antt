-- `columns::first_at` meets its contract. The loop's invariant: the chain from r ends, and its first record at or above the row is the whole chain's.
-- The measure is the length of the chain from r. Assumes nothing.
use mathlib.Core.Path.{◌≡◌, refl, sym, ◌∙◌}
use Prim.Native.Nat.{◌-◌}
use native.Mathlib.Omega.{arith}
use lib.ListN.{length}
use Rattle.pool.specs.Chains.{chain, Linked}
use Rattle.columns.specs.Search.{first_at}
use Rattle.columns.proofs.Search.{Here, here, first-none, first_found, first-further}
use Rattle.columns.proofs.first_at.Statement.{statement}
use Rattle.columns.proofs.first_at.Tie as tie

abbrev invariant-loop-r : tie.invariant-loop-r
invariant-loop-r rows next bound r₀ r = Linked next r (chain next r) × (first_at rows (chain next r) bound ≡ first_at rows (chain next r₀) bound)

abbrev decreases-loop-r : tie.decreases-loop-r
decreases-loop-r rows next bound r₀ r = length (chain next r)

-- the record at hand
this : (c : tie.In-loop-r invariant-loop-r decreases-loop-r) → Here c.before.before.args.next.now c.before.loop-r.r
this c = here _ _ c.loop-r-test.true c.before.loop-r.invariant.0

loop-holds : tie.Need-loop-r-init invariant-loop-r decreases-loop-r
loop-holds c = (c.requires.linked, refl)

sub-k : tie.Need-overflow_sub-k invariant-loop-r decreases-loop-r
sub-k c = (this c).low

cast-k : tie.Need-overflow_cast-k invariant-loop-r decreases-loop-r
cast-k c = let h = this c in omega arith

mul-if1 : tie.Need-offset_bounds-rows-k invariant-loop-r decreases-loop-r
mul-if1 c = let h = this c in omega arith

shared-slice-read-if1 : tie.Need-bounds-rows-k invariant-loop-r decreases-loop-r
shared-slice-read-if1 c = let h = this c.before in omega arith

cast-if1 : tie.Need-overflow_cast-rows invariant-loop-r decreases-loop-r
cast-if1 c = omega (arith, c.shared_slice_known-1.given (c.before.before.loop-r.r - 1))

returns : tie.Need-returns-then-bound-rows invariant-loop-r decreases-loop-r
returns c =
    let d = c.before.before in
    let a = d.before.before.args in
    sym (first_found a.rows.now a.next.now d.before.loop-r.r a.i.0 (this d) (omega (arith, c.if-bound-rows.true))) ∙ d.before.loop-r.invariant.1

mul-r : tie.Need-offset_bounds-next-k invariant-loop-r decreases-loop-r
mul-r c = let h = this c.before.before in omega arith

shared-slice-read-r : tie.Need-bounds-next-k invariant-loop-r decreases-loop-r
shared-slice-read-r c = let h = this c.before.before.before in omega arith

loop-less : tie.Need-loop-r-smaller invariant-loop-r decreases-loop-r
loop-less c = (this c.before.before.before).shorter

loop-again : tie.Need-loop-r-preserved invariant-loop-r decreases-loop-r
loop-again c =
    let d = c.before.before.before in
    let a = d.before.before.args in (
      (this d).linked,
      first-further a.rows.now a.next.now d.before.loop-r.r a.i.0 (this d) (omega (arith, c.before.if-bound-rows.false)) ∙ d.before.loop-r.invariant.1,
    )

returns-2 : tie.Need-returns invariant-loop-r decreases-loop-r
returns-2 c = let a = c.before.before.args in sym (first-none a.rows.now a.next.now _ a.i.0 c.loop-r-test.false) ∙ c.before.loop-r.invariant.1

pub first_at_spec : {M : Type 1} → statement M
first_at_spec =
    tie.close
    (tie.spec
    invariant-loop-r
    decreases-loop-r
    loop-holds
    sub-k
    cast-k
    mul-if1
    shared-slice-read-if1
    cast-if1
    returns
    mul-r
    shared-slice-read-r
    loop-less
    loop-again
    returns-2)
