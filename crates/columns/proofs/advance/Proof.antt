-- `columns::advance` meets its contract. The loop's invariant: q follows r, the chain from q ends, and the last record below the row is the same from
-- r on as from p on. The measure is the length of the chain from q. Assumes nothing.
use mathlib.Core.Path.{◌≡◌, refl, sym, ◌∙◌}
use Prim.Native.Nat.{◌-◌}
use native.Mathlib.Omega.{arith}
use lib.ListN.{length}
use Rattle.pool.specs.Chains.{chain, Linked}
use Rattle.columns.specs.Search.{last_below}
use Rattle.columns.proofs.Search.{Here, here, last_none, last_found, last-further}
use Rattle.columns.proofs.advance.Statement.{statement}
use Rattle.columns.proofs.advance.Tie as tie

abbrev invariant-loop-q : tie.invariant-loop-q
invariant-loop-q rows next least r₀ q₀ r q = Linked next q (chain next q) × (last_below rows r (chain next q) least ≡ last_below rows r₀ (chain next q₀) least)

abbrev decreases-loop-q : tie.decreases-loop-q
decreases-loop-q rows next least r₀ q₀ r q = length (chain next q)

-- record p, and the record at hand
first : (c : tie.Start invariant-loop-q decreases-loop-q) → Here c.args.next.now c.args.p.0
first c = here _ _ (λ e. omega (arith, c.requires.0)) c.requires.1.linked

this : (c : tie.In-loop-q invariant-loop-q decreases-loop-q) → Here c.before.before.before.args.next.now c.before.loop-q.q
this c = here _ _ c.loop-q-test.true c.before.loop-q.invariant.0

sub-q : tie.Need-overflow_sub-q invariant-loop-q decreases-loop-q
sub-q c = (first c).low

cast-q : tie.Need-overflow_cast-q invariant-loop-q decreases-loop-q
cast-q c = let h = first c in omega arith

mul-q : tie.Need-offset_bounds-next-r invariant-loop-q decreases-loop-q
mul-q c = let h = first c in omega arith

shared-slice-read-q : tie.Need-bounds-next-r invariant-loop-q decreases-loop-q
shared-slice-read-q c = let h = first c.before in omega arith

loop-holds : tie.Need-loop-q-init invariant-loop-q decreases-loop-q
loop-holds c = ((first c.before).linked, refl)

sub-k : tie.Need-overflow_sub-k invariant-loop-q decreases-loop-q
sub-k c = (this c).low

cast-k : tie.Need-overflow_cast-k invariant-loop-q decreases-loop-q
cast-k c = let h = this c in omega arith

mul-if1 : tie.Need-offset_bounds-rows-k invariant-loop-q decreases-loop-q
mul-if1 c = let h = this c in omega arith

shared-slice-read-if1 : tie.Need-bounds-rows-k invariant-loop-q decreases-loop-q
shared-slice-read-if1 c = let h = this c.before in omega arith

cast-if1 : tie.Need-overflow_cast-rows invariant-loop-q decreases-loop-q
cast-if1 c = omega (arith, c.shared_slice_known-in-loop-q-1.given (c.before.before.loop-q.q - 1))

returns : tie.Need-returns-then-least-rows invariant-loop-q decreases-loop-q
returns c = let d = c.before.before in sym (last_found _ _ d.before.loop-q.r _ _ (this d) c.if-least-rows.true) ∙ d.before.loop-q.invariant.1

mul-q-2 : tie.Need-offset_bounds-next-k invariant-loop-q decreases-loop-q
mul-q-2 c = let h = this c.before.before in omega arith

shared-slice-read-q-2 : tie.Need-bounds-next-k invariant-loop-q decreases-loop-q
shared-slice-read-q-2 c = let h = this c.before.before.before in omega arith

loop-less : tie.Need-loop-q-smaller invariant-loop-q decreases-loop-q
loop-less c = (this c.before.before.before).shorter

loop-again : tie.Need-loop-q-preserved invariant-loop-q decreases-loop-q
loop-again c =
    let d = c.before.before.before in
    ((this d).linked, last-further _ _ d.before.loop-q.r _ _ (this d) c.before.if-least-rows.false ∙ d.before.loop-q.invariant.1)

returns-2 : tie.Need-returns invariant-loop-q decreases-loop-q
returns-2 c = let a = c.before.before.before.args in sym (last_none a.rows.now a.next.now c.before.loop-q.r _ a.i.0 c.loop-q-test.false) ∙ c.before.loop-q.invariant.1

pub advance_spec : {M : Type 1} → statement M
advance_spec =
    tie.close
    (tie.spec
    invariant-loop-q
    decreases-loop-q
    sub-q
    cast-q
    mul-q
    shared-slice-read-q
    loop-holds
    sub-k
    cast-k
    mul-if1
    shared-slice-read-if1
    cast-if1
    returns
    mul-q-2
    shared-slice-read-q-2
    loop-less
    loop-again
    returns-2)
