-- `commit::with_size` meets its contract: by the test whether the place has a size; the chain is shorter than the bound to which it is counted. Assumes
-- nothing.
use mathlib.Core.Path.{◌≡◌, sym, ap, ◌∙◌}
use Prim.Native.Nat.{ℕ, ◌+◌, ◌*◌}
use native.Mathlib.Omega.{arith}
use borrow.Author.Rules.{rules}
use lib.ListN.{length}
use Rattle.workspace.specs.Parts.{upper_weight}
use Rattle.pool.specs.Chains.{chain}
use Rattle.commit.proofs.Gathering.{size-added, size-stays}
use Rattle.commit.proofs.with_size.Statement.{statement}
use Rattle.commit.proofs.with_size.Tie as tie

returns : tie.Need-returns-then-place-ge-UPPER_WEIGHT
returns c = sym (size-stays c.before.before.args.place (length (chain c.before.before.args.next.now c.before.before.args.head.0)) c.if-place-ge-UPPER_WEIGHT.true)

count-requires : tie.Need-count-n-requires
count-requires c κs = search rules

add-result : tie.Need-overflow_add-result
add-result c = search rules

mul-result : tie.Need-overflow_mul-result
mul-result c = search rules

add-result-2 : tie.Need-overflow_add-result-2
add-result-2 c = search rules

returns-2 : tie.Need-returns
returns-2 c =
    let s = c.before.before.before in
    let n : ℕ = length (chain s.args.next.now s.args.head.0) in
    let e : c.count-n.result ≡ n = omega (arith, c.count-n.ensures, s.requires.short) in
    ap (λ (x : ℕ). s.args.place + upper_weight * (1 + x)) e ∙ sym (size-added s.args.place n c.before.if-place-ge-UPPER_WEIGHT.false)

pub with_size_spec : {M : Type 1} → statement M
with_size_spec = tie.close (tie.spec returns count-requires add-result mul-result add-result-2 returns-2)
