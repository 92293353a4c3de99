-- A turn counts one block.
use Rattle.std.proofs.Common.{ℕ, ◌≡◌, length, length-append, ap, arith}
use mathlib.Core.Logic.{inl, inr}
use Rattle.free_chain.proofs.Counted.{pairs-le, pairs-block, pairs-done}
use Rattle.free_chain.proofs.zero_pairs.Goals as goal

pub overflow_add-n : goal.overflow_add-n
overflow_add-n c =
    let s = c.in-Some.ensures.steps in
    let same : length c.in-Some.beside.now ≡ length c.in-Some.block.now = omega (arith, s.0.1.1, s.1.1.1) in
    omega (
      arith,
      pairs-block _ _ _ _ _ _ _ s.0.1.0 s.1.1.0 same c.zero_pairs_of.ensures c.loop-block.invariant.3,
      pairs-le c.args.rows.now c.args.counts.now,
    )

pub loop-block-preserved : goal.loop-block-preserved
loop-block-preserved c =
    let s = c.in-Some.ensures.steps in
    let same : length c.in-Some.beside.now ≡ length c.in-Some.block.now = omega (arith, s.0.1.1, s.1.1.1) in (
      omega arith,
      omega arith,
      omega (arith, ap length s.0.1.0, ap length s.1.1.0, length-append {A = ℕ}),
      pairs-block _ _ _ _ _ _ _ s.0.1.0 s.1.1.0 same c.zero_pairs_of.ensures c.loop-block.invariant.3,
    )

pub returns : goal.returns
returns c = pairs-done _ _ _ _ (elim c.in-None.ensures.steps [ inl t ↦ inl t.1.1.0 | inr t ↦ inr t.1.1.0 ]) c.loop-block.invariant.3
