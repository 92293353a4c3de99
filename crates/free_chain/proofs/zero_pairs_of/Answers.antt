-- A turn counts one record.
use Rattle.std.proofs.Common.{arith}
use mathlib.Core.Logic.{inl, inr}
use Rattle.free_chain.proofs.Counted.{pairs-le, pairs-hit, pairs-miss, pairs-done}
use Rattle.free_chain.proofs.zero_pairs_of.Goals as goal

pub overflow_add-pairs : goal.overflow_add-pairs
overflow_add-pairs c =
    omega (
      arith,
      pairs-hit _ _ _ _ _ _ c.in-Some.ensures.steps.0 c.in-Some.ensures.steps.1 c.if-row-count.true c.loop-row.invariant,
      pairs-le c.args.rows.now c.args.counts.now,
    )

pub loop-row-preserved-then-row-count : goal.loop-row-preserved-then-row-count
loop-row-preserved-then-row-count c =
    pairs-hit _ _ _ _ _ _ c.in-Some.ensures.steps.0 c.in-Some.ensures.steps.1 c.if-row-count.true c.loop-row.invariant

pub loop-row-preserved : goal.loop-row-preserved
loop-row-preserved c = pairs-miss _ _ _ _ _ _ c.in-Some.ensures.steps.0 c.in-Some.ensures.steps.1 c.if-row-count.false c.loop-row.invariant

pub returns : goal.returns
returns c = pairs-done _ _ _ _ (elim c.in-None.ensures.steps [ inl t ↦ inl t.1.0 | inr t ↦ inr t.1.0 ]) c.loop-row.invariant
