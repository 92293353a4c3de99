-- `columns::commit_column`, its loop: `Committing`, for all multiplicities that the plan suits and for all counts from which the first entry leads to those
-- where the loop begins.
use Rattle.std.proofs.Common.{List, ℕ, ◌+◌, drop}
use Rattle.columns.specs.Apply.{Begun}
use Rattle.columns.specs.Commit.{CanCommitChain}
use Rattle.columns.proofs.Committing.{Committing}
use Rattle.columns.proofs.commit_column.Given as goal

abbrev pub invariant-loop-entry : goal.invariant-loop-entry
invariant-loop-entry l =
    (ns cs : List ℕ) → CanCommitChain l.initial.rows cs l.initial.next l.initial.p.0 l.initial.z.0 ns l.plan → Begun l.initial.rows cs l.plan l.initial.p.0 l.initial.counts l.k →
    Committing l.initial.rows cs l.initial.next l.initial.p.0 l.initial.z.0 ns l.plan l.rows l.counts l.next l.p.0 l.z.0 (drop (l.k + l.entry-index) l.plan)
