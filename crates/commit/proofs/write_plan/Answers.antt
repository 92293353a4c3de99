-- `commit::write_plan` meets its contract: the two passes ask what `CanWrite` gives, and what they leave makes `PlanWritten`. Assumes nothing.
use Rattle.std.proofs.Common.{ℕ, length}
use Rattle.symbolic.specs.Factor.{factor_of}
use Rattle.commit.proofs.Written.{can-commits, can-parents, written}
use Rattle.commit.proofs.write_plan.Goals as goal

pub commit_columns-z-requires : goal.commit_columns-z-requires
commit_columns-z-requires c =
    let p = c.requires in
    record {
      parents = c.args.columns.now.parents.now;
      L = factor_of (length c.args.columns.now.heads.now) p.cs;
      L' = factor_of (length c.args.columns.now.heads.now) p.ds;
      label = p.label;
      columns = p.columns;
      can = can-commits p.can;
    }

pub returns-clause-written : goal.returns-clause-written
returns-clause-written c =
    let m : ℕ = length c.args.columns.now.heads.now in
    λ cs ds label columns before count entries can.
    let r = c.write_parents.ensures (factor_of m cs) (factor_of m ds) label columns c.args.used (can-parents can) in
    written can (c.commit_columns-z.ensures c.args.columns.now.parents.now (factor_of m cs) (factor_of m ds) label columns (can-commits can)) r.parents-are r c.clear.ensures
