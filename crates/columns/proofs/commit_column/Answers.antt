-- `columns::commit_column` meets its contract. Assumes nothing.
use Rattle.std.proofs.Common.{◌≡◌, ◌+◌, arith}
use Rattle.columns.proofs.Turns.{committing-begun, committing-can-begin, committing-safe, committing-turn, committing-finish, rest_at, rest-end}
use Rattle.columns.proofs.commit_column.Goals as goal

pub commit_first-k-requires : goal.commit_first-k-requires
commit_first-k-requires c = committing-can-begin c.requires.can

pub loop-entry-init : goal.loop-entry-init
loop-entry-init c =
    let e : c.commit_first-k.result + 0 ≡ c.commit_first-k.result = omega arith in
    λ ns cs can b. rw e (committing-begun can b)

pub apply_entry-s-requires : goal.apply_entry-s-requires
apply_entry-s-requires c =
    let r = rest_at c.args.plan.now c.commit_first-k.result c.loop-entry.entry-index c.loop-entry-test.true in
    rw r.1 (committing-safe c.requires.can (c.loop-entry.invariant c.requires.multiplicities c.args.counts.now c.requires.can c.commit_first-k.ensures) r.0)

pub loop-entry-preserved : goal.loop-entry-preserved
loop-entry-preserved c =
    let r = rest_at c.args.plan.now c.commit_first-k.result c.loop-entry.entry-index c.loop-entry-test.true in
    let e : c.commit_first-k.result + (c.loop-entry.entry-index + 1) ≡ c.commit_first-k.result + c.loop-entry.entry-index + 1 = omega arith in
    λ ns cs can b. rw e (committing-turn can (c.loop-entry.invariant ns cs can b) r.0 (rw r.1 at c.apply_entry-s.ensures))

pub returns : goal.returns
returns c =
    λ ns can. committing-finish can (c.loop-entry.invariant ns c.args.counts.now can c.commit_first-k.ensures)
    (rest-end c.args.plan.now c.commit_first-k.result c.loop-entry.entry-index c.loop-entry-test.false)
