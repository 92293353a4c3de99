-- `differences::gather_rows` meets its contract: row after row goes into the buffer. Assumes nothing.
use Rattle.std.proofs.Common.{◌≡◌, ℕ, length, subst, arith}
use Rattle.lists.specs.Lists.{among}
use Rattle.differences.specs.Gather.{Gathered}
use Rattle.differences.proofs.Gather.{gathering-start, list-room, list-push, list_done}
use Rattle.differences.proofs.gather_rows.Goals as goal

pub loop-k-init : goal.loop-k-init
loop-k-init c = gathering-start c.requires.0

pub bounds-work-m : goal.bounds-work-m
bounds-work-m c = omega (arith, list-room _ _ c.requires.1, c.loop-k.invariant.only.same_length, c.requires.0.long)

pub loop-k-preserved : goal.loop-k-preserved
loop-k-preserved c = list-push c.args.list.now c.requires.0.long c.requires.1 c.loop-k-test.true c.loop-k.invariant

pub returns : goal.returns
returns c =
    let e : c.loop-k.k ≡ length c.args.list.now = omega arith in
    subst (λ (n : ℕ). Gathered c.args.m c.args.work.now c.loop-k.work n (λ i. among i c.args.list.now)) e
    (list_done c.args.list.now c.requires.1 (omega arith) c.loop-k.invariant)
