use Rattle.std.proofs.Common.{◌+◌, ◌≢◌, length, true≢false, sym, ◌∙◌, arith}
use borrow.Author.Tests.{lt-ltb, eqb-true, eqb-false}
use Rattle.lists.proofs.Over.{filling-start, filling-next}
use Rattle.pool.proofs.Opening.{opened-length, opened-used, opened-free, opened-last}
use Rattle.pool.proofs.link_free.Goals as goal
use Rattle.pool.proofs.link_free.Goals.{then-i-a, else-i-a, then-i-k, else-i-k}

pub loop-i-init : goal.loop-i-init
loop-i-init c = filling-start _ _ (opened-length _ _ c.requires.0)

pub loop-i-preserved : goal.loop-i-preserved
loop-i-preserved c =
    filling-next c.loop-i.invariant c.loop-i-test.true
    (elim c.if-i-k.branch [
      | then-i-k w ↦ elim c.if-i-a.branch [
        | then-i-a v ↦ opened-used _ _ c.loop-i.i v.if-i-a.true ∙ sym w.x-is
        | else-i-a v ↦ opened-last _ _ c.loop-i.i v.if-i-a.false (eqb-true _ _ (sym v.value-is ∙ w.if-i-k.true)) ∙ sym w.x-is
      ]
      | else-i-k w ↦ elim c.if-i-a.branch [
        | then-i-a v ↦ absurd (true≢false (sym (lt-ltb _ _ v.if-i-a.true) ∙ sym v.value-is ∙ w.if-i-k.false))
        | else-i-a v ↦
            let e : c.loop-i.i + 1 ≢ length c.args.next.now = eqb-false _ _ (sym v.value-is ∙ w.if-i-k.false) in
            opened-free _ _ c.loop-i.i v.if-i-a.false (omega arith) ∙ sym w.x-is
      ]
    ])
