-- `exchange::swap` meets its contract: leaving, entering, and where that does not fit bringing back, by the laws of Swapping.antt. Assumes nothing.
use Rattle.std.proofs.Common.{◌≡◌, Option, Some, None, true, false, not, refl, ap, ◌∙◌}
use Rattle.std.specs.Prelude.{is_some, unwrap_or}
use mathlib.Core.Bool.{false≢true}
use Rattle.tables.proofs.Lent.{same-again, same-count, lent-back}
use Rattle.exchange.proofs.Swapping.{can-leave-all, some-leave-all, can-enter-all, some-enter-all, swap-done, can-undo, some-undo, swap-undone, all-entered-heads, undo-heads, swapped-same, swapped-known}
use Rattle.exchange.proofs.swap.Goals as goal

-- what stands in for none does not matter where there is one
some-same : {A : Type 0} (x : Option A) (a b : A) → is_some x ≡ true → unwrap_or x a ≡ unwrap_or x b
some-same None a b e = absurd (false≢true e)
some-same (Some y) a b e = refl

pub leave_all-z-requires : goal.leave_all-z-requires
leave_all-z-requires c = let p = c.requires in some-leave-all (can-leave-all p.can) p.scan

pub enter_all-x-requires : goal.enter_all-x-requires
enter_all-x-requires c =
    let p = c.requires in
    some-enter-all (can-enter-all p.can (c.leave_all-z.ensures.done p.R p.A (can-leave-all p.can))) p.scan

pub undo-requires : goal.undo-requires
undo-requires c =
    let p = c.requires in
    let v = c.leave_all-z.ensures.done p.R p.A (can-leave-all p.can) in
    some-undo (undo-heads (same-count (same-again c.leave_all-z.ensures.same c.enter_all-x.ensures.same)) (can-undo p.can v (all-entered-heads (same-count c.leave_all-z.ensures.same) (c.enter_all-x.ensures.done p.R p.B (can-enter-all p.can v))) p.records p.parents p.small
    (c.enter_all-x.ensures.same.parents-long ∙ c.leave_all-z.ensures.same.parents-long) (c.enter_all-x.ensures.same.rows_long ∙ c.leave_all-z.ensures.same.rows_long)
    (c.enter_all-x.ensures.same.counts-long ∙ c.leave_all-z.ensures.same.counts-long) (c.enter_all-x.ensures.same.next-long ∙ c.leave_all-z.ensures.same.next-long)))

pub returns-then-is_none-clause-done : goal.returns-then-is_none-clause-done
returns-then-is_none-clause-done c =
    λ R A B can.
    let p = c.requires in
    let v = c.leave_all-z.ensures.done R A (can-leave-all can) in
    let x = all-entered-heads (same-count c.leave_all-z.ensures.same) (c.enter_all-x.ensures.done R B (can-enter-all can v)) in
    let e : is_some c.enter_all-x.result ≡ false = c.is_none.ensures ∙ ap not c.if-is_none.true in
    swapped-same (lent-back (same-again (same-again c.leave_all-z.ensures.same c.enter_all-x.ensures.same) c.undo.ensures.same) refl refl refl refl _)
    (swap-undone can v x e (c.undo.ensures.done _ _ _ _ (undo-heads (same-count (same-again c.leave_all-z.ensures.same c.enter_all-x.ensures.same)) (can-undo can v x p.records p.parents p.small
    (c.enter_all-x.ensures.same.parents-long ∙ c.leave_all-z.ensures.same.parents-long) (c.enter_all-x.ensures.same.rows_long ∙ c.leave_all-z.ensures.same.rows_long)
    (c.enter_all-x.ensures.same.counts-long ∙ c.leave_all-z.ensures.same.counts-long) (c.enter_all-x.ensures.same.next-long ∙ c.leave_all-z.ensures.same.next-long)))))

pub returns-clause-done : goal.returns-clause-done
returns-clause-done c =
    λ R A B can.
    let v = c.leave_all-z.ensures.done R A (can-leave-all can) in
    let e : is_some c.enter_all-x.result ≡ true = c.is_none.ensures ∙ ap not c.if-is_none.false in
    rw (c.unwrap_or.ensures, some-same c.enter_all-x.result c.args.free c.leave_all-z.result e)
    (swapped-known e (swap-done can v (all-entered-heads (same-count c.leave_all-z.ensures.same) (c.enter_all-x.ensures.done R B (can-enter-all can v))) e))
