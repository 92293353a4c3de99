-- `exchange::groups::enter_group` meets its contract: planned and, where that fits, gathered and written, by the laws of Grouped.antt. Assumes nothing.
use Rattle.std.proofs.Common.{ℕ, length, drop, replicate, sym, ◌∙◌}
use lib.Seq.{length-take-le, take_at}
use borrow.Author.Tests.{not-true, not-false}
use Rattle.updown.proofs.Filled.{filled_within, whole-enter}
use Rattle.exchange.proofs.Grouped.{enter-same, gather-same, gathered-same, entered-same, enter-few, enter-gather, enter-write, group-entered, group-halted}
use Rattle.exchange.proofs.groups.enter_group.Goals as goal

-- ---- the starts, filled in

pub slice_bounds-starts-end : goal.slice_bounds-starts-end
slice_bounds-starts-end c = (enter-few c.requires.can).0

pub slice_bounds-booked_starts-end : goal.slice_bounds-booked_starts-end
slice_bounds-booked_starts-end c = sym (length-take-le _ _ (enter-few c.requires.can).0)

pub booked_starts-requires : goal.booked_starts-requires
booked_starts-requires c = (length-take-le _ _ (enter-few c.requires.can).0, (enter-few c.requires.can).1)

pub slice_bounds-starts-end-2 : goal.slice_bounds-starts-end-2
slice_bounds-starts-end-2 c =
    let n = length c.args.ids.now in
    filled_within n c.booked_starts.new.starts (drop n (replicate {A = ℕ} 64 0)) (c.booked_starts.auto.starts ∙ length-take-le _ _ (enter-few c.requires.can).0)

pub slice_bounds-plan_enter-end : goal.slice_bounds-plan_enter-end
slice_bounds-plan_enter-end c =
    let n = length c.args.ids.now in
    sym (length-take-le _ _ (filled_within n c.booked_starts.new.starts (drop n (replicate {A = ℕ} 64 0)) (c.booked_starts.auto.starts ∙ length-take-le _ _ (enter-few c.requires.can).0)))

pub plan_enter-plan-requires : goal.plan_enter-plan-requires
plan_enter-plan-requires c =
    let p = c.requires in
    enter-same (c.view-view.ensures c.args.free.0)
    (record {
      R = p.R;
      W = p.W;
      can = whole-enter (take_at _ _ _ (c.booked_starts.auto.starts ∙ length-take-le _ _ (enter-few c.requires.can).0) ∙ c.booked_starts.ensures c.args.book.next.now c.requires.can.book-sized) p.can;
    })

-- ---- where it does not fit

pub returns-then-not-plan-clause-done : goal.returns-then-not-plan-clause-done
returns-then-not-plan-clause-done c =
    λ N W can. group-halted can
    (take_at _ _ _ (c.booked_starts.auto.starts ∙ length-take-le _ _ (enter-few c.requires.can).0) ∙ c.booked_starts.ensures c.args.book.next.now c.requires.can.book-sized)
    (entered-same (c.view-view.ensures c.args.free.0) c.plan_enter-plan.ensures) (not-true _ c.if-not-plan.true)

-- ---- where it does

pub gather-requires : goal.gather-requires
gather-requires c =
    gather-same (c.view-view.ensures c.args.free.0)
    (enter-gather c.requires.can
    (take_at _ _ _ (c.booked_starts.auto.starts ∙ length-take-le _ _ (enter-few c.requires.can).0) ∙ c.booked_starts.ensures c.args.book.next.now c.requires.can.book-sized)
    (entered-same (c.view-view.ensures c.args.free.0) c.plan_enter-plan.ensures) (not-false _ c.if-not-plan.false))

pub write_plan-requires : goal.write_plan-requires
write_plan-requires c =
    enter-write c.requires.can
    (take_at _ _ _ (c.booked_starts.auto.starts ∙ length-take-le _ _ (enter-few c.requires.can).0) ∙ c.booked_starts.ensures c.args.book.next.now c.requires.can.book-sized)
    (entered-same (c.view-view.ensures c.args.free.0) c.plan_enter-plan.ensures) (not-false _ c.if-not-plan.false) (gathered-same (c.view-view.ensures c.args.free.0) c.gather.ensures)

pub returns-clause-done : goal.returns-clause-done
returns-clause-done c =
    λ N W can. group-entered can
    (take_at _ _ _ (c.booked_starts.auto.starts ∙ length-take-le _ _ (enter-few c.requires.can).0) ∙ c.booked_starts.ensures c.args.book.next.now c.requires.can.book-sized)
    (entered-same (c.view-view.ensures c.args.free.0) c.plan_enter-plan.ensures) (not-false _ c.if-not-plan.false) (gathered-same (c.view-view.ensures c.args.free.0) c.gather.ensures) c.write_plan.ensures.written c.write_plan.ensures.same.next-long
