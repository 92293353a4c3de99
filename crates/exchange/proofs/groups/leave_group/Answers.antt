-- `exchange::groups::leave_group` meets its contract: planned, gathered and written, by the laws of Grouped.antt. Assumes nothing.
use Rattle.std.proofs.Common.{ℕ, length, drop, replicate, sym, ◌∙◌}
use lib.Seq.{length-take-le, take_at}
use Rattle.updown.proofs.Filled.{filled_within}
use Rattle.exchange.proofs.Grouped.{remove-same, gather-same, gathered-same, removed-same, leave-few, some-remove, leave-gather, leave-write, group-left}
use Rattle.exchange.proofs.groups.leave_group.Goals as goal

-- ---- the starts, filled in

pub slice_bounds-starts-end : goal.slice_bounds-starts-end
slice_bounds-starts-end c = (leave-few c.requires.can).0

pub slice_bounds-booked_starts-end : goal.slice_bounds-booked_starts-end
slice_bounds-booked_starts-end c = sym (length-take-le _ _ (leave-few c.requires.can).0)

pub booked_starts-requires : goal.booked_starts-requires
booked_starts-requires c = (length-take-le _ _ (leave-few c.requires.can).0, (leave-few c.requires.can).1)

pub slice_bounds-starts-end-2 : goal.slice_bounds-starts-end-2
slice_bounds-starts-end-2 c =
    let n = length c.args.ids.now in
    filled_within n c.booked_starts.new.starts (drop n (replicate {A = ℕ} 64 0)) (c.booked_starts.auto.starts ∙ length-take-le _ _ (leave-few c.requires.can).0)

pub slice_bounds-plan_remove-end : goal.slice_bounds-plan_remove-end
slice_bounds-plan_remove-end c =
    let n = length c.args.ids.now in
    sym (length-take-le _ _ (filled_within n c.booked_starts.new.starts (drop n (replicate {A = ℕ} 64 0)) (c.booked_starts.auto.starts ∙ length-take-le _ _ (leave-few c.requires.can).0)))

pub plan_remove-plan-requires : goal.plan_remove-plan-requires
plan_remove-plan-requires c =
    remove-same (c.view-view.ensures 0)
    (some-remove c.requires.can
    (take_at _ _ _ (c.booked_starts.auto.starts ∙ length-take-le _ _ (leave-few c.requires.can).0) ∙ c.booked_starts.ensures c.args.book.next.now c.requires.can.book-sized))

-- ---- planned, gathered, written

pub gather-requires : goal.gather-requires
gather-requires c =
    gather-same (c.view-view.ensures 0)
    (leave-gather c.requires.can
    (take_at _ _ _ (c.booked_starts.auto.starts ∙ length-take-le _ _ (leave-few c.requires.can).0) ∙ c.booked_starts.ensures c.args.book.next.now c.requires.can.book-sized)
    (removed-same (c.view-view.ensures 0) c.plan_remove-plan.ensures))

pub write_plan-requires : goal.write_plan-requires
write_plan-requires c =
    leave-write c.requires.can
    (take_at _ _ _ (c.booked_starts.auto.starts ∙ length-take-le _ _ (leave-few c.requires.can).0) ∙ c.booked_starts.ensures c.args.book.next.now c.requires.can.book-sized)
    (removed-same (c.view-view.ensures 0) c.plan_remove-plan.ensures) (gathered-same (c.view-view.ensures 0) c.gather.ensures)

pub returns-clause-done : goal.returns-clause-done
returns-clause-done c =
    λ N W can. group-left can
    (take_at _ _ _ (c.booked_starts.auto.starts ∙ length-take-le _ _ (leave-few c.requires.can).0) ∙ c.booked_starts.ensures c.args.book.next.now c.requires.can.book-sized)
    (removed-same (c.view-view.ensures 0) c.plan_remove-plan.ensures) (gathered-same (c.view-view.ensures 0) c.gather.ensures) c.write_plan.ensures.written c.write_plan.ensures.same.next-long
