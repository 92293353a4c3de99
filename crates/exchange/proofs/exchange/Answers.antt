-- `exchange::exchange` meets its contract: parents saved, and all leave where none enters; else records saved too, and a swap; by the laws of Finishing.antt.
-- Assumes nothing.
use Rattle.std.proofs.Common.{arith, rules, sym, ◌∙◌}
use borrow.Author.Tests.{eqb-true}
use Rattle.tables.proofs.Lent.{lent-back}
use Rattle.exchange.proofs.Choosing.{can-scan, can-swap}
use Rattle.exchange.proofs.Swapping.{can-leave-all, some-leave-all}
use Rattle.exchange.proofs.Finishing.{can-save-parents, can-save-records, can-after, parents-only, some-swap, finished-leaving, finished-both, exchanged-same}
use Rattle.exchange.proofs.exchange.Goals as goal

pub save_parents-requires : goal.save_parents-requires
save_parents-requires c = can-save-parents (can-swap c.requires c.args.after)

-- ---- none enters

pub leave_all-z-requires : goal.leave_all-z-requires
leave_all-z-requires c =
    let q = can-swap c.requires c.args.after in
    some-leave-all (can-leave-all (can-after q (parents-only q c.save_parents.ensures))) (can-scan c.requires)

pub returns-then-none_moves : goal.returns-then-none_moves
returns-then-none_moves c =
    let q = can-swap c.requires c.args.after in
    exchanged-same (lent-back c.leave_all-z.ensures.same (search rules) (search rules) (search rules) (search rules) _)
    (finished-leaving q c.save_parents.ensures (eqb-true _ _ (sym c.none_moves.ensures ∙ c.if-none_moves.true))
    (c.leave_all-z.ensures.done _ _ (can-leave-all (can-after q (parents-only q c.save_parents.ensures)))))

-- ---- some enter

pub save_records-requires : goal.save_records-requires
save_records-requires c =
    let q = can-swap c.requires c.args.after in
    can-save-records (can-after q (parents-only q c.save_parents.ensures)) (λ k. omega (arith, c.slice_known-3-1.given k))

pub swap-requires : goal.swap-requires
swap-requires c = some-swap (can-swap c.requires c.args.after) (can-scan c.requires) (λ k. omega (arith, c.slice_known-3-1.given k)) c.save_parents.ensures c.save_records.ensures

pub returns : goal.returns
returns c =
    rw c.swap.ensures.saved
    (exchanged-same (lent-back c.swap.ensures.same (search rules) (search rules) (search rules) (search rules) _)
    (finished-both (can-swap c.requires c.args.after) c.save_parents.ensures c.save_records.ensures c.swap.ensures.done))
