-- `differences::gather_below` meets its contract. Assumes nothing.
use borrow.Author.Tests.{eq-eqb, ne_eqb}
use Rattle.std.proofs.Common.{◌<◌, arith, sym, ◌∙◌}
use Rattle.differences.proofs.Passing.{reaching-start, reaching-room, reaching-take, reaching-skip, reached-stop, reached-end}
use Rattle.differences.proofs.gather_below.Goals as goal
use Rattle.differences.proofs.gather_below.Goals.{then-kind_of-kind, else-kind_of-kind}

-- a row of the kind has a place in the buffer
room : (c : goal.Then-kind_of-kind) → c.loop-a.n < c.args.m
room c = reaching-room c.requires c.loop-a.invariant c.loop-a-test.true (eq-eqb _ _ (sym c.kind_of.ensures ∙ c.if-kind_of-kind.true))

pub loop-a-init : goal.loop-a-init
loop-a-init c = reaching-start c.requires

pub returns-then-least-row : goal.returns-then-least-row
returns-then-least-row c = reached-stop c.requires c.loop-a.invariant (omega arith)

pub overflow_add-work : goal.overflow_add-work
overflow_add-work c = omega (arith, room c)

pub offset_bounds-work-m-then-kind_of-kind : goal.offset_bounds-work-m-then-kind_of-kind
offset_bounds-work-m-then-kind_of-kind c = omega (arith, room c)

pub bounds-work-m-then-kind_of-kind : goal.bounds-work-m-then-kind_of-kind
bounds-work-m-then-kind_of-kind c = omega (arith, room c)

pub overflow_add-n : goal.overflow_add-n
overflow_add-n c = omega (arith, room c)

pub loop-a-preserved : goal.loop-a-preserved
loop-a-preserved c =
    elim c.if-kind_of-kind.branch [
      | then-kind_of-kind w ↦
          rw (w.work-is, w.n-is, c.row_of-row.ensures)
          (reaching-take c.requires c.loop-a.invariant c.loop-a-test.true (eq-eqb _ _ (sym c.kind_of.ensures ∙ w.if-kind_of-kind.true)) (omega arith))
      | else-kind_of-kind w ↦
          rw (w.work-is, w.n-is) (reaching-skip c.requires c.loop-a.invariant c.loop-a-test.true (ne_eqb _ _ (λ e. w.if-kind_of-kind.false (c.kind_of.ensures ∙ e))) (omega arith))
    ]

pub returns : goal.returns
returns c = reached-end c.requires c.loop-a.invariant (omega arith)
