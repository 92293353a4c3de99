use Rattle.std.proofs.Common.{arith, inl, inr}
use Rattle.book.proofs.Counting.{counting-start, counting-facts, counting_more, counting-less, counting-end}
use Rattle.book.proofs.BookView.count_rows.Goals as goal
use Rattle.book.proofs.BookView.count_rows.Goals.{then-counter-eq0, else-counter-eq0}

pub loop-r-init : goal.loop-r-init
loop-r-init c = counting-start c.requires

pub bounds-self-i : goal.bounds-self-i
bounds-self-i c = let f = counting-facts c.requires c.loop-r.invariant c.loop-r-test.true in omega arith

pub overflow_sub-counter : goal.overflow_sub-counter
overflow_sub-counter c = let f = counting-facts c.requires c.loop-r.invariant c.loop-r-test.true in omega arith

pub bounds-counters-self : goal.bounds-counters-self
bounds-counters-self c = let f = counting-facts c.requires c.loop-r.invariant c.loop-r-test.true in omega arith

pub overflow_add-counter : goal.overflow_add-counter
overflow_add-counter c = let f = counting-facts c.requires c.loop-r.invariant c.loop-r-test.true in omega arith

pub overflow_add-size : goal.overflow_add-size
overflow_add-size c = let f = counting-facts c.requires c.loop-r.invariant c.loop-r-test.true in omega arith

pub bounds-self-i-in-loop-r : goal.bounds-self-i-in-loop-r
bounds-self-i-in-loop-r c = let f = counting-facts c.requires c.loop-r.invariant c.loop-r-test.true in omega arith

pub loop-r-smaller : goal.loop-r-smaller
loop-r-smaller c = counting-less c.requires c.loop-r.invariant c.loop-r-test.true

pub loop-r-preserved : goal.loop-r-preserved
loop-r-preserved c =
    counting_more c.requires c.loop-r.invariant c.loop-r-test.true _
    (elim c.if-counter-eq0.branch [
      | then-counter-eq0 w ↦ inl (w.if-counter-eq0.true, w.size-is)
      | else-counter-eq0 w ↦ inr (w.if-counter-eq0.false, w.size-is)
    ])

pub returns-clause-counted : goal.returns-clause-counted
returns-clause-counted c = counting-end c.requires c.loop-r.invariant c.loop-r-test.false
