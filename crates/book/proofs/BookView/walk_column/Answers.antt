use Rattle.std.proofs.Common.{◌-◌, ◌≤◌, ◌<◌, length, get_or, refl, arith}
use Rattle.book.proofs.Walks.{following-start, following-next, following-cut, following-many, following-full, following-ended}
use Rattle.book.proofs.BookView.walk_column.Goals as goal
use Rattle.book.proofs.BookView.walk_column.Goals.{then-row-above-via-then-row-above, then-row-above-via-else-row-above+then-m-row, then-k-gt-MOST-via-then-k-gt-MOST, then-k-gt-MOST-via-else-k-gt-MOST+then-next-met}

pub loop-r-init : goal.loop-r-init
loop-r-init c = let h : get_or c.args.self.heads.now c.args.i 0 < 4294967296 = omega arith in following-start h

pub returns-in_err-after : goal.returns-in_err-after
returns-in_err-after c =
    rw c.from_residual.ensures
    (following-cut c.args.self.heads.now c.args.i c.args.met c.loop-r.invariant c.loop-r-test.true
    (λ g. omega (arith, g.inside, c.in_err-after.ensures.lookup.3)))

pub returns-then-row-above : goal.returns-then-row-above
returns-then-row-above c =
    following-cut c.args.self.heads.now c.args.i c.args.met c.loop-r.invariant c.loop-r-test.true
    (λ g. elim c.then-row-above.branch [
      | then-row-above-via-then-row-above w ↦ omega (arith, g.low, w.if-row-above.true)
      | then-row-above-via-else-row-above+then-m-row w ↦ omega (arith, g.high, w.if-m-row.true)
    ])

pub loop-r-preserved : goal.loop-r-preserved
loop-r-preserved c =
    let k = c.in_ok-after.ensures.lookup in
    let inside : c.loop-r.r ≤ length c.args.self.next.now = omega (arith, k.3.0) in
    let narrow : get_or c.args.self.next.now (c.loop-r.r - 1) 0 < 4294967296 = omega (arith, k.3.1 0) in
    rw (k.3.1 0) (following-next c.loop-r.invariant c.loop-r-test.true inside refl c.if-row-above.false c.if-m-row.false narrow)

pub returns-then-k-gt-MOST : goal.returns-then-k-gt-MOST
returns-then-k-gt-MOST c =
    elim c.then-k-gt-MOST.branch [
      | then-k-gt-MOST-via-then-k-gt-MOST w ↦
          following-many c.args.self.heads.now c.args.i c.args.met c.loop-r.invariant c.loop-r-test.false w.if-k-gt-MOST.true
      | then-k-gt-MOST-via-else-k-gt-MOST+then-next-met w ↦
          following-full c.args.self.heads.now c.args.i c.args.met c.loop-r.invariant c.loop-r-test.false (omega (arith, w.if-next-met.true))
    ]

pub returns : goal.returns
returns c =
    following-ended c.args.self.heads.now c.args.i c.args.met c.loop-r.invariant c.loop-r-test.false c.requires.booked c.if-k-gt-MOST.false
    (omega (arith, c.requires.within)) refl refl
