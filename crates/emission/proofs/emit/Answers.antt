-- `emission::emit` meets its contract. Assumes nothing.
use Rattle.std.proofs.Common.{◌≡◌, ◌+◌, ◌-◌, ◌<◌, get_or, arith, refl, ap, ◌∙◌}
use Rattle.lists.specs.Lists.{at}
use Rattle.workspace.specs.Regions.{cell}
use Rattle.differences.specs.Tally.{base}
use Rattle.emission.specs.declared.Walk.{Walk}
use Rattle.emission.proofs.Emitting.{emitting-start, emitting-pass, row-some, row_within, old_value, new-value, new-fits, walk_inside, record-inside, advanced-small, emitting-skip, emitting-plan, emitting-turn, emitting-done}
use Rattle.emission.proofs.emit.Goals as goal
use Rattle.emission.proofs.emit.Goals.{then-walk, else-walk}

pub loop-i-init : goal.loop-i-init
loop-i-init c = λ old new can. emitting-start can

pub overflow_sub-k : goal.overflow_sub-k
overflow_sub-k c = let r = c.requires in row-some r.can (c.loop-i.invariant r.old r.new r.can) c.loop-i-test.true

pub bounds-work-k : goal.bounds-work-k
bounds-work-k c =
    let r = c.requires in
    let g = c.loop-i.invariant r.old r.new r.can in
    omega (arith, r.can.tally.touched.long, row-some r.can g c.loop-i-test.true, row_within r.can g c.loop-i-test.true)

pub bounds-work-k-in-loop-i : goal.bounds-work-k-in-loop-i
bounds-work-k-in-loop-i c =
    let r = c.requires in
    let g = c.loop-i.invariant r.old r.new r.can in
    omega (arith, r.can.tally.touched.long, row-some r.can g c.loop-i-test.true, row_within r.can g c.loop-i-test.true)

pub pass-w-requires : goal.pass-w-requires
pass-w-requires c = let r = c.requires in emitting-pass r.can (c.loop-i.invariant r.old r.new r.can)

pub stored-old-requires : goal.stored-old-requires
stored-old-requires c =
    let r = c.requires in
    omega (
      arith,
      r.can.rows_long,
      r.can.counts-long,
      walk_inside r.can (c.loop-i.invariant r.old r.new r.can) c.loop-i-test.true c.if-walk.true c.pass-w.ensures,
    )

-- the multiplicity that was read is the old one, and the difference makes it the new one
record Values (c : goal.After-stored-old) : Type 0 where
  old-is : c.stored-old.result ≡ get_or c.requires.old (cell c.loop-i.work c.args.m c.loop-i.i - 1) 0
  new_is : get_or c.requires.new (cell c.loop-i.work c.args.m c.loop-i.i - 1) 0 + base ≡ c.stored-old.result + at c.loop-i.work (cell c.loop-i.work c.args.m c.loop-i.i)
  new-small : get_or c.requires.new (cell c.loop-i.work c.args.m c.loop-i.i - 1) 0 < 65536

values : (c : goal.After-stored-old) → Values c
values c =
    let r = c.requires in
    let g = c.loop-i.invariant r.old r.new r.can in
    let t = c.loop-i-test.true in
    let e = c.stored-old.ensures ∙ old_value r.can g t c.if-walk.true c.pass-w.ensures in
    record {
      old-is = e;
      new_is = omega (arith, e, new-value r.can g t c.if-walk.true c.pass-w.ensures);
      new-small = new-fits r.can g t c.if-walk.true c.pass-w.ensures;
    }

pub overflow_add-new : goal.overflow_add-new
overflow_add-new c = let v = values c in omega arith

pub overflow_sub-new : goal.overflow_sub-new
overflow_sub-new c = let v = values c in omega arith

pub advance-requires : goal.advance-requires
advance-requires c =
    let r = c.requires in
    λ z. record-inside r.can (c.loop-i.invariant r.old r.new r.can) c.loop-i-test.true c.if-walk.true c.pass-w.ensures (λ e. z ((values c).old-is ∙ e))

pub count_row-v-requires : goal.count_row-v-requires
count_row-v-requires c =
    let r = c.requires in
    omega (
      arith,
      ap (λ (w : Walk). w.size) c.advance.ensures,
      advanced-small r.can (c.loop-i.invariant r.old r.new r.can) c.loop-i-test.true c.if-walk.true c.pass-w.ensures c.stored-old.result,
    )

pub plan_row-walk-requires : goal.plan_row-walk-requires
plan_row-walk-requires c =
    let r = c.requires in
    emitting-plan r.can (c.loop-i.invariant r.old r.new r.can) c.loop-i-test.true c.if-walk.true c.pass-w.ensures c.stored-old.ensures refl c.advance.ensures
    c.count_row-v.ensures

pub loop-i-preserved : goal.loop-i-preserved
loop-i-preserved c =
    λ old new can.
    let g = c.loop-i.invariant old new can in
    elim c.if-walk.branch [
      | then-walk w ↦
          rw (w.work-is, w.walk-is)
          (emitting-turn can g c.loop-i-test.true w.if-walk.true w.pass-w.ensures w.stored-old.ensures refl w.advance.ensures w.count_row-v.ensures w.plan_row-walk.ensures)
      | else-walk w ↦ rw (w.work-is, w.walk-is) (emitting-skip can g c.loop-i-test.true w.if-walk.false)
    ]

pub pass-last-requires : goal.pass-last-requires
pass-last-requires c = let r = c.requires in emitting-pass r.can (c.loop-i.invariant r.old r.new r.can)

pub returns : goal.returns
returns c = λ old new can. emitting-done can (c.loop-i.invariant old new can) (omega arith) c.pass-last.ensures c.max.ensures
