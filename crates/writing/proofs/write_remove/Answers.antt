-- `writing::write_remove` meets its contract: an accepted batch can be reported and written and its columns can leave the book, and all together are the change's world
-- and report, by the laws of Exchanging.antt and Booking.antt. Assumes nothing.
use Rattle.std.proofs.Common.{ℕ, length, refl, rules}
use Rattle.tables.specs.Tables.{Tables, tables_of}
use Rattle.symbolic.specs.Columns.{Register, live}
use Rattle.symbolic.specs.Factor.{factor_of}
use Rattle.calls.specs.Calls.{Change, removing}
use Rattle.calls.specs.Changes.{effect, touched_by}
use Rattle.calls.specs.Steps.{booked_in}
use Rattle.steps.specs.Outcome.{cut_world}
use Rattle.writing.proofs.Exchanging.{written-back, report-can, write-can, batch-written}
use Rattle.writing.proofs.Booking.{leave-can, leave-minutes, left_after}
use Rattle.writing.proofs.write_remove.Goals as goal

pub report-requires : goal.report-requires
report-requires c =
    let t : Tables = tables_of c.args.heads.now c.args.parents.now c.args.rows.now c.args.counts.now c.args.next.now c.args.book_heads.now c.args.book_rows.now c.args.book_next.now c.args.windows.now in
    let r : Register = booked_in (cut_world t c.requires.limits c.requires.clock c.args.free.0 c.args.book_free.0) in
    let k : Change = removing c.args.ids.now in
    record {
      L = factor_of (length c.args.heads.now) (live r);
      L' = factor_of (length c.args.heads.now) (live (effect r k).register);
      label = (effect r k).label;
      columns = touched_by r k;
      used = c.args.plan.used;
      can = report-can c.requires.can;
    }

pub write_plan-z-requires : goal.write_plan-z-requires
write_plan-z-requires c =
    let t : Tables = tables_of c.args.heads.now c.args.parents.now c.args.rows.now c.args.counts.now c.args.next.now c.args.book_heads.now c.args.book_rows.now c.args.book_next.now c.args.windows.now in
    let r : Register = booked_in (cut_world t c.requires.limits c.requires.clock c.args.free.0 c.args.book_free.0) in
    let k : Change = removing c.args.ids.now in
    record {
      cs = live r;
      ds = live (effect r k).register;
      label = (effect r k).label;
      columns = touched_by r k;
      before = c.requires.before;
      count = c.args.plan.count;
      entries = c.args.plan.entries;
      can = write-can c.requires.can;
    }

pub leave_columns-y-requires : goal.leave_columns-y-requires
leave_columns-y-requires c = let p = c.requires.can in record { m = length c.args.heads.now; can = leave-can p.can.find c.args.ids.now p.accepted }

pub leave-requires : goal.leave-requires
leave-requires c = let p = c.requires.can in leave-minutes p.can.find c.args.ids.now p.accepted c.leave_columns-y.auto.book_heads

pub returns : goal.returns
returns c lim o w can =
    let t : Tables = tables_of c.args.heads.now c.args.parents.now c.args.rows.now c.args.counts.now c.args.next.now c.args.book_heads.now c.args.book_rows.now c.args.book_next.now c.args.windows.now in
    let r : Register = booked_in (cut_world t lim o c.args.free.0 c.args.book_free.0) in
    let k : Change = removing c.args.ids.now in
    let m : ℕ = length c.args.heads.now in
    batch-written can refl (search rules)
    (c.report.ensures (factor_of m (live r)) (factor_of m (live (effect r k).register)) (effect r k).label (touched_by r k) c.args.plan.used (report-can can))
    (written-back c.write_plan-z.ensures.same (search rules) (search rules) (search rules) (search rules)
    (c.write_plan-z.ensures.written (live r) (live (effect r k).register) (effect r k).label (touched_by r k) w c.args.plan.count c.args.plan.entries (write-can can)))
    (left_after can.can.find c.args.ids.now can.accepted
    (c.leave_columns-y.ensures (length c.args.heads.now) (leave-can can.can.find c.args.ids.now can.accepted))
    c.leave_columns-y.auto.book_heads c.leave.ensures)
