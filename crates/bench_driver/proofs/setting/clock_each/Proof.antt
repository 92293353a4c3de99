-- `clock_each` keeps the premise of the next change, by the laws of the crate continuing: the loop's invariant is `Running`, its measure the minutes left. Assumes nothing.
use mathlib.Core.Path.{refl, ◌∙◌}
use Prim.Native.Nat.{◌-◌, ◌≤◌}
use native.Mathlib.Omega.{arith}
use lib.ListN.{length, get_or}
use Rattle.tables.specs.Tables.{Tables, tables_of}
use Rattle.calls.specs.Calls.{setting}
use Rattle.factor.specs.Entries.{state_of, world_of}
use Rattle.answers.specs.Answers.{changed_answer}
use Rattle.continuing.proofs.Continuing.{change-can}
use Rattle.bench_driver.proofs.Running.{Running}
use Rattle.bench_driver.proofs.setting.clock_each.Statement.{statement}
use Rattle.bench_driver.proofs.setting.clock_each.Tie as tie

abbrev invariant-loop-done : tie.invariant-loop-done
invariant-loop-done heads parents₀ rows₀ counts₀ next₀ book-heads book-rows book-next windows work₀ touched₀ labels₀ minutes after₀ done₀ parents rows counts next work touched labels after done =
    Running heads parents₀ rows₀ counts₀ next₀ book-heads book-rows book-next windows work₀ touched₀ labels₀ (state_of after) parents rows counts next book-heads book-rows book-next windows work touched labels × (done ≤ length minutes)

abbrev decreases-loop-done : tie.decreases-loop-done
decreases-loop-done heads parents₀ rows₀ counts₀ next₀ book-heads book-rows book-next windows work₀ touched₀ labels₀ minutes after₀ done₀ parents rows counts next work touched labels after done = length minutes - done

-- ---- the places, named

abbrev entry : tie.At-loop-done invariant-loop-done decreases-loop-done → tie.Start invariant-loop-done decreases-loop-done
entry c = c.before.before.before.before.before.before.before.before.before.before.before.before.before.before

abbrev turn : tie.After-set_clock_unchecked-x invariant-loop-done decreases-loop-done → tie.In-loop-done invariant-loop-done decreases-loop-done
turn c = c.before.before.before.before.before.before.before.before.before

abbrev ran : tie.After-struct_known-1 invariant-loop-done decreases-loop-done → tie.After-set_clock_unchecked-x invariant-loop-done decreases-loop-done
ran c = c.before.before.before.before.before.before.before.before.before.before.before.before.before.before.before.before

abbrev at : tie.After-struct_known-1 invariant-loop-done decreases-loop-done → tie.At-loop-done invariant-loop-done decreases-loop-done
at c = (turn (ran c)).before

-- ---- a turn keeps the invariant

turned : (c : tie.After-struct_known-1 invariant-loop-done decreases-loop-done) → Running (entry (at c)).args.heads.now (entry (at c)).args.parents.now (entry (at c)).args.rows.now (entry (at c)).args.counts.now (entry (at c)).args.next.now (entry (at c)).args.book_heads.now (entry (at c)).args.book_rows.now (entry (at c)).args.book_next.now (entry (at c)).args.windows.now (entry (at c)).args.work.now (entry (at c)).args.touched.now (entry (at c)).args.labels.now (state_of (ran c).set_clock_unchecked-x.result.factor) (ran c).set_clock_unchecked-x.new.parents (ran c).set_clock_unchecked-x.new.rows (ran c).set_clock_unchecked-x.new.counts (ran c).set_clock_unchecked-x.new.next (entry (at c)).args.book_heads.now (entry (at c)).args.book_rows.now (entry (at c)).args.book_next.now (entry (at c)).args.windows.now (ran c).set_clock_unchecked-x.new.work (ran c).set_clock_unchecked-x.new.touched (ran c).set_clock_unchecked-x.new.labels
turned c =
    let u : tie.After-set_clock_unchecked-x invariant-loop-done decreases-loop-done = ran c in
    let s : tie.Start invariant-loop-done decreases-loop-done = entry (at c) in
    let i = (at c).loop-done.invariant.0 in
    let t : Tables = tables_of s.args.heads.now u.set_clock_unchecked-x.new.parents u.set_clock_unchecked-x.new.rows u.set_clock_unchecked-x.new.counts u.set_clock_unchecked-x.new.next s.args.book_heads.now s.args.book_rows.now s.args.book_next.now s.args.windows.now in
    record {
      can = change-can i.can u.set_clock_unchecked-x.new.work u.set_clock_unchecked-x.new.touched u.set_clock_unchecked-x.new.labels (world_of u.set_clock_unchecked-x.result.factor t)
          u.set_clock_unchecked-x.auto.touched u.set_clock_unchecked-x.auto.labels (setting (get_or s.args.minutes.now (at c).loop-done.done 0)) (changed_answer u.set_clock_unchecked-x.result) u.set_clock_unchecked-x.ensures;
      same-parents = u.set_clock_unchecked-x.auto.parents ∙ i.same-parents;
      same_rows = u.set_clock_unchecked-x.auto.rows ∙ i.same_rows;
      same-counts = u.set_clock_unchecked-x.auto.counts ∙ i.same-counts;
      same_next = u.set_clock_unchecked-x.auto.next ∙ i.same_next;
      same-book-heads = refl;
      same-book-rows = refl;
      same-book-next = refl;
      same-windows = refl;
      same-work = u.set_clock_unchecked-x.auto.work ∙ i.same-work;
      same-touched = u.set_clock_unchecked-x.auto.touched ∙ i.same-touched;
      same-labels = u.set_clock_unchecked-x.auto.labels ∙ i.same-labels;
    }

loop-holds : tie.Need-loop-done-init invariant-loop-done decreases-loop-done
loop-holds c = (record { can = c.before.before.before.before.before.before.before.before.before.before.before.before.before.requires.0; same-parents = refl; same_rows = refl; same-counts = refl; same_next = refl; same-book-heads = refl; same-book-rows = refl; same-book-next = refl; same-windows = refl; same-work = refl; same-touched = refl; same-labels = refl }, omega arith)

mul-minute : tie.Need-offset_bounds-minutes-done invariant-loop-done decreases-loop-done
mul-minute c = omega (arith, c.loop-done-test.true, (entry c.before).requires.1)

shared-slice-read-minute : tie.Need-bounds-minutes-done invariant-loop-done decreases-loop-done
shared-slice-read-minute c = c.before.loop-done-test.true

set-clock-unchecked-requires : tie.Need-set_clock_unchecked-x-requires invariant-loop-done decreases-loop-done
set-clock-unchecked-requires c κs = c.before.before.before.before.before.before.before.before.before.loop-done.invariant.0.can

cast-t37 : tie.Need-overflow_cast-result invariant-loop-done decreases-loop-done
cast-t37 c = omega (arith, (turn (ran c.before)).loop-done-test.true, (entry (at c.before)).requires.1)

same_length : tie.Need-shape_of-parents-then-x-ne0 invariant-loop-done decreases-loop-done
same_length c = (turned c.before).same-parents

same-length-2 : tie.Need-shape_of-rows-then-x-ne0 invariant-loop-done decreases-loop-done
same-length-2 c = (turned c.before).same_rows

same-length-3 : tie.Need-shape_of-counts-then-x-ne0 invariant-loop-done decreases-loop-done
same-length-3 c = (turned c.before).same-counts

same-length-4 : tie.Need-shape_of-next-then-x-ne0 invariant-loop-done decreases-loop-done
same-length-4 c = (turned c.before).same_next

same-length-5 : tie.Need-shape_of-work-then-x-ne0 invariant-loop-done decreases-loop-done
same-length-5 c = (turned c.before).same-work

same-length-6 : tie.Need-shape_of-touched-then-x-ne0 invariant-loop-done decreases-loop-done
same-length-6 c = (turned c.before).same-touched

same-length-7 : tie.Need-shape_of-labels-then-x-ne0 invariant-loop-done decreases-loop-done
same-length-7 c = (turned c.before).same-labels

returns : tie.Need-returns-then-x-ne0 invariant-loop-done decreases-loop-done
returns c = (turned c.before).can

add_done : tie.Need-overflow_add-done invariant-loop-done decreases-loop-done
add_done c = omega (arith, (turn (ran c.before)).loop-done-test.true, (entry (at c.before)).requires.1)

loop-less : tie.Need-loop-done-smaller invariant-loop-done decreases-loop-done
loop-less c = omega (arith, (turn (ran c.before)).loop-done-test.true)

loop-again : tie.Need-loop-done-preserved invariant-loop-done decreases-loop-done
loop-again c = (turned c.before, omega (arith, (turn (ran c.before)).loop-done-test.true))

cast-t38 : tie.Need-overflow_cast-result-2 invariant-loop-done decreases-loop-done
cast-t38 c = omega (arith, c.before.loop-done.invariant.1, (entry c.before).requires.1)

same-length-8 : tie.Need-shape_of-parents invariant-loop-done decreases-loop-done
same-length-8 c = c.before.loop-done.invariant.0.same-parents

same-length-9 : tie.Need-shape_of-rows invariant-loop-done decreases-loop-done
same-length-9 c = c.before.loop-done.invariant.0.same_rows

same-length-10 : tie.Need-shape_of-counts invariant-loop-done decreases-loop-done
same-length-10 c = c.before.loop-done.invariant.0.same-counts

same-length-11 : tie.Need-shape_of-next invariant-loop-done decreases-loop-done
same-length-11 c = c.before.loop-done.invariant.0.same_next

same-length-12 : tie.Need-shape_of-work invariant-loop-done decreases-loop-done
same-length-12 c = c.before.loop-done.invariant.0.same-work

same-length-13 : tie.Need-shape_of-touched invariant-loop-done decreases-loop-done
same-length-13 c = c.before.loop-done.invariant.0.same-touched

same-length-14 : tie.Need-shape_of-labels invariant-loop-done decreases-loop-done
same-length-14 c = c.before.loop-done.invariant.0.same-labels

returns-2 : tie.Need-returns invariant-loop-done decreases-loop-done
returns-2 c = c.before.loop-done.invariant.0.can

pub clock_each_spec : {M : Type 1} → statement M
clock_each_spec =
    tie.close
    (tie.spec
    invariant-loop-done
    decreases-loop-done
    loop-holds
    mul-minute
    shared-slice-read-minute
    set-clock-unchecked-requires
    cast-t37
    same_length
    same-length-2
    same-length-3
    same-length-4
    same-length-5
    same-length-6
    same-length-7
    returns
    add_done
    loop-less
    loop-again
    cast-t38
    same-length-8
    same-length-9
    same-length-10
    same-length-11
    same-length-12
    same-length-13
    same-length-14
    returns-2)
