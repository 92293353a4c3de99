-- `remove_unchecked` meets its contract: usable tables within their sizes can be judged, a verdict that refuses is the refused change, and one that accepts with the prefixes
-- written back the accepted one, by the laws of Batching.antt. Assumes nothing.
use mathlib.Core.Path.{refl, sym, ap, subst}
use Prim.Native.Nat.{ℕ}
use native.Mathlib.Omega.{arith}
use lib.ListN.{take}
use Rattle.tables.specs.Tables.{tables_of}
use Rattle.calls.specs.Refusals.{refusal, is_accepted}
use Rattle.calls.specs.Steps.{refused_by}
use Rattle.calls.proofs.Refusals.{sizes-facts}
use Rattle.factor.specs.Entries.{state_of}
use Rattle.answers.specs.Answers.{AnswerIs}
use Rattle.answers.proofs.Stepping.{change-long, change-can}
use Rattle.changes.proofs.Batching.{batch-refused, batch-can, batch-taken, lengths}
use Rattle.changes.proofs.remove_unchecked.Goals as goal

-- ---- judged

pub slice_bounds-judge_remove-end : goal.slice_bounds-judge_remove-end
slice_bounds-judge_remove-end c = sym (lengths c.requires).heads

pub slice_bounds-judge_remove-end-2 : goal.slice_bounds-judge_remove-end-2
slice_bounds-judge_remove-end-2 c = (change-long c.args.factor _ c.requires).parents

pub slice_bounds-judge_remove-end-3 : goal.slice_bounds-judge_remove-end-3
slice_bounds-judge_remove-end-3 c = sym (lengths c.requires).parents

pub slice_bounds-judge_remove-end-4 : goal.slice_bounds-judge_remove-end-4
slice_bounds-judge_remove-end-4 c = (change-long c.args.factor _ c.requires).rows

pub slice_bounds-judge_remove-end-5 : goal.slice_bounds-judge_remove-end-5
slice_bounds-judge_remove-end-5 c = sym (lengths c.requires).rows

pub slice_bounds-judge_remove-end-6 : goal.slice_bounds-judge_remove-end-6
slice_bounds-judge_remove-end-6 c = (change-long c.args.factor _ c.requires).counts

pub slice_bounds-judge_remove-end-7 : goal.slice_bounds-judge_remove-end-7
slice_bounds-judge_remove-end-7 c = sym (lengths c.requires).counts

pub slice_bounds-judge_remove-end-8 : goal.slice_bounds-judge_remove-end-8
slice_bounds-judge_remove-end-8 c = (change-long c.args.factor _ c.requires).next

pub slice_bounds-judge_remove-end-9 : goal.slice_bounds-judge_remove-end-9
slice_bounds-judge_remove-end-9 c = sym (lengths c.requires).next

pub slice_bounds-judge_remove-end-10 : goal.slice_bounds-judge_remove-end-10
slice_bounds-judge_remove-end-10 c = (change-long c.args.factor _ c.requires).book_heads

pub slice_bounds-judge_remove-end-11 : goal.slice_bounds-judge_remove-end-11
slice_bounds-judge_remove-end-11 c = sym (lengths c.requires).book_heads

pub slice_bounds-judge_remove-end-12 : goal.slice_bounds-judge_remove-end-12
slice_bounds-judge_remove-end-12 c = (change-long c.args.factor _ c.requires).book_rows

pub slice_bounds-judge_remove-end-13 : goal.slice_bounds-judge_remove-end-13
slice_bounds-judge_remove-end-13 c = sym (lengths c.requires).book_rows

pub slice_bounds-judge_remove-end-14 : goal.slice_bounds-judge_remove-end-14
slice_bounds-judge_remove-end-14 c = (change-long c.args.factor _ c.requires).book_next

pub slice_bounds-judge_remove-end-15 : goal.slice_bounds-judge_remove-end-15
slice_bounds-judge_remove-end-15 c = sym (lengths c.requires).book_next

pub slice_bounds-judge_remove-end-16 : goal.slice_bounds-judge_remove-end-16
slice_bounds-judge_remove-end-16 c = (change-long c.args.factor _ c.requires).windows

pub slice_bounds-judge_remove-end-17 : goal.slice_bounds-judge_remove-end-17
slice_bounds-judge_remove-end-17 c = sym (lengths c.requires).windows

pub judge_remove-requires : goal.judge_remove-requires
judge_remove-requires c =
    record { limits = (state_of c.args.factor).limits; free = c.args.factor.free; book-free = c.args.factor.book_free; can = (change-can c.args.factor _ c.requires).find }

pub returns-in-Err : goal.returns-in-Err
returns-in-Err c = batch-refused c.args.factor _ c.requires c.in-Err.refused (c.in-Err.ensures (state_of c.args.factor).limits c.args.factor.free c.args.factor.book_free (change-can c.args.factor _ c.requires).find)
    (subst (λ (n : ℕ). AnswerIs (refused_by (refusal n c.in-Err.refused.position)) (state_of c.args.factor) c.refused.result) c.number.ensures c.refused.ensures)

-- ---- written

pub slice_bounds-write_remove-end : goal.slice_bounds-write_remove-end
slice_bounds-write_remove-end c = sym (lengths c.requires).heads

pub slice_bounds-write_remove-end-2 : goal.slice_bounds-write_remove-end-2
slice_bounds-write_remove-end-2 c = (change-long c.args.factor _ c.requires).parents

pub slice_bounds-write_remove-end-3 : goal.slice_bounds-write_remove-end-3
slice_bounds-write_remove-end-3 c = sym (lengths c.requires).parents

pub slice_bounds-write_remove-end-4 : goal.slice_bounds-write_remove-end-4
slice_bounds-write_remove-end-4 c = (change-long c.args.factor _ c.requires).rows

pub slice_bounds-write_remove-end-5 : goal.slice_bounds-write_remove-end-5
slice_bounds-write_remove-end-5 c = sym (lengths c.requires).rows

pub slice_bounds-write_remove-end-6 : goal.slice_bounds-write_remove-end-6
slice_bounds-write_remove-end-6 c = (change-long c.args.factor _ c.requires).counts

pub slice_bounds-write_remove-end-7 : goal.slice_bounds-write_remove-end-7
slice_bounds-write_remove-end-7 c = sym (lengths c.requires).counts

pub slice_bounds-write_remove-end-8 : goal.slice_bounds-write_remove-end-8
slice_bounds-write_remove-end-8 c = (change-long c.args.factor _ c.requires).next

pub slice_bounds-write_remove-end-9 : goal.slice_bounds-write_remove-end-9
slice_bounds-write_remove-end-9 c = sym (lengths c.requires).next

pub slice_bounds-write_remove-end-10 : goal.slice_bounds-write_remove-end-10
slice_bounds-write_remove-end-10 c = (change-long c.args.factor _ c.requires).book_heads

pub slice_bounds-write_remove-end-11 : goal.slice_bounds-write_remove-end-11
slice_bounds-write_remove-end-11 c = sym (lengths c.requires).book_heads

pub slice_bounds-write_remove-end-12 : goal.slice_bounds-write_remove-end-12
slice_bounds-write_remove-end-12 c = (change-long c.args.factor _ c.requires).book_rows

pub slice_bounds-write_remove-end-13 : goal.slice_bounds-write_remove-end-13
slice_bounds-write_remove-end-13 c = sym (lengths c.requires).book_rows

pub slice_bounds-write_remove-end-14 : goal.slice_bounds-write_remove-end-14
slice_bounds-write_remove-end-14 c = (change-long c.args.factor _ c.requires).book_next

pub slice_bounds-write_remove-end-15 : goal.slice_bounds-write_remove-end-15
slice_bounds-write_remove-end-15 c = sym (lengths c.requires).book_next

pub slice_bounds-write_remove-end-16 : goal.slice_bounds-write_remove-end-16
slice_bounds-write_remove-end-16 c = (change-long c.args.factor _ c.requires).windows

pub slice_bounds-write_remove-end-17 : goal.slice_bounds-write_remove-end-17
slice_bounds-write_remove-end-17 c = sym (lengths c.requires).windows

pub overflow_mul-n-2 : goal.overflow_mul-n-2
overflow_mul-n-2 c = omega (arith, (sizes-facts (state_of c.args.factor).sizes (ap is_accepted c.requires.can-use.usable.sizes)).n-high)

pub write_remove-after-requires : goal.write_remove-after-requires
write_remove-after-requires c =
    record {
      limits = (state_of c.args.factor).limits;
      clock = c.args.factor.clock;
      before = c.args.work.now;
      can = batch-can c.args.factor _ c.requires c.in-Ok.plan (c.in-Ok.ensures (state_of c.args.factor).limits c.args.factor.free c.args.factor.book_free (change-can c.args.factor _ c.requires).find);
    }

pub returns : goal.returns
returns c =
    let can = batch-can c.args.factor _ c.requires c.in-Ok.plan (c.in-Ok.ensures (state_of c.args.factor).limits c.args.factor.free c.args.factor.book_free (change-can c.args.factor _ c.requires).find) in
    batch-taken c.args.factor (tables_of c.args.heads.now c.args.parents.now c.args.rows.now c.args.counts.now c.args.next.now c.args.book_heads.now c.args.book_rows.now c.args.book_next.now c.args.windows.now) c.requires c.in-Ok.plan (c.in-Ok.ensures (state_of c.args.factor).limits c.args.factor.free c.args.factor.book_free (change-can c.args.factor _ c.requires).find)
    (tables_of (take c.args.factor.m c.args.heads.now) c.write_remove-after.new.parents c.write_remove-after.new.rows c.write_remove-after.new.counts c.write_remove-after.new.next c.write_remove-after.new.book_heads
    c.write_remove-after.new.book_rows c.write_remove-after.new.book_next c.write_remove-after.new.windows)
    c.write_remove-after.result.free.0 c.write_remove-after.result.book_free.0
    (c.write_remove-after.ensures (state_of c.args.factor).limits c.args.factor.clock c.args.work.now can) refl c.accepted.ensures
