-- `judging::judge_remove` meets its contract: what it finds and what it plans are the call's verdict, by the laws of Removing.antt. Assumes nothing.
use mathlib.Core.Path.{◌≡◌, sym, ap, ◌∙◌}
use mathlib.Core.Bool.{true}
use Rattle.std.proofs.lemmas.Result.{err_from_is_err_and}
use lib.ListN.{length}
use lib.Seq.{length-take-le}
use Rattle.tables.specs.Tables.{tables_of}
use Rattle.book.specs.Book.{book_of}
use Rattle.calls.specs.Refusals.{is_accepted}
use Rattle.calls.specs.Calls.{removing}
use Rattle.calls.specs.Changes.{effect}
use Rattle.calls.specs.Steps.{booked_in}
use Rattle.windows.specs.Windowed.{booked_inside}
use Rattle.refusals.specs.Found.{remove_found}
use Rattle.steps.specs.Outcome.{cut_world}
use Rattle.judging.proofs.Removing.{remove-refused, remove-few, remove-can, remove-planned}
use Rattle.judging.proofs.judge_remove.Goals as goal

pub returns-in_err-find_remove : goal.returns-in_err-find_remove
returns-in_err-find_remove c lim f g can =
    let p = err_from_is_err_and c.from_residual.result c.from_residual.ensures.1 in
    rw (p.1, p.2) (remove-refused can c.args.ids.now _ (c.in_err-find_remove.ensures (length c.args.heads.now) c.args.book_rows.now c.args.book_next.now g))

pub slice_bounds-room-end : goal.slice_bounds-room-end
slice_bounds-room-end c =
    let ok : is_accepted (remove_found (length c.args.heads.now) (book_of c.args.book_heads.now c.args.book_rows.now c.args.book_next.now c.requires.book-free) c.args.ids.now) ≡ true =
    sym (ap is_accepted (c.in_ok-find_remove.ensures (length c.args.heads.now) c.args.book_rows.now c.args.book_next.now c.requires.book-free)) in
    let few = remove-few c.requires.can c.args.ids.now ok in
    few.0

pub slice_bounds-starts-end : goal.slice_bounds-starts-end
slice_bounds-starts-end c =
    let ok : is_accepted (remove_found (length c.args.heads.now) (book_of c.args.book_heads.now c.args.book_rows.now c.args.book_next.now c.requires.book-free) c.args.ids.now) ≡ true =
    sym (ap is_accepted (c.in_ok-find_remove.ensures (length c.args.heads.now) c.args.book_rows.now c.args.book_next.now c.requires.book-free)) in
    let few = remove-few c.requires.can c.args.ids.now ok in
    sym (length-take-le _ _ few.0)

pub booked_starts-requires : goal.booked_starts-requires
booked_starts-requires c =
    let ok : is_accepted (remove_found (length c.args.heads.now) (book_of c.args.book_heads.now c.args.book_rows.now c.args.book_next.now c.requires.book-free) c.args.ids.now) ≡ true =
    sym (ap is_accepted (c.in_ok-find_remove.ensures (length c.args.heads.now) c.args.book_rows.now c.args.book_next.now c.requires.book-free)) in
    let few = remove-few c.requires.can c.args.ids.now ok in
    (length-take-le _ _ few.0, few.1)

pub hide_booked-requires : goal.hide_booked-requires
hide_booked-requires c =
    let ok : is_accepted (remove_found (length c.args.heads.now) (book_of c.args.book_heads.now c.args.book_rows.now c.args.book_next.now c.requires.book-free) c.args.ids.now) ≡ true =
    sym (ap is_accepted (c.in_ok-find_remove.ensures (length c.args.heads.now) c.args.book_rows.now c.args.book_next.now c.requires.book-free)) in
    let few = remove-few c.requires.can c.args.ids.now ok in
    (few.2, c.booked_starts.auto.starts ∙ length-take-le _ _ few.0)

pub plan_remove-plan-requires : goal.plan_remove-plan-requires
plan_remove-plan-requires c =
    let ok : is_accepted (remove_found (length c.args.heads.now) (book_of c.args.book_heads.now c.args.book_rows.now c.args.book_next.now c.requires.book-free) c.args.ids.now) ≡ true =
    sym (ap is_accepted (c.in_ok-find_remove.ensures (length c.args.heads.now) c.args.book_rows.now c.args.book_next.now c.requires.book-free)) in
    let x = effect (booked_in (cut_world (tables_of c.args.heads.now c.args.parents.now c.args.rows.now c.args.counts.now c.args.next.now c.args.book_heads.now c.args.book_rows.now c.args.book_next.now c.args.windows.now) c.requires.limits c.args.clock c.requires.free c.requires.book-free)) (removing c.args.ids.now) in
    record {
      R = x.stay;
      W = x.leave;
      can = remove-can c.requires.can c.args.ids.now ok 0 0
          (c.hide_booked.ensures ∙
          ap (booked_inside c.args.clock c.args.windows.now (length c.args.book_heads.now) c.args.ids.now) (c.booked_starts.ensures c.args.book_next.now c.requires.can.book-rows));
    }

pub returns : goal.returns
returns c lim f g can =
    let ok : is_accepted (remove_found (length c.args.heads.now) (book_of c.args.book_heads.now c.args.book_rows.now c.args.book_next.now g) c.args.ids.now) ≡ true =
    sym (ap is_accepted (c.in_ok-find_remove.ensures (length c.args.heads.now) c.args.book_rows.now c.args.book_next.now g)) in
    let x = effect (booked_in (cut_world (tables_of c.args.heads.now c.args.parents.now c.args.rows.now c.args.counts.now c.args.next.now c.args.book_heads.now c.args.book_rows.now c.args.book_next.now c.args.windows.now) lim c.args.clock f g)) (removing c.args.ids.now) in
    remove-planned can c.args.ids.now ok c.plan_remove-plan.result
    (c.plan_remove-plan.ensures x.stay x.leave (remove-can can c.args.ids.now ok 0 0
    (c.hide_booked.ensures ∙
    ap (booked_inside c.args.clock c.args.windows.now (length c.args.book_heads.now) c.args.ids.now) (c.booked_starts.ensures c.args.book_next.now can.book-rows))))
