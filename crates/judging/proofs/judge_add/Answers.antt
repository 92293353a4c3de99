-- `judging::judge_add` meets its contract: what it finds and what it plans are the call's verdict, by the laws of Adding.antt. Assumes nothing.
use mathlib.Core.Path.{◌≡◌, sym, ap, ◌∙◌}
use mathlib.Core.Bool.{true}
use Rattle.std.proofs.lemmas.Result.{err_from_is_err_and}
use lib.ListN.{length}
use lib.Seq.{length-take-le}
use borrow.Author.Tests.{not-true, not-false}
use Rattle.tables.specs.Tables.{tables_of}
use Rattle.book.specs.Book.{book_of}
use Rattle.calls.specs.Refusals.{is_accepted}
use Rattle.calls.specs.Calls.{adding}
use Rattle.calls.specs.Changes.{effect}
use Rattle.calls.specs.Steps.{booked_in}
use Rattle.windows.specs.Windowed.{listed_inside}
use Rattle.refusals.specs.Found.{add_found}
use Rattle.steps.specs.Outcome.{cut_world}
use Rattle.steps.proofs.Cut.{book-sound}
use Rattle.judging.proofs.Adding.{add-refused, add-few, add-can, add-planned, add-full}
use Rattle.judging.proofs.judge_add.Goals as goal

pub returns-in_err-find_add : goal.returns-in_err-find_add
returns-in_err-find_add c lim br ws can =
    let p = err_from_is_err_and c.from_residual.result c.from_residual.ensures.1 in
    rw (p.1, p.2) (add-refused can c.args.ids.now c.args.row_counts.now c.args.row_list.now c.args.firsts.now c.args.seconds.now _ (c.in_err-find_add.ensures br (book-sound can)))

pub listed_starts-requires : goal.listed_starts-requires
listed_starts-requires c =
    let ok : is_accepted (add_found (length c.args.heads.now) (book_of c.args.book_heads.now c.requires.book-rows c.args.book_next.now c.args.book_free.0) c.args.ids.now c.args.row_counts.now c.args.row_list.now c.args.firsts.now c.args.seconds.now) ≡ true =
    sym (ap is_accepted (c.in_ok-find_add.ensures c.requires.book-rows (book-sound c.requires.can))) in
    let few = add-few c.requires.can c.args.ids.now c.args.row_counts.now c.args.row_list.now c.args.firsts.now c.args.seconds.now ok in
    (length-take-le _ _ few.0, few.1)

pub hide_listed-requires : goal.hide_listed-requires
hide_listed-requires c =
    let ok : is_accepted (add_found (length c.args.heads.now) (book_of c.args.book_heads.now c.requires.book-rows c.args.book_next.now c.args.book_free.0) c.args.ids.now c.args.row_counts.now c.args.row_list.now c.args.firsts.now c.args.seconds.now) ≡ true =
    sym (ap is_accepted (c.in_ok-find_add.ensures c.requires.book-rows (book-sound c.requires.can))) in
    let few = add-few c.requires.can c.args.ids.now c.args.row_counts.now c.args.row_list.now c.args.firsts.now c.args.seconds.now ok in
    let filled = c.listed_starts.auto.starts ∙ length-take-le _ _ few.0 in
    (few.2 ∙ sym filled, few.3 ∙ sym filled)

pub plan_add-plan-requires : goal.plan_add-plan-requires
plan_add-plan-requires c =
    let ok : is_accepted (add_found (length c.args.heads.now) (book_of c.args.book_heads.now c.requires.book-rows c.args.book_next.now c.args.book_free.0) c.args.ids.now c.args.row_counts.now c.args.row_list.now c.args.firsts.now c.args.seconds.now) ≡ true =
    sym (ap is_accepted (c.in_ok-find_add.ensures c.requires.book-rows (book-sound c.requires.can))) in
    let x = effect (booked_in (cut_world (tables_of c.args.heads.now c.args.parents.now c.args.rows.now c.args.counts.now c.args.next.now c.args.book_heads.now c.requires.book-rows c.args.book_next.now c.requires.windows) c.requires.limits c.args.clock c.args.free.0 c.args.book_free.0)) (adding c.args.ids.now c.args.row_counts.now c.args.row_list.now c.args.firsts.now c.args.seconds.now) in
    record {
      R = x.stay;
      W = x.enter;
      can = add-can c.requires.can c.args.ids.now c.args.row_counts.now c.args.row_list.now c.args.firsts.now c.args.seconds.now ok
          (c.hide_listed.ensures ∙ ap (listed_inside c.args.clock c.args.firsts.now c.args.seconds.now) c.listed_starts.ensures);
    }

pub returns-then-not-plan : goal.returns-then-not-plan
returns-then-not-plan c lim br ws can =
    let ok : is_accepted (add_found (length c.args.heads.now) (book_of c.args.book_heads.now br c.args.book_next.now c.args.book_free.0) c.args.ids.now c.args.row_counts.now c.args.row_list.now c.args.firsts.now c.args.seconds.now) ≡ true =
    sym (ap is_accepted (c.in_ok-find_add.ensures br (book-sound can))) in
    let x = effect (booked_in (cut_world (tables_of c.args.heads.now c.args.parents.now c.args.rows.now c.args.counts.now c.args.next.now c.args.book_heads.now br c.args.book_next.now ws) lim c.args.clock c.args.free.0 c.args.book_free.0)) (adding c.args.ids.now c.args.row_counts.now c.args.row_list.now c.args.firsts.now c.args.seconds.now) in
    add-full can c.args.ids.now c.args.row_counts.now c.args.row_list.now c.args.firsts.now c.args.seconds.now ok c.plan_add-plan.result
    (c.plan_add-plan.ensures x.stay x.enter (add-can can c.args.ids.now c.args.row_counts.now c.args.row_list.now c.args.firsts.now c.args.seconds.now ok
    (c.hide_listed.ensures ∙ ap (listed_inside c.args.clock c.args.firsts.now c.args.seconds.now) c.listed_starts.ensures)))
    (not-true c.plan_add-plan.result.fits c.if-not-plan.true) _ c.whole.ensures

pub returns : goal.returns
returns c lim br ws can =
    let ok : is_accepted (add_found (length c.args.heads.now) (book_of c.args.book_heads.now br c.args.book_next.now c.args.book_free.0) c.args.ids.now c.args.row_counts.now c.args.row_list.now c.args.firsts.now c.args.seconds.now) ≡ true =
    sym (ap is_accepted (c.in_ok-find_add.ensures br (book-sound can))) in
    let x = effect (booked_in (cut_world (tables_of c.args.heads.now c.args.parents.now c.args.rows.now c.args.counts.now c.args.next.now c.args.book_heads.now br c.args.book_next.now ws) lim c.args.clock c.args.free.0 c.args.book_free.0)) (adding c.args.ids.now c.args.row_counts.now c.args.row_list.now c.args.firsts.now c.args.seconds.now) in
    add-planned can c.args.ids.now c.args.row_counts.now c.args.row_list.now c.args.firsts.now c.args.seconds.now ok c.plan_add-plan.result
    (c.plan_add-plan.ensures x.stay x.enter (add-can can c.args.ids.now c.args.row_counts.now c.args.row_list.now c.args.firsts.now c.args.seconds.now ok
    (c.hide_listed.ensures ∙ ap (listed_inside c.args.clock c.args.firsts.now c.args.seconds.now) c.listed_starts.ensures)))
    (not-false c.plan_add-plan.result.fits c.if-not-plan.false)
