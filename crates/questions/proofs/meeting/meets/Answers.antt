-- `meeting::meets` meets its contract: inside 1 to m it replies 18 where the columns do not fit, else the marked columns, written from the place on; in both cases
-- the marks are cleared again. Assumes nothing.
use mathlib.Core.Path.{ap, ◌∙◌}
use mathlib.Core.List.{List}
use Prim.Native.Nat.{ℕ, ◌-◌}
use native.Mathlib.Omega.{arith}
use lib.ListN.{length, take, drop}
use Rattle.lists.specs.Lists.{over}
use Rattle.calls.specs.Questions.{meets_list}
use Rattle.questions.proofs.Replies.{row_in, room_out, room_in, part-written}
use Rattle.questions.proofs.Marking.{climb-tree, marked-meets, meets-few, meets-number, marks-cleared}
use Rattle.questions.proofs.Answers.{meets-room, meets-answer}
use Rattle.questions.proofs.meeting.meets.Goals as goal

pub returns-then-room_outside-clause-reply : goal.returns-then-room_outside-clause-reply
returns-then-room_outside-clause-reply c r f =
    let t = row_in (length c.args.heads.now) c.args.i.0 c.row_outside.ensures c.if-row_outside.false in
    rw c.refused-then-room_outside.ensures
    ((meets-room c.args.heads.now c.args.parents.now c.args.rows.now c.args.counts.now c.args.next.now c.args.i.0 c.args.place c.args.list.now t.0 c.mark-n.result (meets-number t.1 t.2 c.mark-n.ensures.number c.mark-n.ensures.marked)
    (room_out c.args.list.now c.args.place c.mark-n.result c.room_outside.ensures c.if-room_outside.true)).0 r f)

pub returns-then-room_outside-clause-written : goal.returns-then-room_outside-clause-written
returns-then-room_outside-clause-written c r f =
    let t = row_in (length c.args.heads.now) c.args.i.0 c.row_outside.ensures c.if-row_outside.false in
    (meets-room c.args.heads.now c.args.parents.now c.args.rows.now c.args.counts.now c.args.next.now c.args.i.0 c.args.place c.args.list.now t.0 c.mark-n.result (meets-number t.1 t.2 c.mark-n.ensures.number c.mark-n.ensures.marked)
    (room_out c.args.list.now c.args.place c.mark-n.result c.room_outside.ensures c.if-room_outside.true)).1 r f

pub returns-then-room_outside-clause-kept : goal.returns-then-room_outside-clause-kept
returns-then-room_outside-clause-kept c =
    let t = row_in (length c.args.heads.now) c.args.i.0 c.row_outside.ensures c.if-row_outside.false in
    c.clear.ensures ∙ marks-cleared c.args.i.0 (length c.args.heads.now) t.2 c.requires.room c.requires.zero c.mark-n.ensures.only

pub overflow_cast-n : goal.overflow_cast-n
overflow_cast-n c =
    let t = row_in (length c.args.heads.now) c.args.i.0 c.row_outside.ensures c.if-row_outside.false in
    let tree = climb-tree c.requires.climb in
    omega (
      arith,
      meets-number t.1 t.2 c.mark-n.ensures.number c.mark-n.ensures.marked c.requires.climb.ask.register tree,
      meets-few c.args.i.0 tree t.1 t.2,
      t.2,
      c.requires.climb.ask.narrow,
    )

pub returns-clause-reply : goal.returns-clause-reply
returns-clause-reply c r f =
    let t = row_in (length c.args.heads.now) c.args.i.0 c.row_outside.ensures c.if-row_outside.false in
    let v = room_in c.args.list.now c.args.place c.mark-n.result c.room_outside.ensures c.if-room_outside.false in
    rw c.of.ensures
    ((meets-answer c.args.heads.now c.args.parents.now c.args.rows.now c.args.counts.now c.args.next.now c.args.i.0 c.args.place c.args.list.now t.0 c.mark-n.result (meets-number t.1 t.2 c.mark-n.ensures.number c.mark-n.ensures.marked) _ v.0
    (λ s h. part-written c.args.list.now _ (meets_list s c.args.i.0) c.args.place (omega (arith, v.1, meets-number t.1 t.2 c.mark-n.ensures.number c.mark-n.ensures.marked s h))
    (c.copy_marked.ensures ∙ ap (λ (l : List ℕ). over l (take (length c.args.list.now - c.args.place) (drop c.args.place c.args.list.now))) (marked-meets c.args.i.0 h t.1 t.2 (c.mark-n.ensures.marked s h))))).0 r f)

pub returns-clause-written : goal.returns-clause-written
returns-clause-written c r f =
    let t = row_in (length c.args.heads.now) c.args.i.0 c.row_outside.ensures c.if-row_outside.false in
    let v = room_in c.args.list.now c.args.place c.mark-n.result c.room_outside.ensures c.if-room_outside.false in
    (meets-answer c.args.heads.now c.args.parents.now c.args.rows.now c.args.counts.now c.args.next.now c.args.i.0 c.args.place c.args.list.now t.0 c.mark-n.result (meets-number t.1 t.2 c.mark-n.ensures.number c.mark-n.ensures.marked) _ v.0
    (λ s h. part-written c.args.list.now _ (meets_list s c.args.i.0) c.args.place (omega (arith, v.1, meets-number t.1 t.2 c.mark-n.ensures.number c.mark-n.ensures.marked s h))
    (c.copy_marked.ensures ∙ ap (λ (l : List ℕ). over l (take (length c.args.list.now - c.args.place) (drop c.args.place c.args.list.now))) (marked-meets c.args.i.0 h t.1 t.2 (c.mark-n.ensures.marked s h))))).1 r f

pub returns-clause-kept : goal.returns-clause-kept
returns-clause-kept c =
    let t = row_in (length c.args.heads.now) c.args.i.0 c.row_outside.ensures c.if-row_outside.false in
    c.clear-2.ensures ∙ marks-cleared c.args.i.0 (length c.args.heads.now) t.2 c.requires.room c.requires.zero c.mark-n.ensures.only
