-- `questions::column` meets its contract: inside 1 to m it replies 18 where two places for each record do not fit, else the entries of the chain, written from
-- the place on. Assumes nothing.
use mathlib.Core.Path.{◌≡◌, ap, ◌∙◌}
use mathlib.Core.List.{List}
use Prim.Native.Nat.{ℕ, ◌*◌, ◌-◌}
use native.Mathlib.Omega.{arith}
use lib.ListN.{length, take, drop, length-drop}
use borrow.Author.Rules.{part_to_end}
use Rattle.lists.specs.Lists.{at, over}
use Rattle.pool.specs.Chains.{chain}
use Rattle.calls.specs.Questions.{column_list}
use Rattle.questions.proofs.Replies.{row_in, room_out, room_in, part-written}
use Rattle.questions.proofs.Reading.{read-size, read-entries, read-places, chain-short, can-copy}
use Rattle.questions.proofs.Answers.{column-room, column-answer}
use Rattle.questions.proofs.column.Goals as goal

pub returns-then-room_outside-clause-reply : goal.returns-then-room_outside-clause-reply
returns-then-room_outside-clause-reply c r f =
    let t = row_in (length c.args.heads.now) c.args.j.0 c.row_outside.ensures c.if-row_outside.false in
    let k = chain-short c.requires c.args.j.0 t.1 t.2 in
    let e = c.count-n.ensures in
    let n : c.count-n.result ≡ length (chain c.args.next.now (at c.args.heads.now c.args.j.0)) = omega arith in
    rw c.refused-then-room_outside.ensures
    ((column-room c.args.heads.now c.args.rows.now c.args.counts.now c.args.next.now c.args.j.0 c.args.place c.args.list.now t.0 (2 * c.count-n.result)
    (λ s h. ap (λ (x : ℕ). 2 * x) n ∙ read-places h c.args.j.0 t.1 t.2)
    (room_out c.args.list.now c.args.place (2 * c.count-n.result) c.room_outside.ensures c.if-room_outside.true)).0 r f)

pub returns-then-room_outside-clause-written : goal.returns-then-room_outside-clause-written
returns-then-room_outside-clause-written c r f =
    let t = row_in (length c.args.heads.now) c.args.j.0 c.row_outside.ensures c.if-row_outside.false in
    let k = chain-short c.requires c.args.j.0 t.1 t.2 in
    let e = c.count-n.ensures in
    let n : c.count-n.result ≡ length (chain c.args.next.now (at c.args.heads.now c.args.j.0)) = omega arith in
    (column-room c.args.heads.now c.args.rows.now c.args.counts.now c.args.next.now c.args.j.0 c.args.place c.args.list.now t.0 (2 * c.count-n.result)
    (λ s h. ap (λ (x : ℕ). 2 * x) n ∙ read-places h c.args.j.0 t.1 t.2)
    (room_out c.args.list.now c.args.place (2 * c.count-n.result) c.room_outside.ensures c.if-room_outside.true)).1 r f

pub copy_column-requires : goal.copy_column-requires
copy_column-requires c =
    let t = row_in (length c.args.heads.now) c.args.j.0 c.row_outside.ensures c.if-row_outside.false in
    let k = chain-short c.requires c.args.j.0 t.1 t.2 in
    let e = c.count-n.ensures in
    let n : c.count-n.result ≡ length (chain c.args.next.now (at c.args.heads.now c.args.j.0)) = omega arith in
    let v = room_in c.args.list.now c.args.place (2 * c.count-n.result) c.room_outside.ensures c.if-room_outside.false in
    can-copy c.requires c.args.j.0 t.1 t.2 (take (length c.args.list.now - c.args.place) (drop c.args.place c.args.list.now))
    (omega (arith, v.1, n, ap length (part_to_end c.args.list.now c.args.place), length-drop c.args.place c.args.list.now))

pub returns-clause-reply : goal.returns-clause-reply
returns-clause-reply c r f =
    let t = row_in (length c.args.heads.now) c.args.j.0 c.row_outside.ensures c.if-row_outside.false in
    let k = chain-short c.requires c.args.j.0 t.1 t.2 in
    let e = c.count-n.ensures in
    let n : c.count-n.result ≡ length (chain c.args.next.now (at c.args.heads.now c.args.j.0)) = omega arith in
    let v = room_in c.args.list.now c.args.place (2 * c.count-n.result) c.room_outside.ensures c.if-room_outside.false in
    rw c.of.ensures
    ((column-answer c.args.heads.now c.args.rows.now c.args.counts.now c.args.next.now c.args.j.0 c.args.place c.args.list.now t.0 (2 * c.count-n.result)
    (λ s h. ap (λ (x : ℕ). 2 * x) n ∙ read-places h c.args.j.0 t.1 t.2) c.count-n.result _ v.0
    (λ s h. n ∙ read-size h c.args.j.0 t.1 t.2)
    (λ s h. part-written c.args.list.now _ (column_list s c.args.j.0) c.args.place
    (omega (arith, v.1, n, read-places h c.args.j.0 t.1 t.2))
    (c.copy_column.ensures.written ∙ ap (λ (l : List ℕ). over l (take (length c.args.list.now - c.args.place) (drop c.args.place c.args.list.now)))
    (read-entries h c.args.j.0 t.1 t.2)))).0 r f)

pub returns-clause-written : goal.returns-clause-written
returns-clause-written c r f =
    let t = row_in (length c.args.heads.now) c.args.j.0 c.row_outside.ensures c.if-row_outside.false in
    let k = chain-short c.requires c.args.j.0 t.1 t.2 in
    let e = c.count-n.ensures in
    let n : c.count-n.result ≡ length (chain c.args.next.now (at c.args.heads.now c.args.j.0)) = omega arith in
    let v = room_in c.args.list.now c.args.place (2 * c.count-n.result) c.room_outside.ensures c.if-room_outside.false in
    (column-answer c.args.heads.now c.args.rows.now c.args.counts.now c.args.next.now c.args.j.0 c.args.place c.args.list.now t.0 (2 * c.count-n.result)
    (λ s h. ap (λ (x : ℕ). 2 * x) n ∙ read-places h c.args.j.0 t.1 t.2) c.count-n.result _ v.0
    (λ s h. n ∙ read-size h c.args.j.0 t.1 t.2)
    (λ s h. part-written c.args.list.now _ (column_list s c.args.j.0) c.args.place
    (omega (arith, v.1, n, read-places h c.args.j.0 t.1 t.2))
    (c.copy_column.ensures.written ∙ ap (λ (l : List ℕ). over l (take (length c.args.list.now - c.args.place) (drop c.args.place c.args.list.now)))
    (read-entries h c.args.j.0 t.1 t.2)))).1 r f
