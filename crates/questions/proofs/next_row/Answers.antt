-- `questions::next_row` meets its contract: inside 1 to m it replies what the first record at or above row i in the chain of column j says. Assumes nothing.
use mathlib.Core.Path.{sym, subst}
use Prim.Native.Nat.{ℕ, ◌≤◌}
use native.Mathlib.Omega.{arith}
use lib.ListN.{length}
use Rattle.lists.specs.Lists.{at}
use Rattle.pool.specs.Chains.{chain}
use Rattle.columns.proofs.Search.{first-high}
use Rattle.questions.proofs.Replies.{row_in}
use Rattle.questions.proofs.Finding.{ends-before, goes_on}
use Rattle.questions.proofs.Answers.{next-answer}
use Rattle.questions.proofs.next_row.Goals as goal

pub returns-then-r-eq0 : goal.returns-then-r-eq0
returns-then-r-eq0 c r f =
    let t = row_in (length c.args.heads.now) c.args.i.0 c.row_outside.ensures c.if-row_outside.false in
    let u = row_in (length c.args.heads.now) c.args.j.0 c.row_outside-2.ensures c.if-row_outside-2.false in
    rw c.of.ensures
    (next-answer c.args.heads.now c.args.rows.now c.args.counts.now c.args.next.now c.args.i.0 c.args.j.0 t.0 0 0 u.0
    (ends-before c.requires c.args.i.0 c.args.j.0 u.1 u.2 c.first_at-first.result.0 c.first_at-first.ensures c.if-r-eq0.true) r f)

pub bounds-rows-at : goal.bounds-rows-at
bounds-rows-at c =
    let ns = c.args.next.now in
    let h = at c.args.heads.now c.args.j.0 in
    let u = row_in (length c.args.heads.now) c.args.j.0 c.row_outside-2.ensures c.if-row_outside-2.false in
    let high : c.first_at-first.result.0 ≤ length ns =
    subst (λ (r : ℕ). r ≤ length ns) (sym c.first_at-first.ensures) (first-high c.args.rows.now ns h (chain ns h) _ (c.requires.linked c.args.j.0 u.1 u.2)) in
    omega (arith, c.if-r-eq0.false, c.requires.rows_long)

pub bounds-counts-at : goal.bounds-counts-at
bounds-counts-at c =
    let ns = c.args.next.now in
    let h = at c.args.heads.now c.args.j.0 in
    let u = row_in (length c.args.heads.now) c.args.j.0 c.row_outside-2.ensures c.if-row_outside-2.false in
    let high : c.first_at-first.result.0 ≤ length ns =
    subst (λ (r : ℕ). r ≤ length ns) (sym c.first_at-first.ensures) (first-high c.args.rows.now ns h (chain ns h) _ (c.requires.linked c.args.j.0 u.1 u.2)) in
    omega (arith, c.if-r-eq0.false, c.requires.counts-long)

pub returns : goal.returns
returns c r f =
    let t = row_in (length c.args.heads.now) c.args.i.0 c.row_outside.ensures c.if-row_outside.false in
    let u = row_in (length c.args.heads.now) c.args.j.0 c.row_outside-2.ensures c.if-row_outside-2.false in
    rw c.of-2.ensures
    (next-answer c.args.heads.now c.args.rows.now c.args.counts.now c.args.next.now c.args.i.0 c.args.j.0 t.0
    (at c.args.rows.now c.first_at-first.result.0) (at c.args.counts.now c.first_at-first.result.0) u.0
    (goes_on c.requires c.args.i.0 c.args.j.0 u.1 u.2 c.first_at-first.result.0 c.first_at-first.ensures c.if-r-eq0.false) r f)
