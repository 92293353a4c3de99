-- What is known at each answer says whether the record is in use: `entry-end` and `entry_of` of proofs/Reading.antt have the rest. Assumes nothing.
use Rattle.std.proofs.Common.{arith, ◌≡◌, ℕ, ◌-◌, List, get_or, sym, ap, ◌∙◌}
use Rattle.lists.specs.Lists.{at}
use Rattle.reader.proofs.Reading.{entry-end, entry_of}
use Rattle.reader.proofs.entry_at.Goals as goal

-- a place that a look-up found, by its record's number
placed : (xs : List ℕ) (r : ℕ) {i v : ℕ} → i ≡ r - 1 → ((d : ℕ) → v ≡ get_or xs i d) → v ≡ at xs r
placed xs r e h = h 0 ∙ ap (λ j. get_or xs j 0) e

pub returns-in_err-i : goal.returns-in_err-i
returns-in_err-i c =
    c.from_residual.ensures ∙ sym (entry-end c.args.rows.now c.args.counts.now c.args.next.now c.args.r.0 (λ u. c.in_err-i.ensures u.low))

pub returns-in_err-row : goal.returns-in_err-row
returns-in_err-row c =
    c.from_residual-in_err-row.ensures ∙
    sym (entry-end c.args.rows.now c.args.counts.now c.args.next.now c.args.r.0 (λ u. omega (arith, u.low, u.rows, c.in_err-row.ensures.lookup, c.in_ok-i.ensures)))

pub returns-in_err-count : goal.returns-in_err-count
returns-in_err-count c =
    c.from_residual-in_err-count.ensures ∙
    sym (entry-end c.args.rows.now c.args.counts.now c.args.next.now c.args.r.0 (λ u. omega (arith, u.low, u.counts, c.in_err-count.ensures.lookup, c.in_ok-i.ensures)))

pub returns-in_err-get : goal.returns-in_err-get
returns-in_err-get c =
    c.from_residual-in_err-get.ensures ∙
    sym (entry-end c.args.rows.now c.args.counts.now c.args.next.now c.args.r.0 (λ u. omega (arith, u.low, u.next, c.in_err-get.ensures.lookup, c.in_ok-i.ensures)))

pub returns-then-row-eq0 : goal.returns-then-row-eq0
returns-then-row-eq0 c =
    let e = placed c.args.rows.now c.args.r.0 c.in_ok-i.ensures.1 c.in_ok-row.ensures.lookup.3.1 in
    sym (entry-end c.args.rows.now c.args.counts.now c.args.next.now c.args.r.0 (λ u. u.some (sym e ∙ c.if-row-eq0.true)))

pub returns : goal.returns
returns c =
    let i = c.in_ok-i.ensures in
    let e = placed c.args.rows.now c.args.r.0 i.1 c.in_ok-row.ensures.lookup.3.1 in
    let f = placed c.args.counts.now c.args.r.0 i.1 c.in_ok-count.ensures.lookup.3.1 in
    let g = placed c.args.next.now c.args.r.0 i.1 c.in_ok-get.ensures.lookup.3.1 in
    rw (e, f, g)
    (sym (entry_of c.args.rows.now c.args.counts.now c.args.next.now c.args.r.0 (record {
      low = i.0;
      rows = omega (arith, i, c.in_ok-row.ensures.lookup);
      counts = omega (arith, i, c.in_ok-count.ensures.lookup);
      next = omega (arith, i, c.in_ok-get.ensures.lookup);
      some = λ z. c.if-row-eq0.false (e ∙ z);
    })))
