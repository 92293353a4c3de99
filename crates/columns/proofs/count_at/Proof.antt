-- `columns::count_at` meets its contract: what the first record at or above the row says is the multiplicity, since rows rise. Assumes nothing.
use mathlib.Core.Path.{◌≡◌, sym, ap, ◌∙◌}
use Prim.Native.Nat.{ℕ, ◌≤◌, ◌-◌}
use native.Mathlib.Omega.{arith}
use borrow.Author.Rules.{rules}
use lib.ListN.{length}
use Rattle.pool.specs.Chains.{chain}
use Rattle.columns.specs.Search.{count_of}
use Rattle.columns.proofs.Search.{count_at, count_none, count-other, count-found, can-count, first-high}
use Rattle.columns.proofs.count_at.Statement.{statement}
use Rattle.columns.proofs.count_at.Tie as tie

abbrev start : tie.After-first_at-found → tie.Start
start c = c.before.before.before.before

record Facts (c : tie.After-first_at-found) : Type 0 where
  pub decides : count_at (start c).args.rows.now (start c).args.counts.now c.first_at-found.result.0 (start c).args.i.0 ≡
      count_of (start c).args.rows.now (start c).args.counts.now (chain (start c).args.next.now (start c).args.head.0) (start c).args.i.0
  pub high : c.first_at-found.result.0 ≤ length (start c).args.next.now
  pub rows_long : length (start c).args.rows.now ≡ length (start c).args.next.now
  pub counts-long : length (start c).args.counts.now ≡ length (start c).args.next.now

facts : (c : tie.After-first_at-found) → Facts c
facts c =
    let a = (start c).args in
    let p = (start c).requires in
    record {
      decides = ap (λ (r : ℕ). count_at a.rows.now a.counts.now r a.i.0) c.first_at-found.ensures ∙ can-count a.i.0 p;
      high = omega (arith, c.first_at-found.ensures, first-high a.rows.now a.next.now a.head.0 (chain a.next.now a.head.0) a.i.0 p.read.linked);
      rows_long = p.read.rows_long;
      counts-long = p.read.counts-long;
    }

first-at-requires : tie.Need-first_at-found-requires
first-at-requires c κs = let p = c.before.before.before.requires.read in record { linked = p.linked; rows_long = p.rows_long }

returns : tie.Need-returns-then-r-eq0
returns c = let a = (start c.before).args in sym (count_none a.rows.now a.counts.now _ a.i.0 c.if-r-eq0.true) ∙ (facts c.before).decides

sub-k : tie.Need-overflow_sub-k
sub-k c = search rules

cast-k : tie.Need-overflow_cast-k
cast-k c = search rules

mul-if2 : tie.Need-offset_bounds-rows-k
mul-if2 c = search rules

shared-slice-read-if2 : tie.Need-bounds-rows-k
shared-slice-read-if2 c = let f = facts c.before.before in omega (arith, c.before.if-r-eq0.false)

cast-if2 : tie.Need-overflow_cast-rows
cast-if2 c = omega (arith, c.shared_slice_known-4-1.given (c.before.before.first_at-found.result.0 - 1))

returns-2 : tie.Need-returns-then-rows-k
returns-2 c =
    let e = c.before.before.before in
    let a = (start e.before).args in
    sym (count-other a.rows.now a.counts.now e.before.first_at-found.result.0 a.i.0 e.if-r-eq0.false c.if-rows-k.true) ∙ (facts e.before).decides

mul-result : tie.Need-offset_bounds-counts-k
mul-result c = search rules

shared-slice-read-result : tie.Need-bounds-counts-k
shared-slice-read-result c = let e = c.before.before.before.before in let f = facts e.before in omega (arith, e.if-r-eq0.false)

cast-result : tie.Need-overflow_cast-result
cast-result c = omega (arith, c.shared_slice_known-5-1.given (c.before.before.before.before.before.first_at-found.result.0 - 1))

returns-3 : tie.Need-returns
returns-3 c =
    let e = c.before.before.before.before in
    let a = (start e.before).args in
    sym (count-found a.rows.now a.counts.now e.before.first_at-found.result.0 a.i.0 e.if-r-eq0.false c.before.if-rows-k.false) ∙ (facts e.before).decides

pub count_at_spec : {M : Type 1} → statement M
count_at_spec =
    tie.close
    (tie.spec
    first-at-requires
    returns
    sub-k
    cast-k
    mul-if2
    shared-slice-read-if2
    cast-if2
    returns-2
    mul-result
    shared-slice-read-result
    cast-result
    returns-3)
