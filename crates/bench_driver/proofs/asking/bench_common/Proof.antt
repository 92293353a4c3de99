-- The entry meets its contract: refused it has a number, and what the check accepts can be asked about, by `checked-use`. Assumes nothing.
use mathlib.Core.Path.{◌≡◌}
use Prim.Native.Nat.{ℕ}
use native.Mathlib.Omega.{arith}
use borrow.Author.Rules.{rules}
use Rattle.questions.specs.Asked.{reply_of}
use Rattle.tables.specs.Tables.{Tables, State, tables_of}
use Rattle.factor.specs.Entries.{state_of}
use Rattle.admission.specs.Admission.{CanUse}
use Rattle.continuing.proofs.Checked.{checked-use}
use Rattle.bench_driver.proofs.asking.bench_common.Statement.{statement}
use Rattle.bench_driver.proofs.asking.bench_common.Tie as tie

-- ---- the places, named

abbrev entry : tie.After-check-found → tie.Start
entry c = c.before.before.before.before.before.before.before.before.before.before.before.before.before

abbrev checked : tie.Else-number-ne0 → tie.After-check-found
checked c = c.before.before.before

abbrev passed : tie.Else-r-eq0 → tie.Else-number-ne0
passed c = c.before.before

abbrev state_at : tie.Start → State
state_at s = state_of s.args.factor

abbrev tables_at : tie.Start → Tables
tables_at s = tables_of s.args.heads.now s.args.parents.now s.args.rows.now s.args.counts.now s.args.next.now s.args.book_heads.now s.args.book_rows.now s.args.book_next.now s.args.windows.now

seven-some : ◌≡◌ {A = ℕ} 7 0 → ⊥
seven-some e = omega arith

mark : (d : tie.Else-number-ne0) → CanUse (state_at (entry (checked d))) (tables_at (entry (checked d))) (checked d).check-found.new.work
mark d =
    let k : tie.After-check-found = checked d in
    let s : tie.Start = entry k in
    checked-use (state_at s) (tables_at s) s.args.work.now (reply_of k.check-found.result) k.check-found.new.work k.check-found.ensures d.if-number-ne0.false

check-requires : tie.Need-check-found-requires
check-requires c κs = search rules

same_length : tie.Need-shape_of-work-then-number-ne0
same_length c = c.before.before.before.check-found.auto.work

returns : tie.Need-returns-then-number-ne0
returns c = λ e. absurd (c.if-number-ne0.true e)

same-length-2 : tie.Need-shape_of-work-then-row_list-gt-MOST_NAMED
same-length-2 c = (checked c.before).check-found.auto.work

returns-2 : tie.Need-returns-then-row_list-gt-MOST_NAMED
returns-2 c = λ e. absurd (seven-some e)

same-length-3 : tie.Need-shape_of-work-then-r-eq0
same-length-3 c = (checked c.before.before).check-found.auto.work

returns-3 : tie.Need-returns-then-r-eq0
returns-3 c = λ e. absurd (seven-some e)

common-each-requires : tie.Need-common_each-requires
common-each-requires c κs = ((mark (passed c)).usable, (c.before.if-row_list-gt-MOST_NAMED.false, omega (arith, c.if-r-eq0.false)))

same-length-4 : tie.Need-shape_of-work
same-length-4 c = (checked (passed c.before)).check-found.auto.work

returns-4 : tie.Need-returns
returns-4 c = λ e. mark (passed c.before)

pub bench_common_spec : {M : Type 1} → statement M
bench_common_spec =
    tie.close
    (tie.spec
    check-requires
    same_length
    returns
    same-length-2
    returns-2
    same-length-3
    returns-3
    common-each-requires
    same-length-4
    returns-4)
