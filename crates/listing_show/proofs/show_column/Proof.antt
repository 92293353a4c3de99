-- `show_column` meets its contract: parent and entries are those of the register (proofs/Asking.antt), the line is head, pairs and newline. Assumes nothing.
use mathlib.Core.Path.{◌≡◌, subst}
use mathlib.Core.List.{List}
use Prim.Native.Nat.{ℕ, ◌+◌, ◌*◌, ◌^◌, ◌≤◌, ◌<◌}
use native.Mathlib.Omega.{arith}
use borrow.Author.Rules.{rules}
use lib.ListN.{length, take}
use Rattle.symbolic.specs.Columns.{Register}
use Rattle.symbolic.specs.Factor.{factor_for, column_at, parent_of, size_of}
use Rattle.tables.specs.Tables.{register_of, tables_of}
use Rattle.calls.specs.Questions.{column_list}
use Rattle.factor.specs.Entries.{state_of}
use Rattle.listing_text.specs.Text.{show_head, show_pairs, Written}
use Rattle.listing_show.proofs.Asking.{entries-places, entries-most, parent-answered, column-answered, column-listed}
use Rattle.listing_show.proofs.Showing.{head-fits, head-within, line-whole}
use Rattle.listing_show.proofs.show_column.Statement.{statement}
use Rattle.listing_show.proofs.show_column.Tie as tie

abbrev register : tie.Start → Register
register s =
    let a = s.args in
    register_of (state_of a.factor) (tables_of a.heads.now a.parents.now a.rows.now a.counts.now a.next.now a.book_heads.now a.book_rows.now a.book_next.now a.windows.now)

-- the parent that was asked for
parent_is : (c : tie.After-parent_unchecked-parent) → c.parent_unchecked-parent.result.value ≡ parent_of (factor_for (register c.before.before.before.before.before.before.before.before.before.before.before.before)) c.args.j
parent_is c =
    parent-answered (register c.before.before.before.before.before.before.before.before.before.before.before.before) c.args.j c.requires.low c.requires.high c.parent_unchecked-parent.result c.parent_unchecked-parent.ensures

parent-known : (c : tie.After-parent_unchecked-parent) → c.parent_unchecked-parent.result.value < 2 ^ 32
parent-known c = omega (arith, c.parent_unchecked-parent.type_inv)

record Column (c : tie.After-column_unchecked-column) : Type 0 where
  pub value : c.column_unchecked-column.result.value ≡ size_of (column_at (factor_for (register c.before.before.before.before.before.before.before.before.before.before.before.before.before.before)) c.args.j)
  pub few : c.column_unchecked-column.result.value ≤ 64
  pub listed : take (2 * c.column_unchecked-column.result.value) c.column_unchecked-column.new.list ≡ column_list (register c.before.before.before.before.before.before.before.before.before.before.before.before.before.before) c.args.j

column : (c : tie.After-column_unchecked-column) → Column c
column c =
    let r = register c.before.before.before.before.before.before.before.before.before.before.before.before.before.before in
    let j = c.args.j in
    let room : length (column_list r j) ≤ length c.args.list.now =
    omega (arith, entries-places r j c.requires.low c.requires.high, entries-most r j c.requires.low c.requires.high, c.requires.few, c.requires.entries) in
    let v : c.column_unchecked-column.result.value ≡ size_of (column_at (factor_for r) j) =
    column-answered r j c.requires.low c.requires.high c.column_unchecked-column.result c.args.list.now room c.column_unchecked-column.ensures.0 in
    record {
      value = v;
      few = omega (arith, v, entries-most r j c.requires.low c.requires.high, c.requires.few);
      listed =
          column-listed r j c.requires.low c.requires.high c.column_unchecked-column.result c.args.list.now room
          c.column_unchecked-column.new.list c.column_unchecked-column.ensures.1 c.column_unchecked-column.result.value v;
    }

head-most : (c : tie.After-show_head-head) → c.show_head-head.result ≤ c.args.at + 21
head-most c =
    head-within c.show_head-head.ensures (omega (arith, c.ranges.j.fits, parent-known c.before.before.before.before.before.before)) (omega (arith, c.ranges.j.fits, parent-known c.before.before.before.before.before.before))

-- the line but for its newline
pairs-most : (c : tie.After-show_pairs-end) →
    (c.show_pairs-end.result + 1 ≤ c.args.at + 1430) ×
    (length c.show_pairs-end.new.out ≡ length c.args.out.now) ×
    (c.args.at + 1430 ≤ length c.args.out.now)
pairs-most c =
    omega (arith, (column c.before.before.before.before.before.before.before.before.before).few, c.show_pairs-end.ensures.short, head-most c.before.before.before.before.before, c.show_head-head.auto.out, c.show_pairs-end.auto.out, c.requires.fits)

parent-unchecked-requires : tie.Need-parent_unchecked-parent-requires
parent-unchecked-requires c κs = search rules

column-unchecked-requires : tie.Need-column_unchecked-column-requires
column-unchecked-requires c κs = search rules

show-head-requires : tie.Need-show_head-head-requires
show-head-requires c κs =
    head-fits (omega (arith, c.ranges.j.fits, parent-known c.before.before.before.before.before)) (omega (arith, c.ranges.j.fits, parent-known c.before.before.before.before.before)) (omega (arith, c.requires.fits))

cast-show-pairs : tie.Need-overflow_cast-column
cast-show-pairs c = search rules

show-pairs-requires : tie.Need-show_pairs-end-requires
show-pairs-requires c κs =
    record {
      entries = omega (arith, (column c.before.before.before.before.before.before.before.before).few, c.requires.entries, c.column_unchecked-column.auto.list);
      fits = omega (arith, (column c.before.before.before.before.before.before.before.before).few, c.requires.fits, head-most c.before.before.before.before, c.show_head-head.auto.out);
    }

line-end-requires : tie.Need-line_end-requires
line-end-requires c κs =
    record { room = omega (arith, pairs-most c.before.before.before) }

same_length : tie.Need-shape_of-list
same_length c = c.column_unchecked-column.auto.list

same-length-2 : tie.Need-shape_of-out
same-length-2 c =
    omega (arith, c.line_end.auto.out, pairs-most c.before.before.before.before.before.before)

returns : tie.Need-returns
returns c =
    record {
      line =
          line-whole c.args.j (parent_of (factor_for (register c.before.before.before.before.before.before.before.before.before.before.before.before.before.before.before.before.before.before.before.before.before.before.before.before.before.before.before.before.before)) c.args.j) (column_list (register c.before.before.before.before.before.before.before.before.before.before.before.before.before.before.before.before.before.before.before.before.before.before.before.before.before.before.before.before.before) c.args.j)
          (subst (λ (n : ℕ). Written c.args.out.now c.args.at (show_head c.args.j n) c.show_head-head.new.out c.show_head-head.result) (parent_is c.before.before.before.before.before.before.before.before.before.before.before.before.before.before.before.before.before) c.show_head-head.ensures)
          (subst (λ (es : List ℕ). Written c.show_head-head.new.out c.show_head-head.result (show_pairs es) c.show_pairs-end.new.out c.show_pairs-end.result) (column c.before.before.before.before.before.before.before.before.before.before.before.before.before.before.before).listed c.show_pairs-end.ensures.pairs)
          c.line_end.ensures (omega (arith, pairs-most c.before.before.before.before.before.before)) c.show_head-head.auto.out;
      short = omega (arith, c.line_end.ensures.next-is, pairs-most c.before.before.before.before.before.before);
    }

pub show_column_spec : {M : Type 1} → statement M
show_column_spec =
    tie.close
    (tie.spec
    parent-unchecked-requires
    column-unchecked-requires
    show-head-requires
    cast-show-pairs
    show-pairs-requires
    line-end-requires
    same_length
    same-length-2
    returns)
