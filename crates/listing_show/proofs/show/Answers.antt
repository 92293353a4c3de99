-- `show` meets its contract. Assumes nothing.
use Rattle.std.proofs.Common.{ℕ, List, subst, refl, ◌∙◌, arith}
use Rattle.tables.specs.Tables.{tables_of}
use Rattle.factor.specs.Entries.{state_of}
use Rattle.listing_text.specs.Text.{Written}
use Rattle.listing_show.proofs.Showing.{no-fits, lines_start, lines_keep, shown-closed, shows-none}
use Rattle.listing_show.proofs.show.Goals as goal

pub no_line-requires : goal.no_line-requires
no_line-requires c = no-fits (omega arith) (omega arith) (omega (arith, c.requires.fits))

pub returns-then-factor-eq0 : goal.returns-then-factor-eq0
returns-then-factor-eq0 c =
    let a = c.args in
    subst (λ (bs : List ℕ). Written a.out.now 0 bs c.no_line.new.out c.no_line.result)
    (shown-closed (state_of a.factor)
    (tables_of a.heads.now a.parents.now a.rows.now a.counts.now a.next.now a.book_heads.now a.book_rows.now a.book_next.now a.windows.now)
    (shows-none c.requires c.if-factor-eq0.true))
    c.no_line.ensures

pub loop-j-init : goal.loop-j-init
loop-j-init c = (lines_start _ _, refl)

pub loop-j-preserved : goal.loop-j-preserved
loop-j-preserved c =
    let i = c.loop-j.invariant in (
      lines_keep i.0 (omega (arith, i.0.short, i.0.long, c.requires.fits, c.requires.few, c.loop-j-test.true)) c.show_column-end.ensures c.show_column-end.auto.out,
      c.show_column-end.auto.list ∙ i.1,
    )
