-- `columns::apply_entry` meets its contract: the last record below the entry's row is a record (`found`); an entry that is not new has one after it.
-- Assumes nothing.
use Rattle.std.proofs.Common.{◌≡◌, List, ℕ, arith, sym, ap, subst, ◌∙◌}
use Rattle.std.proofs.lemmas.Bool.{eqb-true, eqb-false}
use Rattle.lists.specs.Lists.{at}
use Rattle.workspace.specs.Planned.{row_of}
use Rattle.pool.specs.Chains.{chain}
use Rattle.pool.specs.Changes.{Has}
use Rattle.columns.specs.Search.{last_below}
use Rattle.columns.specs.Apply.{record_before, CanApply}
use Rattle.columns.proofs.Search.{Here, here, last_has}
use Rattle.columns.proofs.apply_entry.Goals as goal

module _ {rows counts next : List ℕ} {p free entry : ℕ} (can : CanApply rows counts next p free entry) where
  found : {row r : ℕ} → row ≡ row_of entry → r ≡ last_below rows p (chain next (at next p)) row → (r ≡ record_before rows next p entry) × Has next r
  found {row} {r} e f =
      let h : Here next p = here _ _ (λ z. omega (arith, can.some)) can.linked in
      let q : r ≡ record_before rows next p entry = f ∙ ap (last_below rows p (chain next (at next p))) e in
      (q, rw q (last_has rows next p (at next p) (chain next (at next p)) (row_of entry) (record { low = h.low; high = h.high }) h.linked))

pub insert_after-left-requires : goal.insert_after-left-requires
insert_after-left-requires c =
    ((found c.requires c.row_of-row.ensures c.advance-before.ensures).1, c.requires.takes (eqb-true _ _ (sym c.is_of.ensures ∙ c.if-is_of.true)))

pub overflow_sub-q : goal.overflow_sub-q
overflow_sub-q c = (found c.requires c.row_of-row.ensures c.advance-before.ensures).1.low

pub unlink_after-requires : goal.unlink_after-requires
unlink_after-requires c =
    let f = found c.requires c.row_of-row.ensures c.advance-before.ensures in (
      f.1,
      subst (λ (x : ℕ). Has c.args.next.now (at c.args.next.now x)) (sym f.0)
          (c.requires.finds (eqb-false _ _ (sym c.is_of.ensures ∙ c.if-is_of.false))),
    )
