-- The entries of an accepted change against the chains of the tables: a column's size is the length of its chain (`held-size`), so the entries are sums over the
-- reported columns' chains before and after the change (`counts-held`). Assumes nothing.
use mathlib.Core.Path.{◌≡◌, sym, ap, ◌∙◌, subst}
use mathlib.Core.Bool.{true}
use mathlib.Core.List.{List}
use Prim.Native.Nat.{ℕ, ◌≤◌, max}
use lib.ListN.{length}
use Rattle.lists.specs.Lists.{Mem, no_repeats, sum_of}
use Rattle.lists.proofs.Sum.{sum-ext}
use Rattle.lists.proofs.Place.{values_length}
use Rattle.lists.proofs.Rising.{rises-in}
use Rattle.symbolic.specs.Columns.{Register, live}
use Rattle.symbolic.specs.Factor.{factor_for, column_at, size_of}
use Rattle.symbolic.specs.Batch.{size_sum_of}
use Rattle.symbolic.specs.Change.{ids_of}
use Rattle.tables.specs.Stored.{Stored, records_of, holds_from}
use Rattle.tables.specs.Tables.{Sizes, stored_in}
use Rattle.tables.proofs.Stored.{stored-column}
use Rattle.calls.specs.Refusals.{is_accepted}
use Rattle.calls.specs.Calls.{Change, adding, removing}
use Rattle.calls.specs.Changes.{effect, touched_by, entries_by}
use Rattle.calls.specs.Steps.{World}
use Rattle.calls.proofs.Changes.{rows_stay, touched-rise, adding-entries, removing-entries}
use Rattle.history.specs.Runs.{Event}
use Rattle.history.specs.Statements.{held_size, reported, CountsJust}

-- tables that hold the factor of a register
abbrev Holding : Register → World → Type 0
Holding r v = holds_from (stored_in v.state v.tables) (factor_for r) 1 r.m ≡ true

held-size : (r : Register) (v : World) → Holding r v → (j : ℕ) → 1 ≤ j → j ≤ r.m → held_size v j ≡ size_of (column_at (factor_for r) j)
held-size r v h j a b =
    let s : Stored = stored_in v.state v.tables in
    sym (values_length s.rows (records_of s j)) ∙ ap length (stored-column r.m (live r) s h j a b).rows

module _ (l : Sizes) (r : Register) (c : Change) (u v : World) (once : no_repeats (ids_of r.columns) ≡ true) (ok : is_accepted ((effect r c).refusal l) ≡ true)
    (before : Holding r u) (after : Holding (effect r c).register v) where
  in-range : (j : ℕ) → Mem j (touched_by r c) → (1 ≤ j) × (j ≤ r.m)
  in-range j n = rises-in 1 r.m n (touched-rise r c)

  size-before : (j : ℕ) → Mem j (touched_by r c) → size_of (column_at (factor_for r) j) ≡ held_size u j
  size-before j n = sym (held-size r u before j (in-range j n).0 (in-range j n).1)

  size-after : (j : ℕ) → Mem j (touched_by r c) → size_of (column_at (factor_for (effect r c).register) j) ≡ held_size v j
  size-after j n =
      sym (held-size (effect r c).register v after j (in-range j n).0 (subst (λ (m : ℕ). j ≤ m) (sym (rows_stay r c)) (in-range j n).1))

  larger-held : entries_by r c ≡ sum_of (λ j. max (held_size u j) (held_size v j)) (touched_by r c)
  larger-held = sum-ext _ _ (touched_by r c) (λ j n i. max (size-before j n i) (size-after j n i))

  after-held : (is ns rs ps qs : List ℕ) → c ≡ adding is ns rs ps qs → entries_by r c ≡ sum_of (held_size v) (touched_by r c)
  after-held is ns rs ps qs q =
      subst (λ (c : Change). entries_by r c ≡ size_sum_of (factor_for (effect r c).register) (touched_by r c)) (sym q) (adding-entries r is ns rs ps qs) ∙
      sum-ext _ _ (touched_by r c) size-after

  before-held : (is : List ℕ) → c ≡ removing is → entries_by r c ≡ sum_of (held_size u) (touched_by r c)
  before-held is q =
      subst (λ (c : Change). is_accepted ((effect r c).refusal l) ≡ true → entries_by r c ≡ size_sum_of (factor_for r) (touched_by r c)) (sym q)
      (removing-entries l r is once) ok ∙ sum-ext _ _ (touched_by r c) size-before

  pub counts-held : (e : Event) → reported e ≡ touched_by r c → e.answer.entries ≡ entries_by r c → CountsJust u e c v
  counts-held e t n =
      record {
        larger = n ∙ larger-held ∙ ap (λ (js : List ℕ). sum_of (λ j. max (held_size u j) (held_size v j)) js) (sym t);
        after-adding = λ is ns rs ps qs q. n ∙ after-held is ns rs ps qs q ∙ ap (λ (js : List ℕ). sum_of (held_size v) js) (sym t);
        before-removing = λ is q. n ∙ before-held is q ∙ ap (λ (js : List ℕ). sum_of (held_size u) js) (sym t);
      }
