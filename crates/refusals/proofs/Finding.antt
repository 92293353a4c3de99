-- For an addition whose positions are accepted: its columns have few rows, and the room in the book decides.
-- Assumes nothing.
use mathlib.Core.Path.{◌≡◌, refl, sym, ap, ◌∙◌}
use mathlib.Core.Bool.{Bool, true, false, not}
use mathlib.Core.List.{List, [], ◌∷◌, ◌++◌}
use Prim.Native.Nat.{ℕ, suc, ◌+◌, ◌*◌, ◌≤◌}
use native.Mathlib.Omega.{arith}
use lib.Dec.{leb}
use lib.ListN.{length}
use Rattle.lists.specs.Lists.{all, sum_of}
use Rattle.lists.proofs.Tests.{and_both}
use Rattle.lists.proofs.Sum.{sum-append}
use Rattle.symbolic.specs.Columns.{Column, Register}
use Rattle.symbolic.specs.Change.{ids_of}
use Rattle.pool.specs.Chains.{chain}
use Rattle.book.specs.Book.{Book, columns_in, column_fits, is_sound}
use Rattle.book.proofs.Sound.{Fitting, fitting, rows-room}
use Rattle.calls.specs.Refusals.{refusal, accepted, is_accepted, or_else, unless, columns_refusal, row_sum, keep_step, batch_of}
use Rattle.calls.specs.Refusals as calls
use Rattle.calls.proofs.Choices.{or-second, unless-true, unless-false}
use Rattle.calls.proofs.Refusals.{ColumnsFit, columns-facts, InStep, step-facts}
use Rattle.refusals.specs.Found.{bare_in, add_found}
use Rattle.early_refusals.proofs.Tests.{is-in, unless-accepted}

-- ---- the rows of accepted columns

ids-length : (cs : List Column) → length (ids_of cs) ≡ length cs
unfolding ids_of
ids-length [] = refl
ids-length (c ∷ cs) = ap suc (ids-length cs)

fit-few : (m : ℕ) (cs : List Column) → all (column_fits m) cs ≡ true → row_sum cs ≤ 256 * length cs
unfolding all sum_of
fit-few m [] h = omega arith
fit-few m (c ∷ cs) h =
    let t : (column_fits m c ≡ true) × (all (column_fits m) cs ≡ true) = and_both (column_fits m c) (all (column_fits m) cs) h in
    let f : Fitting m c.rows = fitting m c t.0 in
    omega (arith, f.few, fit-few m cs t.1)

pub rows_few : (r : Register) (n : ℕ) (is ns rs ps qs : List ℕ) → is_accepted (columns_refusal r n 1 [] is ns rs ps qs) ≡ true → length rs ≤ 256 * length is
rows_few r n is ns rs ps qs h =
    let f : ColumnsFit r n [] is ns rs ps qs = columns-facts r n 1 [] is ns rs ps qs h in
    omega (arith, f.used, fit-few r.m (batch_of is ns rs) f.fits, ids-length (batch_of is ns rs), ap length f.ids)

-- ---- an addition

module _ (m : ℕ) (b : Book) (is ns rs ps qs : List ℕ) {x : Bool} (a : x ≡ not (keep_step is ns ps qs)) where
  abbrev step : Bool
  step = keep_step is ns ps qs

  abbrev by_position : calls.Refusal
  by_position = columns_refusal (bare_in m b) (length b.heads) 1 [] is ns rs ps qs

  abbrev room : Bool
  room = leb (row_sum (columns_in b ++ batch_of is ns rs)) (length b.next)

  module _ (t : x ≡ false) where
    passed : add_found m b is ns rs ps qs ≡ or_else by_position (unless room 15 0)
    passed = or-second (unless step 7 0) (or_else by_position (unless room 15 0)) (unless-accepted step 7 0 refl ∙ is-in step a t)

    module _ (c : accepted ≡ by_position) where
      taken : is_accepted by_position ≡ true
      taken = sym (ap is_accepted c)

      pub few-rows : length rs ≤ 16384
      few-rows =
          let f : InStep is ns ps qs = step-facts is ns ps qs (is-in step a t) in
          omega (arith, rows_few (bare_in m b) (length b.heads) is ns rs ps qs taken, f.few)

      module _ (s : is_sound m b ≡ true) {y : Bool} (f : y ≡ leb (length rs) (length (chain b.next b.free))) where
        room-same : y ≡ room
        room-same =
            let g : ColumnsFit (bare_in m b) (length b.heads) [] is ns rs ps qs = columns-facts (bare_in m b) (length b.heads) 1 [] is ns rs ps qs taken in
            let k : row_sum (columns_in b) + length rs ≡ row_sum (columns_in b ++ batch_of is ns rs) = omega (arith, g.used, sum-append (λ (c : Column). length c.rows) (columns_in b) (batch_of is ns rs)) in
            f ∙ rows-room m b (length rs) s ∙ ap (λ (z : ℕ). leb z (length b.next)) k

        last : add_found m b is ns rs ps qs ≡ unless room 15 0
        last = passed ∙ or-second by_position (unless room 15 0) taken

        pub add-fits : y ≡ true → accepted ≡ add_found m b is ns rs ps qs
        add-fits h = sym (last ∙ unless-true room 15 0 (sym room-same ∙ h))

        pub add-full : y ≡ false → refusal 15 0 ≡ add_found m b is ns rs ps qs
        add-full h = sym (last ∙ unless-false room 15 0 (sym room-same ∙ h))
