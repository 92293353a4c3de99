-- The loop that counts the rows of a column along its chain: which records are done, and the table as the lent one with their rows counted.
-- Start, what a turn asks, one record more, the end. The measure is the length of the chain that is left. Assumes nothing.
use mathlib.Core.Path.{◌≡◌, refl, sym, ap, subst, ◌∙◌}
use mathlib.Core.Logic.{◌⊎◌, ◌≢◌}
use mathlib.Core.List.{List, [], ◌∷◌, ◌++◌, append_assoc, append-nil}
use Prim.Native.Nat.{ℕ, ◌+◌, ◌-◌, ◌≤◌, ◌<◌}
use native.Mathlib.Omega.{arith}
use lib.ListN.{length, get_or, set, length-append}
use Rattle.lists.specs.Lists.{at, times, values_at}
use Rattle.lists.proofs.Times.{times-append, times-self, UpTo}
use Rattle.lists.proofs.Place.{values-append, values_one}
use Rattle.pool.specs.Chains.{chain, Linked}
use Rattle.pool.proofs.Chains.{Step, linked-step, linked-chain, linked-end}
use Rattle.book.specs.Tally.{tallied, booked_rows, CanCount}
use Rattle.book.proofs.Copying.{id-linked}
use Rattle.book.proofs.Tally.{Tally, tally-none, tally-length, tally-few, tally-room, tally-more}

pub record Counting (rs ns w₀ : List ℕ) (h : ℕ) (w : List ℕ) (size r : ℕ) : Type 0 where
  pub done : List ℕ
  pub rest : List ℕ
  pub parts : done ++ rest ≡ chain ns h
  pub linked : Linked ns r rest
  pub counted : Tally w₀ (values_at rs done) w size

-- what a turn reads and asks
pub record RecordFacts (rs ns : List ℕ) (m : ℕ) (w : List ℕ) (size r : ℕ) : Type 0 where
  pub low : 1 ≤ r
  pub high : r ≤ length ns
  pub in_rows : r ≤ length rs
  pub row_low : 1 ≤ get_or rs (r - 1) 0
  pub row-high : get_or rs (r - 1) 0 ≤ m
  pub long : m ≤ length w
  pub few : size < 256
  pub room : get_or w (get_or rs (r - 1) 0 - 1) 0 + 1 < 4294967296

module _ {hs rs ns w₀ : List ℕ} {id : ℕ} (pre : CanCount hs rs ns w₀ id) where
  pub counting-start : Counting rs ns w₀ (at hs id) w₀ 0 (at hs id)
  unfolding values_at
  counting-start = record { done = []; rest = chain ns (at hs id); parts = refl; linked = id-linked pre.column.has; counted = tally-none w₀ }

  module _ {w : List ℕ} {size r : ℕ} (b : Counting rs ns w₀ (at hs id) w size r) where
    rows_are : values_at rs b.done ++ values_at rs b.rest ≡ booked_rows hs rs ns id
    rows_are = sym (values-append rs b.done b.rest) ∙ ap (values_at rs) b.parts

    done-up : UpTo pre.m (values_at rs b.done)
    done-up x n = pre.rows_in x (omega (arith, times-append x (values_at rs b.done) (values_at rs b.rest), ap (times x) rows_are))

    module _ (more : r ≢ 0) where
      step : Step ns r b.rest
      step = linked-step ns r b.rest more b.linked

      -- the rows that are left: this record's and the others'
      rest-are : values_at rs b.rest ≡ at rs r ∷ values_at rs step.rest
      unfolding values_at
      rest-are = ap (values_at rs) step.parts

      pub counting-facts : RecordFacts rs ns pre.m w size r
      counting-facts =
          let u : (1 ≤ at rs r) × (at rs r ≤ pre.m) =
          pre.rows_in (at rs r)
          (omega (
            arith,
            times-append (at rs r) (values_at rs b.done) (values_at rs b.rest),
            ap (times (at rs r)) rows_are,
            ap (times (at rs r)) rest-are,
            times-self (at rs r) (values_at rs step.rest),
          )) in
          let k : length (values_at rs b.done) < 256 =
          omega (arith, length-append (values_at rs b.done) (values_at rs b.rest), ap length rows_are, ap length rest-are, pre.column.fits) in
          record {
            low = step.low;
            high = step.high;
            in_rows = omega (arith, step.high, pre.column.has.sized);
            row_low = u.0;
            row-high = u.1;
            long = omega (arith, tally-length b.counted, pre.long);
            few = omega (arith, tally-few b.counted);
            room = tally-room b.counted pre.m 256 (at rs r - 1) done-up pre.long k (pre.room (at rs r - 1) (omega arith));
          }

      pub counting_more : (size' : ℕ) →
          ((get_or w (get_or rs (r - 1) 0 - 1) 0 ≡ 0) × (size' ≡ size + 1)) ⊎ ((get_or w (get_or rs (r - 1) 0 - 1) 0 ≢ 0) × (size' ≡ size)) →
          Counting rs ns w₀ (at hs id) (set w (get_or rs (r - 1) 0 - 1) (get_or w (get_or rs (r - 1) 0 - 1) 0 + 1)) size' (at ns r)
      counting_more size' d =
          let f : RecordFacts rs ns pre.m w size r = counting-facts in
          let e : values_at rs b.done ++ (at rs r ∷ []) ≡ values_at rs (b.done ++ (r ∷ [])) =
          ap (λ (l : List ℕ). values_at rs b.done ++ l) (sym (values_one rs r)) ∙ sym (values-append rs b.done (r ∷ [])) in
          record {
            done = b.done ++ (r ∷ []);
            rest = step.rest;
            parts = append_assoc b.done (r ∷ []) step.rest ∙ ap (λ (l : List ℕ). b.done ++ l) (sym step.parts) ∙ b.parts;
            linked = step.next;
            counted =
                subst (λ (l : List ℕ). Tally w₀ l (set w (get_or rs (r - 1) 0 - 1) (get_or w (get_or rs (r - 1) 0 - 1) 0 + 1)) size') e
                (tally-more b.counted (at rs r) size' (omega (arith, pre.long)) d);
          }

      pub counting-less : length (chain ns (at ns r)) < length (chain ns r)
      counting-less =
          omega (
            arith,
            ap length (linked-chain ns r b.rest b.linked),
            ap length (linked-chain ns (at ns r) step.rest step.next),
            ap length step.parts,
          )

    pub counting-end : r ≡ 0 → w ≡ tallied w₀ (booked_rows hs rs ns id)
    counting-end z =
        let e : b.done ≡ chain ns (at hs id) =
        sym (append-nil b.done) ∙ ap (λ (l : List ℕ). b.done ++ l) (sym (linked-end ns r b.rest z b.linked)) ∙ b.parts in
        b.counted.is ∙ ap (λ (l : List ℕ). tallied w₀ (values_at rs l)) e
