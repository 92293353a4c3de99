-- Passing a part of the plan up to a bound: nothing yet, one entry more, and the end, at an entry at or above the bound or at the part's end. Then the
-- same with the rows of one kind gathered on the way, after k others.
-- Assumes nothing.
use mathlib.Core.Path.{◌≡◌, refl, sym, ap, subst, ◌∙◌}
use mathlib.Core.Logic.{inl, inr}
use mathlib.Core.Bool.{true, false, false≢true}
use mathlib.Core.List.{List, [], ◌∷◌, ◌++◌, append_assoc, append-nil}
use Prim.Native.Nat.{ℕ, ◌+◌, ◌*◌, ◌≤◌, ◌<◌}
use native.Mathlib.Omega.{arith}
use lib.ListN.{length, set, length-append}
use lib.Dec.{eqb}
use Rattle.lists.specs.Lists.{among}
use Rattle.lists.proofs.Member.{mem-either, among-mem, mem-among}
use Rattle.workspace.specs.Regions.{cell, region}
use Rattle.workspace.specs.Planned.{row_of, kind_of}
use Rattle.workspace.proofs.Regions.{only-refl, region-length}
use Rattle.differences.specs.Gather.{rows_in, rows_of_kind, plan_part, Gathering, Passed, CanReach, Reached}
use Rattle.differences.proofs.Rows.{only-member}
use Rattle.differences.proofs.Parts.{part_none, part-next, part_join, part-front, rows_append, rows-one, kind-append, kind-cons, kind-skip, kind-nil}
use Rattle.differences.proofs.Gather.{gathering-push, gathering-cell}

-- the entries before place a are passed
pub record Passing (m : ℕ) (w : List ℕ) (from to bound a : ℕ) : Type 0 where
  pub low : from ≤ a
  pub high : a ≤ to
  pub below : (i : ℕ) → among i (rows_in (plan_part m w from a)) ≡ true → i < bound

module _ {m : ℕ} {w : List ℕ} {from to bound : ℕ} where
  pub passing-start : from ≤ to → Passing m w from to bound from
  unfolding rows_in among
  passing-start h =
      record { low = omega arith; high = h; below = λ i p. absurd (false≢true (subst (λ (xs : List ℕ). among i (rows_in xs) ≡ true) (part_none m w from) p)) }

  module _ {a : ℕ} (g : Passing m w from to bound a) where
    pub passing-next : 8 * m + to ≤ length w → a < to → row_of (cell w (8 * m) a) < bound → Passing m w from to bound (a + 1)
    passing-next l h b =
        let e : rows_in (plan_part m w from (a + 1)) ≡ rows_in (plan_part m w from a) ++ (row_of (cell w (8 * m) a) ∷ []) =
        ap rows_in (part-next m w from a g.low (omega arith)) ∙ rows_append (plan_part m w from a) (cell w (8 * m) a ∷ []) ∙
        ap (λ (xs : List ℕ). rows_in (plan_part m w from a) ++ xs) (rows-one (cell w (8 * m) a)) in
        record {
          low = omega (arith, g.low);
          high = omega arith;
          below = λ i p. elim (mem-either (rows_in (plan_part m w from a)) (among-mem i _ (subst (λ (xs : List ℕ). among i xs ≡ true) e p))) [
            | inl n ↦ g.below i (mem-among n)
            | inr n ↦ omega (arith, only-member n)
          ];
        }

    pub passed-stop : bound ≤ row_of (cell w (8 * m) a) → Passed m w from to bound a
    passed-stop b = record { low = g.low; high = g.high; below = g.below; above = λ h. b }

    pub passed-end : to ≤ a → Passed m w from to bound to
    passed-end h =
        let e : a ≡ to = omega (arith, g.high) in
        subst (λ (stop : ℕ). Passed m w from to bound stop) e (record { low = g.low; high = g.high; below = g.below; above = λ l. absurd (omega arith) })

-- ---- gathering on the way

pub record Reaching (m : ℕ) (w₀ : List ℕ) (k from to kind bound : ℕ) (w : List ℕ) (n a : ℕ) : Type 0 where
  pub passing : Passing m w₀ from to bound a
  pub gathering : Gathering m w₀ w n (region w₀ (2 * m) k ++ rows_of_kind kind (plan_part m w₀ from a))

module _ {m : ℕ} {w₀ : List ℕ} {k from to kind bound : ℕ} (can : CanReach m w₀ k from to kind) where
  pub reaching-start : Reaching m w₀ k from to kind bound w₀ k from
  reaching-start =
      let e : region w₀ (2 * m) k ++ rows_of_kind kind (plan_part m w₀ from from) ≡ region w₀ (2 * m) k =
      ap (λ (xs : List ℕ). region w₀ (2 * m) k ++ rows_of_kind kind xs) (part_none m w₀ from) ∙ ap (λ (xs : List ℕ). region w₀ (2 * m) k ++ xs) (kind-nil kind) ∙
      append-nil (region w₀ (2 * m) k) in
      record {
        passing = passing-start can.pass.order;
        gathering = subst (λ (xs : List ℕ). Gathering m w₀ w₀ k xs) (sym e) (record {
          only = only-refl;
          size = region-length w₀ (2 * m) k (omega (arith, can.long, can.room));
          rows = refl;
          rest = can.rest;
        });
      }

  module _ {w : List ℕ} {n a : ℕ} (g : Reaching m w₀ k from to kind bound w n a) where
    -- the entry at hand, as the table has it now
    pub reaching-cell : cell w (8 * m) a ≡ cell w₀ (8 * m) a
    reaching-cell = gathering-cell g.gathering a

    next-kind : a < to → rows_of_kind kind (plan_part m w₀ from (a + 1)) ≡ rows_of_kind kind (plan_part m w₀ from a) ++ rows_of_kind kind (cell w₀ (8 * m) a ∷ [])
    next-kind h =
        ap (rows_of_kind kind) (part-next m w₀ from a g.passing.low (omega (arith, can.pass.long))) ∙
        kind-append kind (plan_part m w₀ from a) (cell w₀ (8 * m) a ∷ [])

    -- a row of the kind is gathered
    module _ (h : a < to) (of-it : eqb (kind_of (cell w (8 * m) a)) kind ≡ true) where
      t : eqb (kind_of (cell w₀ (8 * m) a)) kind ≡ true
      t = ap (λ (e : ℕ). eqb (kind_of e) kind) (sym reaching-cell) ∙ of-it

      pub reaching-room : n < m
      reaching-room =
          let e : rows_of_kind kind (plan_part m w₀ from to) ≡
          rows_of_kind kind (plan_part m w₀ from a) ++ (row_of (cell w₀ (8 * m) a) ∷ rows_of_kind kind (plan_part m w₀ (a + 1) to)) =
          ap (rows_of_kind kind) (part_join m w₀ from a to g.passing.low g.passing.high) ∙ kind-append kind (plan_part m w₀ from a) (plan_part m w₀ a to) ∙
          ap (λ (xs : List ℕ). rows_of_kind kind (plan_part m w₀ from a) ++ rows_of_kind kind xs) (part-front m w₀ a to h can.pass.long) ∙
          ap (λ (xs : List ℕ). rows_of_kind kind (plan_part m w₀ from a) ++ xs) (kind-cons kind (cell w₀ (8 * m) a) (plan_part m w₀ (a + 1) to) t) in
          omega (
            arith,
            can.room,
            ap length e,
            length-append (rows_of_kind kind (plan_part m w₀ from a)) (row_of (cell w₀ (8 * m) a) ∷ rows_of_kind kind (plan_part m w₀ (a + 1) to)),
            g.gathering.size,
            length-append (region w₀ (2 * m) k) (rows_of_kind kind (plan_part m w₀ from a)),
            region-length w₀ (2 * m) k (omega (arith, can.long, can.room)),
          )

      pub reaching-take : row_of (cell w (8 * m) a) < bound → Reaching m w₀ k from to kind bound (set w (2 * m + n) (row_of (cell w (8 * m) a))) (n + 1) (a + 1)
      reaching-take b =
          let lent : row_of (cell w (8 * m) a) ≡ row_of (cell w₀ (8 * m) a) = ap row_of reaching-cell in
          let row : ℕ = row_of (cell w₀ (8 * m) a) in
          let e : (region w₀ (2 * m) k ++ rows_of_kind kind (plan_part m w₀ from a)) ++ (row ∷ []) ≡ region w₀ (2 * m) k ++ rows_of_kind kind (plan_part m w₀ from (a + 1)) =
          append_assoc (region w₀ (2 * m) k) (rows_of_kind kind (plan_part m w₀ from a)) (row ∷ []) ∙
          sym (ap (λ (xs : List ℕ). region w₀ (2 * m) k ++ xs) (next-kind h ∙
          ap (λ (xs : List ℕ). rows_of_kind kind (plan_part m w₀ from a) ++ xs) (kind-cons kind (cell w₀ (8 * m) a) [] t ∙ ap (λ (xs : List ℕ). row ∷ xs) (kind-nil kind)))) in
          record {
            passing = passing-next g.passing can.pass.long h (omega arith);
            gathering = rw lent (subst (λ (xs : List ℕ). Gathering m w₀ (set w (2 * m + n) row) (n + 1) xs) e (gathering-push g.gathering row can.long reaching-room));
          }

    -- a row of another kind is not
    pub reaching-skip : a < to → eqb (kind_of (cell w (8 * m) a)) kind ≡ false → row_of (cell w (8 * m) a) < bound → Reaching m w₀ k from to kind bound w n (a + 1)
    reaching-skip h t b =
        let lent : row_of (cell w (8 * m) a) ≡ row_of (cell w₀ (8 * m) a) = ap row_of reaching-cell in
        let e : rows_of_kind kind (plan_part m w₀ from a) ≡ rows_of_kind kind (plan_part m w₀ from (a + 1)) =
        sym (next-kind h ∙ ap (λ (xs : List ℕ). rows_of_kind kind (plan_part m w₀ from a) ++ xs) (kind-skip kind (cell w₀ (8 * m) a) [] (ap (λ (e : ℕ). eqb (kind_of e) kind) (sym reaching-cell) ∙ t) ∙ kind-nil kind) ∙
        append-nil (rows_of_kind kind (plan_part m w₀ from a))) in
        record {
          passing = passing-next g.passing can.pass.long h (omega arith);
          gathering = subst (λ (xs : List ℕ). Gathering m w₀ w n (region w₀ (2 * m) k ++ xs)) e g.gathering;
        }

    pub reached-stop : bound ≤ row_of (cell w (8 * m) a) → Reached m w₀ w k from to kind bound n a
    reached-stop b =
        let lent : row_of (cell w (8 * m) a) ≡ row_of (cell w₀ (8 * m) a) = ap row_of reaching-cell in
        record { passed = passed-stop g.passing (omega arith); gathering = g.gathering }

    pub reached-end : to ≤ a → Reached m w₀ w k from to kind bound n to
    reached-end h =
        let e : a ≡ to = omega (arith, g.passing.high) in
        record {
          passed = passed-end g.passing h;
          gathering = subst (λ (stop : ℕ). Gathering m w₀ w n (region w₀ (2 * m) k ++ rows_of_kind kind (plan_part m w₀ from stop))) e g.gathering;
        }
