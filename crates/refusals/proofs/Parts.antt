-- The parts that a batch's refusal is found by: the ids before a place; an id that is not refused; the rows of a column (`RowsLeft`: what is left says what they
-- all say), each law one return or one turn of the loop.
-- Assumes nothing.
use mathlib.Core.Path.{◌≡◌, refl, sym, ap, ◌∙◌}
use mathlib.Core.Logic.{inl, inr}
use mathlib.Core.Bool.{Bool, true, false, ◌||◌, not}
use mathlib.Core.List.{List, [], ◌∷◌}
use Prim.Native.Nat.{ℕ, zero, suc, ◌+◌, ◌≤◌, ◌<◌}
use native.Mathlib.Omega.{arith}
use native.Mathlib.Numerals.{add-one}
use lib.Dec.{ltb, eqb}
use lib.ListN.{length, get_or, take, drop}
use Rattle.std.specs.List.{list_any}
use Rattle.std.proofs.Math.Bool.{or_comm}
use Rattle.std.proofs.lemmas.List.Folds.{list_any-append}
use lib.Seq.{drop-cons, drop-length, take-suc}
use borrow.Author.Tests.{lt-ltb, le-ltb, eq-eqb, ne_eqb}
use Rattle.lists.specs.Lists.{is_in, among}
use Rattle.lists.proofs.Tests.{eq-or-ne, in-range}
use Rattle.calls.specs.Refusals.{Refusal, accepted, is_accepted, or_else, unless, rows_refusal}
use Rattle.calls.proofs.Choices.{or-both, unless_holds}
use Rattle.refusals.specs.Parts.{placed, IsNumber, before, id_refusal, rows_part}
use Rattle.early_refusals.proofs.Tests.{is-out, is-in}

-- ---- numbers at every position

pub placed-none : {n : ℕ} (p : ℕ) → n ≡ 0 → placed n p ≡ accepted
placed-none {n} p e = rw (eq-eqb n 0 e) refl

-- ---- the ids before a place

pub before-among : (is : List ℕ) (x k : ℕ) → k ≤ length is → list_any (λ y. eqb y x) (take k is) ≡ among x (before k is)
unfolding before among
before-among is x zero h = refl
before-among is x (suc k) h =
    ap (list_any (λ y. eqb y x)) (take-suc is k 0 (omega arith)) ∙ list_any-append (λ y. eqb y x) (take k is) (get_or is k 0 ∷ []) ∙
    last-first (list_any (λ y. eqb y x) (take k is)) (get_or is k 0) (before-among is x k (omega arith))
  where
    turned : (a b : ℕ) → eqb a b ≡ eqb b a
    turned a b =
        elim (eq-or-ne a b) [ inl e ↦ rw (eq-eqb a b e, eq-eqb b a (sym e)) refl | inr n ↦ rw (ne_eqb a b n, ne_eqb b a (λ e. n (sym e))) refl ]

    last-first : (z : Bool) (y : ℕ) → z ≡ among x (before k is) → (z || (eqb y x || false)) ≡ (eqb x y || among x (before k is))
    last-first z y e = rw (or_comm z (eqb y x || false), or_comm (eqb y x) false, turned y x, e) refl

-- ---- one id

module _ (n : ℕ) (is : List ℕ) (k : ℕ) where
  abbrev named : ℕ → Refusal
  named p = unless (is_in 1 n (get_or is k 0)) 8 p

  abbrev fresh : ℕ → Refusal
  fresh p = unless (not (among (get_or is k 0) (before k is))) 9 p

  -- an id that is not refused is in range
  pub id_range : {r : ℕ} → IsNumber r (id_refusal n is k) → r ≡ 0 → (1 ≤ get_or is k 0) × (get_or is k 0 ≤ n)
  id_range {r} a e =
      in-range 1 n (get_or is k 0)
      (unless_holds (is_in 1 n (get_or is k 0)) 8 0 refl (or-both (named 0) (fresh 0) (ap is_accepted (a.same 0 ∙ placed-none 0 e))).0)

-- ---- the rows of a column

-- what is left says what the whole says
pub record RowsLeft (m : ℕ) (rows : List ℕ) (above i : ℕ) : Type 0 where
  pub within : i ≤ length rows
  pub same : (p : ℕ) → rows_refusal m p above (drop i rows) ≡ rows_part m rows p

pub rows_start : (m : ℕ) (rs : List ℕ) → RowsLeft m rs 0 0
rows_start m rs = record { within = omega arith; same = λ p. refl }

rows-cons : (m p a i : ℕ) (is : List ℕ) → rows_refusal m p a (i ∷ is) ≡ or_else (unless (is_in 1 m i) 13 p) (or_else (unless (ltb a i) 14 p) (rows_refusal m p i is))
unfolding rows_refusal
rows-cons m p a i is = refl

module _ {m : ℕ} {rs : List ℕ} {a i : ℕ} (l : RowsLeft m rs a i) where
  module _ (h : i < length rs) {x : Bool} (e : x ≡ not (is_in 1 m (get_or rs i 0))) where
    here : (p : ℕ) → rows_part m rs p ≡ or_else (unless (is_in 1 m (get_or rs i 0)) 13 p) (or_else (unless (ltb a (get_or rs i 0)) 14 p) (rows_refusal m p (get_or rs i 0) (drop (suc i) rs)))
    here p = sym (l.same p) ∙ ap (rows_refusal m p a) (drop-cons rs i 0 h) ∙ rows-cons m p a (get_or rs i 0) (drop (suc i) rs)

    pub rows-outside : x ≡ true → IsNumber 13 (rows_part m rs)
    rows-outside t = record { same = λ p. here p ∙ rw (is-out (is_in 1 m (get_or rs i 0)) e t) refl }

    pub rows-low : x ≡ false → get_or rs i 0 ≤ a → IsNumber 14 (rows_part m rs)
    rows-low t k = record { same = λ p. here p ∙ rw (is-in (is_in 1 m (get_or rs i 0)) e t, le-ltb a (get_or rs i 0) k) refl }

    pub rows_more : x ≡ false → a < get_or rs i 0 → RowsLeft m rs (get_or rs i 0) (i + 1)
    rows_more t k =
        record {
          within = omega arith;
          same = λ p. sym (here p ∙ rw (is-in (is_in 1 m (get_or rs i 0)) e t, lt-ltb a (get_or rs i 0) k) (ap (λ (j : ℕ). rows_refusal m p (get_or rs i 0) (drop j rs)) (sym (add-one i))));
        }

  pub rows_end : length rs ≤ i → IsNumber 0 (rows_part m rs)
  unfolding rows_refusal
  rows_end h =
      let e : i ≡ length rs = omega (arith, l.within) in
      record { same = λ p. sym (l.same p) ∙ ap (rows_refusal m p a) (ap (λ (j : ℕ). drop j rs) e ∙ drop-length rs) }
