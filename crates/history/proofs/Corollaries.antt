-- The weaker statements of specs/Corollaries.antt, from the theorems: `keeps-pattern` and `alters-only` from demand 3 and its invariant, `patterns-are`
-- from equation 3.1.
-- Assumes nothing.
use mathlib.Core.Path.{◌≡◌, refl, sym, ap, ◌∙◌, subst}
use mathlib.Core.Logic.{◌⊎◌, inl, inr, ◌≢◌, ◌↔◌}
use mathlib.Core.Bool.{Bool, true, false, ◌&&◌, ◌||◌, not}
use Prim.Native.Nat.{ℕ, ◌+◌, ◌≤◌, ◌<◌}
use native.Mathlib.Omega.{arith}
use lib.Dec.{eqb}
use borrow.Author.Tests.{eqb-true, eqb-false, eq-eqb, ne_eqb, not-true}
use Rattle.lists.specs.Lists.{Mem, all, any, up_from}
use Rattle.lists.proofs.Tests.{and_both, both-and, or-either, or_left, or_right, both_ways}
use Rattle.lists.proofs.Member.{any-find, any-has}
use Rattle.lists.proofs.Rising.{up-from, from_up}
use Rattle.symbolic.specs.Columns.{Column, smallest, holds, fits_rows, Register, live}
use Rattle.symbolic.specs.Factor.{factor_for, in_pattern, is_child}
use Rattle.symbolic.specs.Chains.{ChainTo}
use Rattle.symbolic.proofs.Theorems.{equation-31}
use Rattle.tables.specs.Tables.{Sizes, stored_in}
use Rattle.tables.specs.Stays.{ColumnStays}
use Rattle.tables.proofs.Revised.{stays-self}
use Rattle.calls.specs.Calls.{is_opening, is_change}
use Rattle.calls.specs.Numbers.{call_refusal}
use Rattle.calls.specs.Steps.{World, booked_in}
use Rattle.calls.proofs.Order.{bag-number}
use Rattle.calls.proofs.Steps.{step-taken, change-world}
use Rattle.history.specs.Runs.{Plain}
use Rattle.history.specs.Statements.{Consistent, Justified, Stands}
use Rattle.history.specs.Corollaries.{Keeps, KeepsPattern, AltersOnly, from_child, starts_here, is_union, PatternsAre}
use Rattle.history.proofs.Invariant.{Inv, inv-rows, inv-consistent}
use Rattle.history.proofs.Steps.{inv-justified, inv-run}
use Rattle.history.proofs.Theorems.{begun-inv}

keeps-of : {p : Plain} {v : World} → Inv p v → Keeps p v
keeps-of {p} {v} i =
    let k : Consistent p v = inv-consistent i in
    record {
      sound = i.sound;
      clock = k.clock;
      columns = k.columns;
      means = k.stored;
      chains = subst (λ (m : ℕ). (x j : ℕ) → 1 ≤ j → j < x → x ≤ m → Stands v x j ↔ ChainTo m (live p.register) x j) (sym i.rows) k.chains;
      refusals = λ c. ap (λ (l : Sizes). call_refusal l (booked_in v) c) i.sizes ∙ bag-number (booked_in v) p.register (inv-rows i) i.clock i.bag p.sizes c;
    }

pub keeps-pattern : KeepsPattern
keeps-pattern u p es v b r = keeps-of (inv-run es v (begun-inv u p b) r)

pub alters-only : AltersOnly
alters-only u p es v e w j b r s o x y =
    let i : Inv _ v = inv-run es v (begun-inv u p b) r in
    let t : Justified _ v e w = inv-justified i e w s in (
      λ c q n h. (change-world q (step-taken v e.call e.answer e.left w s n).world).others j x y h,
      λ h. subst (λ (z : World). ColumnStays (stored_in v.state v.tables) (stored_in z.state z.tables) j) (sym (t.unchanged (quiet h)))
          (stays-self (stored_in v.state v.tables) j),
    )
  where
    quiet : (e.answer.number ≢ 0) ⊎ (is_change e.call.entry ≡ false) → (e.answer.number ≢ 0) ⊎ ((is_change e.call.entry || is_opening e.call.entry) ≡ false)
    quiet (inl n) = inl n
    quiet (inr q) = inr (rw (q, o) refl)

-- ---- equation 3.1, as a test

module _ (r : Register) (i j : ℕ) (fits : all (fits_rows r.m) (live r) ≡ true) (a : 1 ≤ j) (b : j ≤ i) (d : i ≤ r.m) where
  abbrev child : Bool
  child = any (from_child r i j) (up_from 1 r.m)

  abbrev start : Bool
  start = any (starts_here i j) (live r)

  in-union : in_pattern (factor_for r) i j ≡ true → is_union r i j ≡ true
  in-union h =
      elim ((equation-31 r.m (live r) fits i j (omega arith) d a (omega arith)).0 h) [
        | inl e ↦ or_left (eqb i j || child) start (or_left (eqb i j) child (eq-eqb i j e))
        | inr (inl z) ↦ or_left (eqb i j || child) start (or_right (eqb i j) child
            (any-has (from_child r i j) (up-from 1 r.m z.0 z.1 (omega arith)) (both-and (both-and z.3 z.5) (ap not (ne_eqb i z.0 z.4)))))
        | inr (inr z) ↦ or_right (eqb i j || child) start (any-has (starts_here i j) z.1 (both-and (eq-eqb (smallest z.0) j z.2) z.3))
      ]

  union-in : is_union r i j ≡ true → in_pattern (factor_for r) i j ≡ true
  union-in h =
      (equation-31 r.m (live r) fits i j (omega arith) d a (omega arith)).1
      (elim (or-either (eqb i j || child) start h) [
        | inl g ↦ elim (or-either (eqb i j) child g) [
          | inl e ↦ inl (eqb-true i j e)
          | inr e ↦
              let t : (c : ℕ) × Mem c (up_from 1 r.m) × (from_child r i j c ≡ true) = any-find (from_child r i j) (up_from 1 r.m) e in
              let u : (1 ≤ t.0) × (t.0 < 1 + r.m) = from_up 1 r.m t.1 in
              let x : Bool = is_child (factor_for r) t.0 j in
              let y : Bool = in_pattern (factor_for r) i t.0 in
              let v : ((x && y) ≡ true) × (not (eqb i t.0) ≡ true) = and_both (x && y) (not (eqb i t.0)) t.2 in
              let w : (x ≡ true) × (y ≡ true) = and_both x y v.0 in
              inr (inl (t.0, u.0, omega arith, w.0, eqb-false i t.0 (not-true (eqb i t.0) v.1), w.1))
        ]
        | inr g ↦
            let t : (c : Column) × Mem c (live r) × (starts_here i j c ≡ true) = any-find (starts_here i j) (live r) g in
            let u : (eqb (smallest t.0) j ≡ true) × (holds t.0 i ≡ true) = and_both (eqb (smallest t.0) j) (holds t.0 i) t.2 in
            inr (inr (t.0, t.1, eqb-true (smallest t.0) j u.0, u.1))
      ])

pub patterns-are : PatternsAre
patterns-are r i j fits a b d = both_ways (in_pattern (factor_for r) i j) (is_union r i j) (in-union r i j fits a b d) (union-in r i j fits a b d)
