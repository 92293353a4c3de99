-- The test of a chain against counters (specs/Fitting.antt): record after record, and that it says "the pattern and its multiplicities" (fits-same).
-- A row whose counter is the first that is not 0 heads the pattern, and the rest is the pattern with that counter taken away (strike); rows rise, so a
-- counter that was passed by is never taken away and shows in the total. Assumes nothing.
use mathlib.Core.Path.{◌≡◌, refl, sym, ap, subst, ◌∙◌}
use mathlib.Core.Logic.{inl, inr, ◌≢◌}
use mathlib.Core.Bool.{Bool, true, false, ◌&&◌, not}
use mathlib.Core.List.{List, [], ◌∷◌, ◌++◌}
use Prim.Native.Nat.{ℕ, zero, suc, ◌+◌, ◌-◌, ◌≤◌, ◌<◌}
use native.Mathlib.Omega.{arith}
use lib.Dec.{ltb, leb, eqb}
use lib.ListN.{length, get_or, set}
use borrow.Author.Tests.{lt-ltb, ltb-true, le-leb, leb-true, eq-eqb, ne_eqb, eqb-true, eqb-false, not-true}
use Rattle.lists.specs.Lists.{at, put, values_at, same, sum_of}
use Rattle.lists.proofs.Tests.{eq-or-ne, lt-or-le, and_both, both-and, both_ways}
use Rattle.lists.proofs.Member.{same-eq, eq-same}
use Rattle.lists.proofs.Place.{put-length, at-put-same, at-put-other}
use Rattle.symbolic.specs.Factor.{pattern_from, non_zero}
use Rattle.book.specs.Tally.{filled}
use Rattle.book.proofs.Tally.{filled-lower, filled_zero, filled_none}
use Rattle.counting.specs.Counting.{total}
use Rattle.soundness.specs.Fitting.{entry_fits, passes, struck, fits}
use Rattle.counting.proofs.Tallies.{total-place, filled-total}

-- ---- record after record

pub struck-append : (ns xs ys : List ℕ) → struck ns (xs ++ ys) ≡ struck (struck ns xs) ys
unfolding struck
struck-append ns [] ys = refl
struck-append ns (x ∷ xs) ys = struck-append (put ns x 0) xs ys

pub struck-more : (ns xs : List ℕ) (x : ℕ) → struck ns (xs ++ (x ∷ [])) ≡ put (struck ns xs) x 0
unfolding struck
struck-more ns xs x = struck-append ns xs (x ∷ [])

-- a record that fits leaves the rest to pass the counters that are left; one that does not fails
module _ (rs vs : List ℕ) (m : ℕ) (ns : List ℕ) (z d : ℕ) (es : List ℕ) where
  pub passes-next : entry_fits m ns z (at rs d) (at vs d) ≡ true → passes rs vs m ns z (d ∷ es) ≡ passes rs vs m (put ns (at rs d) 0) (at rs d) es
  unfolding passes
  passes-next e = ap (λ (b : Bool). b && passes rs vs m (put ns (at rs d) 0) (at rs d) es) e

  pub passes-not : entry_fits m ns z (at rs d) (at vs d) ≡ false → passes rs vs m ns z (d ∷ es) ≡ false
  unfolding passes
  passes-not e = ap (λ (b : Bool). b && passes rs vs m (put ns (at rs d) 0) (at rs d) es) e

-- ---- the facts of one entry

pub record Entry (m : ℕ) (ns : List ℕ) (z x v : ℕ) : Type 0 where
  pub above : z < x
  pub within : x ≤ m
  pub some : v ≢ 0
  pub counter : at ns x ≡ v

pub entry_of : (m : ℕ) (ns : List ℕ) (z x v : ℕ) → entry_fits m ns z x v ≡ true → Entry m ns z x v
entry_of m ns z x v e =
    let t : (ltb z x ≡ true) × ((leb x m && (not (eqb v 0) && eqb (at ns x) v)) ≡ true) = and_both (ltb z x) (leb x m && (not (eqb v 0) && eqb (at ns x) v)) e in
    let u : (leb x m ≡ true) × ((not (eqb v 0) && eqb (at ns x) v) ≡ true) = and_both (leb x m) (not (eqb v 0) && eqb (at ns x) v) t.1 in
    let w : (not (eqb v 0) ≡ true) × (eqb (at ns x) v ≡ true) = and_both (not (eqb v 0)) (eqb (at ns x) v) u.1 in
    record {
      above = ltb-true z x t.0;
      within = leb-true x m u.0;
      some = eqb-false v 0 (not-true (eqb v 0) w.0);
      counter = eqb-true (at ns x) v w.1;
    }

pub of_entry : (m : ℕ) (ns : List ℕ) (z x v : ℕ) → Entry m ns z x v → entry_fits m ns z x v ≡ true
of_entry m ns z x v e =
    let n : not (eqb v 0) ≡ true = ap not (ne_eqb v 0 e.some) in
    both-and (lt-ltb z x e.above) (both-and (le-leb x m e.within) (both-and n (eq-eqb (at ns x) v e.counter)))

-- ---- the pattern and the first counter that is not 0

abbrev ZeroBelow : List ℕ → ℕ → Type 0
ZeroBelow ns k = (l : ℕ) → l < k → get_or ns l 0 ≡ 0

zero-tail : (n : ℕ) (ns : List ℕ) (k : ℕ) → ZeroBelow (n ∷ ns) (suc k) → ZeroBelow ns k
zero-tail n ns k h l p = h (suc l) (omega arith)

strike : (a : ℕ) (ns : List ℕ) (k : ℕ) → k < length ns → get_or ns k 0 ≢ 0 → ZeroBelow ns k →
    (pattern_from a ns ≡ (a + k) ∷ pattern_from a (set ns k 0)) × (non_zero ns ≡ get_or ns k 0 ∷ non_zero (set ns k 0))
unfolding pattern_from non_zero
strike a [] k h p z = absurd (omega arith)
strike a (n ∷ ns) zero h p z = let e : a ≡ a + 0 = omega arith in (rw (ne_eqb n 0 p) (ap (λ (x : ℕ). x ∷ pattern_from (suc a) ns) e), rw (ne_eqb n 0 p) refl)
strike a (n ∷ ns) (suc k) h p z =
    let e : suc a + k ≡ a + suc k = omega arith in
    let t : (pattern_from (suc a) ns ≡ (suc a + k) ∷ pattern_from (suc a) (set ns k 0)) × (non_zero ns ≡ get_or ns k 0 ∷ non_zero (set ns k 0)) =
    strike (suc a) ns k (omega arith) p (zero-tail n ns k z) in
    let q : eqb n 0 ≡ true = eq-eqb n 0 (z 0 (omega arith)) in
    (rw q (t.0 ∙ ap (λ (x : ℕ). x ∷ pattern_from (suc a) (set ns k 0)) e), rw q t.1)

zero-first : (n : ℕ) (ns : List ℕ) (k : ℕ) → n ≡ 0 → ZeroBelow ns k → ZeroBelow (n ∷ ns) (suc k)
zero-first n ns k q z zero h = q
zero-first n ns k q z (suc l) h = z l (omega arith)

-- a pattern's first row
head_of : (a : ℕ) (ns : List ℕ) (x : ℕ) (xs : List ℕ) → pattern_from a ns ≡ x ∷ xs → (k : ℕ) × (k < length ns) × (get_or ns k 0 ≢ 0) × ZeroBelow ns k
unfolding pattern_from
head_of a [] x xs e = absurd (let z : ◌≡◌ {A = ℕ} 0 1 = cc in omega arith)
head_of a (n ∷ ns) x xs e =
    elim (eq-or-ne n 0) [
      | inl q ↦
          let t : (k : ℕ) × (k < length ns) × (get_or ns k 0 ≢ 0) × ZeroBelow ns k = head_of (suc a) ns x xs (rw (eq-eqb n 0 q) at e) in
          (suc t.0, omega arith, t.2, zero-first n ns t.0 q t.3)
      | inr q ↦ (0, omega arith, q, λ l h. absurd (omega arith))
    ]

-- no counter at all
total-none : (a : ℕ) (ns : List ℕ) → total ns ≡ 0 → (pattern_from a ns ≡ []) × (non_zero ns ≡ [])
unfolding pattern_from non_zero sum_of
total-none a [] e = (refl, refl)
total-none a (n ∷ ns) e =
    let q : n ≡ 0 = omega arith in
    let t : (pattern_from (suc a) ns ≡ []) × (non_zero ns ≡ []) = total-none (suc a) ns (omega arith) in
    (rw (eq-eqb n 0 q) t.0, rw (eq-eqb n 0 q) t.1)

none-total : (a : ℕ) (ns : List ℕ) → pattern_from a ns ≡ [] → total ns ≡ 0
unfolding pattern_from sum_of
none-total a [] e = refl
none-total a (n ∷ ns) e =
    elim (eq-or-ne n 0) [
      | inl q ↦ omega (arith, none-total (suc a) ns (rw (eq-eqb n 0 q) at e))
      | inr q ↦ let d : a ∷ pattern_from (suc a) ns ≡ [] = rw (ne_eqb n 0 q) at e in absurd (let z : ◌≡◌ {A = ℕ} 0 1 = cc in omega arith)
    ]

-- ---- the test is the pattern

module _ (rs vs : List ℕ) where
  abbrev Left : List ℕ → List ℕ → ℕ
  Left ns ds = total (struck ns (values_at rs ds))

  -- what the rows have passed by is 0 where nothing is left
  passed-by : (m : ℕ) (ns : List ℕ) (z : ℕ) (ds : List ℕ) → passes rs vs m ns z ds ≡ true → Left ns ds ≡ 0 → (y : ℕ) → 1 ≤ y → y ≤ z → at ns y ≡ 0
  unfolding passes struck values_at
  passed-by m ns z [] p e y a b = omega (arith, total-place ns (y - 1))
  passed-by m ns z (d ∷ ds) p e y a b =
      let x : ℕ = at rs d in
      let t : (entry_fits m ns z x (at vs d) ≡ true) × (passes rs vs m (put ns x 0) x ds ≡ true) = and_both (entry_fits m ns z x (at vs d)) (passes rs vs m (put ns x 0) x ds) p in
      let f : Entry m ns z x (at vs d) = entry_of m ns z x (at vs d) t.0 in
      let h : z < x = f.above in
      sym (at-put-other ns x y 0 (omega arith) a (omega arith)) ∙ passed-by m (put ns x 0) x ds t.1 e y a (omega arith)

  -- a first row that fits, with nothing left at the end, heads the pattern
  heads-pattern : (m : ℕ) (ns : List ℕ) (z x v : ℕ) → length ns ≡ m → Entry m ns z x v → ((y : ℕ) → 1 ≤ y → y ≤ x → at (put ns x 0) y ≡ 0) →
      (pattern_from 1 ns ≡ x ∷ pattern_from 1 (put ns x 0)) × (non_zero ns ≡ v ∷ non_zero (put ns x 0))
  heads-pattern m ns z x v l f by =
      let h : (z < x) × (x ≤ m) = (f.above, f.within) in
      let q : 1 + (x - 1) ≡ x = omega arith in
      let c : get_or ns (x - 1) 0 ≡ v = f.counter in
      let below : ZeroBelow ns (x - 1) =
      λ k p. (let r : suc k - 1 ≡ k = omega arith in
      rw (← ap (λ (i : ℕ). get_or ns i 0) r) (sym (at-put-other ns x (suc k) 0 (omega arith) (omega arith) (omega arith)) ∙ by (suc k) (omega arith) (omega arith))) in
      let t : (pattern_from 1 ns ≡ (1 + (x - 1)) ∷ pattern_from 1 (put ns x 0)) × (non_zero ns ≡ get_or ns (x - 1) 0 ∷ non_zero (put ns x 0)) =
      strike 1 ns (x - 1) (omega arith) (λ e. f.some (sym c ∙ e)) below in
      (t.0 ∙ ap (λ (i : ℕ). i ∷ pattern_from 1 (put ns x 0)) q, t.1 ∙ ap (λ (i : ℕ). i ∷ non_zero (put ns x 0)) c)

  fit-pattern : (m : ℕ) (ns : List ℕ) (z : ℕ) (ds : List ℕ) → length ns ≡ m → passes rs vs m ns z ds ≡ true → Left ns ds ≡ 0 →
      (values_at rs ds ≡ pattern_from 1 ns) × (values_at vs ds ≡ non_zero ns)
  unfolding passes struck values_at
  fit-pattern m ns z [] l p e = let t : (pattern_from 1 ns ≡ []) × (non_zero ns ≡ []) = total-none 1 ns e in (sym t.0, sym t.1)
  fit-pattern m ns z (d ∷ ds) l p e =
      let x : ℕ = at rs d in
      let t : (entry_fits m ns z x (at vs d) ≡ true) × (passes rs vs m (put ns x 0) x ds ≡ true) = and_both (entry_fits m ns z x (at vs d)) (passes rs vs m (put ns x 0) x ds) p in
      let f : Entry m ns z x (at vs d) = entry_of m ns z x (at vs d) t.0 in
      let g : (pattern_from 1 ns ≡ x ∷ pattern_from 1 (put ns x 0)) × (non_zero ns ≡ at vs d ∷ non_zero (put ns x 0)) =
      heads-pattern m ns z x (at vs d) l f (passed-by m (put ns x 0) x ds t.1 e) in
      let ih : (values_at rs ds ≡ pattern_from 1 (put ns x 0)) × (values_at vs ds ≡ non_zero (put ns x 0)) =
      fit-pattern m (put ns x 0) x ds (put-length ns x 0 ∙ l) t.1 e in
      (ap (λ (k : List ℕ). x ∷ k) ih.0 ∙ sym g.0, ap (λ (k : List ℕ). at vs d ∷ k) ih.1 ∙ sym g.1)

  pattern-fits : (m : ℕ) (ns : List ℕ) (z : ℕ) (ds : List ℕ) → length ns ≡ m → ((y : ℕ) → 1 ≤ y → y ≤ z → at ns y ≡ 0) → values_at rs ds ≡ pattern_from 1 ns → values_at vs ds ≡ non_zero ns →
      (passes rs vs m ns z ds ≡ true) × (Left ns ds ≡ 0)
  unfolding passes struck values_at
  pattern-fits m ns z [] l by p q = (refl, none-total 1 ns (sym p))
  pattern-fits m ns z (d ∷ ds) l by p q =
      let x : ℕ = at rs d in
      let h : (k : ℕ) × (k < length ns) × (get_or ns k 0 ≢ 0) × ZeroBelow ns k = head_of 1 ns x (values_at rs ds) (sym p) in
      let k : ℕ = h.0 in
      let t : (pattern_from 1 ns ≡ (1 + k) ∷ pattern_from 1 (set ns k 0)) × (non_zero ns ≡ get_or ns k 0 ∷ non_zero (set ns k 0)) = strike 1 ns k h.1 h.2 h.3 in
      let p' : x ∷ values_at rs ds ≡ (1 + k) ∷ pattern_from 1 (set ns k 0) = p ∙ t.0 in
      let q' : at vs d ∷ values_at vs ds ≡ get_or ns k 0 ∷ non_zero (set ns k 0) = q ∙ t.1 in
      let ex : x ≡ 1 + k = cc in
      let ev : at vs d ≡ get_or ns k 0 = cc in
      let kx : k ≡ x - 1 = omega arith in
      let er : values_at rs ds ≡ pattern_from 1 (put ns x 0) = subst (λ (i : ℕ). values_at rs ds ≡ pattern_from 1 (set ns i 0)) kx (cc) in
      let es : values_at vs ds ≡ non_zero (put ns x 0) = subst (λ (i : ℕ). values_at vs ds ≡ non_zero (set ns i 0)) kx (cc) in
      let cx : at ns x ≡ at vs d = ap (λ (i : ℕ). get_or ns i 0) (sym kx) ∙ sym ev in
      let above : z < x =
      elim (lt-or-le z x) [
        | inl g ↦ g
        | inr g ↦ absurd (h.2 (ap (λ (i : ℕ). get_or ns i 0) kx ∙ by x (omega arith) g))
      ] in
      let f : Entry m ns z x (at vs d) = record { above = above; within = omega (arith, h.1); some = λ e. h.2 (sym ev ∙ e); counter = cx } in
      let gone : (y : ℕ) → 1 ≤ y → y ≤ x → at (put ns x 0) y ≡ 0 =
      λ y a b. elim (eq-or-ne y x) [
        | inl e ↦ subst (λ (i : ℕ). at (put ns i 0) y ≡ 0) e (at-put-same ns y 0 a (omega (arith, h.1)))
        | inr e ↦ at-put-other ns x y 0 (omega arith) a e ∙ h.3 (y - 1) (omega arith)
      ] in
      let ih : (passes rs vs m (put ns x 0) x ds ≡ true) × (Left (put ns x 0) ds ≡ 0) = pattern-fits m (put ns x 0) x ds (put-length ns x 0 ∙ l) gone er es in
      (both-and (of_entry m ns z x (at vs d) f) ih.0, ih.1)

  pub fits-same : (m : ℕ) (ns ds : List ℕ) → length ns ≡ m → fits rs vs m ns ds ≡ (same (values_at rs ds) (pattern_from 1 ns) && same (values_at vs ds) (non_zero ns))
  fits-same m ns ds l =
      both_ways (fits rs vs m ns ds) (same (values_at rs ds) (pattern_from 1 ns) && same (values_at vs ds) (non_zero ns))
      (λ h.
      let t : (passes rs vs m ns 0 ds ≡ true) × (eqb (Left ns ds) 0 ≡ true) = and_both (passes rs vs m ns 0 ds) (eqb (Left ns ds) 0) h in
      let u : (values_at rs ds ≡ pattern_from 1 ns) × (values_at vs ds ≡ non_zero ns) = fit-pattern m ns 0 ds l t.0 (eqb-true (Left ns ds) 0 t.1) in
      both-and (eq-same u.0) (eq-same u.1))
      (λ h.
      let t : (same (values_at rs ds) (pattern_from 1 ns) ≡ true) × (same (values_at vs ds) (non_zero ns) ≡ true) = and_both (same (values_at rs ds) (pattern_from 1 ns)) (same (values_at vs ds) (non_zero ns)) h in
      let u : (passes rs vs m ns 0 ds ≡ true) × (Left ns ds ≡ 0) =
      pattern-fits m ns 0 ds l (λ y a b. absurd (omega arith)) (same-eq (values_at rs ds) (pattern_from 1 ns) t.0) (same-eq (values_at vs ds) (non_zero ns) t.1) in
      both-and u.0 (eq-eqb (Left ns ds) 0 u.1))

-- ---- as many records as counters

-- each record that fits takes one counter away
pub passes-filled : (rs vs : List ℕ) (m : ℕ) (ns : List ℕ) (z : ℕ) (ds : List ℕ) → passes rs vs m ns z ds ≡ true → length ds + filled (struck ns (values_at rs ds)) ≡ filled ns
unfolding passes struck values_at
passes-filled rs vs m ns z [] p = omega arith
passes-filled rs vs m ns z (d ∷ ds) p =
    let x : ℕ = at rs d in
    let t : (entry_fits m ns z x (at vs d) ≡ true) × (passes rs vs m (put ns x 0) x ds ≡ true) = and_both (entry_fits m ns z x (at vs d)) (passes rs vs m (put ns x 0) x ds) p in
    let f : Entry m ns z x (at vs d) = entry_of m ns z x (at vs d) t.0 in
    omega (arith, passes-filled rs vs m (put ns x 0) x ds t.1, filled-lower ns (x - 1) (λ e. f.some (sym f.counter ∙ e)))

-- so records that fit are as many as the counters that are not 0
pub fits-filled : (rs vs : List ℕ) (m : ℕ) (ns ds : List ℕ) → fits rs vs m ns ds ≡ true → length ds ≡ filled ns
fits-filled rs vs m ns ds h =
    let left : List ℕ = struck ns (values_at rs ds) in
    let t : (passes rs vs m ns 0 ds ≡ true) × (eqb (total left) 0 ≡ true) = and_both (passes rs vs m ns 0 ds) (eqb (total left) 0) h in
    omega (arith, passes-filled rs vs m ns 0 ds t.0, filled_zero left (λ k l. omega (arith, total-place left k, eqb-true (total left) 0 t.1)))

-- and as many records that pass leave none
pub filled-fits : (rs vs : List ℕ) (m : ℕ) (ns ds : List ℕ) → passes rs vs m ns 0 ds ≡ true → length ds ≡ filled ns → ((k : ℕ) → get_or (struck ns (values_at rs ds)) k 0 ≡ 0) × (fits rs vs m ns ds ≡ true)
filled-fits rs vs m ns ds p l =
    let left : List ℕ = struck ns (values_at rs ds) in
    let e : filled left ≡ 0 = omega (arith, passes-filled rs vs m ns 0 ds p) in
    (filled_none left e, both-and p (eq-eqb (total left) 0 (filled-total left e)))
