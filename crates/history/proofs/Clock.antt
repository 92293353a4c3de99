-- Windows and the clock in lists of calls: what `live` means of booked columns (`live-means`); that a batch leaves the clock (`batch-clock`); the factor of the columns
-- that stay, of two registers with the same columns (`stay-factor`); the paths of the columns that count at one minute and not at another (`path-only`,
-- `only-path`); the labels of a clock change (`zero-labels`). Assumes nothing.
use mathlib.Core.Path.{◌≡◌, refl, sym, ap, ◌∙◌, subst}
use mathlib.Core.Logic.{inl, inr}
use mathlib.Core.Bool.{Bool, true, false, ◌&&◌, not, false≢true}
use mathlib.Core.List.{List, [], ◌∷◌}
use Prim.Native.Nat.{ℕ, ◌+◌, ◌≤◌}
use native.Mathlib.Omega.{arith}
use lib.Dec.{eqb}
use lib.ListN.{length, replicate}
use borrow.Author.Tests.{not-true}
use Rattle.lists.specs.Lists.{one, is_in, Mem, first, later, all, among, sum_of}
use Rattle.lists.proofs.Tests.{cases, in-range, and_both, both-and}
use Rattle.lists.proofs.Member.{place-mem, any-find, any-has, all-at}
use Rattle.lists.proofs.Rising.{rises-in}
use Rattle.symbolic.specs.Columns.{Column, smallest, holds, fits_rows, starting_with, in_window, only_at, at_both, counted, counted_by, Register, live}
use Rattle.symbolic.specs.Factor.{factor_of}
use Rattle.symbolic.specs.Definition.{OnPath}
use Rattle.symbolic.specs.Chains.{share}
use Rattle.symbolic.specs.Change.{removed, Bag}
use Rattle.symbolic.proofs.Bags.{bag-without}
use Rattle.symbolic.proofs.Theorems.{order-free}
use Rattle.symbolic.proofs.Live.{counted-bag, live-is, live-order}
use Rattle.book.specs.Book.{column_fits}
use Rattle.calls.specs.Calls.{Change, adding, removing, setting, is_batch}
use Rattle.calls.specs.Changes.{effect, labelled}
use Rattle.history.specs.Statements.{OnPathOf, LiveIs}

-- ---- columns as they count

module _ (f : Column → Bool) where
  counted-find : (cs : List Column) {d : Column} → Mem d (counted_by f cs) → (c : Column) × Mem c cs × (d ≡ counted (f c) c)
  unfolding counted_by
  counted-find [] m = elim m [ ]
  counted-find (c ∷ cs) first = (c, first, refl)
  counted-find (c ∷ cs) {d} (later m) =
      let t : (e : Column) × Mem e cs × (d ≡ counted (f e) e) = counted-find cs m in (t.0, later t.1, t.2)

  mem-counted : {c : Column} {cs : List Column} → Mem c cs → Mem (counted (f c) c) (counted_by f cs)
  unfolding counted_by
  mem-counted first = first
  mem-counted (later m) = later (mem-counted m)

-- a column that counts holds what it holds, one that does not holds nothing
counted-holds : (z : Bool) (c : Column) (i : ℕ) → holds (counted z c) i ≡ (z && holds c i)
unfolding among
counted-holds true c i = refl
counted-holds false c i = refl

-- ---- what live means

module _ (r : Register) (i j : ℕ) where
  abbrev inside : Column → Bool
  inside c = in_window r.clock c

  abbrev both : Column → Bool
  both c = holds c i && holds c j

  abbrev Shared : Type 0
  Shared = (c : Column) × Mem c r.columns × (in_window r.clock c ≡ true) × (holds c i ≡ true) × (holds c j ≡ true)

  live_shared : share (live r) i j ≡ true → Shared
  live_shared h =
      let t : (d : Column) × Mem d (counted_by inside r.columns) × (both d ≡ true) =
      any-find both (counted_by inside r.columns) (ap (λ (cs : List Column). share cs i j) (sym (live-is r r.columns)) ∙ h) in
      let u : (c : Column) × Mem c r.columns × (t.0 ≡ counted (inside c) c) = counted-find inside r.columns t.1 in
      let v : (holds t.0 i ≡ true) × (holds t.0 j ≡ true) = and_both (holds t.0 i) (holds t.0 j) t.2 in
      let c : Column = u.0 in
      let x : (inside c ≡ true) × (holds c i ≡ true) =
      and_both (inside c) (holds c i) (sym (counted-holds (inside c) c i) ∙ ap (λ (d : Column). holds d i) (sym u.2) ∙ v.0) in
      let y : (inside c ≡ true) × (holds c j ≡ true) =
      and_both (inside c) (holds c j) (sym (counted-holds (inside c) c j) ∙ ap (λ (d : Column). holds d j) (sym u.2) ∙ v.1) in
      (c, u.1, x.0, x.1, y.1)

  shared-live : Shared → share (live r) i j ≡ true
  shared-live (c, m, e, x, y) =
      ap (λ (cs : List Column). share cs i j) (live-is r r.columns) ∙
      any-has both (mem-counted inside m) (both-and (counted-holds (inside c) c i ∙ both-and e x) (counted-holds (inside c) c j ∙ both-and e y))

  starting : (cs : List Column) → starting_with j i (counted_by inside cs) ≡ sum_of (λ c. one (inside c && (eqb (smallest c) j && holds c i))) cs
  unfolding starting_with counted_by sum_of among
  starting [] = refl
  starting (c ∷ cs) =
      elim (cases (inside c)) [
        | inl e ↦ rw e (ap (λ (n : ℕ). one (eqb (smallest c) j && holds c i) + n) (starting cs))
        | inr e ↦ rw e (omega (arith, never (eqb 0 j), starting cs))
      ]
    where
      never : (z : Bool) → one (z && false) ≡ 0
      never true = refl
      never false = refl

pub live-means : LiveIs
live-means r i j = ((live_shared r i j, shared-live r i j), ap (starting_with j i) (live-is r r.columns) ∙ starting r i j r.columns)

-- ---- each change

-- only a clock change sets the clock
pub batch-clock : (r : Register) (c : Change) → is_batch c ≡ true → (effect r c).register.clock ≡ r.clock
batch-clock r (adding is ns rs ps qs) h = refl
batch-clock r (removing is) h = refl
batch-clock r (setting t) h = absurd (false≢true h)

-- the columns that stay, in any order
pub stay-factor : (r s : Register) → r.clock ≡ s.clock → Bag r.columns s.columns → (c : Change) (m : ℕ) →
    factor_of m (effect r c).stay ≡ factor_of m (effect s c).stay
stay-factor r s k b c m = order-free m (effect r c).stay (effect s c).stay (stays c)
  where
    stays : (c : Change) → Bag (effect r c).stay (effect s c).stay
    stays (adding is ns rs ps qs) = live-order r s k b
    stays (removing is) = live-order (removed r is) (removed s is) k (bag-without is r.columns s.columns b)
    stays (setting t) =
        subst (λ (o : ℕ). Bag (counted_by (at_both r.clock t) r.columns) (counted_by (at_both o t) s.columns)) k
        (counted-bag (at_both r.clock t) r.columns s.columns b)

-- ---- a clock change

-- a booked column that fits starts at a row of 1 to m
smallest-in : (m : ℕ) (c : Column) → column_fits m c ≡ true → (1 ≤ smallest c) × (smallest c ≤ m)
smallest-in m c h =
    let t : (fits_rows m c ≡ true) × (is_in 1 256 (length c.rows) ≡ true) = and_both (fits_rows m c) (is_in 1 256 (length c.rows)) h in
    rises-in 1 m (place-mem c.rows 0 0 (in-range 1 256 (length c.rows) t.1).0) t.0

module _ (m : ℕ) (P : ℕ → ℕ) (t o : ℕ) (cs : List Column) (j : ℕ) where
  -- j lies on the path of a column that is inside its window at minute t and not at o
  abbrev Only : Type 0
  Only = (c : Column) × Mem c cs × (in_window t c ≡ true) × (in_window o c ≡ false) × OnPath P (smallest c) j

  pub path-only : OnPathOf m P (counted_by (only_at t o) cs) j → Only
  path-only u =
      let w : (c : Column) × Mem c cs × (u.0 ≡ counted (only_at t o c) c) = counted-find (only_at t o) cs u.1 in
      let c : Column = w.0 in
      elim (cases (only_at t o c)) [
        | inl e ↦
            let q : smallest u.0 ≡ smallest c = ap smallest w.2 ∙ ap (λ (z : Bool). smallest (counted z c)) e in
            let h : (in_window t c ≡ true) × (not (in_window o c) ≡ true) = and_both (in_window t c) (not (in_window o c)) e in
            (c, w.1, h.0, not-true (in_window o c) h.1, subst (λ (s : ℕ). OnPath P s j) q u.4)
        | inr e ↦ let q : smallest u.0 ≡ 0 = ap smallest w.2 ∙ ap (λ (z : Bool). smallest (counted z c)) e in absurd (omega (arith, u.2))
      ]

  pub only-path : all (column_fits m) cs ≡ true → Only → OnPathOf m P (counted_by (only_at t o) cs) j
  only-path fits (c, k, x, y, p) =
      let e : only_at t o c ≡ true = both-and x (ap not y) in
      let q : smallest (counted (only_at t o c) c) ≡ smallest c = ap (λ (z : Bool). smallest (counted z c)) e in
      let b : (1 ≤ smallest c) × (smallest c ≤ m) = smallest-in m c (all-at (column_fits m) k fits) in
      (counted (only_at t o c) c, mem-counted (only_at t o) k, omega arith, omega arith, subst (λ (s : ℕ). OnPath P s j) (sym q) p)

-- "These are listed with label 0"
pub zero-labels : (js : List ℕ) → labelled (λ j. 0) js ≡ replicate (length js) 0
unfolding labelled
zero-labels [] = refl
zero-labels (j ∷ js) = ap (λ (ls : List ℕ). 0 ∷ ls) (zero-labels js)
