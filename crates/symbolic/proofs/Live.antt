-- The columns that count, of booked ones: the laws of `live_of` that proofs cite, and of `counted_by`, which it is. They are unfolded here and in instances that
-- compute, nowhere else. Assumes nothing.
use mathlib.Core.Path.{◌≡◌, refl, sym, ap, ◌∙◌, subst}
use mathlib.Core.Logic.{inl, inr}
use mathlib.Core.Bool.{Bool, true, false, ◌&&◌, not}
use mathlib.Core.List.{List, [], ◌∷◌, ◌++◌}
use Prim.Native.Nat.{ℕ, suc, ◌+◌}
use native.Mathlib.Omega.{arith}
use lib.ListN.{length}
use Rattle.lists.specs.Lists.{pick, all, sum_of, rises}
use Rattle.lists.proofs.Tests.{cases, and_both, both-and, and-swap}
use Rattle.lists.proofs.Sum.{sum-append, sum-plus, sum-ext}
use Rattle.symbolic.specs.Columns.{Column, has_rows, with_rows, fits_rows, in_window, only_at, at_both, counted, counted_by, Register, live_of, live}
use Rattle.symbolic.specs.Change.{without, added, removed, clocked, Bag}

-- ---- columns that a choice takes, each at its place

module _ (p : Column → Bool) where
  pub counted-append : (cs ds : List Column) → counted_by p (cs ++ ds) ≡ counted_by p cs ++ counted_by p ds
  unfolding counted_by
  counted-append [] ds = refl
  counted-append (c ∷ cs) ds = ap (λ (es : List Column). counted (p c) c ∷ es) (counted-append cs ds)

  pub counted-length : (cs : List Column) → length (counted_by p cs) ≡ length cs
  unfolding counted_by
  counted-length [] = refl
  counted-length (c ∷ cs) = ap suc (counted-length cs)

  pub counted-sum : (f : Column → ℕ) (cs : List Column) → sum_of f (counted_by p cs) ≡ sum_of (λ c. f (counted (p c) c)) cs
  unfolding counted_by sum_of
  counted-sum f [] = refl
  counted-sum f (c ∷ cs) = ap (λ (n : ℕ). f (counted (p c) c) + n) (counted-sum f cs)

  -- the order of columns does not matter
  pub counted-bag : (cs ds : List Column) → Bag cs ds → Bag (counted_by p cs) (counted_by p ds)
  counted-bag cs ds b f = counted-sum f cs ∙ b (λ c. f (counted (p c) c)) ∙ sym (counted-sum f ds)

  pub counted-fits : (m : ℕ) (cs : List Column) → all (fits_rows m) cs ≡ true → all (fits_rows m) (counted_by p cs) ≡ true
  unfolding counted_by all rises
  counted-fits m [] h = refl
  counted-fits m (c ∷ cs) h =
      let t : (fits_rows m c ≡ true) × (all (fits_rows m) cs ≡ true) = and_both (fits_rows m c) (all (fits_rows m) cs) h in
      both-and (shortened m c.rows (p c) t.0) (counted-fits m cs t.1)
    where
      shortened : (m : ℕ) (rs : List ℕ) (z : Bool) → rises 1 m rs ≡ true → rises 1 m (pick z rs []) ≡ true
      shortened m rs true h = h
      shortened m rs false h = refl

-- choices that take the same columns
pub counted-ext : {p q : Column → Bool} → ((c : Column) → p c ≡ q c) → (cs : List Column) → counted_by p cs ≡ counted_by q cs
unfolding counted_by
counted-ext h [] = refl
counted-ext {p} {q} h (c ∷ cs) = ap (λ (z : Bool). counted z c ∷ counted_by p cs) (h c) ∙ ap (λ (es : List Column). counted (q c) c ∷ es) (counted-ext h cs)

-- those that one choice takes are those that a second takes too and those that it does not, but for columns with no row
rows-sum : (f : Column → ℕ) (cs : List Column) → sum_of f (with_rows cs) ≡ sum_of (λ c. pick (has_rows c) (f c) 0) cs
unfolding with_rows sum_of
rows-sum f [] = refl
rows-sum f (c ∷ cs) =
    elim (cases (has_rows c)) [
      | inl e ↦ rw e (ap (λ (n : ℕ). f c + n) (rows-sum f cs))
      | inr e ↦ rw e (omega (arith, rows-sum f cs))
    ]

pub rows-bag : (cs ds : List Column) → Bag cs ds → Bag (with_rows cs) (with_rows ds)
rows-bag cs ds b f = rows-sum f cs ∙ b (λ c. pick (has_rows c) (f c) 0) ∙ sym (rows-sum f ds)

pub counted-splits : (p q : Column → Bool) (cs : List Column) →
    Bag (with_rows (counted_by p cs)) (with_rows (counted_by (λ c. p c && q c) cs ++ counted_by (λ c. p c && not (q c)) cs))
counted-splits p q cs f =
    let g : Column → ℕ = λ c. pick (has_rows c) (f c) 0 in
    let P : Column → ℕ = λ c. g (counted (p c) c) in
    let A : Column → ℕ = λ c. g (counted (p c && q c) c) in
    let B : Column → ℕ = λ c. g (counted (p c && not (q c)) c) in
    let S : List Column = counted_by (λ c. p c && q c) cs in
    let L : List Column = counted_by (λ c. p c && not (q c)) cs in
    let e : sum_of f (with_rows (counted_by p cs)) ≡ sum_of P cs = rows-sum f (counted_by p cs) ∙ counted-sum p g cs in
    let s : sum_of g S ≡ sum_of A cs = counted-sum (λ c. p c && q c) g cs in
    let l : sum_of g L ≡ sum_of B cs = counted-sum (λ c. p c && not (q c)) g cs in
    let h : sum_of P cs ≡ sum_of (λ c. A c + B c) cs = sum-ext P (λ c. A c + B c) cs (λ c m. halves c (p c) (q c)) in
    omega (arith, e, s, l, h, sum-plus A B cs, rows-sum f (S ++ L), sum-append g S L)
  where
    halves : (c : Column) (y z : Bool) → pick (has_rows (counted y c)) (f (counted y c)) 0 ≡
        pick (has_rows (counted (y && z) c)) (f (counted (y && z) c)) 0 + pick (has_rows (counted (y && not z) c)) (f (counted (y && not z) c)) 0
    halves c true true = omega arith
    halves c true false = omega arith
    halves c false z = omega arith

-- ---- the columns that count

module _ (r : Register) where
  -- each has its position
  pub live-length : (cs : List Column) → length (live_of r cs) ≡ length cs
  unfolding live_of
  live-length = counted-length (in_window r.clock)

  pub live-nil : live_of r [] ≡ []
  unfolding live_of counted_by
  live-nil = refl

  pub live-append : (cs ds : List Column) → live_of r (cs ++ ds) ≡ live_of r cs ++ live_of r ds
  unfolding live_of
  live-append = counted-append (in_window r.clock)

  -- the order of columns does not matter
  pub live-bag : (cs ds : List Column) → Bag cs ds → Bag (live_of r cs) (live_of r ds)
  unfolding live_of
  live-bag = counted-bag (in_window r.clock)

  pub live-fits : (m : ℕ) (cs : List Column) → all (fits_rows m) cs ≡ true → all (fits_rows m) (live_of r cs) ≡ true
  unfolding live_of
  live-fits = counted-fits (in_window r.clock)

  -- what else is booked does not matter
  pub live-added : (ws cs : List Column) → live_of (added r ws) cs ≡ live_of r cs
  unfolding live_of
  live-added ws cs = refl

  pub live-removed : (is : List ℕ) (cs : List Column) → live_of (removed r is) cs ≡ live_of r cs
  unfolding live_of
  live-removed is cs = refl

  -- a column counts by its own window
  pub live-is : (cs : List Column) → live_of r cs ≡ counted_by (in_window r.clock) cs
  unfolding live_of
  live-is cs = refl

module _ (r : Register) where
  -- the columns that count after an addition: those before it, and the batch's
  pub live-adding : (ws : List Column) → live (added r ws) ≡ live r ++ live_of (added r ws) ws
  live-adding ws =
      live-append (added r ws) r.columns ws ∙ ap (λ (cs : List Column). cs ++ live_of (added r ws) ws) (live-added r ws r.columns)

  -- the columns that count before a removal: those after it, and the batch's
  pub live-removing : (is : List ℕ) (ws : List Column) → Bag r.columns (without is r.columns ++ ws) → Bag (live r) (live (removed r is) ++ live_of r ws)
  live-removing is ws b =
      let R : List Column = without is r.columns in
      let e : live_of r (R ++ ws) ≡ live (removed r is) ++ live_of r ws =
      live-append r R ws ∙ ap (λ (cs : List Column). cs ++ live_of r ws) (sym (live-removed r is R)) in
      subst (λ (cs : List Column). Bag (live r) cs) e (live-bag r r.columns (R ++ ws) b)

  -- the columns that count before a clock change: those that count at both minutes and those that leave
  pub live-leaving : (t : ℕ) → Bag (with_rows (live r)) (with_rows (counted_by (at_both r.clock t) r.columns ++ counted_by (only_at r.clock t) r.columns))
  unfolding live_of
  live-leaving t = counted-splits (in_window r.clock) (in_window t) r.columns

  -- those after it: those that count at both and those that enter
  pub live-entering : (t : ℕ) →
      Bag (with_rows (live (clocked r t))) (with_rows (counted_by (at_both r.clock t) r.columns ++ counted_by (only_at t r.clock) r.columns))
  unfolding live_of
  live-entering t =
      subst (λ (cs : List Column). Bag (with_rows (live (clocked r t))) (with_rows (cs ++ counted_by (only_at t r.clock) r.columns)))
      (counted-ext (λ c. and-swap (in_window t c) (in_window r.clock c)) r.columns) (counted-splits (in_window t) (in_window r.clock) r.columns)

-- by equal clocks
pub live_same : (r s : Register) → r.clock ≡ s.clock → (cs : List Column) → live_of r cs ≡ live_of s cs
unfolding live_of
live_same r s e cs = ap (λ (t : ℕ). counted_by (in_window t) cs) e

pub live-order : (r s : Register) → r.clock ≡ s.clock → Bag r.columns s.columns → Bag (live r) (live s)
live-order r s e b = subst (λ (cs : List Column). Bag (live r) cs) (live_same r s e s.columns) (live-bag r r.columns s.columns b)
