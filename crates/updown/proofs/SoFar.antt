-- The multiplicities so far of column j in its turn: the old ones at the start; a batch column (A), a kept child (B), a gained one (C), a lost one (D)
-- handled; the definition's after D. They are those of symbolic's StepsAt (`counted-anew`), whose laws `update-steps-at` and `downdate-steps-at` give each step.
-- Differences stay small (`so-far-steady`). The statements of specs/SoFar.antt. Assumes nothing.
use mathlib.Core.Path.{◌≡◌, refl, sym, ap, ◌∙◌}
use mathlib.Core.Logic.{◌⊎◌, inl, inr, ◌≢◌}
use mathlib.Core.Bool.{Bool, true, false, ◌&&◌, ◌||◌, not}
use mathlib.Core.List.{List, [], ◌∷◌, ◌++◌, append-nil}
use Prim.Native.Nat.{ℕ, ◌+◌, ◌≤◌, ◌<◌}
use native.Mathlib.Omega.{arith}
use native.Mathlib.Numerals.{add-one}
use lib.Dec.{eqb}
use lib.ListN.{length, get_or, take, drop, length-append, length-take, length-drop, take-append-drop, drop_of_length-le}
use lib.Seq.{take_all, take-suc, drop-cons}
use borrow.Author.Tests.{eqb-true, eq-eqb, ne_eqb}
use Rattle.lists.specs.Lists.{pick, one, count}
use Rattle.lists.proofs.Tests.{eq-or-ne, lt-or-le, one-le, and_both, both-and, or_left, or_right, refute, and-false, or-false, and-not}
use Rattle.lists.proofs.Count.{count-ext, count-le, count-sub, count-split}
use Rattle.symbolic.specs.Columns.{Column, smallest, holds, starting_with}
use Rattle.symbolic.specs.Factor.{FactorColumn, factor_of, multiplicity, parent_of}
use Rattle.symbolic.specs.Definition.{child_with}
use Rattle.symbolic.specs.Batch.{is_touched}
use Rattle.symbolic.specs.Steps.{child_so_far, count_so_far, StepsAt}
use Rattle.symbolic.proofs.Laws.{diagonal-in}
use Rattle.symbolic.proofs.Build.{laws}
use Rattle.symbolic.proofs.Columns.{starts-append, starts-le}
use Rattle.symbolic.proofs.Order.{count-bound}
use Rattle.symbolic.proofs.Steps.{is_new, child-kept-adding, child-gained, child-lost}
use Rattle.symbolic.proofs.Two.{child-same}
use Rattle.symbolic.proofs.Locality as local
use Rattle.symbolic.proofs.Locality.{multiplicity-stays, update-steps-at, downdate-steps-at}
use Rattle.differences.specs.Tally.{base, difference_at, Tally}
use Rattle.updown.proofs.Brought.{Steady, Bumps}
use Rattle.updown.proofs.Directions.{CountedAt, counted-at, counted-both, counted_none, counted-more, counted-with, counted-without}
use Rattle.updown.specs.Turns.{larger, smaller, before, after, tree_parent, other_parent}
use Rattle.updown.specs.SoFar.{nobody, also, children, lost, family, children_count, multiplicity_so_far, SoFar, IsDefinition, CountedWithin, CountedAnew, NoneHandled, AllHandled, UntouchedSame, GainedFromNowhere}

-- ---- rows of a column

-- the rows of a column but its own lie at or above its parent
above_parent : (m : ℕ) (cs : List Column) (c j : ℕ) → 1 ≤ c → c ≤ m → parent_of (factor_of m cs) c ≡ j → (i : ℕ) → 1 ≤ i → i < j →
    (not (eqb (multiplicity (factor_of m cs) i c) 0) && not (eqb i c)) ≡ false
above_parent m cs c j p q u i x z =
    elim (eq-or-ne i c) [
      | inl n ↦ rw (eq-eqb i c n) (and-false (not (eqb (multiplicity (factor_of m cs) i c) 0)))
      | inr n ↦
          let e : multiplicity (factor_of m cs) i c ≡ 0 =
          elim (lt-or-le c i) [
            | inl g ↦ (laws m cs).parent-least i c p g (omega (arith, ((laws m cs).parent_in c p q (omega arith)).1)) (omega arith)
            | inr g ↦ (laws m cs).below i c x (omega arith) q
          ] in
          rw (eq-eqb (multiplicity (factor_of m cs) i c) 0 e) refl
    ]

-- an untouched child counts the same anew
pub untouched-same : UntouchedSame
untouched-same m R W true j c p q t i x y = child-same (laws m R) (laws m (R ++ W)) j i c x y (local.untouched-same m R W c p q t)
untouched-same m R W false j c p q t i x y = sym (child-same (laws m R) (laws m (R ++ W)) j i c x y (local.untouched-same m R W c p q t))

-- a child gained from nowhere is lost by nobody
pub gained-from-nowhere : GainedFromNowhere
gained-from-nowhere m R W c o j l =
    refute (lost m R W j c) (λ t. omega (
      arith,
      eqb-true (other_parent m R c) j
          (and_both (is_touched (larger m R W) W c && not (eqb (tree_parent m R W c) j)) (eqb (other_parent m R c) j) t).1,
    ))

-- ---- batch columns, by direction

module _ (R W : List Column) where
  -- the columns that are counted with the first k of the batch handled
  abbrev counting : (adding : Bool) (k : ℕ) → List Column
  counting z k = R ++ pick z (take k W) (drop k W)

  counting-none : (z : Bool) → counting z 0 ≡ pick z R (R ++ W)
  counting-none true = append-nil R
  counting-none false = refl

  counting-all : (z : Bool) (k : ℕ) → length W ≤ k → counting z k ≡ pick z (R ++ W) R
  counting-all true k l = ap (λ (x : List Column). R ++ x) (take_all k W l)
  counting-all false k l = ap (λ (x : List Column). R ++ x) (drop_of_length-le W l) ∙ append-nil R

  counting-few : (z : Bool) (k : ℕ) → length (counting z k) ≤ length R + length W
  counting-few true k = omega (arith, length-append R (take k W), length-take k W)
  counting-few false k = omega (arith, length-append R (drop k W), length-drop k W)

  -- the first k of the batch and the others
  batch-parts : (j i k : ℕ) → starting_with j i (R ++ W) ≡ starting_with j i R + starting_with j i (take k W) + starting_with j i (drop k W)
  batch-parts j i k = omega (arith, starts-append j i R W, starts-append j i (take k W) (drop k W), ap (starting_with j i) (take-append-drop k W))

  -- one batch column more
  column-more : (z : Bool) (j i : ℕ) (d : Column) (k : ℕ) → k < length W →
      CountedAt z (starting_with j i (counting z k)) (starting_with j i (counting z (k + 1))) (one (eqb (smallest (get_or W k d)) j && holds (get_or W k d) i))
  unfolding starting_with
  column-more true j i d k l = omega (
    arith,
    ap (λ (x : List Column). starting_with j i (R ++ x)) (ap (λ (x : ℕ). take x W) (add-one k) ∙ take-suc W k d l),
    starts-append j i R (take k W ++ (get_or W k d ∷ [])),
    starts-append j i (take k W) (get_or W k d ∷ []),
    starts-append j i R (take k W),
  )
  column-more false j i d k l = omega (
    arith,
    ap (starting_with j i) (drop-cons W k d l),
    ap (λ (x : ℕ). starting_with j i (drop x W)) (add-one k),
    starts-append j i R (drop k W),
    starts-append j i R (drop (k + 1) W),
  )

-- ---- what is handled counts anew, the rest as before

-- the handled children counted anew, the others as before: against all of them as before; and the handled ones are no more than all
split : (m j : ℕ) (H : ℕ → Bool) (i : ℕ) (L L' : List FactorColumn) →
    (count (child_so_far H (multiplicity L) (parent_of L) (multiplicity L') (parent_of L') j i) m + children_count m L H i j ≡
    count (child_with (multiplicity L) (parent_of L) j i) m + children_count m L' H i j) ×
    (children_count m L H i j ≤ count (child_with (multiplicity L) (parent_of L) j i) m)
split m j H i L L' = (
  count-split H (child_with (multiplicity L) (parent_of L) j i) (child_with (multiplicity L') (parent_of L') j i) m,
  count-sub (λ c. H c && child_with (multiplicity L) (parent_of L) j i c) (child_with (multiplicity L) (parent_of L) j i) m
      (λ c x y h. (and_both (H c) (child_with (multiplicity L) (parent_of L) j i c) h).1),
)

pub counted-within : CountedWithin
unfolding starting_with
counted-within m R W true j a b k H i p q = omega (arith, split m j H i (smaller m R) (larger m R W), (laws m R).counted i j a p q)
counted-within m R W false j a b k H i p q = omega (arith, split m j H i (larger m R W) (smaller m R), (laws m (R ++ W)).counted i j a p q, batch-parts R W j i k)

pub counted-anew : CountedAnew
unfolding starting_with
counted-anew m R W true j a b k H i p q = omega (arith, counted-within m R W true j a b k H i p q, split m j H i (smaller m R) (larger m R W), (laws m R).counted i j a p q, starts-append j i R (take k W))
counted-anew m R W false j a b k H i p q = omega (
  arith,
  counted-within m R W false j a b k H i p q,
  split m j H i (larger m R W) (smaller m R),
  (laws m (R ++ W)).counted i j a p q,
  batch-parts R W j i k,
  starts-append j i R (drop k W),
)

-- the laws of the steps, by direction
steps : (m : ℕ) (R W : List Column) (z : Bool) (i j : ℕ) → 1 ≤ j → j ≤ i → i ≤ m →
    StepsAt m (λ j i. starting_with j i (pick z R (R ++ W))) (multiplicity (before z m R W)) (parent_of (before z m R W))
    (λ j i. starting_with j i (pick z (R ++ W) R)) (multiplicity (after z m R W)) (parent_of (after z m R W)) (is_touched (larger m R W) W) i j
steps m R W true = update-steps-at m R W
steps m R W false = downdate-steps-at m R W

pub none-handled : NoneHandled
none-handled m R W adding j a b i p q =
    omega (arith, counted-anew m R W adding j a b 0 nobody i p q, ap (starting_with j i) (counting-none R W adding), (steps m R W adding i j a p q).start nobody (λ c x y. refl))

pub all-handled : AllHandled
all-handled m R W adding j a b i p q =
    omega (
      arith,
      counted-anew m R W adding j a b (length W) (family m R W j) i p q,
      ap (starting_with j i) (counting-all R W adding (length W) (omega arith)),
      (steps m R W adding i j a p q).end (family m R W j) (λ c x y touched side. handled c touched (sides adding c side)),
    )
  where
    sides : (z : Bool) (c : ℕ) → (parent_of (before z m R W) c ≡ j) ⊎ (parent_of (after z m R W) c ≡ j) → (tree_parent m R W c ≡ j) ⊎ (other_parent m R c ≡ j)
    sides true c s = elim s [ inl e ↦ inr e | inr e ↦ inl e ]
    sides false c s = s

    handled : (c : ℕ) → is_touched (larger m R W) W c ≡ true → (tree_parent m R W c ≡ j) ⊎ (other_parent m R c ≡ j) → family m R W j c ≡ true
    handled c t s = elim (eq-or-ne (tree_parent m R W c) j) [
      | inl u ↦ or_left (children m R W j c) (lost m R W j c) (both-and t (eq-eqb (tree_parent m R W c) j u))
      | inr u ↦ elim s [
        | inl e ↦ absurd (u e)
        | inr e ↦ or_right (children m R W j c) (lost m R W j c) (both-and (both-and t (ap not (ne_eqb (tree_parent m R W c) j u))) (eq-eqb (other_parent m R c) j e))
      ]
    ]

-- ---- the turn of j

module _ (m : ℕ) (R W : List Column) (adding : Bool) (j : ℕ) (a : 1 ≤ j) (b : j ≤ m) where
  -- without the batch and with it
  abbrev A : ℕ → ℕ → ℕ
  A = multiplicity (smaller m R)

  abbrev B : ℕ → ℕ → ℕ
  B = multiplicity (larger m R W)

  abbrev U : ℕ → ℕ
  U = tree_parent m R W

  abbrev O : ℕ → ℕ
  O = other_parent m R

  -- before the call and after it
  abbrev M : ℕ → ℕ → ℕ
  M = multiplicity (before adding m R W)

  abbrev P : ℕ → ℕ
  P = parent_of (before adding m R W)

  abbrev M' : ℕ → ℕ → ℕ
  M' = multiplicity (after adding m R W)

  abbrev P' : ℕ → ℕ
  P' = parent_of (after adding m R W)

  -- as symbolic has them: the columns counted that start at j and hold i, and with the children the multiplicity
  abbrev starting : (i k : ℕ) → ℕ
  starting i k = starting_with j i (counting R W adding k)

  abbrev mixed : (k : ℕ) (H : ℕ → Bool) (i : ℕ) → ℕ
  mixed k H i = count_so_far m H M P M' P' (starting i k) i j

  abbrev so-far-is : (k : ℕ) (H : ℕ → Bool) (i : ℕ) → j ≤ i → i ≤ m → multiplicity_so_far adding m R W k H i j ≡ mixed k H i
  so-far-is = counted-anew m R W adding j a b

  -- ---- what moves the multiplicities so far

  -- by nothing
  so-far-same : {work : List ℕ} {n k k' : ℕ} {H H' : ℕ → Bool} → SoFar m R W adding work n j k H → ((i : ℕ) → j ≤ i → i ≤ m → mixed k H i ≡ mixed k' H' i) →
      SoFar m R W adding work n j k' H'
  so-far-same {k = k} {k'} {H} {H'} t e =
      record {
        tally = t.tally;
        rows = λ i p q. t.rows i p q ∙ ap (λ (x : ℕ). base + x) (so-far-is k H i p q ∙ e i p q ∙ sym (so-far-is k' H' i p q));
        still = t.still;
      }

  -- by rows that pass a test, counted up or down
  so-far-move : {work work' : List ℕ} {n n' k k' : ℕ} {H H' : ℕ → Bool} (up : Bool) (r : ℕ → Bool) → SoFar m R W adding work n j k H → Bumps m work work' n' up r →
      ((i : ℕ) → 1 ≤ i → i < j → r i ≡ false) → ((i : ℕ) → j ≤ i → i ≤ m → CountedAt up (mixed k H i) (mixed k' H' i) (one (r i))) → SoFar m R W adding work' n' j k' H'
  so-far-move {work} {work'} {k = k} {k'} {H} {H'} up r t h z e =
      record {
        tally = h.tally;
        rows = λ i p q.
            counted-both up (M i j) (difference_at work i) (difference_at work' i) (mixed k H i) (mixed k' H' i) (one (r i))
            (counted-at up m (difference_at work) (difference_at work') r h.counts i (omega arith) q) (e i p q) (t.rows i p q ∙ ap (λ (x : ℕ). base + x) (so-far-is k H i p q)) ∙
            ap (λ (x : ℕ). base + x) (sym (so-far-is k' H' i p q));
        still = λ i p q. counted_none up (difference_at work i) (difference_at work' i) (one (r i))
            (counted-at up m (difference_at work) (difference_at work') r h.counts i p (omega arith)) (ap one (z i p q)) ∙ t.still i p q;
      }

  -- nothing handled
  pub so-far-start : {work : List ℕ} → Tally m work 0 (λ i. base) → SoFar m R W adding work 0 j 0 nobody
  so-far-start {work} t =
      record {
        tally = record { touched = t.touched; values = λ i p q. refl; buffer = t.buffer };
        rows = λ i p q. omega (arith, t.values i (omega arith) q, none-handled m R W adding j a b i p q);
        still = λ i p q. t.values i p (omega arith);
      }

  -- the same children
  pub so-far-ext : {work : List ℕ} {n k : ℕ} {H K : ℕ → Bool} → ((c : ℕ) → 1 ≤ c → c ≤ m → K c ≡ H c) → SoFar m R W adding work n j k H → SoFar m R W adding work n j k K
  so-far-ext {k = k} {H} {K} e t =
      so-far-same t (λ i p q. ap (λ (x : ℕ). x + starting i k + one (eqb i j))
      (count-ext (child_so_far H M P M' P' j i) (child_so_far K M P M' P' j i) m (λ c x y. ap (λ (z : Bool). pick z (child_with M' P' j i c) (child_with M P j i c)) (sym (e c x y)))))

  -- ---- A

  -- one that starts at j
  pub so-far-column : {work work' : List ℕ} {n n' k : ℕ} {H : ℕ → Bool} (d : Column) → k < length W → smallest (get_or W k d) ≡ j → ((i : ℕ) → i < j → holds (get_or W k d) i ≡ false) →
      SoFar m R W adding work n j k H → Bumps m work work' n' adding (holds (get_or W k d)) → SoFar m R W adding work' n' j (k + 1) H
  so-far-column {k = k} {H} d l s z t h =
      so-far-move adding (holds (get_or W k d)) t h (λ i x y. z i y) (λ i p q. counted-more adding (count (child_so_far H M P M' P' j i) m) (starting i k) (starting i (k + 1)) (one (eqb i j))
      (one (eqb (smallest (get_or W k d)) j && holds (get_or W k d) i)) (one (holds (get_or W k d) i))
      (column-more R W adding j i d k l) (ap (λ (v : Bool). one (v && holds (get_or W k d) i)) (eq-eqb (smallest (get_or W k d)) j s)))

  -- one that starts elsewhere
  pub so-far-past : {work : List ℕ} {n k : ℕ} {H : ℕ → Bool} (d : Column) → k < length W → smallest (get_or W k d) ≢ j → SoFar m R W adding work n j k H → SoFar m R W adding work n j (k + 1) H
  so-far-past {k = k} d l s t =
      so-far-same t (λ i p q.
      let e : starting i (k + 1) ≡ starting i k =
      counted_none adding (starting i k) (starting i (k + 1)) (one (eqb (smallest (get_or W k d)) j && holds (get_or W k d) i)) (column-more R W adding j i d k l)
      (ap (λ (v : Bool). one (v && holds (get_or W k d) i)) (ne_eqb (smallest (get_or W k d)) j s)) in
      omega arith)

  -- all of them
  pub so-far-all : {work : List ℕ} {n k : ℕ} {H : ℕ → Bool} → length W ≤ k → SoFar m R W adding work n j k H → SoFar m R W adding work n j (length W) H
  so-far-all {k = k} l t = so-far-same t (λ i p q. omega (arith, ap (starting_with j i) (counting-all R W adding k l), ap (starting_with j i) (counting-all R W adding (length W) (omega arith))))

  -- ---- B, C and D

  -- one child more
  step : (H : ℕ → Bool) (c k : ℕ) → 1 ≤ c → c ≤ m → H c ≡ false → (i : ℕ) → j ≤ i → i ≤ m →
      mixed k (also H c) i + pick adding (one (child_with A O j i c)) (one (child_with B U j i c)) ≡ mixed k H i + pick adding (one (child_with B U j i c)) (one (child_with A O j i c))
  step H c k p q fresh i x z =
      omega (
        arith,
        (steps m R W adding i j a x z).child H (also H c) c (starting i k) p q fresh (or_right (H c) (eqb c c) (eq-eqb c c refl)) (λ d e. sym (or-false (H d)) ∙ ap (λ (v : Bool). H d || v) (sym (ne_eqb d c e))),
        by adding (smaller m R) (larger m R W),
        by adding (larger m R W) (smaller m R),
      )
    where
      by : (z : Bool) (L L' : List FactorColumn) → one (child_with (multiplicity (pick z L L')) (parent_of (pick z L L')) j i c) ≡
          pick z (one (child_with (multiplicity L) (parent_of L) j i c)) (one (child_with (multiplicity L') (parent_of L') j i c))
      by true L L' = refl
      by false L L' = refl

  module _ {H : ℕ → Bool} (c : ℕ) (p : 1 ≤ c) (q : c ≤ m) (fresh : H c ≡ false) (l : c < j) {work work' : List ℕ} {n n' k : ℕ} (t : SoFar m R W adding work n j k H) where
    -- a child that counts for more with the batch
    so-far-with : (r : ℕ → Bool) → Bumps m work work' n' adding r → ((i : ℕ) → 1 ≤ i → i < j → r i ≡ false) →
        ((i : ℕ) → j ≤ i → i ≤ m → one (child_with B U j i c) ≡ one (child_with A O j i c) + one (r i)) → SoFar m R W adding work' n' j k (also H c)
    so-far-with r h z e =
        so-far-move adding r t h z (λ i x y. counted-with adding (mixed k H i) (mixed k (also H c) i) (one (child_with A O j i c)) (one (child_with B U j i c)) (one (r i)) (e i x y) (step H c k p q fresh i x y))

    -- B: kept
    pub so_far_kept : Bumps m work work' n' adding (λ i. is_new A B i c) → U c ≡ j → O c ≡ j → SoFar m R W adding work' n' j k (also H c)
    so_far_kept h u o =
        so-far-with (λ i. is_new A B i c) h low (λ i x z. child-kept-adding A O B U j i c (multiplicity-stays m R W i c (omega arith) z p q) o u)
      where
        low : (i : ℕ) → 1 ≤ i → i < j → is_new A B i c ≡ false
        low i x z =
            elim (lt-or-le c i) [
              | inl g ↦ rw ((laws m (R ++ W)).parent-least i c p g (omega arith) (omega arith)) (and-false (eqb (A i c) 0))
              | inr g ↦ elim (eq-or-ne i c) [
                | inr e ↦ rw ((laws m (R ++ W)).below i c x (omega arith) q) (and-false (eqb (A i c) 0))
                | inl e ↦ rw (e, ne_eqb (A c c) 0 (omega (arith, diagonal-in (laws m R) c p q))) refl
              ]
            ]

    -- C: gained
    pub so-far-gained : Bumps m work work' n' adding (λ i. not (eqb (B i c) 0) && not (eqb i c)) → U c ≡ j → O c ≢ j → SoFar m R W adding work' n' j k (also H c)
    so-far-gained h u o =
        so-far-with (λ i. not (eqb (B i c) 0) && not (eqb i c)) h (above_parent m (R ++ W) c j p q u)
        (λ i x z.
        let g : (one (child_with A O j i c) ≡ 0) × (one (child_with B U j i c) ≡ one (not (eqb (B i c) 0))) = child-gained A O B U j i c o u in
        omega (arith, g.0, g.1, ap one (and-not (not (eqb (B i c) 0)) (eqb i c) (ne_eqb i c (omega arith)))))

    -- D: lost
    pub so-far-lost : Bumps m work work' n' (not adding) (λ i. not (eqb (A i c) 0) && not (eqb i c)) → U c ≢ j → O c ≡ j → SoFar m R W adding work' n' j k (also H c)
    so-far-lost h u o =
        so-far-move (not adding) (λ i. not (eqb (A i c) 0) && not (eqb i c)) t h (above_parent m R c j p q o)
        (λ i x z.
        let g : (one (child_with A O j i c) ≡ one (not (eqb (A i c) 0))) × (one (child_with B U j i c) ≡ 0) = child-lost A O B U j i c o u in
        counted-without adding (mixed k H i) (mixed k (also H c) i) (one (child_with A O j i c)) (one (child_with B U j i c)) (one (not (eqb (A i c) 0) && not (eqb i c)))
        (omega (arith, g.0, g.1, ap one (and-not (not (eqb (A i c) 0)) (eqb i c) (ne_eqb i c (omega arith))))) (step H c k p q fresh i x z))

  -- after D: the definition's
  pub so-far-end : {work : List ℕ} {n : ℕ} → SoFar m R W adding work n j (length W) (family m R W j) → IsDefinition m R W adding work n j
  so-far-end t = record { tally = t.tally; rows = λ i p q. t.rows i p q ∙ ap (λ (x : ℕ). base + x) (all-handled m R W adding j a b i p q); still = t.still }

  -- the differences stay small
  pub so-far-steady : {work : List ℕ} {n k : ℕ} {H : ℕ → Bool} → SoFar m R W adding work n j k H → m ≤ 4096 → length R + length W ≤ 60000 → Steady m work n
  so-far-steady {work} {k = k} {H} t narrow few =
      record {
        tally = t.tally;
        ranges = λ i x y. elim (lt-or-le i j) [
          | inl l ↦ omega (arith, t.still i x l)
          | inr l ↦ omega (
            arith,
            t.rows i l y,
            so-far-is k H i l y,
            old-small adding i x y,
            starts-le j i (counting R W adding k),
            counting-few R W adding k,
            one-le (eqb i j),
            count-le (child_so_far H M P M' P' j i) m,
          )
        ];
      }
    where
      old-small : (z : Bool) (i : ℕ) → 1 ≤ i → i ≤ m → multiplicity (before z m R W) i j ≤ length R + length W + j
      old-small true i x y = omega (arith, count-bound m R i j x y a b)
      old-small false i x y = omega (arith, count-bound m (R ++ W) i j x y a b, length-append R W)
