-- Minutes written for ids: the table's length and the minutes of all other ids stay (`entered-others`, `left-others`); an id that entered has those of its position
-- (`entered_at`), one that left has none (`left-zero`); a batch's columns have theirs (`entered-batch`). Assumes nothing.
use mathlib.Core.Path.{◌≡◌, refl, sym, ap, ◌∙◌, subst}
use mathlib.Core.Logic.{inl, inr, ◌≢◌}
use mathlib.Core.Bool.{true, false, not, true≢false, false≢true}
use mathlib.Core.List.{List, [], ◌∷◌}
use Prim.Native.Nat.{ℕ, zero, suc, ◌+◌, ◌*◌, ◌≤◌, ◌<◌}
use native.Mathlib.Omega.{arith}
use lib.Dec.{eqb}
use lib.ListN.{length, get_or, drop}
use lib.Seq.{get_or-drop}
use borrow.Author.Tests.{eqb-true, eq-eqb, ne_eqb, not-true}
use Rattle.lists.specs.Lists.{at, put, among, no_repeats}
use Rattle.lists.proofs.Tests.{cases, eq-or-ne, and_both, or-either}
use Rattle.lists.proofs.Place.{put-length, at-put-same, at-put-other}
use Rattle.symbolic.specs.Columns.{Column, within, with_minutes}
use Rattle.symbolic.specs.Change.{ids_of}
use Rattle.windows.specs.Windowed.{windowed, put_minutes, entered, left, HasIds}

-- ---- the minutes of one id

-- an id has two minutes in a table, of n ids
abbrev pub Has : (windows : List ℕ) → (n id first second : ℕ) → Type 0
Has w n i a b = (at w i ≡ a) × (at w (n + i) ≡ b)

pub minutes-long : (w : List ℕ) (n i a b : ℕ) → length (put_minutes w n i a b) ≡ length w
minutes-long w n i a b = put-length (put w i a) (n + i) b ∙ put-length w i a

module _ (w : List ℕ) (n i a b : ℕ) (h : 1 ≤ i) (k : i ≤ n) where
  minutes-put : 2 * n ≤ length w → Has (put_minutes w n i a b) n i a b
  minutes-put g = (
    at-put-other (put w i a) (n + i) i b (omega arith) h (λ e. omega arith) ∙ at-put-same w i a h (omega arith),
    at-put-same (put w i a) (n + i) b (omega arith) (omega (arith, put-length w i a)),
  )

  minutes-other : (l : ℕ) → 1 ≤ l → l ≤ n → l ≢ i → Has (put_minutes w n i a b) n l (at w l) (at w (n + l))
  minutes-other l p q z = (
    at-put-other (put w i a) (n + i) l b (omega arith) p (λ e. omega arith) ∙ at-put-other w i l a h p z,
    at-put-other (put w i a) (n + i) (n + l) b (omega arith) (omega arith) (λ e. omega arith) ∙
        at-put-other w i (n + l) a h (omega arith) (λ e. omega arith),
  )

-- the ids after the first
has_rest : {w : List ℕ} {n i : ℕ} {is : List ℕ} (a b : ℕ) → HasIds w n (i ∷ is) → HasIds (put_minutes w n i a b) n is
has_rest {w} {n} {i} {is} a b h =
    record {
      few = h.few;
      long = omega (arith, h.long, minutes-long w n i a b);
      named = λ k l. h.named (suc k) (omega arith);
    }

-- an id that is neither the first nor among the others
apart-first : (l i : ℕ) (is : List ℕ) → among l (i ∷ is) ≡ false → (l ≢ i) × (among l is ≡ false)
unfolding among
apart-first l i is e =
    elim (eq-or-ne l i) [
      | inl z ↦ absurd (true≢false (sym (rw (eq-eqb l i z) refl) ∙ e))
      | inr z ↦ (z, rw (ne_eqb l i z) at e)
    ]

-- ---- ids that enter

pub entered-length : (w : List ℕ) (n : ℕ) (ids ps qs : List ℕ) → length (entered w n ids ps qs) ≡ length w
unfolding entered
entered-length w n [] ps qs = refl
entered-length w n (i ∷ is) ps qs =
    entered-length (put_minutes w n i (get_or ps 0 0) (get_or qs 0 0)) n is (drop 1 ps) (drop 1 qs) ∙ minutes-long w n i (get_or ps 0 0) (get_or qs 0 0)

pub entered-others : (w : List ℕ) (n : ℕ) (ids ps qs : List ℕ) → HasIds w n ids → (l : ℕ) → 1 ≤ l → l ≤ n → among l ids ≡ false →
    Has (entered w n ids ps qs) n l (at w l) (at w (n + l))
unfolding entered
entered-others w n [] ps qs h l p q e = (refl, refl)
entered-others w n (i ∷ is) ps qs h l p q e =
    let a : ℕ = get_or ps 0 0 in
    let b : ℕ = get_or qs 0 0 in
    let z : (l ≢ i) × (among l is ≡ false) = apart-first l i is e in
    let t : Has (entered (put_minutes w n i a b) n is (drop 1 ps) (drop 1 qs)) n l (at (put_minutes w n i a b) l) (at (put_minutes w n i a b) (n + l)) =
    entered-others (put_minutes w n i a b) n is (drop 1 ps) (drop 1 qs) (has_rest a b h) l p q z.1 in
    let g : (1 ≤ i) × (i ≤ n) = h.named 0 (omega arith) in
    let u : Has (put_minutes w n i a b) n l (at w l) (at w (n + l)) = minutes-other w n i a b g.0 g.1 l p q z.0 in
    (t.0 ∙ u.0, t.1 ∙ u.1)

-- the first of different ids has the first minutes
entered-first : (w : List ℕ) (n i : ℕ) (is ps qs : List ℕ) → no_repeats (i ∷ is) ≡ true → HasIds w n (i ∷ is) →
    Has (entered w n (i ∷ is) ps qs) n i (get_or ps 0 0) (get_or qs 0 0)
unfolding entered no_repeats
entered-first w n i is ps qs d h =
    let a : ℕ = get_or ps 0 0 in
    let b : ℕ = get_or qs 0 0 in
    let g : (1 ≤ i) × (i ≤ n) = h.named 0 (omega arith) in
    let z : among i is ≡ false = not-true (among i is) (and_both (not (among i is)) (no_repeats is) d).0 in
    let t : Has (entered (put_minutes w n i a b) n is (drop 1 ps) (drop 1 qs)) n i (at (put_minutes w n i a b) i) (at (put_minutes w n i a b) (n + i)) =
    entered-others (put_minutes w n i a b) n is (drop 1 ps) (drop 1 qs) (has_rest a b h) i g.0 g.1 z in
    let u : Has (put_minutes w n i a b) n i a b = minutes-put w n i a b g.0 g.1 h.long in
    (t.0 ∙ u.0, t.1 ∙ u.1)

rest-distinct : (i : ℕ) (is : List ℕ) → no_repeats (i ∷ is) ≡ true → no_repeats is ≡ true
unfolding no_repeats
rest-distinct i is d = (and_both (not (among i is)) (no_repeats is) d).1

-- each of different ids has the minutes of its position
pub entered_at : (w : List ℕ) (n : ℕ) (ids ps qs : List ℕ) → no_repeats ids ≡ true → HasIds w n ids → (k : ℕ) → k < length ids →
    Has (entered w n ids ps qs) n (get_or ids k 0) (get_or ps k 0) (get_or qs k 0)
unfolding entered
entered_at w n [] ps qs d h k l = absurd (omega arith)
entered_at w n (i ∷ is) ps qs d h zero l = entered-first w n i is ps qs d h
entered_at w n (i ∷ is) ps qs d h (suc k) l =
    let a : ℕ = get_or ps 0 0 in
    let b : ℕ = get_or qs 0 0 in
    let t : Has (entered (put_minutes w n i a b) n is (drop 1 ps) (drop 1 qs)) n (get_or is k 0) (get_or (drop 1 ps) k 0) (get_or (drop 1 qs) k 0) =
    entered_at (put_minutes w n i a b) n is (drop 1 ps) (drop 1 qs) (rest-distinct i is d) (has_rest a b h) k (omega arith) in
    let e : 1 + k ≡ suc k = omega arith in
    (t.0 ∙ get_or-drop 1 ps k 0 ∙ ap (λ (j : ℕ). get_or ps j 0) e, t.1 ∙ get_or-drop 1 qs k 0 ∙ ap (λ (j : ℕ). get_or qs j 0) e)

-- the columns of a batch have the minutes of their positions
batch-by : (w : List ℕ) (n : ℕ) (cs : List Column) (ps qs : List ℕ) → no_repeats (ids_of cs) ≡ true → HasIds w n (ids_of cs) →
    windowed (entered w n (ids_of cs) ps qs) n cs ≡ with_minutes ps qs cs
unfolding windowed with_minutes ids_of entered
batch-by w n [] ps qs d h = refl
batch-by w n (c ∷ cs) ps qs d h =
    let a : ℕ = get_or ps 0 0 in
    let b : ℕ = get_or qs 0 0 in
    let W : List ℕ = entered (put_minutes w n c.id a b) n (ids_of cs) (drop 1 ps) (drop 1 qs) in
    let t : Has W n c.id a b = entered-first w n c.id (ids_of cs) ps qs d h in
    ap (λ (x : ℕ). within x (at W (n + c.id)) c ∷ windowed W n cs) t.0 ∙ ap (λ (y : ℕ). within a y c ∷ windowed W n cs) t.1 ∙
    ap (λ (es : List Column). within a b c ∷ es)
    (batch-by (put_minutes w n c.id a b) n cs (drop 1 ps) (drop 1 qs) (rest-distinct c.id (ids_of cs) d) (has_rest a b h))

pub entered-batch : (w : List ℕ) (n : ℕ) (ids ps qs : List ℕ) (cs : List Column) → ids_of cs ≡ ids → no_repeats ids ≡ true → HasIds w n ids →
    windowed (entered w n ids ps qs) n cs ≡ with_minutes ps qs cs
entered-batch w n ids ps qs cs e d h =
    ap (λ (is : List ℕ). windowed (entered w n is ps qs) n cs) (sym e) ∙
    batch-by w n cs ps qs (subst (λ (is : List ℕ). no_repeats is ≡ true) (sym e) d) (subst (λ (is : List ℕ). HasIds w n is) (sym e) h)

-- ---- ids that leave

pub left-length : (w : List ℕ) (n : ℕ) (ids : List ℕ) → length (left w n ids) ≡ length w
unfolding left
left-length w n [] = refl
left-length w n (i ∷ is) = left-length (put_minutes w n i 0 0) n is ∙ minutes-long w n i 0 0

pub left-others : (w : List ℕ) (n : ℕ) (ids : List ℕ) → HasIds w n ids → (l : ℕ) → 1 ≤ l → l ≤ n → among l ids ≡ false →
    Has (left w n ids) n l (at w l) (at w (n + l))
unfolding left
left-others w n [] h l p q e = (refl, refl)
left-others w n (i ∷ is) h l p q e =
    let z : (l ≢ i) × (among l is ≡ false) = apart-first l i is e in
    let t : Has (left (put_minutes w n i 0 0) n is) n l (at (put_minutes w n i 0 0) l) (at (put_minutes w n i 0 0) (n + l)) =
    left-others (put_minutes w n i 0 0) n is (has_rest 0 0 h) l p q z.1 in
    let g : (1 ≤ i) × (i ≤ n) = h.named 0 (omega arith) in
    let u : Has (put_minutes w n i 0 0) n l (at w l) (at w (n + l)) = minutes-other w n i 0 0 g.0 g.1 l p q z.0 in
    (t.0 ∙ u.0, t.1 ∙ u.1)

pub left-zero : (w : List ℕ) (n : ℕ) (ids : List ℕ) → HasIds w n ids → (l : ℕ) → among l ids ≡ true → Has (left w n ids) n l 0 0
unfolding left among
left-zero w n [] h l e = absurd (false≢true e)
left-zero w n (i ∷ is) h l e =
    elim (cases (among l is)) [
      | inl z ↦ left-zero (put_minutes w n i 0 0) n is (has_rest 0 0 h) l z
      | inr z ↦
          let q : l ≡ i = eqb-true l i (elim (or-either (eqb l i) (among l is) e) [ inl y ↦ y | inr y ↦ absurd (true≢false (sym y ∙ z)) ]) in
          let g : (1 ≤ i) × (i ≤ n) = h.named 0 (omega arith) in
          let t : Has (left (put_minutes w n i 0 0) n is) n l (at (put_minutes w n i 0 0) l) (at (put_minutes w n i 0 0) (n + l)) =
          left-others (put_minutes w n i 0 0) n is (has_rest 0 0 h) l (omega arith) (omega arith) z in
          let u : Has (put_minutes w n i 0 0) n i 0 0 = minutes-put w n i 0 0 g.0 g.1 h.long in
          let v : Has (put_minutes w n i 0 0) n l 0 0 = subst (λ (j : ℕ). Has (put_minutes w n i 0 0) n j 0 0) (sym q) u in
          (t.0 ∙ v.0, t.1 ∙ v.1)
    ]
