-- What a column is given is what the definition gives it (given_is): the rows of its children but their first, counted where the children's chains were
-- verified, the rows of the book columns that start there, and 1 on the diagonal. Before that: the columns that count and start at a row,
-- as a count over the ids of the book (starting-count): one inside its window has its rows, one outside has none and starts nowhere. Assumes nothing.
use mathlib.Core.Path.{◌≡◌, refl, sym, ap, subst, ◌∙◌}
use mathlib.Core.Logic.{inl, inr, ◌≢◌, ◌↔◌}
use mathlib.Core.Bool.{Bool, true, false, ◌&&◌, not}
use mathlib.Core.List.{List, [], ◌∷◌, ◌++◌}
use Prim.Native.Nat.{ℕ, zero, suc, ◌+◌, ◌-◌, ◌≤◌, ◌<◌}
use native.Mathlib.Omega.{arith}
use lib.Dec.{leb, eqb}
use lib.ListN.{length, get_or, take, replicate, length-replicate, get_or-replicate}
use lib.Seq.{ext_get_or}
use borrow.Author.Tests.{lt-ltb, le-ltb, eq-eqb, ne_eqb}
use Rattle.lists.specs.Lists.{Mem, later, pick, one, among, sum_of, count, at, times, rises, values_at}
use Rattle.lists.proofs.Tests.{cases, eq-or-ne, lt-or-le, zero-or-pos, and_both, and-false}
use Rattle.lists.proofs.Count.{count-ext, count-shift}
use Rattle.lists.proofs.Times.{times-nil, times-self, times-other, times-cons, times-append, mem-times, times-mem, among_none, among-some, UpTo}
use Rattle.lists.proofs.Rising.{rises-in, rises-first, rises-high}
use Rattle.symbolic.specs.Columns.{Column, smallest, holds, starting_with, in_window, counted, counted_by, live}
use Rattle.symbolic.specs.Factor.{FactorColumn, factor_of, column_at, multiplicity, parent_of, pattern_of, children_with, count_for}
use Rattle.symbolic.specs.Definition.{child_with}
use Rattle.symbolic.proofs.Build.{factor-length, count-is, counts-length, children-count}
use Rattle.symbolic.proofs.Patterns.{pattern-holds, pattern-parts}
use Rattle.symbolic.proofs.Columns.{starts-sum}
use Rattle.symbolic.proofs.Live.{counted-sum, live-is}
use Rattle.pool.specs.Chains.{chain}
use Rattle.pool.proofs.Chains.{chain-nil, linked-step}
use Rattle.pool.proofs.Whole.{pool-linked}
use Rattle.book.specs.Book.{Book, is_booked, column_for, columns_from, columns_in}
use Rattle.book.specs.Tally.{tallied}
use Rattle.book.proofs.Columns.{columns-nil, columns-booked, columns-absent, absent-zero}
use Rattle.book.proofs.Sound.{Sound, fitting}
use Rattle.book.proofs.Tally.{tallied-length, tallied-cell}
use Rattle.windows.specs.Windows.{counts_at}
use Rattle.windows.specs.Windowed.{lines_in, register_in}
use Rattle.windows.proofs.Windowed.{windowed-sum}
use Rattle.counting.specs.Counting.{numbered, gathered, start_in, start_at}
use Rattle.counting.proofs.Numbers.{numbered-in, gathered-up, gathered-zero, gathered-count}

-- ---- rising rows stand once

among-other : (x y : ℕ) (ys : List ℕ) → x ≢ y → among x (y ∷ ys) ≡ among x ys
unfolding among
among-other x y ys e = rw (ne_eqb x y e) refl

pub rises-once : (a b : ℕ) (xs : List ℕ) → rises a b xs ≡ true → (x : ℕ) → times x xs ≡ one (among x xs)
unfolding rises
rises-once a b [] h x = times-nil x ∙ sym (ap one (among_none x [] (times-nil x)))
rises-once a b (y ∷ ys) h x =
    let t : ((leb a y && leb y b) ≡ true) × (rises (suc y) b ys ≡ true) = and_both (leb a y && leb y b) (rises (suc y) b ys) h in
    elim (eq-or-ne x y) [
      | inl e ↦
          let none : times x ys ≡ 0 =
          elim (zero-or-pos (times x ys)) [ inl z ↦ z | inr p ↦ absurd (omega (arith, rises-in (suc y) b (times-mem x ys p) t.1)) ] in
          let here : times x (y ∷ ys) ≡ 1 + times x ys = subst (λ (z : ℕ). times x (z ∷ ys) ≡ 1 + times x ys) e (times-self x ys) in
          omega (arith, ap one (among-some x (y ∷ ys) (omega arith)))
      | inr e ↦ times-other x y ys e ∙ rises-once (suc y) b ys t.1 x ∙ ap one (sym (among-other x y ys e))
    ]

pub rises-up : (m : ℕ) (xs : List ℕ) → rises 1 m xs ≡ true → UpTo m xs
rises-up m xs h x n = rises-in 1 m (times-mem x xs n) h

-- ---- a book column

module _ {m : ℕ} {b : Book} (s : Sound m b) where
  -- its rows rise; those of an id that is not booked are none
  pub rows-rise : (i : ℕ) → 1 ≤ i → rises 1 m (column_for b i).rows ≡ true
  unfolding values_at rises
  rows-rise i p =
      elim (cases (is_booked b.heads i)) [
        | inl e ↦ (fitting m (column_for b i) (s.fits i p e)).rise
        | inr e ↦ rw (absent-zero b.heads i e, chain-nil (length b.next) b.next) refl
      ]

  pub rows_few : (i : ℕ) → 1 ≤ i → length (column_for b i).rows ≤ 256
  unfolding values_at
  rows_few i p =
      elim (cases (is_booked b.heads i)) [
        | inl e ↦ (fitting m (column_for b i) (s.fits i p e)).few
        | inr e ↦ rw (absent-zero b.heads i e, chain-nil (length b.next) b.next) (omega arith)
      ]

  pub head_in : (i : ℕ) → 1 ≤ i → i ≤ length b.heads → at b.heads i ≤ length b.next
  head_in i p q =
      elim (eq-or-ne (at b.heads i) 0) [
        | inl e ↦ omega arith
        | inr e ↦ (linked-step b.next (at b.heads i) (chain b.next (at b.heads i)) e (pool-linked s.pool i p q)).high
      ]

  start-high : (i : ℕ) → 1 ≤ i → start_in b i ≤ m
  start-high i p = rises-high 1 m (column_for b i).rows (rows-rise i p) 0

  pub start-in : (windows : List ℕ) (clock i : ℕ) → 1 ≤ i → start_at b windows clock i ≤ m
  start-in windows clock i p = picked (counts_at windows (length b.heads) clock i) (start-high i p)
    where
      picked : {v : ℕ} (z : Bool) → v ≤ m → pick z v 0 ≤ m
      picked true h = h
      picked false h = omega arith

-- the row where an id starts is its smallest
start-inside : (b : Book) (windows : List ℕ) (clock i j : ℕ) → 1 ≤ j → start_at b windows clock i ≡ j → start_in b i ≡ j
start-inside b windows clock i j low = picked (start_in b i) (counts_at windows (length b.heads) clock i)
  where
    picked : (v : ℕ) (z : Bool) → pick z v 0 ≡ j → v ≡ j
    picked v true e = e
    picked v false e = absurd (omega arith)

-- ---- the columns that start at a row, over the ids

-- a column with its rows, or with none, starts at j and holds x exactly if its start, or 0, is j and it holds x
counted_start : (rows : List ℕ) (j x : ℕ) → 1 ≤ j → (z : Bool) → (eqb (get_or (pick z rows []) 0 0) j && among x (pick z rows [])) ≡ (eqb (pick z (get_or rows 0 0) 0) j && among x rows)
counted_start rows j x low true = refl
counted_start rows j x low false = rw (ne_eqb 0 j (λ z. omega arith)) refl

module _ (b : Book) (windows : List ℕ) (clock : ℕ) (j x : ℕ) (low : 1 ≤ j) where
  -- whether an id counts, starts at j and holds x
  abbrev starts_with : (id : ℕ) → Bool
  starts_with i = eqb (start_at b windows clock i) j && holds (column_for b i) x

  -- a column as the window of its id leaves it
  abbrev as_counted : Column → Column
  as_counted c = counted (counts_at windows (length b.heads) clock c.id) c

  -- one if it starts at j and holds x
  abbrev starts_of : Column → ℕ
  starts_of c = one (eqb (smallest (as_counted c)) j && holds (as_counted c) x)

  absent-not : (i : ℕ) → is_booked b.heads i ≡ false → starts_with i ≡ false
  unfolding values_at among
  absent-not i e =
      rw (absent-zero b.heads i e, chain-nil (length b.next) b.next) (and-false (eqb (pick (counts_at windows (length b.heads) clock i) 0 0) j))

  booked-starts : (i : ℕ) → starts_of (column_for b i) ≡ one (starts_with i)
  booked-starts i = ap one (counted_start (column_for b i).rows j x low (counts_at windows (length b.heads) clock i))

  starting-from : (n i : ℕ) → sum_of starts_of (columns_from b (suc i) n) ≡ count (λ k. starts_with (i + k)) n
  unfolding sum_of count
  starting-from zero i = rw (columns-nil b (suc i)) refl
  starting-from (suc n) i =
      let f : ℕ → Bool = λ k. starts_with (i + k) in
      let one_more : i + 1 ≡ suc i = omega arith in
      let here : f 1 ≡ starts_with (suc i) = ap starts_with one_more in
      let rest : sum_of starts_of (columns_from b (suc (suc i)) n) ≡ count (λ k. f (suc k)) n =
      starting-from n (suc i) ∙ count-ext (λ k. starts_with (suc i + k)) (λ k. f (suc k)) n (λ k p q. (let e : suc i + k ≡ i + suc k = omega arith in ap starts_with e)) in
      let both : count f (suc n) ≡ one (f 1) + count (λ k. f (suc k)) n = count-shift f n in
      elim (cases (is_booked b.heads (suc i))) [
        | inl e ↦ ap (sum_of starts_of) (columns-booked b (suc i) n e) ∙ omega (arith, rest, both, ap one here, booked-starts (suc i))
        | inr e ↦ ap (sum_of starts_of) (columns-absent b (suc i) n e) ∙ omega (arith, rest, both, ap one here, ap one (absent-not (suc i) e))
      ]

  -- the live columns that start at j and hold x, counted over the ids
  pub starting-count : (m : ℕ) → starting_with j x (live (register_in m clock b windows)) ≡ count starts_with (length b.heads)
  starting-count m =
      ap (starting_with j x) (live-is (register_in m clock b windows) (lines_in b windows)) ∙ starts-sum j x (counted_by (in_window clock) (lines_in b windows)) ∙
      counted-sum (in_window clock) (λ c. one (eqb (smallest c) j && holds c x)) (lines_in b windows) ∙
      windowed-sum windows (length b.heads) (λ c. one (eqb (smallest (counted (in_window clock c) c)) j && holds (counted (in_window clock c) c) x)) (columns_in b) ∙
      starting-from (length b.heads) 0 ∙
      count-ext (λ k. starts_with (0 + k)) starts_with (length b.heads) (λ k p q. (let e : 0 + k ≡ k = omega arith in ap starts_with e))

-- ---- the local equation

-- column c was verified: its parent is the definition's, and its rows but the first are
pub record Verified (m : ℕ) (cs : List Column) (parent : ℕ → ℕ) (tail : ℕ → List ℕ) (c : ℕ) : Type 0 where
  pub parent_is : parent c ≡ parent_of (factor_of m cs) c
  pub rows_are : pattern_of (column_at (factor_of m cs) c) ≡ c ∷ tail c

module _ {m : ℕ} {b : Book} (s : Sound m b) (windows : List ℕ) (clock : ℕ) (parent : ℕ → ℕ) (tail : ℕ → List ℕ) (j : ℕ) (low : 1 ≤ j) (high : j ≤ m)
    (before : (c : ℕ) → 1 ≤ c → c < j → Verified m (live (register_in m clock b windows)) parent tail c) where
  abbrev cs : List Column
  cs = live (register_in m clock b windows)

  abbrev L : List FactorColumn
  L = factor_of m cs

  abbrev kids : List ℕ
  kids = gathered tail (numbered parent j (j - 1))

  abbrev cols : List ℕ
  cols = gathered (λ i. (column_for b i).rows) (numbered (start_at b windows clock) j (length b.heads))

  -- the rows of a child
  tail-parts : (c : ℕ) → 1 ≤ c → c < j → (rises (suc c) m (tail c) ≡ true) × (get_or (tail c) 0 0 ≡ parent_of L c)
  tail-parts c p q =
      let t : (rest : List ℕ) × (pattern_of (column_at L c) ≡ c ∷ rest) × (rises (suc c) m rest ≡ true) × (get_or rest 0 0 ≡ parent_of L c) = pattern-parts m cs c p (omega arith) in
      let v : Verified m cs parent tail c = before c p q in
      let u : c ∷ tail c ≡ c ∷ t.0 = sym v.rows_are ∙ t.1 in
      let e : tail c ≡ t.0 = cc in
      (rw e t.2, rw e t.3)

  tail-low : (c x : ℕ) → 1 ≤ c → c < j → parent c ≡ j → 1 ≤ times x (tail c) → j ≤ x
  tail-low c x p q e n = go (tail c) (tail-parts c p q).0 (tail-parts c p q).1 (times-mem x (tail c) n)
    where
      go : (ys : List ℕ) → rises (suc c) m ys ≡ true → get_or ys 0 0 ≡ parent_of L c → Mem x ys → j ≤ x
      go [] h k l = elim l [ ]
      go (y ∷ ys) h k l = omega (arith, rises-first (suc c) m l h, k, (before c p q).parent_is, e)

  tail-up : (c : ℕ) → 1 ≤ c → c < j → UpTo m (tail c)
  tail-up c p q x n = let t : (suc c ≤ x) × (x ≤ m) = rises-in (suc c) m (times-mem x (tail c) n) (tail-parts c p q).0 in omega arith

  -- a row at or above j stands in a child's tail exactly if its multiplicity is not 0
  tail-times : (x c : ℕ) → j ≤ x → x ≤ m → 1 ≤ c → c < j → times x (tail c) ≡ one (not (eqb (multiplicity L x c) 0))
  tail-times x c p q a h =
      let holds-iff : Mem x (pattern_of (column_at L c)) ↔ (0 < multiplicity L x c) = pattern-holds m cs c a (omega arith) x (omega arith) q in
      let v : pattern_of (column_at L c) ≡ c ∷ tail c = (before c a h).rows_are in
      let skip : times x (c ∷ tail c) ≡ times x (tail c) = times-other x c (tail c) (omega arith) in
      elim (zero-or-pos (multiplicity L x c)) [
        | inl z ↦
            let none : times x (tail c) ≡ 0 =
            elim (zero-or-pos (times x (tail c))) [
              | inl y ↦ y
              | inr y ↦ absurd (omega (arith, holds-iff.0 (subst (λ (l : List ℕ). Mem x l) (sym v) (later (times-mem x (tail c) y)))))
            ] in
            rw (eq-eqb (multiplicity L x c) 0 z) none
        | inr z ↦
            let some : 1 ≤ times x (tail c) = omega (arith, skip, mem-times (subst (λ (l : List ℕ). Mem x l) v (holds-iff.1 z))) in
            let once : times x (tail c) ≡ one (among x (tail c)) = rises-once (suc c) m (tail c) (tail-parts c a h).0 x in
            rw (ne_eqb (multiplicity L x c) 0 (omega arith)) (omega (arith, once, ap one (among-some x (tail c) some)))
      ]

  kids-up : UpTo m kids
  kids-up = gathered-up m tail (numbered parent j (j - 1)) (λ c n. (let t : (1 ≤ c) × (c ≤ j - 1) × (parent c ≡ j) = numbered-in parent j (j - 1) c n in tail-up c t.0 (omega arith)))

  cols-up : UpTo m cols
  cols-up =
      gathered-up m (λ i. (column_for b i).rows) (numbered (start_at b windows clock) j (length b.heads))
      (λ i n. rises-up m (column_for b i).rows (rows-rise s i (numbered-in (start_at b windows clock) j (length b.heads) i n).0))

  kids-below : (x : ℕ) → x < j → times x kids ≡ 0
  kids-below x h =
      gathered-zero x tail (numbered parent j (j - 1)) (λ c n.
      (let t : (1 ≤ c) × (c ≤ j - 1) × (parent c ≡ j) = numbered-in parent j (j - 1) c n in
      elim (zero-or-pos (times x (tail c))) [ inl z ↦ z | inr z ↦ absurd (omega (arith, tail-low c x t.0 (omega arith) t.2 z)) ]))

  cols-below : (x : ℕ) → x < j → times x cols ≡ 0
  cols-below x h =
      gathered-zero x (λ i. (column_for b i).rows) (numbered (start_at b windows clock) j (length b.heads)) (λ i n.
      (let t : (1 ≤ i) × (i ≤ length b.heads) × (start_at b windows clock i ≡ j) = numbered-in (start_at b windows clock) j (length b.heads) i n in
      elim (zero-or-pos (times x (column_for b i).rows)) [
        | inl z ↦ z
        | inr z ↦ absurd (omega (arith, least (column_for b i).rows (rows-rise s i t.0) (times-mem x (column_for b i).rows z), start-inside b windows clock i j low t.2))
      ]))
    where
      least : {x : ℕ} (xs : List ℕ) → rises 1 m xs ≡ true → Mem x xs → get_or xs 0 0 ≤ x
      least [] h l = elim l [ ]
      least (y ∷ ys) h l = rises-first 1 m l h

  kids-count : (x : ℕ) → j ≤ x → x ≤ m → times x kids ≡ children_with j x (take (j - 1) L)
  kids-count x p q =
      gathered-count tail parent (λ c. not (eqb (multiplicity L x c) 0)) j x (j - 1) (λ c a h e. tail-times x c p q a (omega arith)) ∙
      count-ext (λ c. eqb (parent c) j && not (eqb (multiplicity L x c) 0)) (child_with (multiplicity L) (parent_of L) j x) (j - 1)
      (λ c a h. ap (λ (z : ℕ). eqb z j && not (eqb (multiplicity L x c) 0)) (before c a (omega arith)).parent_is) ∙
      sym (children-count L j x (j - 1) (omega (arith, factor-length m cs)))

  cols-count : (x : ℕ) → times x cols ≡ starting_with j x cs
  cols-count x =
      gathered-count (λ i. (column_for b i).rows) (start_at b windows clock) (λ i. holds (column_for b i) x) j x (length b.heads)
      (λ i a h e. rises-once 1 m (column_for b i).rows (rows-rise s i a) x) ∙ sym (starting-count b windows clock j x low m)

  one-times : (x : ℕ) → times x (j ∷ []) ≡ one (eqb x j)
  one-times x =
      elim (eq-or-ne x j) [
        | inl e ↦ rw (eq-eqb x j e) (subst (λ (z : ℕ). times x (z ∷ []) ≡ 1) e (omega (arith, times-self x [], times-nil x)))
        | inr e ↦ rw (ne_eqb x j e) (times-other x j [] e ∙ times-nil x)
      ]

  all-times : (x : ℕ) → times x (j ∷ (kids ++ cols)) ≡ times x (j ∷ []) + (times x kids + times x cols)
  all-times x = omega (arith, times-cons x j (kids ++ cols), times-append x kids cols)

  pub given-up : UpTo m (j ∷ (kids ++ cols))
  given-up x n =
      elim (zero-or-pos (times x kids)) [
        | inr p ↦ kids-up x p
        | inl p ↦ elim (zero-or-pos (times x cols)) [
          | inr q ↦ cols-up x q
          | inl q ↦ elim (eq-or-ne x j) [
            | inl e ↦ omega arith
            | inr e ↦ absurd (omega (arith, all-times x, times-other x j [] e, times-nil x))
          ]
        ]
      ]

  given-at : (x : ℕ) → 1 ≤ x → x ≤ m → times x (j ∷ (kids ++ cols)) ≡ multiplicity L x j
  given-at x p q =
      elim (lt-or-le x j) [
        | inl h ↦
            let z : count_for cs (take (j - 1) L) j x ≡ 0 = rw (lt-ltb x j h) refl in
            omega (arith, all-times x, kids-below x h, cols-below x h, one-times x, ap one (ne_eqb x j (omega arith)), count-is m cs x j p q low high, z)
        | inr h ↦
            let z : count_for cs (take (j - 1) L) j x ≡ children_with j x (take (j - 1) L) + starting_with j x cs + one (eqb x j) = rw (le-ltb x j h) refl in
            omega (arith, all-times x, kids-count x h q, cols-count x, one-times x, count-is m cs x j p q low high, z)
      ]

  -- counted from nothing, the rows give the definition's multiplicities
  pub given_is : tallied (replicate m 0) (j ∷ (kids ++ cols)) ≡ (column_at L j).counts
  given_is =
      ext_get_or 0 (tallied (replicate m 0) (j ∷ (kids ++ cols))) (column_at L j).counts (long ∙ sym (counts-length m cs j low high))
      (λ k h.
      (let l : k < m = omega (arith, long) in
      let q : suc k - 1 ≡ k = omega arith in
      let z : get_or (replicate m 0) k 0 ≡ 0 = get_or-replicate {A = ℕ} m k 0 0 l in
      let t : get_or (tallied (replicate m 0) (j ∷ (kids ++ cols))) k 0 ≡ get_or (replicate m 0) k 0 + times (suc k) (j ∷ (kids ++ cols)) =
      tallied-cell m (replicate m 0) (j ∷ (kids ++ cols)) k given-up (omega (arith, length-replicate {A = ℕ} m 0)) in
      let u : times (suc k) (j ∷ (kids ++ cols)) ≡ get_or (column_at L j).counts (suc k - 1) 0 = given-at (suc k) (omega arith) l in
      omega (arith, t, z, u, ap (λ (i : ℕ). get_or (column_at L j).counts i 0) q)))
    where
      long : length (tallied (replicate m 0) (j ∷ (kids ++ cols))) ≡ m
      long = tallied-length (replicate m 0) (j ∷ (kids ++ cols)) ∙ length-replicate {A = ℕ} m 0
