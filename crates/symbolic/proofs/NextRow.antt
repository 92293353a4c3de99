-- The next row of a column. Of lists that keep step: the first of rising rows at or above a row, and the walk from row to row, which gives them all. Then of a
-- factor column: it is the definition's next row (`next-defined`), the diagonal or the parent, and a walk is given the column. Assumes nothing.
use mathlib.Core.Path.{◌≡◌, refl, sym, ap, ◌∙◌, subst}
use mathlib.Core.Logic.{◌⊎◌, ◌↔◌, inl, inr}
use mathlib.Core.Bool.{true, ◌&&◌}
use mathlib.Core.List.{List, [], ◌∷◌}
use Prim.Native.Nat.{ℕ, zero, suc, ◌+◌, ◌-◌, ◌≤◌, ◌<◌}
use native.Mathlib.Omega.{arith}
use lib.Dec.{leb, eqb}
use lib.ListN.{length, get_or}
use borrow.Author.Tests.{le-leb, lt-leb, leb-true, eq-eqb, ne_eqb}
use Rattle.lists.specs.Lists.{rises}
use Rattle.lists.proofs.Tests.{cases, eq-or-ne, lt-or-le, zero-or-pos, and_both}
use Rattle.symbolic.specs.Columns.{Column, starting_with}
use Rattle.symbolic.specs.Factor.{factor_of, column_at, multiplicity, parent_of, pattern_from, non_zero, pattern_of, multiplicities_of}
use Rattle.symbolic.specs.Definition.{IsFactor}
use Rattle.symbolic.specs.NextRow.{ColumnEntry, first_from, next_row, IsNext, column_entries, IsWalk}
use Rattle.symbolic.proofs.Two.{Agree, factor-agrees}
use Rattle.symbolic.proofs.Build.{laws, counts-length}
use Rattle.symbolic.proofs.Patterns.{pattern-within-rows, pattern-parts}

-- ---- lists that keep step

-- the head of a rising list, and the rest
record Rising (a b x : ℕ) (xs : List ℕ) : Type 0 where
  low : a ≤ x
  high : x ≤ b
  rest : rises (suc x) b xs ≡ true

rising : (a b x : ℕ) (xs : List ℕ) → rises a b (x ∷ xs) ≡ true → Rising a b x xs
unfolding rises
rising a b x xs h =
    let t : ((leb a x && leb x b) ≡ true) × (rises (suc x) b xs ≡ true) = and_both (leb a x && leb x b) (rises (suc x) b xs) h in
    let u : (leb a x ≡ true) × (leb x b ≡ true) = and_both (leb a x) (leb x b) t.0 in
    record { low = leb-true a x u.0; high = leb-true x b u.1; rest = t.1 }

-- a row at or above i comes first
first-here : (i x n : ℕ) (xs ns : List ℕ) → i ≤ x → first_from i (x ∷ xs) (n ∷ ns) ≡ record { row = x; count = n }
unfolding first_from
first-here i x n xs ns h = rw (le-leb i x h) refl

-- a row below i is passed
first_past : (i x n : ℕ) (xs ns : List ℕ) → x < i → first_from i (x ∷ xs) (n ∷ ns) ≡ first_from i xs ns
unfolding first_from
first_past i x n xs ns h = rw (lt-leb i x h) refl

-- where no row is below i, the first of them
first_head : (i b : ℕ) (xs ns : List ℕ) → length xs ≡ length ns → rises i b xs ≡ true → (first_from i xs ns).row ≡ get_or xs 0 0
unfolding first_from
first_head i b [] ns e h = refl
first_head i b (x ∷ xs) [] e h = absurd (omega arith)
first_head i b (x ∷ xs) (n ∷ ns) e h = ap (λ (y : ColumnEntry). y.row) (first-here i x n xs ns (rising i b x xs h).low)

-- ---- a walk is given all entries

-- above the bound there is no row
rises-none : (a b : ℕ) (xs : List ℕ) → b < a → rises a b xs ≡ true → xs ≡ []
rises-none a b [] l h = refl
rises-none a b (x ∷ xs) l h = let t = rising a b x xs h in absurd (omega (arith, t.low, t.high))

module _ (m : ℕ) (next : ℕ → ColumnEntry) where
  -- from row i on the answers are those of these lists
  abbrev Answers : (i : ℕ) → (xs ns : List ℕ) → Type 0
  Answers i xs ns = (k : ℕ) → i ≤ k → next k ≡ first_from k xs ns

  pub walk-given : (i : ℕ) (xs ns : List ℕ) → 1 ≤ i → length xs ≡ length ns → rises i m xs ≡ true → Answers i xs ns →
      (ys : List ColumnEntry) → IsWalk m next i ys → ys ≡ column_entries xs ns
  unfolding IsWalk column_entries first_from
  walk-given i [] ns a e h f [] w = refl
  walk-given i [] ns a e h f (y ∷ ys) w = absurd (w.1 (ap (λ (z : ColumnEntry). z.row) (w.0 ∙ f i (omega arith))))
  walk-given i (x ∷ xs) [] a e h f ys w = absurd (omega arith)
  walk-given i (x ∷ xs) (n ∷ ns) a e h f [] w =
      let t = rising i m x xs h in
      let q : x ≡ 0 = sym (ap (λ (z : ColumnEntry). z.row) (f i (omega arith) ∙ first-here i x n xs ns t.low)) ∙ w in
      absurd (omega (arith, t.low))
  walk-given i (x ∷ xs) (n ∷ ns) a e h f (y ∷ ys) w =
      let t = rising i m x xs h in
      let q : y ≡ record { row = x; count = n } = w.0 ∙ f i (omega arith) ∙ first-here i x n xs ns t.low in
      let r : y.row ≡ x = ap (λ (z : ColumnEntry). z.row) q in
      elim w.2 [
        | inl u ↦
            let none : xs ≡ [] = rises-none (suc x) m xs (omega (arith, u.0, r)) t.rest in
            rw (q, u.1, none) refl
        | inr u ↦
            let on : IsWalk m next (suc x) ys = subst (λ (k : ℕ). IsWalk m next (suc k) ys) r u.1 in
            let ih : ys ≡ column_entries xs ns =
            walk-given (suc x) xs ns (omega arith) (omega arith) t.rest (λ k l. f k (omega (arith, t.low)) ∙ first_past k x n xs ns l) ys on in
            rw (q, ih) refl
      ]

  pub walk-there : (i : ℕ) (xs ns : List ℕ) → 1 ≤ i → length xs ≡ length ns → rises i m xs ≡ true → Answers i xs ns → IsWalk m next i (column_entries xs ns)
  unfolding IsWalk column_entries first_from
  walk-there i [] ns a e h f = ap (λ (z : ColumnEntry). z.row) (f i (omega arith))
  walk-there i (x ∷ xs) [] a e h f = absurd (omega arith)
  walk-there i (x ∷ xs) (n ∷ ns) a e h f =
      let t = rising i m x xs h in (
        sym (f i (omega arith) ∙ first-here i x n xs ns t.low),
        λ z. omega (arith, t.low),
        elim (eq-or-ne x m) [
          | inl q ↦ inl (q, rw (rises-none (suc x) m xs (omega arith) t.rest) refl)
          | inr q ↦ inr (q, walk-there (suc x) xs ns (omega arith) (omega arith) t.rest (λ k l. f k (omega (arith, t.low)) ∙ first_past k x n xs ns l))
        ],
      )

-- ---- rows with a multiplicity, the first multiplicity being that of row a

pub keeps-step : (a : ℕ) (ns : List ℕ) → length (pattern_from a ns) ≡ length (non_zero ns)
unfolding pattern_from non_zero
keeps-step a [] = refl
keeps-step a (n ∷ ns) = elim (cases (eqb n 0)) [ inl e ↦ rw e (keeps-step (suc a) ns) | inr e ↦ rw e (ap suc (keeps-step (suc a) ns)) ]

-- x is the first row at or above i, or there is none
record NextFrom (i a : ℕ) (ns : List ℕ) (x : ColumnEntry) : Type 0 where
  stands : 0 < x.row → (i ≤ x.row) × (a ≤ x.row) × (x.row < a + length ns) × (0 < x.count) × (x.count ≡ get_or ns (x.row - a) 0)
  first : (k : ℕ) → i ≤ a + k → a + k < x.row → get_or ns k 0 ≡ 0
  none : x.row ≡ 0 → (x.count ≡ 0) × ((k : ℕ) → i ≤ a + k → get_or ns k 0 ≡ 0)

-- row a does not count: it is absent or below i
next-further : {i a n : ℕ} {ns : List ℕ} {x : ColumnEntry} → (n ≡ 0) ⊎ (a < i) → NextFrom i (suc a) ns x → NextFrom i a (n ∷ ns) x
next-further {i} {a} {n} {ns} {x} d t =
    record {
      stands = λ p.
          let s = t.stands p in
          let q : suc (x.row - suc a) ≡ x.row - a = omega (arith, s.1) in
          (s.0, omega (arith, s.1), omega (arith, s.2), s.3, s.4 ∙ ap (λ (k : ℕ). get_or (n ∷ ns) k 0) q);
      first = λ k. before k (λ l h u. t.first l h u);
      none = λ z. ((t.none z).0, λ k. after k (t.none z).1);
    }
  where
    skipped : i ≤ a + 0 → n ≡ 0
    skipped h = elim d [ inl z ↦ z | inr l ↦ absurd (omega arith) ]

    before : (k : ℕ) → ((l : ℕ) → i ≤ suc a + l → suc a + l < x.row → get_or ns l 0 ≡ 0) → i ≤ a + k → a + k < x.row → get_or (n ∷ ns) k 0 ≡ 0
    before zero f h u = skipped h
    before (suc k) f h u = f k (omega arith) (omega arith)

    after : (k : ℕ) → ((l : ℕ) → i ≤ suc a + l → get_or ns l 0 ≡ 0) → i ≤ a + k → get_or (n ∷ ns) k 0 ≡ 0
    after zero f h = skipped h
    after (suc k) f h = f k (omega arith)

next-from : (i a : ℕ) (ns : List ℕ) → 1 ≤ a → NextFrom i a ns (first_from i (pattern_from a ns) (non_zero ns))
unfolding pattern_from non_zero first_from
next-from i a [] p = record { stands = λ z. absurd (omega arith); first = λ k h l. refl; none = λ z. (refl, λ k h. refl) }
next-from i a (n ∷ ns) p =
    elim (zero-or-pos n) [
      | inl z ↦ rw (eq-eqb n 0 z) (next-further (inl z) (next-from i (suc a) ns (omega arith)))
      | inr z ↦ rw (ne_eqb n 0 (omega arith)) (elim (lt-or-le a i) [
        | inl l ↦ rw (lt-leb i a l) (next-further (inr l) (next-from i (suc a) ns (omega arith)))
        | inr l ↦ rw (le-leb i a l) (here l z)
      ])
    ]
  where
    here : i ≤ a → 0 < n → NextFrom i a (n ∷ ns) (record { row = a; count = n })
    here l z =
        let q : a - a ≡ 0 = omega arith in
        record {
          stands = λ t. (l, omega arith, omega arith, z, sym (ap (λ (k : ℕ). get_or (n ∷ ns) k 0) q));
          first = λ k h u. absurd (omega arith);
          none = λ t. absurd (omega arith);
        }

-- ---- a column of the factor

module _ (m : ℕ) (cs : List Column) where
  abbrev counts : (j : ℕ) → List ℕ
  counts j = (column_at (factor_of m cs) j).counts

  pub next-defined : (M : ℕ → ℕ → ℕ) (P : ℕ → ℕ) → IsFactor m (λ j i. starting_with j i cs) M P → (i j : ℕ) → 1 ≤ i → 1 ≤ j → j ≤ m →
      IsNext m M i j (next_row (factor_of m cs) i j)
  next-defined M P L i j a b d =
      let x : ColumnEntry = next_row (factor_of m cs) i j in
      let t : NextFrom i 1 (counts j) x = next-from i 1 (counts j) (omega arith) in
      let high : length (counts j) ≡ m = counts-length m cs j b d in
      record {
        stands = λ p. let s = t.stands p in (s.0, omega (arith, s.2), s.3, s.4 ∙ sym (same x.row p (omega (arith, s.2))));
        first = λ k h l.
            let s = t.stands (omega arith) in
            let q : 1 + (k - 1) ≡ k = omega arith in
            same k (omega arith) (omega (arith, s.2)) ∙ t.first (k - 1) (omega arith) (omega arith);
        none = λ z. ((t.none z).0, λ k h l. same k (omega arith) l ∙ (t.none z).1 (k - 1) (omega arith));
      }
    where
      same : (k : ℕ) → 1 ≤ k → k ≤ m → M k j ≡ multiplicity (factor_of m cs) k j
      same k x y =
          let g : Agree m M (multiplicity (factor_of m cs)) P (parent_of (factor_of m cs)) j = factor-agrees L (laws m cs) (λ k l x y z. refl) j b d in
          g.0 k x y

  module _ (j : ℕ) (a : 1 ≤ j) (b : j ≤ m) where
    abbrev rows : List ℕ
    rows = pattern_of (column_at (factor_of m cs) j)

    abbrev beside : List ℕ
    beside = multiplicities_of (column_at (factor_of m cs) j)

    -- a column begins with its diagonal
    from-diagonal : (i : ℕ) (rest xs ns : List ℕ) → xs ≡ j ∷ rest → length xs ≡ length ns → i ≤ j → (first_from i xs ns).row ≡ j
    from-diagonal i rest xs [] e l h = absurd (omega (arith, ap length e))
    from-diagonal i rest xs (n ∷ ns) e l h =
        ap (λ (ys : List ℕ). (first_from i ys (n ∷ ns)).row) e ∙ ap (λ (y : ColumnEntry). y.row) (first-here i j n rest ns h)

    -- past it come the rows from the parent on
    past-diagonal : (rest xs ns : List ℕ) → xs ≡ j ∷ rest → length xs ≡ length ns → rises (suc j) m rest ≡ true → (first_from (suc j) xs ns).row ≡ get_or rest 0 0
    past-diagonal rest xs [] e l h = absurd (omega (arith, ap length e))
    past-diagonal rest xs (n ∷ ns) e l h =
        ap (λ (ys : List ℕ). (first_from (suc j) ys (n ∷ ns)).row) e ∙ ap (λ (y : ColumnEntry). y.row) (first_past (suc j) j n rest ns (omega arith)) ∙
        first_head (suc j) m rest ns (omega (arith, ap length e)) h

    pub next-diagonal : (i : ℕ) → i ≤ j → (next_row (factor_of m cs) i j).row ≡ j
    next-diagonal i h = let t = pattern-parts m cs j a b in from-diagonal i t.0 rows beside t.1 (keeps-step 1 (counts j)) h

    pub next-parent : (next_row (factor_of m cs) (suc j) j).row ≡ parent_of (factor_of m cs) j
    next-parent = let t = pattern-parts m cs j a b in past-diagonal t.0 rows beside t.1 (keeps-step 1 (counts j)) t.2 ∙ t.3

    pub walk-column : (xs : List ColumnEntry) → IsWalk m (λ i. next_row (factor_of m cs) i j) 1 xs ↔ (xs ≡ column_entries rows beside)
    walk-column xs = (
      walk-given m (λ i. next_row (factor_of m cs) i j) 1 rows beside (omega arith) (keeps-step 1 (counts j)) (pattern-within-rows m cs j a b) (λ k l. refl) xs,
      λ e.
          subst (λ (ys : List ColumnEntry). IsWalk m (λ i. next_row (factor_of m cs) i j) 1 ys) (sym e)
          (walk-there m (λ i. next_row (factor_of m cs) i j) 1 rows beside (omega arith) (keeps-step 1 (counts j)) (pattern-within-rows m cs j a b) (λ k l. refl)),
    )
