-- Columns of A in a list: which start at a row, a column's smallest row, rows that share a column. Then sharing a column is a relation as Walks.antt
-- wants it (`edges`), and a chain of rows as the statement has it is a walk (`chain-is-walk`). A column with no row starts nowhere (`starts-rows`) and shares nothing.
-- Assumes nothing.
use mathlib.Core.Path.{◌≡◌, refl, ap, ◌∙◌, subst}
use mathlib.Core.Logic.{inl, inr, ◌↔◌}
use mathlib.Core.Bool.{true, false, ◌&&◌}
use mathlib.Core.List.{List, [], ◌∷◌, ◌++◌}
use Prim.Native.Nat.{ℕ, ◌+◌, ◌≤◌, ◌<◌}
use native.Mathlib.Omega.{arith}
use lib.Dec.{ltb, eqb}
use lib.ListN.{length, get_or}
use borrow.Author.Tests.{ltb-true, ltb-false, lt-ltb, eqb-true, eq-eqb, ne_eqb}
use Rattle.lists.specs.Lists.{one, is_in, Mem, first, later, all, among, sum_of, rises}
use Rattle.lists.proofs.Tests.{cases, and_both, both-and, and-false, pos-one, one-le, range-in}
use Rattle.lists.proofs.Member.{any-find, any-has, all-at, among-mem, mem-among}
use Rattle.lists.proofs.Rising.{rises-in, rises-first}
use Rattle.symbolic.specs.Columns.{Column, smallest, holds, has_rows, with_rows, fits_rows, starting_with}
use Rattle.symbolic.specs.Chains.{share, is_chain, ChainTo}
use Rattle.symbolic.proofs.Walks.{Walk, edge, step, Edges}

-- ---- what starts at j

pub starts-find : (j i : ℕ) (cs : List Column) → 0 < starting_with j i cs → (c : Column) × Mem c cs × (smallest c ≡ j) × (holds c i ≡ true)
unfolding starting_with
starts-find j i [] h = absurd (omega arith)
starts-find j i (c ∷ cs) h =
    elim (cases (eqb (smallest c) j && holds c i)) [
      | inl e ↦
          let t : (eqb (smallest c) j ≡ true) × (holds c i ≡ true) = and_both (eqb (smallest c) j) (holds c i) e in
          (c, first, eqb-true (smallest c) j t.0, t.1)
      | inr e ↦
          let t : (d : Column) × Mem d cs × (smallest d ≡ j) × (holds d i ≡ true) = starts-find j i cs (omega (arith, ap one e)) in
          (t.0, later t.1, t.2, t.3)
    ]

pub starts-has : (j i : ℕ) {c : Column} {cs : List Column} → Mem c cs → smallest c ≡ j → holds c i ≡ true → 0 < starting_with j i cs
unfolding starting_with
starts-has j i {c} (first {xs}) a b = omega (arith, pos-one (eqb (smallest c) j && holds c i) (both-and (eq-eqb (smallest c) j a) b))
starts-has j i (later {x = y} {xs = xs} m) a b = omega (arith, starts-has j i m a b)

pub starts_none : (j i : ℕ) (cs : List Column) → ((c : Column) → Mem c cs → smallest c ≡ j → ⊥) → starting_with j i cs ≡ 0
unfolding starting_with
starts_none j i [] h = refl
starts_none j i (c ∷ cs) h = rw (ne_eqb (smallest c) j (h c first)) (omega (arith, starts_none j i cs (λ d m. h d (later m))))

pub starts-append : (j i : ℕ) (cs ds : List Column) → starting_with j i (cs ++ ds) ≡ starting_with j i cs + starting_with j i ds
unfolding starting_with
starts-append j i [] ds = omega arith
starts-append j i (c ∷ cs) ds = omega (arith, starts-append j i cs ds)

-- more columns, more starts
pub starts_more : (cs ds : List Column) (j i : ℕ) → 0 < starting_with j i cs → 0 < starting_with j i (cs ++ ds)
starts_more cs ds j i h = omega (arith, starts-append j i cs ds)

pub starts-le : (j i : ℕ) (cs : List Column) → starting_with j i cs ≤ length cs
unfolding starting_with
starts-le j i [] = omega arith
starts-le j i (c ∷ cs) = omega (arith, starts-le j i cs, one-le (eqb (smallest c) j && holds c i))

pub starts-sum : (j i : ℕ) (cs : List Column) → starting_with j i cs ≡ sum_of (λ c. one (eqb (smallest c) j && holds c i)) cs
unfolding starting_with sum_of
starts-sum j i [] = refl
starts-sum j i (c ∷ cs) = omega (arith, starts-sum j i cs)

-- ---- columns with no row

pub rowless : (c : Column) → has_rows c ≡ false → c.rows ≡ []
rowless c h = go c.rows h
  where
    go : (rows : List ℕ) → ltb 0 (length rows) ≡ false → rows ≡ []
    go [] h = refl
    go (x ∷ xs) h = absurd (omega (arith, ltb-false 0 (length (x ∷ xs)) h))

-- they start nowhere
pub starts-rows : (j i : ℕ) (cs : List Column) → starting_with j i cs ≡ starting_with j i (with_rows cs)
unfolding starting_with with_rows among
starts-rows j i [] = refl
starts-rows j i (c ∷ cs) =
    elim (cases (has_rows c)) [
      | inl e ↦ rw e (omega (arith, starts-rows j i cs))
      | inr e ↦ rw e (omega (arith, ap one (nowhere c e), starts-rows j i cs))
    ]
  where
    nowhere : (c : Column) → has_rows c ≡ false → (eqb (smallest c) j && holds c i) ≡ false
    nowhere c e = ap (λ (rows : List ℕ). eqb (get_or rows 0 0) j && among i rows) (rowless c e) ∙ and-false (eqb 0 j)

-- ---- the smallest row

-- a column with a row holds its smallest
pub smallest-held : (c : Column) → 1 ≤ smallest c → holds c (smallest c) ≡ true
smallest-held c h = go c.rows h
  where
    go : (rows : List ℕ) → 1 ≤ get_or rows 0 0 → among (get_or rows 0 0) rows ≡ true
    go [] h = absurd (omega arith)
    go (x ∷ xs) h = mem-among (first {xs = xs})

-- every row of a column lies between its smallest and m
pub smallest-least : (m : ℕ) (c : Column) (x : ℕ) → fits_rows m c ≡ true → holds c x ≡ true → (1 ≤ smallest c) × (smallest c ≤ x) × (x ≤ m)
smallest-least m c x f h = go c.rows f (among-mem x c.rows h)
  where
    go : (rows : List ℕ) → rises 1 m rows ≡ true → Mem x rows → (1 ≤ get_or rows 0 0) × (get_or rows 0 0 ≤ x) × (x ≤ m)
    go [] f n = elim n [ ]
    go (y ∷ ys) f n = ((rises-in {x = y} 1 m (first {xs = ys}) f).0, rises-first 1 m n f, (rises-in 1 m n f).1)

-- ---- sharing a column

pub share-find : (cs : List Column) (x y : ℕ) → share cs x y ≡ true → (c : Column) × Mem c cs × (holds c x ≡ true) × (holds c y ≡ true)
share-find cs x y h =
    let t : (c : Column) × Mem c cs × ((holds c x && holds c y) ≡ true) = any-find (λ (c : Column). holds c x && holds c y) cs h in
    let u : (holds t.0 x ≡ true) × (holds t.0 y ≡ true) = and_both (holds t.0 x) (holds t.0 y) t.2 in
    (t.0, t.1, u.0, u.1)

pub share-has : (x y : ℕ) {c : Column} {cs : List Column} → Mem c cs → holds c x ≡ true → holds c y ≡ true → share cs x y ≡ true
share-has x y m a b = any-has (λ (c : Column). holds c x && holds c y) m (both-and a b)

-- a row that starts at j shares a column with j
pub share-start : (cs : List Column) (j i : ℕ) → 1 ≤ j → 0 < starting_with j i cs → share cs j i ≡ true
share-start cs j i a h =
    let t : (c : Column) × Mem c cs × (smallest c ≡ j) × (holds c i ≡ true) = starts-find j i cs h in
    share-has j i t.1 (subst (λ (x : ℕ). holds t.0 x ≡ true) t.2 (smallest-held t.0 (omega arith))) t.3

abbrev pub Shared : List Column → (x y : ℕ) → Type 0
Shared cs x y = share cs x y ≡ true

module _ (m : ℕ) (cs : List Column) (fits : all (fits_rows m) cs ≡ true) where
  pub edges : Edges m (λ j i. starting_with j i cs) (Shared cs)
  edges = record {
    swap = λ x y h. let t : (c : Column) × Mem c cs × (holds c x ≡ true) × (holds c y ≡ true) = share-find cs x y h in share-has y x t.1 t.3 t.2;
    from_start = λ j i a b h. share-start cs j i a h;
    to_start = λ x y h.
        let t : (c : Column) × Mem c cs × (holds c x ≡ true) × (holds c y ≡ true) = share-find cs x y h in
        let f : fits_rows m t.0 ≡ true = all-at (fits_rows m) t.1 fits in
        let u : (1 ≤ smallest t.0) × (smallest t.0 ≤ x) × (x ≤ m) = smallest-least m t.0 x f t.2 in
        let v : (1 ≤ smallest t.0) × (smallest t.0 ≤ y) × (y ≤ m) = smallest-least m t.0 y f t.3 in (
          smallest t.0,
          u.0,
          u.1,
          v.1,
          u.2,
          v.2,
          starts-has (smallest t.0) x t.1 refl t.2,
          starts-has (smallest t.0) y t.1 refl t.3,
        );
  }

  -- ---- chains of rows

  -- as ChainTo, with the bound on the rows between set apart from the row that the chain starts at
  abbrev ChainBelow : (b x i : ℕ) → Type 0
  ChainBelow b x i = (xs : List ℕ) × ((all (λ (y : ℕ). is_in 1 m y && ltb y b) xs ≡ true) × (is_chain cs ((x ∷ xs) ++ (i ∷ [])) ≡ true))

  walk-chain : {b x i : ℕ} → Walk (Shared cs) b x i → ChainBelow b x i
  unfolding all is_chain
  walk-chain (edge {x} {y} e) = ([], (refl, both-and e refl))
  walk-chain {b} (step {x} {y} {z} e k v) =
      let t : ChainBelow b y z = walk-chain v in
      let s : (s : ℕ) × (1 ≤ s) × (s ≤ x) × (s ≤ y) × (x ≤ m) × (y ≤ m) × (0 < starting_with s x cs) × (0 < starting_with s y cs) = edges.to_start x y e in
      (y ∷ t.0, (both-and (both-and (range-in 1 m y (omega arith) s.5) (lt-ltb y b k)) t.1.0, both-and e t.1.1))

  chain-walk : (b x i : ℕ) (xs : List ℕ) → all (λ (y : ℕ). is_in 1 m y && ltb y b) xs ≡ true → is_chain cs ((x ∷ xs) ++ (i ∷ [])) ≡ true →
      Walk (Shared cs) b x i
  unfolding all is_chain
  chain-walk b x i [] h k = edge (and_both (share cs x i) true k).0
  chain-walk b x i (y ∷ ys) h k =
      let t : ((is_in 1 m y && ltb y b) ≡ true) × (all (λ (z : ℕ). is_in 1 m z && ltb z b) ys ≡ true) =
      and_both (is_in 1 m y && ltb y b) (all (λ (z : ℕ). is_in 1 m z && ltb z b) ys) h in
      let u : (share cs x y ≡ true) × (is_chain cs ((y ∷ ys) ++ (i ∷ [])) ≡ true) = and_both (share cs x y) (is_chain cs ((y ∷ ys) ++ (i ∷ []))) k in
      step u.0 (ltb-true y b (and_both (is_in 1 m y) (ltb y b) t.0).1) (chain-walk b y i ys t.1 u.1)

  pub chain-is-walk : (i j : ℕ) → ChainTo m cs i j ↔ Walk (Shared cs) j j i
  chain-is-walk i j = (λ l. chain-walk j j i l.0 l.1.0 l.1.1, λ w. walk-chain w)
