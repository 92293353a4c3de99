-- Laws of last records kept and named, in this order: what `named_in` writes and what it leaves; Named at the start, with one chain more, in a table
-- that keeps both regions; the loop that compares: each chain up to i finds its own number at its last record (Found), and what that decides.
-- A caller keeps `Named` as its loop's invariant: named_start, then named-next with the result of `name`; where it writes elsewhere, named_keep.
-- Assumes nothing.
use mathlib.Core.Path.{◌≡◌, refl, sym, ap, subst, ◌∙◌}
use mathlib.Core.Logic.{◌⊎◌, inl, inr, ◌≢◌}
use mathlib.Core.Bool.{true, false}
use mathlib.Core.List.{List, [], ◌∷◌, ◌++◌}
use Prim.Native.Nat.{ℕ, suc, ◌+◌, ◌-◌, ◌≤◌, ◌<◌}
use native.Mathlib.Omega.{arith}
use native.Mathlib.Numerals.{add-one}
use lib.ListN.{length, get_or, set, length-set}
use lib.Seq.{get_or-set_same, get_or-set_other}
use borrow.Author.Tests.{eq-eqb, ne_eqb}
use Rattle.lists.specs.Lists.{Decides}
use Rattle.lists.proofs.Tests.{eq-or-ne, decides-no}
use Rattle.workspace.specs.Regions.{cell, region, Outside, Apart}
use Rattle.workspace.proofs.Regions.{region-length, region-cell, region-ext, region-next}
use Rattle.pool.specs.Ends.{NoneTwice}
use Rattle.ends.specs.Naming.{named_in, Named, CanCompare}

-- ---- what naming writes and leaves

module _ (w : List ℕ) (a b k e : ℕ) where
  pub named_none : e ≡ 0 → named_in w a b k e ≡ set w (a + (k - 1)) e
  named_none z = rw (eq-eqb e 0 z) refl

  pub named_some : e ≢ 0 → named_in w a b k e ≡ set (set w (a + (k - 1)) e) (b + (e - 1)) k
  named_some p = rw (ne_eqb e 0 p) refl

  pub named-length : length (named_in w a b k e) ≡ length w
  named-length =
      elim (eq-or-ne e 0) [
        | inl z ↦ ap length (named_none z) ∙ length-set w (a + (k - 1)) e
        | inr p ↦ ap length (named_some p) ∙ length-set (set w (a + (k - 1)) e) (b + (e - 1)) k ∙ length-set w (a + (k - 1)) e
      ]

  -- a place that is neither the last record's nor the name's
  named_other : (x : ℕ) → x ≢ a + (k - 1) → (1 ≤ e → x ≢ b + (e - 1)) → get_or (named_in w a b k e) x 0 ≡ get_or w x 0
  named_other x p q =
      elim (eq-or-ne e 0) [
        | inl z ↦ ap (λ (l : List ℕ). get_or l x 0) (named_none z) ∙ get_or-set_other w (a + (k - 1)) x e 0 p
        | inr s ↦
            ap (λ (l : List ℕ). get_or l x 0) (named_some s) ∙ get_or-set_other (set w (a + (k - 1)) e) (b + (e - 1)) x k 0 (q (omega arith)) ∙
            get_or-set_other w (a + (k - 1)) x e 0 p
      ]

  -- the last record
  named-last : a + (k - 1) < length w → (1 ≤ e → a + (k - 1) ≢ b + (e - 1)) → get_or (named_in w a b k e) (a + (k - 1)) 0 ≡ e
  named-last h q =
      elim (eq-or-ne e 0) [
        | inl z ↦ ap (λ (l : List ℕ). get_or l (a + (k - 1)) 0) (named_none z) ∙ get_or-set_same w (a + (k - 1)) e 0 h
        | inr s ↦
            ap (λ (l : List ℕ). get_or l (a + (k - 1)) 0) (named_some s) ∙ get_or-set_other (set w (a + (k - 1)) e) (b + (e - 1)) (a + (k - 1)) k 0 (q (omega arith)) ∙
            get_or-set_same w (a + (k - 1)) e 0 h
      ]

  -- its name
  named-name : e ≢ 0 → b + (e - 1) < length w → get_or (named_in w a b k e) (b + (e - 1)) 0 ≡ k
  named-name s h =
      ap (λ (l : List ℕ). get_or l (b + (e - 1)) 0) (named_some s) ∙
      get_or-set_same (set w (a + (k - 1)) e) (b + (e - 1)) k 0 (omega (arith, length-set w (a + (k - 1)) e))

-- the length and every place but one for the last record and those for names stay
pub record NamedOnly (a b k f : ℕ) (before after : List ℕ) : Type 0 where
  pub same_length : length after ≡ length before
  pub outside : (x : ℕ) → x ≢ a + (k - 1) → Outside b f x → get_or after x 0 ≡ get_or before x 0

pub named-only : (w : List ℕ) (a b k e f : ℕ) → 1 ≤ k → e ≤ f → NamedOnly a b k f w (named_in w a b k e)
named-only w a b k e f low h =
    record {
      same_length = named-length w a b k e;
      outside = λ x p s. named_other w a b k e x p (λ l q. elim s [ inl t ↦ omega arith | inr t ↦ omega arith ]);
    }

-- ---- chains named one after the other

pub named_start : (w : List ℕ) (a b f : ℕ) → Named w a 0 b f
named_start w a b f = record { within = λ i h. absurd (omega arith); names = λ i h. absurd (omega arith) }

-- a table that keeps the last records and all names
pub named_keep : {w x : List ℕ} {a n b f : ℕ} → Named w a n b f → ((i : ℕ) → i < n → cell x a i ≡ cell w a i) → ((i : ℕ) → i < f → cell x b i ≡ cell w b i) →
    Named x a n b f
named_keep {w} {x} {a} {n} {b} {f} d lasts names =
    record { within = λ i h. omega (arith, d.within i h, lasts i h); names = λ i h p. kept i h (λ z. p (lasts i h ∙ z)) }
  where
    kept : (i : ℕ) → i < n → cell w a i ≢ 0 → (cell x b (cell x a i - 1) ≡ suc i) ⊎ ((k : ℕ) × (i < k) × (k < n) × (cell x a k ≡ cell x a i))
    kept i h p =
        elim (d.names i h p) [
          | inl e ↦ inl (ap (λ (y : ℕ). cell x b (y - 1)) (lasts i h) ∙ names (cell w a i - 1) (omega (arith, d.within i h)) ∙ e)
          | inr t ↦ inr (t.0, t.1, t.2, lasts t.0 t.2 ∙ t.3 ∙ sym (lasts i h))
        ]

module _ {w : List ℕ} {a n b f : ℕ} (e : ℕ) (d : Named w a n b f) (few : e ≤ f) (s : Apart a (suc n) b f) (last-in : a + n < length w) (name_in : 1 ≤ e → b + (e - 1) < length w) where
  -- no last record's place is a name's
  seam : (i j : ℕ) → i ≤ n → j < f → a + i ≢ b + j
  seam i j p q t = elim s [ inl h ↦ omega arith | inr h ↦ omega arith ]

  before : (i : ℕ) → i < n → cell (named_in w a b (suc n) e) a i ≡ cell w a i
  before i h = named_other w a b (suc n) e (a + i) (omega arith) (λ l. seam i (e - 1) (omega arith) (omega arith))

  here : cell (named_in w a b (suc n) e) a n ≡ e
  here =
      let q : a + (suc n - 1) ≡ a + n = omega arith in
      subst (λ (x : ℕ). get_or (named_in w a b (suc n) e) x 0 ≡ e) q
      (named-last w a b (suc n) e (omega arith) (λ l. subst (λ (x : ℕ). x ≢ b + (e - 1)) (sym q) (seam n (e - 1) (omega arith) (omega arith))))

  -- an older name stays, unless its record has the new one
  older : (i : ℕ) → i < n → cell w a i ≢ 0 →
      (cell (named_in w a b (suc n) e) b (cell w a i - 1) ≡ suc i) ⊎ ((k : ℕ) × (i < k) × (k < suc n) × (cell (named_in w a b (suc n) e) a k ≡ cell w a i))
  older i h p =
      elim (d.names i h p) [
        | inr t ↦ inr (t.0, t.1, omega arith, before t.0 t.2 ∙ t.3)
        | inl q ↦ elim (eq-or-ne e (cell w a i)) [
          | inl z ↦ inr (n, h, omega arith, here ∙ z)
          | inr z ↦
              let far : a + n ≢ b + (cell w a i - 1) = seam n (cell w a i - 1) (omega arith) (omega (arith, d.within i h)) in
              inl (named_other w a b (suc n) e (b + (cell w a i - 1)) (λ t. far (omega arith)) (λ l t. z (omega arith)) ∙ q)
        ]
      ]

  named-all : (i : ℕ) → i < suc n → cell (named_in w a b (suc n) e) a i ≢ 0 →
      (cell (named_in w a b (suc n) e) b (cell (named_in w a b (suc n) e) a i - 1) ≡ suc i) ⊎
      ((k : ℕ) × (i < k) × (k < suc n) × (cell (named_in w a b (suc n) e) a k ≡ cell (named_in w a b (suc n) e) a i))
  named-all i h p =
      elim (eq-or-ne i n) [
        | inl z ↦
            let q : cell (named_in w a b (suc n) e) a i ≡ e = ap (cell (named_in w a b (suc n) e) a) z ∙ here in
            let some : e ≢ 0 = λ t. p (q ∙ t) in
            inl (ap (λ (x : ℕ). cell (named_in w a b (suc n) e) b (x - 1)) q ∙ named-name w a b (suc n) e some (name_in (omega arith)) ∙ ap suc (sym z))
        | inr z ↦
            let l : i < n = omega arith in
            elim (older i l (λ t. p (before i l ∙ t))) [
              | inl q ↦ inl (ap (λ (x : ℕ). cell (named_in w a b (suc n) e) b (x - 1)) (before i l) ∙ q)
              | inr t ↦ inr (t.0, t.1, t.2, t.3 ∙ sym (before i l))
            ]
      ]

  pub named-next : Named (named_in w a b (suc n) e) a (suc n) b f
  named-next =
      record {
        within = λ i h. elim (eq-or-ne i n) [
          | inl z ↦ omega (arith, ap (cell (named_in w a b (suc n) e) a) z, here)
          | inr z ↦ omega (arith, before i (omega arith), d.within i (omega arith))
        ];
        names = named-all;
      }

  pub named-region : region (named_in w a b (suc n) e) a (suc n) ≡ region w a n ++ (e ∷ [])
  named-region =
      let l : length (named_in w a b (suc n) e) ≡ length w = named-length w a b (suc n) e in
      let r : region (named_in w a b (suc n) e) a n ≡ region w a n = region-ext w (named_in w a b (suc n) e) a a n (omega arith) (omega arith) before in
      ap (region (named_in w a b (suc n) e) a) (sym (add-one n)) ∙ region-next (named_in w a b (suc n) e) a n (omega arith) ∙ rw (r, here) refl

-- ---- comparing: the chains before i find their own numbers

pub record Found (work : List ℕ) (a b n i : ℕ) : Type 0 where
  pub within : i ≤ n
  pub own : (j : ℕ) → j < i → cell work a j ≢ 0 → cell work b (cell work a j - 1) ≡ suc j

module _ {w : List ℕ} {a b n i : ℕ} (d : Found w a b n i) where
  -- all do: two chains with one last record have one number
  pub found_all : CanCompare w a b n → n ≤ i → Decides (NoneTwice (region w a n)) true
  found_all c done = record { yes = λ t. alone; no = λ t. refl }
    where
      alone : NoneTwice (region w a n)
      alone j k p q s e =
          let size : length (region w a n) ≡ n = region-length w a n c.lasts-in in
          let x : get_or (region w a n) j 0 ≡ cell w a j = region-cell w a n j (omega arith) in
          let y : get_or (region w a n) k 0 ≡ cell w a k = region-cell w a n k (omega arith) in
          let same : cell w a j ≡ cell w a k = sym x ∙ e ∙ y in
          let u : cell w b (cell w a j - 1) ≡ suc j = d.own j (omega arith) (λ t. s (x ∙ t)) in
          let v : cell w b (cell w a k - 1) ≡ suc k = d.own k (omega arith) (λ t. s (e ∙ y ∙ t)) in
          omega (arith, ap (λ (z : ℕ). cell w b (z - 1)) same)

-- one does not: a later chain has its last record
pub found_none : {w : List ℕ} {a b n i : ℕ} → CanCompare w a b n → i < n → cell w a i ≢ 0 → cell w b (cell w a i - 1) ≢ i + 1 → Decides (NoneTwice (region w a n)) false
found_none {w} {a} {b} {n} {i} c more some other = decides-no twice
  where
    twice : NoneTwice (region w a n) → ⊥
    twice t =
        elim (c.named.names i more some) [
          | inl e ↦ other (omega arith)
          | inr s ↦
              let size : length (region w a n) ≡ n = region-length w a n c.lasts-in in
              let x : get_or (region w a n) i 0 ≡ cell w a i = region-cell w a n i more in
              let y : get_or (region w a n) s.0 0 ≡ cell w a s.0 = region-cell w a n s.0 s.2 in
              let z : i ≡ s.0 = t i s.0 (omega arith) (omega (arith, s.2)) (λ q. some (sym x ∙ q)) (x ∙ sym s.3 ∙ sym y) in
              omega (arith, s.1)
        ]
