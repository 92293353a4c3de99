-- Where a done column waits before the turn of j (`standing`), by cases; who waits for j (`waits-child`, `waits-lost`); what one row more changes: those that
-- waited for j move on, j itself starts to wait for its tree parent, and for a row that is not touched nothing changes; who is handled in the turn, and where
-- each waits meanwhile (`waiting`). Assumes nothing.
use mathlib.Core.Path.{◌≡◌, refl, sym, ap, ◌∙◌}
use mathlib.Core.Logic.{◌⊎◌, inl, inr, ◌≢◌}
use mathlib.Core.Bool.{Bool, true, false, ◌&&◌, not, true≢false}
use mathlib.Core.List.{List, ◌++◌}
use Prim.Native.Nat.{ℕ, suc, ◌+◌, ◌≤◌, ◌<◌}
use native.Mathlib.Omega.{arith}
use lib.Dec.{ltb, leb, eqb}
use borrow.Author.Tests.{ltb-true, lt-ltb, le-ltb, le-leb, lt-leb, eqb-true, eqb-false, eq-eqb, ne_eqb, not-true}
use Rattle.lists.specs.Lists.{pick}
use Rattle.lists.proofs.Tests.{cases, eq-or-ne, lt-or-le, zero-or-pos, and_both, both-and, both_ways, or-either, or_left, or_right, refute, and-false, or-false}
use Rattle.symbolic.specs.Columns.{Column}
use Rattle.symbolic.specs.Batch.{is_touched}
use Rattle.symbolic.proofs.Build.{laws}
use Rattle.symbolic.proofs.Touched.{touched-parent}
use Rattle.symbolic.proofs.Locality.{parent-stays-or-falls, touched-old-parent}
use Rattle.updown.specs.Turns.{larger, tree_parent, other_parent, is_done, standing, waiting}
use Rattle.updown.specs.SoFar.{also, children, lost, family}
use Rattle.updown.proofs.Queueing.{moved}

module _ (m : ℕ) (R W : List Column) where
  abbrev T : ℕ → Bool
  T c = is_touched (larger m R W) W c

  abbrev U : ℕ → ℕ
  U = tree_parent m R W

  abbrev O : ℕ → ℕ
  O = other_parent m R

  -- ---- parents

  pub tree-above : (c : ℕ) → 1 ≤ c → c ≤ m → 0 < U c → (c < U c) × (U c ≤ m)
  tree-above c a b p = (((laws m (R ++ W)).parent_in c a b p).0, ((laws m (R ++ W)).parent_in c a b p).1)

  pub other-above : (c : ℕ) → 1 ≤ c → c ≤ m → 0 < O c → (0 < U c) × (U c ≤ O c) × (c < O c) × (O c ≤ m)
  other-above c a b p =
      let t : (0 < U c) × (U c ≤ O c) = parent-stays-or-falls m R W c a b p in
      (t.0, t.1, ((laws m R).parent_in c a b p).0, ((laws m R).parent_in c a b p).1)

  done-true : (j c : ℕ) → T c ≡ true → c < j → is_done m R W j c ≡ true
  done-true j c t l = both-and t (lt-ltb c j l)

  done-parts : (j c : ℕ) → is_done m R W j c ≡ true → (T c ≡ true) × (c < j)
  done-parts j c h = let t : (T c ≡ true) × (ltb c j ≡ true) = and_both (T c) (ltb c j) h in (t.0, ltb-true c j t.1)

  -- ---- where a column waits

  pub stands-none : (j c : ℕ) → is_done m R W j c ≡ false → standing m R W j c ≡ 0
  stands-none j c e = rw e refl

  stands-tree : (j c : ℕ) → is_done m R W j c ≡ true → j ≤ U c → standing m R W j c ≡ U c
  stands-tree j c e l = rw (e, le-leb j (U c) l) refl

  stands-other : (j c : ℕ) → is_done m R W j c ≡ true → U c < j → 0 < U c → O c ≢ U c → j ≤ O c → standing m R W j c ≡ m + O c
  stands-other j c e l p n k = rw (e, lt-leb j (U c) l, ne_eqb (U c) 0 (omega arith), ne_eqb (O c) (U c) n, le-leb j (O c) k) refl

  stands-gone : (j c : ℕ) → is_done m R W j c ≡ true → U c < j → (U c ≡ 0) ⊎ ((O c ≡ U c) ⊎ (O c < j)) → standing m R W j c ≡ 0
  stands-gone j c e l d =
      elim d [
        | inl z ↦ rw (e, lt-leb j (U c) l, eq-eqb (U c) 0 z) refl
        | inr (inl z) ↦ rw (e, lt-leb j (U c) l, eq-eqb (O c) (U c) z) (first-false (not (eqb (U c) 0)) (leb j (O c)))
        | inr (inr z) ↦ rw (e, lt-leb j (U c) l, lt-leb j (O c) z) (last-false (not (eqb (U c) 0) && not (eqb (O c) (U c))))
      ]
    where
      first-false : (x y : Bool) → pick (x && false && y) (m + O c) 0 ≡ 0
      first-false true y = refl
      first-false false y = refl

      last-false : (x : Bool) → pick (x && false) (m + O c) 0 ≡ 0
      last-false true = refl
      last-false false = refl

  -- all cases at once
  pub data Stands (j c : ℕ) : Type 0 where
    nowhere : is_done m R W j c ≡ false → standing m R W j c ≡ 0 → Stands j c
    tree : is_done m R W j c ≡ true → j ≤ U c → standing m R W j c ≡ U c → Stands j c
    other : is_done m R W j c ≡ true → U c < j → 0 < U c → O c ≢ U c → j ≤ O c → standing m R W j c ≡ m + O c → Stands j c
    gone : is_done m R W j c ≡ true → U c < j → (U c ≡ 0) ⊎ ((O c ≡ U c) ⊎ (O c < j)) → standing m R W j c ≡ 0 → Stands j c

  pub stands : (j c : ℕ) → Stands j c
  stands j c =
      elim (cases (is_done m R W j c)) [
        | inr e ↦ nowhere e (stands-none j c e)
        | inl e ↦ elim (lt-or-le (U c) j) [
          | inr l ↦ tree e l (stands-tree j c e l)
          | inl l ↦ elim (zero-or-pos (U c)) [
            | inl z ↦ gone e l (inl z) (stands-gone j c e l (inl z))
            | inr z ↦ elim (eq-or-ne (O c) (U c)) [
              | inl y ↦ gone e l (inr (inl y)) (stands-gone j c e l (inr (inl y)))
              | inr y ↦ elim (lt-or-le (O c) j) [
                | inl k ↦ gone e l (inr (inr k)) (stands-gone j c e l (inr (inr k)))
                | inr k ↦ other e l z y k (stands-other j c e l z y k)
              ]
            ]
          ]
        ]
      ]

  -- ---- who waits for j

  module _ (j : ℕ) (a : 1 ≤ j) (b : j ≤ m) where
    pub waits-child : (c : ℕ) → standing m R W j c ≡ j → (T c ≡ true) × (c < j) × (U c ≡ j)
    waits-child c h =
        elim (stands j c) [
          | nowhere e z ↦ absurd (omega arith)
          | tree e l z ↦ ((done-parts j c e).0, (done-parts j c e).1, sym z ∙ h)
          | other e l p n k z ↦ absurd (omega arith)
          | gone e l d z ↦ absurd (omega arith)
        ]

    pub waits-lost : (c : ℕ) → 1 ≤ c → c ≤ m → standing m R W j c ≡ m + j → (T c ≡ true) × (c < j) × (U c < j) × (0 < U c) × (O c ≡ j)
    waits-lost c x y h =
        elim (stands j c) [
          | nowhere e z ↦ absurd (omega arith)
          | tree e l z ↦ absurd (omega (arith, tree-above c x y (omega arith)))
          | other e l p n k z ↦ ((done-parts j c e).0, (done-parts j c e).1, l, p, omega arith)
          | gone e l d z ↦ absurd (omega arith)
        ]

    -- ---- one row more

    -- then nobody waits for j
    pub never_here : (c : ℕ) → 1 ≤ c → c ≤ m → (standing m R W (suc j) c ≢ j) × (standing m R W (suc j) c ≢ m + j)
    never_here c x y =
        elim (stands (suc j) c) [
          | nowhere e z ↦ (omega arith, omega arith)
          | tree e l z ↦ (omega arith, omega (arith, tree-above c x y (omega arith)))
          | other e l p n k z ↦ (omega arith, omega arith)
          | gone e l d z ↦ (omega arith, omega arith)
        ]

    done_more : (c : ℕ) → c ≢ j → is_done m R W (suc j) c ≡ is_done m R W j c
    done_more c n = ap (λ (z : Bool). T c && z) (same c n)
      where
        same : (c : ℕ) → c ≢ j → ltb c (suc j) ≡ ltb c j
        same c n = elim (lt-or-le c j) [ inl l ↦ lt-ltb c (suc j) (omega arith) ∙ sym (lt-ltb c j l) | inr l ↦ le-ltb c (suc j) (omega arith) ∙ sym (le-ltb c j l) ]

    -- who does not wait for j goes on waiting where it does
    stands-keep : (c : ℕ) → c ≢ j → standing m R W j c ≢ j → standing m R W j c ≢ m + j → standing m R W (suc j) c ≡ standing m R W j c
    stands-keep c n f g =
        elim (stands j c) [
          | nowhere e z ↦ stands-none (suc j) c (done_more c n ∙ e) ∙ sym z
          | tree e l z ↦ stands-tree (suc j) c (done_more c n ∙ e) (omega arith) ∙ sym z
          | other e l p k o z ↦ stands-other (suc j) c (done_more c n ∙ e) (omega arith) p k (omega arith) ∙ sym z
          | gone e l d z ↦
              stands-gone (suc j) c (done_more c n ∙ e) (omega arith) (elim d [ inl p ↦ inl p | inr (inl p) ↦ inr (inl p) | inr (inr p) ↦ inr (inr (omega arith)) ]) ∙ sym z
        ]

    pub stands_self : T j ≡ true → standing m R W (suc j) j ≡ U j
    stands_self t =
        let d : is_done m R W (suc j) j ≡ true = done-true (suc j) j t (omega arith) in
        elim (zero-or-pos (U j)) [
          | inl z ↦ stands-gone (suc j) j d (omega arith) (inl z) ∙ sym z
          | inr z ↦ stands-tree (suc j) j d (omega (arith, tree-above j a b z))
        ]

    stands-before : standing m R W j j ≡ 0
    stands-before = stands-none j j (ap (λ (z : Bool). T j && z) (le-ltb j j (omega arith)) ∙ and-false (T j))

    -- a child of j moves on to its other parent, a lost child waits no more
    pub moves-child : (c : ℕ) → 1 ≤ c → c ≤ m → standing m R W j c ≡ j → standing m R W (suc j) c ≡ pick (not (eqb (O c) j) && not (eqb (O c) 0)) (m + O c) 0
    moves-child c x y h =
        let w : (T c ≡ true) × (c < j) × (U c ≡ j) = waits-child c h in
        let d : is_done m R W (suc j) c ≡ true = done-true (suc j) c w.0 (omega arith) in
        elim (eq-or-ne (O c) j) [
          | inl e ↦ stands-gone (suc j) c d (omega arith) (inr (inl (omega arith))) ∙ rw (eq-eqb (O c) j e) refl
          | inr e ↦ elim (zero-or-pos (O c)) [
            | inl z ↦ stands-gone (suc j) c d (omega arith) (inr (inr (omega arith))) ∙ rw (ne_eqb (O c) j e, eq-eqb (O c) 0 z) refl
            | inr z ↦
                let v : (0 < U c) × (U c ≤ O c) × (c < O c) × (O c ≤ m) = other-above c x y z in
                stands-other (suc j) c d (omega arith) v.0 (omega arith) (omega arith) ∙ rw (ne_eqb (O c) j e, ne_eqb (O c) 0 (omega arith)) refl
          ]
        ]

    pub moves-lost : (c : ℕ) → 1 ≤ c → c ≤ m → standing m R W j c ≡ m + j → standing m R W (suc j) c ≡ 0
    moves-lost c x y h =
        let w : (T c ≡ true) × (c < j) × (U c < j) × (0 < U c) × (O c ≡ j) = waits-lost c x y h in
        stands-gone (suc j) c (done-true (suc j) c w.0 (omega arith)) (omega arith) (inr (inr (omega arith)))

    -- a row that is not touched
    pub stands-untouched : T j ≡ false → (c : ℕ) → 1 ≤ c → c ≤ m → standing m R W (suc j) c ≡ standing m R W j c
    stands-untouched t c x y =
        elim (eq-or-ne c j) [
          | inl e ↦
              let d : is_done m R W (suc j) c ≡ false = rw (ap T e ∙ t) refl in
              let k : is_done m R W j c ≡ false = rw (ap T e ∙ t) refl in
              stands-none (suc j) c d ∙ sym (stands-none j c k)
          | inr e ↦ stands-keep c e
              (λ z. let w : (T c ≡ true) × (c < j) × (U c ≡ j) = waits-child c z in
              true≢false (sym (sym (ap T w.2) ∙ touched-parent m (R ++ W) W c x y w.0 (omega arith)) ∙ t))
              (λ z. let w : (T c ≡ true) × (c < j) × (U c < j) × (0 < U c) × (O c ≡ j) = waits-lost c x y z in
              true≢false (sym (sym (ap T w.4) ∙ touched-old-parent m R W c x y w.0 (omega arith)) ∙ t))
        ]

    -- ---- who is handled

    -- the children of j in the tree are those that wait in its first queue, the lost ones those in its second
    pub children-wait : (c : ℕ) → 1 ≤ c → c ≤ m → children m R W j c ≡ eqb (standing m R W j c) j
    children-wait c x y =
        both_ways (children m R W j c) (eqb (standing m R W j c) j)
        (λ h.
        let t : (T c ≡ true) × (eqb (U c) j ≡ true) = and_both (T c) (eqb (U c) j) h in
        let u : U c ≡ j = eqb-true (U c) j t.1 in
        let v : (c < U c) × (U c ≤ m) = tree-above c x y (omega arith) in
        eq-eqb (standing m R W j c) j (stands-tree j c (done-true j c t.0 (omega arith)) (omega arith) ∙ u))
        (λ h. let w : (T c ≡ true) × (c < j) × (U c ≡ j) = waits-child c (eqb-true (standing m R W j c) j h) in both-and w.0 (eq-eqb (U c) j w.2))

    pub lost-wait : (c : ℕ) → 1 ≤ c → c ≤ m → lost m R W j c ≡ eqb (standing m R W j c) (m + j)
    lost-wait c x y =
        both_ways (lost m R W j c) (eqb (standing m R W j c) (m + j))
        (λ h.
        let t : ((T c && not (eqb (U c) j)) ≡ true) × (eqb (O c) j ≡ true) = and_both (T c && not (eqb (U c) j)) (eqb (O c) j) h in
        let k : (T c ≡ true) × (not (eqb (U c) j) ≡ true) = and_both (T c) (not (eqb (U c) j)) t.0 in
        let o : O c ≡ j = eqb-true (O c) j t.1 in
        let u : U c ≢ j = eqb-false (U c) j (not-true (eqb (U c) j) k.1) in
        let v : (0 < U c) × (U c ≤ O c) × (c < O c) × (O c ≤ m) = other-above c x y (omega arith) in
        eq-eqb (standing m R W j c) (m + j)
        (stands-other j c (done-true j c k.0 (omega arith)) (omega arith) v.0 (omega arith) (omega arith) ∙ ap (λ (z : ℕ). m + z) o))
        (λ h.
        let w : (T c ≡ true) × (c < j) × (U c < j) × (0 < U c) × (O c ≡ j) = waits-lost c x y (eqb-true (standing m R W j c) (m + j) h) in
        both-and (both-and w.0 (ap not (ne_eqb (U c) j (omega arith)))) (eq-eqb (O c) j w.4))

    -- who waits for j in its turn is not handled, and waited there before it
    pub waits-fresh : (H : ℕ → Bool) (c h : ℕ) → 1 ≤ c → c ≤ m → (h ≡ j) ⊎ (h ≡ m + j) → waiting m R W j H c ≡ h → (H c ≡ false) × (standing m R W j c ≡ h)
    waits-fresh H c h x y side e =
        elim (cases (H c)) [
          | inr f ↦ (f, sym (by f) ∙ e)
          | inl t ↦
              let k : standing m R W (suc j) c ≡ h = sym (by t) ∙ e in
              absurd (elim side [ inl s ↦ (never_here c x y).0 (k ∙ s) | inr s ↦ (never_here c x y).1 (k ∙ s) ])
        ]
      where
        by : {z : Bool} → H c ≡ z → waiting m R W j H c ≡ pick z (standing m R W (suc j) c) (standing m R W j c)
        by f = ap (λ (z : Bool). pick z (standing m R W (suc j) c) (standing m R W j c)) f

    -- where columns wait with one more handled
    pub waiting-also : (H : ℕ → Bool) (c d : ℕ) → waiting m R W j (also H c) d ≡ moved (waiting m R W j H) c (standing m R W (suc j) c) d
    waiting-also H c d =
        elim (eq-or-ne d c) [
          | inl e ↦ rw (eq-eqb d c e) (ap (λ (z : Bool). pick z (standing m R W (suc j) d) (standing m R W j d)) (or_right (H d) true refl) ∙ ap (standing m R W (suc j)) e)
          | inr e ↦ rw (ne_eqb d c e) (ap (λ (z : Bool). pick z (standing m R W (suc j) d) (standing m R W j d)) (or-false (H d)))
        ]

    -- where columns wait after D
    pub family-places : (c : ℕ) → 1 ≤ c → c ≤ m → c ≢ j → waiting m R W j (family m R W j) c ≡ standing m R W (suc j) c
    family-places c x y n =
        elim (cases (family m R W j c)) [
          | inl t ↦ ap (λ (z : Bool). pick z (standing m R W (suc j) c) (standing m R W j c)) t
          | inr f ↦ ap (λ (z : Bool). pick z (standing m R W (suc j) c) (standing m R W j c)) f ∙
              sym (stands-keep c n
              (λ e. true≢false (sym (or_left (children m R W j c) (lost m R W j c) (children-wait c x y ∙ eq-eqb (standing m R W j c) j e)) ∙ f))
              (λ e. true≢false (sym (or_right (children m R W j c) (lost m R W j c) (lost-wait c x y ∙ eq-eqb (standing m R W j c) (m + j) e)) ∙ f)))
        ]

    pub family-own : waiting m R W j (family m R W j) j ≡ 0
    family-own =
        let e : family m R W j j ≡ false =
        refute (family m R W j j) (λ h. elim (or-either (children m R W j j) (lost m R W j j) h) [
          | inl t ↦ omega (arith, stands-before, eqb-true (standing m R W j j) j (sym (children-wait j a b) ∙ t))
          | inr t ↦ omega (arith, stands-before, eqb-true (standing m R W j j) (m + j) (sym (lost-wait j a b) ∙ t))
        ]) in
        ap (λ (z : Bool). pick z (standing m R W (suc j) j) (standing m R W j j)) e ∙ stands-before

    pub family-none : (c : ℕ) → 1 ≤ c → c ≤ m → waiting m R W j (family m R W j) c ≢ j
    family-none c x y e =
        elim (eq-or-ne c j) [
          | inl k ↦ omega (arith, family-own, ap (waiting m R W j (family m R W j)) k)
          | inr k ↦ (never_here c x y).0 (sym (family-places c x y k) ∙ e)
        ]
