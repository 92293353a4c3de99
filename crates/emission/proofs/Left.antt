-- The walk over rows 1 to m, row by row: what is left of it. Rows up to t are dealt with; the records to come are those of the old rows above t, and what
-- was counted, found and planned, with what the new rows above t give, is what all new rows give. One row more (`left-with`), no record or one record for
-- it, and a run of rows that do not change (`left-pass`). Assumes nothing.
use mathlib.Core.Path.{◌≡◌, refl, sym, ap, subst, ◌∙◌}
use mathlib.Core.Logic.{inl, inr, ◌≢◌}
use mathlib.Core.Bool.{not}
use mathlib.Core.List.{List, [], ◌∷◌, ◌++◌, append_assoc, append-nil}
use Prim.Native.Nat.{ℕ, zero, suc, ◌+◌, ◌≤◌, ◌<◌}
use native.Mathlib.Omega.{arith}
use lib.Dec.{ltb, eqb}
use lib.ListN.{length, get_or, drop, drop_of_length-le}
use lib.Seq.{drop-cons}
use borrow.Author.Tests.{eq-eqb, ne_eqb}
use Rattle.lists.specs.Lists.{pick, one, Mem, first, later, at, values_at}
use Rattle.lists.proofs.Tests.{cases, eq-or-ne}
use Rattle.lists.proofs.Rising.{rises-in}
use Rattle.symbolic.specs.Factor.{pattern_from, non_zero, first_above}
use Rattle.symbolic.proofs.Patterns.{pattern-rises}
use Rattle.workspace.specs.Planned.{packed}
use Rattle.emission.specs.Plans.{kind_for, plan_from}
use Rattle.emission.specs.Walks.{first_over, first_of}

pub record Left (rows counts : List ℕ) (j : ℕ) (old new : List ℕ) (t : ℕ) (rs : List ℕ) (size parent : ℕ) (es : List ℕ) : Type 0 where
  pub rows_left : values_at rows rs ≡ pattern_from (suc t) (drop t old)
  pub counts-left : values_at counts rs ≡ non_zero (drop t old)
  pub size-left : size + length (pattern_from (suc t) (drop t new)) ≡ length (pattern_from 1 new)
  pub parent-left : pick (eqb parent 0) (first_above j (suc t) (drop t new)) parent ≡ first_above j 1 new
  pub plan-left : es ++ plan_from (suc t) (drop t old) (drop t new) ≡ plan_from 1 old new

-- ---- one multiplicity at the front

pattern-zero : (i : ℕ) (n : ℕ) (ns : List ℕ) → n ≡ 0 → pattern_from i (n ∷ ns) ≡ pattern_from (suc i) ns
unfolding pattern_from
pattern-zero i n ns z = rw (eq-eqb n 0 z)

pattern-some : (i : ℕ) (n : ℕ) (ns : List ℕ) → n ≢ 0 → pattern_from i (n ∷ ns) ≡ i ∷ pattern_from (suc i) ns
unfolding pattern_from
pattern-some i n ns z = rw (ne_eqb n 0 z)

counts_zero : (n : ℕ) (ns : List ℕ) → n ≡ 0 → non_zero (n ∷ ns) ≡ non_zero ns
unfolding non_zero
counts_zero n ns z = rw (eq-eqb n 0 z)

counts_some : (n : ℕ) (ns : List ℕ) → n ≢ 0 → non_zero (n ∷ ns) ≡ n ∷ non_zero ns
unfolding non_zero
counts_some n ns z = rw (ne_eqb n 0 z)

size-front : (i n : ℕ) (ns : List ℕ) → length (pattern_from i (n ∷ ns)) ≡ one (not (eqb n 0)) + length (pattern_from (suc i) ns)
size-front i n ns =
    elim (eq-or-ne n 0) [
      | inl z ↦ rw (eq-eqb n 0 z) (omega (arith, ap length (pattern-zero i n ns z)))
      | inr z ↦ rw (ne_eqb n 0 z) (omega (arith, ap length (pattern-some i n ns z)))
    ]

parent-front : (j p t n : ℕ) (ns : List ℕ) →
    pick (eqb p 0) (first_above j (suc t) (n ∷ ns)) p ≡
    pick (eqb (pick (eqb n 0) p (first_over j p (suc t))) 0) (first_above j (suc (suc t)) ns) (pick (eqb n 0) p (first_over j p (suc t)))
unfolding first_above
parent-front j p t n ns =
    elim (cases (eqb n 0)) [
      | inl e ↦ elim (cases (ltb j (suc t))) [ inl d ↦ rw (e, d) refl | inr d ↦ rw (e, d) refl ]
      | inr e ↦ elim (cases (eqb p 0)) [
        | inl c ↦ elim (cases (ltb j (suc t))) [ inl d ↦ rw (e, c, d) (rw (ne_eqb (suc t) 0 (λ q. omega arith)) refl) | inr d ↦ rw (e, c, d) (rw c refl) ]
        | inr c ↦ rw (e, c) (rw c refl)
      ]
    ]

plan-front : (es : List ℕ) (i n n' : ℕ) (ns ns' : List ℕ) →
    es ++ plan_from i (n ∷ ns) (n' ∷ ns') ≡ pick (eqb n n') es (es ++ (packed i n' (kind_for n n') ∷ [])) ++ plan_from (suc i) ns ns'
unfolding plan_from
plan-front es i n n' ns ns' =
    elim (cases (eqb n n')) [
      | inl e ↦ rw e refl
      | inr e ↦ rw e (sym (append_assoc es (packed i n' (kind_for n n') ∷ []) (plan_from (suc i) ns ns')))
    ]

-- ---- the start and the end

module _ {rows counts : List ℕ} {j : ℕ} {old new : List ℕ} where
  pub left-start : (rs : List ℕ) → values_at rows rs ≡ pattern_from 1 old → values_at counts rs ≡ non_zero old → Left rows counts j old new 0 rs 0 0 []
  left-start rs e d = record { rows_left = e; counts-left = d; size-left = omega arith; parent-left = refl; plan-left = refl }

  module _ {t : ℕ} {rs : List ℕ} {size parent : ℕ} {es : List ℕ} (g : Left rows counts j old new t rs size parent es) where
    -- rows to come are above t
    pub left-above : (i : ℕ) → Mem i (values_at rows rs) → t < i
    left-above i n =
        (rises-in (suc t) (t + length (drop t old)) (subst (λ (xs : List ℕ). Mem i xs) g.rows_left n) (pattern-rises (suc t) (drop t old) (t + length (drop t old)) (omega arith))).0

    pub record Ended : Type 0 where
      pub size_is : size ≡ length (pattern_from 1 new)
      pub parent_is : parent ≡ first_above j 1 new
      pub plan-is : es ≡ plan_from 1 old new

    pub left_end : length old ≤ t → length new ≤ t → Ended
    unfolding pattern_from first_above plan_from
    left_end a b =
        let e : drop t old ≡ [] = drop_of_length-le old a in
        let f : drop t new ≡ [] = drop_of_length-le new b in
        record {
          size_is = omega (arith, g.size-left, ap (λ (xs : List ℕ). length (pattern_from (suc t) xs)) f);
          parent_is = ends parent ∙ subst (λ (xs : List ℕ). pick (eqb parent 0) (first_above j (suc t) xs) parent ≡ first_above j 1 new) f g.parent-left;
          plan-is = sym (append-nil es) ∙ subst (λ (xs : List ℕ). es ++ plan_from (suc t) xs (drop t new) ≡ plan_from 1 old new) e g.plan-left;
        }
      where
        ends : (p : ℕ) → p ≡ pick (eqb p 0) 0 p
        ends p = elim (eq-or-ne p 0) [ inl z ↦ rw (z) refl | inr z ↦ rw (ne_eqb p 0 z) refl ]

    -- ---- one row more

    module _ (a : t < length old) (b : t < length new) where
      front-old : drop t old ≡ get_or old t 0 ∷ drop (suc t) old
      front-old = drop-cons old t 0 a

      front-new : drop t new ≡ get_or new t 0 ∷ drop (suc t) new
      front-new = drop-cons new t 0 b

      pub left-with : (rs' : List ℕ) → values_at rows rs' ≡ pattern_from (suc (suc t)) (drop (suc t) old) → values_at counts rs' ≡ non_zero (drop (suc t) old) →
          Left rows counts j old new (suc t) rs' (size + one (not (eqb (get_or new t 0) 0)))
          (pick (eqb (get_or new t 0) 0) parent (first_over j parent (suc t)))
          (pick (eqb (get_or old t 0) (get_or new t 0)) es (es ++ (packed (suc t) (get_or new t 0) (kind_for (get_or old t 0) (get_or new t 0)) ∷ [])))
      left-with rs' d e =
          record {
            rows_left = d;
            counts-left = e;
            size-left = omega (arith, g.size-left, ap (λ (xs : List ℕ). length (pattern_from (suc t) xs)) front-new, size-front (suc t) (get_or new t 0) (drop (suc t) new));
            parent-left = sym (parent-front j parent t (get_or new t 0) (drop (suc t) new)) ∙
                subst (λ (xs : List ℕ). pick (eqb parent 0) (first_above j (suc t) xs) parent ≡ first_above j 1 new) front-new g.parent-left;
            plan-left = sym (plan-front es (suc t) (get_or old t 0) (get_or new t 0) (drop (suc t) old) (drop (suc t) new)) ∙
                subst (λ (xs : List ℕ). es ++ plan_from (suc t) xs (get_or new t 0 ∷ drop (suc t) new) ≡ plan_from 1 old new) front-old
                (subst (λ (xs : List ℕ). es ++ plan_from (suc t) (drop t old) xs ≡ plan_from 1 old new) front-new g.plan-left);
          }

      -- no record is of the row
      module _ (z : get_or old t 0 ≡ 0) where
        pub none_rows : values_at rows rs ≡ pattern_from (suc (suc t)) (drop (suc t) old)
        none_rows = g.rows_left ∙ ap (pattern_from (suc t)) front-old ∙ pattern-zero (suc t) (get_or old t 0) (drop (suc t) old) z

        pub none-counts : values_at counts rs ≡ non_zero (drop (suc t) old)
        none-counts = g.counts-left ∙ ap non_zero front-old ∙ counts_zero (get_or old t 0) (drop (suc t) old) z

        pub none_above : (i : ℕ) → Mem i (values_at rows rs) → suc t < i
        none_above i n =
            (rises-in (suc (suc t)) (suc t + length (drop (suc t) old)) (subst (λ (xs : List ℕ). Mem i xs) none_rows n)
            (pattern-rises (suc (suc t)) (drop (suc t) old) (suc t + length (drop (suc t) old)) (omega arith))).0

      -- the first record is
      pub record Head : Type 0 where
        pub record₁ : ℕ
        pub rest : List ℕ
        pub parts : rs ≡ record₁ ∷ rest
        pub row : at rows record₁ ≡ suc t
        pub count : at counts record₁ ≡ get_or old t 0
        pub rows-rest : values_at rows rest ≡ pattern_from (suc (suc t)) (drop (suc t) old)
        pub counts-rest : values_at counts rest ≡ non_zero (drop (suc t) old)

      pub left-head : get_or old t 0 ≢ 0 → Head
      unfolding values_at
      left-head z =
          go rs (g.rows_left ∙ ap (pattern_from (suc t)) front-old ∙ pattern-some (suc t) (get_or old t 0) (drop (suc t) old) z)
          (g.counts-left ∙ ap non_zero front-old ∙ counts_some (get_or old t 0) (drop (suc t) old) z) refl
        where
          go : (qs : List ℕ) → values_at rows qs ≡ suc t ∷ pattern_from (suc (suc t)) (drop (suc t) old) → values_at counts qs ≡ get_or old t 0 ∷ non_zero (drop (suc t) old) →
              rs ≡ qs → Head
          go [] d e q = absurd (omega (arith, ap length d))
          go (r ∷ qs) d e q =
              record {
                record₁ = r;
                rest = qs;
                parts = q;
                row = ap (λ (xs : List ℕ). get_or xs 0 0) d;
                count = ap (λ (xs : List ℕ). get_or xs 0 0) e;
                rows-rest = ap (drop 1) d;
                counts-rest = ap (drop 1) e;
              }

-- ---- a run of rows that do not change

pub left_as : {rows counts : List ℕ} {j : ℕ} {old new : List ℕ} {t : ℕ} {rs : List ℕ} {size parent : ℕ} {es : List ℕ} {size' parent' : ℕ} {es' : List ℕ} →
    Left rows counts j old new t rs size parent es → size ≡ size' → parent ≡ parent' → es ≡ es' → Left rows counts j old new t rs size' parent' es'
left_as {rows} {counts} {j} {old} {new} {t} {rs} {size} {parent} {es} {size'} {parent'} {es'} g a b c =
    subst (λ (n : ℕ). Left rows counts j old new t rs n parent' es') a
    (subst (λ (p : ℕ). Left rows counts j old new t rs size p es') b (subst (λ (xs : List ℕ). Left rows counts j old new t rs size parent xs) c g))

module _ {rows counts : List ℕ} {j : ℕ} {old new : List ℕ} {t : ℕ} {rs : List ℕ} {size parent : ℕ} {es : List ℕ} where
  module _ (g : Left rows counts j old new t rs size parent es) (a : t < length old) (b : t < length new) where
    pub left-skip : get_or old t 0 ≡ 0 → get_or new t 0 ≡ 0 → Left rows counts j old new (suc t) rs size parent es
    left-skip y z =
        left_as (left-with g a b rs (none_rows g a b y) (none-counts g a b y)) (rw (eq-eqb (get_or new t 0) 0 z) (omega arith)) (rw (eq-eqb (get_or new t 0) 0 z) refl)
        (rw (eq-eqb (get_or old t 0) (get_or new t 0) (y ∙ sym z)) refl)

    pub left-keep : (z : get_or old t 0 ≢ 0) → get_or old t 0 ≡ get_or new t 0 →
        Left rows counts j old new (suc t) (left-head g a b z).rest (size + 1) (first_over j parent (suc t)) es
    left-keep z e =
        let y : get_or new t 0 ≢ 0 = (λ q. z (e ∙ q)) in
        left_as (left-with g a b (left-head g a b z).rest (left-head g a b z).rows-rest (left-head g a b z).counts-rest) (rw (ne_eqb (get_or new t 0) 0 y) refl)
        (rw (ne_eqb (get_or new t 0) 0 y) refl) (rw (eq-eqb (get_or old t 0) (get_or new t 0) e) refl)

-- g rows from t on do not change: the records of theirs are passed over
pub left-pass : {rows counts : List ℕ} {j : ℕ} {old new : List ℕ} {es : List ℕ} (g t : ℕ) (ps rs : List ℕ) (size parent : ℕ) → t + g ≤ length old → length new ≡ length old →
    ((u : ℕ) → t ≤ u → u < t + g → get_or old u 0 ≡ get_or new u 0) → ((i : ℕ) → Mem i (values_at rows ps) → i ≤ t + g) → ((i : ℕ) → Mem i (values_at rows rs) → t + g < i) →
    Left rows counts j old new t (ps ++ rs) size parent es → Left rows counts j old new (t + g) rs (size + length ps) (first_of j parent (values_at rows ps)) es
unfolding values_at first_of
left-pass {rows} {counts} {j} {old} {new} {es} zero t [] rs size parent l n same low high left =
    let e : t ≡ t + 0 = omega arith in
    left_as (subst (λ (u : ℕ). Left rows counts j old new u rs size parent es) e left) (omega arith) refl refl
left-pass {rows} zero t (r ∷ ps) rs size parent l n same low high left =
    absurd (omega (arith, low (at rows r) first, left-above left (at rows r) first))
left-pass {rows} {counts} {j} {old} {new} {es} (suc g) t [] rs size parent l n same low high left =
    let e : suc t + g ≡ t + suc g = omega arith in
    elim (eq-or-ne (get_or old t 0) 0) [
      | inl z ↦
          subst (λ (u : ℕ). Left rows counts j old new u rs (size + 0) parent es) e
          (left-pass g (suc t) [] rs size parent (omega arith) n (λ u p q. same u (omega arith) (omega arith)) (λ i m. elim m [ ])
          (λ i m. omega (arith, high i m)) (left-skip left (omega arith) (omega arith) z (sym (same t (omega arith) (omega arith)) ∙ z)))
      | inr z ↦
          let h : Head left (omega arith) (omega arith) = left-head left (omega arith) (omega arith) z in
          absurd (omega (arith, high (at rows h.record₁) (subst (λ (xs : List ℕ). Mem (at rows h.record₁) (values_at rows xs)) (sym h.parts) first), h.row))
    ]
left-pass {rows} {counts} {j} {old} {new} {es} (suc g) t (r ∷ ps) rs size parent l n same low high left =
    let e : suc t + g ≡ t + suc g = omega arith in
    elim (eq-or-ne (get_or old t 0) 0) [
      | inl z ↦
          subst (λ (u : ℕ). Left rows counts j old new u rs (size + suc (length ps)) (first_of j (first_over j parent (at rows r)) (values_at rows ps)) es) e
          (left-pass g (suc t) (r ∷ ps) rs size parent (omega arith) n (λ u p q. same u (omega arith) (omega arith)) (λ i m. omega (arith, low i m))
          (λ i m. omega (arith, high i m)) (left-skip left (omega arith) (omega arith) z (sym (same t (omega arith) (omega arith)) ∙ z)))
      | inr z ↦
          let a : t < length old = omega arith in
          let b : t < length new = omega arith in
          let h : Head left a b = left-head left a b z in
          let rest : h.rest ≡ ps ++ rs = sym (ap (drop 1) h.parts) in
          let here : suc t ≡ at rows r = sym h.row ∙ ap (λ (xs : List ℕ). at rows (get_or xs 0 0)) (sym h.parts) in
          let again : Left rows counts j old new (suc t) (ps ++ rs) (size + 1) (first_over j parent (at rows r)) es =
          subst (λ (xs : List ℕ). Left rows counts j old new (suc t) xs (size + 1) (first_over j parent (at rows r)) es) rest
          (left_as (left-keep left a b z (same t (omega arith) (omega arith))) refl (ap (first_over j parent) here) refl) in
          left_as (subst (λ (u : ℕ). Left rows counts j old new u rs (size + 1 + length ps) (first_of j (first_over j parent (at rows r)) (values_at rows ps)) es) e
          (left-pass g (suc t) ps rs (size + 1) (first_over j parent (at rows r)) (omega arith) n (λ u p q. same u (omega arith) (omega arith))
          (λ i m. omega (arith, low i (later m))) (λ i m. omega (arith, high i m)) again)) (omega arith) refl refl
    ]
