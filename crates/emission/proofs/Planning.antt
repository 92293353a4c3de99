-- One row planned. The walk stands before row s + 1: the record at hand says its old multiplicity (`value-is`), the row fits an entry and has a place for it
-- (`turn-plan`), and each outcome of planning it makes progress (`planned-turned`). Assumes nothing.
use mathlib.Core.Path.{◌≡◌, refl, sym, ap, subst, ◌∙◌}
use mathlib.Core.Logic.{inl, inr, ◌≢◌}
use mathlib.Core.Bool.{true, false, not, true≢false}
use mathlib.Core.List.{List, [], ◌∷◌, ◌++◌, append_assoc}
use Prim.Native.Nat.{ℕ, suc, ◌+◌, ◌-◌, ◌*◌, ◌≤◌, ◌<◌}
use native.Mathlib.Omega.{arith}
use lib.Dec.{eqb}
use lib.ListN.{length, get_or, drop, set, length-append, length-set}
use lib.Seq.{get_or-set_same, get_or-set_other}
use borrow.Author.Tests.{eq-eqb, ne_eqb}
use Rattle.lists.specs.Lists.{pick, one, Mem, first, at, values_at}
use Rattle.lists.proofs.Tests.{eq-or-ne, one-le}
use Rattle.symbolic.specs.Factor.{pattern_from}
use Rattle.workspace.specs.Regions.{Outside}
use Rattle.workspace.specs.Planned.{packed, FitsEntry}
use Rattle.workspace.proofs.Planned.{packed-kind}
use Rattle.workspace.proofs.Regions.{store-leaves-region}
use Rattle.pool.specs.Chains.{chain, Linked}
use Rattle.columns.specs.Plan.{of_kind}
use Rattle.columns.proofs.Plan.{kind-append}
use Rattle.differences.specs.Gather.{plan_part}
use Rattle.differences.proofs.Chain.{Onward, chain-onward, chain-over}
use Rattle.differences.proofs.Parts.{part-next}
use Rattle.differences.proofs.Following.{values-front}
use Rattle.emission.specs.Plans.{kind_for, plan_from}
use Rattle.emission.specs.Walks.{first_over, stored_at, CanPlan, Planned, same, stored, fresh, spent}
use Rattle.emission.specs.Emit.{CanEmit}
use Rattle.emission.specs.declared.Walk.{Walk}
use Rattle.emission.proofs.Plans.{entry-fits, kind-push}
use Rattle.emission.proofs.Left.{Left, Head, left-with, left-head, none_rows, none-counts, none_above}
use Rattle.emission.proofs.Turning.{onward-at, Fields, Going, Turned, going-short, kind-new, kind-old}

module _ {rows counts next w₀ : List ℕ} {m n j head used avail : ℕ} {old new : List ℕ} (can : CanEmit rows counts next w₀ m n j head used avail old new)
    {s : ℕ} {w : List ℕ} {walk : Walk} (g : Going rows counts next m j used avail old new s w walk) (below : s < m) where
  -- the row's multiplicities
  abbrev o : ℕ
  o = get_or old s 0

  abbrev o' : ℕ
  o' = get_or new s 0

  in-old : s < length old
  in-old = omega (arith, can.old-long)

  in-new : s < length new
  in-new = omega (arith, can.new-long)

  -- ---- the record at hand

  -- the row has one: it is the first of the chain
  module _ (z : o ≢ 0) where
    head-is : Head g.left in-old in-new
    head-is = left-head g.left in-old in-new z

    at_some : walk.at.0 ≢ 0
    at_some e = omega (arith, ap length head-is.parts, ap length (chain-over next walk.at.0 e g.linked))

    onward : Onward next walk.at.0
    onward = chain-onward next walk.at.0 at_some g.linked

    same-record : head-is.record₁ ≡ walk.at.0
    same-record = ap (λ (xs : List ℕ). get_or xs 0 0) (sym head-is.parts ∙ onward.parts)

    same_rest : head-is.rest ≡ chain next (at next walk.at.0)
    same_rest = ap (drop 1) (sym head-is.parts ∙ onward.parts)

    pub turn_inside : (1 ≤ walk.at.0) × (walk.at.0 ≤ length next)
    turn_inside = (onward.low, onward.high)

  pub value-is : stored_at rows counts walk.at.0 (suc s) ≡ o
  value-is =
      elim (eq-or-ne o 0) [
        | inr z ↦
            rw (ne_eqb walk.at.0 0 (at_some z), eq-eqb (at rows walk.at.0) (suc s) (ap (at rows) (sym (same-record z)) ∙ (head-is z).row))
            (ap (at counts) (sym (same-record z)) ∙ (head-is z).count)
        | inl z ↦
            elim (eq-or-ne walk.at.0 0) [
              | inl e ↦ rw (eq-eqb walk.at.0 0 e) (sym z)
              | inr e ↦
                  let q : Mem (at rows walk.at.0) (values_at rows (chain next walk.at.0)) =
                  subst (λ (xs : List ℕ). Mem (at rows walk.at.0) xs)
                  (sym (ap (values_at rows) (chain-onward next walk.at.0 e g.linked).parts ∙ values-front rows walk.at.0 (chain next (at next walk.at.0)))) first in
                  rw (ne_eqb walk.at.0 0 e, ne_eqb (at rows walk.at.0) (suc s) (λ d. omega (arith, none_above g.left in-old in-new z (at rows walk.at.0) q))) (sym z)
            ]
      ]

  -- ---- the walk with the row behind it

  abbrev after-at : ℕ
  after-at = onward-at next o walk.at.0

  abbrev entry : ℕ
  entry = packed (suc s) o' (kind_for o o')

  abbrev es : List ℕ
  es = plan_part m w used walk.used

  pub turn-linked : Linked next after-at (chain next after-at)
  turn-linked = elim (eq-or-ne o 0) [ inl z ↦ rw (eq-eqb o 0 z) g.linked | inr z ↦ rw (ne_eqb o 0 z) (onward z).linked ]

  turn-length : length (chain next after-at) + one (not (eqb o 0)) ≡ length (chain next walk.at.0)
  turn-length =
      elim (eq-or-ne o 0) [
        | inl z ↦ rw (eq-eqb o 0 z) (omega arith)
        | inr z ↦ rw (ne_eqb o 0 z) (omega (arith, ap length (onward z).parts))
      ]

  turn-left : Left rows counts j old new (suc s) (chain next after-at) (walk.size + one (not (eqb o' 0))) (pick (eqb o' 0) walk.parent.0 (first_over j walk.parent.0 (suc s)))
      (pick (eqb o o') es (es ++ (entry ∷ [])))
  turn-left =
      elim (eq-or-ne o 0) [
        | inl z ↦
            subst (λ (q : ℕ). Left rows counts j old new (suc s) (chain next q) (walk.size + one (not (eqb o' 0))) (pick (eqb o' 0) walk.parent.0 (first_over j walk.parent.0 (suc s)))
            (pick (eqb o o') es (es ++ (entry ∷ [])))) (sym (stay-at z))
            (left-with g.left in-old in-new (chain next walk.at.0) (none_rows g.left in-old in-new z) (none-counts g.left in-old in-new z))
        | inr z ↦
            subst (λ (q : ℕ). Left rows counts j old new (suc s) (chain next q) (walk.size + one (not (eqb o' 0))) (pick (eqb o' 0) walk.parent.0 (first_over j walk.parent.0 (suc s)))
            (pick (eqb o o') es (es ++ (entry ∷ [])))) (sym (move_at z))
            (left-with g.left in-old in-new (chain next (at next walk.at.0)) (ap (values_at rows) (sym (same_rest z)) ∙ (head-is z).rows-rest)
            (ap (values_at counts) (sym (same_rest z)) ∙ (head-is z).counts-rest))
      ]
    where
      stay-at : o ≡ 0 → after-at ≡ walk.at.0
      stay-at z = rw (eq-eqb o 0 z) refl

      move_at : o ≢ 0 → after-at ≡ at next walk.at.0
      move_at z = rw (ne_eqb o 0 z) refl

  -- ---- what planning it needs

  new-small : o' < 65536
  new-small = let e : suc s - 1 ≡ s = omega arith in omega (arith, can.small (suc s), ap (λ (k : ℕ). get_or new k 0) e)

  fit : FitsEntry (suc s) o' (kind_for o o')
  fit = entry-fits (suc s) o o' (omega arith) (omega (arith, can.narrow)) new-small

  place-free : o ≢ 0 → walk.used < length next
  place-free z = omega (arith, g.room, ap length (onward z).parts)

  free-onward : walk.avail.0 ≢ 0 → Onward next walk.avail.0
  free-onward a = chain-onward next walk.avail.0 a g.free

  place-new : walk.avail.0 ≢ 0 → walk.used < length next
  place-new a = omega (arith, g.room, ap length (free-onward a).parts)

  module _ {v : Walk} (f : Fields next j (suc s) o o' walk v) (long : 8 * m + length next ≤ length w) where
    pub turn-plan : CanPlan next w m (suc s) o o' v
    turn-plan =
        record {
          row_low = omega arith;
          row-high = omega (arith, can.narrow);
          new-small = new-small;
          size_small = omega (arith, f.size_is, going-short can g, one-le (not (eqb o' 0)));
          free = elim (eq-or-ne walk.avail.0 0) [ inl z ↦ omega (arith, f.avail-is) | inr z ↦ omega (arith, f.avail-is, (free-onward z).high) ];
          place = λ h. elim (eq-or-ne o 0) [
            | inl z ↦ omega (arith, place-new (λ e. h z (f.avail-is ∙ e)), f.used-is)
            | inr z ↦ omega (arith, place-free z, f.used-is)
          ];
        }

    -- one entry more in the plan region
    module _ (h : walk.used < length next) where
      abbrev u : List ℕ
      u = set w (8 * m + walk.used) entry

      plan-longer : plan_part m u used (walk.used + 1) ≡ es ++ (entry ∷ [])
      plan-longer =
          part-next m u used walk.used g.used_low (simp length-set (omega arith)) ∙
          ap (λ (x : ℕ). plan_part m u used walk.used ++ (x ∷ [])) (get_or-set_same w (8 * m + walk.used) entry 0 (omega arith)) ∙
          ap (λ (xs : List ℕ). xs ++ (entry ∷ [])) (store-leaves-region w (8 * m + walk.used) entry (8 * m + used) (walk.used - used) (inr (omega (arith, g.used_low))))

      plan-frame : (k : ℕ) → Outside (8 * m + used) (walk.used + 1 - used) k → get_or u k 0 ≡ get_or w k 0
      plan-frame k out = get_or-set_other w (8 * m + walk.used) k entry 0 (λ e. elim out [ inl p ↦ omega (arith, g.used_low) | inr p ↦ omega (arith, g.used_low) ])

    -- the records behind and to come are all
    behind-all : (after : Walk) → after.at.0 ≡ v.at.0 → after.behind ≡ v.behind → after.behind + length (chain next after.at.0) ≡ length (pattern_from 1 old)
    behind-all after a n = omega (arith, n, f.behind-is, ap (λ (y : ℕ). length (chain next y)) (a ∙ f.at-is), turn-length, g.behind)

    -- the plan still fits
    going-made : (x : List ℕ) (after : Walk) (taken' : List ℕ) → after.at.0 ≡ v.at.0 → after.behind ≡ v.behind → after.size ≡ v.size → after.parent.0 ≡ v.parent.0 →
        plan_part m x used after.used ≡ pick (eqb o o') es (es ++ (entry ∷ [])) → Linked next after.avail.0 (chain next after.avail.0) →
        chain next avail ≡ taken' ++ chain next after.avail.0 → length taken' ≡ of_kind 1 (plan_part m x used after.used) → used ≤ after.used →
        after.used + length (chain next after-at) + length (chain next after.avail.0) ≤ length next → Going rows counts next m j used avail old new (suc s) x after
    going-made x after taken' a n b c d e p q l r =
        record {
          left = rw (a ∙ f.at-is, b ∙ f.size_is, c ∙ f.parent_is, d) turn-left;
          linked = rw (a ∙ f.at-is) turn-linked;
          free = e;
          taken = taken';
          parts = p;
          taken-size = q;
          used_low = l;
          behind = behind-all after a n;
          room = omega (arith, r, ap (λ (y : ℕ). length (chain next y)) (a ∙ f.at-is));
        }

    turned : (x : List ℕ) (after : Walk) → after.at.0 ≡ v.at.0 → after.behind ≡ v.behind → after.size ≡ v.size → used ≤ after.used → after.used ≤ length next →
        (after.fits ≡ true → Going rows counts next m j used avail old new (suc s) x after) → (after.fits ≡ false → length (chain next avail) < of_kind 1 (plan_from 1 old new)) →
        length x ≡ length w → ((k : ℕ) → Outside (8 * m + used) (after.used - used) k → get_or x k 0 ≡ get_or w k 0) → Turned rows counts next m j used avail old new (suc s) w x after
    turned x after a n b l h p q e r =
        record {
          progress = record {
            linked = rw (a ∙ f.at-is) turn-linked;
            small = omega (arith, b, f.size_is, ap (λ (y : ℕ). length (chain next y)) (a ∙ f.at-is), turn-length, going-short can g, one-le (not (eqb o' 0)));
            behind = behind-all after a n;
            used_low = l;
            used_high = h;
            going = p;
            short = q;
          };
          same_length = e;
          frame = r;
        }

    entry-kind : (k : ℕ) → of_kind k (es ++ (entry ∷ [])) ≡ of_kind k es + one (eqb (kind_for o o') k)
    entry-kind k = kind-push k es entry ∙ ap (λ (x : ℕ). of_kind k es + one (eqb x k)) (packed-kind fit)

    -- ---- the outcomes

    pub planned-turned : {x : List ℕ} {after : Walk} → walk.fits ≡ true → Planned next w m (suc s) o o' v x after → Turned rows counts next m j used avail old new (suc s) w x after
    planned-turned {x} {after} y (same d wx ax) =
        let a-used : after.used ≡ walk.used = ap (λ (q : Walk). q.used) ax ∙ f.used-is in
        let a-avail : after.avail.0 ≡ walk.avail.0 = ap (λ (q : Walk). q.avail.0) ax ∙ f.avail-is in
        let e : plan_part m x used after.used ≡ es = rw (wx, a-used) refl in
        turned x after (ap (λ (q : Walk). q.at.0) ax) (ap (λ (q : Walk). q.behind) ax) (ap (λ (q : Walk). q.size) ax) (omega (arith, g.used_low)) (omega (arith, g.room))
        (λ t. going-made x after g.taken (ap (λ (q : Walk). q.at.0) ax) (ap (λ (q : Walk). q.behind) ax) (ap (λ (q : Walk). q.size) ax) (ap (λ (q : Walk). q.parent.0) ax)
        (e ∙ sym (kept d)) (rw a-avail g.free) (rw a-avail g.parts) (g.taken-size ∙ ap (of_kind 1) (sym e)) (omega (arith, g.used_low))
        (omega (arith, g.room, turn-length, ap (λ (q : ℕ). length (chain next q)) a-avail)))
        (λ t. absurd (true≢false (sym (ap (λ (q : Walk). q.fits) ax ∙ f.fits-is ∙ y) ∙ t))) (ap length wx) (λ k out. ap (λ (q : List ℕ). get_or q k 0) wx)
      where
        kept : o ≡ o' → pick (eqb o o') es (es ++ (entry ∷ [])) ≡ es
        kept d = rw (eq-eqb o o' d) refl
    planned-turned {x} {after} y (stored z d wx ax) =
        let h : walk.used < length next = place-free z in
        let a-used : after.used ≡ walk.used + 1 = ap (λ (q : Walk). q.used) ax ∙ ap (λ (q : ℕ). q + 1) f.used-is in
        let a-avail : after.avail.0 ≡ walk.avail.0 = ap (λ (q : Walk). q.avail.0) ax ∙ f.avail-is in
        let wy : x ≡ set w (8 * m + walk.used) entry = wx ∙ ap (λ (q : ℕ). set w (8 * m + q) entry) f.used-is in
        let e : plan_part m x used after.used ≡ es ++ (entry ∷ []) = rw (wy, a-used) (plan-longer h) in
        turned x after (ap (λ (q : Walk). q.at.0) ax) (ap (λ (q : Walk). q.behind) ax) (ap (λ (q : Walk). q.size) ax) (omega (arith, g.used_low)) (omega arith)
        (λ t. going-made x after g.taken (ap (λ (q : Walk). q.at.0) ax) (ap (λ (q : Walk). q.behind) ax) (ap (λ (q : Walk). q.size) ax) (ap (λ (q : Walk). q.parent.0) ax)
        (e ∙ sym (more d)) (rw a-avail g.free) (rw a-avail g.parts) (omega (arith, g.taken-size, ap (of_kind 1) e, entry-kind 1, kind-old o o' z)) (omega (arith, g.used_low))
        (omega (arith, g.room, turn-length, some z, ap (λ (q : ℕ). length (chain next q)) a-avail)))
        (λ t. absurd (true≢false (sym (ap (λ (q : Walk). q.fits) ax ∙ f.fits-is ∙ y) ∙ t))) (ap length wy ∙ simp length-set)
        (λ k out. ap (λ (q : List ℕ). get_or q k 0) wy ∙ plan-frame h k (subst (λ (q : ℕ). Outside (8 * m + used) (q - used) k) a-used out))
      where
        more : o ≢ o' → pick (eqb o o') es (es ++ (entry ∷ [])) ≡ es ++ (entry ∷ [])
        more d = rw (ne_eqb o o' d) refl

        some : o ≢ 0 → one (not (eqb o 0)) ≡ 1
        some z = rw (ne_eqb o 0 z) refl
    planned-turned {x} {after} y (fresh z d a wx ax) =
        let b : walk.avail.0 ≢ 0 = (λ q. a (f.avail-is ∙ q)) in
        let h : walk.used < length next = place-new b in
        let a-used : after.used ≡ walk.used + 1 = ap (λ (q : Walk). q.used) ax ∙ ap (λ (q : ℕ). q + 1) f.used-is in
        let a-avail : after.avail.0 ≡ at next walk.avail.0 = ap (λ (q : Walk). q.avail.0) ax ∙ ap (at next) f.avail-is in
        let wy : x ≡ set w (8 * m + walk.used) entry = wx ∙ ap (λ (q : ℕ). set w (8 * m + q) entry) f.used-is in
        let e : plan_part m x used after.used ≡ es ++ (entry ∷ []) = rw (wy, a-used) (plan-longer h) in
        let free : Onward next walk.avail.0 = free-onward b in
        turned x after (ap (λ (q : Walk). q.at.0) ax) (ap (λ (q : Walk). q.behind) ax) (ap (λ (q : Walk). q.size) ax) (omega (arith, g.used_low)) (omega arith)
        (λ t. going-made x after (g.taken ++ (walk.avail.0 ∷ [])) (ap (λ (q : Walk). q.at.0) ax) (ap (λ (q : Walk). q.behind) ax) (ap (λ (q : Walk). q.size) ax) (ap (λ (q : Walk). q.parent.0) ax)
        (e ∙ sym (more d)) (rw a-avail free.linked)
        (rw a-avail (g.parts ∙ ap (λ (xs : List ℕ). g.taken ++ xs) free.parts ∙ sym (append_assoc g.taken (walk.avail.0 ∷ []) (chain next (at next walk.avail.0)))))
        (omega (arith, length-append g.taken (walk.avail.0 ∷ []), g.taken-size, ap (of_kind 1) e, entry-kind 1, kind-new o o' z)) (omega (arith, g.used_low))
        (omega (arith, g.room, turn-length, none z, ap (λ (q : ℕ). length (chain next q)) a-avail, ap length free.parts)))
        (λ t. absurd (true≢false (sym (ap (λ (q : Walk). q.fits) ax ∙ f.fits-is ∙ y) ∙ t))) (ap length wy ∙ simp length-set)
        (λ k out. ap (λ (q : List ℕ). get_or q k 0) wy ∙ plan-frame h k (subst (λ (q : ℕ). Outside (8 * m + used) (q - used) k) a-used out))
      where
        more : o ≢ o' → pick (eqb o o') es (es ++ (entry ∷ [])) ≡ es ++ (entry ∷ [])
        more d = rw (ne_eqb o o' d) refl

        none : o ≡ 0 → one (not (eqb o 0)) ≡ 0
        none z = rw (eq-eqb o 0 z) refl
    planned-turned {x} {after} y (spent z d a wx ax) =
        let a-used : after.used ≡ walk.used = ap (λ (q : Walk). q.used) ax ∙ f.used-is in
        let empty : chain next walk.avail.0 ≡ [] = chain-over next walk.avail.0 (sym f.avail-is ∙ a) g.free in
        let whole : (es ++ (entry ∷ [])) ++ plan_from (suc (suc s)) (drop (suc s) old) (drop (suc s) new) ≡ plan_from 1 old new =
        ap (λ (xs : List ℕ). xs ++ plan_from (suc (suc s)) (drop (suc s) old) (drop (suc s) new)) (sym (more d)) ∙ turn-left.plan-left in
        turned x after (ap (λ (q : Walk). q.at.0) ax) (ap (λ (q : Walk). q.behind) ax) (ap (λ (q : Walk). q.size) ax) (omega (arith, g.used_low)) (omega (arith, g.room))
        (λ t. absurd (true≢false (sym t ∙ ap (λ (q : Walk). q.fits) ax)))
        (λ t. omega (
          arith,
          ap length g.parts,
          length-append g.taken (chain next walk.avail.0),
          ap length empty,
          g.taken-size,
          ap (of_kind 1) whole,
          kind-append 1 (es ++ (entry ∷ [])) (plan_from (suc (suc s)) (drop (suc s) old) (drop (suc s) new)),
          entry-kind 1,
          kind-new o o' z,
        )) (ap length wx)
        (λ k out. ap (λ (q : List ℕ). get_or q k 0) wx)
      where
        more : o ≢ o' → pick (eqb o o') es (es ++ (entry ∷ [])) ≡ es ++ (entry ∷ [])
        more d = rw (ne_eqb o o' d) refl
