-- One touched row of the walk. While the plan fits (Going), what is left is `Left`, the free records taken are as many as the new rows planned, and the
-- plan region has room for the records to come and the free ones; the records behind and to come are all. Records before the row are passed over (`going-pass`), the record at hand says the row's
-- old multiplicity (`value-is`), and the row is planned (`going-turn`). Assumes nothing.
use mathlib.Core.Path.{◌≡◌, refl, sym, ap, subst, ◌∙◌}
use mathlib.Core.Logic.{inl, inr, ◌≢◌}
use mathlib.Core.Bool.{true, false, not}
use mathlib.Core.List.{List, [], ◌∷◌, ◌++◌}
use Prim.Native.Nat.{ℕ, suc, ◌+◌, ◌-◌, ◌*◌, ◌≤◌, ◌<◌}
use native.Mathlib.Omega.{arith}
use lib.Dec.{eqb}
use lib.ListN.{length, get_or, drop, length-append, length-drop}
use borrow.Author.Tests.{eq-eqb, ne_eqb}
use Rattle.lists.specs.Lists.{pick, one, Mem, at, values_at, rises}
use Rattle.lists.proofs.Tests.{cases, eq-or-ne}
use Rattle.lists.proofs.Member.{mem-among}
use Rattle.lists.proofs.Place.{values-append, values_length}
use Rattle.lists.proofs.Rising.{rises-first}
use Rattle.symbolic.specs.Factor.{pattern_from}
use Rattle.symbolic.proofs.Patterns.{pattern-rises, pattern-short}
use Rattle.workspace.specs.Regions.{Outside}
use Rattle.pool.specs.Chains.{chain, Linked}
use Rattle.columns.specs.Plan.{of_kind}
use Rattle.differences.specs.Gather.{plan_part}
use Rattle.differences.proofs.Rows.{rises-right}
use Rattle.differences.proofs.Chain.{chain-onward, chain-over}
use Rattle.differences.proofs.Following.{values-front, values-none}
use Rattle.emission.specs.Plans.{kind_for, plan_from}
use Rattle.emission.specs.Walks.{first_over, first_of, Passed, counting, advanced}
use Rattle.emission.specs.Emit.{CanEmit}
use Rattle.emission.specs.declared.Walk.{Walk}
use Rattle.emission.proofs.Left.{Left, left_as, left-pass}

-- ---- small facts

pub kind-new : (n n' : ℕ) → n ≡ 0 → one (eqb (kind_for n n') 1) ≡ 1
kind-new n n' z = rw (eq-eqb n 0 z) refl

pub kind-old : (n n' : ℕ) → n ≢ 0 → one (eqb (kind_for n n') 1) ≡ 0
kind-old n n' z = rw (ne_eqb n 0 z) (elim (cases (eqb n' 0)) [ inl e ↦ rw e refl | inr e ↦ rw e refl ])

-- the record that follows if the row at hand had one
abbrev pub onward-at : (next : List ℕ) → (old q : ℕ) → ℕ
onward-at next o q = pick (eqb o 0) q (at next q)

pub record Fields (next : List ℕ) (j row o o' : ℕ) (w v : Walk) : Type 0 where
  pub at-is : v.at.0 ≡ onward-at next o w.at.0
  pub behind-is : v.behind ≡ w.behind + one (not (eqb o 0))
  pub size_is : v.size ≡ w.size + one (not (eqb o' 0))
  pub parent_is : v.parent.0 ≡ pick (eqb o' 0) w.parent.0 (first_over j w.parent.0 row)
  pub used-is : v.used ≡ w.used
  pub avail-is : v.avail.0 ≡ w.avail.0
  pub fits-is : v.fits ≡ w.fits

pub fields : (next : List ℕ) (j row o o' : ℕ) (w : Walk) → Fields next j row o o' w (counting j row o' (advanced next o w))
fields next j row o o' w =
    elim (cases (eqb o 0)) [
      | inl a ↦ elim (cases (eqb o' 0)) [
        | inl b ↦ rw (a, b) (record { at-is = rw a refl; behind-is = rw a (omega arith); size_is = rw b (omega arith); parent_is = rw b refl; used-is = refl; avail-is = refl; fits-is = refl })
        | inr b ↦ rw (a, b) (record { at-is = rw a refl; behind-is = rw a (omega arith); size_is = rw b refl; parent_is = rw b refl; used-is = refl; avail-is = refl; fits-is = refl })
      ]
      | inr a ↦ elim (cases (eqb o' 0)) [
        | inl b ↦ rw (a, b) (record { at-is = rw a refl; behind-is = rw a refl; size_is = rw b (omega arith); parent_is = rw b refl; used-is = refl; avail-is = refl; fits-is = refl })
        | inr b ↦ rw (a, b) (record { at-is = rw a refl; behind-is = rw a refl; size_is = rw b refl; parent_is = rw b refl; used-is = refl; avail-is = refl; fits-is = refl })
      ]
    ]

-- ---- while the plan fits

pub record Going (rows counts next : List ℕ) (m j used avail : ℕ) (old new : List ℕ) (t : ℕ) (w : List ℕ) (walk : Walk) : Type 0 where
  pub left : Left rows counts j old new t (chain next walk.at.0) walk.size walk.parent.0 (plan_part m w used walk.used)
  pub linked : Linked next walk.at.0 (chain next walk.at.0)
  pub free : Linked next walk.avail.0 (chain next walk.avail.0)
  pub taken : List ℕ
  pub parts : chain next avail ≡ taken ++ chain next walk.avail.0
  pub taken-size : length taken ≡ of_kind 1 (plan_part m w used walk.used)
  pub used_low : used ≤ walk.used
  pub behind : walk.behind + length (chain next walk.at.0) ≡ length (pattern_from 1 old)
  pub room : walk.used + length (chain next walk.at.0) + length (chain next walk.avail.0) ≤ length next

-- at any time
pub record Progress (rows counts next : List ℕ) (m j used avail : ℕ) (old new : List ℕ) (t : ℕ) (w : List ℕ) (walk : Walk) : Type 0 where
  pub linked : Linked next walk.at.0 (chain next walk.at.0)
  pub small : walk.size + length (chain next walk.at.0) < 4294967296
  pub behind : walk.behind + length (chain next walk.at.0) ≡ length (pattern_from 1 old)
  pub used_low : used ≤ walk.used
  pub used_high : walk.used ≤ length next
  pub going : walk.fits ≡ true → Going rows counts next m j used avail old new t w walk
  pub short : walk.fits ≡ false → length (chain next avail) < of_kind 1 (plan_from 1 old new)

-- a row planned: progress, and nothing changed but at the plan's end
pub record Turned (rows counts next : List ℕ) (m j used avail : ℕ) (old new : List ℕ) (t : ℕ) (w u : List ℕ) (after : Walk) : Type 0 where
  pub progress : Progress rows counts next m j used avail old new t u after
  pub same_length : length u ≡ length w
  pub frame : (k : ℕ) → Outside (8 * m + used) (after.used - used) k → get_or u k 0 ≡ get_or w k 0

module _ {rows counts next w₀ : List ℕ} {m n j head used avail : ℕ} {old new : List ℕ} (can : CanEmit rows counts next w₀ m n j head used avail old new) where
  module _ {t : ℕ} {w : List ℕ} {walk : Walk} (g : Going rows counts next m j used avail old new t w walk) where
    pub going-short : walk.size + length (chain next walk.at.0) ≤ 8192
    going-short =
        omega (
          arith,
          g.left.size-left,
          pattern-short 1 new,
          can.new-long,
          can.old-long,
          can.narrow,
          values_length rows (chain next walk.at.0),
          ap length g.left.rows_left,
          pattern-short (suc t) (drop t old),
          length-drop t old,
        )

    -- ---- records passed over: those of g rows that do not change

    module _ {bound : ℕ} {after : Walk} (p : Passed rows next j bound walk after) where
      halves : values_at rows p.records ++ values_at rows (chain next after.at.0) ≡ pattern_from (suc t) (drop t old)
      halves = sym (values-append rows p.records (chain next after.at.0)) ∙ ap (values_at rows) (sym p.parts) ∙ g.left.rows_left

      rest-rises : rises (suc t) (t + length (drop t old)) (values_at rows (chain next after.at.0)) ≡ true
      rest-rises =
          rises-right (suc t) (t + length (drop t old)) (values_at rows p.records) (values_at rows (chain next after.at.0))
          (subst (λ (xs : List ℕ). rises (suc t) (t + length (drop t old)) xs ≡ true) (sym halves) (pattern-rises (suc t) (drop t old) (t + length (drop t old)) (omega arith)))

      rest-above : (i : ℕ) → Mem i (values_at rows (chain next after.at.0)) → bound ≤ i
      rest-above i q =
          elim (eq-or-ne after.at.0 0) [
            | inl z ↦ absurd (no_member (subst (λ (xs : List ℕ). Mem i xs) (ap (values_at rows) (chain-over next after.at.0 z p.linked) ∙ values-none rows) q))
            | inr z ↦
                let e : values_at rows (chain next after.at.0) ≡ at rows after.at.0 ∷ values_at rows (chain next (at next after.at.0)) =
                ap (values_at rows) (chain-onward next after.at.0 z p.linked).parts ∙ values-front rows after.at.0 (chain next (at next after.at.0)) in
                omega (
                  arith,
                  p.above z,
                  rises-first (suc t) (t + length (drop t old)) (subst (λ (xs : List ℕ). Mem i xs) e q)
                      (subst (λ (xs : List ℕ). rises (suc t) (t + length (drop t old)) xs ≡ true) e rest-rises),
                )
          ]
        where
          no_member : Mem i [] → ⊥
          no_member x = elim x [ ]

      pub going-pass : (s : ℕ) → t ≤ s → s ≤ m → s < bound → ((i : ℕ) → i < bound → Mem i (values_at rows p.records) → i ≤ s) →
          ((u : ℕ) → t ≤ u → u < s → get_or old u 0 ≡ get_or new u 0) → Going rows counts next m j used avail old new s w after
      going-pass s a b c low unchanged =
          let e : t + (s - t) ≡ s = omega arith in
          let l : Left rows counts j old new (t + (s - t)) (chain next after.at.0) (walk.size + length p.records) (first_of j walk.parent.0 (values_at rows p.records))
          (plan_part m w used walk.used) =
          left-pass (s - t) t p.records (chain next after.at.0) walk.size walk.parent.0 (omega (arith, can.old-long)) (can.new-long ∙ sym can.old-long)
          (λ u x y. unchanged u x (omega arith)) (λ i q. omega (arith, low i (p.below i (mem-among q)) q)) (λ i q. omega (arith, rest-above i q))
          (subst (λ (rs : List ℕ). Left rows counts j old new t rs walk.size walk.parent.0 (plan_part m w used walk.used)) p.parts g.left) in
          record {
            left = rw p.used (left_as (subst (λ (u : ℕ). Left rows counts j old new u (chain next after.at.0) (walk.size + length p.records)
                (first_of j walk.parent.0 (values_at rows p.records)) (plan_part m w used walk.used)) e l) (sym p.size) (sym p.parent) refl);
            linked = p.linked;
            free = rw p.avail g.free;
            taken = g.taken;
            parts = rw p.avail g.parts;
            taken-size = rw p.used g.taken-size;
            used_low = omega (arith, p.used, g.used_low);
            behind = omega (arith, p.behind, ap length p.parts, length-append p.records (chain next after.at.0), g.behind);
            room = omega (arith, p.used, ap length p.parts, length-append p.records (chain next after.at.0), ap (λ (x : ℕ). length (chain next x)) p.avail, g.room);
          }
