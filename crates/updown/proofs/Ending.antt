-- The walk's end: past the last row nothing is busy but the plans and the flags, so with the flags cleared the table holds the plan (`plan-made`).
-- Assumes nothing.
use mathlib.Core.Path.{◌≡◌, sym, ap, ◌∙◌, subst}
use mathlib.Core.Logic.{◌⊎◌, inl, inr}
use mathlib.Core.Bool.{Bool, false≢true}
use mathlib.Core.List.{List, ◌++◌}
use Prim.Native.Nat.{ℕ, suc, ◌+◌, ◌-◌, ◌*◌, ◌≤◌, ◌<◌}
use native.Mathlib.Omega.{arith}
use lib.Dec.{eqb}
use lib.ListN.{length, get_or}
use borrow.Author.Tests.{ne_eqb}
use Rattle.lists.specs.Lists.{at, among, Mem}
use Rattle.lists.proofs.Tests.{eq-or-ne, lt-or-le}
use Rattle.symbolic.specs.Columns.{Column}
use Rattle.symbolic.specs.Batch.{touched, touched_from, entries_of}
use Rattle.symbolic.proofs.Build.{factor-length}
use Rattle.workspace.specs.Regions.{Outside, cleared}
use Rattle.workspace.proofs.Regions.{zero-at, cleared-length, cleared-zero, cleared-outside}
use Rattle.differences.specs.Tally.{Tally}
use Rattle.columns.specs.Plan.{of_kind}
use Rattle.updown.specs.Plans.{InPlan, first_of, PlansFrom, PlanIs}
use Rattle.workspace.specs.Layout.{marks_at, starts_at, next_at}
use Rattle.updown.specs.Turns.{larger, before, after, label_at, done, standing, PlansTo}
use Rattle.updown.specs.States.{Busy, differs, plans, marks, queues, flagged, Walking, Numbers, Between, Fitting}
use Rattle.updown.proofs.Queueing.{queue-none, links-length}
use Rattle.updown.proofs.Plans.{region-same, plans-frame, plans-all}
use Rattle.updown.proofs.Standing.{nowhere, tree, other, gone, stands, tree-above, other-above}
use Rattle.updown.proofs.Turning.{plan-places}
use Rattle.updown.proofs.Stepping.{done-in}

-- differences without any
pub tally-none : {m : ℕ} {w : List ℕ} {δ : ℕ → ℕ} → Tally m w 0 δ → (k : ℕ) → k < 3 * m → get_or w k 0 ≡ 0
unfolding among
tally-none {m} {w} t k l =
    elim (lt-or-le k m) [
      | inl x ↦
          let q : suc k - 1 ≡ k = omega arith in
          elim (eq-or-ne (at w (suc k)) 0) [
            | inl e ↦ ap (λ (v : ℕ). get_or w v 0) (sym q) ∙ e
            | inr e ↦ absurd (false≢true ((t.touched.listed (suc k) (omega arith) (omega arith)).1 e))
          ]
      | inr x ↦ elim (lt-or-le k (2 * m)) [
        | inl y ↦ let q : m + 0 + (k - m) ≡ k = omega arith in sym (ap (λ (v : ℕ). get_or w v 0) q) ∙ t.touched.rest (k - m) (omega arith)
        | inr y ↦ let q : 2 * m + (k - 2 * m) ≡ k = omega arith in sym (ap (λ (v : ℕ). get_or w v 0) q) ∙ t.buffer (k - 2 * m) (omega arith)
      ]
    ]

module _ {next work₀ w : List ℕ} {m flags : ℕ} {R W : List Column} {adding : Bool} {free f l c k used avail : ℕ} (b : Between next work₀ w m flags R W adding free (suc m) f l c k used avail) where
  abbrev h : Walking m flags R W adding work₀ w (suc m) used
  h = b.walking

  abbrev wc : List ℕ
  wc = cleared w flags 64

  long : flags + 64 ≤ length w
  long = h.room.long

  -- none-waits waits
  none-waits : (x : ℕ) → 1 ≤ x → x ≤ m → standing m R W (suc m) x ≡ 0
  none-waits x p q =
      elim (stands m R W (suc m) x) [
        | nowhere e z ↦ z
        | tree e y z ↦ absurd (omega (arith, tree-above m R W x p q (omega arith)))
        | other e y u v t z ↦ absurd (omega (arith, other-above m R W x p q (omega arith)))
        | gone e y d z ↦ z
      ]

  pub queue-cell : (i : ℕ) → 6 * m ≤ i → i < 8 * m → get_or w i 0 ≡ 0
  queue-cell i p q =
      elim (lt-or-le i (7 * m)) [
        | inl y ↦
            let x : ℕ = i - 5 * m + 1 in
            let e : 5 * m + (x - 1) ≡ i = omega arith in
            sym (ap (λ (v : ℕ). get_or w v 0) e) ∙
            queue-none (λ d s t. ap (λ (v : ℕ). eqb v x) (none-waits d s (omega (arith, links-length m w (omega (arith, h.room.low, long))))) ∙ ne_eqb 0 x (omega arith))
            (h.queues.queue x (omega arith) (omega arith) (omega arith))
        | inr y ↦
            let d : ℕ = i - 7 * m + 1 in
            let e : 7 * m + (d - 1) ≡ i = omega arith in
            sym (ap (λ (v : ℕ). get_or w v 0) e) ∙ h.queues.idle d (omega arith) (omega arith) (none-waits d (omega arith) (omega arith))
      ]

  -- a place of no plan is as lent
  pub lent_again : (i : ℕ) → (InPlan m used (done m R W (suc m)) i → ⊥) → Outside flags 64 i → get_or w i 0 ≡ get_or work₀ i 0
  lent_again i n o =
      elim (lt-or-le i (3 * m)) [
        | inl x ↦ tally-none h.tally i x ∙ sym (zero-at work₀ 0 (8 * m) i h.zero (omega arith) (omega arith))
        | inr x ↦ elim (lt-or-le i (6 * m)) [
          | inl y ↦ h.rest i (idle i n o x (inl y))
          | inr y ↦ elim (lt-or-le i (8 * m)) [
            | inl z ↦ queue-cell i y z ∙ sym (zero-at work₀ 0 (8 * m) i h.zero (omega arith) (omega arith))
            | inr z ↦ h.rest i (idle i n o x (inr z))
          ]
        ]
      ]
    where
      idle : (i : ℕ) → (InPlan m used (done m R W (suc m)) i → ⊥) → Outside flags 64 i → 3 * m ≤ i → ((i < 6 * m) ⊎ (8 * m ≤ i)) → Busy m flags used (done m R W (suc m)) (suc m) i → ⊥
      idle i n o x y (differs u) = omega arith
      idle i n o x y (plans u) = n u
      idle i n o x y (marks u v) = omega arith
      idle i n o x y (queues u v) = elim y [ inl z ↦ omega arith | inr z ↦ omega arith ]
      idle i n o x y (flagged u v) = elim o [ inl z ↦ omega arith | inr z ↦ omega arith ]

  end-done : done m R W (suc m) ≡ touched (larger m R W) W
  end-done = let q : suc m - 1 ≡ length (larger m R W) = omega (arith, factor-length m (R ++ W)) in ap (λ (x : ℕ). touched_from (larger m R W) W 1 x) q

  pub plan-made : Fitting next m R W adding free →
      PlanIs m (length next) free (before adding m R W) (after adding m R W) (label_at m R W) (touched (larger m R W) W) work₀ wc f c k used
  plan-made fit =
      let e : done m R W (suc m) ≡ touched (larger m R W) W = end-done in
      let n : Numbers next w m R W adding free (suc m) f l c k used avail = b.numbers in
      let same : (i : ℕ) → Outside flags 64 i → get_or wc i 0 ≡ get_or w i 0 = cleared-outside w flags 64 long in
      let p : PlansTo m (before adding m R W) (after adding m R W) (label_at m R W) wc (done m R W (suc m)) 0 0 used =
      plans-frame m (before adding m R W) (after adding m R W) (label_at m R W) w wc (cleared-length w flags 64 long) (done m R W (suc m)) 0 0 used h.plans
      (λ i x. same i (inl (before-flags i x))) in
      record {
        same_length = cleared-length w flags 64 long ∙ h.same_length;
        plans = subst (λ (js : List ℕ). PlansFrom m (before adding m R W) (after adding m R W) (label_at m R W) wc js 0 used) e
            (plans-all m (before adding m R W) (after adding m R W) (label_at m R W) wc (done m R W (suc m)) 0 used p);
        first-is = n.first-is ∙ ap first_of e;
        count-is = n.count-is ∙ ap length e;
        entries-is = n.entries-is ∙ ap (entries_of (before adding m R W) (after adding m R W)) e;
        room = omega (arith, n.room, fit (suc m) (omega arith) (omega arith));
        new-fit = omega (
          arith,
          n.taken,
          ap (of_kind 1) (region-same w wc (8 * m) used (cleared-length w flags 64 long) (λ i x. same (8 * m + i) (inl (omega (arith, h.plan-room))))),
        );
        clean = λ i x. let y : InPlan m used (done m R W (suc m)) i → ⊥ = λ z. x (subst (λ (js : List ℕ). InPlan m used js i) e z) in
            elim (lt-or-le i flags) [
              | inl u ↦ same i (inl u) ∙ lent_again i y (inl u)
              | inr u ↦ elim (lt-or-le i (flags + 64)) [
                | inr v ↦ same i (inr v) ∙ lent_again i y (inr v)
                | inl v ↦ zero-at wc flags 64 i (cleared-zero w flags 64 long) u v ∙ sym (zero-at work₀ flags 64 i h.flags-zero u v)
              ]
            ];
      }
    where
      before-flags : (i : ℕ) → InPlan m used (done m R W (suc m)) i → i < flags
      before-flags i (inr x) = omega (arith, h.plan-room)
      before-flags i (inl x) =
          let y : InPlan m used (done m R W (suc m)) i = inl x in
          elim (plan-places m R W (suc m) used (omega arith) i y).1 [ inl z ↦ omega (arith, h.room.low) | inr z ↦ absurd (low i x z) ]
        where
          low : (i : ℕ) → (j : ℕ) × (Mem j (done m R W (suc m)) × ((i ≡ marks_at m + (j - 1)) ⊎ ((i ≡ starts_at m + (j - 1)) ⊎ (i ≡ next_at m + (j - 1))))) → 8 * m ≤ i → ⊥
          low i x z =
              let v : (1 ≤ x.0) × (x.0 < suc m) = done-in m R W (suc m) (omega arith) x.1.0 in
              elim x.1.1 [ inl y ↦ omega arith | inr (inl y) ↦ omega arith | inr (inr y) ↦ omega arith ]
