-- Gathering the rows of a chain but for the gone rows of its plan. The plan's entries before place a are below the chain's rows to come, so the entry at
-- the first place at or above a row says whether that row is gone. Assumes nothing.
use mathlib.Core.Path.{◌≡◌, refl, sym, ap, subst, ◌∙◌}
use mathlib.Core.Logic.{inl, inr, ◌≢◌}
use mathlib.Core.Bool.{Bool, true, false, ◌&&◌, not, true≢false}
use mathlib.Core.List.{List, [], ◌∷◌, ◌++◌, append_assoc, append-nil}
use Prim.Native.Nat.{ℕ, suc, ◌+◌, ◌-◌, ◌*◌, ◌≤◌, ◌<◌}
use native.Mathlib.Omega.{arith}
use lib.Dec.{eqb}
use lib.ListN.{length, set, length-append}
use borrow.Author.Tests.{lt-ltb, le-ltb, eq-eqb, ne_eqb, eqb-true}
use Rattle.lists.specs.Lists.{pick, Mem, first, later, among, at, values_at, rises}
use Rattle.lists.proofs.Tests.{cases, lt-or-le, eq-or-ne, and_both, both_ways}
use Rattle.lists.proofs.Member.{mem-right, mem-either, among-mem, mem-among}
use Rattle.lists.proofs.Rising.{rises-in, rises-weaken}
use Rattle.workspace.specs.Regions.{cell, region}
use Rattle.workspace.specs.Planned.{row_of, kind_of}
use Rattle.pool.specs.Chains.{chain, Linked}
use Rattle.differences.specs.Gather.{rows_in, rows_of_kind, plan_part, CanGather, PlanRises, ChainRises, Gathered, Gathering, CanPass, Passed, gone_at}
use Rattle.differences.proofs.Rows.{Front, rises-front, rises-nil, rises-cons, rises-right}
use Rattle.differences.proofs.Chain.{Onward, chain-onward, chain-over}
use Rattle.differences.proofs.Parts.{part_none, part_join, part-front, rows_append, rows-cons, kind-append, kind-cons, kind-skip, kind_row, no_rows, no_kind}
use Rattle.differences.proofs.Gather.{gathering-start, gathering-push, gathering-done, gathering-cell, gathering-part, list-room}
use Rattle.differences.proofs.Following.{values-front, values-none}

-- ---- a list without some rows

unfoldable pub without : (rows gone : List ℕ) → List ℕ
without [] ds = []
without (x ∷ xs) ds = pick (among x ds) (without xs ds) (x ∷ without xs ds)

without-rises : (a b : ℕ) (xs ds : List ℕ) → rises a b xs ≡ true → rises a b (without xs ds) ≡ true
unfolding without
without-rises a b [] ds h = rises-nil a b
without-rises a b (x ∷ xs) ds h =
    let t : Front a b x xs = rises-front a b x xs h in
    let ih : rises (suc x) b (without xs ds) ≡ true = without-rises (suc x) b xs ds t.tail in
    elim (cases (among x ds)) [
      | inl e ↦ rw e (rises-weaken (suc x) b a (without xs ds) (omega (arith, t.low)) ih)
      | inr e ↦ rw e (rises-cons a b x (without xs ds) t.low t.high ih)
    ]

among-without : (i : ℕ) (xs ds : List ℕ) → among i (without xs ds) ≡ (among i xs && not (among i ds))
unfolding without among
among-without i [] ds = refl
among-without i (x ∷ xs) ds =
    let ih : among i (without xs ds) ≡ (among i xs && not (among i ds)) = among-without i xs ds in
    elim (eq-or-ne i x) [
      | inl q ↦ rw (q) (elim (cases (among x ds)) [
        | inl e ↦ rw (e, eq-eqb x x refl) (subst (λ (y : ℕ). among y (without xs ds) ≡ false) q (ih ∙ absent e (among i xs) q))
        | inr e ↦ rw (e, eq-eqb x x refl) refl
      ])
      | inr q ↦ elim (cases (among x ds)) [ inl e ↦ rw (e, ne_eqb i x q) ih | inr e ↦ rw (e, ne_eqb i x q) ih ]
    ]
  where
    absent : among x ds ≡ true → (b : Bool) → i ≡ x → (b && not (among i ds)) ≡ false
    absent e true q = rw (q, e) refl
    absent e false q = refl

-- ---- the entry at the first place at or above a row

module _ {m : ℕ} {w : List ℕ} {from to a row : ℕ} (plan : PlanRises m w from to) (low : from ≤ a) (high : a ≤ to)
    (below : (i : ℕ) → Mem i (rows_in (plan_part m w from a)) → i < row) (above : a < to → row ≤ row_of (cell w (8 * m) a)) where
  halves : rows_of_kind 2 (plan_part m w from to) ≡ rows_of_kind 2 (plan_part m w from a) ++ rows_of_kind 2 (plan_part m w a to)
  halves = ap (rows_of_kind 2) (part_join m w from a to low high) ∙ kind-append 2 (plan_part m w from a) (plan_part m w a to)

  rest-rises : rises 1 m (rows_in (plan_part m w a to)) ≡ true
  rest-rises =
      rises-right 1 m (rows_in (plan_part m w from a)) (rows_in (plan_part m w a to))
      (subst (λ (xs : List ℕ). rises 1 m xs ≡ true) (ap rows_in (part_join m w from a to low high) ∙ rows_append (plan_part m w from a) (plan_part m w a to)) plan.rising)

  -- only the entry at that place can be of the row
  is-first : Mem row (rows_of_kind 2 (plan_part m w a to)) → gone_at m w a to row ≡ true
  is-first n =
      elim (lt-or-le a to) [
        | inr h ↦ let z : to - a ≡ 0 = omega arith in absurd (no_kind 2 (subst (λ (s : ℕ). Mem row (rows_of_kind 2 (region w (8 * m + a) s))) z n))
        | inl h ↦
            let e : ℕ = cell w (8 * m) a in
            let p : plan_part m w a to ≡ e ∷ plan_part m w (a + 1) to = part-front m w a to h plan.long in
            let f : Front 1 m (row_of e) (rows_in (plan_part m w (a + 1) to)) =
            rises-front 1 m (row_of e) (rows_in (plan_part m w (a + 1) to))
            (subst (λ (xs : List ℕ). rises 1 m xs ≡ true) (ap rows_in p ∙ rows-cons e (plan_part m w (a + 1) to)) rest-rises) in
            let later-not : Mem row (rows_of_kind 2 (plan_part m w (a + 1) to)) → ⊥ =
            (λ k. omega (arith, above h, (rises-in (suc (row_of e)) m (kind_row 2 (plan_part m w (a + 1) to) k) f.tail).0)) in
            elim (cases (eqb (kind_of e) 2)) [
              | inr t ↦ absurd (later-not (subst (λ (xs : List ℕ). Mem row xs) (ap (rows_of_kind 2) p ∙ kind-skip 2 e (plan_part m w (a + 1) to) t) n))
              | inl t ↦ rw (lt-ltb a to h, t, head-is (subst (λ (xs : List ℕ). Mem row xs) (ap (rows_of_kind 2) p ∙ kind-cons 2 e (plan_part m w (a + 1) to) t) n) later-not) refl
            ]
      ]
    where
      head-is : {y : ℕ} {ys : List ℕ} → Mem row (y ∷ ys) → (Mem row ys → ⊥) → eqb y row ≡ true
      head-is first f = eq-eqb row row refl
      head-is (later k) f = absurd (f k)

  first-is : gone_at m w a to row ≡ true → Mem row (rows_of_kind 2 (plan_part m w a to))
  first-is g =
      elim (lt-or-le a to) [
        | inr h ↦ absurd (true≢false (sym g ∙ rw (le-ltb a to h) refl))
        | inl h ↦
            let e : ℕ = cell w (8 * m) a in
            let t : (eqb (row_of e) row ≡ true) × (eqb (kind_of e) 2 ≡ true) = and_both (eqb (row_of e) row) (eqb (kind_of e) 2) (rw (lt-ltb a to h) at g) in
            subst (λ (xs : List ℕ). Mem row xs) (sym (ap (rows_of_kind 2) (part-front m w a to h plan.long) ∙ kind-cons 2 e (plan_part m w (a + 1) to) t.1))
            (subst (λ (y : ℕ). Mem y (row_of e ∷ rows_of_kind 2 (plan_part m w (a + 1) to))) (eqb-true (row_of e) row t.0) first)
      ]

  pub gone-here : gone_at m w a to row ≡ among row (rows_of_kind 2 (plan_part m w from to))
  gone-here =
      both_ways (gone_at m w a to row) (among row (rows_of_kind 2 (plan_part m w from to)))
      (λ g. mem-among (subst (λ (xs : List ℕ). Mem row xs) (sym halves) (mem-right (rows_of_kind 2 (plan_part m w from a)) (first-is g))))
      (λ n. elim (mem-either (rows_of_kind 2 (plan_part m w from a)) (subst (λ (xs : List ℕ). Mem row xs) halves (among-mem row (rows_of_kind 2 (plan_part m w from to)) n))) [
        | inl k ↦ absurd (omega (arith, below row (kind_row 2 (plan_part m w from a) k)))
        | inr k ↦ is-first k
      ])

-- ---- the walk

pub record Pruning (m : ℕ) (rows next w₀ : List ℕ) (r from to : ℕ) (w : List ℕ) (q k a : ℕ) : Type 0 where
  pub kept : List ℕ
  pub gathering : Gathering m w₀ w k kept
  pub linked : Linked next q (chain next q)
  pub low : from ≤ a
  pub high : a ≤ to
  pub ahead : (i j : ℕ) → Mem i (rows_in (plan_part m w₀ from a)) → Mem j (values_at rows (chain next q)) → i < j
  pub column : rises 1 m (values_at rows (chain next q)) ≡ true
  pub whole : kept ++ without (values_at rows (chain next q)) (rows_of_kind 2 (plan_part m w₀ from to)) ≡
      without (values_at rows (chain next r)) (rows_of_kind 2 (plan_part m w₀ from to))

module _ {m : ℕ} {rows next w₀ : List ℕ} {r from to : ℕ} (table : CanGather m w₀) (chains : ChainRises m rows next r) (plan : PlanRises m w₀ from to) where
  abbrev gone : List ℕ
  gone = rows_of_kind 2 (plan_part m w₀ from to)

  pub pruning-start : Pruning m rows next w₀ r from to w₀ r 0 from
  pruning-start =
      record {
        kept = [];
        gathering = gathering-start table;
        linked = chains.linked;
        low = omega arith;
        high = plan.order;
        ahead = λ i j n l. absurd (no_rows (subst (λ (es : List ℕ). Mem i (rows_in es)) (part_none m w₀ from) n));
        column = chains.rising;
        whole = refl;
      }

  module _ {w : List ℕ} {q k a : ℕ} (g : Pruning m rows next w₀ r from to w q k a) where
    pub pruning-length : length w ≡ length w₀
    pruning-length = g.gathering.only.same_length

    pub pruning-pass : CanPass m w a to
    pruning-pass = record { order = g.high; long = omega (arith, pruning-length, plan.long) }

    module _ (z : q ≢ 0) where
      pub pruning-onward : Onward next q
      pruning-onward = chain-onward next q z g.linked

      abbrev tail : List ℕ
      tail = values_at rows (chain next (at next q))

      front-is : values_at rows (chain next q) ≡ at rows q ∷ tail
      front-is = ap (values_at rows) pruning-onward.parts ∙ values-front rows q (chain next (at next q))

      front : Front 1 m (at rows q) tail
      front = rises-front 1 m (at rows q) tail (subst (λ (xs : List ℕ). rises 1 m xs ≡ true) front-is g.column)

      module _ {stop : ℕ} (t : Passed m w a to (at rows q) stop) where
        -- entries passed are below the row, and so below the rows after it
        passed-below : (i : ℕ) → Mem i (rows_in (plan_part m w₀ from stop)) → i < at rows q
        passed-below i n =
            elim (mem-either (rows_in (plan_part m w₀ from a)) (subst (λ (xs : List ℕ). Mem i xs)
            (ap rows_in (part_join m w₀ from a stop g.low t.low) ∙ rows_append (plan_part m w₀ from a) (plan_part m w₀ a stop)) n)) [
              | inl k ↦ g.ahead i (at rows q) k (subst (λ (xs : List ℕ). Mem (at rows q) xs) (sym front-is) first)
              | inr k ↦ t.below i (mem-among (subst (λ (es : List ℕ). Mem i (rows_in es)) (sym (gathering-part g.gathering a stop)) k))
            ]

        pub pruning-gone : gone_at m w stop to (at rows q) ≡ among (at rows q) gone
        pruning-gone =
            let e : cell w (8 * m) stop ≡ cell w₀ (8 * m) stop = gathering-cell g.gathering stop in
            rw e (gone-here plan (omega (arith, g.low, t.low)) t.high passed-below (λ h. omega (arith, t.above h, ap row_of e)))

        -- the rest of the walk, once the row is dealt with
        after : (w' : List ℕ) (k' : ℕ) (xs : List ℕ) → Gathering m w₀ w' k' xs → xs ++ without tail gone ≡ without (values_at rows (chain next r)) gone →
            Pruning m rows next w₀ r from to w' (at next q) k' stop
        after w' k' xs h e =
            record {
              kept = xs;
              gathering = h;
              linked = pruning-onward.linked;
              low = omega (arith, g.low, t.low);
              high = t.high;
              ahead = λ i j n l. omega (arith, passed-below i n, (rises-in (suc (at rows q)) m l front.tail).0);
              column = rises-weaken (suc (at rows q)) m 1 tail (omega arith) front.tail;
              whole = e;
            }

        here : g.kept ++ without (at rows q ∷ tail) gone ≡ without (values_at rows (chain next r)) gone
        here = ap (λ (xs : List ℕ). g.kept ++ without xs gone) (sym front-is) ∙ g.whole

        pub pruning-skip : gone_at m w stop to (at rows q) ≡ true → Pruning m rows next w₀ r from to w (at next q) k stop
        unfolding without
        pruning-skip h =
            after w k g.kept g.gathering (subst (λ (b : Bool). g.kept ++ pick b (without tail gone) (at rows q ∷ without tail gone) ≡ without (values_at rows (chain next r)) gone)
            (sym pruning-gone ∙ h) here)

        module _ (h : gone_at m w stop to (at rows q) ≡ false) where
          kept_here : g.kept ++ (at rows q ∷ without tail gone) ≡ without (values_at rows (chain next r)) gone
          unfolding without
          kept_here =
              subst (λ (b : Bool). g.kept ++ pick b (without tail gone) (at rows q ∷ without tail gone) ≡ without (values_at rows (chain next r)) gone) (sym pruning-gone ∙ h) here

          pub pruning-room : k < m
          pruning-room =
              omega (
                arith,
                g.gathering.size,
                ap length kept_here,
                length-append g.kept (at rows q ∷ without tail gone),
                list-room m (without (values_at rows (chain next r)) gone) (without-rises 1 m (values_at rows (chain next r)) gone chains.rising),
              )

          pub pruning-keep : Pruning m rows next w₀ r from to (set w (2 * m + k) (at rows q)) (at next q) (k + 1) stop
          pruning-keep =
              after (set w (2 * m + k) (at rows q)) (k + 1) (g.kept ++ (at rows q ∷ [])) (gathering-push g.gathering (at rows q) table.long pruning-room)
              (append_assoc g.kept (at rows q ∷ []) (without tail gone) ∙ kept_here)

    pub pruning-done : q ≡ 0 → Gathered m w₀ w k (λ i. among i (values_at rows (chain next r)) && not (among i gone))
    unfolding without
    pruning-done z =
        let e : g.kept ≡ without (values_at rows (chain next r)) gone =
        sym (append-nil g.kept) ∙ ap (λ (xs : List ℕ). g.kept ++ without xs gone) (sym (ap (values_at rows) (chain-over next q z g.linked) ∙ values-none rows)) ∙ g.whole in
        gathering-done g.gathering (λ i. among i (values_at rows (chain next r)) && not (among i gone))
        (rw e (without-rises 1 m (values_at rows (chain next r)) gone chains.rising)) (λ i. ap (among i) e ∙ among-without i (values_at rows (chain next r)) gone)
