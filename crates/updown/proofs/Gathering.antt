-- What a done column brings: gathered rows counted into the differences (`can-count`, `bumps`), the rows of its chain but the diagonal (`second-rises`,
-- `second-test`), and the rows that each of B, C and D gathers, as tests on its multiplicities with and without the batch. Assumes nothing.
use mathlib.Core.Path.{◌≡◌, refl, sym, ap, ◌∙◌, subst}
use mathlib.Core.Logic.{inl, inr, ◌≢◌, ◌↔◌}
use mathlib.Core.Bool.{Bool, true, false, ◌&&◌, ◌||◌, not, true≢false, false≢true}
use mathlib.Core.List.{List, [], ◌∷◌}
use Prim.Native.Nat.{ℕ, suc, ◌-◌, ◌*◌, ◌≤◌, ◌<◌}
use native.Mathlib.Omega.{arith}
use lib.Dec.{leb, eqb}
use lib.ListN.{length, get_or}
use borrow.Author.Tests.{eq-eqb, ne_eqb}
use Rattle.lists.specs.Lists.{one, at, among, rises, values_at, Mem, first}
use Rattle.lists.proofs.Tests.{eq-or-ne, zero-or-pos, and_both, refute, and-false, and-true, or-false, and-swap}
use Rattle.lists.proofs.Member.{among-mem, mem-among}
use Rattle.lists.proofs.Rising.{rises-in, rises-first, rises-weaken}
use Rattle.symbolic.specs.Factor.{FactorColumn, pattern_from}
use Rattle.symbolic.proofs.Patterns.{pattern-members, pattern-rises}
use Rattle.workspace.specs.Regions.{cell, region}
use Rattle.workspace.proofs.Regions.{only-trans, only_wider}
use Rattle.pool.specs.Chains.{chain}
use Rattle.pool.proofs.Chains.{Step, linked-step, linked-end, linked-chain, linked-self}
use Rattle.differences.specs.Tally.{shifted, difference_at, counted}
use Rattle.differences.specs.Gather.{rows_in, rows_of_kind, plan_part, CanGather, PlanRises, ChainRises, CanGrow, Gathered}
use Rattle.differences.specs.Count.{CanCount, Counted}
use Rattle.emission.specs.Plans.{plan_from}
use Rattle.updown.specs.Marks.{end_at}
use Rattle.updown.proofs.Brought.{Steady, Bumps, Counts, old_of, new_of, PlanOf, kept_row, whole_row}
use Rattle.updown.specs.Walks.{ChainOf}
use Rattle.updown.proofs.Planning.{of-kind, kind-new, kind-gone, rows-rise}
use Rattle.updown.proofs.Turning.{touched-frame}

-- ---- gathered rows, counted

module _ {m : ℕ} {before mid : List ℕ} {k : ℕ} {p : ℕ → Bool} (g : Gathered m before mid k p) where
  same_at : (i : ℕ) → 1 ≤ i → i ≤ m → at mid i ≡ at before i
  same_at i a b = g.only.outside (i - 1) (inl (omega arith))

  pub can-count : {n : ℕ} → Steady m before n → CanCount m mid n k
  can-count s =
      record {
        touched = touched-frame g.only.same_length (λ i x. g.only.outside i (inl x)) s.tally.touched;
        buffered = g.buffered;
        ranges = λ i h.
            let t : (1 ≤ i) × (i ≤ m) = rises-in 1 m (among-mem i (region mid (2 * m) k) h) g.buffered.rising in
            let e : difference_at mid i ≡ difference_at before i = ap shifted (same_at i t.0 t.1) in
            omega (arith, s.ranges i t.0 t.1);
      }

  -- for any test that is the same on rows 1 to m
  pub bumps : {after : List ℕ} {l : ℕ} (up : Bool) (r : ℕ → Bool) → ((i : ℕ) → 1 ≤ i → i ≤ m → p i ≡ r i) → Counted m mid k up after l → Bumps m before after l up r
  bumps {after} {l} up r e c =
      record {
        tally = c.tally;
        counts = go up c.counted-rows;
        only = only-trans (only_wider 0 (3 * m) (omega arith) (omega arith) g.only) c.only;
      }
    where
      test : (i : ℕ) → 1 ≤ i → i ≤ m → one (among i (region mid (2 * m) k)) ≡ one (r i)
      test i a b = ap one (g.rows i ∙ e i a b)

      go : (up : Bool) → counted up (difference_at mid) (difference_at after) m (λ i. among i (region mid (2 * m) k)) → counted up (difference_at before) (difference_at after) m r
      go true h = λ i a b. omega (arith, h i a b, test i a b, ap shifted (same_at i a b))
      go false h = λ i a b. omega (arith, h i a b, test i a b, ap shifted (same_at i a b))

pub can-gather : {m n : ℕ} {work : List ℕ} → Steady m work n → CanGather m work
can-gather s = record { long = s.tally.touched.long; empty = s.tally.buffer }

-- ---- the chain: its first row is the diagonal

pattern-test : (ns : List ℕ) (i : ℕ) → 1 ≤ i → i ≤ length ns → among i (pattern_from 1 ns) ≡ not (eqb (at ns i) 0)
pattern-test ns i a b =
    let f : FactorColumn = record { counts = ns; parent = 0 } in
    let t : Mem i (pattern_from 1 ns) ↔ (0 < at ns i) = pattern-members f i a b in
    elim (zero-or-pos (at ns i)) [
      | inl z ↦ refute (among i (pattern_from 1 ns)) (λ h. omega (arith, t.0 (among-mem i (pattern_from 1 ns) h))) ∙ rw (eq-eqb (at ns i) 0 z) refl
      | inr z ↦ mem-among (t.1 z) ∙ rw (ne_eqb (at ns i) 0 (omega arith)) refl
    ]

module _ (c m : ℕ) (ns : List ℕ) (a : 1 ≤ c) (b : c ≤ m) (l : length ns ≡ m) (d : 0 < at ns c) (z : (i : ℕ) → 1 ≤ i → i < c → at ns i ≡ 0) where
  -- the pattern is the diagonal and larger rows
  pub pattern-first : (x : ℕ) (xs : List ℕ) → pattern_from 1 ns ≡ x ∷ xs → (x ≡ c) × (rises (suc c) m xs ≡ true)
  unfolding rises
  pattern-first x xs e =
      let r : rises 1 m (x ∷ xs) ≡ true = subst (λ (ys : List ℕ). rises 1 m ys ≡ true) e (pattern-rises 1 ns m (omega arith)) in
      let here : Mem c (x ∷ xs) = subst (λ (ys : List ℕ). Mem c ys) e (among-mem c (pattern_from 1 ns) (pattern-test ns c a (omega arith) ∙ rw (ne_eqb (at ns c) 0 (omega arith)) refl)) in
      let low : x ≤ c = rises-first 1 m here r in
      let t : (1 ≤ x) × (x ≤ m) = rises-in {x = x} 1 m (first {xs = xs}) r in
      let in-x : among x (pattern_from 1 ns) ≡ true = subst (λ (ys : List ℕ). among x ys ≡ true) (sym e) (mem-among (first {xs = xs})) in
      let q : x ≡ c = elim (eq-or-ne x c) [
        | inl q ↦ q
        | inr q ↦ absurd (true≢false (sym in-x ∙ pattern-test ns x t.0 (omega arith) ∙ rw (eq-eqb (at ns x) 0 (z x t.0 (omega arith))) refl))
      ] in
      (q, subst (λ (y : ℕ). rises (suc y) m xs ≡ true) q (and_both (leb 1 x && leb x m) (rises (suc x) m xs) r).1)

  pub rest-test : (x : ℕ) (xs : List ℕ) → pattern_from 1 ns ≡ x ∷ xs → (i : ℕ) → 1 ≤ i → i ≤ m → among i xs ≡ whole_row ns c i
  unfolding among
  rest-test x xs e i p q =
      let t : (x ≡ c) × (rises (suc c) m xs ≡ true) = pattern-first x xs e in
      let w : (eqb i x || among i xs) ≡ not (eqb (at ns i) 0) = sym (ap (λ (ys : List ℕ). among i ys) e) ∙ pattern-test ns i p (omega arith) in
      elim (eq-or-ne i c) [
        | inl y ↦
            refute (among i xs) (λ h. let u : (suc c ≤ i) × (i ≤ m) = rises-in (suc c) m (among-mem i xs h) t.1 in omega arith) ∙
            sym (rw (eq-eqb i c y) (and-false (not (eqb (at ns i) 0))))
        | inr y ↦ drop-left (eqb i x) (among i xs) (ne_eqb i x (omega arith)) ∙ w ∙ sym (rw (ne_eqb i c y) (and-true (not (eqb (at ns i) 0))))
      ]
    where
      drop-left : (x y : Bool) → x ≡ false → y ≡ (x || y)
      drop-left true y e = absurd (true≢false e)
      drop-left false y e = refl

module _ {heads rows next : List ℕ} {m c : ℕ} {ns : List ℕ} (h : ChainOf heads rows next m c ns) (a : 1 ≤ c) (b : c ≤ m) (l : length ns ≡ m) (d : 0 < at ns c)
    (z : (i : ℕ) → 1 ≤ i → i < c → at ns i ≡ 0) where
  head-some : at heads c ≢ 0
  unfolding among values_at
  head-some e =
      let r : chain next (at heads c) ≡ [] = linked-end next (at heads c) (chain next (at heads c)) e h.linked in
      let s : pattern_from 1 ns ≡ [] = sym h.rows_are ∙ ap (values_at rows) r in
      let u : among c (pattern_from 1 ns) ≡ true = pattern-test ns c a (omega arith) ∙ rw (ne_eqb (at ns c) 0 (omega arith)) refl in
      true≢false (sym u ∙ ap (λ (ys : List ℕ). among c ys) s)

  head_step : Step next (at heads c) (chain next (at heads c))
  head_step = linked-step next (at heads c) (chain next (at heads c)) head-some h.linked

  pub head_in : (1 ≤ at heads c) × (at heads c ≤ length next)
  head_in = (head_step.low, head_step.high)

  rest-chain : chain next (at next (at heads c)) ≡ head_step.rest
  rest-chain = linked-chain next (at next (at heads c)) head_step.rest head_step.next

  rest-parts : pattern_from 1 ns ≡ at rows (at heads c) ∷ values_at rows (chain next (at next (at heads c)))
  unfolding values_at
  rest-parts = sym h.rows_are ∙ ap (values_at rows) head_step.parts ∙ ap (λ (l : List ℕ). at rows (at heads c) ∷ values_at rows l) (sym rest-chain)

  -- the rows from the second record on
  pub second-rises : ChainRises m rows next (at next (at heads c))
  second-rises =
      record {
        linked = linked-self next (at next (at heads c)) head_step.rest head_step.next;
        rows_long = h.rows_long;
        rising = rises-weaken (suc c) m 1 (values_at rows (chain next (at next (at heads c)))) (omega arith)
            (pattern-first c m ns a b l d z (at rows (at heads c)) (values_at rows (chain next (at next (at heads c)))) rest-parts).1;
      }

  pub second-test : (i : ℕ) → 1 ≤ i → i ≤ m → among i (values_at rows (chain next (at next (at heads c)))) ≡ whole_row ns c i
  second-test = rest-test c m ns a b l d z (at rows (at heads c)) (values_at rows (chain next (at next (at heads c)))) rest-parts

-- ---- the plan's rows

module _ {m c : ℕ} {more less : List ℕ} (k : Counts m c more less) where
  -- the multiplicities before the batch and after it, by direction
  pub old-facts : (adding : Bool) → (length (old_of adding more less) ≡ m) × (0 < at (old_of adding more less) c) × ((i : ℕ) → 1 ≤ i → i < c → at (old_of adding more less) i ≡ 0)
  old-facts true = (k.less-long, k.diagonal.1, λ i p q. (k.below i p q).1)
  old-facts false = (k.more-long, k.diagonal.0, λ i p q. (k.below i p q).0)

  pub new-facts : (adding : Bool) → (length (old_of adding more less) ≡ length (new_of adding more less)) × ((i : ℕ) → get_or (new_of adding more less) i 0 < 65536)
  new-facts true = (k.less-long ∙ sym k.more-long, k.more-small)
  new-facts false = (k.more-long ∙ sym k.less-long, k.less-small)

module _ {work : List ℕ} {m c : ℕ} {adding : Bool} {more less : List ℕ} (o : PlanOf work m c adding more less) where
  abbrev part : List ℕ
  part = plan_part m work (cell work (4 * m) (c - 1)) (end_at m work c)

  pub plan-rises : PlanRises m work (cell work (4 * m) (c - 1)) (end_at m work c)
  plan-rises =
      let k : Counts m c more less = o.column in
      record {
        order = o.order;
        long = o.long;
        rising = subst (λ (l : List ℕ). rises 1 m (rows_in l) ≡ true) (sym o.entries)
            (rows-rise 1 (old_of adding more less) (new_of adding more less) m (omega arith) (omega (arith, (old-facts k adding).0)) k.narrow (new-facts k adding).1);
      }

  plan-test : (kind i : ℕ) → 1 ≤ i → i ≤ m → among i (rows_of_kind kind part) ≡ among i (rows_of_kind kind (plan_from 1 (old_of adding more less) (new_of adding more less)))
  plan-test kind i p q = ap (λ (l : List ℕ). among i (rows_of_kind kind l)) o.entries

module _ {work : List ℕ} {m c : ℕ} {more less : List ℕ} where
  -- new rows when adding
  pub new-test : (o : PlanOf work m c true more less) (i : ℕ) → 1 ≤ i → i ≤ m →
      among i (rows_of_kind 1 (plan_part m work (cell work (4 * m) (c - 1)) (end_at m work c))) ≡ kept_row more less i
  new-test o i p q =
      let k : Counts m c more less = o.column in
      plan-test o 1 i p q ∙ of-kind 1 1 less more (omega arith) (omega (arith, k.less-long, k.narrow)) (k.less-long ∙ sym k.more-long) k.more-small i p ∙
      kind-new (at less i) (at more i)

  -- gone rows when removing
  pub gone-test : (o : PlanOf work m c false more less) (i : ℕ) → 1 ≤ i → i ≤ m →
      among i (rows_of_kind 2 (plan_part m work (cell work (4 * m) (c - 1)) (end_at m work c))) ≡ kept_row more less i
  gone-test o i p q =
      let k : Counts m c more less = o.column in
      plan-test o 2 i p q ∙ of-kind 2 1 more less (omega arith) (omega (arith, k.more-long, k.narrow)) (k.more-long ∙ sym k.less-long) k.less-small i p ∙
      kind-gone (at more i) (at less i) ∙ and-swap (not (eqb (at more i) 0)) (eqb (at less i) 0)

-- ---- old rows and new ones are the rows with the batch; old rows but the gone are those without it

module _ {m c : ℕ} {more less : List ℕ} (k : Counts m c more less) (i : ℕ) (p : 1 ≤ i) (q : i ≤ m) where
  pub grown-test : (whole_row less c i || kept_row more less i) ≡ whole_row more c i
  grown-test =
      elim (zero-or-pos (at less i)) [
        | inr y ↦ rw (ne_eqb (at less i) 0 (omega arith), ne_eqb (at more i) 0 (omega (arith, k.grows i p q y))) (or-false (not (eqb i c)))
        | inl y ↦
            let n : i ≢ c = λ e. let w : at less i ≡ at less c = ap (at less) e in omega (arith, k.diagonal.1) in
            rw (eq-eqb (at less i) 0 y, ne_eqb i c n) (sym (and-true (not (eqb (at more i) 0))))
      ]

  pub pruned-test : (whole_row more c i && not (kept_row more less i)) ≡ whole_row less c i
  pruned-test =
      elim (zero-or-pos (at less i)) [
        | inr y ↦ rw (ne_eqb (at less i) 0 (omega arith), ne_eqb (at more i) 0 (omega (arith, k.grows i p q y))) (and-true (not (eqb i c)))
        | inl y ↦ rw (eq-eqb (at less i) 0 y) (none (not (eqb (at more i) 0)) (not (eqb i c)))
      ]
    where
      none : (x y : Bool) → ((x && y) && not x) ≡ false
      none true true = refl
      none true false = refl
      none false y = refl

-- what growing a gathering asks
pub can-grow : {heads rows next work : List ℕ} {m c n : ℕ} {more less : List ℕ} → Steady m work n → ChainOf heads rows next m c less → (o : PlanOf work m c true more less) →
    CanGrow m rows next work (at next (at heads c)) (cell work (4 * m) (c - 1)) (end_at m work c)
can-grow {heads} {rows} {next} {work} {m} {c} {n} {more} {less} s h o =
    let k : Counts m c more less = o.column in
    let f : (length less ≡ m) × (0 < at less c) × ((i : ℕ) → 1 ≤ i → i < c → at less i ≡ 0) = old-facts k true in
    let r : ChainRises m rows next (at next (at heads c)) = second-rises h k.low k.high f.0 f.1 f.2 in
    record {
      table = can-gather s;
      column = r;
      plan = plan-rises o;
      apart = λ i t.
          let u : (1 ≤ i) × (i ≤ m) = rises-in 1 m (among-mem i (values_at rows (chain next (at next (at heads c)))) t) r.rising in
          let w : whole_row less c i ≡ true = sym (second-test h k.low k.high f.0 f.1 f.2 i u.0 u.1) ∙ t in
          new-test o i u.0 u.1 ∙ apart (eqb (at less i) 0) (not (eqb i c)) (not (eqb (at more i) 0)) w;
    }
  where
    apart : (x y z : Bool) → (not x && y) ≡ true → (x && z) ≡ false
    apart true y z e = absurd (false≢true e)
    apart false y z e = refl
