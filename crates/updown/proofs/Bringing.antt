-- What case_b, case_c and lost_child do with a done column, branch by branch, over the tables of their calls. Assumes nothing.
use mathlib.Core.Path.{◌≡◌, sym, ap, ◌∙◌, subst}
use mathlib.Core.Bool.{Bool, true, false, ◌&&◌, ◌||◌, not}
use mathlib.Core.List.{List}
use Prim.Native.Nat.{ℕ, ◌-◌, ◌*◌, ◌≤◌, ◌<◌}
use native.Mathlib.Omega.{arith}
use lib.ListN.{length}
use Rattle.lists.specs.Lists.{at, among, values_at}
use Rattle.workspace.specs.Regions.{cell}
use Rattle.pool.specs.Chains.{chain}
use Rattle.differences.specs.Gather.{rows_of_kind, plan_part, PlanRises, ChainRises, CanGrow, Gathered}
use Rattle.differences.specs.Count.{Counted}
use Rattle.updown.specs.Marks.{end_at}
use Rattle.updown.proofs.Brought.{Steady, Bumps, Counts, PlanOf, old_of, kept_row, whole_row}
use Rattle.updown.specs.Walks.{ChainOf}
use Rattle.updown.proofs.Gathering.{bumps, head_in, second-rises, second-test, old-facts, plan-rises, new-test, gone-test, grown-test, pruned-test, can-grow}

-- ---- the rows of a chain from the second record on, by direction

module _ {heads rows next : List ℕ} {m c : ℕ} {more less : List ℕ} (k : Counts m c more less) (adding : Bool) (h : ChainOf heads rows next m c (old_of adding more less)) where
  pub column-head : (1 ≤ c) × (c ≤ length heads) × (1 ≤ at heads c) × (at heads c ≤ length next)
  column-head =
      let f : (length (old_of adding more less) ≡ m) × (0 < at (old_of adding more less) c) × ((i : ℕ) → 1 ≤ i → i < c → at (old_of adding more less) i ≡ 0) = old-facts k adding in
      let g : (1 ≤ at heads c) × (at heads c ≤ length next) = head_in h k.low k.high f.0 f.1 f.2 in
      (k.low, omega (arith, h.heads-long, k.high), g.0, g.1)

  pub column-rises : (r : ℕ) → r ≡ at next (at heads c) → ChainRises m rows next r
  column-rises r e =
      let f : (length (old_of adding more less) ≡ m) × (0 < at (old_of adding more less) c) × ((i : ℕ) → 1 ≤ i → i < c → at (old_of adding more less) i ≡ 0) = old-facts k adding in
      subst (λ (x : ℕ). ChainRises m rows next x) (sym e) (second-rises h k.low k.high f.0 f.1 f.2)

  column-test : (r : ℕ) → r ≡ at next (at heads c) → (i : ℕ) → 1 ≤ i → i ≤ m → among i (values_at rows (chain next r)) ≡ whole_row (old_of adding more less) c i
  column-test r e i p q =
      let f : (length (old_of adding more less) ≡ m) × (0 < at (old_of adding more less) c) × ((i : ℕ) → 1 ≤ i → i < c → at (old_of adding more less) i ≡ 0) = old-facts k adding in
      ap (λ (x : ℕ). among i (values_at rows (chain next x))) e ∙ second-test h k.low k.high f.0 f.1 f.2 i p q

-- ---- B

pub plan-read : {w : List ℕ} {m c : ℕ} {adding : Bool} {more less : List ℕ} (to : ℕ) → to ≡ end_at m w c → PlanOf w m c adding more less → PlanRises m w (cell w (4 * m) (c - 1)) to
plan-read {w} {m} {c} to e o = subst (λ (x : ℕ). PlanRises m w (cell w (4 * m) (c - 1)) x) (sym e) (plan-rises o)

module _ {w w₁ w₂ : List ℕ} {m c g l : ℕ} (to : ℕ) (e : to ≡ end_at m w c) where
  pub kept-up : (adding : Bool) → adding ≡ true → Gathered m w w₁ g (λ i. among i (rows_of_kind 1 (plan_part m w (cell w (4 * m) (c - 1)) to))) → Counted m w₁ g true w₂ l →
      {more less : List ℕ} → PlanOf w m c adding more less → Bumps m w w₂ l adding (kept_row more less)
  kept-up adding z a b {more} {less} o =
      subst (λ (x : Bool). Bumps m w w₂ l x (kept_row more less)) (sym z)
      (bumps a true (kept_row more less) (λ i p q.
      ap (λ (x : ℕ). among i (rows_of_kind 1 (plan_part m w (cell w (4 * m) (c - 1)) x))) e ∙
      new-test (subst (λ (x : Bool). PlanOf w m c x more less) z o) i p q) b)

  pub kept-down : (adding : Bool) → adding ≡ false → Gathered m w w₁ g (λ i. among i (rows_of_kind 2 (plan_part m w (cell w (4 * m) (c - 1)) to))) → Counted m w₁ g false w₂ l →
      {more less : List ℕ} → PlanOf w m c adding more less → Bumps m w w₂ l adding (kept_row more less)
  kept-down adding z a b {more} {less} o =
      subst (λ (x : Bool). Bumps m w w₂ l x (kept_row more less)) (sym z)
      (bumps a false (kept_row more less) (λ i p q.
      ap (λ (x : ℕ). among i (rows_of_kind 2 (plan_part m w (cell w (4 * m) (c - 1)) x))) e ∙
      gone-test (subst (λ (x : Bool). PlanOf w m c x more less) z o) i p q) b)

-- ---- C and D

module _ {heads rows next w : List ℕ} {m c : ℕ} (r : ℕ) (e : r ≡ at next (at heads c)) where
  -- the whole chain: with the batch when removing, without it when adding
  pub chain-down : {w₁ w₂ : List ℕ} {g l : ℕ} (adding : Bool) → adding ≡ false → Gathered m w w₁ g (λ i. among i (values_at rows (chain next r))) → Counted m w₁ g false w₂ l →
      {more less : List ℕ} → PlanOf w m c adding more less → ChainOf heads rows next m c (old_of adding more less) → Bumps m w w₂ l adding (whole_row more c)
  chain-down {w₂ = w₂} {l = l} adding z a b {more} {less} o h =
      subst (λ (x : Bool). Bumps m w w₂ l x (whole_row more c)) (sym z)
      (bumps a false (whole_row more c) (λ i p q. column-test o.column false (subst (λ (x : Bool). ChainOf heads rows next m c (old_of x more less)) z h) r e i p q) b)

  pub chain-lost : {w₁ w₂ : List ℕ} {g l : ℕ} (adding : Bool) → adding ≡ true → Gathered m w w₁ g (λ i. among i (values_at rows (chain next r))) → Counted m w₁ g false w₂ l →
      {more less : List ℕ} → PlanOf w m c adding more less → ChainOf heads rows next m c (old_of adding more less) → Bumps m w w₂ l (not adding) (whole_row less c)
  chain-lost {w₂ = w₂} {l = l} adding z a b {more} {less} o h =
      subst (λ (x : Bool). Bumps m w w₂ l (not x) (whole_row less c)) (sym z)
      (bumps a false (whole_row less c) (λ i p q. column-test o.column true (subst (λ (x : Bool). ChainOf heads rows next m c (old_of x more less)) z h) r e i p q) b)

  module _ (to : ℕ) (d : to ≡ end_at m w c) where
    pub grow-read : {n : ℕ} {more less : List ℕ} (adding : Bool) → adding ≡ true → Steady m w n → PlanOf w m c adding more less → ChainOf heads rows next m c (old_of adding more less) →
        CanGrow m rows next w r (cell w (4 * m) (c - 1)) to
    grow-read {more = more} {less} adding z s o h =
        subst (λ (x : ℕ). CanGrow m rows next w r (cell w (4 * m) (c - 1)) x) (sym d)
        (subst (λ (x : ℕ). CanGrow m rows next w x (cell w (4 * m) (c - 1)) (end_at m w c)) (sym e)
        (can-grow s (subst (λ (x : Bool). ChainOf heads rows next m c (old_of x more less)) z h) (subst (λ (x : Bool). PlanOf w m c x more less) z o)))

    -- the chain with the new rows
    pub grown-up : {w₁ w₂ : List ℕ} {g l : ℕ} (adding : Bool) → adding ≡ true →
        Gathered m w w₁ g (λ i. among i (values_at rows (chain next r)) || among i (rows_of_kind 1 (plan_part m w (cell w (4 * m) (c - 1)) to))) → Counted m w₁ g true w₂ l →
        {more less : List ℕ} → PlanOf w m c adding more less → ChainOf heads rows next m c (old_of adding more less) → Bumps m w w₂ l adding (whole_row more c)
    grown-up {w₂ = w₂} {l = l} adding z a b {more} {less} o h =
        let o' : PlanOf w m c true more less = subst (λ (x : Bool). PlanOf w m c x more less) z o in
        subst (λ (x : Bool). Bumps m w w₂ l x (whole_row more c)) (sym z)
        (bumps a true (whole_row more c) (λ i p q.
        ap (λ (x : Bool). x || among i (rows_of_kind 1 (plan_part m w (cell w (4 * m) (c - 1)) to)))
        (column-test o.column true (subst (λ (x : Bool). ChainOf heads rows next m c (old_of x more less)) z h) r e i p q) ∙
        ap (λ (x : Bool). whole_row less c i || x) (ap (λ (x : ℕ). among i (rows_of_kind 1 (plan_part m w (cell w (4 * m) (c - 1)) x))) d ∙ new-test o' i p q) ∙
        grown-test o.column i p q) b)

    -- the chain without the gone rows
    pub pruned-up : {w₁ w₂ : List ℕ} {g l : ℕ} (adding : Bool) → adding ≡ false →
        Gathered m w w₁ g (λ i. among i (values_at rows (chain next r)) && not (among i (rows_of_kind 2 (plan_part m w (cell w (4 * m) (c - 1)) to)))) → Counted m w₁ g true w₂ l →
        {more less : List ℕ} → PlanOf w m c adding more less → ChainOf heads rows next m c (old_of adding more less) → Bumps m w w₂ l (not adding) (whole_row less c)
    pruned-up {w₂ = w₂} {l = l} adding z a b {more} {less} o h =
        let o' : PlanOf w m c false more less = subst (λ (x : Bool). PlanOf w m c x more less) z o in
        subst (λ (x : Bool). Bumps m w w₂ l (not x) (whole_row less c)) (sym z)
        (bumps a true (whole_row less c) (λ i p q.
        ap (λ (x : Bool). x && not (among i (rows_of_kind 2 (plan_part m w (cell w (4 * m) (c - 1)) to))))
        (column-test o.column false (subst (λ (x : Bool). ChainOf heads rows next m c (old_of x more less)) z h) r e i p q) ∙
        ap (λ (x : Bool). whole_row more c i && not x) (ap (λ (x : ℕ). among i (rows_of_kind 2 (plan_part m w (cell w (4 * m) (c - 1)) x))) d ∙ gone-test o' i p q) ∙
        pruned-test o.column i p q) b)
