-- The plans of done columns: the list of touched columns, one row more at a time; what leaves the plans' places leaves the plans; the last one linked to
-- the next column, one plan more; the plan of one done column, with its end; all plans, as the walk leaves them. Assumes nothing.
use mathlib.Core.Path.{◌≡◌, refl, sym, ap, ◌∙◌, subst}
use mathlib.Core.Logic.{◌⊎◌, inl, inr, ◌≢◌}
use mathlib.Core.Bool.{true, ◌&&◌}
use mathlib.Core.List.{List, [], ◌∷◌, ◌++◌}
use Prim.Native.Nat.{ℕ, suc, ◌+◌, ◌-◌, ◌≤◌, ◌<◌, max}
use native.Mathlib.Omega.{arith}
use lib.Dec.{leb}
use lib.ListN.{length, get_or, drop, length-take, length-drop}
use lib.Seq.{ext_get_or}
use Rattle.lists.specs.Lists.{pick, Mem, first, later, rises}
use Rattle.lists.proofs.Tests.{and_both}
use Rattle.lists.proofs.Sum.{sum-append}
use Rattle.lists.proofs.Rising.{rises-in}
use Rattle.symbolic.specs.Columns.{Column}
use Rattle.symbolic.specs.Factor.{FactorColumn, column_at, size_of}
use Rattle.symbolic.specs.Batch.{is_touched, touched_from, size_sum_of, entries_of}
use Rattle.symbolic.proofs.Passing.{passing-join, passing-mem, mem-passing, passing-rises, touched-passing}
use Rattle.workspace.specs.Regions.{cell, region}
use Rattle.workspace.proofs.Regions.{region-cell}
use Rattle.pool.specs.Chains.{last_of}
use Rattle.columns.specs.Plan.{planned, Suits}
use Rattle.updown.specs.Plans.{label_in, parent_in, PlansFrom, InPlan}
use Rattle.workspace.specs.Layout.{marks_at, starts_at, next_at, plan_at}
use Rattle.updown.specs.Turns.{DoneColumn, PlansTo}

-- ---- the touched columns below a row, one row more

-- n rows from i on, then k more
pub touched-join : (fs : List FactorColumn) (cs : List Column) (i n k : ℕ) → touched_from fs cs i (n + k) ≡ touched_from fs cs i n ++ touched_from fs cs (i + n) k
touched-join fs cs i n k =
    rw (touched-passing fs cs i (n + k), touched-passing fs cs i n, touched-passing fs cs (i + n) k) (passing-join (is_touched fs cs) i n k)

pub touched-more : (fs : List FactorColumn) (cs : List Column) (i n : ℕ) → touched_from fs cs i (suc n) ≡ touched_from fs cs i n ++ pick (is_touched fs cs (i + n)) ((i + n) ∷ []) []
unfolding touched_from
touched-more fs cs i n =
    let q : suc n ≡ n + 1 = omega arith in
    ap (touched_from fs cs i) q ∙ touched-join fs cs i n 1

pub touched-in : (fs : List FactorColumn) (cs : List Column) (i n c : ℕ) → i ≤ c → c < i + n → is_touched fs cs c ≡ true → Mem c (touched_from fs cs i n)
touched-in fs cs i n c a b h = rw (touched-passing fs cs i n) (passing-mem (is_touched fs cs) i n c a b h)

pub in-touched : (fs : List FactorColumn) (cs : List Column) (i n c : ℕ) → Mem c (touched_from fs cs i n) → (i ≤ c) × (c < i + n) × (is_touched fs cs c ≡ true)
in-touched fs cs i n c m = mem-passing (is_touched fs cs) i n c (rw (touched-passing fs cs i n) at m)

pub touched-rising : (fs : List FactorColumn) (cs : List Column) (i n b : ℕ) → i + n ≤ suc b → rises i b (touched_from fs cs i n) ≡ true
touched-rising fs cs i n b h = rw (touched-passing fs cs i n) (passing-rises (is_touched fs cs) i n b h)

pub last-append : (r : ℕ) (xs : List ℕ) (x : ℕ) → last_of r (xs ++ (x ∷ [])) ≡ x
unfolding last_of
last-append r [] x = refl
last-append r (y ∷ ys) x = last-append y ys x

-- the last member, if there is one
pub last-in : (r : ℕ) (xs : List ℕ) → (last_of r xs ≡ r) ⊎ Mem (last_of r xs) xs
unfolding last_of
last-in r [] = inl refl
last-in r (x ∷ xs) = elim (last-in x xs) [ inl e ↦ inr (subst (λ (y : ℕ). Mem y (x ∷ xs)) (sym e) first) | inr m ↦ inr (later m) ]

pub last_mem : (x : ℕ) (xs : List ℕ) → Mem (last_of x xs) (x ∷ xs)
last_mem x xs = elim (last-in x xs) [ inl e ↦ subst (λ (y : ℕ). Mem y (x ∷ xs)) (sym e) first | inr m ↦ later m ]

-- ---- sums over columns

pub sizes-append : (fs : List FactorColumn) (xs ys : List ℕ) → size_sum_of fs (xs ++ ys) ≡ size_sum_of fs xs + size_sum_of fs ys
sizes-append fs = sum-append (λ j. size_of (column_at fs j))

pub entries-append : (fs gs : List FactorColumn) (xs ys : List ℕ) → entries_of fs gs (xs ++ ys) ≡ entries_of fs gs xs + entries_of fs gs ys
entries-append fs gs = sum-append (λ j. max (size_of (column_at fs j)) (size_of (column_at gs j)))

-- ---- plans

pub region-same : (w w' : List ℕ) (a n : ℕ) → length w' ≡ length w → ((i : ℕ) → i < n → cell w' a i ≡ cell w a i) → region w' a n ≡ region w a n
region-same w w' a n e h =
    ext_get_or 0 (region w' a n) (region w a n) (simp (length-take, length-drop, e))
    (λ i l. let t : i < n = omega (arith, length-take n (drop a w')) in region-cell w' a n i t ∙ h i t ∙ sym (region-cell w a n i t))

module _ (m : ℕ) (L L' : List FactorColumn) (label : ℕ → ℕ) where
  pub plans-low : (w : List ℕ) (js : List ℕ) (s n u : ℕ) → PlansTo m L L' label w js s n u → s ≤ u
  unfolding PlansTo
  plans-low w [] s n u p = omega arith
  plans-low w (j ∷ js) s n u p = omega (arith, plans-low w js p.0 n u p.1.1, p.1.0.plan.rises)

  module _ (w w' : List ℕ) (l : length w' ≡ length w) where
    pub column-frame : {j s e n n' : ℕ} → DoneColumn m L L' label w j s e n → cell w' (marks_at m) (j - 1) ≡ cell w (marks_at m) (j - 1) →
        cell w' (starts_at m) (j - 1) ≡ cell w (starts_at m) (j - 1) → cell w' (next_at m) (j - 1) ≡ n' →
        ((k : ℕ) → plan_at m + s ≤ k → k < plan_at m + e → get_or w' k 0 ≡ get_or w k 0) → DoneColumn m L L' label w' j s e n'
    column-frame {j} {s} {e} d a b c h =
        let r : region w' (plan_at m + s) (e - s) ≡ region w (plan_at m + s) (e - s) =
        region-same w w' (plan_at m + s) (e - s) l (λ i t. h (plan_at m + s + i) (omega arith) (omega arith)) in
        record {
          plan = record {
            rises = d.plan.rises;
            label_is = ap label_in a ∙ d.plan.label_is;
            parent_is = ap parent_in a ∙ d.plan.parent_is;
            starts = b ∙ d.plan.starts;
            next-is = c;
            suits = subst (λ (x : List ℕ). Suits (column_at L j).counts j x) (sym r) d.plan.suits;
            becomes = ap (planned (column_at L j).counts) r ∙ d.plan.becomes;
          };
          entries = r ∙ d.entries;
        }

    pub plans-frame : (js : List ℕ) (s n u : ℕ) → PlansTo m L L' label w js s n u → ((k : ℕ) → InPlan m u js k → get_or w' k 0 ≡ get_or w k 0) → PlansTo m L L' label w' js s n u
    unfolding PlansTo
    plans-frame [] s n u p h = p
    plans-frame (j ∷ js) s n u p h =
        let up : p.0 ≤ u = plans-low w js p.0 n u p.1.1 in (
          p.0,
          (
            column-frame p.1.0 (h (marks_at m + (j - 1)) (inl (j, (first, inl refl)))) (h (starts_at m + (j - 1)) (inl (j, (first, inr (inl refl)))))
                (h (next_at m + (j - 1)) (inl (j, (first, inr (inr refl)))) ∙ p.1.0.plan.next-is) (λ k a b. h k (inr (omega arith, omega arith))),
            plans-frame js p.0 n u p.1.1 (λ k i. h k (wider k i)),
          ),
        )
      where
        wider : (k : ℕ) → InPlan m u js k → InPlan m u (j ∷ js) k
        wider k (inl t) = inl (t.0, (later t.1.0, t.1.1))
        wider k (inr t) = inr t

    -- the last column linked to the next one: only its next changes
    pub plans-link : (js : List ℕ) (r s n n' u b : ℕ) → b ≤ m → rises (suc r) b js ≡ true → PlansTo m L L' label w js s n u →
        ((k : ℕ) → InPlan m u js k → k ≢ next_at m + (last_of r js - 1) → get_or w' k 0 ≡ get_or w k 0) →
        (last_of r js ≢ r → cell w' (next_at m) (last_of r js - 1) ≡ n') → PlansTo m L L' label w' js s n' u
    unfolding PlansTo last_of rises
    plans-link [] r s n n' u b f q p h c = p
    plans-link (j ∷ []) r s n n' u b f q p h c =
        let v : (suc r ≤ j) × (j ≤ b) = rises-in {x = j} (suc r) b (first {xs = []}) q in (
          p.0,
          (
            column-frame p.1.0 (h (marks_at m + (j - 1)) (inl (j, (first, inl refl))) (omega arith)) (h (starts_at m + (j - 1)) (inl (j, (first, inr (inl refl)))) (omega arith))
                (c (omega arith)) (λ k x y. h k (inr (omega arith, omega (arith, p.1.1))) (omega arith)),
            p.1.1,
          ),
        )
    plans-link (j ∷ (i ∷ js)) r s n n' u b f q p h c =
        let t : ((leb (suc r) j && leb j b) ≡ true) × (rises (suc j) b (i ∷ js) ≡ true) = and_both (leb (suc r) j && leb j b) (rises (suc j) b (i ∷ js)) q in
        let v : (suc r ≤ j) × (j ≤ b) = rises-in {x = j} (suc r) b (first {xs = i ∷ js}) q in
        let up : p.0 ≤ u = plans-low w (i ∷ js) p.0 n u p.1.1 in
        let low : (suc j ≤ last_of i js) × (last_of i js ≤ b) = rises-in (suc j) b (last_mem i js) t.1 in
        let rest : PlansTo m L L' label w' (i ∷ js) p.0 n' u =
        plans-link (i ∷ js) j p.0 n n' u b f t.1 p.1.1 (λ k x d. h k (wider k x) d) (λ d. c (omega arith)) in (
          p.0,
          (
            column-frame p.1.0 (h (marks_at m + (j - 1)) (inl (j, (first, inl refl))) (omega arith)) (h (starts_at m + (j - 1)) (inl (j, (first, inr (inl refl)))) (omega arith))
                (h (next_at m + (j - 1)) (inl (j, (first, inr (inr refl)))) (omega arith) ∙ p.1.0.plan.next-is)
                (λ k x y. h k (inr (omega arith, omega arith)) (omega arith)),
            rest,
          ),
        )
      where
        wider : (k : ℕ) → InPlan m u (i ∷ js) k → InPlan m u (j ∷ (i ∷ js)) k
        wider k (inl t) = inl (t.0, (later t.1.0, t.1.1))
        wider k (inr t) = inr t

  -- one plan more
  pub plans-more : (w : List ℕ) (js : List ℕ) (s j u n' u' : ℕ) → PlansTo m L L' label w js s j u → DoneColumn m L L' label w j u u' n' →
      PlansTo m L L' label w (js ++ (j ∷ [])) s n' u'
  unfolding PlansTo
  plans-more w [] s j u n' u' p d = (u', (subst (λ (x : ℕ). DoneColumn m L L' label w j x u' n') (sym p) d, refl))
  plans-more w (i ∷ []) s j u n' u' p d = (p.0, (p.1.0, plans-more w [] p.0 j u n' u' p.1.1 d))
  plans-more w (i ∷ (k ∷ js)) s j u n' u' p d = (p.0, (p.1.0, plans-more w (k ∷ js) p.0 j u n' u' p.1.1 d))

  -- the plan of one column, which ends where that of the next column starts
  pub record Found (w : List ℕ) (js : List ℕ) (n u c : ℕ) : Type 0 where
    pub start : ℕ
    pub end : ℕ
    pub next : ℕ
    pub column : DoneColumn m L L' label w c start end next
    pub ends : cell w (starts_at m) (next - 1) ≡ end
    pub high : end ≤ u
    pub next-in : Mem next js ⊎ (next ≡ n)

  pub plans-find : (w : List ℕ) (js : List ℕ) (s n u c : ℕ) → Mem c js → PlansTo m L L' label w js s n u → cell w (starts_at m) (n - 1) ≡ u → Found w js n u c
  unfolding PlansTo
  plans-find w [] s n u c m p e = elim m [ ]
  plans-find w (j ∷ []) s n u c first p e = record { start = s; end = p.0; next = n; column = p.1.0; ends = e ∙ sym p.1.1; high = omega (arith, p.1.1); next-in = inr refl }
  plans-find w (j ∷ []) s n u c (later m) p e = elim m [ ]
  plans-find w (j ∷ (i ∷ js)) s n u c first p e =
      record {
        start = s;
        end = p.0;
        next = i;
        column = p.1.0;
        ends = p.1.1.1.0.plan.starts;
        high = plans-low w (i ∷ js) p.0 n u p.1.1;
        next-in = inl (later first);
      }
  plans-find w (j ∷ (i ∷ js)) s n u c (later m) p e =
      let f : Found w (i ∷ js) n u c = plans-find w (i ∷ js) p.0 n u c m p.1.1 e in
      record {
        start = f.start;
        end = f.end;
        next = f.next;
        column = f.column;
        ends = f.ends;
        high = f.high;
        next-in = elim f.next-in [ inl x ↦ inl (later x) | inr x ↦ inr x ];
      }

  -- all plans
  pub plans-all : (w : List ℕ) (js : List ℕ) (s u : ℕ) → PlansTo m L L' label w js s 0 u → PlansFrom m L L' label w js s u
  unfolding PlansTo PlansFrom
  plans-all w [] s u p = p
  plans-all w (j ∷ []) s u p = (p.0, (p.1.0.plan, p.1.1))
  plans-all w (j ∷ (i ∷ js)) s u p = (p.0, (p.1.0.plan, plans-all w (i ∷ js) p.0 u p.1.1))

  pub plans-none : (w : List ℕ) (n : ℕ) → PlansTo m L L' label w [] 0 n 0
  unfolding PlansTo
  plans-none w n = refl
