-- A done column in the turn of j, read from the work table: its multiplicities with and without the batch (`column-counts`), its plan (`turn-plan`), its
-- other parent (`turn-other`). And what leaves their places leaves the touched rows, the differences and what is so far counted (`touched-frame`,
-- `tally-frame`, `so-far-frame`), as a plan's places are past them (`plan-places`). Assumes nothing.
use mathlib.Core.Path.{◌≡◌, refl, sym, ap, ◌∙◌, subst}
use mathlib.Core.Logic.{◌⊎◌, inl, inr}
use mathlib.Core.Bool.{Bool, true, false}
use mathlib.Core.List.{List, ◌++◌}
use Prim.Native.Nat.{ℕ, suc, ◌+◌, ◌-◌, ◌*◌, ◌≤◌, ◌<◌}
use native.Mathlib.Omega.{arith}
use lib.ListN.{length, get_or, length-append, get_or-eq_default}
use Rattle.lists.specs.Lists.{at, among, rises}
use Rattle.lists.proofs.Tests.{lt-or-le}
use Rattle.symbolic.specs.Columns.{Column}
use Rattle.symbolic.specs.Factor.{factor_of, column_at, multiplicity, parent_of}
use Rattle.symbolic.specs.Batch.{is_touched}
use Rattle.symbolic.proofs.Laws.{diagonal-in}
use Rattle.symbolic.proofs.Build.{laws, counts-length}
use Rattle.symbolic.proofs.Order.{count-bound}
use Rattle.symbolic.proofs.Locality.{multiplicity-stays}
use Rattle.workspace.specs.Regions.{cell, region}
use Rattle.differences.specs.Tally.{shifted, difference_at, Touched, Tally}
use Rattle.differences.specs.Gather.{plan_part}
use Rattle.emission.specs.Plans.{plan_from}
use Rattle.updown.specs.Plans.{parent_in, InPlan}
use Rattle.workspace.specs.Layout.{marks_at}
use Rattle.updown.specs.Marks.{end_at, other_at}
use Rattle.updown.proofs.Brought.{Counts, PlanOf, old_of, new_of}
use Rattle.updown.specs.Turns.{larger, smaller, before, after, other_parent, label_at, done}
use Rattle.updown.specs.SoFar.{SoFar}
use Rattle.updown.specs.Walks.{ChainOf, Columns, Parents, Turn}
use Rattle.updown.proofs.Plans.{touched-in, in-touched, region-same, Found, plans-find}

-- ---- multiplicities

counts-small : (m : ℕ) (cs : List Column) (c : ℕ) → 1 ≤ c → c ≤ m → m ≤ 4096 → length cs ≤ 60000 → (k : ℕ) → get_or (column_at (factor_of m cs) c).counts k 0 < 65536
counts-small m cs c a b n f k =
    elim (lt-or-le k m) [
      | inl l ↦
          let q : suc k - 1 ≡ k = omega arith in
          let e : multiplicity (factor_of m cs) (suc k) c ≡ get_or (column_at (factor_of m cs) c).counts k 0 = ap (λ (x : ℕ). get_or (column_at (factor_of m cs) c).counts x 0) q in
          omega (arith, count-bound m cs (suc k) c (omega arith) (omega arith) a b)
      | inr l ↦ omega (arith, get_or-eq_default (column_at (factor_of m cs) c).counts 0 {n = k} (omega (arith, counts-length m cs c a b)))
    ]

pub column-counts : (m : ℕ) (R W : List Column) (c : ℕ) → 1 ≤ c → c ≤ m → m ≤ 4096 → length R + length W ≤ 60000 →
    Counts m c (column_at (larger m R W) c).counts (column_at (smaller m R) c).counts
column-counts m R W c a b n f =
    record {
      low = a;
      high = b;
      narrow = n;
      more-long = counts-length m (R ++ W) c a b;
      less-long = counts-length m R c a b;
      more-small = counts-small m (R ++ W) c a b n (omega (arith, length-append R W));
      less-small = counts-small m R c a b n (omega arith);
      diagonal = (diagonal-in (laws m (R ++ W)) c a b, diagonal-in (laws m R) c a b);
      below = λ i x y. ((laws m (R ++ W)).below i c x y b, (laws m R).below i c x y b);
      grows = λ i x y h. multiplicity-stays m R W i c x y a b h;
    }

-- more has all rows of less, by their places
pub grows_at : {m c : ℕ} {more less : List ℕ} → Counts m c more less → (i : ℕ) → 0 < get_or less i 0 → 0 < get_or more i 0
grows_at {m} {c} {more} {less} k i p =
    let q : suc i - 1 ≡ i = omega arith in
    elim (lt-or-le i m) [
      | inl l ↦ omega (arith, k.grows (suc i) (omega arith) (omega arith) (omega (arith, ap (λ (x : ℕ). get_or less x 0) q)), ap (λ (x : ℕ). get_or more x 0) q)
      | inr l ↦ absurd (omega (arith, get_or-eq_default less 0 {n = i} (omega (arith, k.less-long))))
    ]

-- ---- what stays

-- the touched rows, where the first 2 m places stay
pub touched-frame : {m : ℕ} {w w' : List ℕ} {n : ℕ} → length w' ≡ length w → ((k : ℕ) → k < 2 * m → get_or w' k 0 ≡ get_or w k 0) → Touched m w n → Touched m w' n
touched-frame {m} {w} {w'} {n} l h t =
    let r : region w' m n ≡ region w m n = region-same w w' m n l (λ i x. h (m + i) (omega (arith, t.within))) in
    record {
      long = omega (arith, t.long);
      within = t.within;
      rising = subst (λ (x : List ℕ). rises 1 m x ≡ true) (sym r) t.rising;
      listed = λ i a b. (
        λ x z. (t.listed i a b).0 (ap (λ (y : List ℕ). among i y) (sym r) ∙ x) (sym (h (i - 1) (omega arith)) ∙ z),
        λ x. ap (λ (y : List ℕ). among i y) r ∙ (t.listed i a b).1 (λ z. x (h (i - 1) (omega arith) ∙ z)),
      );
      rest = λ i x. h (m + n + i) (omega (arith, t.within)) ∙ t.rest i x;
    }

-- the differences, where the first 3 m places stay
pub tally-frame : {m : ℕ} {w w' : List ℕ} {n : ℕ} {δ : ℕ → ℕ} → length w' ≡ length w → ((k : ℕ) → k < 3 * m → get_or w' k 0 ≡ get_or w k 0) → Tally m w n δ → Tally m w' n δ
tally-frame {m} l h t =
    record {
      touched = touched-frame l (λ k x. h k (omega arith)) t.touched;
      values = λ i a b. ap shifted (h (i - 1) (omega arith)) ∙ t.values i a b;
      buffer = λ i x. h (2 * m + i) (omega arith) ∙ t.buffer i x;
    }

pub so-far-frame : {m : ℕ} {R W : List Column} {adding : Bool} {w w' : List ℕ} {n j k : ℕ} {H : ℕ → Bool} → length w' ≡ length w →
    ((i : ℕ) → i < 3 * m → get_or w' i 0 ≡ get_or w i 0) → 1 ≤ j → j ≤ m → SoFar m R W adding w n j k H → SoFar m R W adding w' n j k H
so-far-frame {m} {R} {W} {adding} {w} {w'} {n} {j} {k} {H} l h a b t =
    let u : Tally m w' n (difference_at w) = tally-frame l h t.tally in
    record {
      tally = record { touched = u.touched; values = λ i x y. refl; buffer = u.buffer };
      rows = λ i x y. ap (λ (d : ℕ). multiplicity (before adding m R W) i j + d) (ap shifted (h (i - 1) (omega arith))) ∙ t.rows i x y;
      still = λ i x y. ap shifted (h (i - 1) (omega arith)) ∙ t.still i x y;
    }

-- a plan's places lie past the differences, and not among the queues of other parents and the links
pub plan-places : (m : ℕ) (R W : List Column) (j used : ℕ) → j ≤ suc m → (k : ℕ) → InPlan m used (done m R W j) k → (3 * m ≤ k) × ((k < 6 * m) ⊎ (8 * m ≤ k))
plan-places m R W j used h k (inr t) = (omega arith, inr t.0)
plan-places m R W j used h k (inl t) =
    let v : (1 ≤ t.0) × (t.0 < 1 + (j - 1)) × (is_touched (larger m R W) W t.0 ≡ true) = in-touched (larger m R W) W 1 (j - 1) t.0 t.1.0 in
    elim t.1.1 [
      | inl e ↦ (omega arith, inl (omega arith))
      | inr (inl e) ↦ (omega arith, inl (omega arith))
      | inr (inr e) ↦ (omega arith, inl (omega arith))
    ]

-- ---- one done column

module _ {m : ℕ} {R W : List Column} {adding : Bool} {work : List ℕ} {j used n except : ℕ} {H : ℕ → Bool} (t : Turn m R W adding work j used n except H)
    (c : ℕ) (a : 1 ≤ c) (b : c < j) (touched : is_touched (larger m R W) W c ≡ true) where
  turn-found : Found m (before adding m R W) (after adding m R W) (label_at m R W) work (done m R W j) j used c
  turn-found =
      plans-find m (before adding m R W) (after adding m R W) (label_at m R W) work (done m R W j) 0 j used c
      (touched-in (larger m R W) W 1 (j - 1) c a (omega arith) touched) t.plans t.starts

  next-range : (1 ≤ turn-found.next) × (turn-found.next ≤ m)
  next-range =
      elim turn-found.next-in [
        | inl x ↦ let v : (1 ≤ turn-found.next) × (turn-found.next < 1 + (j - 1)) × (is_touched (larger m R W) W turn-found.next ≡ true) =
            in-touched (larger m R W) W 1 (j - 1) turn-found.next x in omega (arith, t.high)
        | inr x ↦ omega (arith, t.low, t.high)
      ]

  turn_end : end_at m work c ≡ turn-found.end
  turn_end = ap (λ (x : ℕ). cell work (4 * m) (x - 1)) turn-found.column.plan.next-is ∙ turn-found.ends

  olds : (z : Bool) → (column_at (before z m R W) c).counts ≡ old_of z (column_at (larger m R W) c).counts (column_at (smaller m R) c).counts
  olds true = refl
  olds false = refl

  pub turn-plan : m ≤ 4096 → length R + length W ≤ 60000 → PlanOf work m c adding (column_at (larger m R W) c).counts (column_at (smaller m R) c).counts
  turn-plan narrow few =
      let f : Found m (before adding m R W) (after adding m R W) (label_at m R W) work (done m R W j) j used c = turn-found in
      let part : plan_part m work (cell work (4 * m) (c - 1)) (end_at m work c) ≡ plan_part m work f.start f.end =
      ap (λ (x : ℕ). plan_part m work x (end_at m work c)) f.column.plan.starts ∙ ap (λ (x : ℕ). plan_part m work f.start x) turn_end in
      record {
        column = column-counts m R W c a (omega (arith, t.high)) narrow few;
        long = omega (arith, turn_end, f.high, t.long);
        next_low = omega (arith, f.column.plan.next-is, next-range);
        next-high = omega (arith, f.column.plan.next-is, next-range);
        order = omega (arith, turn_end, f.column.plan.starts, f.column.plan.rises);
        entries = part ∙ f.column.entries ∙ ap (λ (x : List ℕ). plan_from 1 x (column_at (after adding m R W) c).counts) (olds adding) ∙
            ap (λ (x : List ℕ). plan_from 1 (old_of adding (column_at (larger m R W) c).counts (column_at (smaller m R) c).counts) x) (news adding);
      }
    where
      news : (z : Bool) → (column_at (after z m R W) c).counts ≡ new_of z (column_at (larger m R W) c).counts (column_at (smaller m R) c).counts
      news true = refl
      news false = refl

  pub turn-chain : {heads rows next : List ℕ} → Columns heads rows next m R W adding → ChainOf heads rows next m c (old_of adding (column_at (larger m R W) c).counts (column_at (smaller m R) c).counts)
  turn-chain {heads} {rows} {next} k = subst (λ (x : List ℕ). ChainOf heads rows next m c x) (olds adding) (k.chains c a (omega (arith, t.high)))

  pub turn-other : {parents : List ℕ} → Parents parents m R W adding → other_at parents work m c adding ≡ other_parent m R c
  turn-other {parents} p = go adding (p.are c a (omega (arith, t.high))) turn-found.column.plan.parent_is
    where
      go : (z : Bool) → at parents c ≡ parent_of (before z m R W) c → parent_in (cell work (marks_at m) (c - 1)) ≡ parent_of (after z m R W) c → other_at parents work m c z ≡ other_parent m R c
      go true x y = x
      go false x y = y
