-- Touched columns gathered. A place that is given a size, or has one; then the pass: the columns done are gathered (`Gathering`),
-- and the plans stand in the work table as it was. Start, what one turn reads and writes, end. Assumes nothing.
use mathlib.Core.Path.{◌≡◌, refl, sym, ap, ◌∙◌, subst}
use mathlib.Core.Logic.{◌⊎◌, inl, inr, ◌≢◌}
use mathlib.Core.List.{List, [], ◌∷◌, ◌++◌}
use Prim.Native.Nat.{ℕ, ◌+◌, ◌-◌, ◌*◌, ◌≤◌, ◌<◌}
use native.Mathlib.Omega.{arith}
use lib.ListN.{length, set}
use lib.Seq.{get_or-set_same, get_or-set_other}
use borrow.Author.Tests.{lt-ltb, le-ltb}
use Rattle.lists.specs.Lists.{at, times}
use Rattle.lists.proofs.Tests.{eq-or-ne}
use Rattle.lists.proofs.Times.{times-nil, times-self, times-other, times-append, times-mem}
use Rattle.symbolic.specs.Factor.{FactorColumn}
use Rattle.workspace.specs.Regions.{cell}
use Rattle.workspace.specs.Layout.{next_at, spare}
use Rattle.workspace.specs.Parts.{upper_weight}
use Rattle.workspace.proofs.Regions.{only-refl, only_store}
use Rattle.commit.specs.Gather.{column_place, IsGathered, with_size, stored_size, CanCount, CanGatherColumns, ColumnsGathered}
use Rattle.commit.proofs.Standing.{Standing, Ahead, standing-start, standing-next, standing-end, standing-within}

-- ---- a place

pub size-added : (x n : ℕ) → x < upper_weight → with_size x n ≡ x + upper_weight * (1 + n)
size-added x n h = rw (lt-ltb x upper_weight h) refl

pub size-stays : (x n : ℕ) → IsGathered x → with_size x n ≡ x
size-stays x n h = rw (le-ltb x upper_weight h) refl

-- ---- the invariant

pub record Gathering (heads next : List ℕ) (L L' : List FactorColumn) (label : ℕ → ℕ) (columns : List ℕ) (a used : ℕ) (work₀ work : List ℕ) (j : ℕ) : Type 0 where
  pub done : List ℕ
  pub start : ℕ
  pub standing : Standing (length heads) L L' label work₀ columns used j done start
  pub gathered : ColumnsGathered heads next done a work₀ work

-- what holds at a column: its number, the places of all columns, its chain, the column after it
pub record AtGather (heads next work : List ℕ) (a j : ℕ) : Type 0 where
  pub low : 1 ≤ j
  pub high : j ≤ length heads
  pub bound : length heads ≤ 4096
  pub apart : spare (length heads) (length next) ≤ a
  pub long : a + length heads ≤ length work
  pub count : CanCount next (at heads j)
  pub rises : (cell work (next_at (length heads)) (j - 1) ≡ 0) ⊎
      ((j < cell work (next_at (length heads)) (j - 1)) × (cell work (next_at (length heads)) (j - 1) ≤ length heads))

module _ {heads next : List ℕ} {L L' : List FactorColumn} {label : ℕ → ℕ} {columns work₀ : List ℕ} {a first used : ℕ}
    (can : CanGatherColumns heads next L L' label columns work₀ a first used) where
  pub gathering-start : Gathering heads next L L' label columns a used work₀ work₀ first
  gathering-start =
      record {
        done = [];
        start = 0;
        standing = standing-start can.first-is can.plans;
        gathered = record {
          only = only-refl;
          fresh = λ j h l. absurd (omega (arith, times-nil j));
          kept = λ j h l. refl;
          others = λ j b c z. refl;
        };
      }

  module _ {work : List ℕ} {j : ℕ} (i : Gathering heads next L L' label columns a used work₀ work j) where
    pub gathering-length : length work ≡ length work₀
    gathering-length = i.gathered.only.same_length

    -- all are gathered
    pub gathering-end : j ≡ 0 → ColumnsGathered heads next columns a work₀ work
    gathering-end z = subst (λ (js : List ℕ). ColumnsGathered heads next js a work₀ work) (standing-end can.rising i.standing z) i.gathered

    -- ---- a turn

    module _ (n : j ≢ 0) where
      ahead : Ahead (length heads) L L' label work₀ columns used j i.done i.start
      ahead = standing-next can.rising i.standing n

      next-same : cell work (next_at (length heads)) (j - 1) ≡ cell work₀ (next_at (length heads)) (j - 1)
      next-same = i.gathered.only.outside (5 * length heads + (j - 1)) (inl (omega (arith, ahead.low, ahead.high, can.apart)))

      pub at-gather : AtGather heads next work a j
      at-gather =
          record {
            low = ahead.low;
            high = ahead.high;
            bound = can.m-bound;
            apart = can.apart;
            long = omega (arith, gathering-length, can.long);
            count = can.counts j ahead.low ahead.high;
            rises = subst (λ (x : ℕ). (x ≡ 0) ⊎ ((j < x) × (x ≤ length heads))) (sym next-same) ahead.after;
          }

      -- the place of j is as it was
      place-before : column_place work a j ≡ column_place work₀ a j
      place-before = i.gathered.others j ahead.low ahead.high ahead.fresh

      done-low : (l : ℕ) → 1 ≤ times l i.done → 1 ≤ l
      done-low l h = (standing-within can.rising i.standing l (times-mem l i.done h)).0

      abbrev size : ℕ
      size = stored_size heads next j

      abbrev stored : List ℕ
      stored = set work (a + (j - 1)) (with_size (cell work a (j - 1)) size)

      here : column_place stored a j ≡ with_size (column_place work₀ a j) size
      here =
          get_or-set_same work (a + (j - 1)) (with_size (cell work a (j - 1)) size) 0 (omega (arith, at-gather.long, ahead.low, ahead.high)) ∙
          ap (λ (x : ℕ). with_size x size) place-before

      elsewhere : (l : ℕ) → 1 ≤ l → l ≢ j → column_place stored a l ≡ column_place work a l
      elsewhere l b d = get_or-set_other work (a + (j - 1)) (a + (l - 1)) (with_size (cell work a (j - 1)) size) 0 (λ e. d (omega (arith, ahead.low)))

      -- a column of those done and j is j, or one done before
      split : (l : ℕ) → 1 ≤ times l (i.done ++ (j ∷ [])) → (l ≡ j) ⊎ ((l ≢ j) × (1 ≤ times l i.done))
      split l h =
          elim (eq-or-ne l j) [
            | inl e ↦ inl e
            | inr d ↦ inr (d, omega (arith, times-append l i.done (j ∷ []), times-other l j [] d, times-nil l))
          ]

      gathered-more : ColumnsGathered heads next (i.done ++ (j ∷ [])) a work₀ stored
      gathered-more =
          record {
            only = only_store i.gathered.only (j - 1) (with_size (cell work a (j - 1)) size) (omega (arith, ahead.low, ahead.high));
            fresh = λ l h b. elim (split l h) [
              | inl e ↦ subst (λ (x : ℕ). column_place work₀ a x < upper_weight → column_place stored a x ≡ column_place work₀ a x + upper_weight * (1 + stored_size heads next x)) (sym e)
                  (λ q. here ∙ size-added (column_place work₀ a j) size q) b
              | inr t ↦ elsewhere l (done-low l t.1) t.0 ∙ i.gathered.fresh l t.1 b
            ];
            kept = λ l h b. elim (split l h) [
              | inl e ↦ subst (λ (x : ℕ). IsGathered (column_place work₀ a x) → column_place stored a x ≡ column_place work₀ a x) (sym e)
                  (λ q. here ∙ size-stays (column_place work₀ a j) size q) b
              | inr t ↦ elsewhere l (done-low l t.1) t.0 ∙ i.gathered.kept l t.1 b
            ];
            others = λ l b c z.
                let d : l ≢ j = λ e. omega (arith, times-append l i.done (j ∷ []), ap (λ (x : ℕ). times x (j ∷ [])) e, times-self j []) in
                elsewhere l b d ∙ i.gathered.others l b c (omega (arith, times-append l i.done (j ∷ [])));
          }

      pub gathering-turn : {v : ℕ} → v ≡ with_size (cell work a (j - 1)) (stored_size heads next j) →
          Gathering heads next L L' label columns a used work₀ (set work (a + (j - 1)) v) (cell work (next_at (length heads)) (j - 1))
      gathering-turn {v} e =
          record {
            done = i.done ++ (j ∷ []);
            start = ahead.end;
            standing = subst (λ (x : ℕ). Standing (length heads) L L' label work₀ columns used x (i.done ++ (j ∷ [])) ahead.end) (sym next-same) ahead.next;
            gathered = subst (λ (x : ℕ). ColumnsGathered heads next (i.done ++ (j ∷ [])) a work₀ (set work (a + (j - 1)) x)) (sym e) gathered-more;
          }
