-- The pass that writes parents: the columns done have their parents, and their places are wiped (`WritingParents`); the plans stand in the work table as
-- it was. Start, what one turn reads and writes, end. Assumes nothing.
use mathlib.Core.Path.{◌≡◌, sym, ap, ◌∙◌, subst}
use mathlib.Core.Logic.{◌⊎◌, ◌≢◌}
use mathlib.Core.List.{List, [], ◌∷◌, ◌++◌}
use Prim.Native.Nat.{ℕ, ◌+◌, ◌-◌, ◌≤◌, ◌<◌}
use native.Mathlib.Omega.{arith}
use lib.ListN.{length, set}
use Rattle.lists.specs.Lists.{put}
use Rattle.symbolic.specs.Factor.{FactorColumn, parent_of}
use Rattle.workspace.specs.Regions.{cell}
use Rattle.updown.specs.Plans.{parent_in}
use Rattle.workspace.specs.Layout.{marks_at, starts_at, next_at, plan_at}
use Rattle.commit.specs.Passes.{put_all, CanWriteParents, ParentsWritten}
use Rattle.commit.proofs.Standing.{Standing, Ahead, standing-start, standing-next, standing-end, standing-within}
use Rattle.commit.proofs.Wiped.{all_none, all_more, all-length, wiped-none, wiped-more, wiped-length, wiped-mark, wiped-next}

pub record WritingParents (L L' : List FactorColumn) (label : ℕ → ℕ) (columns : List ℕ) (used : ℕ) (parents₀ work₀ parents work : List ℕ) (j : ℕ) : Type 0 where
  pub done : List ℕ
  pub start : ℕ
  pub standing : Standing (length parents₀) L L' label work₀ columns used j done start
  pub written : ParentsWritten L' done parents₀ work₀ parents work

-- what holds at a column: its number, the tables' lengths, the column after it
pub record AtParent (parents₀ parents work : List ℕ) (j : ℕ) : Type 0 where
  pub low : 1 ≤ j
  pub high : j ≤ length parents₀
  pub bound : length parents₀ ≤ 4096
  pub parents-long : length parents ≡ length parents₀
  pub work-long : plan_at (length parents₀) ≤ length work
  pub rises : (cell work (next_at (length parents₀)) (j - 1) ≡ 0) ⊎
      ((j < cell work (next_at (length parents₀)) (j - 1)) × (cell work (next_at (length parents₀)) (j - 1) ≤ length parents₀))

module _ {L L' : List FactorColumn} {label : ℕ → ℕ} {columns parents₀ work₀ : List ℕ} {first used : ℕ}
    (can : CanWriteParents L L' label columns parents₀ work₀ first used) where
  pub parents-start : WritingParents L L' label columns used parents₀ work₀ parents₀ work₀ first
  parents-start =
      record {
        done = [];
        start = 0;
        standing = standing-start can.first-is can.plans;
        written = record { parents-are = sym (all_none (parent_of L') parents₀); work-is = sym (wiped-none (length parents₀) work₀) };
      }

  module _ {parents work : List ℕ} {j : ℕ} (i : WritingParents L L' label columns used parents₀ work₀ parents work j) where
    pub parents-length : length parents ≡ length parents₀
    parents-length = ap length i.written.parents-are ∙ all-length (parent_of L') i.done parents₀

    pub parents-work : length work ≡ length work₀
    parents-work = ap length i.written.work-is ∙ wiped-length (length parents₀) i.done work₀

    -- all are written
    pub parents-end : j ≡ 0 → ParentsWritten L' columns parents₀ work₀ parents work
    parents-end z = subst (λ (js : List ℕ). ParentsWritten L' js parents₀ work₀ parents work) (standing-end can.rising i.standing z) i.written

    -- ---- a turn

    module _ (n : j ≢ 0) where
      ahead : Ahead (length parents₀) L L' label work₀ columns used j i.done i.start
      ahead = standing-next can.rising i.standing n

      mark-same : cell work (marks_at (length parents₀)) (j - 1) ≡ cell work₀ (marks_at (length parents₀)) (j - 1)
      mark-same =
          ap (λ (w : List ℕ). cell w (marks_at (length parents₀)) (j - 1)) i.written.work-is ∙
          wiped-mark (length parents₀) i.done work₀ (standing-within can.rising i.standing) can.long j ahead.low ahead.high ahead.fresh

      next-same : cell work (next_at (length parents₀)) (j - 1) ≡ cell work₀ (next_at (length parents₀)) (j - 1)
      next-same =
          ap (λ (w : List ℕ). cell w (next_at (length parents₀)) (j - 1)) i.written.work-is ∙
          wiped-next (length parents₀) i.done work₀ (standing-within can.rising i.standing) can.long j ahead.low ahead.high ahead.fresh

      pub at-parent : AtParent parents₀ parents work j
      at-parent =
          record {
            low = ahead.low;
            high = ahead.high;
            bound = can.m-bound;
            parents-long = parents-length;
            work-long = omega (arith, parents-work, can.long);
            rises = subst (λ (x : ℕ). (x ≡ 0) ⊎ ((j < x) × (x ≤ length parents₀))) (sym next-same) ahead.after;
          }

      pub parents-turn :
          WritingParents L L' label columns used parents₀ work₀ (put parents j (parent_in (cell work (marks_at (length parents₀)) (j - 1))))
          (set (set (set work (marks_at (length parents₀) + (j - 1)) 0) (starts_at (length parents₀) + (j - 1)) 0) (next_at (length parents₀) + (j - 1)) 0)
          (cell work (next_at (length parents₀)) (j - 1))
      parents-turn =
          let d : List ℕ = i.done in
          record {
            done = d ++ (j ∷ []);
            start = ahead.end;
            standing = subst (λ (x : ℕ). Standing (length parents₀) L L' label work₀ columns used x (d ++ (j ∷ [])) ahead.end) (sym next-same) ahead.next;
            written = record {
              parents-are =
                  ap (λ (l : List ℕ). put l j (parent_in (cell work (marks_at (length parents₀)) (j - 1)))) i.written.parents-are ∙
                  ap (λ (v : ℕ). put (put_all (parent_of L') d parents₀) j v) (ap (λ (v : ℕ). parent_in v) mark-same ∙ ahead.plan.parent_is) ∙
                  sym (all_more (parent_of L') d j parents₀);
              work-is =
                  ap (λ (w : List ℕ). set (set (set w (marks_at (length parents₀) + (j - 1)) 0) (starts_at (length parents₀) + (j - 1)) 0) (next_at (length parents₀) + (j - 1)) 0) i.written.work-is ∙
                  sym (wiped-more (length parents₀) d j work₀);
            };
          }
