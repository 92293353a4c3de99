-- The pass that commits: the columns done hold their new multiplicities, the plans of the others stand, and free records are left for them
-- (`Committing`). Start, what one turn asks and gives, end. Assumes nothing.
use mathlib.Core.Path.{◌≡◌, refl, sym, ap, ◌∙◌, subst}
use mathlib.Core.Logic.{◌⊎◌, inl, inr, ◌≢◌}
use mathlib.Core.List.{List, [], ◌∷◌, ◌++◌}
use Prim.Native.Nat.{ℕ, ◌+◌, ◌-◌, ◌≤◌, ◌<◌}
use native.Mathlib.Omega.{arith}
use lib.ListN.{length}
use Rattle.lists.specs.Lists.{at}
use Rattle.symbolic.specs.Factor.{FactorColumn, column_at}
use Rattle.workspace.specs.Regions.{cell, region}
use Rattle.workspace.proofs.Regions.{region-join}
use Rattle.tables.specs.Stored.{Stored}
use Rattle.columns.specs.Plan.{of_kind}
use Rattle.columns.specs.Commit.{CanCommitChain, CommitReady, CommittedChain, CanCommit}
use Rattle.columns.proofs.Plan.{kind-append}
use Rattle.columns.proofs.Commits.{can-commit-chain, commit-ready, stored_with, committed, Commits, commits-start, commits-holds, commits-next}
use Rattle.workspace.specs.Layout.{starts_at, next_at, plan_at}
use Rattle.commit.specs.Passes.{end_of, CanCommitPlans, PlansCommitted}
use Rattle.commit.proofs.Standing.{Standing, Ahead, standing-start, standing-next, standing-end}

-- ---- kinds of a plan that is cut in two

kinds-cut : (k : ℕ) (w : List ℕ) (p start end used : ℕ) → start ≤ end → end ≤ used →
    of_kind k (region w (p + start) (used - start)) ≡ of_kind k (region w (p + start) (end - start)) + of_kind k (region w (p + end) (used - end))
kinds-cut k w p start end used a b =
    let e : used - start ≡ end - start + (used - end) = omega arith in
    let f : p + start + (end - start) ≡ p + end = omega arith in
    ap (λ (n : ℕ). of_kind k (region w (p + start) n)) e ∙ ap (λ (l : List ℕ). of_kind k l) (region-join w (p + start) (end - start) (used - end)) ∙
    kind-append k (region w (p + start) (end - start)) (region w (p + start + (end - start)) (used - end)) ∙
    ap (λ (n : ℕ). of_kind k (region w (p + start) (end - start)) + of_kind k (region w n (used - end))) f

-- ---- the invariant

pub record Committing (s : Stored) (L L' : List FactorColumn) (label : ℕ → ℕ) (columns work : List ℕ) (used : ℕ) (now : Stored) (j : ℕ) : Type 0 where
  pub done : List ℕ
  pub start : ℕ
  pub taken : ℕ
  pub given : ℕ
  pub standing : Standing (length s.heads) L L' label work columns used j done start
  pub commits : Commits s now (λ l. (column_at L' l).counts) done taken given
  pub records : length now.next ≡ length s.next
  -- new entries so far and those to come
  pub left : taken + of_kind 1 (region work (plan_at (length s.heads) + start) (used - start)) ≡ of_kind 1 (region work (plan_at (length s.heads)) used)

-- what holds at a column: its number, its plan's place, the column after it
pub record AtColumn (m : ℕ) (work : List ℕ) (used j : ℕ) : Type 0 where
  pub low : 1 ≤ j
  pub high : j ≤ m
  pub bound : m ≤ 4096
  pub long : plan_at m + used ≤ length work
  pub starts : cell work (starts_at m) (j - 1) ≤ end_of m work (cell work (next_at m) (j - 1)) used
  pub ends : end_of m work (cell work (next_at m) (j - 1)) used ≤ used
  pub after : cell work (next_at m) (j - 1) ≤ m
  pub rises : (cell work (next_at m) (j - 1) ≡ 0) ⊎ ((j < cell work (next_at m) (j - 1)) × (cell work (next_at m) (j - 1) ≤ m))

after-within : (m j x : ℕ) → (x ≡ 0) ⊎ ((j < x) × (x ≤ m)) → x ≤ m
after-within m j x (inl e) = omega arith
after-within m j x (inr t) = t.1

module _ {s : Stored} {L L' : List FactorColumn} {label : ℕ → ℕ} {columns work : List ℕ} {first used : ℕ}
    (can : CanCommitPlans s L L' label columns work first used) where
  pub committing-start : Committing s L L' label columns work used s first
  committing-start =
      let e : plan_at (length s.heads) + 0 ≡ plan_at (length s.heads) = omega arith in
      let f : used - 0 ≡ used = omega arith in
      record {
        done = [];
        start = 0;
        taken = 0;
        given = 0;
        standing = standing-start can.first-is can.plans;
        commits = commits-start s (λ l. (column_at L' l).counts) can.ready;
        records = refl;
        left = omega (arith, ap (λ (a : ℕ). of_kind 1 (region work a (used - 0))) e, ap (λ (n : ℕ). of_kind 1 (region work (plan_at (length s.heads)) n)) f);
      }

  module _ {now : Stored} {j : ℕ} (i : Committing s L L' label columns work used now j) where
    pub committing-long : length now.rows ≡ length s.rows
    committing-long = i.commits.ready.sized.rows_long ∙ i.records ∙ sym can.ready.sized.rows_long

    pub committing-counts : length now.counts ≡ length s.counts
    committing-counts = i.commits.ready.sized.counts-long ∙ i.records ∙ sym can.ready.sized.counts-long

    -- all is committed
    pub committing-end : j ≡ 0 → PlansCommitted s L' columns now
    committing-end z =
        let e : i.done ≡ columns = standing-end can.rising i.standing z in
        let c : Commits s now (λ l. (column_at L' l).counts) columns i.taken i.given =
        subst (λ (js : List ℕ). Commits s now (λ l. (column_at L' l).counts) js i.taken i.given) e i.commits in
        record { ready = c.ready; holds = c.holds; keep = c.keep; others = c.others }

    -- ---- a turn

    module _ (n : j ≢ 0) where
      ahead : Ahead (length s.heads) L L' label work columns used j i.done i.start
      ahead = standing-next can.rising i.standing n

      abbrev entries : List ℕ
      entries = region work (plan_at (length s.heads) + i.start) (ahead.end - i.start)

      pub at-column : AtColumn (length s.heads) work used j
      at-column =
          record {
            low = ahead.low;
            high = ahead.high;
            bound = can.m-bound;
            long = can.long;
            starts = omega (arith, ahead.plan.starts, ahead.ends, ahead.plan.rises);
            ends = omega (arith, ahead.ends, ahead.within);
            after = after-within (length s.heads) j (cell work (next_at (length s.heads)) (j - 1)) ahead.after;
            rises = ahead.after;
          }

      can-commit : CanCommit now j (column_at L j).counts entries
      can-commit =
          record {
            ready = i.commits.ready;
            low = ahead.low;
            high = omega (arith, ahead.high, ap length i.commits.heads);
            holds = commits-holds i.commits j ahead.low ahead.high ahead.fresh (can.holds j ahead.low ahead.high);
            below = λ k a b. can.below k j a b ahead.high;
            diagonal = (
              (can.diagonal j ahead.low ahead.high).0,
              subst (λ (ns : List ℕ). 0 < at ns j) (sym ahead.plan.becomes) (can.diagonal j ahead.low ahead.high).1,
            );
            suits = ahead.plan.suits;
            room = omega (arith, i.left, i.commits.free-left, can.room, kinds-cut 1 work (plan_at (length s.heads)) i.start ahead.end used ahead.plan.rises ahead.within);
          }

      module _ {a e : ℕ} (p : a ≡ plan_at (length s.heads) + cell work (starts_at (length s.heads)) (j - 1))
          (q : e ≡ plan_at (length s.heads) + end_of (length s.heads) work (cell work (next_at (length s.heads)) (j - 1)) used) where
        lent : region work a (e - a) ≡ entries
        lent =
            let x : a ≡ plan_at (length s.heads) + i.start = omega (arith, ahead.plan.starts) in
            let y : e - a ≡ ahead.end - i.start = omega (arith, ahead.plan.starts, ahead.ends) in
            ap (λ (b : ℕ). region work b (e - a)) x ∙ ap (λ (b : ℕ). region work (plan_at (length s.heads) + i.start) b) y

        pub committing-ready : CommitReady now.rows now.counts now.next (at now.heads j) now.free (region work a (e - a))
        committing-ready =
            subst (λ (l : List ℕ). CommitReady now.rows now.counts now.next (at now.heads j) now.free l) (sym lent) (commit-ready can-commit)

        pub committing-turn : {rows counts next : List ℕ} {free : ℕ} → ((ns : List ℕ) →
            CanCommitChain now.rows now.counts now.next (at now.heads j) now.free ns (region work a (e - a)) →
            CommittedChain now.rows now.counts now.next (at now.heads j) now.free ns (region work a (e - a)) rows counts next free) →
            Committing s L L' label columns work used (stored_with now rows counts next free) (cell work (next_at (length s.heads)) (j - 1))
        committing-turn {rows} {counts} {next} {free} f =
            let d : CommittedChain now.rows now.counts now.next (at now.heads j) now.free (column_at L j).counts entries rows counts next free =
            subst (λ (l : List ℕ). (ns : List ℕ) → CanCommitChain now.rows now.counts now.next (at now.heads j) now.free ns l →
            CommittedChain now.rows now.counts now.next (at now.heads j) now.free ns l rows counts next free) lent f (column_at L j).counts
            (can-commit-chain can-commit) in
            record {
              done = i.done ++ (j ∷ []);
              start = ahead.end;
              taken = i.taken + of_kind 1 entries;
              given = i.given + of_kind 2 entries;
              standing = ahead.next;
              commits = commits-next i.commits ahead.low ahead.high ahead.fresh ahead.plan.becomes (committed can-commit d);
              records = d.rewritten.changed.same_length ∙ i.records;
              left = omega (arith, i.left, kinds-cut 1 work (plan_at (length s.heads)) i.start ahead.end used ahead.plan.rises ahead.within);
            }
