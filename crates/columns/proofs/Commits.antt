-- Commits of the stored columns, for callers: from CanCommit what `commit_column` asks (`commit-ready`), and from what it gives Committed (`committed`);
-- then one column after another (`Commits`: start, one more, what a column that comes holds). Assumes nothing.
use mathlib.Core.Path.{◌≡◌, refl, sym, ap, ◌∙◌, subst}
use mathlib.Core.Logic.{inl, inr, ◌≢◌}
use mathlib.Core.List.{List, [], ◌∷◌, ◌++◌}
use Prim.Native.Nat.{ℕ, suc, ◌+◌, ◌-◌, ◌≤◌}
use native.Mathlib.Omega.{arith}
use lib.ListN.{length, get_or, get_or-append}
use Rattle.lists.specs.Lists.{Mem, at, times}
use Rattle.lists.proofs.Tests.{eq-or-ne, lt-or-le}
use Rattle.lists.proofs.Times.{times-nil, times-self, times-other, times-append, mem-times}
use Rattle.pool.specs.Chains.{chain, Linked}
use Rattle.pool.proofs.Chains.{linked-low}
use Rattle.pool.proofs.Whole.{pool-linked}
use Rattle.pool.proofs.Changes.{changed-chain, changed-free, pool-beside, PoolAfter, pool-changed, pool-kept}
use Rattle.tables.specs.Stored.{Stored, records_of}
use Rattle.tables.specs.Stays.{EntriesKeep}
use Rattle.columns.specs.Search.{count_of}
use Rattle.columns.specs.Plan.{planned, of_kind}
use Rattle.columns.specs.Commit.{HoldsFrom, Holds, ZeroAt, CanCommitChain, CommitReady, CommittedChain, Ready, CanCommit, ChainStays, Committed}
use Rattle.columns.proofs.Search.{Here, here, chain-none}
use Rattle.columns.proofs.Holding.{First, holds-first, holds-count}
use Rattle.columns.proofs.Plan.{at_cut}
use Rattle.columns.proofs.Stored.{free-zero, zero-free, held-count, stays-self, stays-trans, stays-holds, keep-stays, stays-keep}

-- ---- one column: what is asked

module _ {s : Stored} {j : ℕ} {ns plan : List ℕ} (c : CanCommit s j ns plan) where
  linked : Linked s.next (at s.heads j) (records_of s j)
  linked = pool-linked c.ready.pool j c.low c.high

  -- a column without a record holds nothing
  head-some : at s.heads j ≢ 0
  unfolding count_of
  head-some z =
      let none : count_of s.rows s.counts (records_of s j) j ≡ 0 = rw (chain-none s.next (at s.heads j) z) refl in
      omega (arith, held-count s j c.holds j c.low, c.diagonal.0)

  chain_head : Here s.next (at s.heads j)
  chain_head = here s.next (at s.heads j) head-some linked

  first-row : First s.rows s.counts 1 ns (at s.heads j) (chain s.next (at s.next (at s.heads j))) → at s.rows (at s.heads j) ≡ j
  unfolding count_of
  first-row f =
      let k : ℕ = length f.skipped in
      let here : at ns (suc k) ≡ f.count = ap (λ (l : List ℕ). at l (suc k)) f.counts-are ∙ at_cut f.skipped f.count f.after (suc k) refl in
      elim (lt-or-le (suc k) j) [
        | inl l ↦ absurd (omega (arith, c.below (suc k) (omega arith) l, f.some))
        | inr l ↦ elim (eq-or-ne j (suc k)) [
          | inl e ↦ omega (arith, f.row)
          | inr n ↦
              let before : at ns j ≡ get_or f.skipped (j - 1) 0 =
              ap (λ (l : List ℕ). at l j) f.counts-are ∙ get_or-append f.skipped (f.count ∷ f.after) 0 (j - 1) (omega (arith, c.low)) in
              absurd (omega (arith, holds-count 1 f.skipped [] (j - 1) f.none, c.diagonal.0))
        ]
      ]

  -- the diagonal comes first
  pub diagonal-row : at s.rows (at s.heads j) ≡ j
  diagonal-row =
      first-row (holds-first 1 ns (at s.heads j) (chain s.next (at s.next (at s.heads j))) (subst (λ (l : List ℕ). HoldsFrom s.rows s.counts 1 ns l) chain_head.parts c.holds))

  pub can-commit-chain : CanCommitChain s.rows s.counts s.next (at s.heads j) s.free ns plan
  can-commit-chain =
      record {
        rows_long = c.ready.sized.rows_long;
        counts-long = c.ready.sized.counts-long;
        beside = pool-beside c.ready.pool j c.low c.high;
        zero = free-zero s c.ready.zero;
        holds = c.holds;
        some = chain_head.low;
        suits = rw diagonal-row c.suits;
        stays = rw diagonal-row c.diagonal.1;
        room = c.room;
      }

  pub commit-ready : CommitReady s.rows s.counts s.next (at s.heads j) s.free plan
  commit-ready = record { multiplicities = ns; can = can-commit-chain }

-- ---- one column: what is given

-- the stored columns with other records
abbrev pub stored_with : Stored → (rows counts next : List ℕ) → (free : ℕ) → Stored
stored_with s rows counts next free = record { heads = s.heads; parents = s.parents; rows = rows; counts = counts; next = next; free = free }

module _ {s : Stored} {j : ℕ} {ns plan : List ℕ} (c : CanCommit s j ns plan) {rows counts next : List ℕ} {free : ℕ}
    (d : CommittedChain s.rows s.counts s.next (at s.heads j) s.free ns plan rows counts next free) where
  same-chain : chain next (at s.heads j) ≡ d.records
  same-chain = changed-chain d.rewritten.changed

  same-free : chain next free ≡ d.rest
  same-free = changed-free d.rewritten.changed

  pool-after : PoolAfter s.next s.heads s.free j next (at s.heads j) free d.records d.rest
  pool-after = pool-changed c.ready.pool j c.low c.high d.rewritten.changed

  other-stays : (l : ℕ) → 1 ≤ l → l ≤ length s.heads → l ≢ j → ChainStays s (stored_with s rows counts next free) l
  other-stays l a b n =
      let apart : (x : ℕ) → Mem x (records_of s l) → times x (chain s.next (at s.heads j)) + times x (chain s.next s.free) ≡ 0 =
      λ x m. pool-after.other-apart l a b n x (mem-times m) in
      let low : (x : ℕ) → Mem x (records_of s l) → 1 ≤ x = λ x m. linked-low s.next (at s.heads l) (records_of s l) x (pool-linked c.ready.pool l a b) (mem-times m) in
      record {
        records = pool-after.other-same l a b n;
        row = λ x m. (d.rewritten.frame x (low x m) (apart x m)).0;
        count = λ x m. (d.rewritten.frame x (low x m) (apart x m)).1;
        next = λ x m. d.rewritten.changed.frame x (low x m) (apart x m);
      }

  pub committed : Committed s j ns plan (stored_with s rows counts next free)
  committed =
      record {
        heads = refl;
        parents = refl;
        ready = record {
          sized = record {
            parents-long = c.ready.sized.parents-long;
            rows_long = d.rewritten.rows_long ∙ c.ready.sized.rows_long ∙ sym d.rewritten.changed.same_length;
            counts-long = d.rewritten.counts-long ∙ c.ready.sized.counts-long ∙ sym d.rewritten.changed.same_length;
          };
          pool = pool-kept c.ready.pool j c.low c.high d.rewritten.changed;
          zero = zero-free (stored_with s rows counts next free) (subst (λ (l : List ℕ). ZeroAt rows counts l) (sym same-free) d.rewritten.zero);
        };
        holds = subst (λ (l : List ℕ). HoldsFrom rows counts 1 (planned ns plan) l) (sym same-chain) d.holds;
        others = other-stays;
        keep = λ x y m n e. d.rewritten.keep x y (mem-times m) (mem-times (subst (λ (l : List ℕ). Mem y l) same-chain n)) e;
        free-left = omega (arith, d.free-left, ap length same-free);
      }

-- ---- one column after another

-- from s to now the columns touched, which came one after another, got the multiplicities new; taken records left the free chain, given ones came
pub record Commits (s now : Stored) (new : ℕ → List ℕ) (touched : List ℕ) (taken given : ℕ) : Type 0 where
  pub heads : now.heads ≡ s.heads
  pub parents : now.parents ≡ s.parents
  pub ready : Ready now
  pub within : (l : ℕ) → 1 ≤ times l touched → (1 ≤ l) × (l ≤ length s.heads)
  pub holds : (l : ℕ) → 1 ≤ times l touched → Holds now l (new l)
  pub keep : (l : ℕ) → 1 ≤ times l touched → EntriesKeep s now l
  pub others : (l : ℕ) → 1 ≤ l → l ≤ length s.heads → times l touched ≡ 0 → ChainStays s now l
  pub free-left : length (chain now.next now.free) + taken ≡ length (chain s.next s.free) + given

pub commits-start : (s : Stored) (new : ℕ → List ℕ) → Ready s → Commits s s new [] 0 0
commits-start s new r =
    record {
      heads = refl;
      parents = refl;
      ready = r;
      within = λ l n. absurd (omega (arith, times-nil l));
      holds = λ l n. absurd (omega (arith, times-nil l));
      keep = λ l n. absurd (omega (arith, times-nil l));
      others = λ l a b n. stays-self s l;
      free-left = refl;
    }

module _ {s now : Stored} {new : ℕ → List ℕ} {touched : List ℕ} {taken given : ℕ} (k : Commits s now new touched taken given) where
  -- what a column that comes holds
  pub commits-holds : {ns : List ℕ} (l : ℕ) → 1 ≤ l → l ≤ length s.heads → times l touched ≡ 0 → Holds s l ns → Holds now l ns
  commits-holds l a b n h = stays-holds (k.others l a b n) h

  -- one column more
  pub commits-next : {j : ℕ} {ns plan : List ℕ} {after : Stored} → 1 ≤ j → j ≤ length s.heads → times j touched ≡ 0 →
      planned ns plan ≡ new j → Committed now j ns plan after → Commits s after new (touched ++ (j ∷ [])) (taken + of_kind 1 plan) (given + of_kind 2 plan)
  commits-next {j} {ns} {plan} {after} low high fresh q c =
      let many : (l : ℕ) → times l (touched ++ (j ∷ [])) ≡ times l touched + times l (j ∷ []) = λ l. times-append l touched (j ∷ []) in
      let long : length now.heads ≡ length s.heads = ap length k.heads in
      let stays : (l : ℕ) → 1 ≤ l → l ≤ length s.heads → l ≢ j → ChainStays now after l = λ l a b n. c.others l a (omega arith) n in
      let earlier : (l : ℕ) → 1 ≤ times l (touched ++ (j ∷ [])) → l ≢ j → 1 ≤ times l touched = λ l n d. omega (arith, many l, times-other l j [] d, times-nil l) in
      record {
        heads = c.heads ∙ k.heads;
        parents = c.parents ∙ k.parents;
        ready = c.ready;
        within = λ l n. elim (eq-or-ne l j) [ inl e ↦ omega arith | inr d ↦ k.within l (earlier l n d) ];
        holds = λ l n. elim (eq-or-ne l j) [
          | inl e ↦ subst (λ (x : ℕ). Holds after x (new x)) (sym e) (subst (λ (ms : List ℕ). Holds after j ms) q c.holds)
          | inr d ↦
              let m : 1 ≤ times l touched = earlier l n d in
              stays-holds (stays l (k.within l m).0 (k.within l m).1 d) (k.holds l m)
        ];
        keep = λ l n. elim (eq-or-ne l j) [
          | inl e ↦ subst (λ (x : ℕ). EntriesKeep s after x) (sym e) (stays-keep (k.others j low high fresh) after c.keep)
          | inr d ↦
              let m : 1 ≤ times l touched = earlier l n d in
              keep-stays (stays l (k.within l m).0 (k.within l m).1 d) s (k.keep l m)
        ];
        others = λ l a b n.
            let d : l ≢ j = λ e. omega (arith, many l, ap (λ (x : ℕ). times x (j ∷ [])) e, times-self j []) in
            stays-trans (k.others l a b (omega (arith, many l))) (stays l a b d);
        free-left = omega (arith, c.free-left, k.free-left);
      }
