-- The stored columns, for callers: what a column holds, as a test and as facts (`column-holds`, `holds-column`, all columns at once); what is read of a
-- held column (`held-count`) and what may be read of it; a chain that stays, and what it keeps.
-- Assumes nothing.
use mathlib.Core.Path.{◌≡◌, refl, sym, ◌∙◌, subst}
use mathlib.Core.Bool.{true}
use mathlib.Core.List.{List}
use Prim.Native.Nat.{ℕ, ◌+◌, ◌-◌, ◌≤◌}
use native.Mathlib.Omega.{arith}
use lib.ListN.{length}
use Rattle.lists.specs.Lists.{Mem, at, values_at, all_zero}
use Rattle.lists.proofs.Tests.{and_both, both-and}
use Rattle.lists.proofs.Member.{zero-at}
use Rattle.lists.proofs.Times.{times-mem}
use Rattle.lists.proofs.Place.{values-mem, values-zero}
use Rattle.pool.specs.Chains.{chain}
use Rattle.pool.proofs.Whole.{pool-linked}
use Rattle.tables.specs.Stored.{Stored, records_of, free_zero}
use Rattle.tables.specs.Stays.{EntriesKeep}
use Rattle.columns.specs.Search.{count_of, CanSearch, CanRead}
use Rattle.columns.specs.Commit.{HoldsFrom, Holds, ZeroAt, Ready, ChainStays}
use Rattle.columns.proofs.Holding.{holds-rises, holds-count, holds_frame, rises-once}

-- ---- what a column holds, as a test and as facts

-- free records are zero
pub free-zero : (s : Stored) → free_zero s ≡ true → ZeroAt s.rows s.counts (chain s.next s.free)
free-zero s h x n =
    let rs : List ℕ = chain s.next s.free in
    let t : (all_zero (values_at s.rows rs) ≡ true) × (all_zero (values_at s.counts rs) ≡ true) = and_both (all_zero (values_at s.rows rs)) (all_zero (values_at s.counts rs)) h in
    (zero-at (values-mem s.rows (times-mem x rs n)) t.0, zero-at (values-mem s.counts (times-mem x rs n)) t.1)

pub zero-free : (s : Stored) → ZeroAt s.rows s.counts (chain s.next s.free) → free_zero s ≡ true
zero-free s h =
    both-and (values-zero s.rows (chain s.next s.free) (λ x n. (h x n).0)) (values-zero s.counts (chain s.next s.free) (λ x n. (h x n).1))

-- ---- what is read of a held column

module _ (s : Stored) (j : ℕ) {ns : List ℕ} (h : Holds s j ns) where
  -- the multiplicity of a row; past the last row both are 0
  pub held-count : (i : ℕ) → 1 ≤ i → count_of s.rows s.counts (records_of s j) i ≡ at ns i
  held-count i a = let q : 1 + (i - 1) ≡ i = omega arith in rw q at (holds-count 1 ns (records_of s j) (i - 1) h)

-- ---- what may be read of it

module _ {s : Stored} {j : ℕ} (r : Ready s) (low : 1 ≤ j) (high : j ≤ length s.heads) where
  pub can-search : CanSearch s.rows s.next (at s.heads j)
  can-search = record { linked = pool-linked r.pool j low high; rows_long = r.sized.rows_long }

  pub can-read : CanRead s.rows s.counts s.next (at s.heads j)
  can-read = record { linked = pool-linked r.pool j low high; rows_long = r.sized.rows_long; counts-long = r.sized.counts-long }

-- ---- a chain that stays

pub stays-self : (s : Stored) (l : ℕ) → ChainStays s s l
stays-self s l = record { records = refl; row = λ x m. refl; count = λ x m. refl; next = λ x m. refl }

module _ {s t : Stored} {l : ℕ} (c : ChainStays s t l) where
  pub stays-trans : {u : Stored} → ChainStays t u l → ChainStays s u l
  stays-trans d =
      let there : (x : ℕ) → Mem x (records_of s l) → Mem x (records_of t l) = λ x m. subst (λ (rs : List ℕ). Mem x rs) (sym c.records) m in
      record {
        records = d.records ∙ c.records;
        row = λ x m. d.row x (there x m) ∙ c.row x m;
        count = λ x m. d.count x (there x m) ∙ c.count x m;
        next = λ x m. d.next x (there x m) ∙ c.next x m;
      }

  -- it holds what it held
  pub stays-holds : {ns : List ℕ} → Holds s l ns → Holds t l ns
  stays-holds {ns} h =
      subst (λ (rs : List ℕ). HoldsFrom t.rows t.counts 1 ns rs) (sym c.records)
      (holds_frame (λ x n. (c.row x (times-mem x (records_of s l) n), c.count x (times-mem x (records_of s l) n))) h)

  -- entries keep their records, also before or after a change that keeps them
  pub keep-stays : (r : Stored) → EntriesKeep r s l → EntriesKeep r t l
  keep-stays r k x y m n e =
      let there : Mem y (records_of s l) = subst (λ (rs : List ℕ). Mem y rs) c.records n in
      k x y m there (e ∙ c.row y there)

  pub stays-keep : (u : Stored) → EntriesKeep t u l → EntriesKeep s u l
  stays-keep u k x y m n e = k x y (subst (λ (rs : List ℕ). Mem x rs) (sym c.records) m) n (c.row x m ∙ e)

  pub held-keep : {ns : List ℕ} → Holds s l ns → EntriesKeep s t l
  held-keep {ns} h x y m n e =
      let there : Mem y (records_of s l) = subst (λ (rs : List ℕ). Mem y rs) c.records n in
      rises-once s.rows 1 (length ns) (records_of s l) (holds-rises (length ns) (omega arith) h) m there (e ∙ c.row y there)
