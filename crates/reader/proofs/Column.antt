-- Reading a stored column from tables that begin with the stored ones: the records of a chain, row by row, then the end (`chain-read`). On sound tables
-- that is the factor's column (`column-read`), and record 0, a record past the tables or a free one gives the end (`end_read`); each for the stored
-- columns themselves and for whole tables.
-- Assumes nothing.
use Rattle.std.proofs.Common.{None}
use mathlib.Core.Path.{◌≡◌, refl, sym, ap, ◌∙◌}
use mathlib.Core.Logic.{◌≢◌}
use mathlib.Core.List.{List, [], ◌∷◌, ◌++◌}
use Prim.Native.Nat.{ℕ, zero, suc, ◌+◌, ◌-◌, ◌≤◌}
use native.Mathlib.Omega.{arith}
use lib.ListN.{length, take, replicate}
use lib.Seq.{length-take-le, get_or-take}
use Rattle.lists.specs.Lists.{Mem, first, later, at, values_at}
use Rattle.lists.proofs.Member.{zero-at}
use Rattle.lists.proofs.Times.{mem-times}
use Rattle.lists.proofs.Place.{values_length, values-mem}
use Rattle.symbolic.specs.Columns.{Column, live}
use Rattle.symbolic.specs.Factor.{FactorColumn, factor_of, factor_for, column_at, size_of}
use Rattle.symbolic.specs.NextRow.{column_entries}
use Rattle.symbolic.proofs.Patterns.{pattern-find}
use Rattle.pool.specs.Chains.{chain, Linked}
use Rattle.pool.proofs.Chains.{linked-in}
use Rattle.pool.proofs.Whole.{pool-linked}
use Rattle.tables.specs.Stored.{Stored, Sized, records_of}
use Rattle.tables.specs.Tables.{Tables, State, stored_in, register_of}
use Rattle.tables.proofs.Stored.{Holds, SoundFor, sound-facts, stored-column}
use Rattle.tables.proofs.Tables.{Long, long-facts, sound-stored, sound-factor, stored-rows}
use Rattle.reader.specs.Reading.{entry_at, readings, all_given, as_read, entries_in, end}
use Rattle.reader.specs.Statements.{ReadsColumn, ReadsTables, NoEntry, none, past-rows, past-counts, past_next, unused, ReadsEnd, ReadsTablesEnd}
use Rattle.reader.proofs.Reading.{InUse, entry-end, readings-end, readings-of}

-- ---- tables that begin with the stored ones

record Longer (old new : List ℕ) : Type 0 where
  pub long : length old ≤ length new
  pub same : (x : ℕ) → 1 ≤ x → x ≤ length old → at new x ≡ at old x

record Begin (s : Stored) (xs cs ns : List ℕ) : Type 0 where
  pub rows : Longer s.rows xs
  pub counts : Longer s.counts cs
  pub next : Longer s.next ns

longer-self : (xs : List ℕ) → Longer xs xs
longer-self xs = record { long = omega arith; same = λ x a b. refl }

longer-take : (n : ℕ) (xs : List ℕ) → n ≤ length xs → Longer (take n xs) xs
longer-take n xs h =
    let e : length (take n xs) ≡ n = length-take-le n xs h in
    record { long = omega arith; same = λ x a b. sym (get_or-take n xs (x - 1) 0 (omega arith)) }

begin-self : (s : Stored) → Begin s s.rows s.counts s.next
begin-self s = record { rows = longer-self s.rows; counts = longer-self s.counts; next = longer-self s.next }

module _ (s : State) (t : Tables) (l : Long s.sizes t) where
  begin-tables : Begin (stored_in s t) t.rows t.counts t.next
  begin-tables =
      record {
        rows = longer-take s.sizes.f t.rows l.rows;
        counts = longer-take s.sizes.f t.counts l.counts;
        next = longer-take s.sizes.f t.next l.next;
      }

  sized-tables : Sized (stored_in s t)
  sized-tables =
      let next : length (take s.sizes.f t.next) ≡ s.sizes.f = length-take-le s.sizes.f t.next l.next in
      record {
        parents-long = length-take-le s.sizes.m t.parents l.parents ∙ sym (length-take-le s.sizes.m t.heads l.heads);
        rows_long = length-take-le s.sizes.f t.rows l.rows ∙ sym next;
        counts-long = length-take-le s.sizes.f t.counts l.counts ∙ sym next;
      }

-- ---- what is read of them

given-end : (k : ℕ) → all_given (replicate k None) ≡ replicate k end
unfolding all_given
given-end zero = refl
given-end (suc k) = ap (λ es. end ∷ es) (given-end k)

module _ (s : Stored) (z : Sized s) (xs cs ns : List ℕ) (b : Begin s xs cs ns) where
  -- a chain whose records have rows
  chain-read : (h : ℕ) (rs : List ℕ) → Linked s.next h rs → ((x : ℕ) → Mem x rs → at s.rows x ≢ 0) → (k : ℕ) →
      all_given (readings (length rs + k) xs cs ns h) ≡ as_read (column_entries (values_at s.rows rs) (values_at s.counts rs)) ++ replicate k end
  unfolding Linked values_at column_entries as_read all_given
  chain-read h [] l some k =
      let e : entry_at xs cs ns h ≡ None = entry-end xs cs ns h (λ u. omega (arith, l, u.low)) in
      let q : 0 + k ≡ k = omega arith in
      rw (q, readings-end xs cs ns h e k) (given-end k)
  chain-read h (r ∷ rs) l some k =
      let ex : at xs r ≡ at s.rows r = b.rows.same r l.1 (omega (arith, l.2, z.rows_long)) in
      let ec : at cs r ≡ at s.counts r = b.counts.same r l.1 (omega (arith, l.2, z.counts-long)) in
      let en : at ns r ≡ at s.next r = b.next.same r l.1 l.2 in
      let u : InUse xs cs ns r =
      record {
        low = l.1;
        rows = omega (arith, l.2, z.rows_long, b.rows.long);
        counts = omega (arith, l.2, z.counts-long, b.counts.long);
        next = omega (arith, l.2, b.next.long);
        some = λ e. some r first (sym ex ∙ e);
      } in
      let q : suc (length rs) + k ≡ suc (length rs + k) = omega arith in
      rw (l.0, q, readings-of xs cs ns r (length rs + k) u, ex, ec, en, chain-read (at s.next r) rs l.3 (λ x m. some x (later m)) k) refl

  -- a column that the chain of head j holds
  column-read : (j : ℕ) (f : FactorColumn) → Linked s.next (at s.heads j) (records_of s j) → Holds s j f → (k : ℕ) →
      all_given (readings (size_of f + k) xs cs ns (at s.heads j)) ≡ entries_in f ++ replicate k end
  column-read j f l c k =
      let some : (x : ℕ) → Mem x (records_of s j) → at s.rows x ≢ 0 =
      λ x m e. let p = pattern-find {x = at s.rows x} 1 f.counts (rw c.rows at (values-mem s.rows m)) in omega arith in
      let n : size_of f ≡ length (records_of s j) = sym (ap length c.rows) ∙ values_length s.rows (records_of s j) in
      rw (n, chain-read (at s.heads j) (records_of s j) l some k, c.rows, c.counts) refl

  -- a record without an entry
  end_read : {ds : List Column} → SoundFor ds s → (r : ℕ) → NoEntry xs cs ns (chain s.next s.free) r → (k : ℕ) → readings k xs cs ns r ≡ replicate k None
  end_read t r w k =
      readings-end xs cs ns r (entry-end xs cs ns r (λ u. not-used w u)) k
    where
      not-used : NoEntry xs cs ns (chain s.next s.free) r → InUse xs cs ns r → ⊥
      not-used (none e) u = omega (arith, u.low)
      not-used (past-rows h) u = omega (arith, u.rows)
      not-used (past-counts h) u = omega (arith, u.counts)
      not-used (past_next h) u = omega (arith, u.next)
      not-used (unused m) u =
          let p : (1 ≤ r) × (r ≤ length s.next) = linked-in s.next s.free (chain s.next s.free) t.pool.unused r (mem-times m) in
          u.some (b.rows.same r p.0 (omega (arith, p.1, z.rows_long)) ∙ zero-at (values-mem s.rows m) t.zero-rows)

-- ---- the stored columns, and whole tables

pub reads-column : ReadsColumn
reads-column cs s z h j low high k =
    let t : SoundFor cs s = sound-facts cs s h in
    column-read s z s.rows s.counts s.next (begin-self s) j (column_at (factor_of (length s.heads) cs) j) (pool-linked t.pool j low high) (t.column j low high) k

pub reads_end : ReadsEnd
reads_end cs s z h = end_read s z s.rows s.counts s.next (begin-self s) (sound-facts cs s h)

pub reads-tables : ReadsTables
reads-tables s t z h j low high k =
    let l : Long s.sizes t = long-facts s.sizes t z in
    let p : SoundFor (live (register_of s t)) (stored_in s t) = sound-facts (live (register_of s t)) (stored_in s t) (sound-stored s t h) in
    let m : length (stored_in s t).heads ≡ s.sizes.m = stored-rows s t z in
    let e : at t.heads j ≡ at (stored_in s t).heads j = (longer-take s.sizes.m t.heads l.heads).same j low (omega arith) in
    rw e
    (column-read (stored_in s t) (sized-tables s t l) t.rows t.counts t.next (begin-tables s t l) j (column_at (factor_for (register_of s t)) j)
    (pool-linked p.pool j low (omega arith)) (stored-column s.sizes.m (live (register_of s t)) (stored_in s t) (sound-factor s t z h) j low high) k)

pub reads-tables-end : ReadsTablesEnd
reads-tables-end s t z h =
    let l : Long s.sizes t = long-facts s.sizes t z in
    end_read (stored_in s t) (sized-tables s t l) t.rows t.counts t.next (begin-tables s t l) (sound-facts (live (register_of s t)) (stored_in s t) (sound-stored s t h))
