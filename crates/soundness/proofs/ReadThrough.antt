-- The end of the pass. After the last column every chain ends and every column holds, so rows are from 1 on in their records (rowed), and the tables are sound
-- exactly if the pool is closed and free records have multiplicity 0 (sound-closed, closed-sound). Then the answers (last-shared, last-answer), with what of
-- the work table stays. Assumes nothing.
use mathlib.Core.Path.{◌≡◌, sym, ap, subst, ◌∙◌}
use mathlib.Core.Bool.{Bool, true, false, false≢true}
use mathlib.Core.List.{List}
use Prim.Native.Nat.{ℕ, suc, ◌+◌, ◌*◌, ◌-◌, ◌≤◌, ◌<◌}
use native.Mathlib.Omega.{arith}
use Rattle.std.specs.Prelude.{Option, Some}
use lib.ListN.{length, get_or, take}
use lib.Seq.{take_all}
use Rattle.lists.specs.Lists.{Mem, at, times, values_at, all_zero, Decides}
use Rattle.lists.proofs.Tests.{and_both, both-and, both_ways, refute}
use Rattle.lists.proofs.Times.{times-mem}
use Rattle.lists.proofs.Place.{values-mem}
use Rattle.lists.proofs.Rising.{rises-in}
use Rattle.workspace.specs.Layout.{lasts_at, names_at, pieces_at}
use Rattle.workspace.specs.Regions.{region, OnlyIn}
use Rattle.workspace.proofs.Regions.{only_wider, only-trans}
use Rattle.symbolic.specs.Factor.{FactorColumn, factor_of, column_at}
use Rattle.symbolic.proofs.Patterns.{pattern-within-rows}
use Rattle.pool.specs.Chains.{chain}
use Rattle.pool.specs.Whole.{chains, is_whole, AllLinked, Pool}
use Rattle.pool.specs.Ends.{lasts, NoneTwice}
use Rattle.pool.specs.Free.{FreeHas, Closed, zero_pairs}
use Rattle.pool.proofs.Whole.{whole-pool}
use Rattle.pool.proofs.Apart.{chains-find}
use Rattle.pool.proofs.Closed.{Rowed, closed-whole, whole-closed, zero-pairs, zero-pairs-back}
use Rattle.ends.specs.Naming.{Named, CanCompare}
use Rattle.book.specs.Book as book
use Rattle.tables.specs.Stored.{Stored, records_of, holds_from, is_sound_for}
use Rattle.soundness.specs.Checking.{CanReadFree, FreeRead}
use Rattle.soundness.specs.State.{live_in, walked, State, SomeState, ColumnsRead, Prepared, SomePrepared, FactorRead}
use Rattle.soundness.proofs.Ready.{HeldColumn, held}
use Rattle.soundness.proofs.Columns.{first-state}
use Rattle.soundness.proofs.Column.{holds-make, SoundParts, sound-parts}

-- ---- after the last column

module _ {s : Stored} {b : book.Book} {windows : List ℕ} {clock : ℕ} {w : List ℕ} {n : ℕ} (st : State s b windows clock w (length s.heads + 1) n) where
  abbrev m : ℕ
  m = length s.heads

  abbrev f : ℕ
  f = length s.next

  abbrev L : List FactorColumn
  L = factor_of (length s.heads) (live_in s b windows clock)

  last-number : length s.heads + 1 - 1 ≡ length s.heads
  last-number = omega arith

  heads-are : walked s (length s.heads + 1) ≡ s.heads
  heads-are = ap (λ (i : ℕ). take i s.heads) last-number ∙ take_all (length s.heads) s.heads (omega arith)

  all-linked : AllLinked s.next s.heads
  all-linked = subst (AllLinked s.next) heads-are st.chains-walked.linked

  counted : n ≡ length (chains s.next s.heads)
  counted = st.chains-walked.counted ∙ ap (λ (l : List ℕ). length (chains s.next l)) heads-are

  lasts_are : region w (lasts_at m) m ≡ lasts s.next s.heads
  lasts_are = sym (ap (region w (lasts_at m)) last-number) ∙ st.chains-walked.lasts_are ∙ ap (lasts s.next) heads-are

  holds-all : holds_from s L 1 m ≡ true
  holds-all = holds-make s L 1 m (λ j p h. st.holds j p (omega arith))

  -- a record of a column has one of the definition's rows
  rowed : Rowed s.rows s.next s.heads
  rowed x p =
      let t : (i : ℕ) × (i < m) × (1 ≤ times x (chain s.next (get_or s.heads i 0))) = chains-find s.next s.heads x p in
      let c : ℕ = suc t.0 in
      let e : c - 1 ≡ t.0 = omega arith in
      let h : HeldColumn s (column_at L c) c = held s (column_at L c) c (st.holds c (omega arith) (omega (arith, t.1))) in
      let here : Mem x (records_of s c) =
      times-mem x (records_of s c) (subst (λ (i : ℕ). 1 ≤ times x (chain s.next (get_or s.heads i 0))) (sym e) t.2) in
      (rises-in 1 m (subst (λ (l : List ℕ). Mem (at s.rows x) l) h.rows_are (values-mem s.rows here)) (pattern-within-rows m (live_in s b windows clock) c (omega arith) (omega (arith, t.1)))).0

  -- ---- sound, and closed with zero multiplicities

  sound-closed : is_sound_for (live_in s b windows clock) s ≡ true → Closed s.rows s.next s.heads s.free × (zero_pairs s.rows s.counts ≡ times 0 s.rows)
  sound-closed e =
      let p : SoundParts (live_in s b windows clock) s = sound-parts (live_in s b windows clock) s e in
      let x : Bool = all_zero (values_at s.rows (chain s.next s.free)) in
      let y : Bool = all_zero (values_at s.counts (chain s.next s.free)) in
      let z : (x ≡ true) × (y ≡ true) = and_both x y p.free-zero in
      let pool : Pool s.next s.heads s.free = whole-pool s.next s.heads s.free p.whole in
      (whole-closed st.sizes.stored.rows_long all-linked rowed p.whole z.0, zero-pairs-back s.rows s.counts st.sizes.stored.rows_long st.sizes.stored.counts-long pool rowed z.0 z.1)

  closed-sound : Closed s.rows s.next s.heads s.free → zero_pairs s.rows s.counts ≡ times 0 s.rows → is_sound_for (live_in s b windows clock) s ≡ true
  closed-sound c e =
      let t : (is_whole s.next s.heads s.free ≡ true) × (all_zero (values_at s.rows (chain s.next s.free)) ≡ true) = closed-whole st.sizes.stored.rows_long all-linked rowed c in
      let pool : Pool s.next s.heads s.free = whole-pool s.next s.heads s.free t.0 in
      let z : all_zero (values_at s.counts (chain s.next s.free)) ≡ true =
      zero-pairs s.rows s.counts st.sizes.stored.rows_long st.sizes.stored.counts-long pool rowed t.1 e in
      both-and (both-and t.0 (both-and t.1 z)) holds-all

  -- ---- the answers

  pub last-compare : CanCompare w (6 * m) (8 * m) m
  last-compare =
      record {
        f = f;
        named = subst (λ (k : ℕ). Named w (lasts_at m) k (names_at m) f) last-number st.chains-walked.named;
        lasts-in = omega (arith, st.sizes.long);
        names_in = omega (arith, st.sizes.long);
        few = omega (arith, st.sizes.m-bound);
      }

  pub last_within : n ≤ length s.next
  last_within = st.chains-walked.within

  pub last-can : CanReadFree s.rows s.counts s.next w (length s.heads)
  last-can =
      record {
        rows_long = st.sizes.stored.rows_long;
        counts-long = st.sizes.stored.counts-long;
        m-bound = st.sizes.m-bound;
        f-bound = st.sizes.f-bound;
        long = omega (arith, st.sizes.long);
      }

  module _ {a : Bool} (apart : Decides (NoneTwice (region w (6 * length s.heads) (length s.heads))) a) where
    -- two columns share a record
    unsound-shared : a ≡ false → false ≡ is_sound_for (live_in s b windows clock) s
    unsound-shared e =
        sym (refute (is_sound_for (live_in s b windows clock) s) (λ t.
        false≢true (sym e ∙ apart.no (subst NoneTwice (sym lasts_are) (sound-closed t).0.apart))))

    sound-free : {c : Bool} → a ≡ true → Decides (FreeRead s.rows s.counts s.next s.free (length s.next - n)) c → c ≡ is_sound_for (live_in s b windows clock) s
    sound-free {c} e d = both_ways c (is_sound_for (live_in s b windows clock) s) sound found
      where
        sound : c ≡ true → is_sound_for (live_in s b windows clock) s ≡ true
        sound t =
            let r : FreeRead s.rows s.counts s.next s.free (length s.next - n) = d.yes t in
            closed-sound
            (record {
              apart = subst NoneTwice lasts_are (apart.yes e);
              size = omega (arith, r.rows-zero, counted, last_within);
              free-has = subst (FreeHas s.rows s.next s.free) (sym r.rows-zero) r.has;
            })
            (r.both_zero ∙ sym r.rows-zero)

        found : is_sound_for (live_in s b windows clock) s ≡ true → c ≡ true
        found t =
            let p : Closed s.rows s.next s.heads s.free × (zero_pairs s.rows s.counts ≡ times 0 s.rows) = sound-closed t in
            let q : times 0 s.rows ≡ length s.next - n = omega (arith, p.0.size, counted) in
            d.no (record { rows-zero = q; both_zero = p.1 ∙ q; has = subst (FreeHas s.rows s.next s.free) q p.0.free-has })

-- ---- by all windows and clocks that were prepared for

module _ {s : Stored} {b : book.Book} {w₀ w : List ℕ} {n : ℕ} {z : Option ℕ} (r : ColumnsRead s b w₀ 1 0 w (length s.heads + 1) z) (ended : z ≡ Some n) where
  after : (windows : List ℕ) (clock : ℕ) → Prepared s b windows clock w₀ → State s b windows clock w (length s.heads + 1) n
  after windows clock p = r.next n ended windows clock (first-state p)

  pub some_after : SomePrepared s b w₀ → SomeState s b w (length s.heads + 1) n
  some_after p = record { windows = p.windows; clock = p.clock; state = after p.windows p.clock p.prepared }

  module _ {a : Bool} (apart : Decides (NoneTwice (region w (6 * length s.heads) (length s.heads))) a) where
    pub last-shared : a ≡ false → FactorRead s b w₀ w false
    last-shared e = record { only = r.only; answer = λ windows clock p. unsound-shared (after windows clock p) apart e }

    pub last-answer : {y : List ℕ} {c : Bool} → a ≡ true → Decides (FreeRead s.rows s.counts s.next s.free (length s.next - n)) c →
        OnlyIn (pieces_at (length s.heads) (length s.next)) (2 * length s.next) w y → FactorRead s b w₀ y c
    last-answer e d o =
        record {
          only = only-trans r.only (only_wider 0 _ (omega arith) (omega arith) o);
          answer = λ windows clock p. sound-free (after windows clock p) apart e d;
        }
