-- Stored columns that hold the register's: what may be read of column j, and what is read: a multiplicity, a size, the entries as pairs.
-- Then the premises of questions from sound tables (`stored-columns`, `stored-parents`). Assumes nothing.
use mathlib.Core.Path.{◌≡◌, sym, ap, ◌∙◌, subst}
use mathlib.Core.Bool.{true}
use mathlib.Core.List.{List}
use Prim.Native.Nat.{ℕ, ◌+◌, ◌*◌, ◌-◌, ◌≤◌}
use native.Mathlib.Omega.{arith}
use lib.ListN.{length}
use Rattle.lists.specs.Lists.{at}
use Rattle.lists.proofs.Place.{values_length}
use Rattle.symbolic.specs.Columns.{Register, live}
use Rattle.symbolic.specs.Factor.{factor_of, factor_for, column_at, multiplicity, size_of}
use Rattle.symbolic.proofs.Build.{counts-length}
use Rattle.symbolic.proofs.Patterns.{pattern-short}
use Rattle.pool.specs.Chains.{chain}
use Rattle.pool.proofs.Whole.{pool-linked}
use Rattle.tables.specs.Stored.{Stored, Sized, is_sound_for}
use Rattle.tables.proofs.Stored.{SoundFor, Holds, sound-facts}
use Rattle.columns.specs.Search.{count_of, entries_at, CanRead, CanCount, CanCopy}
use Rattle.columns.proofs.Holding.{holds-rises, holds-count, holds-pairs}
use Rattle.columns.proofs.Copying.{entries-length}
use Rattle.calls.specs.Questions.{column_list}
use Rattle.questions.specs.Asked.{ColumnsFor, ParentsFor, CanAsk, CanFollow}
use Rattle.questions.specs.Meeting.{CanClimb}

-- ---- what is read of column j

module _ {hs rs cs ns : List ℕ} {r : Register} (f : ColumnsFor hs rs cs ns r) (j : ℕ) (a : 1 ≤ j) (b : j ≤ length hs) where
  abbrev counts : List ℕ
  counts = (column_at (factor_for r) j).counts

  pub counts-long : length (column_at (factor_for r) j).counts ≡ length hs
  counts-long = counts-length r.m (live r) j a (omega (arith, f.size)) ∙ f.size

  pub read-multiplicity : (i : ℕ) → 1 ≤ i → count_of rs cs (chain ns (at hs j)) i ≡ multiplicity (factor_for r) i j
  read-multiplicity i p =
      let q : 1 + (i - 1) ≡ i = omega arith in
      rw q at (holds-count 1 counts (chain ns (at hs j)) (i - 1) (f.column j a b))

  pub read-size : length (chain ns (at hs j)) ≡ size_of (column_at (factor_for r) j)
  read-size = sym (values_length rs (chain ns (at hs j))) ∙ ap length (f.column j a b).rows

  pub read-entries : entries_at rs cs (chain ns (at hs j)) ≡ column_list r j
  read-entries = holds-pairs (f.column j a b)

  pub read-places : 2 * length (chain ns (at hs j)) ≡ length (column_list r j)
  read-places = sym (entries-length rs cs (chain ns (at hs j))) ∙ ap length read-entries

-- ---- what may be read of it

module _ {hs rs cs ns : List ℕ} (c : CanAsk hs rs cs ns) (j : ℕ) (a : 1 ≤ j) (b : j ≤ length hs) where
  pub chain-short : length (chain ns (at hs j)) ≤ length hs
  chain-short = omega (arith, read-size c.held j a b, pattern-short 1 (column_at (factor_for c.register) j).counts, counts-long c.held j a b)

  pub can-read : CanRead rs cs ns (at hs j)
  can-read = record { linked = c.linked j a b; rows_long = c.rows_long; counts-long = c.counts-long }

  pub can-count : CanCount rs cs ns (at hs j)
  can-count = record { read = can-read; rising = holds-rises 65535 (omega (arith, counts-long c.held j a b, c.narrow)) (c.held.column j a b) }

  pub can-copy : (list : List ℕ) → 2 * length (chain ns (at hs j)) ≤ length list → CanCopy rs cs ns list (at hs j)
  can-copy list fits = record { read = can-read; fits = fits; narrow = omega (arith, chain-short, c.narrow) }

-- ---- from sound tables

module _ (s : Stored) (r : Register) (e : r.m ≡ length s.heads) (z : is_sound_for (live r) s ≡ true) where
  facts : SoundFor (live r) s
  facts = sound-facts (live r) s z

  column : (j : ℕ) → 1 ≤ j → j ≤ length s.heads → Holds s j (column_at (factor_for r) j)
  column j a b = subst (λ (n : ℕ). Holds s j (column_at (factor_of n (live r)) j)) (sym e) (facts.column j a b)

  pub stored-columns : ColumnsFor s.heads s.rows s.counts s.next r
  stored-columns = record { size = e; column = λ j a b. record { rows = (column j a b).rows; counts = (column j a b).counts } }

  pub stored-parents : length s.parents ≡ length s.heads → ParentsFor s.parents r
  stored-parents l = record { size = e ∙ sym l; parent = λ j a b. (column j a (omega arith)).parent }

  module _ (d : Sized s) (narrow : length s.heads ≤ 4096) where
    pub can-ask : CanAsk s.heads s.rows s.counts s.next
    can-ask =
        record {
          register = r;
          held = stored-columns;
          linked = λ j a b. pool-linked facts.pool j a b;
          rows_long = d.rows_long;
          counts-long = d.counts-long;
          narrow = narrow;
        }

    pub can-follow : CanFollow s.parents
    can-follow = record { register = r; followed = stored-parents d.parents-long; narrow = omega (arith, d.parents-long) }

    -- columns and parents together
    pub can-climb : CanClimb s.heads s.parents s.rows s.counts s.next
    unfolding can-ask
    can-climb = record { ask = can-ask; parents-are = stored-parents d.parents-long }
