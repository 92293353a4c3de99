-- A group that leaves or enters, from what planning, gathering and writing promise: what each of them asks, and that the group has left (`group-left`) or entered
-- (`group-entered`). Assumes nothing.
use mathlib.Core.Path.{◌≡◌, refl, sym, ◌∙◌, subst}
use mathlib.Core.Bool.{Bool, true, false, true≢false}
use mathlib.Core.List.{List, ◌++◌}
use Prim.Native.Nat.{ℕ, ◌≤◌, ◌<◌}
use native.Mathlib.Omega.{arith}
use lib.ListN.{length, get_or}
use Rattle.lists.specs.Lists.{among}
use Rattle.lists.proofs.Tests.{both_ways}
use Rattle.symbolic.specs.Columns.{Column}
use Rattle.symbolic.specs.Factor.{FactorColumn, factor_of}
use Rattle.workspace.specs.Layout.{gather_at}
use Rattle.symbolic.specs.Batch.{is_touched, touched, label_of}
use Rattle.symbolic.proofs.Theorems.{touched-is, touched-rises, locality}
use Rattle.pool.specs.Chains.{chain}
use Rattle.book.specs.Book as book
use Rattle.book.specs.Entries.{HasHead}
use Rattle.tables.specs.Stored.{Stored, stored_of}
use Rattle.tables.proofs.Stored.{sound-bag}
use Rattle.updown.specs.Entries.{Booked, BookedFrom, booked_starts, CanPlan, CanAddBooked, CanEnter, SomeEnter, AddPlanned, CanRemove, SomeRemove, RemovePlanned}
use Rattle.updown.proofs.Filled.{whole-booked, whole-heads, whole-enter}
use Rattle.commit.specs.Gather as commit
use Rattle.commit.specs.Writes.{SomeWrite, WrittenAll}
use Rattle.exchange.specs.Stages.{group_touches, CanLeave, GroupDone, GroupEntered}
use Rattle.updown.proofs.Booking.{booked-length}
use Rattle.exchange.proofs.Grouping.{Planned, can-gather, some-gather, some-write, group-done}

-- the columns that a group touches are those of the list
among-touched : (m : ℕ) (cs W : List Column) (j : ℕ) → 1 ≤ j → j ≤ m → among j (touched (factor_of m cs) W) ≡ is_touched (factor_of m cs) W j
among-touched m cs W j a b =
    both_ways (among j (touched (factor_of m cs) W)) (is_touched (factor_of m cs) W j) (λ h. ((touched-is m cs W j).0 h).2) (λ h. (touched-is m cs W j).1 (a, b, h))

-- what gathering promises, for all plans
abbrev pub GatheredAll : (heads next planned : List ℕ) (start first : ℕ) (gathered : List ℕ) → Type 0
GatheredAll hs ns w start first w' =
    (L L' : List FactorColumn) (label : ℕ → ℕ) (columns : List ℕ) (used : ℕ) → commit.CanGatherColumns hs ns L L' label columns w start first used →
    commit.ColumnsGathered hs ns columns start w w'

-- what planning promises of stored columns that are the same
pub removed-same : {v s : Stored} {b : book.Book} {starts ids work planned : List ℕ} {fits : Bool} {first count entries used : ℕ} → v ≡ s →
    ((R W : List Column) → CanRemove v b starts ids work R W → RemovePlanned v R W work planned fits first count entries used) →
    (R W : List Column) → CanRemove s b starts ids work R W → RemovePlanned s R W work planned fits first count entries used
removed-same {b = b} {starts} {ids} {work} {planned} {fits} {first} {count} {entries} {used} e d =
    subst (λ (v : Stored). (R W : List Column) → CanRemove v b starts ids work R W → RemovePlanned v R W work planned fits first count entries used) e d

pub entered-same : {v s : Stored} {b : book.Book} {starts ids work planned : List ℕ} {fits : Bool} {first count entries used : ℕ} → v ≡ s →
    ((R W : List Column) → CanEnter v b starts ids work R W → AddPlanned v R W work planned fits first count entries used) →
    (R W : List Column) → CanEnter s b starts ids work R W → AddPlanned s R W work planned fits first count entries used
entered-same {b = b} {starts} {ids} {work} {planned} {fits} {first} {count} {entries} {used} e d =
    subst (λ (v : Stored). (R W : List Column) → CanEnter v b starts ids work R W → AddPlanned v R W work planned fits first count entries used) e d

pub remove-same : {v s : Stored} {b : book.Book} {starts ids work : List ℕ} → v ≡ s → SomeRemove s b starts ids work → SomeRemove v b starts ids work
remove-same {b = b} {starts} {ids} {work} e = subst (λ (v : Stored). SomeRemove v b starts ids work) (sym e)

pub enter-same : {v s : Stored} {b : book.Book} {starts ids work : List ℕ} → v ≡ s → SomeEnter s b starts ids work → SomeEnter v b starts ids work
enter-same {b = b} {starts} {ids} {work} e = subst (λ (v : Stored). SomeEnter v b starts ids work) (sym e)

-- and gathering
pub gather-same : {v s : Stored} {planned : List ℕ} {start first : ℕ} → v ≡ s → commit.SomeGatherColumns s.heads s.next planned start first →
    commit.SomeGatherColumns v.heads v.next planned start first
gather-same {planned = planned} {start = start} {first = first} e = subst (λ (v : Stored). commit.SomeGatherColumns v.heads v.next planned start first) (sym e)

pub gathered-same : {v s : Stored} {planned gathered : List ℕ} {start first : ℕ} → v ≡ s → GatheredAll v.heads v.next planned start first gathered →
    GatheredAll s.heads s.next planned start first gathered
gathered-same {planned = planned} {gathered = gathered} {start = start} {first = first} e =
    subst (λ (v : Stored). GatheredAll v.heads v.next planned start first gathered) e

-- a group that left or entered as many columns
pub left-heads : {n m f : ℕ} {s after : Stored} {b : book.Book} {ids work work' : List ℕ} → n ≡ m →
    ((N W : List Column) → CanLeave s b ids work N W → GroupDone n f s (group_touches n N W) N after work work') →
    (N W : List Column) → CanLeave s b ids work N W → GroupDone m f s (group_touches m N W) N after work work'
left-heads {f = f} {s} {after} {work = work} {work' = work'} e d N W can = subst (λ (n : ℕ). GroupDone n f s (group_touches n N W) N after work work') e (d N W can)

pub entered-heads : {n m f : ℕ} {s after : Stored} {b : book.Book} {ids work work' : List ℕ} {fits : Bool} → n ≡ m →
    ((N W : List Column) → CanAddBooked s b ids work N W → GroupEntered n f s N W after work work' fits) →
    (N W : List Column) → CanAddBooked s b ids work N W → GroupEntered m f s N W after work work' fits
entered-heads {f = f} {s} {after} {work = work} {work' = work'} {fits = fits} e d N W can = subst (λ (n : ℕ). GroupEntered n f s N W after work work' fits) e (d N W can)

-- what filling in the starts asks: its positions are few, and their columns stand in the book
group-few : {s : Stored} {work : List ℕ} {cs W : List Column} (b : book.Book) (ids : List ℕ) → CanPlan s cs W work → Booked b ids W → book.Sized b → (free : ℕ) →
    book.is_sound (length s.heads) (book.book_of b.heads b.rows b.next free) ≡ true →
    (length ids ≤ 64) × ((k : ℕ) → k < length ids → HasHead b.heads b.rows (get_or ids k 0))
group-few {s} {W = W} b ids p h z free sound = (omega (arith, booked-length b ids W h, p.positions.1), whole-heads (length s.heads) b free ids W h z sound)

-- ---- a group that leaves

module _ {s : Stored} {b : book.Book} {ids work : List ℕ} {N W : List Column} (c : CanLeave s b ids work N W) where
  pub leave-few : (length ids ≤ 64) × ((k : ℕ) → k < length ids → HasHead b.heads b.rows (get_or ids k 0))
  leave-few = group-few b ids c.can c.booked c.book-sized c.book-free c.book-sound

  can-remove : {starts : List ℕ} → starts ≡ booked_starts b ids → CanRemove (stored_of s.heads s.parents s.rows s.counts s.next 0) b starts ids work N W
  can-remove e =
      record {
        columns = c.columns;
        free = s.free;
        book-free = c.book-free;
        can = c.can;
        same = c.same;
        booked = subst (λ (xs : List ℕ). BookedFrom b xs ids W) (sym e) (whole-booked (length s.heads) b ids W c.can.batch-fits c.booked);
        book-sized = c.book-sized;
        book-sound = c.book-sound;
      }

  pub some-remove : {starts : List ℕ} → starts ≡ booked_starts b ids → SomeRemove (stored_of s.heads s.parents s.rows s.counts s.next 0) b starts ids work
  some-remove e = record { R = N; W = W; can = can-remove e }

  module _ {starts : List ℕ} (q : starts ≡ booked_starts b ids) {planned : List ℕ} {fits : Bool} {first count entries used : ℕ}
      (d : (R W : List Column) → CanRemove (stored_of s.heads s.parents s.rows s.counts s.next 0) b starts ids work R W →
      RemovePlanned (stored_of s.heads s.parents s.rows s.counts s.next 0) R W work planned fits first count entries used) where
    abbrev m : ℕ
    m = length s.heads

    leave-planned : Planned s (N ++ W) N (label_of (factor_of m (N ++ W)) W) (group_touches m N W) (touched (factor_of m (N ++ W)) W) work planned first count entries used
    leave-planned =
        let k = c.can in
        record {
          sized = k.sized;
          sound = sym (sound-bag c.columns (N ++ W) s c.same) ∙ k.sound;
          m-bound = k.m-bound;
          long = k.long;
          zero = k.zero;
          free = 0;
          free-enough = omega arith;
          plan = (d N W (can-remove q)).plan;
          rising = touched-rises m (N ++ W) W;
          touched-is = among-touched m (N ++ W) W;
          off = λ j p q h. sym (locality m N W j p q h);
        }

    pub leave-gather : commit.SomeGatherColumns s.heads s.next planned (gather_at (length s.heads) (length s.next)) first
    leave-gather = some-gather leave-planned

    module _ {gathered : List ℕ} (e : GatheredAll s.heads s.next planned (gather_at (length s.heads) (length s.next)) first gathered) where
      gathered-is : commit.ColumnsGathered s.heads s.next (touched (factor_of m (N ++ W)) W) (gather_at (length s.heads) (length s.next)) planned gathered
      gathered-is = e (factor_of m (N ++ W)) (factor_of m N) (label_of (factor_of m (N ++ W)) W) (touched (factor_of m (N ++ W)) W) used (can-gather leave-planned)

      pub leave-write : SomeWrite s gathered first used
      leave-write = some-write leave-planned gathered-is

      pub group-left : {after : Stored} {work' : List ℕ} → WrittenAll s gathered first used after work' → length after.next ≡ length s.next →
          GroupDone (length s.heads) (length s.next) s (group_touches (length s.heads) N W) N after work work'
      group-left y l = group-done leave-planned gathered-is y l

-- ---- a group that enters

pub enter-few : {s : Stored} {b : book.Book} {ids work : List ℕ} {N W : List Column} → CanAddBooked s b ids work N W →
    (length ids ≤ 64) × ((k : ℕ) → k < length ids → HasHead b.heads b.rows (get_or ids k 0))
enter-few {b = b} {ids = ids} c = group-few b ids c.can c.booked c.book-sized c.book-free c.book-sound

module _ {s : Stored} {b : book.Book} {ids work : List ℕ} {N W : List Column} (c : CanAddBooked s b ids work N W) {starts : List ℕ} (q : starts ≡ booked_starts b ids)
    {planned : List ℕ} {fits : Bool} {first count entries used : ℕ}
    (d : (R W : List Column) → CanEnter s b starts ids work R W → AddPlanned s R W work planned fits first count entries used) where
  -- where it does not fit
  pub group-halted : fits ≡ false → GroupEntered (length s.heads) (length s.next) s N W s work planned false
  group-halted h =
      record {
        fits-is = sym h ∙ (d N W (whole-enter q c)).fits-is;
        done = λ k. absurd (true≢false (sym k));
        undone = λ k. refl;
        unchanged = λ k. (d N W (whole-enter q c)).unchanged h;
      }

  module _ (h : fits ≡ true) where
    enter-planned : Planned s N (N ++ W) (label_of (factor_of (length s.heads) (N ++ W)) W) (group_touches (length s.heads) N W)
        (touched (factor_of (length s.heads) (N ++ W)) W) work planned first count entries used
    enter-planned =
        let k = c.can in
        record {
          sized = k.sized;
          sound = k.sound;
          m-bound = k.m-bound;
          long = k.long;
          zero = k.zero;
          free = length (chain s.next s.free);
          free-enough = omega arith;
          plan = (d N W (whole-enter q c)).plan h;
          rising = touched-rises (length s.heads) (N ++ W) W;
          touched-is = among-touched (length s.heads) (N ++ W) W;
          off = λ j p q o. locality (length s.heads) N W j p q o;
        }

    pub enter-gather : commit.SomeGatherColumns s.heads s.next planned (gather_at (length s.heads) (length s.next)) first
    enter-gather = some-gather enter-planned

    module _ {gathered : List ℕ} (e : GatheredAll s.heads s.next planned (gather_at (length s.heads) (length s.next)) first gathered) where
      entered-is : commit.ColumnsGathered s.heads s.next (touched (factor_of (length s.heads) (N ++ W)) W) (gather_at (length s.heads) (length s.next)) planned gathered
      entered-is =
          e (factor_of (length s.heads) N) (factor_of (length s.heads) (N ++ W)) (label_of (factor_of (length s.heads) (N ++ W)) W)
          (touched (factor_of (length s.heads) (N ++ W)) W) used (can-gather enter-planned)

      pub enter-write : SomeWrite s gathered first used
      enter-write = some-write enter-planned entered-is

      pub group-entered : {after : Stored} {work' : List ℕ} → WrittenAll s gathered first used after work' → length after.next ≡ length s.next →
          GroupEntered (length s.heads) (length s.next) s N W after work work' true
      group-entered y l =
          record {
            fits-is = sym h ∙ (d N W (whole-enter q c)).fits-is;
            done = λ k. group-done enter-planned entered-is y l;
            undone = λ k. absurd (true≢false k);
            unchanged = λ k. absurd (true≢false k);
          }
