-- What planning asks, as the walk needs it: the setting of sound tables (`setting-of`), the work table, a book that has the batch (`book-holds`);
-- and that a walk leaves room to end it (`walk_end`). Assumes nothing.
use mathlib.Core.Path.{◌≡◌, ap, ◌∙◌, subst}
use mathlib.Core.Logic.{inl, inr}
use mathlib.Core.Bool.{Bool, true}
use mathlib.Core.List.{List, [], ◌∷◌}
use Prim.Native.Nat.{ℕ, suc, ◌+◌, ◌-◌, ◌*◌, ◌≤◌, ◌<◌}
use native.Mathlib.Omega.{arith}
use lib.ListN.{length, get_or}
use Rattle.lists.specs.Lists.{all}
use Rattle.lists.proofs.Tests.{cases}
use Rattle.symbolic.specs.Columns.{Column, smallest, fits_rows}
use Rattle.symbolic.specs.Factor.{FactorColumn, factor_of, column_at, parent_of, multiplicities_of}
use Rattle.symbolic.specs.Batch.{size_sum_of}
use Rattle.workspace.specs.Regions.{IsZero}
use Rattle.workspace.proofs.Regions.{zero-at}
use Rattle.pool.specs.Chains.{chain}
use Rattle.book.specs.Book as book
use Rattle.tables.specs.Stored.{Stored, Sized, is_sound_for}
use Rattle.updown.specs.Entries.{BookedFrom, CanPlan}
use Rattle.updown.specs.Walks.{ChainOf}
use Rattle.updown.specs.Marks.{Room}
use Rattle.updown.specs.Turns.{before, done}
use Rattle.updown.specs.States.{start_of, Setting}
use Rattle.updown.specs.Starts.{BookHolds, CanMark, CanWalk, Walked, CanEnd}
use Rattle.updown.proofs.Listing.{none, fits-at, can-mark}
use Rattle.updown.proofs.Sound.{sound-column, sound-chain, sound-size, sizes-within}

-- ---- the setting: tables that hold the factor before the batch

module _ (s : Stored) (cs R W : List Column) (adding : Bool) (z : Sized s) (sound : is_sound_for cs s ≡ true) (e : factor_of (length s.heads) cs ≡ before adding (length s.heads) R W)
    (narrow : length s.heads ≤ 4096) (records : length s.next ≤ 1048576) (few : length R + length W ≤ 60000) (positions : length W ≤ 64)
    (fits : all (fits_rows (length s.heads)) W ≡ true) (free : ℕ) (free-small : free ≤ length (chain s.next s.free)) where
  abbrev m : ℕ
  m = length s.heads

  starts-within : (k : ℕ) → 1 ≤ k → k ≤ length W → start_of W k ≤ m
  starts-within k a b = (fits-at m W fits (k - 1) (omega arith)).high

  pub setting-of : Setting s.heads s.parents s.rows s.counts s.next m (8 * m + 4 * length s.next) R W adding free
  setting-of =
      record {
        columns = record {
          narrow = narrow;
          few = few;
          chains = λ c a b. subst (λ (fs : List FactorColumn). ChainOf s.heads s.rows s.next m c (column_at fs c).counts) e (sound-chain s cs z sound c a b);
        };
        parents-hold = record { long = z.parents-long; are = λ c a b. (sound-column s cs z sound c a b).2 ∙ ap (λ (fs : List FactorColumn). parent_of fs c) e };
        multiplicities = record { long = z.counts-long; are = λ c a b. (sound-column s cs z sound c a b).1 ∙ ap (λ (fs : List FactorColumn). multiplicities_of (column_at fs c)) e };
        fitting = λ j a b. subst (λ (fs : List FactorColumn). size_sum_of fs (done m R W j) + free ≤ length s.next) e
            (omega (arith, sizes-within m cs R W j a b, sound-size s cs z sound));
        fit = omega arith;
        records = records;
        positions = positions;
        starts = starts-within;
      }

-- ---- the work table

module _ {s : Stored} {cs W : List Column} {work : List ℕ} (p : CanPlan s cs W work) where
  abbrev flags : ℕ
  flags = 8 * length s.heads + 4 * length s.next

  pub room_of : Room (length s.heads) flags work
  room_of = record { m-bound = p.m-bound; low = omega arith; long = omega (arith, p.long) }

  pub zero_of : IsZero work 0 (8 * length s.heads)
  zero_of k h = p.zero k (omega arith)

  -- what marking asks, from the batch's starts
  pub mark_of : {starts : List ℕ} → (length W ≡ length starts) × ((k : ℕ) → k < length W → get_or starts k 0 ≡ smallest (get_or W k none)) →
      CanMark starts (length s.heads) (8 * length s.heads + 4 * length s.next) work W
  mark_of e =
      can-mark e p.batch-fits p.positions.1 room_of
      (λ i h. zero-at work 0 (8 * length s.heads) (3 * length s.heads + i) zero_of (omega arith) (omega arith))

-- ---- the book

-- the book's columns do not depend on its free head
booked-tables : (b : book.Book) (starts ids : List ℕ) (W : List Column) → BookedFrom b starts ids W → BookedFrom (book.tables_of b.heads b.rows b.next) starts ids W
unfolding BookedFrom
booked-tables b [] [] [] h = h
booked-tables b [] [] (w ∷ ws) h = h
booked-tables b [] (i ∷ is) ws h = h
booked-tables b (r ∷ rs) [] ws h = h
booked-tables b (r ∷ rs) (i ∷ is) [] h = h
booked-tables b (r ∷ rs) (i ∷ is) (w ∷ ws) h = (h.0, h.1, h.2, h.3, booked-tables b rs is ws h.4)

module _ {s : Stored} {cs W : List Column} {work : List ℕ} (p : CanPlan s cs W work) (b : book.Book) {starts ids : List ℕ} (booked : BookedFrom b starts ids W) (sized : book.Sized b) (free : ℕ)
    (sound : book.is_sound (length s.heads) (book.book_of b.heads b.rows b.next free) ≡ true) where
  pub book-holds : BookHolds b.heads b.rows b.next starts ids (length s.heads) W
  book-holds = record { booked = booked-tables b starts ids W booked; sized = sized; free = free; sound = sound; fits = p.batch-fits }

-- ---- the walk's end

pub walk_end : {heads parents rows counts next work₀ start w : List ℕ} {m flags free : ℕ} {R W : List Column} {adding fits : Bool} {f l n k used avail : ℕ} →
    CanWalk heads parents rows counts next work₀ start m flags free R W adding →
    Walked next work₀ w m flags (length (chain next free)) R W adding fits f l n k used avail → CanEnd m flags w used
walk_end {m = m} {fits = fits} c e =
    elim (cases fits) [
      | inl ok ↦
          let b = e.made ok in
          record {
            room = b.walking.room;
            plan-room = b.walking.plan-room;
            small = omega (arith, b.numbers.room, c.setting.fitting (suc m) (omega arith) (omega arith), c.setting.records);
          }
      | inr bad ↦
          let h = (e.halted bad).1 in
          record {
            room = record { m-bound = c.setting.columns.narrow; low = c.walking.room.low; long = h.long };
            plan-room = omega (arith, h.plan-room, h.flags-past);
            small = omega (arith, h.plan-room, c.setting.records);
          }
    ]
