-- An addition, of listed columns and of booked ones: the marks' premises, the walk's, the plan where it fits, and the table as lent where it does not
-- (`add-made`). Assumes nothing.
use mathlib.Core.Path.{◌≡◌, refl, sym, ap, ◌∙◌, subst}
use mathlib.Core.Logic.{inl, inr}
use mathlib.Core.Bool.{Bool, true, false, true≢false}
use mathlib.Core.List.{List, ◌++◌}
use Prim.Native.Nat.{ℕ, suc, ◌+◌, ◌*◌}
use native.Mathlib.Omega.{arith}
use lib.ListN.{length}
use borrow.Author.Tests.{le-leb, lt-leb}
use Rattle.lists.specs.Lists.{pick}
use Rattle.lists.proofs.Tests.{cases}
use Rattle.symbolic.specs.Columns.{Column}
use Rattle.symbolic.specs.Factor.{factor_of, size_sum}
use Rattle.symbolic.specs.Batch.{touched, label_of}
use Rattle.workspace.specs.Regions.{cleared}
use Rattle.pool.specs.Chains.{chain}
use Rattle.book.specs.Book.{Book}
use Rattle.tables.specs.Stored.{Stored}
use Rattle.updown.specs.Entries.{CanPlan, CanAdd, CanEnter, AddPlanned}
use Rattle.updown.specs.Plans.{PlanIs}
use Rattle.updown.specs.States.{Setting, Between}
use Rattle.updown.specs.Starts.{StartsTo, CanMark, CanWalk, Walked, CanWalkListed, CanWalkBooked, Ended}
use Rattle.updown.proofs.Sound.{sound-pool, sound-size}
use Rattle.updown.proofs.Opening.{walking_start}
use Rattle.updown.proofs.Ending.{plan-made}
use Rattle.updown.proofs.Exceeding.{sizes-fit}
use Rattle.updown.proofs.Halting.{cleared-back}
use Rattle.updown.proofs.Preparing.{setting-of, room_of, zero_of, mark_of, book-holds}
use Rattle.updown.proofs.Listing.{listed-starts}
use Rattle.updown.proofs.Booking.{booked-starts}

module _ {s : Stored} {work : List ℕ} {R W : List Column} (c : CanPlan s R W work) where
  abbrev m : ℕ
  m = length s.heads

  abbrev flags : ℕ
  flags = 8 * length s.heads + 4 * length s.next

  abbrev F : ℕ
  F = length (chain s.next s.free)

  setting : Setting s.heads s.parents s.rows s.counts s.next m flags R W true F
  setting = setting-of s R R W true c.sized c.sound refl c.m-bound c.f-bound c.few c.positions.1 c.batch-fits F (omega arith)

  add-walk : {w₁ : List ℕ} → StartsTo m flags W work w₁ (length W) → CanWalk s.heads s.parents s.rows s.counts s.next work w₁ m flags s.free R W true
  add-walk t =
      record {
        setting = setting;
        walking = walking_start R true t (room_of c) (zero_of c) c.flags-zero c.some;
        linked = (sound-pool s R c.sized c.sound).unused;
        size = λ _. sound-size s R c.sized c.sound;
      }

  pub add-made : {w w' : List ℕ} {fits z : Bool} {f l n k used avail f' n' k' used' : ℕ} → Walked s.next work w m flags F R W true fits f l n k used avail →
      Ended m flags w w' fits f n k used z f' n' k' used' → AddPlanned s R W work w' z f' n' k' used'
  add-made {w} {w'} {fits} {z} {f} {l} {n} {k} {used} {avail} {f'} {n'} {k'} {used'} e x =
      elim (cases fits) [ inl ok ↦ made ok (x.table ∙ ap table ok) | inr bad ↦ refused bad (x.table ∙ ap table bad) ]
    where
      table : Bool → List ℕ
      table b = pick b (cleared w flags 64) (cleared (cleared w flags 64) 0 (8 * m + used))

      made : fits ≡ true → w' ≡ cleared w flags 64 → AddPlanned s R W work w' z f' n' k' used'
      made ok v =
          let b : Between s.next work w m flags R W true F (suc m) f l n k used avail = e.made ok in
          record {
            fits-is = x.fits-is ∙ ok ∙ sym (le-leb (size_sum (factor_of m (R ++ W))) (length s.next) (sizes-fit (sound-size s R c.sized c.sound) b.numbers));
            plan = λ _. let q = x.numbers ok in rw (q.0, q.1, q.2, q.3)
                (subst (λ (t : List ℕ). PlanIs m (length s.next) F (factor_of m R) (factor_of m (R ++ W)) (label_of (factor_of m (R ++ W)) W) (touched (factor_of m (R ++ W)) W) work t f n k used)
                (sym v) (plan-made b setting.fitting));
            unchanged = λ q. absurd (true≢false (sym (x.fits-is ∙ ok) ∙ q));
          }

      refused : fits ≡ false → w' ≡ cleared (cleared w flags 64) 0 (8 * m + used) → AddPlanned s R W work w' z f' n' k' used'
      refused bad v =
          record {
            fits-is = x.fits-is ∙ bad ∙ sym (lt-leb (size_sum (factor_of m (R ++ W))) (length s.next) (e.halted bad).2);
            plan = λ q. absurd (true≢false (sym q ∙ x.fits-is ∙ bad));
            unchanged = λ _. cleared-back (e.halted bad).1 refl c.zero c.flags-zero v;
          }

-- ---- listed columns

module _ {s : Stored} {starts row_counts row_list work : List ℕ} {R W : List Column} (c : CanAdd s starts row_counts row_list work R W) where
  pub add-mark : CanMark starts (length s.heads) (8 * length s.heads + 4 * length s.next) work W
  add-mark = mark_of c.can (listed-starts starts row_counts row_list W c.listed)

  pub add-listed : {w : List ℕ} → StartsTo (length s.heads) (8 * length s.heads + 4 * length s.next) W work w (length W) →
      CanWalkListed s.heads s.parents s.rows s.counts s.next work w starts row_counts row_list (length s.heads) (8 * length s.heads + 4 * length s.next) s.free R W
  add-listed t = record { walk = add-walk c.can t; listed = c.listed; fits = c.can.batch-fits }

-- ---- booked columns

module _ {s : Stored} {b : Book} {starts ids work : List ℕ} {R W : List Column} (c : CanEnter s b starts ids work R W) where
  pub enter-mark : CanMark starts (length s.heads) (8 * length s.heads + 4 * length s.next) work W
  enter-mark = mark_of c.can (booked-starts b starts ids W c.booked)

  pub enter-walk : {w : List ℕ} → StartsTo (length s.heads) (8 * length s.heads + 4 * length s.next) W work w (length W) →
      CanWalkBooked s.heads s.parents s.rows s.counts s.next b.heads b.rows b.next work w starts ids (length s.heads) (8 * length s.heads + 4 * length s.next) s.free R W true
  enter-walk t = record { walk = add-walk c.can t; holds = book-holds c.can b c.booked c.book-sized c.book-free c.book-sound }
