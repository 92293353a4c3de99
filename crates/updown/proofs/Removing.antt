-- A removal: the marks' premises, the walk's, which takes no free record, and the plan, which always fits (`remove-made`). Assumes nothing.
use mathlib.Core.Path.{◌≡◌, sym, ap, ◌∙◌, subst}
use mathlib.Core.Logic.{inl, inr}
use mathlib.Core.Bool.{Bool, true, false, false≢true}
use mathlib.Core.List.{List, ◌++◌}
use Prim.Native.Nat.{ℕ, ◌+◌, ◌*◌, ◌≤◌}
use native.Mathlib.Omega.{arith}
use lib.ListN.{length, length-append}
use Rattle.lists.specs.Lists.{pick}
use Rattle.lists.proofs.Tests.{cases}
use Rattle.symbolic.specs.Columns.{Column}
use Rattle.symbolic.specs.Factor.{factor_of}
use Rattle.symbolic.specs.Batch.{touched, label_of}
use Rattle.symbolic.proofs.Bags.{bag-length}
use Rattle.symbolic.proofs.Order.{factor-bag}
use Rattle.workspace.specs.Regions.{cleared}
use Rattle.pool.specs.Chains.{chain, Linked}
use Rattle.pool.proofs.Chains.{chain-nil, linked-nil}
use Rattle.book.specs.Book as book
use Rattle.tables.specs.Stored.{Stored, stored_of}
use Rattle.updown.specs.Entries.{CanRemove, RemovePlanned}
use Rattle.updown.specs.Plans.{PlanIs}
use Rattle.updown.specs.Turns.{before}
use Rattle.updown.specs.States.{Setting}
use Rattle.updown.specs.Starts.{StartsTo, CanMark, Walked, CanWalkBooked, Ended}
use Rattle.updown.proofs.Opening.{walking_start}
use Rattle.updown.proofs.Ending.{plan-made}
use Rattle.updown.proofs.Preparing.{setting-of, room_of, zero_of, mark_of, book-holds}
use Rattle.updown.proofs.Booking.{booked-starts}

module _ {s : Stored} {b : book.Book} {starts ids work : List ℕ} {R W : List Column} (c : CanRemove s b starts ids work R W) where
  abbrev m : ℕ
  m = length s.heads

  abbrev flags : ℕ
  flags = 8 * length s.heads + 4 * length s.next

  pub remove-mark : CanMark starts (length s.heads) (8 * length s.heads + 4 * length s.next) work W
  remove-mark = mark_of c.can (booked-starts b starts ids W c.booked)

  same-factor : factor_of m c.columns ≡ before false m R W
  same-factor = factor-bag m c.columns (R ++ W) c.same

  few-columns : length R + length W ≤ 60000
  few-columns = omega (arith, c.can.few, bag-length c.columns (R ++ W) c.same, length-append R W)

  -- no free record
  none_free : length (chain s.next 0) ≡ 0
  none_free = ap length (chain-nil (length s.next) s.next)

  setting : Setting s.heads s.parents s.rows s.counts s.next m flags R W false (length (chain s.next 0))
  setting =
      setting-of (stored_of s.heads s.parents s.rows s.counts s.next c.free) c.columns R W false c.can.sized c.can.sound same-factor c.can.m-bound c.can.f-bound
      few-columns c.can.positions.1 c.can.batch-fits (length (chain s.next 0)) (omega (arith, none_free))

  pub remove-walk : {w : List ℕ} → StartsTo (length s.heads) (8 * length s.heads + 4 * length s.next) W work w (length W) →
      CanWalkBooked s.heads s.parents s.rows s.counts s.next b.heads b.rows b.next work w starts ids (length s.heads) (8 * length s.heads + 4 * length s.next) 0 R W false
  remove-walk t =
      record {
        walk = record {
          setting = setting;
          walking = walking_start R false t (room_of c.can) (zero_of c.can) c.can.flags-zero c.can.some;
          linked = subst (λ (v : List ℕ). Linked s.next 0 v) (sym (chain-nil (length s.next) s.next)) (linked-nil s.next);
          size = λ x. absurd (false≢true x);
        };
        holds = book-holds c.can b c.booked c.book-sized c.book-free c.book-sound;
      }

  pub remove-made : {w w' : List ℕ} {fits z : Bool} {f l n k used avail f' n' k' used' : ℕ} →
      Walked s.next work w (length s.heads) (8 * length s.heads + 4 * length s.next) (length (chain s.next 0)) R W false fits f l n k used avail →
      Ended (length s.heads) (8 * length s.heads + 4 * length s.next) w w' fits f n k used z f' n' k' used' → RemovePlanned s R W work w' z f' n' k' used'
  remove-made {w} {w'} {fits} {z} {f} {l} {n} {k} {used} {avail} {f'} {n'} {k'} {used'} e x =
      let ok : fits ≡ true = elim (cases fits) [ inl ok ↦ ok | inr bad ↦ absurd (false≢true (e.halted bad).0) ] in
      let v : w' ≡ cleared w flags 64 = x.table ∙ ap (λ (q : Bool). pick q (cleared w flags 64) (cleared (cleared w flags 64) 0 (8 * m + used))) ok in
      record {
        fits-is = x.fits-is ∙ ok;
        plan = let q = x.numbers ok in rw (q.0, q.1, q.2, q.3)
            (subst (λ (q : ℕ). PlanIs m (length s.next) q (factor_of m (R ++ W)) (factor_of m R) (label_of (factor_of m (R ++ W)) W) (touched (factor_of m (R ++ W)) W) work w' f n k used) none_free
            (subst (λ (t : List ℕ). PlanIs m (length s.next) (length (chain s.next 0)) (factor_of m (R ++ W)) (factor_of m R) (label_of (factor_of m (R ++ W)) W) (touched (factor_of m (R ++ W)) W) work t f n k used)
            (sym v) (plan-made (e.made ok) setting.fitting)));
      }
