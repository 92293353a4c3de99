-- A batch written: an accepted batch has what the report and the writing of its plan ask (`report-can`, `write-can`), and columns so written with book and
-- windows changed by it (`BookAfter`) are the change's world, beside its report (`batch-written`). Adding and removing differ only in the book's change:
-- Booking.antt. Assumes nothing.
use mathlib.Core.Path.{◌≡◌, refl, sym, ap, ◌∙◌, subst}
use mathlib.Core.Bool.{true, false}
use mathlib.Core.List.{List, [], ◌∷◌}
use Prim.Native.Nat.{ℕ, ◌*◌, ◌≤◌}
use native.Mathlib.Omega.{arith}
use lib.ListN.{length}
use lib.Seq.{take_all}
use Rattle.lists.specs.Lists.{among, over, sum_of}
use Rattle.lists.proofs.Tests.{both-and}
use Rattle.symbolic.specs.Columns.{Column, Register, live}
use Rattle.symbolic.specs.Factor.{factor_of, factor_for, column_at}
use Rattle.symbolic.specs.Change.{Bag}
use Rattle.symbolic.specs.Grades.{Limits}
use Rattle.symbolic.proofs.Live.{live-order}
use Rattle.book.specs.Book as book
use Rattle.windows.specs.Windowed.{lines_in, are_sound}
use Rattle.tables.specs.Stored.{Stored, is_sound_for, stored_of}
use Rattle.tables.specs.Lent.{columns_lent, SameColumns}
use Rattle.tables.specs.declared.ColumnsMut.{ColumnsMut}
use Rattle.tables.specs.Stays.{ColumnStays, EntriesKeep, MinutesStay}
use Rattle.tables.specs.Tables.{Tables, stored_in, book_in, windows_in, is_sound}
use Rattle.tables.proofs.Lent.{lent-back}
use Rattle.tables.proofs.Stored.{sound-bag}
use Rattle.tables.proofs.Tables.{sound-limits}
use Rattle.calls.specs.Calls.{Change}
use Rattle.calls.specs.Changes.{effect, touched_by, labelled}
use Rattle.calls.specs.Steps.{booked_in, Exchanged}
use Rattle.calls.proofs.Changes.{rows_stay, touched-rise, untouched-same}
use Rattle.updown.specs.Plans.{PlanIs}
use Rattle.updown.specs.declared.Plan.{Plan}
use Rattle.commit.specs.Writes.{CanWrite, PlanWritten}
use Rattle.commit.specs.Report.{labels_for, CanReport, Reported}
use Rattle.steps.specs.Outcome.{cut_sizes, cut_world, stored_whole, book_whole, CanFind}
use Rattle.steps.proofs.Cut as cut
use Rattle.writing.specs.Writing.{CanWriteBatch, BatchWritten}

-- the labels of a plan are the report's
labels-same : (f : ℕ → ℕ) (js : List ℕ) → labels_for f js ≡ labelled f js
unfolding labels_for labelled
labels-same f [] = refl
labels-same f (j ∷ js) = ap (λ (ls : List ℕ). f j ∷ ls) (labels-same f js)

-- ---- the book's change, of any batch

-- a sound book with sound windows, together columns cs; book column and minutes stay of all but some ids
pub record BookAfter (m : ℕ) (b : book.Book) (w : List ℕ) (cs : List Column) (ids : List ℕ) (after : book.Book) (w' : List ℕ) : Type 0 where
  pub some : 1 ≤ length ids
  pub sized : book.Sized after
  pub sound : book.is_sound m after ≡ true
  pub same-heads : length after.heads ≡ length b.heads
  pub same-records : length after.next ≡ length b.next
  pub same-windows : length w' ≡ length w
  pub windows-sound : are_sound after.heads w' ≡ true
  pub columns : Bag (lines_in after w') cs
  pub others : (i : ℕ) → 1 ≤ i → i ≤ length b.heads → among i ids ≡ false → book.ColumnStays b after i
  pub minutes : (i : ℕ) → 1 ≤ i → i ≤ length b.heads → among i ids ≡ false → MinutesStay (length b.heads) w w' i

-- ---- columns that a struct lent, back in their tables

pub written-back : {s : Stored} {ds : List Column} {columns before work : List ℕ} {a b : ColumnsMut} {f : ℕ} {ps rs cs ns : List ℕ} → SameColumns a b →
    ps ≡ b.parents.now → rs ≡ b.rows.now → cs ≡ b.counts.now → ns ≡ b.next.now → PlanWritten s ds columns before (columns_lent b f) work →
    PlanWritten s ds columns before (stored_of a.heads.now ps rs cs ns f) work
written-back {s} {ds} {columns} {before} {work} {f = f} e p r c n x = subst (λ (t : Stored). PlanWritten s ds columns before t work) (lent-back e p r c n f) x

-- ---- the plan's report and writing

module _ {t : Tables} {lim : Limits} {o f g : ℕ} {k : Change} {w w' a b : List ℕ} {plan : Plan}
    (c : CanWriteBatch (cut_world t lim o f g) k w w' a b plan) where
  abbrev r : Register
  r = booked_in (cut_world t lim o f g)

  abbrev find : CanFind (cut_world t lim o f g) w
  find = c.can.find

  pub write-can :
      CanWrite (stored_whole t f) (live (booked_in (cut_world t lim o f g))) (live (effect (booked_in (cut_world t lim o f g)) k).register)
      (effect (booked_in (cut_world t lim o f g)) k).label (touched_by (booked_in (cut_world t lim o f g)) k)
      w w' plan.first.0 plan.count plan.entries plan.used
  write-can =
      record {
        sized = cut.stored-sized find;
        sound = cut.stored-sound find;
        m-bound = (cut.sizes-are find).m-high;
        free = c.plan.room;
        free-enough = c.plan.room_fits;
        plan = subst (λ (n : ℕ).
            PlanIs r.m (length t.next) c.plan.room (factor_for r) (factor_of n (live (effect r k).register)) (effect r k).label (touched_by r k) w w' plan.first.0 plan.count plan.entries plan.used)
            (rows_stay r k) c.plan.plan;
        zero = cut.work-zero find;
        long = cut.work-long find;
        rising = touched-rise r k;
        off = λ j p q h. sym
            (subst (λ (n : ℕ). column_at (factor_of n (live (effect r k).register)) j ≡ column_at (factor_for r) j) (rows_stay r k)
            (untouched-same (cut_sizes t) r (cut.columns-distinct find) j p q k c.accepted h));
      }

  pub report-can :
      CanReport (length t.heads) (factor_of (length t.heads) (live (booked_in (cut_world t lim o f g))))
      (factor_of (length t.heads) (live (effect (booked_in (cut_world t lim o f g)) k).register))
      (effect (booked_in (cut_world t lim o f g)) k).label (touched_by (booked_in (cut_world t lim o f g)) k) w' a b plan.first.0 plan.used
  report-can =
      record {
        m-bound = write-can.m-bound;
        rising = write-can.rising;
        first-is = write-can.plan.first-is;
        plans = write-can.plan.plans;
        long = omega (arith, write-can.long, write-can.plan.same_length);
        touched-long = c.can.touched-long;
        labels-long = c.can.labels-long;
      }

  -- ---- columns written and a book changed, at the same clock

  module _ {t' : Tables} {f' g' : ℕ} {w'' a' b' : List ℕ} (same-clock : (effect (booked_in (cut_world t lim o f g)) k).register.clock ≡ o) (same_next : length t'.next ≡ length t.next)
      (z : Reported (effect (booked_in (cut_world t lim o f g)) k).label (touched_by (booked_in (cut_world t lim o f g)) k) a b a' b')
      (x : PlanWritten (stored_whole t f) (live (effect (booked_in (cut_world t lim o f g)) k).register) (touched_by (booked_in (cut_world t lim o f g)) k) w (stored_whole t' f') w'')
      (y : BookAfter (length t.heads) (book_whole t g) t.windows (effect (booked_in (cut_world t lim o f g)) k).register.columns (effect (booked_in (cut_world t lim o f g)) k).ids (book_whole t' g') t'.windows) where
    abbrev same-heads : length t'.heads ≡ length t.heads
    same-heads = ap length x.heads

    stored-after : stored_in (cut_world t' lim o f' g').state t' ≡ stored_whole t' f'
    stored-after = cut.stored-whole t' lim o f' g' x.sized

    book-after : book_in (cut_world t' lim o f' g').state t' ≡ book_whole t' g'
    book-after = cut.book-whole t' lim o f' g' y.sized

    windows-after : windows_in (cut_world t' lim o f' g').state t' ≡ t'.windows
    windows-after = take_all (2 * length t'.book_heads) t'.windows (omega (arith, find.windows, y.same-windows, y.same-heads))

    columns-after : Bag (booked_in (cut_world t' lim o f' g')).columns (effect (booked_in (cut_world t lim o f g)) k).register.columns
    columns-after h = (λ i. sum_of h (lines_in (book-after i) (windows-after i))) ∙ y.columns h

    -- book, windows and stored columns
    sound-after : is_sound (cut_world t' lim o f' g').state t' ≡ true
    sound-after =
        let p : book.is_sound (length t'.heads) (book_in (cut_world t' lim o f' g').state t') ≡ true =
        (λ i. book.is_sound (same-heads i) (book-after i)) ∙ y.sound in
        let v : are_sound (book_in (cut_world t' lim o f' g').state t').heads (windows_in (cut_world t' lim o f' g').state t') ≡ true =
        (λ i. are_sound (book-after i).heads (windows-after i)) ∙ y.windows-sound in
        let r' : Register = booked_in (cut_world t' lim o f' g') in
        let q : is_sound_for (live r') (stored_in (cut_world t' lim o f' g').state t') ≡ true =
        subst (λ (s : Stored). is_sound_for (live r') s ≡ true) (sym stored-after)
        (sound-bag (live r') (live (effect r k).register) (stored_whole t' f') (live-order r' (effect r k).register (sym same-clock) columns-after) ∙ x.sound) in
        both-and (sound-limits (cut_world t lim o f g).state t find.sound) (both-and (both-and p v) q)

    pub batch-exchanged : Exchanged (cut_world t lim o f g) k (cut_world t' lim o f' g')
    batch-exchanged =
        record {
          sizes = λ i. record { m = same-heads i; n = y.same-heads i; f = same_next i; c = y.same-records i };
          limits = refl;
          clock = sym same-clock;
          sound = sound-after;
          columns = columns-after;
          others = λ j p q h. cut.both_read (λ (s s' : Stored). ColumnStays s s' j) (cut.stored_cut find) stored-after (x.others j p q h);
          entries = λ j p q i l d e h n. cut.both_read (λ (s s' : Stored). EntriesKeep s s' j) (cut.stored_cut find) stored-after (x.keep j p q) i l d e h;
          book = λ i p q h. cut.both_read (λ (d d' : book.Book). book.ColumnStays d d' i) (cut.book-cut find) book-after (y.others i p q h);
          minutes = λ i p q h. cut.both_read (λ (v v' : List ℕ). MinutesStay (length t.book_heads) v v' i) (cut.windows-cut find) windows-after (y.minutes i p q h);
          still = λ e. absurd (omega (arith, y.some, ap length e));
          tails = record {
            heads = cut.beyond-cut refl same-heads;
            parents = cut.beyond-cut find.parents (x.sized.parents-long ∙ same-heads ∙ sym find.parents);
            rows = cut.beyond-cut find.rows (x.sized.rows_long ∙ same_next ∙ sym find.rows);
            counts = cut.beyond-cut find.counts (x.sized.counts-long ∙ same_next ∙ sym find.counts);
            next = cut.beyond-cut refl same_next;
            book_heads = cut.beyond-cut refl y.same-heads;
            book_rows = cut.beyond-cut find.book-rows (y.sized ∙ y.same-records ∙ sym find.book-rows);
            book_next = cut.beyond-cut refl y.same-records;
            windows = cut.beyond-cut find.windows y.same-windows;
          };
        }

    pub batch-written : BatchWritten (cut_world t lim o f g) k w a b (cut_world t' lim o f' g') w'' a' b'
    batch-written =
        record {
          exchanged = batch-exchanged;
          work-is = x.work-is;
          touched-is = z.touched-is;
          labels-is = z.labels-is ∙ ap (λ (ls : List ℕ). over ls b) (labels-same (effect r k).label (touched_by r k));
        }
