-- What a clock change on cut tables asks of its exchange: it is one of the book's columns (`cut-moves`), and the stored columns are sound for those of the ids that
-- count (`can-exchange`). Assumes nothing.
use mathlib.Core.Path.{◌≡◌, sym, ap, ◌∙◌, subst}
use mathlib.Core.Bool.{◌&&◌}
use mathlib.Core.List.{List}
use Prim.Native.Nat.{ℕ}
use native.Mathlib.Omega.{arith}
use lib.ListN.{length}
use Rattle.symbolic.specs.Columns.{Column, Register, live}
use Rattle.symbolic.specs.Factor.{FactorColumn, factor_of, factor_for}
use Rattle.symbolic.specs.Grades.{Limits}
use Rattle.pool.specs.Whole.{is_whole}
use Rattle.book.specs.Book as book
use Rattle.windows.specs.Windows.{counts_at}
use Rattle.windows.specs.Chosen.{chosen}
use Rattle.tables.specs.Stored.{Stored, free_zero, holds_from, is_sound_for}
use Rattle.tables.specs.Tables.{Tables}
use Rattle.calls.specs.Steps.{booked_in}
use Rattle.steps.specs.Outcome.{cut_world, stored_whole, CanFind}
use Rattle.steps.proofs.Cut as cut
use Rattle.exchange.specs.Exchange.{staying, leaving, entering, CanExchange}
use Rattle.clock.proofs.Moving.{Moves, live-factor, book-moves}

-- soundness sees of the columns their factor alone
pub sound-same : (s : Stored) (cs ds : List Column) → factor_of (length s.heads) cs ≡ factor_of (length s.heads) ds → is_sound_for cs s ≡ is_sound_for ds s
sound-same s cs ds e = ap (λ (fs : List FactorColumn). is_whole s.next s.heads s.free && free_zero s && holds_from s fs 1 (length s.heads)) e

-- the book's tables
abbrev pub books_of : Tables → book.Book
books_of t = book.tables_of t.book_heads t.book_rows t.book_next

module _ {t : Tables} {lim : Limits} {o f g : ℕ} {w : List ℕ} (can : CanFind (cut_world t lim o f g) w) where
  -- the clock change as an exchange of the book's columns
  pub cut-moves : (minute : ℕ) →
      Moves (booked_in (cut_world t lim o f g)) minute (length t.heads) (staying (books_of t) t.windows o minute) (leaving (books_of t) t.windows o minute) (entering (books_of t) t.windows o minute)
  cut-moves minute =
      subst (λ (r : Register). Moves r minute (length t.heads) (staying (books_of t) t.windows o minute) (leaving (books_of t) t.windows o minute) (entering (books_of t) t.windows o minute))
      (sym (cut.register-cut can))
      (book-moves (length t.heads) t.book_heads t.book_rows t.book_next g t.windows (cut.book-sound can) o minute)

  counting-factor : factor_for (booked_in (cut_world t lim o f g)) ≡ factor_of (length t.heads) (chosen (books_of t) (counts_at t.windows (length t.book_heads) o))
  counting-factor =
      ap factor_for (cut.register-cut can) ∙ live-factor (length t.heads) t.book_heads t.book_rows t.book_next g t.windows (cut.book-sound can) o

  pub can-exchange : CanExchange (stored_whole t f) (books_of t) t.windows o w
  can-exchange =
      record {
        sized = cut.stored-sized can;
        sound = sym (sound-same (stored_whole t f) (live (booked_in (cut_world t lim o f g))) (chosen (books_of t) (counts_at t.windows (length t.book_heads) o)) counting-factor) ∙
            cut.stored-sound can;
        book-sized = can.book-rows;
        book-free = g;
        book-sound = cut.book-sound can;
        some = (cut.sizes-are can).m-low;
        m-bound = (cut.sizes-are can).m-high;
        f-bound = (cut.sizes-are can).f-high;
        few = (cut.sizes-are can).n-high;
        windows-long = omega (arith, can.windows);
        long = cut.work-long can;
        zero = cut.work-zero can;
        flags-zero = cut.flags-zero can;
      }
