-- Tables that are cut to their sizes are read whole: the stored columns (`stored-whole`), the book (`book-whole`), the register; what `CanFind`
-- says of them, each fact in the form that the parts of a change ask; facts of whole things read of the cut ones (`both_read`, `beyond-cut`). Assumes nothing.
use mathlib.Core.Path.{◌≡◌, sym, ap, ◌∙◌, subst}
use mathlib.Core.Bool.{true}
use mathlib.Core.List.{List}
use Prim.Native.Nat.{ℕ, ◌+◌, ◌*◌, ◌≤◌}
use native.Mathlib.Omega.{arith}
use lib.ListN.{length, drop_of_length-le}
use lib.Seq.{take_all}
use Rattle.lists.specs.Lists.{all, no_repeats}
use Rattle.symbolic.specs.Columns.{fits_rows, Register, live}
use Rattle.symbolic.specs.Change.{ids_of}
use Rattle.symbolic.specs.Grades.{Limits}
use Rattle.workspace.specs.Regions.{IsZero}
use Rattle.workspace.specs.Layout.{spare, flags_at, flag_count}
use Rattle.workspace.proofs.Regions.{zero-part}
use Rattle.book.specs.Book as book
use Rattle.book.proofs.Columns.{columns-count, ids-distinct}
use Rattle.windows.specs.Windowed.{register_in, are_sound}
use Rattle.windows.proofs.Windowed.{windowed-ids, windowed-length}
use Rattle.tables.specs.Stored.{Stored, Sized, is_sound_for}
use Rattle.tables.specs.Stays.{Beyond}
use Rattle.tables.specs.Tables.{Tables, book_in, stored_in, windows_in}
use Rattle.tables.proofs.Tables.{sound-book, sound-windows, sound-stored, sound-rows}
use Rattle.calls.specs.Refusals.{is_accepted, work_for}
use Rattle.calls.specs.Steps.{booked_in}
use Rattle.calls.proofs.Refusals.{InRange, sizes-facts}
use Rattle.steps.specs.Outcome.{cut_sizes, cut_world, stored_whole, book_whole, CanFind}

-- ---- read whole

pub stored-whole : (t : Tables) (lim : Limits) (o f g : ℕ) → Sized (stored_whole t f) → stored_in (cut_world t lim o f g).state t ≡ stored_whole t f
stored-whole t lim o f g z = λ i.
    record {
      heads = take_all (length t.heads) t.heads (omega arith) i;
      parents = take_all (length t.heads) t.parents (omega (arith, z.parents-long)) i;
      rows = take_all (length t.next) t.rows (omega (arith, z.rows_long)) i;
      counts = take_all (length t.next) t.counts (omega (arith, z.counts-long)) i;
      next = take_all (length t.next) t.next (omega arith) i;
      free = f;
    }

pub book-whole : (t : Tables) (lim : Limits) (o f g : ℕ) → book.Sized (book_whole t g) → book_in (cut_world t lim o f g).state t ≡ book_whole t g
book-whole t lim o f g z = λ i.
    record {
      heads = take_all (length t.book_heads) t.book_heads (omega arith) i;
      rows = take_all (length t.book_next) t.book_rows (omega arith) i;
      next = take_all (length t.book_next) t.book_next (omega arith) i;
      free = g;
    }

-- a fact of two whole things, read of the cut ones
pub both_read : {A : Type 0} (P : A → A → Type 0) {a a' b b' : A} → a ≡ b → a' ≡ b' → P b b' → P a a'
both_read P {a} {a'} {b} {b'} e e' h = subst (λ x. P x a') (sym e) (subst (λ x. P b x) (sym e') h)

-- beyond the size there is nothing
pub beyond-cut : {n : ℕ} {xs ys : List ℕ} → length xs ≡ n → length ys ≡ length xs → Beyond n xs ys
beyond-cut {n} {xs} {ys} p q =
    let l : length xs ≤ n = omega arith in
    let h : length ys ≤ n = omega arith in
    record { same_length = q; same-tail = drop_of_length-le ys h ∙ sym (drop_of_length-le xs l) }

module _ {t : Tables} {lim : Limits} {o f g : ℕ} {w : List ℕ} (can : CanFind (cut_world t lim o f g) w) where
  pub sizes-are : InRange (cut_sizes t)
  sizes-are = sizes-facts (cut_sizes t) (ap is_accepted can.in-range)

  pub stored-sized : Sized (stored_whole t f)
  stored-sized = record { parents-long = can.parents; rows_long = can.rows; counts-long = can.counts }

  pub stored_cut : stored_in (cut_world t lim o f g).state t ≡ stored_whole t f
  stored_cut = stored-whole t lim o f g stored-sized

  pub book-cut : book_in (cut_world t lim o f g).state t ≡ book_whole t g
  book-cut = book-whole t lim o f g can.book-rows

  pub windows-cut : windows_in (cut_world t lim o f g).state t ≡ t.windows
  windows-cut = take_all (2 * length t.book_heads) t.windows (omega (arith, can.windows))

  pub register-cut : booked_in (cut_world t lim o f g) ≡ register_in (length t.heads) o (book_whole t g) t.windows
  register-cut = λ i. register_in (length t.heads) o (book-cut i) (windows-cut i)

  -- ---- sound

  pub stored-sound : is_sound_for (live (booked_in (cut_world t lim o f g))) (stored_whole t f) ≡ true
  stored-sound =
      subst (λ (s : Stored). is_sound_for (live (booked_in (cut_world t lim o f g))) s ≡ true) stored_cut (sound-stored (cut_world t lim o f g).state t can.sound)

  pub book-sound : book.is_sound (length t.heads) (book_whole t g) ≡ true
  book-sound = subst (λ (b : book.Book). book.is_sound (length t.heads) b ≡ true) book-cut (sound-book (cut_world t lim o f g).state t can.sound)

  pub windows-sound : are_sound t.book_heads t.windows ≡ true
  windows-sound = sym (λ i. are_sound (book-cut i).heads (windows-cut i)) ∙ sound-windows (cut_world t lim o f g).state t can.sound

  -- ---- the register: its columns fit, have distinct ids, and are at most n

  pub columns-rise : all (fits_rows (length t.heads)) (booked_in (cut_world t lim o f g)).columns ≡ true
  columns-rise = sound-rows (cut_world t lim o f g).state t can.sound

  pub columns-distinct : no_repeats (ids_of (booked_in (cut_world t lim o f g)).columns) ≡ true
  columns-distinct =
      let b : book.Book = book_in (cut_world t lim o f g).state t in
      ap no_repeats (windowed-ids (windows_in (cut_world t lim o f g).state t) (length b.heads) (book.columns_in b)) ∙ ids-distinct b

  pub columns-few : length (booked_in (cut_world t lim o f g)).columns ≤ 16384
  columns-few =
      omega (
        arith,
        ap (λ (r : Register). length r.columns) register-cut,
        windowed-length t.windows (length t.book_heads) (book.columns_in (book_whole t g)),
        columns-count (book_whole t g),
        sizes-are.n-high,
      )

  -- ---- the work table

  pub work-long : flags_at (length t.heads) (length t.next) + 1024 ≤ length w
  work-long = omega (arith, can.long)

  pub work-zero : IsZero w 0 (spare (length t.heads) (length t.next))
  work-zero i h = can.zero i (omega arith)

  pub flags-zero : IsZero w (flags_at (length t.heads) (length t.next)) flag_count
  flags-zero = zero-part w 0 (work_for (cut_world t lim o f g).state.sizes) (flags_at (length t.heads) (length t.next)) flag_count can.zero (omega arith) (omega arith)
