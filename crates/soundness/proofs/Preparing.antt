-- The first steps of the whole pass. Book and windows are read; where both are sound the columns that count can be listed (preparing-list), which leaves all
-- that the columns of L need (preparing-done); then the answer is that of all three (preparing-answer). Assumes nothing.
use mathlib.Core.Path.{◌≡◌, sym, ap, ◌∙◌}
use mathlib.Core.Logic.{inl, inr}
use mathlib.Core.Bool.{Bool, true, ◌&&◌}
use mathlib.Core.List.{List}
use Prim.Native.Nat.{ℕ, ◌+◌, ◌*◌, ◌≤◌}
use native.Mathlib.Omega.{arith}
use lib.ListN.{length}
use Rattle.lists.proofs.Tests.{and_both}
use Rattle.workspace.specs.Layout.{child_head, column_next}
use Rattle.workspace.specs.Regions.{IsZero}
use Rattle.workspace.proofs.Regions.{zero-part, only_zero}
use Rattle.book.specs.Book as book
use Rattle.book.proofs.Sound.{Sound, sound-of}
use Rattle.windows.specs.Windowed.{are_sound as windows_sound}
use Rattle.tables.specs.Stored.{Stored, is_sound_for}
use Rattle.counting.specs.Counting.{CanList, Listed}
use Rattle.soundness.specs.State.{live_in, Prepared, SomePrepared, FactorRead}
use Rattle.soundness.specs.ReadThrough.{booked_sound, WithinBooked, CanReadThrough, are_sound}
use Rattle.soundness.proofs.Local.{head_in, start-in}

-- ---- all tables

module _ {s : Stored} {b : book.Book} {windows w : List ℕ} (pre : CanReadThrough s b windows w) where
  abbrev m : ℕ
  m = length s.heads

  abbrev f : ℕ
  f = length s.next

  -- where the next ids of lists stand
  abbrev c : ℕ
  c = column_next (length s.heads) (length s.next) (length b.next)

  module _ {w₁ : List ℕ} (read_only_lem : WithinBooked (length s.heads) (length s.next) b w w₁) where
    -- a region that was zero
    zero-before : (x l : ℕ) → x + l ≤ 4 * m + 1 → IsZero w₁ x l
    zero-before x l h =
        only_zero read_only_lem x l (inr (omega arith)) (zero-part w 0 (4 * m + 1) x l pre.front-zero (omega arith) (omega arith))

    module _ (sound : booked_sound (length s.heads) b windows ≡ true) (clock : ℕ) where
      book-is-sound : book.is_sound m b ≡ true
      book-is-sound = (and_both (book.is_sound m b) (windows_sound b.heads windows) sound).0

      book-sound : Sound m b
      book-sound = sound-of m b book-is-sound

      pub preparing-list : CanList b.heads b.rows windows w₁ clock (3 * m) m c
      preparing-list =
          record {
            next = b.next;
            sized = pre.booked;
            few = pre.n-bound;
            windows-long = pre.windows-long;
            heads-in = λ i p q. omega (arith, head_in book-sound i p q, pre.booked);
            rows_in = λ i p q. start-in book-sound windows clock i p;
            apart = omega arith;
            long = omega (arith, pre.long, read_only_lem.same_length);
            empty = zero-before (3 * m) m (omega arith);
          }

      module _ {x : List ℕ} (listed : Listed b.heads b.rows windows w₁ x clock (3 * m) m c) where
        x-long : length x ≡ length w
        x-long = listed.only.same_length ∙ read_only_lem.same_length

        x-zero : (y l : ℕ) → y + l ≤ 3 * m → IsZero x y l
        x-zero y l h i q = listed.only.outside (y + i) (inl (omega arith)) (inl (omega arith)) ∙ zero-before y l (omega arith) i q

        done : Prepared s b windows clock x
        done =
            record {
              sizes = record {
                stored = pre.stored;
                booked = pre.booked;
                some = pre.some;
                m-bound = pre.m-bound;
                n-bound = pre.n-bound;
                f-bound = pre.f-bound;
                c-bound = pre.c-bound;
                long = omega (arith, pre.long, x-long);
              };
              sound = book-is-sound;
              zero = x-zero 0 m (omega arith);
              heads-zero = x-zero (child_head m) m (omega arith);
              start-zero =
                  listed.only.outside (4 * m + 0) (inr (omega arith)) (inl (omega arith)) ∙ zero-before (4 * m) 1 (omega arith) 0 (omega arith);
              columns = listed.lists b.next pre.booked;
            }

        pub preparing-done : SomePrepared s b x
        preparing-done = record { windows = windows; clock = clock; prepared = done }

        module _ {y : List ℕ} {r : Bool} (read : FactorRead s b x y r) where
          pub preparing-answer : r ≡ are_sound s b windows clock
          preparing-answer = read.answer windows clock done ∙ sym (ap (λ (t : Bool). t && is_sound_for (live_in s b windows clock) s) sound)
