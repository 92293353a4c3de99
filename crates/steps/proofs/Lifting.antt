-- A change on tables cut to their sizes is one on the tables that they are cut from: the cut tables read as the whole ones (`stored-lifts`, `book-lifts`,
-- `register-lifts`), so a usable factor's prefixes can be changed (`lift-can`), and prefixes written back are read alike, with the tails as they were.
-- Assumes nothing.
use mathlib.Core.Path.{◌≡◌, refl, sym, ap, ◌∙◌, subst}
use mathlib.Core.Bool.{true, ◌&&◌}
use mathlib.Core.List.{List, ◌++◌}
use Prim.Native.Nat.{ℕ, ◌*◌, ◌≤◌}
use native.Mathlib.Omega.{arith}
use lib.ListN.{length, take, drop, take-append-drop, length-append, length-drop}
use lib.Seq.{length-take-le, take_all, take_at, drop_at}
use Rattle.symbolic.specs.Columns.{live}
use Rattle.symbolic.specs.Grades.{Limits, are_limits}
use Rattle.workspace.specs.Regions.{IsZero}
use Rattle.book.specs.Book as book
use Rattle.windows.specs.Windowed.{register_in, are_sound}
use Rattle.tables.specs.Stored.{is_sound_for}
use Rattle.tables.specs.Stays.{Beyond, TailsStay}
use Rattle.tables.specs.Tables.{Tables, Sizes, stored_in, book_in, windows_in, register_of, is_sound}
use Rattle.tables.proofs.Tables.{Long}
use Rattle.calls.specs.Refusals.{accepted, bounds, sizes_refusal, work_for}
use Rattle.calls.specs.Steps.{World}
use Rattle.steps.specs.Outcome.{cut_sizes, cut_world, stored_whole, book_whole, CanStep}
use Rattle.steps.proofs.Cut.{stored-whole, book-whole}

-- ---- tables cut to sizes, and put back

abbrev pub cut_tables : Sizes → Tables → Tables
cut_tables l t =
    record {
      heads = take l.m t.heads;
      parents = take l.m t.parents;
      rows = take l.f t.rows;
      counts = take l.f t.counts;
      next = take l.f t.next;
      book_heads = take l.n t.book_heads;
      book_rows = take l.c t.book_rows;
      book_next = take l.c t.book_next;
      windows = take (2 * l.n) t.windows;
    }

-- prefixes before the tails of the whole tables
abbrev pub join_tables : Sizes → (cut whole : Tables) → Tables
join_tables l y t =
    record {
      heads = y.heads ++ drop l.m t.heads;
      parents = y.parents ++ drop l.m t.parents;
      rows = y.rows ++ drop l.f t.rows;
      counts = y.counts ++ drop l.f t.counts;
      next = y.next ++ drop l.f t.next;
      book_heads = y.book_heads ++ drop l.n t.book_heads;
      book_rows = y.book_rows ++ drop l.c t.book_rows;
      book_next = y.book_next ++ drop l.c t.book_next;
      windows = y.windows ++ drop (2 * l.n) t.windows;
    }

abbrev pub world_for : Sizes → Limits → (clock free book_free : ℕ) → Tables → World
world_for l lim o f g t = record { state = record { sizes = l; limits = lim; free = f; book_free = g; clock = o }; tables = t }

-- a prefix that stays, before its tail
pub put_back : (n : ℕ) (xs : List ℕ) {ys : List ℕ} → ys ≡ take n xs → ys ++ drop n xs ≡ xs
put_back n xs e = ap (λ (zs : List ℕ). zs ++ drop n xs) e ∙ take-append-drop n xs

-- what was cut and put back is as it was
pub join-cut : (l : Sizes) (t : Tables) → join_tables l (cut_tables l t) t ≡ t
join-cut l t = λ i.
    record {
      heads = take-append-drop l.m t.heads i;
      parents = take-append-drop l.m t.parents i;
      rows = take-append-drop l.f t.rows i;
      counts = take-append-drop l.f t.counts i;
      next = take-append-drop l.f t.next i;
      book_heads = take-append-drop l.n t.book_heads i;
      book_rows = take-append-drop l.c t.book_rows i;
      book_next = take-append-drop l.c t.book_next i;
      windows = take-append-drop (2 * l.n) t.windows i;
    }

-- tables of just the sizes
pub record Fits (l : Sizes) (y : Tables) : Type 0 where
  pub heads : length y.heads ≡ l.m
  pub parents : length y.parents ≡ l.m
  pub rows : length y.rows ≡ l.f
  pub counts : length y.counts ≡ l.f
  pub next : length y.next ≡ l.f
  pub book-heads : length y.book_heads ≡ l.n
  pub book-rows : length y.book_rows ≡ l.c
  pub book-next : length y.book_next ≡ l.c
  pub windows : length y.windows ≡ 2 * l.n

pub cut_fits : (l : Sizes) (t : Tables) → Long l t → Fits l (cut_tables l t)
cut_fits l t h =
    record {
      heads = length-take-le l.m t.heads h.heads;
      parents = length-take-le l.m t.parents h.parents;
      rows = length-take-le l.f t.rows h.rows;
      counts = length-take-le l.f t.counts h.counts;
      next = length-take-le l.f t.next h.next;
      book-heads = length-take-le l.n t.book_heads h.book_heads;
      book-rows = length-take-le l.c t.book_rows h.book_rows;
      book-next = length-take-le l.c t.book_next h.book_next;
      windows = length-take-le (2 * l.n) t.windows h.windows;
    }

beyond : (n : ℕ) (xs ys : List ℕ) → n ≤ length xs → length ys ≡ n → Beyond n xs (ys ++ drop n xs)
beyond n xs ys p q =
    record { same_length = omega (arith, length-append ys (drop n xs), length-drop n xs); same-tail = drop_at ys (drop n xs) n q }

-- ---- tables that fit are read whole, alone or before any tails

module _ {l : Sizes} {y : Tables} (z : Fits l y) (lim : Limits) (o f g : ℕ) where
  pub cut-sizes-are : cut_sizes y ≡ l
  cut-sizes-are = λ i. record { m = z.heads i; n = z.book-heads i; f = z.next i; c = z.book-next i }

  pub stored-fits : stored_in (cut_world y lim o f g).state y ≡ stored_whole y f
  stored-fits =
      stored-whole y lim o f g (record { parents-long = z.parents ∙ sym z.heads; rows_long = z.rows ∙ sym z.next; counts-long = z.counts ∙ sym z.next })

  pub book-fits : book_in (cut_world y lim o f g).state y ≡ book_whole y g
  book-fits = book-whole y lim o f g (z.book-rows ∙ sym z.book-next)

  pub windows-fits : windows_in (cut_world y lim o f g).state y ≡ y.windows
  windows-fits = take_all (2 * length y.book_heads) y.windows (omega (arith, z.windows, z.book-heads))

  module _ (t : Tables) where
    pub stored-joins : stored_in (world_for l lim o f g (join_tables l y t)).state (join_tables l y t) ≡ stored_whole y f
    stored-joins = λ i.
        record {
          heads = take_at y.heads (drop l.m t.heads) l.m z.heads i;
          parents = take_at y.parents (drop l.m t.parents) l.m z.parents i;
          rows = take_at y.rows (drop l.f t.rows) l.f z.rows i;
          counts = take_at y.counts (drop l.f t.counts) l.f z.counts i;
          next = take_at y.next (drop l.f t.next) l.f z.next i;
          free = f;
        }

    pub book-joins : book_in (world_for l lim o f g (join_tables l y t)).state (join_tables l y t) ≡ book_whole y g
    book-joins = λ i.
        record {
          heads = take_at y.book_heads (drop l.n t.book_heads) l.n z.book-heads i;
          rows = take_at y.book_rows (drop l.c t.book_rows) l.c z.book-rows i;
          next = take_at y.book_next (drop l.c t.book_next) l.c z.book-next i;
          free = g;
        }

    pub windows-joins : windows_in (world_for l lim o f g (join_tables l y t)).state (join_tables l y t) ≡ y.windows
    windows-joins = take_at y.windows (drop (2 * l.n) t.windows) (2 * l.n) z.windows

    -- the tails stay
    pub tails-join : Long l t → TailsStay l t (join_tables l y t)
    tails-join h =
        record {
          heads = beyond l.m t.heads y.heads h.heads z.heads;
          parents = beyond l.m t.parents y.parents h.parents z.parents;
          rows = beyond l.f t.rows y.rows h.rows z.rows;
          counts = beyond l.f t.counts y.counts h.counts z.counts;
          next = beyond l.f t.next y.next h.next z.next;
          book_heads = beyond l.n t.book_heads y.book_heads h.book_heads z.book-heads;
          book_rows = beyond l.c t.book_rows y.book_rows h.book_rows z.book-rows;
          book_next = beyond l.c t.book_next y.book_next h.book_next z.book-next;
          windows = beyond (2 * l.n) t.windows y.windows h.windows z.windows;
        }

-- ---- the cut tables of a usable factor

module _ {l : Sizes} {t : Tables} (long : Long l t) (lim : Limits) (o f g : ℕ) where
  pub stored-lifts : stored_in (cut_world (cut_tables l t) lim o f g).state (cut_tables l t) ≡ stored_in (world_for l lim o f g t).state t
  stored-lifts = stored-fits (cut_fits l t long) lim o f g

  pub book-lifts : book_in (cut_world (cut_tables l t) lim o f g).state (cut_tables l t) ≡ book_in (world_for l lim o f g t).state t
  book-lifts = book-fits (cut_fits l t long) lim o f g

  pub windows-lifts : windows_in (cut_world (cut_tables l t) lim o f g).state (cut_tables l t) ≡ windows_in (world_for l lim o f g t).state t
  windows-lifts = windows-fits (cut_fits l t long) lim o f g

  pub register-lifts : register_of (cut_world (cut_tables l t) lim o f g).state (cut_tables l t) ≡ register_of (world_for l lim o f g t).state t
  register-lifts = λ i. register_in ((cut_fits l t long).heads i) o (book-lifts i) (windows-lifts i)

  sound-lifts : is_sound (cut_world (cut_tables l t) lim o f g).state (cut_tables l t) ≡ is_sound (world_for l lim o f g t).state t
  sound-lifts = λ i.
      are_limits lim && (book.is_sound ((cut_fits l t long).heads i) (book-lifts i) && are_sound (book-lifts i).heads (windows-lifts i) && is_sound_for (live (register-lifts i)) (stored-lifts i))

  pub lift-can : {w a b : List ℕ} → sizes_refusal bounds l ≡ accepted → is_sound (world_for l lim o f g t).state t ≡ true → work_for l ≤ length w →
      IsZero w 0 (work_for l) → l.m ≤ length a → l.m ≤ length b → CanStep (cut_world (cut_tables l t) lim o f g) w a b
  lift-can {w} {a} {b} sizes sound room zero p q =
      let z : Fits l (cut_tables l t) = cut_fits l t long in
      let e : l ≡ cut_sizes (cut_tables l t) = sym (cut-sizes-are z lim o f g) in
      record {
        find = record {
          in-range = subst (λ (x : Sizes). sizes_refusal bounds x ≡ accepted) e sizes;
          heads = refl;
          parents = z.parents ∙ sym z.heads;
          rows = z.rows ∙ sym z.next;
          counts = z.counts ∙ sym z.next;
          next = refl;
          book-heads = refl;
          book-rows = z.book-rows ∙ sym z.book-next;
          book-next = refl;
          windows = z.windows ∙ ap (λ (n : ℕ). 2 * n) (sym z.book-heads);
          sound = sound-lifts ∙ sound;
          long = subst (λ (x : Sizes). work_for x ≤ length w) e room;
          zero = subst (λ (x : Sizes). IsZero w 0 (work_for x)) e zero;
        };
        touched-long = subst (λ (x : Sizes). x.m ≤ length a) e p;
        labels-long = subst (λ (x : Sizes). x.m ≤ length b) e q;
      }
