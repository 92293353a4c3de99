-- What an exchange that fits leaves of cut tables is what an accepted clock change must leave (`clock-exchanged`): the stored columns are those of the register at the
-- minute, book and windows are as they were. Assumes nothing.
use mathlib.Core.Path.{◌≡◌, refl, sym, ap, ◌∙◌, subst}
use mathlib.Core.Bool.{true, false, true≢false}
use mathlib.Core.List.{List, ◌++◌}
use Prim.Native.Nat.{ℕ, ◌≤◌}
use lib.ListN.{length}
use Rattle.lists.specs.Lists.{among}
use Rattle.lists.proofs.Tests.{both-and, refute}
use Rattle.symbolic.specs.Columns.{Column, Register, live}
use Rattle.symbolic.specs.Factor.{FactorColumn, factor_of}
use Rattle.symbolic.specs.Batch.{is_exchanged}
use Rattle.symbolic.specs.Change.{clocked}
use Rattle.symbolic.specs.Grades.{Limits}
use Rattle.symbolic.proofs.Exchange.{exchanged-is}
use Rattle.tables.specs.Stored.{Stored, stored_of, is_sound_for}
use Rattle.tables.specs.Tables.{Tables, tables_of, stored_in, is_sound}
use Rattle.tables.specs.Stays.{ColumnStays, EntriesStay}
use Rattle.tables.proofs.Tables.{sound-limits, sound-book, sound-windows}
use Rattle.calls.specs.Calls.Change.{setting}
use Rattle.calls.specs.Changes.{effect, touched_by}
use Rattle.calls.specs.Steps.{World, booked_in, Exchanged}
use Rattle.steps.specs.Outcome.{cut_world, stored_whole, CanFind}
use Rattle.steps.proofs.Cut as cut
use Rattle.exchange.specs.Exchange.{staying, leaving, entering, Done}
use Rattle.clock.proofs.Moving.{Moves}
use Rattle.clock.proofs.Asking.{sound-same, books_of, cut-moves}

-- the tables with other parents and records of L
abbrev pub written : Tables → (parents rows counts next : List ℕ) → Tables
written t ps rs cs ns = tables_of t.heads ps rs cs ns t.book_heads t.book_rows t.book_next t.windows

-- parents and records of L are as many as before
pub record SameLengths (before after : Tables) : Type 0 where
  pub parents : length after.parents ≡ length before.parents
  pub rows : length after.rows ≡ length before.rows
  pub counts : length after.counts ≡ length before.counts
  pub next : length after.next ≡ length before.next

module _ {t : Tables} {lim : Limits} {o f g : ℕ} {w : List ℕ} (can : CanFind (cut_world t lim o f g) w) (minute : ℕ) {ps rs cs ns : List ℕ} (l : SameLengths t (written t ps rs cs ns))
    {z : ℕ} {w' : List ℕ}
    (done : Done (stored_whole t f) (staying (books_of t) t.windows o minute) (leaving (books_of t) t.windows o minute) (entering (books_of t) t.windows o minute)
    (stored_of t.heads ps rs cs ns z) w') where
  abbrev u : World
  u = cut_world t lim o f g

  abbrev v : World
  v = cut_world (written t ps rs cs ns) lim minute z g

  abbrev m : ℕ
  m = length t.heads

  abbrev r : Register
  r = booked_in u

  abbrev after : Stored
  after = stored_of t.heads ps rs cs ns z

  abbrev R : List Column
  R = staying (books_of t) t.windows o minute

  abbrev A : List Column
  A = leaving (books_of t) t.windows o minute

  abbrev B : List Column
  B = entering (books_of t) t.windows o minute

  abbrev moves : Moves r minute m R A B
  moves = cut-moves can minute

  -- the stored columns after it, read within the sizes
  stored-after : stored_in (cut_world (written t ps rs cs ns) lim minute z g).state (written t ps rs cs ns) ≡ stored_of t.heads ps rs cs ns z
  stored-after = cut.stored-whole (written t ps rs cs ns) lim minute z g done.sized

  -- they are sound for the columns that count at the minute
  after-sound : is_sound (cut_world (written t ps rs cs ns) lim minute z g).state (written t ps rs cs ns) ≡ true
  after-sound =
      let s : is_sound_for (live (clocked r minute)) (stored_in v.state v.tables) ≡ true =
      ap (is_sound_for (live (clocked r minute))) stored-after ∙ sound-same after (live (clocked r minute)) (R ++ B) moves.after ∙ done.sound in
      both-and (sound-limits u.state t can.sound) (both-and (both-and (sound-book u.state t can.sound) (sound-windows u.state t can.sound)) s)

  -- a column that is not touched is on no path
  off-paths : (j : ℕ) → 1 ≤ j → j ≤ length t.heads → among j (touched_by (booked_in (cut_world t lim o f g)) (setting minute)) ≡ false →
      is_exchanged (factor_of (length t.heads) (R ++ A)) (factor_of (length t.heads) (R ++ B)) A B j ≡ false
  off-paths j p q h =
      refute (is_exchanged (factor_of m (R ++ A)) (factor_of m (R ++ B)) A B j) (λ e.
      true≢false (sym ((exchanged-is m (R ++ A) (R ++ B) A B j).1 (p, q, e)) ∙ ap (among j) (sym moves.touched) ∙ h))

  pub clock-exchanged : Exchanged (cut_world t lim o f g) (setting minute) (cut_world (written t ps rs cs ns) lim minute z g)
  clock-exchanged =
      record {
        sizes = λ i. record { m = m; n = length t.book_heads; f = l.next i; c = length t.book_next };
        limits = refl;
        clock = refl;
        sound = after-sound;
        columns = λ h. refl;
        others = λ j p q h. cut.both_read (λ (a b : Stored). ColumnStays a b j) (cut.stored_cut can) stored-after (done.others j p q (off-paths j p q h));
        entries = λ j p q. cut.both_read (λ (a b : Stored). EntriesStay (factor_of m (effect r (setting minute)).stay) a b j) (cut.stored_cut can) stored-after
            (subst (λ (fs : List FactorColumn). EntriesStay fs (stored_whole t f) after j) (sym moves.stay) (done.entries j p q));
        book = λ i p q h. record { head = refl; records = refl; rows = refl };
        minutes = λ i p q h. record { first = refl; second = refl };
        still = λ h. record { heads = refl; rows = refl; next = refl; windows = refl; free = refl };
        tails = record {
          heads = record { same_length = refl; same-tail = refl };
          parents = cut.beyond-cut can.parents l.parents;
          rows = cut.beyond-cut can.rows l.rows;
          counts = cut.beyond-cut can.counts l.counts;
          next = cut.beyond-cut refl l.next;
          book_heads = record { same_length = refl; same-tail = refl };
          book_rows = record { same_length = refl; same-tail = refl };
          book_next = record { same_length = refl; same-tail = refl };
          windows = record { same_length = refl; same-tail = refl };
        };
      }
