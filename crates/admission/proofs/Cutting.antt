-- The tables within their sizes, as the code lends them: their lengths are the sizes (`Cut`), tables that are long enough can be read through, and what is read
-- through is soundness. Assumes nothing.
use mathlib.Core.Path.{◌≡◌, refl, sym, ap, ◌∙◌, subst}
use mathlib.Core.Bool.{Bool, true, false, ◌&&◌}
use mathlib.Core.List.{List}
use Prim.Native.Nat.{ℕ, ◌+◌, ◌*◌, ◌≤◌}
use native.Mathlib.Omega.{arith}
use lib.ListN.{length}
use lib.Seq.{length-take-le}
use Rattle.symbolic.specs.Columns.{live}
use Rattle.symbolic.specs.Grades.{are_limits}
use Rattle.workspace.specs.Layout.{work_need}
use Rattle.workspace.specs.Regions.{IsZero, OnlyIn, cleared, zero_first}
use Rattle.workspace.proofs.Regions.{cleared-zero, cleared-only, cleared-unique, only-trans, only_wider, zero-part, first-cleared}
use Rattle.book.specs.Book as book
use Rattle.windows.specs.Windowed.{register_in, are_sound as windows_sound}
use Rattle.tables.specs.Stored.{Sized, is_sound_for}
use Rattle.tables.specs.Tables.{Tables, Sizes, State, long_enough, stored_in, book_in, windows_in, holds_sound, is_sound}
use Rattle.tables.proofs.Tables.{Long, long-facts}
use Rattle.calls.specs.Refusals.{accepted, is_accepted, bounds, sizes_refusal, work_for}
use Rattle.calls.proofs.Refusals.{InRange, sizes-facts}
use Rattle.soundness.specs.ReadThrough.{CanReadThrough, made_ready, are_sound}
use Rattle.admission.specs.Admission.{HasPlaces}

-- ---- lengths

pub record Cut (s : State) (t : Tables) : Type 0 where
  pub heads : length (stored_in s t).heads ≡ s.sizes.m
  pub parents : length (stored_in s t).parents ≡ s.sizes.m
  pub rows : length (stored_in s t).rows ≡ s.sizes.f
  pub counts : length (stored_in s t).counts ≡ s.sizes.f
  pub next : length (stored_in s t).next ≡ s.sizes.f
  pub book_heads : length (book_in s t).heads ≡ s.sizes.n
  pub book_rows : length (book_in s t).rows ≡ s.sizes.c
  pub book_next : length (book_in s t).next ≡ s.sizes.c
  pub windows : length (windows_in s t) ≡ 2 * s.sizes.n

pub cut : (s : State) (t : Tables) → long_enough s.sizes t ≡ true → Cut s t
cut s t z =
    let h : Long s.sizes t = long-facts s.sizes t z in
    record {
      heads = length-take-le s.sizes.m t.heads h.heads;
      parents = length-take-le s.sizes.m t.parents h.parents;
      rows = length-take-le s.sizes.f t.rows h.rows;
      counts = length-take-le s.sizes.f t.counts h.counts;
      next = length-take-le s.sizes.f t.next h.next;
      book_heads = length-take-le s.sizes.n t.book_heads h.book_heads;
      book_rows = length-take-le s.sizes.c t.book_rows h.book_rows;
      book_next = length-take-le s.sizes.c t.book_next h.book_next;
      windows = length-take-le (2 * s.sizes.n) t.windows h.windows;
    }

pub cut-sized : {s : State} {t : Tables} → Cut s t → Sized (stored_in s t)
cut-sized c = record { parents-long = c.parents ∙ sym c.heads; rows_long = c.rows ∙ sym c.next; counts-long = c.counts ∙ sym c.next }

pub in-range : (l : Sizes) → sizes_refusal bounds l ≡ accepted → InRange l
in-range l e = sizes-facts l (ap is_accepted e)

-- ---- read through

module _ (s : State) {t : Tables} {w : List ℕ} (r : HasPlaces s.sizes t w) where
  lengths : Cut s t
  lengths = cut s t r.long

  abbrev need : ℕ
  need = work_need (length (stored_in s t).heads) (length (book_in s t).heads) (length (stored_in s t).next) (length (book_in s t).next)

  need-is : need ≡ work_for s.sizes
  need-is = let c = lengths in omega arith

  -- what is read is what the tables hold
  module _ {a : Bool} (e : a ≡ are_sound (stored_in s t) (book_in s t) (windows_in s t) s.clock) where
    held-sound : a ≡ holds_sound s t
    held-sound =
        e ∙
        ap (λ (m : ℕ). book.is_sound m (book_in s t) && windows_sound (book_in s t).heads (windows_in s t) && is_sound_for (live (register_in m s.clock (book_in s t) (windows_in s t))) (stored_in s t))
        lengths.heads

    -- unsound tables, whatever the limits
    pub read-unsound : a ≡ false → false ≡ is_sound s t
    read-unsound h = by (are_limits s.limits) (holds_sound s t) (sym held-sound ∙ h)
      where
        by : (y z : Bool) → z ≡ false → false ≡ (y && z)
        by true z q = sym q
        by false z q = refl

    -- sound ones: the limits decide
    pub read-limits : a ≡ true → {r : Bool} → r ≡ are_limits s.limits → r ≡ is_sound s t
    read-limits h {r} q = by r (are_limits s.limits) (holds_sound s t) q (sym held-sound ∙ h)
      where
        by : (r y z : Bool) → r ≡ y → z ≡ true → r ≡ (y && z)
        by r true z q p = q ∙ sym p
        by r false z q p = q

  -- the first W places are all of them
  room : 0 + work_for s.sizes ≤ length w
  room = omega (arith, r.room)

  -- the work table made ready
  module _ {x : List ℕ} (e : x ≡ made_ready w s.sizes.m) where
    front-only : OnlyIn 0 (4 * s.sizes.m + 1) w x
    front-only = rw e (cleared-only w 0 (4 * s.sizes.m + 1) (omega (arith, r.room)))

    long : length x ≡ length w
    long = front-only.same_length

    pub can-read-through : CanReadThrough (stored_in s t) (book_in s t) (windows_in s t) x
    can-read-through =
        let i : InRange s.sizes = in-range s.sizes r.sizes in
        let c : Cut s t = lengths in
        record {
          stored = cut-sized c;
          booked = c.book_rows ∙ sym c.book_next;
          windows-long = omega (arith, c.book_heads, c.windows);
          some = omega (arith, c.heads, i.m-low);
          m-bound = omega (arith, c.heads, i.m-high);
          n-bound = omega (arith, c.book_heads, i.n-high);
          f-bound = omega (arith, c.next, i.f-high);
          c-bound = omega (arith, c.book_next, i.c-high);
          long = omega (arith, need-is, r.room, long);
          front-zero =
              let z : IsZero x 0 (4 * s.sizes.m + 1) = rw e (cleared-zero w 0 (4 * s.sizes.m + 1) (omega (arith, r.room))) in
              zero-part x 0 (4 * s.sizes.m + 1) 0 (4 * length (stored_in s t).heads + 1) z (omega arith) (omega (arith, c.heads));
        }

    module _ {y : List ℕ} (o : OnlyIn 0 need x y) where
      pub read-room : 0 + work_for s.sizes ≤ length y
      read-room = omega (arith, o.same_length, long, r.room)

      -- the table cleared again is the table cleared
      pub read-clears : {n : ℕ} → n ≡ work_for s.sizes → cleared y 0 n ≡ zero_first (work_for s.sizes) w
      read-clears z =
          let W : ℕ = work_for s.sizes in
          let p : OnlyIn 0 W w x = only_wider 0 W (omega arith) (omega arith) front-only in
          let q : OnlyIn 0 W x y = subst (λ (n : ℕ). OnlyIn 0 n x y) need-is o in
          ap (λ (n : ℕ). cleared y 0 n) z ∙ cleared-unique w 0 W room (only-trans (only-trans p q) (cleared-only y 0 W read-room)) (cleared-zero y 0 W read-room) ∙ sym (first-cleared W w r.room)
