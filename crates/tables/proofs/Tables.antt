-- The tables within their sizes: long enough as facts (`Long`), and what stays so when the tails stay (`tails-long`); soundness in its two halves, what
-- it says of the booked columns (`sound-fits`) and of the stored ones against the sizes (`sound-factor`).
-- Assumes nothing.
use mathlib.Core.Path.{◌≡◌, refl, ◌∙◌, subst}
use mathlib.Core.Bool.{Bool, true, ◌&&◌}
use mathlib.Core.List.{List}
use Prim.Native.Nat.{ℕ, ◌*◌, ◌≤◌}
use native.Mathlib.Omega.{arith}
use lib.Dec.{leb}
use lib.ListN.{length}
use lib.Seq.{length-take-le}
use borrow.Author.Tests.{leb-true, le-leb}
use Rattle.lists.specs.Lists.{is_in, all}
use Rattle.lists.proofs.Tests.{and_both, both-and}
use Rattle.lists.proofs.Member.{all-at, all-make}
use Rattle.symbolic.specs.Columns.{Column, live, fits_rows}
use Rattle.symbolic.specs.Factor.{factor_of, factor_for}
use Rattle.symbolic.specs.Grades.{are_limits}
use Rattle.book.specs.Book as book
use Rattle.book.proofs.Sound.{columns-fit, columns-rows}
use Rattle.windows.specs.Windowed.{are_sound}
use Rattle.windows.proofs.Windowed.{windowed-all}
use Rattle.tables.specs.Stored.{is_sound_for, holds_from}
use Rattle.tables.specs.Tables.{Tables, Sizes, State, long_enough, stored_in, book_in, windows_in, register_of, holds_sound, is_sound}
use Rattle.tables.specs.Stays.{TailsStay}
use Rattle.tables.proofs.Stored.{sound-holds}

-- ---- long enough

pub record Long (l : Sizes) (t : Tables) : Type 0 where
  pub heads : l.m ≤ length t.heads
  pub parents : l.m ≤ length t.parents
  pub rows : l.f ≤ length t.rows
  pub counts : l.f ≤ length t.counts
  pub next : l.f ≤ length t.next
  pub book_heads : l.n ≤ length t.book_heads
  pub book_rows : l.c ≤ length t.book_rows
  pub book_next : l.c ≤ length t.book_next
  pub windows : 2 * l.n ≤ length t.windows

module _ (l : Sizes) (t : Tables) where
  pub long-facts : long_enough l t ≡ true → Long l t
  long-facts z =
      let a : Bool = leb l.m (length t.heads) in
      let b : Bool = leb l.m (length t.parents) in
      let c : Bool = leb l.f (length t.rows) in
      let d : Bool = leb l.f (length t.counts) in
      let e : Bool = leb l.f (length t.next) in
      let f : Bool = leb l.n (length t.book_heads) in
      let g : Bool = leb l.c (length t.book_rows) in
      let h : Bool = leb l.c (length t.book_next) in
      let k : Bool = leb (2 * l.n) (length t.windows) in
      let o : ((a && b && c && d && e && f && g && h) ≡ true) × (k ≡ true) = and_both (a && b && c && d && e && f && g && h) k z in
      let p : ((a && b && c && d && e && f && g) ≡ true) × (h ≡ true) = and_both (a && b && c && d && e && f && g) h o.0 in
      let q : ((a && b && c && d && e && f) ≡ true) × (g ≡ true) = and_both (a && b && c && d && e && f) g p.0 in
      let r : ((a && b && c && d && e) ≡ true) × (f ≡ true) = and_both (a && b && c && d && e) f q.0 in
      let s : ((a && b && c && d) ≡ true) × (e ≡ true) = and_both (a && b && c && d) e r.0 in
      let u : ((a && b && c) ≡ true) × (d ≡ true) = and_both (a && b && c) d s.0 in
      let v : ((a && b) ≡ true) × (c ≡ true) = and_both (a && b) c u.0 in
      let w : (a ≡ true) × (b ≡ true) = and_both a b v.0 in
      record {
        heads = leb-true l.m (length t.heads) w.0;
        parents = leb-true l.m (length t.parents) w.1;
        rows = leb-true l.f (length t.rows) v.1;
        counts = leb-true l.f (length t.counts) u.1;
        next = leb-true l.f (length t.next) s.1;
        book_heads = leb-true l.n (length t.book_heads) r.1;
        book_rows = leb-true l.c (length t.book_rows) q.1;
        book_next = leb-true l.c (length t.book_next) p.1;
        windows = leb-true (2 * l.n) (length t.windows) o.1;
      }

  pub facts-long : Long l t → long_enough l t ≡ true
  facts-long h =
      both-and (both-and (both-and (both-and (both-and (both-and (both-and (both-and (le-leb l.m (length t.heads) h.heads)
      (le-leb l.m (length t.parents) h.parents)) (le-leb l.f (length t.rows) h.rows)) (le-leb l.f (length t.counts) h.counts))
      (le-leb l.f (length t.next) h.next)) (le-leb l.n (length t.book_heads) h.book_heads))
      (le-leb l.c (length t.book_rows) h.book_rows)) (le-leb l.c (length t.book_next) h.book_next))
      (le-leb (2 * l.n) (length t.windows) h.windows)

-- tables whose lengths stay stay long enough
pub tails-long : (l : Sizes) (t u : Tables) → TailsStay l t u → long_enough l t ≡ true → long_enough l u ≡ true
tails-long l t u s z =
    let h : Long l t = long-facts l t z in
    facts-long l u (record {
      heads = omega (arith, s.heads.same_length);
      parents = omega (arith, s.parents.same_length);
      rows = omega (arith, s.rows.same_length);
      counts = omega (arith, s.counts.same_length);
      next = omega (arith, s.next.same_length);
      book_heads = omega (arith, s.book_heads.same_length);
      book_rows = omega (arith, s.book_rows.same_length);
      book_next = omega (arith, s.book_next.same_length);
      windows = omega (arith, s.windows.same_length);
    })

-- ---- sound

-- book, windows and stored columns, each sound
record SoundParts (s : State) (t : Tables) : Type 0 where
  booked : book.is_sound s.sizes.m (book_in s t) ≡ true
  windows : are_sound (book_in s t).heads (windows_in s t) ≡ true
  stored : is_sound_for (live (register_of s t)) (stored_in s t) ≡ true

module _ (s : State) (t : Tables) where
  pub sound-limits : is_sound s t ≡ true → are_limits s.limits ≡ true
  sound-limits h = (and_both (are_limits s.limits) (holds_sound s t) h).0

  sound-parts : is_sound s t ≡ true → SoundParts s t
  sound-parts h =
      let A : Bool = book.is_sound s.sizes.m (book_in s t) in
      let B : Bool = are_sound (book_in s t).heads (windows_in s t) in
      let C : Bool = is_sound_for (live (register_of s t)) (stored_in s t) in
      let p : ((A && B) ≡ true) × (C ≡ true) = and_both (A && B) C (and_both (are_limits s.limits) (holds_sound s t) h).1 in
      let q : (A ≡ true) × (B ≡ true) = and_both A B p.0 in
      record { booked = q.0; windows = q.1; stored = p.1 }

  pub sound-book : is_sound s t ≡ true → book.is_sound s.sizes.m (book_in s t) ≡ true
  sound-book h = (sound-parts h).booked

  pub sound-windows : is_sound s t ≡ true → are_sound (book_in s t).heads (windows_in s t) ≡ true
  sound-windows h = (sound-parts h).windows

  pub sound-stored : is_sound s t ≡ true → is_sound_for (live (register_of s t)) (stored_in s t) ≡ true
  sound-stored h = (sound-parts h).stored

  -- every booked column has 1 to 256 rows, rising, within 1 to m
  pub sound-fits : is_sound s t ≡ true → all (book.column_fits s.sizes.m) (register_of s t).columns ≡ true
  sound-fits h =
      windowed-all (windows_in s t) (length (book_in s t).heads) (book.column_fits s.sizes.m) (λ c a b. refl) (book.columns_in (book_in s t)) ∙
      columns-fit s.sizes.m (book_in s t) (sound-book h)

  -- so its rows rise within 1 to m
  pub sound-rows : is_sound s t ≡ true → all (fits_rows s.sizes.m) (register_of s t).columns ≡ true
  sound-rows h =
      windowed-all (windows_in s t) (length (book_in s t).heads) (fits_rows s.sizes.m) (λ c a b. refl) (book.columns_in (book_in s t)) ∙
      columns-rows s.sizes.m (book_in s t) (sound-book h)

  pub stored-rows : long_enough s.sizes t ≡ true → length (stored_in s t).heads ≡ s.sizes.m
  stored-rows z = length-take-le s.sizes.m t.heads (long-facts s.sizes t z).heads

  -- "the factor equals the definition above for the live columns"
  pub sound-factor : long_enough s.sizes t ≡ true → is_sound s t ≡ true → holds_from (stored_in s t) (factor_for (register_of s t)) 1 s.sizes.m ≡ true
  sound-factor z h =
      subst (λ (n : ℕ). holds_from (stored_in s t) (factor_of n (live (register_of s t))) 1 n ≡ true) (stored-rows z)
      (sound-holds (live (register_of s t)) (stored_in s t) (sound-stored h))

-- a column that fits has rows within 1 to m, rising
pub fits-rows : (m : ℕ) (cs : List Column) → all (book.column_fits m) cs ≡ true → all (fits_rows m) cs ≡ true
fits-rows m cs h = all-make (fits_rows m) cs (λ c k. (and_both (fits_rows m c) (is_in 1 256 (length c.rows)) (all-at (book.column_fits m) k h)).0)
