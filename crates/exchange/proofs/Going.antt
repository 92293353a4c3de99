-- What groups ask of tables, book and work table, still there after some of them (`go_on`), and of columns that are some of a list (`some_fit`). Assumes nothing.
use mathlib.Core.Path.{◌≡◌, sym, ap, subst}
use mathlib.Core.Logic.{inl, inr}
use mathlib.Core.Bool.{Bool, true}
use mathlib.Core.List.{List}
use Prim.Native.Nat.{ℕ, ◌+◌, ◌*◌, ◌≤◌}
use native.Mathlib.Omega.{arith}
use lib.ListN.{length}
use Rattle.lists.specs.Lists.{Mem, all}
use Rattle.lists.proofs.Member.{all-at, all-make}
use Rattle.symbolic.specs.Columns.{Column, fits_rows}
use Rattle.workspace.specs.Regions.{IsZero, OnlyIn}
use Rattle.workspace.specs.Layout.{flags_at, flag_count, gather_at}
use Rattle.workspace.proofs.Regions.{only_zero}
use Rattle.book.specs.Book as book
use Rattle.tables.specs.Stored.{Stored}
use Rattle.exchange.specs.Stages.{CanGo, Moved}

module _ {s : Stored} {b : book.Book} {work : List ℕ} (g : CanGo s b work) (room : length s.heads ≤ length s.next) where
  pub go_on : {R : List Column} {t : ℕ → Bool} {cs : List Column} {now : Stored} {work' : List ℕ} →
      Moved (length s.heads) (length s.next) R s t cs now work work' → CanGo now b work'
  go_on {now = now} {work'} v =
      let m : ℕ = length s.heads in
      let f : ℕ = length s.next in
      let wide : length now.heads ≡ m = ap length v.heads in
      let long : length now.next ≡ f = v.long in
      let o : OnlyIn (gather_at m f) m work work' = v.gathers.only in
      let z : IsZero work' 0 (8 * m + f) = only_zero o 0 (8 * m + f) (inr (omega arith)) g.zero in
      let flags : 8 * m + 4 * f ≡ flags_at (length now.heads) (length now.next) = omega arith in
      record {
        sized = v.sized;
        book-sized = g.book-sized;
        book-free = g.book-free;
        book-sound =
            subst (λ (n : ℕ). book.is_sound n (book.book_of b.heads b.rows b.next g.book-free) ≡ true) (sym wide) g.book-sound;
        some = omega (arith, g.some);
        m-bound = omega (arith, g.m-bound);
        f-bound = omega (arith, g.f-bound);
        long = omega (arith, g.long, o.same_length);
        zero = λ i h. z i (omega arith);
        flags-zero = subst (λ (p : ℕ). IsZero work' p flag_count) flags (only_zero o (8 * m + 4 * f) flag_count (inl (omega arith)) g.flags-zero);
      }

-- columns that are all among columns whose rows fit
pub some_fit : {m n : ℕ} (cs ds : List Column) → ((c : Column) → Mem c ds → Mem c cs) → n ≡ m → all (fits_rows m) cs ≡ true → all (fits_rows n) ds ≡ true
some_fit {m} {n} cs ds h e k = subst (λ (l : ℕ). all (fits_rows l) ds ≡ true) (sym e) (all-make (fits_rows m) ds (λ c i. all-at (fits_rows m) (h c i) k))
