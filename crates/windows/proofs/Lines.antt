-- The booked columns with their windows after a batch entered (`entered-lines`) or left (`left-lines`). Assumes nothing.
use mathlib.Core.Path.{◌≡◌, sym, ap, ◌∙◌, subst}
use mathlib.Core.Logic.{inl, inr}
use mathlib.Core.Bool.{true, false, true≢false}
use mathlib.Core.List.{List, [], ◌∷◌, ◌++◌}
use Prim.Native.Nat.{ℕ, ◌+◌, ◌<◌}
use native.Mathlib.Omega.{arith}
use lib.ListN.{length, get_or}
use Rattle.lists.specs.Lists.{Mem, first, later, at, among, no_repeats, sum_of}
use Rattle.lists.proofs.Tests.{cases, refute}
use Rattle.lists.proofs.Member.{among-mem, mem-place}
use Rattle.symbolic.specs.Columns.{Column, with_minutes}
use Rattle.symbolic.specs.Change.{ids_of, without, Bag}
use Rattle.book.specs.Book.{Book, is_booked, columns_in}
use Rattle.book.proofs.Columns.{Booked, columns-mem}
use Rattle.windows.specs.Windowed.{windowed, lines_in, entered, left, HasIds}
use Rattle.windows.proofs.Windowed.{windowed-append, windowed-bag, windowed-without, windowed-same}
use Rattle.windows.proofs.Written.{Has, entered-others, entered-batch, left-others}

-- a booked id is none of ids that are not booked
pub booked-apart : (hs ids : List ℕ) → ((k : ℕ) → k < length ids → is_booked hs (get_or ids k 0) ≡ false) → (l : ℕ) → is_booked hs l ≡ true → among l ids ≡ false
booked-apart hs ids f l e =
    refute (among l ids) (λ z.
    let t : (k : ℕ) × (k < length ids) × (get_or ids k 0 ≡ l) = mem-place 0 (among-mem l ids z) in
    true≢false (sym e ∙ subst (λ (i : ℕ). is_booked hs i ≡ false) t.2 (f t.0 t.1)))

-- a batch of different ids that are not booked enters the book and the table
pub entered-lines : (b after : Book) (w ids ps qs : List ℕ) (cs : List Column) → length after.heads ≡ length b.heads →
    Bag (columns_in after) (columns_in b ++ cs) → ids_of cs ≡ ids → no_repeats ids ≡ true → ((k : ℕ) → k < length ids → is_booked b.heads (get_or ids k 0) ≡ false) →
    HasIds w (length b.heads) ids → Bag (lines_in after (entered w (length b.heads) ids ps qs)) (lines_in b w ++ with_minutes ps qs cs)
entered-lines b after w ids ps qs cs long bag named d absent h f =
    let n : ℕ = length b.heads in
    let W : List ℕ = entered w n ids ps qs in
    let old : windowed W n (columns_in b) ≡ lines_in b w =
    windowed-same w W n (columns_in b) (λ c m.
    let t : Booked b 1 n c = columns-mem b m in
    let e : c.id ≡ t.id = ap (λ (c : Column). c.id) t.is in
    subst (λ (l : ℕ). Has W n l (at w l) (at w (n + l))) (sym e)
    (entered-others w n ids ps qs h t.id t.low (omega (arith, t.high)) (booked-apart b.heads ids absent t.id t.booked))) in
    let parts : windowed W n (columns_in b ++ cs) ≡ lines_in b w ++ with_minutes ps qs cs =
    windowed-append W n (columns_in b) cs ∙ ap (λ (es : List Column). es ++ windowed W n cs) old ∙
    ap (λ (es : List Column). lines_in b w ++ es) (entered-batch w n ids ps qs cs named d h) in
    ap (λ (k : ℕ). sum_of f (windowed W k (columns_in after))) long ∙ windowed-bag W n (columns_in after) (columns_in b ++ cs) bag f ∙
    ap (λ (es : List Column). sum_of f es) parts

-- a column that stays is one of those before, and its id is none of those that leave
without-mem : (ids : List ℕ) (cs : List Column) {c : Column} → Mem c (without ids cs) → Mem c cs × (among c.id ids ≡ false)
unfolding without
without-mem ids [] m = elim m [ ]
without-mem ids (d ∷ cs) {c} m =
    elim (cases (among d.id ids)) [
      | inl e ↦
          let t : Mem c cs × (among c.id ids ≡ false) = without-mem ids cs (rw e at m) in (later t.0, t.1)
      | inr e ↦ here c e (rw e at m) (without-mem ids cs)
    ]
  where
    here : (c : Column) → among d.id ids ≡ false → Mem c (d ∷ without ids cs) → (Mem c (without ids cs) → Mem c cs × (among c.id ids ≡ false)) →
        Mem c (d ∷ cs) × (among c.id ids ≡ false)
    here c e first f = (first, e)
    here c e (later k) f = (later (f k).0, (f k).1)

-- ids leave the book and the table
pub left-lines : (b after : Book) (w ids : List ℕ) → length after.heads ≡ length b.heads → columns_in after ≡ without ids (columns_in b) →
    HasIds w (length b.heads) ids → lines_in after (left w (length b.heads) ids) ≡ without ids (lines_in b w)
left-lines b after w ids long columns h =
    let n : ℕ = length b.heads in
    let W : List ℕ = left w n ids in
    let stay : windowed W n (without ids (columns_in b)) ≡ windowed w n (without ids (columns_in b)) =
    windowed-same w W n (without ids (columns_in b)) (λ c m.
    let u : Mem c (columns_in b) × (among c.id ids ≡ false) = without-mem ids (columns_in b) m in
    let t : Booked b 1 n c = columns-mem b u.0 in
    let e : c.id ≡ t.id = ap (λ (c : Column). c.id) t.is in
    left-others w n ids h c.id (omega (arith, t.low)) (omega (arith, t.high)) u.1) in
    ap (λ (k : ℕ). windowed W k (columns_in after)) long ∙ ap (windowed W n) columns ∙ stay ∙ windowed-without w n ids (columns_in b)
