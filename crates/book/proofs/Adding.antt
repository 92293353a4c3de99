-- A column added: the rows written along the front of the free chain, the chain cut after them, the head set.
-- What the steps ask (add-write, add-has), and from the raw updates of the tables to the promise Added (added).
-- Assumes nothing.
use mathlib.Core.Path.{◌≡◌, sym, ap, subst, ◌∙◌}
use mathlib.Core.Logic.{inl, inr, ◌≢◌}
use mathlib.Core.Bool.{true}
use mathlib.Core.List.{List, [], ◌∷◌, ◌++◌}
use Prim.Native.Nat.{ℕ, ◌+◌, ◌≤◌}
use native.Mathlib.Omega.{arith}
use lib.ListN.{length, take}
use Rattle.lists.specs.Lists.{at, put, times, values_at}
use Rattle.lists.proofs.Tests.{eq-or-ne}
use Rattle.lists.proofs.Times.{times-mid, times-append, UpTo}
use Rattle.lists.proofs.Place.{put-length}
use Rattle.lists.proofs.Rising.{rises-high}
use Rattle.symbolic.specs.Columns.{Column, column_with}
use Rattle.pool.specs.Chains.{chain, Linked}
use Rattle.pool.specs.Changes.{Has, Changed}
use Rattle.pool.proofs.Chains.{After, linked-after, linked-in, linked-once, linked-some}
use Rattle.pool.proofs.Changes.{changed-cut, PoolAfter, pool-changed}
use Rattle.book.specs.Book.{book_of, is_booked, column_for, column_fits, is_sound, ColumnStays}
use Rattle.book.specs.Records.{CanWrite, RowsWritten}
use Rattle.book.specs.Entries.{CanAdd, Added}
use Rattle.book.proofs.Columns.{absent-zero, some-booked, booked-within}
use Rattle.book.proofs.Sound.{Sound, sound-of, of-sound, Fitting, fitting}
use Rattle.book.proofs.Writing.{put-all-length, put-all-other, put-all-values}
use Rattle.book.proofs.Staying.{Cut, cut_at, column-stays, stays-column, stays-booked}

module _ {hs xs ns : List ℕ} {f id : ℕ} {list : List ℕ} (q : CanAdd (book_of hs xs ns f) id list) where
  before : Sound q.has.m (book_of hs xs ns f)
  before = sound-of q.has.m (book_of hs xs ns f) q.has.sound

  fit : Fitting q.has.m list
  fit = fitting q.has.m (column_with id list) q.fits

  free-linked : Linked ns f (chain ns f)
  free-linked = before.pool.unused

  free-within : UpTo (length xs) (chain ns f)
  free-within x n = let t : (1 ≤ x) × (x ≤ length ns) = linked-in ns f (chain ns f) free-linked x n in omega (arith, q.has.sized)

  -- ---- what the steps ask

  pub add-write : CanWrite xs ns list f
  add-write =
      record {
        has = record { sized = q.has.sized; linked = free-linked };
        some = fit.some;
        room = q.room;
        narrow = λ i. omega (arith, rises-high 1 q.has.m list fit.rise i, q.narrow);
      }

  module _ {ys : List ℕ} {p : ℕ} (w : RowsWritten xs ys ns list f p) where
    cut : Cut (chain ns f) (length list) p
    cut = cut_at (chain ns f) (length list) p fit.some q.room w.last-is

    cut-linked : Linked ns f (cut.before ++ (p ∷ cut.rest))
    cut-linked = subst (λ (l : List ℕ). Linked ns f l) cut.parts free-linked

    pub add-has : Has ns p
    add-has = let t : After ns p cut.rest = linked-after ns f cut.before p cut.rest cut-linked in record { low = t.low; high = t.high }

    -- ---- the tables after

    changed : Changed ns (put ns p 0) (at hs id) f f (at ns p) (cut.before ++ (p ∷ [])) cut.rest
    changed =
        subst (λ (h : ℕ). Changed ns (put ns p 0) h f f (at ns p) (cut.before ++ (p ∷ [])) cut.rest) (sym (absent-zero hs id q.absent))
        (changed-cut ns f cut.before p cut.rest cut-linked)

    pool-after : PoolAfter ns hs f id (put ns p 0) f (at ns p) (cut.before ++ (p ∷ [])) cut.rest
    pool-after = pool-changed before.pool id q.has.low q.has.high changed

    -- how often in the chain, in its first records, and in the rest
    shared : (x : ℕ) → times x (chain ns f) ≡ times x (take (length list) (chain ns f)) + times x cut.rest
    shared x = omega (arith, ap (times x) cut.parts, ap (times x) cut.taken, times-mid x cut.before p cut.rest, times-append x cut.before (p ∷ []))

    rows_other : (x : ℕ) → 1 ≤ x → times x (take (length list) (chain ns f)) ≡ 0 → at ys x ≡ at xs x
    rows_other x low n = ap (λ (l : List ℕ). at l x) w.rows_are ∙ put-all-other xs (chain ns f) list x free-within low n

    column-after : values_at ys (chain (put ns p 0) (at (put hs id f) id)) ≡ list
    column-after =
        ap (λ (h : ℕ). values_at ys (chain (put ns p 0) h)) pool-after.head-is ∙ ap (values_at ys) (pool-after.chain-is ∙ sym cut.taken) ∙
        ap (λ (l : List ℕ). values_at l (take (length list) (chain ns f))) w.rows_are ∙
        put-all-values xs (chain ns f) list free-within (linked-once ns f (chain ns f) free-linked) q.room

    others-after : (l : ℕ) → 1 ≤ l → l ≤ length hs → l ≢ id → ColumnStays (book_of hs xs ns f) (book_of (put hs id f) ys (put ns p 0) (at ns p)) l
    others-after = column-stays before.pool pool-after xs ys (λ x low n. rows_other x low (omega (arith, shared x)))

    column-is : column_for (book_of (put hs id f) ys (put ns p 0) (at ns p)) id ≡ column_with id list
    column-is = ap {B = Column} (λ rows. column_with id rows) column-after

    sound-after : (m : ℕ) → is_sound m (book_of hs xs ns f) ≡ true → column_fits m (column_with id list) ≡ true → is_sound m (book_of (put hs id f) ys (put ns p 0) (at ns p)) ≡ true
    sound-after m e fits =
        let s : Sound m (book_of hs xs ns f) = sound-of m (book_of hs xs ns f) e in
        of-sound m (book_of (put hs id f) ys (put ns p 0) (at ns p))
        (record {
          pool = pool-after.pool;
          zero = λ x n.
              let k : 1 ≤ times x cut.rest = omega (arith, ap (times x) pool-after.free-is) in
              let o : times x (chain ns f) ≤ 1 = linked-once ns f (chain ns f) free-linked x in
              rows_other x (linked-in ns f (chain ns f) free-linked x (omega (arith, shared x))).0 (omega (arith, shared x)) ∙ s.zero x (omega (arith, shared x));
          fits = λ l low k.
              elim (eq-or-ne l id) [
                | inl z ↦ rw z (subst (λ (c : Column). column_fits m c ≡ true) (sym column-is) fits)
                | inr z ↦
                    let o : ColumnStays (book_of hs xs ns f) (book_of (put hs id f) ys (put ns p 0) (at ns p)) l = others-after l low (omega (arith, in-heads l low k)) z in
                    subst (λ (c : Column). column_fits m c ≡ true) (sym (stays-column o)) (s.fits l low (sym (stays-booked o) ∙ k))
              ];
        })
      where
        in-heads : (l : ℕ) → 1 ≤ l → is_booked (put hs id f) l ≡ true → l ≤ length hs
        in-heads l low k = omega (arith, booked-within (put hs id f) l low k, put-length hs id f)

    pub added : {ms : List ℕ} {g : ℕ} → ms ≡ put ns p 0 → g ≡ at ns p → Added (book_of hs xs ns f) id list (book_of (put hs id f) ys ms g)
    added {ms} {g} e d =
        rw (e, d)
        (record {
          sized = ap length w.rows_are ∙ put-all-length xs (chain ns f) list ∙ q.has.sized ∙ sym (put-length ns p 0);
          same-heads = put-length hs id f;
          same-records = put-length ns p 0;
          sound = sound-after;
          booked = some-booked (put hs id f) id (λ z. linked-some ns f (chain ns f) (omega (arith, fit.some, q.room)) free-linked (sym pool-after.head-is ∙ z));
          column = column-is;
          others = others-after;
        })
