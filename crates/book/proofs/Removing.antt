-- A column removed: its rows cleared along its chain, the chain joined on before the free chain, the head 0.
-- What the steps ask (remove-clear, remove-has), and from the raw updates of the tables to the promise Removed (removed).
-- Assumes nothing.
use mathlib.Core.Path.{◌≡◌, sym, ap, subst, ◌∙◌}
use mathlib.Core.Logic.{inl, inr, ◌≢◌}
use mathlib.Core.Bool.{true, false, true≢false}
use mathlib.Core.List.{List, [], ◌∷◌, ◌++◌}
use Prim.Native.Nat.{ℕ, ◌+◌, ◌≤◌}
use native.Mathlib.Omega.{arith}
use lib.ListN.{length}
use lib.Seq.{take-length}
use Rattle.lists.specs.Lists.{at, put, times}
use Rattle.lists.proofs.Tests.{eq-or-ne, zero-or-pos}
use Rattle.lists.proofs.Times.{times-mid, times-append, UpTo}
use Rattle.lists.proofs.Place.{put-length, values_length}
use Rattle.symbolic.specs.Columns.{Column}
use Rattle.pool.specs.Chains.{chain, Linked}
use Rattle.pool.specs.Changes.{Has, Beside}
use Rattle.pool.proofs.Chains.{After, linked-after, linked-in}
use Rattle.pool.proofs.Whole.{pool-linked}
use Rattle.pool.proofs.Changes.{changed-join, pool-beside, PoolAfter, pool-changed}
use Rattle.book.specs.Book.{book_of, is_booked, column_for, column_fits, is_sound, ColumnStays}
use Rattle.book.specs.Records.{HasChain, Cleared}
use Rattle.book.specs.Entries.{CanRemove, Removed}
use Rattle.book.proofs.Columns.{zero-absent, booked-some, booked-within}
use Rattle.book.proofs.Sound.{Sound, sound-of, of-sound, fitting}
use Rattle.book.proofs.Writing.{clear-length, clear-other, clear_zero}
use Rattle.book.proofs.Staying.{Cut, cut_at, column-stays, stays-column, stays-booked}

module _ {hs xs ns : List ℕ} {f id : ℕ} (q : CanRemove (book_of hs xs ns f) id) where
  before : Sound q.has.m (book_of hs xs ns f)
  before = sound-of q.has.m (book_of hs xs ns f) q.has.sound

  own-linked : Linked ns (at hs id) (chain ns (at hs id))
  own-linked = pool-linked before.pool id q.has.low q.has.high

  own-within : UpTo (length xs) (chain ns (at hs id))
  own-within x n = let t : (1 ≤ x) × (x ≤ length ns) = linked-in ns (at hs id) (chain ns (at hs id)) own-linked x n in omega (arith, q.has.sized)

  own-some : 1 ≤ length (chain ns (at hs id))
  own-some =
      omega (arith, (fitting q.has.m (column_for (book_of hs xs ns f) id) (before.fits id q.has.low q.present)).some, values_length xs (chain ns (at hs id)))

  -- ---- what the steps ask

  pub remove-clear : HasChain xs ns (at hs id) × (at hs id ≢ 0)
  remove-clear = (record { sized = q.has.sized; linked = own-linked }, booked-some hs id q.present)

  module _ {ys : List ℕ} {p : ℕ} (w : Cleared xs ys ns (at hs id) p) where
    cut : Cut (chain ns (at hs id)) (length (chain ns (at hs id))) p
    cut = cut_at (chain ns (at hs id)) (length (chain ns (at hs id))) p own-some (omega arith) w.last-is

    -- p is the last
    own-parts : chain ns (at hs id) ≡ cut.before ++ (p ∷ [])
    own-parts = sym (take-length (chain ns (at hs id))) ∙ cut.taken

    beside : Beside ns (at hs id) f (cut.before ++ (p ∷ [])) (chain ns f)
    beside = subst (λ (l : List ℕ). Beside ns (at hs id) f l (chain ns f)) own-parts (pool-beside before.pool id q.has.low q.has.high)

    pub remove-has : Has ns p
    remove-has = let t : After ns p [] = linked-after ns (at hs id) cut.before p [] beside.linked in record { low = t.low; high = t.high }

    -- ---- the tables after

    pool-after : PoolAfter ns hs f id (put ns p f) 0 (at hs id) [] (cut.before ++ (p ∷ chain ns f))
    pool-after = pool-changed before.pool id q.has.low q.has.high (changed-join cut.before p (chain ns f) beside)

    -- how often in the free chain after
    joined : (x : ℕ) → times x (chain (put ns p f) (at hs id)) ≡ times x (chain ns (at hs id)) + times x (chain ns f)
    joined x =
        omega (arith, ap (times x) pool-after.free-is, ap (times x) own-parts, times-mid x cut.before p (chain ns f), times-append x cut.before (p ∷ []))

    rows_other : (x : ℕ) → 1 ≤ x → times x (chain ns (at hs id)) ≡ 0 → at ys x ≡ at xs x
    rows_other x low n = ap (λ (l : List ℕ). at l x) w.rows_are ∙ clear-other xs (chain ns (at hs id)) x own-within low n

    rows-cleared : (x : ℕ) → 1 ≤ times x (chain ns (at hs id)) → at ys x ≡ 0
    rows-cleared x n = ap (λ (l : List ℕ). at l x) w.rows_are ∙ clear_zero xs (chain ns (at hs id)) x own-within n

    others-after : (l : ℕ) → 1 ≤ l → l ≤ length hs → l ≢ id → ColumnStays (book_of hs xs ns f) (book_of (put hs id 0) ys (put ns p f) (at hs id)) l
    others-after = column-stays before.pool pool-after xs ys (λ x low n. rows_other x low (omega arith))

    absent-after : is_booked (put hs id 0) id ≡ false
    absent-after = zero-absent (put hs id 0) id pool-after.head-is

    sound-after : (m : ℕ) → is_sound m (book_of hs xs ns f) ≡ true → is_sound m (book_of (put hs id 0) ys (put ns p f) (at hs id)) ≡ true
    sound-after m e =
        let s : Sound m (book_of hs xs ns f) = sound-of m (book_of hs xs ns f) e in
        of-sound m (book_of (put hs id 0) ys (put ns p f) (at hs id))
        (record {
          pool = pool-after.pool;
          zero = λ x n.
              elim (zero-or-pos (times x (chain ns (at hs id)))) [
                | inr k ↦ rows-cleared x k
                | inl k ↦
                    let r : 1 ≤ times x (chain ns f) = omega (arith, joined x) in
                    rows_other x (linked-in ns f (chain ns f) s.pool.unused x r).0 k ∙ s.zero x r
              ];
          fits = λ l low k.
              elim (eq-or-ne l id) [
                | inl z ↦ absurd (true≢false (sym k ∙ ap (is_booked (put hs id 0)) z ∙ absent-after))
                | inr z ↦
                    let o : ColumnStays (book_of hs xs ns f) (book_of (put hs id 0) ys (put ns p f) (at hs id)) l = others-after l low (omega (arith, in-heads l low k)) z in
                    subst (λ (c : Column). column_fits m c ≡ true) (sym (stays-column o)) (s.fits l low (sym (stays-booked o) ∙ k))
              ];
        })
      where
        in-heads : (l : ℕ) → 1 ≤ l → is_booked (put hs id 0) l ≡ true → l ≤ length hs
        in-heads l low k = omega (arith, booked-within (put hs id 0) l low k, put-length hs id 0)

    pub removed : {ms : List ℕ} → ms ≡ put ns p f → Removed (book_of hs xs ns f) id (book_of (put hs id 0) ys ms (at hs id))
    removed {ms} e =
        rw e
        (record {
          sized = ap length w.rows_are ∙ clear-length xs (chain ns (at hs id)) ∙ q.has.sized ∙ sym (put-length ns p f);
          same-heads = put-length hs id 0;
          same-records = put-length ns p f;
          sound = sound-after;
          absent = absent-after;
          others = others-after;
        })
