-- The columns that a sound book has under some ids: the rows of one that counts (`booked-rows`), copied into the buffer (`booked-copy`, `booked-gathered`), the
-- loop over them. Assumes nothing.
use mathlib.Core.Path.{◌≡◌, refl, sym, ap, ◌∙◌, subst}
use mathlib.Core.Logic.{inl, inr, ◌≢◌}
use mathlib.Core.Bool.{Bool, true}
use mathlib.Core.List.{List, [], ◌∷◌, ◌++◌}
use Prim.Native.Nat.{ℕ, zero, suc, ◌+◌, ◌-◌, ◌*◌, ◌≤◌, ◌<◌}
use native.Mathlib.Omega.{arith}
use lib.ListN.{length, get_or, take, drop, length-drop, length-append, get_or-append}
use lib.Seq.{ext_get_or, get_or-take, get_or-drop, get_or-append-add, length-take-le}
use lib.Dec.{eqb}
use borrow.Author.Tests.{ne_eqb}
use Rattle.lists.specs.Lists.{pick, at, among, rises, values_at, over}
use Rattle.lists.proofs.Rising.{rises-length}
use Rattle.symbolic.specs.Columns.{Column, smallest, holds}
use Rattle.workspace.specs.Regions.{cell, region, IsZero}
use Rattle.workspace.proofs.Regions.{region-cell, region-length}
use Rattle.pool.specs.Chains.{chain}
use Rattle.book.specs.Book as book
use Rattle.book.specs.Entries.{CanCopy}
use Rattle.differences.specs.Gather.{Gathered}
use Rattle.differences.specs.Count.{Counted}
use Rattle.updown.specs.Entries.{Booked, BookedFrom}
use Rattle.updown.proofs.Brought.{Steady}
use Rattle.updown.specs.Starts.{CanStart, BookHolds}
use Rattle.updown.proofs.Gathering.{bumps}
use Rattle.updown.proofs.Listing.{none, Fits, fits-at, Counting, counting-steady, counting-here, counting-past}

pub booked-length : (b : book.Book) (ids : List ℕ) (W : List Column) → Booked b ids W → length W ≡ length ids
unfolding Booked
booked-length b [] [] h = refl
booked-length b [] (w ∷ ws) h = absurd h
booked-length b (i ∷ is) [] h = absurd h
booked-length b (i ∷ is) (w ∷ ws) h = ap suc (booked-length b is ws h.3)

from-length : (b : book.Book) (starts ids : List ℕ) (W : List Column) → BookedFrom b starts ids W → (length W ≡ length ids) × (length starts ≡ length ids)
unfolding BookedFrom
from-length b [] [] [] h = (refl, refl)
from-length b [] [] (w ∷ ws) h = absurd h
from-length b [] (i ∷ is) ws h = absurd h
from-length b (r ∷ rs) [] ws h = absurd h
from-length b (r ∷ rs) (i ∷ is) [] h = absurd h
from-length b (r ∷ rs) (i ∷ is) (w ∷ ws) h = let e = from-length b rs is ws h.4 in (ap suc e.0, ap suc e.1)

booked-at : (b : book.Book) (starts ids : List ℕ) (W : List Column) (k : ℕ) → BookedFrom b starts ids W → k < length W →
    ((get_or W k none).rows ≡ pick (eqb (get_or starts k 0) 0) [] (book.column_for b (get_or ids k 0)).rows) × (get_or starts k 0 ≡ smallest (get_or W k none)) ×
    (1 ≤ get_or ids k 0) × (get_or ids k 0 ≤ length b.heads)
unfolding BookedFrom
booked-at b rs is [] k h l = absurd (omega arith)
booked-at b [] [] (w ∷ ws) k h l = absurd h
booked-at b [] (i ∷ is) (w ∷ ws) k h l = absurd h
booked-at b (r ∷ rs) [] (w ∷ ws) k h l = absurd h
booked-at b (r ∷ rs) (i ∷ is) (w ∷ ws) zero h l = (h.0, sym h.1, h.2, h.3)
booked-at b (r ∷ rs) (i ∷ is) (w ∷ ws) (suc k) h l = booked-at b rs is ws k h.4 (omega arith)

-- a batch that is booked starts where the list of starts says
pub booked-starts : (b : book.Book) (starts ids : List ℕ) (W : List Column) → BookedFrom b starts ids W →
    (length W ≡ length starts) × ((k : ℕ) → k < length W → get_or starts k 0 ≡ smallest (get_or W k none))
booked-starts b starts ids W h =
    let e = from-length b starts ids W h in (e.0 ∙ sym e.1, λ k l. (booked-at b starts ids W k h l).1)

module _ {heads rows next starts ids : List ℕ} {m : ℕ} {W : List Column} (h : BookHolds heads rows next starts ids m W) where
  pub booked-size : (length W ≡ length ids) × (length starts ≡ length ids)
  booked-size = from-length (book.tables_of heads rows next) starts ids W h.booked

  module _ (k : ℕ) (l : k < length ids) where
    abbrev id : ℕ
    id = get_or ids k 0

    entry : ((get_or W k none).rows ≡ pick (eqb (get_or starts k 0) 0) [] (values_at rows (chain next (at heads id)))) × (get_or starts k 0 ≡ smallest (get_or W k none)) × (1 ≤ id) × (id ≤ length heads)
    entry = booked-at (book.tables_of heads rows next) starts ids W k h.booked (omega (arith, booked-size))

    booked-fits : Fits m (get_or W k none)
    booked-fits = fits-at m W h.fits k (omega (arith, booked-size))

    booked-first : get_or starts k 0 ≡ smallest (get_or W k none)
    booked-first = entry.1

    -- it counts rows: those of the book
    module _ (n : get_or starts k 0 ≢ 0) where
      booked-rows : (get_or W k none).rows ≡ values_at rows (chain next (at heads id))
      booked-rows = entry.0 ∙ ap (λ (z : Bool). pick z [] (values_at rows (chain next (at heads id)))) (ne_eqb (get_or starts k 0) 0 n)

      booked-rise : rises 1 m (values_at rows (chain next (at heads id))) ≡ true
      booked-rise = sym (ap (rises 1 m) booked-rows) ∙ booked-fits.rising

      booked-short : length (values_at rows (chain next (at heads id))) ≤ m
      booked-short = omega (arith, rises-length 1 m (values_at rows (chain next (at heads id))) (omega arith) booked-rise)

      booked-copy : (room : ℕ) → room ≡ m → CanCopy heads rows next id room
      booked-copy room e =
          record {
            free = h.free;
            has = record { m = m; sized = h.sized; sound = h.sound; low = entry.2; high = entry.3 };
            fits = omega (arith, booked-short);
          }

-- ---- a list written over the front of the empty buffer

module _ (m : ℕ) (w rows ys : List ℕ) (l : 3 * m ≤ length w) (z : IsZero w (2 * m) m) (short : length rows ≤ m) (e : ys ≡ over rows (take (3 * m - 2 * m) (drop (2 * m) w))) where
  abbrev mid : List ℕ
  mid = take (3 * m - 2 * m) (drop (2 * m) w)

  abbrev back : List ℕ
  back = ys ++ drop (3 * m - 2 * m) (drop (2 * m) w)

  abbrev put : List ℕ
  put = take (2 * m) w ++ back

  mid-length : length mid ≡ m
  mid-length = omega (arith, length-take-le (3 * m - 2 * m) (drop (2 * m) w) (omega (arith, length-drop (2 * m) w)))

  ys-length : length ys ≡ m
  ys-length = ap length e ∙ length-append rows (drop (length rows) mid) ∙ omega (arith, length-drop (length rows) mid, mid-length)

  front_length : length (take (2 * m) w) ≡ 2 * m
  front_length = length-take-le (2 * m) w (omega arith)

  past : (i : ℕ) → get_or put (2 * m + i) 0 ≡ get_or back i 0
  past i = subst (λ (x : ℕ). get_or put (x + i) 0 ≡ get_or back i 0) front_length (get_or-append-add (take (2 * m) w) back i 0)

  put-length : length put ≡ length w
  put-length =
      length-append (take (2 * m) w) back ∙
      omega (arith, front_length, length-append ys (drop (3 * m - 2 * m) (drop (2 * m) w)), ys-length, length-drop (3 * m - 2 * m) (drop (2 * m) w), length-drop (2 * m) w)

  within : (i : ℕ) → i < m → cell put (2 * m) i ≡ get_or ys i 0
  within i x = past i ∙ get_or-append ys (drop (3 * m - 2 * m) (drop (2 * m) w)) 0 i (omega (arith, ys-length))

  beyond-rows : (i : ℕ) → length rows ≤ i → i < m → get_or ys i 0 ≡ 0
  beyond-rows i x y =
      let q : length rows + (i - length rows) ≡ i = omega arith in
      ap (λ (v : List ℕ). get_or v i 0) e ∙ sym (ap (λ (v : ℕ). get_or (over rows mid) v 0) q) ∙ get_or-append-add rows (drop (length rows) mid) (i - length rows) 0 ∙
      get_or-drop (length rows) mid (i - length rows) 0 ∙ ap (λ (v : ℕ). get_or mid v 0) q ∙ get_or-take (3 * m - 2 * m) (drop (2 * m) w) i 0 (omega arith) ∙ get_or-drop (2 * m) w i 0 ∙ z i y

  front_same : (k : ℕ) → k < 2 * m → get_or put k 0 ≡ get_or w k 0
  front_same k x = get_or-append (take (2 * m) w) back 0 k (omega (arith, front_length)) ∙ get_or-take (2 * m) w k 0 x

  back-same : (k : ℕ) → 3 * m ≤ k → get_or put k 0 ≡ get_or w k 0
  back-same k x =
      let t : ℕ = k - 3 * m in
      let a : 2 * m + (m + t) ≡ k = omega arith in
      let b : 2 * m + (3 * m - 2 * m + t) ≡ k = omega arith in
      sym (ap (λ (v : ℕ). get_or put v 0) a) ∙ past (m + t) ∙ sym (ap (λ (v : ℕ). get_or back (v + t) 0) ys-length) ∙
      get_or-append-add ys (drop (3 * m - 2 * m) (drop (2 * m) w)) t 0 ∙ get_or-drop (3 * m - 2 * m) (drop (2 * m) w) t 0 ∙ get_or-drop (2 * m) w (3 * m - 2 * m + t) 0 ∙
      ap (λ (v : ℕ). get_or w v 0) b

  pub put-gathered : rises 1 m rows ≡ true → Gathered m w put (length rows) (λ i. among i rows)
  put-gathered r =
      let e₁ : region put (2 * m) (length rows) ≡ rows =
      ext_get_or 0 (region put (2 * m) (length rows)) rows (region-length put (2 * m) (length rows) (omega (arith, put-length)))
      (λ i x.
      let y : i < length rows = omega (arith, region-length put (2 * m) (length rows) (omega (arith, put-length))) in
      region-cell put (2 * m) (length rows) i y ∙ within i (omega arith) ∙ ap (λ (v : List ℕ). get_or v i 0) e ∙ get_or-append rows (drop (length rows) mid) 0 i y) in
      record {
        only = record {
          same_length = put-length;
          outside = λ k s. elim s [ inl x ↦ front_same k x | inr x ↦ back-same k (omega arith) ];
        };
        buffered = record {
          within = short;
          rising = subst (λ (v : List ℕ). rises 1 m v ≡ true) (sym e₁) r;
          rest = λ i x. let q : 2 * m + length rows + i ≡ 2 * m + (length rows + i) = omega arith in
              ap (λ (v : ℕ). get_or put v 0) q ∙ within (length rows + i) (omega arith) ∙ beyond-rows (length rows + i) (omega arith) (omega arith);
        };
        rows = λ i. ap (λ (v : List ℕ). among i v) e₁;
      }

-- ---- the loop over booked columns

module _ {heads rows next starts ids : List ℕ} {m : ℕ} {R W : List Column} {adding : Bool} {w₀ w : List ℕ} {n j k : ℕ} (c : CanStart m R W adding w₀ j)
    (h : BookHolds heads rows next starts ids m W) (t : Counting m R W adding w₀ w n j k) (l : k < length ids) where
  pub booked-steady : Steady m w n
  booked-steady = counting-steady c t (omega (arith, booked-size h))

  -- it starts here
  module _ (e : get_or starts k 0 ≡ j) where
    some : get_or starts k 0 ≢ 0
    some = omega (arith, c.low)

    pub booked-ready : (room : ℕ) → room ≡ m → CanCopy heads rows next (get_or ids k 0) room
    booked-ready = booked-copy h k l some

    -- the copied rows
    pub booked-gathered : (ys : List ℕ) (g : ℕ) → g ≡ length (values_at rows (chain next (at heads (get_or ids k 0)))) →
        ys ≡ over (values_at rows (chain next (at heads (get_or ids k 0)))) (take (3 * m - 2 * m) (drop (2 * m) w)) →
        Gathered m w (take (2 * m) w ++ (ys ++ drop (3 * m - 2 * m) (drop (2 * m) w))) g (λ i. among i (values_at rows (chain next (at heads (get_or ids k 0)))))
    booked-gathered ys g q o =
        subst (λ (x : ℕ). Gathered m w (take (2 * m) w ++ (ys ++ drop (3 * m - 2 * m) (drop (2 * m) w))) x (λ i. among i (values_at rows (chain next (at heads (get_or ids k 0)))))) (sym q)
        (put-gathered m w (values_at rows (chain next (at heads (get_or ids k 0)))) ys booked-steady.tally.touched.long booked-steady.tally.buffer
        (booked-short h k l some) o (booked-rise h k l some))

    pub booked-here : {w₁ w₂ : List ℕ} {g n' : ℕ} → Gathered m w w₁ g (λ i. among i (values_at rows (chain next (at heads (get_or ids k 0))))) → Counted m w₁ g adding w₂ n' →
        Counting m R W adding w₀ w₂ n' j (k + 1)
    booked-here x y =
        counting-here c t (omega (arith, booked-size h)) (sym (booked-first h k l) ∙ e)
        (bumps x adding (holds (get_or W k none)) (λ i p q. ap (λ (z : List ℕ). among i z) (sym (booked-rows h k l some))) y)

  pub booked-past : get_or starts k 0 ≢ j → Counting m R W adding w₀ w n j (k + 1)
  booked-past e = counting-past c t (omega (arith, booked-size h)) (λ x. e (booked-first h k l ∙ x))

pub part_length : (m : ℕ) (w : List ℕ) → 3 * m ≤ length w → length (take (3 * m - 2 * m) (drop (2 * m) w)) ≡ m
part_length m w l = omega (arith, length-take-le (3 * m - 2 * m) (drop (2 * m) w) (omega (arith, length-drop (2 * m) w)))
