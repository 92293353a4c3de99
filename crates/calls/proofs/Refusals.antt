-- What an accepted call has met, group by group: sizes in range (`InRange`), tables and lists long enough, an addition's lists (`InStep`) and columns
-- (`ColumnsFit`, `AddFits`), a removal's ids (`IdsFit`, `RemoveFits`), the room of a clock change, a question's rows and room. Numbers.antt has the numbers that
-- the groups give.
-- Assumes nothing.
use mathlib.Core.Path.{◌≡◌, refl, sym, ap, ◌∙◌}
use mathlib.Core.Logic.{inl, inr}
use mathlib.Core.Bool.{Bool, true, false, ◌&&◌, ◌||◌, not}
use mathlib.Core.List.{List, [], ◌∷◌, ◌++◌}
use Prim.Native.Nat.{ℕ, zero, suc, ◌+◌, ◌≤◌, ◌<◌}
use native.Mathlib.Omega.{arith}
use lib.Dec.{ltb, leb, eqb}
use lib.ListN.{length, get_or, take, drop, length-drop}
use lib.Seq.{length-take-le}
use borrow.Author.Tests.{ltb-true, leb-true, le-leb, eqb-true, eq-eqb, ne_eqb, not-true}
use Rattle.lists.specs.Lists.{one, is_in, Mem, all, among, no_repeats, times, sum_of, rises}
use Rattle.lists.proofs.Tests.{eq-or-ne, and_both, both-and, in-range, one-le, or_right, refute}
use Rattle.lists.proofs.Times.{times-nil, times-self, times-other, mem-times, of-once}
use Rattle.symbolic.specs.Columns.{is_window, Register}
use Rattle.symbolic.specs.Factor.{factor_for, size_sum}
use Rattle.symbolic.specs.Change.{ids_of, added, clocked}
use Rattle.symbolic.proofs.Minutes.{minutes-ids}
use Rattle.book.specs.Book.{column_fits}
use Rattle.tables.specs.Tables.{Tables, Sizes, long_enough}
use Rattle.calls.specs.Refusals.{Refusal, accepted, is_accepted, or_else, unless, bounds, sizes_refusal, work_for, short_refusal, lists_long, early_refusal, batch_of, lines_of, in_register, rows_refusal, columns_refusal, row_sum, room_refusal, keep_step, add_refusal, ids_refusal, remove_refusal, clock_refusal, row_refusal, room_for}
use Rattle.calls.proofs.Choices.{or-both, unless_holds, Whole, unless-whole, or-whole}

-- ---- 1 to 4: sizes

pub record InRange (l : Sizes) : Type 0 where
  pub m-low : 1 ≤ l.m
  pub m-high : l.m ≤ 4096
  pub n-low : 1 ≤ l.n
  pub n-high : l.n ≤ 16384
  pub f-low : l.m ≤ l.f
  pub f-high : l.f ≤ 1048576
  pub c-low : 1 ≤ l.c
  pub c-high : l.c ≤ 262144

module _ (l : Sizes) where
  pub sizes-facts : is_accepted (sizes_refusal bounds l) ≡ true → InRange l
  sizes-facts h =
      let x : Refusal = unless (is_in 1 4096 l.m) 1 0 in
      let y : Refusal = unless (is_in 1 16384 l.n) 2 0 in
      let z : Refusal = unless (is_in l.m 1048576 l.f) 3 0 in
      let w : Refusal = unless (is_in 1 262144 l.c) 4 0 in
      let t : (is_accepted x ≡ true) × (is_accepted (or_else y (or_else z w)) ≡ true) = or-both x (or_else y (or_else z w)) h in
      let u : (is_accepted y ≡ true) × (is_accepted (or_else z w) ≡ true) = or-both y (or_else z w) t.1 in
      let v : (is_accepted z ≡ true) × (is_accepted w ≡ true) = or-both z w u.1 in
      let m : (1 ≤ l.m) × (l.m ≤ 4096) = in-range 1 4096 l.m (unless_holds (is_in 1 4096 l.m) 1 0 refl t.0) in
      let n : (1 ≤ l.n) × (l.n ≤ 16384) = in-range 1 16384 l.n (unless_holds (is_in 1 16384 l.n) 2 0 refl u.0) in
      let f : (l.m ≤ l.f) × (l.f ≤ 1048576) = in-range l.m 1048576 l.f (unless_holds (is_in l.m 1048576 l.f) 3 0 refl v.0) in
      let c : (1 ≤ l.c) × (l.c ≤ 262144) = in-range 1 262144 l.c (unless_holds (is_in 1 262144 l.c) 4 0 refl v.1) in
      record { m-low = m.0; m-high = m.1; n-low = n.0; n-high = n.1; f-low = f.0; f-high = f.1; c-low = c.0; c-high = c.1 }

  pub sizes-whole : Whole (sizes_refusal bounds l)
  sizes-whole =
      let y : Refusal = unless (is_in 1 16384 l.n) 2 0 in
      let z : Refusal = unless (is_in l.m 1048576 l.f) 3 0 in
      let w : Refusal = unless (is_in 1 262144 l.c) 4 0 in
      or-whole (unless (is_in 1 4096 l.m) 1 0) (or_else y (or_else z w))
      (or-whole y (or_else z w) (or-whole z w (unless-whole (is_in 1 262144 l.c) 4 0 refl)))

-- ---- 5: tables and lists

pub record HasRoom (l : Sizes) (t : Tables) (w : List ℕ) : Type 0 where
  pub tables : long_enough l t ≡ true
  pub work : work_for l ≤ length w

pub short-facts : (l : Sizes) (t : Tables) (w : List ℕ) → is_accepted (short_refusal l t w) ≡ true → HasRoom l t w
short-facts l t w h =
    let u : (long_enough l t ≡ true) × (leb (work_for l) (length w) ≡ true) =
    and_both (long_enough l t) (leb (work_for l) (length w)) (unless_holds (long_enough l t && leb (work_for l) (length w)) 5 0 refl h) in
    record { tables = u.0; work = leb-true (work_for l) (length w) u.1 }

pub lists-facts : (m : ℕ) (a b : List ℕ) → lists_long m a b ≡ true → (m ≤ length a) × (m ≤ length b)
lists-facts m a b h =
    let u : (leb m (length a) ≡ true) × (leb m (length b) ≡ true) = and_both (leb m (length a)) (leb m (length b)) h in
    (leb-true m (length a) u.0, leb-true m (length b) u.1)

-- 1 to 5 and 20 are passed
pub early-passed : (l : Sizes) (g : Bool) (t : Tables) (w : List ℕ) (z : Bool) → is_accepted (early_refusal l g t w z) ≡ true →
    (sizes_refusal bounds l ≡ accepted) × (g ≡ true) × HasRoom l t w × (z ≡ true)
early-passed l g t w z h =
    let y : Refusal = or_else (short_refusal l t w) (unless z 5 0) in
    let u : (is_accepted (sizes_refusal bounds l) ≡ true) × (is_accepted (or_else (unless g 20 0) y) ≡ true) = or-both (sizes_refusal bounds l) (or_else (unless g 20 0) y) h in
    let x : (is_accepted (unless g 20 0) ≡ true) × (is_accepted y ≡ true) = or-both (unless g 20 0) y u.1 in
    let v : (is_accepted (short_refusal l t w) ≡ true) × (is_accepted (unless z 5 0) ≡ true) = or-both (short_refusal l t w) (unless z 5 0) x.1 in
    (sizes-whole l u.0, unless_holds g 20 0 refl x.0, short-facts l t w v.0, unless_holds z 5 0 refl v.1)

-- ---- 7 to 16 and 21: an addition

-- rows that pass 13 and 14 rise from above a, within m
pub rows-rise : (m p a : ℕ) (is : List ℕ) → is_accepted (rows_refusal m p a is) ≡ true → rises (suc a) m is ≡ true
unfolding rows_refusal rises
rows-rise m p a [] h = refl
rows-rise m p a (i ∷ is) h =
    let t : (is_accepted (unless (is_in 1 m i) 13 p) ≡ true) × (is_accepted (or_else (unless (ltb a i) 14 p) (rows_refusal m p i is)) ≡ true) =
    or-both (unless (is_in 1 m i) 13 p) (or_else (unless (ltb a i) 14 p) (rows_refusal m p i is)) h in
    let u : (is_accepted (unless (ltb a i) 14 p) ≡ true) × (is_accepted (rows_refusal m p i is) ≡ true) = or-both (unless (ltb a i) 14 p) (rows_refusal m p i is) t.1 in
    let r : (1 ≤ i) × (i ≤ m) = in-range 1 m i (unless_holds (is_in 1 m i) 13 p refl t.0) in
    let l : a < i = ltb-true a i (unless_holds (ltb a i) 14 p refl u.0) in
    both-and (both-and (le-leb (suc a) i l) (le-leb i m r.1)) (rows-rise m p i is u.1)

-- the columns of an accepted batch, where the ids before are bs
pub record ColumnsFit (r : Register) (n : ℕ) (bs is ns rs ps qs : List ℕ) : Type 0 where
  pub ids : ids_of (batch_of is ns rs) ≡ is
  pub apart : (x : ℕ) → times x is + one (among x bs || in_register r x) ≤ 1
  pub named : all (is_in 1 n) is ≡ true
  pub fits : all (column_fits r.m) (batch_of is ns rs) ≡ true
  pub used : row_sum (batch_of is ns rs) ≡ length rs
  pub windows : (k : ℕ) → k < length is → is_window (get_or ps k 0) (get_or qs k 0) ≡ true

-- an id that was not met before, and those after it
apart-step : (bs is : List ℕ) (z : ℕ → Bool) (i : ℕ) → among i bs ≡ false → z i ≡ false → ((x : ℕ) → times x is + one (among x (i ∷ bs) || z x) ≤ 1) →
    (x : ℕ) → times x (i ∷ is) + one (among x bs || z x) ≤ 1
unfolding among
apart-step bs is z i u v h x =
    elim (eq-or-ne x i) [
      | inl q ↦ rw (q, u, v) (omega (arith, times-self i is, rw (eq-eqb i i refl) at (h i)))
      | inr q ↦ omega (arith, times-other x i is q, rw (ne_eqb x i q) at (h x))
    ]

-- the window at a position, and those after it
windows-step : (ps qs : List ℕ) (n : ℕ) → is_window (get_or ps 0 0) (get_or qs 0 0) ≡ true →
    ((k : ℕ) → k < n → is_window (get_or (drop 1 ps) k 0) (get_or (drop 1 qs) k 0) ≡ true) → (k : ℕ) → k < suc n → is_window (get_or ps k 0) (get_or qs k 0) ≡ true
windows-step ps qs n w h zero l = w
windows-step ps qs n w h (suc k) l =
    ap (λ (a : ℕ). is_window a (get_or qs (suc k) 0)) (sym (next ps k)) ∙ ap (λ (b : ℕ). is_window (get_or (drop 1 ps) k 0) b) (sym (next qs k)) ∙ h k (omega arith)
  where
    next : (xs : List ℕ) (k : ℕ) → get_or (drop 1 xs) k 0 ≡ get_or xs (suc k) 0
    next [] k = refl
    next (x ∷ xs) k = refl

pub columns-facts : (r : Register) (n p : ℕ) (bs is ns rs ps qs : List ℕ) → is_accepted (columns_refusal r n p bs is ns rs ps qs) ≡ true →
    ColumnsFit r n bs is ns rs ps qs
unfolding columns_refusal batch_of ids_of all sum_of
columns-facts r n p bs [] ns rs ps qs h =
    record {
      ids = refl;
      apart = λ x. omega (arith, times-nil x, one-le (among x bs || in_register r x));
      named = refl;
      fits = refl;
      used = sym (eqb-true (length rs) 0 (unless_holds (eqb (length rs) 0) 12 0 refl h));
      windows = λ k l. absurd (omega arith);
    }
columns-facts r n p bs (i ∷ is) [] rs ps qs h = absurd (omega (arith, eqb-true 7 0 h))
columns-facts r n p bs (i ∷ is) (k ∷ ns) rs ps qs h =
    let a : Refusal = unless (is_in 1 n i) 8 p in
    let b : Refusal = unless (not (among i bs)) 9 p in
    let c : Refusal = unless (not (in_register r i)) 10 p in
    let d : Refusal = unless (is_in 1 256 k && leb k (length rs)) 12 p in
    let e : Refusal = rows_refusal r.m p 0 (take k rs) in
    let f : Refusal = unless (is_window (get_or ps 0 0) (get_or qs 0 0)) 21 p in
    let g : Refusal = columns_refusal r n (suc p) (i ∷ bs) is ns (drop k rs) (drop 1 ps) (drop 1 qs) in
    let D : Refusal = or_else d (or_else e (or_else f g)) in
    let t : (is_accepted a ≡ true) × (is_accepted (or_else b (or_else c D)) ≡ true) = or-both a (or_else b (or_else c D)) h in
    let u : (is_accepted b ≡ true) × (is_accepted (or_else c D) ≡ true) = or-both b (or_else c D) t.1 in
    let v : (is_accepted c ≡ true) × (is_accepted D ≡ true) = or-both c D u.1 in
    let w : (is_accepted d ≡ true) × (is_accepted (or_else e (or_else f g)) ≡ true) = or-both d (or_else e (or_else f g)) v.1 in
    let x : (is_accepted e ≡ true) × (is_accepted (or_else f g) ≡ true) = or-both e (or_else f g) w.1 in
    let y : (is_accepted f ≡ true) × (is_accepted g ≡ true) = or-both f g x.1 in
    let rest : ColumnsFit r n (i ∷ bs) is ns (drop k rs) (drop 1 ps) (drop 1 qs) =
    columns-facts r n (suc p) (i ∷ bs) is ns (drop k rs) (drop 1 ps) (drop 1 qs) y.1 in
    let s : (is_in 1 256 k ≡ true) × (leb k (length rs) ≡ true) =
    and_both (is_in 1 256 k) (leb k (length rs)) (unless_holds (is_in 1 256 k && leb k (length rs)) 12 p refl w.0) in
    let l : length (take k rs) ≡ k = length-take-le k rs (leb-true k (length rs) s.1) in
    record {
      ids = ap (λ (xs : List ℕ). i ∷ xs) rest.ids;
      apart = apart-step bs is (in_register r) i (not-true (among i bs) (unless_holds (not (among i bs)) 9 p refl u.0))
          (not-true (in_register r i) (unless_holds (not (in_register r i)) 10 p refl v.0)) rest.apart;
      named = both-and (unless_holds (is_in 1 n i) 8 p refl t.0) rest.named;
      fits = both-and (both-and (rows-rise r.m p 0 (take k rs) x.0) (ap (λ (z : ℕ). is_in 1 256 z) l ∙ s.0)) rest.fits;
      used = omega (arith, l, rest.used, length-drop k rs, leb-true k (length rs) s.1);
      windows = windows-step ps qs (length is) (unless_holds (is_window (get_or ps 0 0) (get_or qs 0 0)) 21 p refl y.0) rest.windows;
    }

-- none of the ids comes twice, and none is booked
pub columns-once : {r : Register} {n : ℕ} {is ns rs ps qs : List ℕ} → ColumnsFit r n [] is ns rs ps qs → no_repeats is ≡ true
columns-once {is = is} f = of-once is (λ x. omega (arith, f.apart x))

pub columns-new : {r : Register} {n : ℕ} {is ns rs ps qs : List ℕ} → ColumnsFit r n [] is ns rs ps qs → {x : ℕ} → Mem x is → in_register r x ≡ false
columns-new {r} f {x} m =
    refute (in_register r x) (λ e. absurd (omega (arith, f.apart x, mem-times m, ap one (or_right (among x []) (in_register r x) e))))

-- the columns with their windows: under the same ids, with the same rows
module _ {r : Register} {n : ℕ} {bs is ns rs ps qs : List ℕ} (f : ColumnsFit r n bs is ns rs ps qs) where
  pub lines-ids : ids_of (lines_of is ns rs ps qs) ≡ is
  lines-ids = minutes-ids ps qs (batch_of is ns rs) ∙ f.ids

-- "no number is given unless its condition holds": just enough room is enough. Nothing cites it but edits that give 15 or 16 one early
pub room-enough : (l : Sizes) (r : Register) → row_sum r.columns ≤ l.c → size_sum (factor_for r) ≤ l.f → room_refusal l r ≡ accepted
room-enough l r h k = rw (le-leb (row_sum r.columns) l.c h, le-leb (size_sum (factor_for r)) l.f k) refl

-- 1 to 64 ids, and the lists that keep step with them
pub record InStep (ids counts firsts seconds : List ℕ) : Type 0 where
  pub some : 1 ≤ length ids
  pub few : length ids ≤ 64
  pub counted : length counts ≡ length ids
  pub firsts-length : length firsts ≡ length ids
  pub seconds-length : length seconds ≡ length ids

pub step-facts : (is ns ps qs : List ℕ) → keep_step is ns ps qs ≡ true → InStep is ns ps qs
step-facts is ns ps qs h =
    let a : Bool = is_in 1 64 (length is) in
    let b : Bool = eqb (length ns) (length is) in
    let c : Bool = eqb (length ps) (length is) in
    let d : Bool = eqb (length qs) (length is) in
    let t : (a ≡ true) × ((b && (c && d)) ≡ true) = and_both a (b && (c && d)) h in
    let u : (b ≡ true) × ((c && d) ≡ true) = and_both b (c && d) t.1 in
    let v : (c ≡ true) × (d ≡ true) = and_both c d u.1 in
    let w : (1 ≤ length is) × (length is ≤ 64) = in-range 1 64 (length is) t.0 in
    record {
      some = w.0;
      few = w.1;
      counted = eqb-true (length ns) (length is) u.0;
      firsts-length = eqb-true (length ps) (length is) v.0;
      seconds-length = eqb-true (length qs) (length is) v.1;
    }

pub record AddFits (l : Sizes) (r : Register) (ids counts rows firsts seconds : List ℕ) : Type 0 where
  pub step : InStep ids counts firsts seconds
  pub columns : ColumnsFit r l.n [] ids counts rows firsts seconds
  pub book-room : row_sum (r.columns ++ lines_of ids counts rows firsts seconds) ≤ l.c
  pub factor-room : size_sum (factor_for (added r (lines_of ids counts rows firsts seconds))) ≤ l.f

pub add-facts : (l : Sizes) (r : Register) (is ns rs ps qs : List ℕ) → is_accepted (add_refusal l r is ns rs ps qs) ≡ true → AddFits l r is ns rs ps qs
add-facts l r is ns rs ps qs h =
    let A : Register = added r (lines_of is ns rs ps qs) in
    let x : Refusal = unless (keep_step is ns ps qs) 7 0 in
    let y : Refusal = columns_refusal r l.n 1 [] is ns rs ps qs in
    let z : Refusal = room_refusal l A in
    let t : (is_accepted x ≡ true) × (is_accepted (or_else y z) ≡ true) = or-both x (or_else y z) h in
    let u : (is_accepted y ≡ true) × (is_accepted z ≡ true) = or-both y z t.1 in
    let v : (is_accepted (unless (leb (row_sum A.columns) l.c) 15 0) ≡ true) × (is_accepted (unless (leb (size_sum (factor_for A)) l.f) 16 0) ≡ true) =
    or-both (unless (leb (row_sum A.columns) l.c) 15 0) (unless (leb (size_sum (factor_for A)) l.f) 16 0) u.1 in
    record {
      step = step-facts is ns ps qs (unless_holds (keep_step is ns ps qs) 7 0 refl t.0);
      columns = columns-facts r l.n 1 [] is ns rs ps qs u.0;
      book-room = leb-true (row_sum A.columns) l.c (unless_holds (leb (row_sum A.columns) l.c) 15 0 refl v.0);
      factor-room = leb-true (size_sum (factor_for A)) l.f (unless_holds (leb (size_sum (factor_for A)) l.f) 16 0 refl v.1);
    }

-- ---- a removal

-- the ids of an accepted removal, where the ids before are bs
pub record IdsFit (r : Register) (n : ℕ) (bs is : List ℕ) : Type 0 where
  pub apart : (x : ℕ) → times x is + one (among x bs || false) ≤ 1
  pub named : all (is_in 1 n) is ≡ true
  pub live : all (in_register r) is ≡ true

pub ids-facts : (r : Register) (n p : ℕ) (bs is : List ℕ) → is_accepted (ids_refusal r n p bs is) ≡ true → IdsFit r n bs is
unfolding ids_refusal all
ids-facts r n p bs [] h = record { apart = λ x. omega (arith, times-nil x, one-le (among x bs || false)); named = refl; live = refl }
ids-facts r n p bs (i ∷ is) h =
    let a : Refusal = unless (is_in 1 n i) 8 p in
    let b : Refusal = unless (not (among i bs)) 9 p in
    let c : Refusal = unless (in_register r i) 11 p in
    let d : Refusal = ids_refusal r n (suc p) (i ∷ bs) is in
    let t : (is_accepted a ≡ true) × (is_accepted (or_else b (or_else c d)) ≡ true) = or-both a (or_else b (or_else c d)) h in
    let u : (is_accepted b ≡ true) × (is_accepted (or_else c d) ≡ true) = or-both b (or_else c d) t.1 in
    let v : (is_accepted c ≡ true) × (is_accepted d ≡ true) = or-both c d u.1 in
    let rest : IdsFit r n (i ∷ bs) is = ids-facts r n (suc p) (i ∷ bs) is v.1 in
    record {
      apart = apart-step bs is (λ x. false) i (not-true (among i bs) (unless_holds (not (among i bs)) 9 p refl u.0)) refl rest.apart;
      named = both-and (unless_holds (is_in 1 n i) 8 p refl t.0) rest.named;
      live = both-and (unless_holds (in_register r i) 11 p refl v.0) rest.live;
    }

pub record RemoveFits (l : Sizes) (r : Register) (ids : List ℕ) : Type 0 where
  pub some : 1 ≤ length ids
  pub few : length ids ≤ 64
  pub once : no_repeats ids ≡ true
  pub named : all (is_in 1 l.n) ids ≡ true
  pub live : all (in_register r) ids ≡ true

pub remove-facts : (l : Sizes) (r : Register) (is : List ℕ) → is_accepted (remove_refusal l r is) ≡ true → RemoveFits l r is
remove-facts l r is h =
    let x : Refusal = unless (is_in 1 64 (length is)) 7 0 in
    let y : Refusal = ids_refusal r l.n 1 [] is in
    let t : (is_accepted x ≡ true) × (is_accepted y ≡ true) = or-both x y h in
    let b : (1 ≤ length is) × (length is ≤ 64) = in-range 1 64 (length is) (unless_holds (is_in 1 64 (length is)) 7 0 refl t.0) in
    let f : IdsFit r l.n [] is = ids-facts r l.n 1 [] is t.1 in
    record { some = b.0; few = b.1; once = of-once is (λ i. omega (arith, f.apart i)); named = f.named; live = f.live }

-- ---- 16: a clock change

module _ (l : Sizes) (r : Register) (t : ℕ) where
  -- those that leave are gone by then, and just enough room is enough here too
  pub clock-enough : size_sum (factor_for (clocked r t)) ≤ l.f → clock_refusal l r t ≡ accepted
  clock-enough h = rw (le-leb (size_sum (factor_for (clocked r t))) l.f h) refl

-- ---- 17 and 18: questions

pub row-facts : (m i : ℕ) → is_accepted (row_refusal m i) ≡ true → (1 ≤ i) × (i ≤ m)
row-facts m i h = in-range 1 m i (unless_holds (is_in 1 m i) 17 0 refl h)

pub room-facts : (xs : List ℕ) (p n : ℕ) → is_accepted (room_for xs p n) ≡ true → p + n ≤ length xs
room-facts xs p n h = leb-true (p + n) (length xs) (unless_holds (leb (p + n) (length xs)) 18 0 refl h)
