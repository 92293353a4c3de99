-- For callers: how the found refusal is part of the whole one of calls, Refusals; what an addition that is not refused by 7 to 15 or 21 has
-- (`AddReady`); what a removal that is not refused has (`RemoveReady`).
-- Assumes nothing.
use mathlib.Core.Path.{◌≡◌, refl, sym, ap, ◌∙◌}
use mathlib.Core.Bool.{Bool, true, false, ◌&&◌, not}
use mathlib.Core.List.{List, [], ◌∷◌, ◌++◌}
use Prim.Native.Nat.{ℕ, suc, ◌+◌, ◌*◌, ◌≤◌, ◌<◌}
use native.Mathlib.Omega.{arith}
use lib.Dec.{leb, eqb}
use lib.ListN.{length, get_or, take, drop, length-drop}
use borrow.Author.Tests.{leb-true, le-leb, eqb-true}
use Rattle.lists.specs.Lists.{is_in, all, among, no_repeats}
use Rattle.lists.proofs.Tests.{and_both, in-range}
use Rattle.lists.proofs.Member.{all-at, place-mem}
use Rattle.lists.proofs.Times.{of-once}
use Rattle.lists.proofs.Sum.{sum-append}
use Rattle.symbolic.specs.Columns.{Column, is_window, Register}
use Rattle.symbolic.specs.Factor.{factor_for, size_sum}
use Rattle.symbolic.specs.Change.{ids_of, added}
use Rattle.symbolic.proofs.Minutes.{minutes-rows-sum}
use Rattle.pool.specs.Chains.{chain}
use Rattle.book.specs.Book.{Book, is_booked, columns_in, column_fits, is_sound}
use Rattle.book.proofs.Columns.{ids-booked}
use Rattle.book.proofs.Sound.{rows-room}
use Rattle.windows.specs.Windowed.{lines_in, register_in}
use Rattle.windows.proofs.Windowed.{windowed-ids, windowed-sum}
use Rattle.tables.specs.Tables.{Sizes}
use Rattle.calls.specs.Refusals as calls
use Rattle.calls.specs.Refusals.{is_accepted, or_else, unless, in_register, rows_refusal, columns_refusal, row_sum, add_refusal, ids_refusal, remove_refusal, keep_step, batch_of, lines_of}
use Rattle.calls.proofs.Choices.{or-both, unless_holds, or_assoc}
use Rattle.calls.proofs.Refusals.{InStep, step-facts, ColumnsFit, columns-facts, columns-once, columns-new, IdsFit, ids-facts}
use Rattle.refusals.specs.Offsets.{offset_of}
use Rattle.refusals.specs.Found.{bare_in, add_found, remove_found}
use Rattle.refusals.proofs.Finding.{rows_few}
use Rattle.refusals.proofs.Offsets.{offset-first, batch-length}

-- ---- the whole refusal

-- of a register, positions read the rows' range and the ids that it has
module _ (r s : Register) (e : r.m ≡ s.m) (h : (i : ℕ) → in_register r i ≡ in_register s i) (n : ℕ) where
  columns-same : (p : ℕ) (bs is ns rs ps qs : List ℕ) → columns_refusal r n p bs is ns rs ps qs ≡ columns_refusal s n p bs is ns rs ps qs
  unfolding columns_refusal
  columns-same p bs [] ns rs ps qs = refl
  columns-same p bs (i ∷ is) [] rs ps qs = refl
  columns-same p bs (i ∷ is) (k ∷ ns) rs ps qs =
      rw (columns-same (suc p) (i ∷ bs) is ns (drop k rs) (drop 1 ps) (drop 1 qs), h i, e) refl

  ids-same : (p : ℕ) (bs is : List ℕ) → ids_refusal r n p bs is ≡ ids_refusal s n p bs is
  unfolding ids_refusal
  ids-same p bs [] = refl
  ids-same p bs (i ∷ is) = rw (ids-same (suc p) (i ∷ bs) is, h i) refl

module _ (l : Sizes) (m clock : ℕ) (b : Book) (w : List ℕ) where
  -- windows change no id
  bare-ids : (i : ℕ) → in_register (register_in m clock b w) i ≡ in_register (bare_in m b) i
  bare-ids i = ap (among i) (windowed-ids w (length b.heads) (columns_in b))

  -- and no row
  bare-sum : (is ns rs ps qs : List ℕ) → row_sum (lines_in b w ++ lines_of is ns rs ps qs) ≡ row_sum (columns_in b ++ batch_of is ns rs)
  bare-sum is ns rs ps qs =
      let f : Column → ℕ = λ c. length c.rows in
      sum-append f (lines_in b w) (lines_of is ns rs ps qs) ∙ ap (λ (x : ℕ). x + row_sum (lines_of is ns rs ps qs)) (windowed-sum w (length b.heads) f (columns_in b)) ∙
      ap (λ (x : ℕ). row_sum (columns_in b) + x) (minutes-rows-sum ps qs (batch_of is ns rs)) ∙
      sym (sum-append f (columns_in b) (batch_of is ns rs))

  -- an addition's: 7 to 15 and 21, then 16
  pub add-refusal : (is ns rs ps qs : List ℕ) → l.n ≡ length b.heads → l.c ≡ length b.next →
      add_refusal l (register_in m clock b w) is ns rs ps qs ≡
      or_else (add_found m b is ns rs ps qs) (unless (leb (size_sum (factor_for (added (register_in m clock b w) (lines_of is ns rs ps qs)))) l.f) 16 0)
  add-refusal is ns rs ps qs e h =
      let s : calls.Refusal = unless (keep_step is ns ps qs) 7 0 in
      let p : calls.Refusal = columns_refusal (bare_in m b) (length b.heads) 1 [] is ns rs ps qs in
      let q : calls.Refusal = unless (leb (row_sum (columns_in b ++ batch_of is ns rs)) (length b.next)) 15 0 in
      let t : calls.Refusal = unless (leb (size_sum (factor_for (added (register_in m clock b w) (lines_of is ns rs ps qs)))) l.f) 16 0 in
      let u : calls.Refusal = unless (leb (row_sum (lines_in b w ++ lines_of is ns rs ps qs)) l.c) 15 0 in
      ap (λ (x : calls.Refusal). or_else s (or_else x (or_else u t)))
      (ap (λ (n : ℕ). columns_refusal (register_in m clock b w) n 1 [] is ns rs ps qs) e ∙
      columns-same (register_in m clock b w) (bare_in m b) refl bare-ids (length b.heads) 1 [] is ns rs ps qs) ∙
      ap (λ (x : ℕ). or_else s (or_else p (or_else (unless (leb x l.c) 15 0) t))) (bare-sum is ns rs ps qs) ∙
      ap (λ (c : ℕ). or_else s (or_else p (or_else (unless (leb (row_sum (columns_in b ++ batch_of is ns rs)) c) 15 0) t))) h ∙
      sym (or_assoc s (or_else p q) t ∙ ap (λ (x : calls.Refusal). or_else s x) (or_assoc p q t))

  -- a removal's is the found one
  pub remove-refusal : (is : List ℕ) → l.n ≡ length b.heads → remove_refusal l (register_in m clock b w) is ≡ remove_found m b is
  remove-refusal is e =
      ap (λ (x : calls.Refusal). or_else (unless (is_in 1 64 (length is)) 7 0) x)
      (ap (λ (n : ℕ). ids_refusal (register_in m clock b w) n 1 [] is) e ∙
      ids-same (register_in m clock b w) (bare_in m b) refl bare-ids (length b.heads) 1 [] is)

-- ---- an addition

-- the counts of accepted columns are as many as the rows
columns-counts : (r : Register) (n p : ℕ) (bs is ns rs ps qs : List ℕ) → is_accepted (columns_refusal r n p bs is ns rs ps qs) ≡ true →
    offset_of ns (length is) ≡ length rs
unfolding columns_refusal offset_of
columns-counts r n p bs [] ns rs ps qs h = offset-first ns ∙ sym (eqb-true (length rs) 0 (unless_holds (eqb (length rs) 0) 12 0 refl h))
columns-counts r n p bs (i ∷ is) [] rs ps qs h = absurd (omega (arith, eqb-true 7 0 h))
columns-counts r n p bs (i ∷ is) (k ∷ ns) rs ps qs h =
    let a : calls.Refusal = unless (is_in 1 n i) 8 p in
    let b : calls.Refusal = unless (not (among i bs)) 9 p in
    let c : calls.Refusal = unless (not (in_register r i)) 10 p in
    let d : calls.Refusal = unless (is_in 1 256 k && leb k (length rs)) 12 p in
    let e : calls.Refusal = rows_refusal r.m p 0 (take k rs) in
    let f : calls.Refusal = unless (is_window (get_or ps 0 0) (get_or qs 0 0)) 21 p in
    let g : calls.Refusal = columns_refusal r n (suc p) (i ∷ bs) is ns (drop k rs) (drop 1 ps) (drop 1 qs) in
    let D : calls.Refusal = or_else d (or_else e (or_else f g)) in
    let u : is_accepted D ≡ true = (or-both c D (or-both b (or_else c D) (or-both a (or_else b (or_else c D)) h).1).1).1 in
    let v : (is_accepted d ≡ true) × (is_accepted (or_else e (or_else f g)) ≡ true) = or-both d (or_else e (or_else f g)) u in
    let x : is_accepted g ≡ true = (or-both f g (or-both e (or_else f g) v.1).1).1 in
    let w : leb k (length rs) ≡ true = (and_both (is_in 1 256 k) (leb k (length rs)) (unless_holds (is_in 1 256 k && leb k (length rs)) 12 p refl v.0)).1 in
    omega (arith, columns-counts r n (suc p) (i ∷ bs) is ns (drop k rs) (drop 1 ps) (drop 1 qs) x, length-drop k rs, leb-true k (length rs) w)

pub record AddReady (m : ℕ) (b : Book) (ids counts rows firsts seconds : List ℕ) : Type 0 where
  pub some : 1 ≤ length ids
  pub few : length ids ≤ 64
  pub counted : length counts ≡ length ids
  pub firsts-length : length firsts ≡ length ids
  pub seconds-length : length seconds ≡ length ids
  pub distinct : no_repeats ids ≡ true
  pub named : (k : ℕ) → k < length ids → (1 ≤ get_or ids k 0) × (get_or ids k 0 ≤ length b.heads)
  pub absent : (k : ℕ) → k < length ids → is_booked b.heads (get_or ids k 0) ≡ false
  pub batch-ids : ids_of (batch_of ids counts rows) ≡ ids
  pub batch-fits : all (column_fits m) (batch_of ids counts rows) ≡ true
  pub batch-rows : row_sum (batch_of ids counts rows) ≡ length rows
  pub used : offset_of counts (length ids) ≡ length rows
  pub rows_few : length rows ≤ 256 * length ids
  pub room : row_sum (columns_in b) + length rows ≤ length b.next
  pub windows : (k : ℕ) → k < length ids → is_window (get_or firsts k 0) (get_or seconds k 0) ≡ true

pub add-ready : (m : ℕ) (b : Book) (is ns rs ps qs : List ℕ) → is_accepted (add_found m b is ns rs ps qs) ≡ true → AddReady m b is ns rs ps qs
add-ready m b is ns rs ps qs h =
    let r : Register = bare_in m b in
    let n : ℕ = length b.heads in
    let z : Bool = keep_step is ns ps qs in
    let y : Bool = leb (row_sum (columns_in b ++ batch_of is ns rs)) (length b.next) in
    let s : calls.Refusal = unless z 7 0 in
    let p : calls.Refusal = columns_refusal r n 1 [] is ns rs ps qs in
    let q : calls.Refusal = unless y 15 0 in
    let t : (is_accepted s ≡ true) × (is_accepted (or_else p q) ≡ true) = or-both s (or_else p q) h in
    let u : (is_accepted p ≡ true) × (is_accepted q ≡ true) = or-both p q t.1 in
    let v : InStep is ns ps qs = step-facts is ns ps qs (unless_holds z 7 0 refl t.0) in
    let f : ColumnsFit r n [] is ns rs ps qs = columns-facts r n 1 [] is ns rs ps qs u.0 in
    let named : (k : ℕ) → k < length is → (1 ≤ get_or is k 0) × (get_or is k 0 ≤ n) =
    λ k l. in-range 1 n (get_or is k 0) (all-at (is_in 1 n) (place-mem is k 0 l) f.named) in
    record {
      some = v.some;
      few = v.few;
      counted = v.counted;
      firsts-length = v.firsts-length;
      seconds-length = v.seconds-length;
      distinct = columns-once f;
      named = named;
      absent = λ k l. sym (ids-booked b (get_or is k 0) (named k l).0) ∙ columns-new f (place-mem is k 0 l);
      batch-ids = f.ids;
      batch-fits = f.fits;
      batch-rows = f.used;
      used = columns-counts r n 1 [] is ns rs ps qs u.0;
      rows_few = rows_few r n is ns rs ps qs u.0;
      room = omega (arith, f.used, sum-append (λ (c : Column). length c.rows) (columns_in b) (batch_of is ns rs), leb-true (row_sum (columns_in b ++ batch_of is ns rs)) (length b.next) (unless_holds y 15 0 refl u.1));
      windows = f.windows;
    }

module _ {m : ℕ} {b : Book} {is ns rs ps qs : List ℕ} (a : AddReady m b is ns rs ps qs) where
  -- the rows fit into the free records
  pub ready-room : is_sound m b ≡ true → length rs ≤ length (chain b.next b.free)
  ready-room s =
      leb-true (length rs) (length (chain b.next b.free))
      (rows-room m b (length rs) s ∙ le-leb (row_sum (columns_in b) + length rs) (length b.next) a.room)

  pub ready-length : length (batch_of is ns rs) ≡ length is
  ready-length = batch-length is ns rs a.counted

-- ---- a removal

pub record RemoveReady (b : Book) (ids : List ℕ) : Type 0 where
  pub some : 1 ≤ length ids
  pub few : length ids ≤ 64
  pub distinct : no_repeats ids ≡ true
  pub named : (k : ℕ) → k < length ids → (1 ≤ get_or ids k 0) × (get_or ids k 0 ≤ length b.heads)
  pub booked : (k : ℕ) → k < length ids → is_booked b.heads (get_or ids k 0) ≡ true

pub remove-ready : (m : ℕ) (b : Book) (is : List ℕ) → is_accepted (remove_found m b is) ≡ true → RemoveReady b is
remove-ready m b is h =
    let s : calls.Refusal = unless (is_in 1 64 (length is)) 7 0 in
    let p : calls.Refusal = ids_refusal (bare_in m b) (length b.heads) 1 [] is in
    let t : (is_accepted s ≡ true) × (is_accepted p ≡ true) = or-both s p h in
    let w : (1 ≤ length is) × (length is ≤ 64) = in-range 1 64 (length is) (unless_holds (is_in 1 64 (length is)) 7 0 refl t.0) in
    let f : IdsFit (bare_in m b) (length b.heads) [] is = ids-facts (bare_in m b) (length b.heads) 1 [] is t.1 in
    let named : (k : ℕ) → k < length is → (1 ≤ get_or is k 0) × (get_or is k 0 ≤ length b.heads) =
    λ k l. in-range 1 (length b.heads) (get_or is k 0) (all-at (is_in 1 (length b.heads)) (place-mem is k 0 l) f.named) in
    record {
      some = w.0;
      few = w.1;
      distinct = of-once is (λ x. omega (arith, f.apart x));
      named = named;
      booked = λ k l. sym (ids-booked b (get_or is k 0) (named k l).0) ∙ all-at (in_register (bare_in m b)) (place-mem is k 0 l) f.live;
    }
