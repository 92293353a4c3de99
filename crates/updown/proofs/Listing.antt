-- Batch columns read one after another: their starts marked (`marking-next`), and at row j counted (`counting-here`, `counting-past`); the listed column at a
-- position (`Reading`). Assumes nothing.
use mathlib.Core.Path.{◌≡◌, refl, sym, ap, ◌∙◌, subst}
use mathlib.Core.Logic.{inl, inr, ◌≢◌}
use mathlib.Core.Bool.{Bool, true, false}
use mathlib.Core.List.{List, [], ◌∷◌}
use Prim.Native.Nat.{ℕ, zero, suc, ◌+◌, ◌-◌, ◌*◌, ◌/◌, ◌%◌, ◌≤◌, ◌<◌}
use native.Mathlib.Omega.{arith}
use native.Mathlib.Numerals.{add-one}
use lib.ListN.{length, get_or, take, drop, set, length-drop, length-set}
use lib.Dec.{eqb}
use lib.Seq.{drop-cons, drop-drop, get_or-set_same, get_or-set_other}
use borrow.Author.Tests.{eq-eqb, ne_eqb}
use Rattle.lists.specs.Lists.{pick, among, rises, all}
use Rattle.lists.proofs.Tests.{eq-or-ne, refute}
use Rattle.lists.proofs.Member.{all-at, place-mem, among-mem}
use Rattle.lists.proofs.Rising.{rises-first, rises-high}
use Rattle.symbolic.specs.Columns.{Column, column_with, smallest, holds, fits_rows}
use Rattle.workspace.specs.Regions.{IsZero, OnlyIn}
use Rattle.workspace.proofs.Regions.{only-refl, only-trans}
use Rattle.updown.specs.Entries.{Listed}
use Rattle.updown.specs.Marks.{Room, mark_at, flag_at, marked, start_marked}
use Rattle.updown.proofs.Brought.{Steady, Bumps}
use Rattle.updown.specs.SoFar.{nobody, SoFar}
use Rattle.updown.specs.States.{start_of}
use Rattle.updown.specs.Starts.{StartsTo, CanMark, CanStart, Started}
use Rattle.differences.specs.Gather.{CanGather, Gathered}
use Rattle.differences.specs.Count.{Counted}
use Rattle.updown.proofs.Gathering.{can-gather, bumps}
use Rattle.updown.proofs.SoFar.{so-far-column, so-far-past, so-far-all, so-far-steady}

abbrev pub none : Column
none = column_with 0 []

-- ---- a column that fits

pub record Fits (m : ℕ) (w : Column) : Type 0 where
  pub rising : rises 1 m w.rows ≡ true
  pub high : smallest w ≤ m

pub fits-at : (m : ℕ) (W : List Column) → all (fits_rows m) W ≡ true → (k : ℕ) → k < length W → Fits m (get_or W k none)
fits-at m W h k l = let r : fits_rows m (get_or W k none) ≡ true = all-at (fits_rows m) (place-mem W k none l) h in record { rising = r; high = rises-high 1 m (get_or W k none).rows r 0 }

-- its rows lie at or above its first
pub rows_above : (m : ℕ) (w : Column) → Fits m w → (i : ℕ) → i < smallest w → holds w i ≡ false
rows_above m w f i l = go w.rows f.rising l
  where
    go : (xs : List ℕ) → rises 1 m xs ≡ true → i < get_or xs 0 0 → among i xs ≡ false
    go [] r l = absurd (omega arith)
    go (x ∷ xs) r l = refute (among i (x ∷ xs)) (λ h. let q : x ≤ i = rises-first 1 m (among-mem i (x ∷ xs) h) r in omega arith)

-- ---- the column at a position of a list

pub record Reading (starts counts list : List ℕ) (W : List Column) (k at : ℕ) : Type 0 where
  pub listed : Listed (drop k starts) (drop k counts) (drop at list) (drop k W)
  pub size : length W ≡ length counts
  pub paired : length starts ≡ length counts
  pub within : at ≤ length list

listed-length : (rs ks xs : List ℕ) (ws : List Column) → Listed rs ks xs ws → (length ws ≡ length ks) × (length rs ≡ length ks)
unfolding Listed
listed-length [] [] xs [] h = (refl, refl)
listed-length [] [] xs (w ∷ ws) h = absurd h
listed-length [] (k ∷ ks) xs ws h = absurd h
listed-length (r ∷ rs) [] xs ws h = absurd h
listed-length (r ∷ rs) (k ∷ ks) xs [] h = absurd h
listed-length (r ∷ rs) (k ∷ ks) xs (w ∷ ws) h = let e = listed-length rs ks (drop k xs) ws h.3 in (ap suc e.0, ap suc e.1)

pub reading-start : {starts counts list : List ℕ} {W : List Column} → Listed starts counts list W → Reading starts counts list W 0 0
reading-start {starts} {counts} {list} {W} h =
    let e = listed-length starts counts list W h in record { listed = h; size = e.0; paired = e.1; within = omega arith }

module _ {starts counts list : List ℕ} {W : List Column} {k at : ℕ} (r : Reading starts counts list W k at) (l : k < length counts) where
  parts : ((get_or W k none).rows ≡ pick (eqb (get_or starts k 0) 0) [] (take (get_or counts k 0) (drop at list))) × (smallest (get_or W k none) ≡ get_or starts k 0) ×
      (get_or counts k 0 ≤ length (drop at list)) × Listed (drop (suc k) starts) (drop (suc k) counts) (drop (get_or counts k 0) (drop at list)) (drop (suc k) W)
  unfolding Listed
  parts =
      let a : drop k starts ≡ get_or starts k 0 ∷ drop (suc k) starts = drop-cons starts k 0 (omega (arith, r.paired)) in
      let b : drop k counts ≡ get_or counts k 0 ∷ drop (suc k) counts = drop-cons counts k 0 l in
      let d : drop k W ≡ get_or W k none ∷ drop (suc k) W = drop-cons W k none (omega (arith, r.size)) in
      let h : Listed (get_or starts k 0 ∷ drop (suc k) starts) (get_or counts k 0 ∷ drop (suc k) counts) (drop at list) (get_or W k none ∷ drop (suc k) W) =
      subst (λ (x : List ℕ). Listed x (get_or counts k 0 ∷ drop (suc k) counts) (drop at list) (get_or W k none ∷ drop (suc k) W)) a
      (subst (λ (x : List ℕ). Listed (drop k starts) x (drop at list) (get_or W k none ∷ drop (suc k) W)) b
      (subst (λ (x : List Column). Listed (drop k starts) (drop k counts) (drop at list) x) d r.listed)) in
      (h.0, h.1, h.2, h.3)

  -- it counts rows: those of the list
  reading-rows : get_or starts k 0 ≢ 0 → (get_or W k none).rows ≡ take (get_or counts k 0) (drop at list)
  reading-rows n = parts.0 ∙ ap (λ (z : Bool). pick z [] (take (get_or counts k 0) (drop at list))) (ne_eqb (get_or starts k 0) 0 n)

  reading-first : smallest (get_or W k none) ≡ get_or starts k 0
  reading-first = parts.1

  pub reading-end : at + get_or counts k 0 ≤ length list
  reading-end = omega (arith, parts.2, length-drop at list, r.within)

  pub reading-next : Reading starts counts list W (k + 1) (at + get_or counts k 0)
  reading-next =
      record {
        listed = rw (add-one k) (subst (λ (x : List ℕ). Listed (drop (suc k) starts) (drop (suc k) counts) x (drop (suc k) W)) (drop-drop (get_or counts k 0) at list) parts.3);
        size = r.size;
        paired = r.paired;
        within = reading-end;
      }

listed_at : (rs ks xs : List ℕ) (ws : List Column) → Listed rs ks xs ws → (k : ℕ) → k < length ws → get_or rs k 0 ≡ smallest (get_or ws k none)
unfolding Listed
listed_at rs ks xs [] h k l = absurd (omega arith)
listed_at [] [] xs (w ∷ ws) h k l = absurd h
listed_at [] (n ∷ ks) xs (w ∷ ws) h k l = absurd h
listed_at (r ∷ rs) [] xs (w ∷ ws) h k l = absurd h
listed_at (r ∷ rs) (n ∷ ks) xs (w ∷ ws) h zero l = sym h.1
listed_at (r ∷ rs) (n ∷ ks) xs (w ∷ ws) h (suc k) l = listed_at rs ks (drop n xs) ws h.3 k (omega arith)

-- a batch that is listed starts where the list of starts says
pub listed-starts : (starts counts list : List ℕ) (W : List Column) → Listed starts counts list W →
    (length W ≡ length starts) × ((k : ℕ) → k < length W → get_or starts k 0 ≡ smallest (get_or W k none))
listed-starts starts counts list W h = let e = listed-length starts counts list W h in (e.0 ∙ sym e.1, listed_at starts counts list W h)

-- ---- starts marked

pub starts_none : {m flags : ℕ} {W : List Column} {w : List ℕ} → IsZero w (3 * m) m → StartsTo m flags W w w 0
starts_none {m} z =
    record {
      same_length = refl;
      start = λ k a b _. absurd (omega arith);
      bit = λ k a b _. absurd (omega arith);
      cause = λ q a b n. absurd (n (z (q - 1) (omega arith)));
      flagged = λ q a b n. absurd (n (z (q - 1) (omega arith)));
      rest = λ x a b. refl;
    }

module _ {m flags : ℕ} {W : List Column} {w₀ w : List ℕ} {k : ℕ} (s : StartsTo m flags W w₀ w k) (r : Room m flags w) (a : 1 ≤ start_of W (k + 1)) (b : start_of W (k + 1) ≤ m)
    (within : (p : ℕ) → 1 ≤ p → p ≤ k → start_of W p ≤ m) where
  abbrev q₀ : ℕ
  q₀ = start_of W (k + 1)

  abbrev x₀ : ℕ
  x₀ = 4 * (k + 1) + 2

  abbrev w₁ : List ℕ
  w₁ = marked m flags w q₀ x₀

  w₁-own : mark_at m w₁ q₀ ≡ x₀
  w₁-own =
      get_or-set_other (set w (3 * m + (q₀ - 1)) x₀) (flags + (q₀ - 1) / 64) (3 * m + (q₀ - 1)) 1 0 (omega (arith, r.low)) ∙
      get_or-set_same w (3 * m + (q₀ - 1)) x₀ 0 (omega (arith, r.low, r.long))

  w₁-other : (x : ℕ) → x ≢ 3 * m + (q₀ - 1) → x ≢ flags + (q₀ - 1) / 64 → get_or w₁ x 0 ≡ get_or w x 0
  w₁-other x p q = get_or-set_other (set w (3 * m + (q₀ - 1)) x₀) (flags + (q₀ - 1) / 64) x 1 0 q ∙ get_or-set_other w (3 * m + (q₀ - 1)) x x₀ 0 p

  mark-other : (q : ℕ) → 1 ≤ q → q ≤ m → q ≢ q₀ → mark_at m w₁ q ≡ mark_at m w q
  mark-other q x y n = w₁-other (3 * m + (q - 1)) (omega arith) (omega (arith, r.low))

  flag-other : (q : ℕ) → (q - 1) / 64 ≢ (q₀ - 1) / 64 → flag_at flags w₁ q ≡ flag_at flags w q
  flag-other q n = w₁-other (flags + (q - 1) / 64) (omega (arith, r.low)) (omega arith)

  flag-own : (q : ℕ) → (q - 1) / 64 ≡ (q₀ - 1) / 64 → flag_at flags w₁ q ≡ 1
  flag-own q e =
      ap (λ (x : ℕ). get_or w₁ (flags + x) 0) e ∙
      get_or-set_same (set w (3 * m + (q₀ - 1)) x₀) (flags + (q₀ - 1) / 64) 1 0 (simp length-set (omega (arith, r.long, r.m-bound)))

  starts-next : StartsTo m flags W w₀ w₁ (k + 1)
  starts-next =
      record {
        same_length = length-set (set w (3 * m + (q₀ - 1)) x₀) (flags + (q₀ - 1) / 64) 1 ∙ length-set w (3 * m + (q₀ - 1)) x₀ ∙ s.same_length;
        start = λ p x y o. elim (eq-or-ne (start_of W p) q₀) [
          | inl e ↦ omega (arith, ap (mark_at m w₁) e, w₁-own)
          | inr e ↦
              let l : p ≤ k = older p x y e in
              omega (arith, s.start p x l o, ap (λ (v : ℕ). v / 4) (mark-other (start_of W p) o (within p x l) e))
        ];
        bit = λ p x y o. elim (eq-or-ne (start_of W p) q₀) [
          | inl e ↦ ap (λ (v : ℕ). v % 4) (ap (mark_at m w₁) e ∙ w₁-own) ∙ four
          | inr e ↦
              let l : p ≤ k = older p x y e in
              ap (λ (v : ℕ). v % 4) (mark-other (start_of W p) o (within p x l) e) ∙ s.bit p x l o
        ];
        cause = λ q x y n. elim (eq-or-ne q q₀) [
          | inl e ↦ (k + 1, omega arith, omega arith, sym e, ap (mark_at m w₁) e ∙ w₁-own)
          | inr e ↦
              let t : (p : ℕ) × (1 ≤ p) × (p ≤ k) × (start_of W p ≡ q) × (mark_at m w q ≡ 4 * p + 2) = s.cause q x y (λ z. n (mark-other q x y e ∙ z)) in
              (t.0, t.1, omega (arith, t.2), t.3, mark-other q x y e ∙ t.4)
        ];
        flagged = λ q x y n f. elim (eq-or-ne ((q - 1) / 64) ((q₀ - 1) / 64)) [
          | inl e ↦ omega (arith, flag-own q e)
          | inr e ↦ s.flagged q x y (λ z. n (mark-other q (omega arith) y (λ g. e (ap (λ (v : ℕ). (v - 1) / 64) g)) ∙ z)) (sym (flag-other q e) ∙ f)
        ];
        rest = λ x u v. w₁-other x (λ e. elim u [ inl y ↦ omega arith | inr y ↦ omega arith ]) (λ e. elim v [ inl y ↦ omega arith | inr y ↦ omega (arith, r.m-bound) ]) ∙ s.rest x u v;
      }
    where
      four : x₀ % 4 ≡ 2
      four = omega arith

      older : (p : ℕ) → 1 ≤ p → p ≤ k + 1 → start_of W p ≢ q₀ → p ≤ k
      older p x y e = elim (eq-or-ne p (k + 1)) [ inl z ↦ absurd (e (ap (start_of W) z)) | inr z ↦ omega arith ]

-- a column with no row has no mark
starts-skip : {m flags : ℕ} {W : List Column} {w₀ w : List ℕ} {k : ℕ} → StartsTo m flags W w₀ w k → start_of W (k + 1) ≡ 0 → StartsTo m flags W w₀ w (k + 1)
starts-skip {m} {W = W} {w = w} {k = k} s z =
    record {
      same_length = s.same_length;
      start = λ p x y o. s.start p x (older p y o) o;
      bit = λ p x y o. s.bit p x (older p y o) o;
      cause = λ q x y n.
          let t : (p : ℕ) × (1 ≤ p) × (p ≤ k) × (start_of W p ≡ q) × (mark_at m w q ≡ 4 * p + 2) = s.cause q x y n in
          (t.0, t.1, omega (arith, t.2), t.3, t.4);
      flagged = s.flagged;
      rest = s.rest;
    }
  where
    older : (p : ℕ) → p ≤ k + 1 → 1 ≤ start_of W p → p ≤ k
    older p y o = elim (eq-or-ne p (k + 1)) [ inl e ↦ absurd (omega (arith, ap (start_of W) e)) | inr e ↦ omega arith ]

-- one column more, as mark_start marks it
starts_more : {m flags : ℕ} {W : List Column} {w₀ w w₁ : List ℕ} {k row : ℕ} → all (fits_rows m) W ≡ true → StartsTo m flags W w₀ w k → Room m flags w → k < length W →
    row ≡ smallest (get_or W k none) → w₁ ≡ start_marked m flags w row (k + 1) → StartsTo m flags W w₀ w₁ (k + 1)
starts_more {m} {flags} {W} {w₀} {w} {w₁} {k} {row} fits s r l a e =
    let q : k + 1 - 1 ≡ k = omega arith in
    let g : row ≡ start_of W (k + 1) = a ∙ ap (λ (x : ℕ). smallest (get_or W x none)) (sym q) in
    let within : (p : ℕ) → 1 ≤ p → p ≤ k + 1 → start_of W p ≤ m = λ p x y. (fits-at m W fits (p - 1) (omega arith)).high in
    subst (λ (x : List ℕ). StartsTo m flags W w₀ x (k + 1)) (sym (e ∙ ap (λ (x : ℕ). start_marked m flags w x (k + 1)) g))
    (elim (eq-or-ne (start_of W (k + 1)) 0) [
      | inl z ↦ rw (eq-eqb (start_of W (k + 1)) 0 z) (starts-skip s z)
      | inr z ↦ rw (ne_eqb (start_of W (k + 1)) 0 z) (starts-next s r (omega arith) (within (k + 1) (omega arith) (omega arith)) (λ p x y. within p x (omega arith)))
    ])

-- what marking asks, from a batch whose starts are given
pub can-mark : {starts : List ℕ} {m flags : ℕ} {work : List ℕ} {W : List Column} → (length W ≡ length starts) × ((k : ℕ) → k < length W → get_or starts k 0 ≡ smallest (get_or W k none)) →
    all (fits_rows m) W ≡ true → length W ≤ 64 → Room m flags work → IsZero work (3 * m) m → CanMark starts m flags work W
can-mark e f n r z = record { size = e.0; starts-are = λ k a b. e.1 (k - 1) (omega arith); fits = f; few = n; room = r; bare = z }

module _ {starts : List ℕ} {m flags : ℕ} {w₀ : List ℕ} {W : List Column} (c : CanMark starts m flags w₀ W) {w : List ℕ} {k : ℕ} (s : StartsTo m flags W w₀ w k)
    (l : k < length starts) where
  first-here : get_or starts k 0 ≡ smallest (get_or W k none)
  first-here =
      let q : suc k - 1 ≡ k = omega arith in
      sym (ap (λ (x : ℕ). get_or starts x 0) q) ∙ c.starts-are (suc k) (omega arith) (omega (arith, c.size)) ∙ ap (λ (x : ℕ). smallest (get_or W x none)) q

  room-here : Room m flags w
  room-here = record { m-bound = c.room.m-bound; low = c.room.low; long = omega (arith, c.room.long, s.same_length) }

  pub marking-row : Room m flags w × (get_or starts k 0 ≤ m) × (k + 1 ≤ 64)
  marking-row = (room-here, omega (arith, first-here, (fits-at m W c.fits k (omega (arith, c.size))).high), omega (arith, c.few, c.size))

  pub marking-next : {w₁ : List ℕ} {position : ℕ} → w₁ ≡ start_marked m flags w (get_or starts k 0) position → position ≡ k + 1 → StartsTo m flags W w₀ w₁ (k + 1)
  marking-next e q = starts_more c.fits s room-here (omega (arith, c.size)) first-here (e ∙ ap (start_marked m flags w (get_or starts k 0)) q)

pub marking-end : {starts : List ℕ} {m flags : ℕ} {W : List Column} {w₀ w : List ℕ} {k : ℕ} → CanMark starts m flags w₀ W → StartsTo m flags W w₀ w k → k ≤ length starts →
    length starts ≤ k → StartsTo m flags W w₀ w (length W)
marking-end {m = m} {flags} {W} {w₀} {w} {k} c s a b = let e : k ≡ length W = omega (arith, c.size) in subst (λ (x : ℕ). StartsTo m flags W w₀ w x) e s

-- ---- A: batch columns handled

pub record Counting (m : ℕ) (R W : List Column) (adding : Bool) (w₀ w : List ℕ) (n j k : ℕ) : Type 0 where
  pub so_far : SoFar m R W adding w n j k nobody
  pub only : OnlyIn 0 (3 * m) w₀ w

pub counting-start : {m : ℕ} {R W : List Column} {adding : Bool} {w : List ℕ} {j : ℕ} → CanStart m R W adding w j → Counting m R W adding w w 0 j 0
counting-start c = record { so_far = c.so_far; only = only-refl }

module _ {m : ℕ} {R W : List Column} {adding : Bool} {w₀ w : List ℕ} {n j k : ℕ} (c : CanStart m R W adding w₀ j) (t : Counting m R W adding w₀ w n j k)
    (l : k < length W) where
  pub counting-steady : Steady m w n
  counting-steady = so-far-steady m R W adding j c.low c.high t.so_far c.narrow c.few

  -- it starts here
  pub counting-here : {w' : List ℕ} {n' : ℕ} → smallest (get_or W k none) ≡ j → Bumps m w w' n' adding (holds (get_or W k none)) → Counting m R W adding w₀ w' n' j (k + 1)
  counting-here {w'} {n'} e b =
      record {
        so_far = so-far-column m R W adding j c.low c.high none l e (λ i x. rows_above m (get_or W k none) (fits-at m W c.fits k l) i (omega arith)) t.so_far b;
        only = only-trans t.only b.only;
      }

  -- it starts elsewhere
  pub counting-past : smallest (get_or W k none) ≢ j → Counting m R W adding w₀ w n j (k + 1)
  counting-past e = record { so_far = so-far-past m R W adding j c.low c.high none l e t.so_far; only = t.only }

pub counting-end : {m : ℕ} {R W : List Column} {adding : Bool} {w₀ w : List ℕ} {n j k : ℕ} → CanStart m R W adding w₀ j → Counting m R W adding w₀ w n j k → length W ≤ k →
    Started m R W adding w₀ w n j
counting-end {m} {R} {W} {adding} {j = j} c t l = record { so_far = so-far-all m R W adding j c.low c.high l t.so_far; only = t.only }

-- none of them starts here
pub started_none : {m : ℕ} {R W : List Column} {adding : Bool} {w : List ℕ} {j : ℕ} → CanStart m R W adding w j →
    ((i : ℕ) → 1 ≤ i → i ≤ length W → start_of W i ≡ j → mark_at m w j % 4 ≡ 2) → mark_at m w j % 4 ≢ 2 → Started m R W adding w w 0 j
started_none {m} {R} {W} {adding} {w} {j} c bits n = counting-end c (go (length W) (omega arith)) (omega arith)
  where
    away : (k : ℕ) → k < length W → smallest (get_or W k none) ≢ j
    away k l e = let q : suc k - 1 ≡ k = omega arith in n (bits (suc k) (omega arith) (omega arith) (ap (λ (v : ℕ). smallest (get_or W v none)) q ∙ e))

    go : (k : ℕ) → k ≤ length W → Counting m R W adding w w 0 j k
    go zero l = counting-start c
    go (suc k) l = subst (λ (x : ℕ). Counting m R W adding w w 0 j x) (add-one k) (counting-past c (go k (omega arith)) (omega arith) (away k (omega arith)))

-- ---- the loop over listed columns

module _ {starts counts list : List ℕ} {m : ℕ} {R W : List Column} {w₀ w : List ℕ} {n j k at : ℕ} (c : CanStart m R W true w₀ j) (r : Reading starts counts list W k at)
    (t : Counting m R W true w₀ w n j k) (l : k < length counts) where
  -- it starts here
  module _ (e : get_or starts k 0 ≡ j) where
    listed-rows : take (at + get_or counts k 0 - at) (drop at list) ≡ (get_or W k none).rows
    listed-rows =
        let q : at + get_or counts k 0 - at ≡ get_or counts k 0 = omega arith in
        ap (λ (x : ℕ). take x (drop at list)) q ∙ sym (reading-rows r l (omega (arith, c.low)))

    pub listed-gather : CanGather m w × (rises 1 m (take (at + get_or counts k 0 - at) (drop at list)) ≡ true)
    listed-gather = (can-gather (counting-steady c t (omega (arith, r.size))), ap (rises 1 m) listed-rows ∙ (fits-at m W c.fits k (omega (arith, r.size))).rising)

    pub listed_here : {w₁ w₂ : List ℕ} {g n' : ℕ} → Gathered m w w₁ g (λ i. among i (take (at + get_or counts k 0 - at) (drop at list))) → Counted m w₁ g true w₂ n' →
        Counting m R W true w₀ w₂ n' j (k + 1)
    listed_here a b =
        counting-here c t (omega (arith, r.size)) (reading-first r l ∙ e) (bumps a true (holds (get_or W k none)) (λ i x y. ap (λ (z : List ℕ). among i z) listed-rows) b)

  pub listed-past : get_or starts k 0 ≢ j → Counting m R W true w₀ w n j (k + 1)
  listed-past e = counting-past c t (omega (arith, r.size)) (λ x. e (sym (reading-first r l) ∙ x))
