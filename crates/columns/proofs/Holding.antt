-- What records hold, in this order: HoldsFrom put together (nil, skip, cons, append) and taken apart (`holds-next`); where a search for a row stops cuts
-- records and multiplicities in two (`holds-cut`); the first record (`holds-first`); rising rows, a row's multiplicity (`holds-count`); rows of
-- records; entries as pairs; other tables with the same entries (`holds_frame`, `holds-put`).
-- Assumes nothing.
use mathlib.Core.Path.{◌≡◌, refl, sym, ap, ◌∙◌, subst}
use mathlib.Core.Logic.{inl, inr}
use mathlib.Core.Bool.{true, ◌&&◌}
use mathlib.Core.List.{List, [], ◌∷◌, ◌++◌}
use Prim.Native.Nat.{ℕ, zero, suc, ◌+◌, ◌≤◌, ◌<◌}
use native.Mathlib.Omega.{arith}
use lib.Dec.{leb}
use lib.ListN.{length, get_or}
use borrow.Author.Tests.{le-leb, lt-leb, eq-eqb, ne_eqb}
use Rattle.lists.specs.Lists.{Mem, first, later, at, put, values_at, times, rises, pairs_of}
use Rattle.lists.proofs.Tests.{zero-or-pos, eq-or-ne, and_both}
use Rattle.lists.proofs.Rising.{rises-in}
use Rattle.lists.proofs.Place.{values-append, values-frame, values-put, values-mem}
use Rattle.symbolic.specs.Factor.{pattern_from, non_zero}
use Rattle.symbolic.proofs.Patterns.{pattern-append, counts-append, pattern-rises, pattern-find}
use Rattle.pool.specs.Chains.{last_of}
use Rattle.columns.specs.Search.{last_below, count_of, entries_at}
use Rattle.columns.specs.Commit.{HoldsFrom}
use Rattle.columns.proofs.Search.{above-none}

-- the first of rows a on: without a multiplicity, or the first record's
pub data Next (xs cs : List ℕ) (a n : ℕ) (ns rs : List ℕ) : Type 0 where
  absent : n ≡ 0 → HoldsFrom xs cs (suc a) ns rs → Next xs cs a n ns rs
  present : (r : ℕ) (ss : List ℕ) → rs ≡ r ∷ ss → at xs r ≡ a → at cs r ≡ n → 0 < n → HoldsFrom xs cs (suc a) ns ss → Next xs cs a n ns rs

-- records and multiplicities from row a on, cut where the search for row i stops; p stands before them
pub record Cut (xs cs : List ℕ) (a : ℕ) (ns : List ℕ) (p : ℕ) (rs : List ℕ) (i : ℕ) : Type 0 where
  pub passed : List ℕ
  pub left : List ℕ
  pub low : List ℕ
  pub high : List ℕ
  pub records-are : rs ≡ passed ++ left
  pub counts-are : ns ≡ low ++ high
  pub long : a + length low ≡ i
  pub front : HoldsFrom xs cs a low passed
  pub back : HoldsFrom xs cs i high left
  pub last : last_below xs p rs i ≡ last_of p passed

-- the first record: no row before its own has a multiplicity
pub record First (xs cs : List ℕ) (a : ℕ) (ns : List ℕ) (r : ℕ) (rs : List ℕ) : Type 0 where
  pub skipped : List ℕ
  pub count : ℕ
  pub after : List ℕ
  pub counts-are : ns ≡ skipped ++ (count ∷ after)
  pub some : 0 < count
  pub row : at xs r ≡ a + length skipped
  pub value : at cs r ≡ count
  pub none : HoldsFrom xs cs a skipped []
  pub back : HoldsFrom xs cs (suc (a + length skipped)) after rs

module _ {xs cs : List ℕ} where
  -- ---- put together

  pub holds-nil : (a : ℕ) → HoldsFrom xs cs a [] []
  unfolding values_at pattern_from non_zero
  holds-nil a = record { rows = refl; counts = refl }

  pub holds-skip : {a : ℕ} {ns rs : List ℕ} (n : ℕ) → n ≡ 0 → HoldsFrom xs cs (suc a) ns rs → HoldsFrom xs cs a (n ∷ ns) rs
  unfolding pattern_from non_zero
  holds-skip n z h = record { rows = rw (eq-eqb n 0 z) h.rows; counts = rw (eq-eqb n 0 z) h.counts }

  pub holds-cons : {a : ℕ} {ns rs : List ℕ} (r n : ℕ) → at xs r ≡ a → at cs r ≡ n → 0 < n → HoldsFrom xs cs (suc a) ns rs → HoldsFrom xs cs a (n ∷ ns) (r ∷ rs)
  unfolding values_at pattern_from non_zero
  holds-cons r n e f p h = record { rows = rw (ne_eqb n 0 (λ z. omega arith), e, h.rows) refl; counts = rw (ne_eqb n 0 (λ z. omega arith), f, h.counts) refl }

  pub holds-append : {a : ℕ} {ms ns rs ss : List ℕ} → HoldsFrom xs cs a ms rs → HoldsFrom xs cs (a + length ms) ns ss → HoldsFrom xs cs a (ms ++ ns) (rs ++ ss)
  holds-append {a} {ms} {ns} {rs} {ss} h k =
      record {
        rows = values-append xs rs ss ∙ rw (h.rows, k.rows) (sym (pattern-append a ms ns));
        counts = values-append cs rs ss ∙ rw (h.counts, k.counts) (sym (counts-append ms ns));
      }

  -- ---- taken apart at the first row

  pub holds-next : (a n : ℕ) (ns rs : List ℕ) → HoldsFrom xs cs a (n ∷ ns) rs → Next xs cs a n ns rs
  unfolding values_at pattern_from non_zero
  holds-next a n ns rs h =
      elim (zero-or-pos n) [
        | inl z ↦ absent z (record { rows = rw (eq-eqb n 0 z) at h.rows; counts = rw (eq-eqb n 0 z) at h.counts })
        | inr p ↦ go rs p (rw (ne_eqb n 0 (λ z. omega arith)) at h.rows) (rw (ne_eqb n 0 (λ z. omega arith)) at h.counts)
      ]
    where
      go : (rs : List ℕ) → 0 < n → values_at xs rs ≡ a ∷ pattern_from (suc a) ns → values_at cs rs ≡ n ∷ non_zero ns → Next xs cs a n ns rs
      go [] p e f = absurd (omega (arith, ap length e))
      go (r ∷ ss) p e f = present r ss refl (cc) (cc) p (record { rows = cc; counts = cc })

  pub holds-none : (a : ℕ) (rs : List ℕ) → HoldsFrom xs cs a [] rs → rs ≡ []
  unfolding values_at pattern_from non_zero
  holds-none a [] h = refl
  holds-none a (r ∷ rs) h = absurd (omega (arith, ap length h.rows))

  -- ---- where a search stops

  -- the records from one on, at the first row
  last-stays : (a : ℕ) (ns : List ℕ) (p : ℕ) (rs : List ℕ) → HoldsFrom xs cs a ns rs → last_below xs p rs a ≡ p
  unfolding values_at last_below
  last-stays a ns p [] h = refl
  last-stays a ns p (r ∷ rs) h =
      let t : (k : ℕ) × (at xs r ≡ a + k) × (k < length ns) × (0 < get_or ns k 0) = pattern-find {x = at xs r} a ns (subst (λ (l : List ℕ). Mem (at xs r) l) h.rows first) in
      rw (le-leb a (at xs r) (omega arith)) refl

  cut-here : (a : ℕ) (ns : List ℕ) (p : ℕ) (rs : List ℕ) (i : ℕ) → a ≡ i → HoldsFrom xs cs a ns rs → Cut xs cs a ns p rs i
  unfolding last_of
  cut-here a ns p rs i e k =
      subst (λ (x : ℕ). Cut xs cs a ns p rs x) e
      (record {
        passed = [];
        left = rs;
        low = [];
        high = ns;
        records-are = refl;
        counts-are = refl;
        long = omega arith;
        front = holds-nil a;
        back = k;
        last = last-stays a ns p rs k;
      })

  cut-further : (a n : ℕ) (ns : List ℕ) (p : ℕ) (rs : List ℕ) (i : ℕ) → a < i →
      ((q : ℕ) (ss : List ℕ) → HoldsFrom xs cs (suc a) ns ss → Cut xs cs (suc a) ns q ss i) → Next xs cs a n ns rs → Cut xs cs a (n ∷ ns) p rs i
  unfolding last_of last_below
  cut-further a n ns p rs i l f (absent z k) =
      let c : Cut xs cs (suc a) ns p rs i = f p rs k in
      record {
        passed = c.passed;
        left = c.left;
        low = n ∷ c.low;
        high = c.high;
        records-are = c.records-are;
        counts-are = ap (λ (l : List ℕ). n ∷ l) c.counts-are;
        long = omega (arith, c.long);
        front = holds-skip n z c.front;
        back = c.back;
        last = c.last;
      }
  cut-further a n ns p rs i l f (present r ss e x y q k) =
      let c : Cut xs cs (suc a) ns r ss i = f r ss k in
      record {
        passed = r ∷ c.passed;
        left = c.left;
        low = n ∷ c.low;
        high = c.high;
        records-are = e ∙ ap (λ (l : List ℕ). r ∷ l) c.records-are;
        counts-are = ap (λ (l : List ℕ). n ∷ l) c.counts-are;
        long = omega (arith, c.long);
        front = holds-cons r n x y q c.front;
        back = c.back;
        last = rw (e, lt-leb i (at xs r) (omega arith)) c.last;
      }

  pub holds-cut : (a : ℕ) (ns : List ℕ) (p : ℕ) (rs : List ℕ) (i : ℕ) → a ≤ i → i ≤ a + length ns → HoldsFrom xs cs a ns rs → Cut xs cs a ns p rs i
  holds-cut a [] p rs i l h k = cut-here a [] p rs i (omega arith) k
  holds-cut a (n ∷ ns) p rs i l h k =
      elim (eq-or-ne a i) [
        | inl e ↦ cut-here a (n ∷ ns) p rs i e k
        | inr e ↦ cut-further a n ns p rs i (omega arith) (λ q ss j. holds-cut (suc a) ns q ss i (omega arith) (omega arith) j) (holds-next a n ns rs k)
      ]

  -- ---- the first record: no row before its own has a multiplicity

  first-further : (a n : ℕ) (ns : List ℕ) (r : ℕ) (rs ss : List ℕ) → ss ≡ r ∷ rs → (HoldsFrom xs cs (suc a) ns (r ∷ rs) → First xs cs (suc a) ns r rs) → Next xs cs a n ns ss → First xs cs a (n ∷ ns) r rs
  first-further a n ns r rs ss e f (absent z k) =
      let c : First xs cs (suc a) ns r rs = f (subst (λ (l : List ℕ). HoldsFrom xs cs (suc a) ns l) e k) in
      record {
        skipped = n ∷ c.skipped;
        count = c.count;
        after = c.after;
        counts-are = ap (λ (l : List ℕ). n ∷ l) c.counts-are;
        some = c.some;
        row = omega (arith, c.row);
        value = c.value;
        none = holds-skip n z c.none;
        back = let q : suc (suc a + length c.skipped) ≡ suc (a + suc (length c.skipped)) = omega arith in subst (λ (x : ℕ). HoldsFrom xs cs x c.after rs) q c.back;
      }
  first-further a n ns r rs ss e f (present q qs d x y p k) =
      let same : r ∷ rs ≡ q ∷ qs = sym e ∙ d in
      let head : q ≡ r = cc in
      let tail : qs ≡ rs = cc in
      record {
        skipped = [];
        count = n;
        after = ns;
        counts-are = refl;
        some = p;
        row = omega (arith, x, ap (at xs) head);
        value = omega (arith, y, ap (at cs) head);
        none = holds-nil a;
        back = let z : suc a ≡ suc (a + 0) = omega arith in subst (λ (x : ℕ). HoldsFrom xs cs x ns rs) z (subst (λ (l : List ℕ). HoldsFrom xs cs (suc a) ns l) tail k);
      }

  pub holds-first : (a : ℕ) (ns : List ℕ) (r : ℕ) (rs : List ℕ) → HoldsFrom xs cs a ns (r ∷ rs) → First xs cs a ns r rs
  holds-first a [] r rs h = absurd (omega (arith, ap length (holds-none a (r ∷ rs) h)))
  holds-first a (n ∷ ns) r rs h = first-further a n ns r rs (r ∷ rs) refl (λ k. holds-first (suc a) ns r rs k) (holds-next a n ns (r ∷ rs) h)

  -- ---- what is read of it

  pub holds-rises : {a : ℕ} {ns rs : List ℕ} (b : ℕ) → a + length ns ≤ suc b → HoldsFrom xs cs a ns rs → rises a b (values_at xs rs) ≡ true
  holds-rises {a} {ns} {rs} b l h = rw h.rows (pattern-rises a ns b l)

  -- the multiplicity of a row
  count-below : {a : ℕ} {ns rs : List ℕ} (i : ℕ) → i < a → HoldsFrom xs cs a ns rs → count_of xs cs rs i ≡ 0
  count-below {a} {ns} {rs} i l h = above-none xs cs rs a (a + length ns) i (holds-rises (a + length ns) (omega arith) h) l

  pub holds-count : (a : ℕ) (ns rs : List ℕ) (k : ℕ) → HoldsFrom xs cs a ns rs → count_of xs cs rs (a + k) ≡ get_or ns k 0
  unfolding count_of
  holds-count a [] rs k h = rw (holds-none a rs h) refl
  holds-count a (n ∷ ns) rs zero h = go (holds-next a n ns rs h)
    where
      go : Next xs cs a n ns rs → count_of xs cs rs (a + 0) ≡ n
      go (absent z j) = omega (arith, count-below (a + 0) (omega arith) j)
      go (present r ss e x y p j) = rw (e, eq-eqb (at xs r) (a + 0) (omega arith)) y
  holds-count a (n ∷ ns) rs (suc k) h = go (holds-next a n ns rs h) (λ ss j. holds-count (suc a) ns ss k j)
    where
      shift : suc a + k ≡ a + suc k
      shift = omega arith

      go : Next xs cs a n ns rs → ((ss : List ℕ) → HoldsFrom xs cs (suc a) ns ss → count_of xs cs ss (suc a + k) ≡ get_or ns k 0) → count_of xs cs rs (a + suc k) ≡ get_or ns k 0
      go (absent z j) f = rw (← shift) (f rs j)
      go (present r ss e x y p j) f = rw (e, ne_eqb (at xs r) (a + suc k) (λ q. omega arith)) (rw (← shift) (f ss j))

-- ---- rows of records

-- a record's row has a multiplicity
pub holds_row : {xs cs : List ℕ} {a : ℕ} {ns rs : List ℕ} → HoldsFrom xs cs a ns rs → (x : ℕ) → Mem x rs → (k : ℕ) × (at xs x ≡ a + k) × (k < length ns) × (0 < get_or ns k 0)
holds_row {xs} {cs} {a} {ns} {rs} h x m = pattern-find {x = at xs x} a ns (subst (λ (l : List ℕ). Mem (at xs x) l) h.rows (values-mem xs m))

-- where rows rise, a later one is above the first, and a row stands once
later-above : (xs : List ℕ) (a b r : ℕ) (rs : List ℕ) → rises a b (values_at xs (r ∷ rs)) ≡ true → (y : ℕ) → Mem y rs → at xs r < at xs y
unfolding rises values_at
later-above xs a b r rs h y m =
    (rises-in (suc (at xs r)) b (values-mem xs m) (and_both (leb a (at xs r) && leb (at xs r) b) (rises (suc (at xs r)) b (values_at xs rs)) h).1).0

pub rises-once : (xs : List ℕ) (a b : ℕ) {x y : ℕ} (rs : List ℕ) → rises a b (values_at xs rs) ≡ true → Mem x rs → Mem y rs → at xs x ≡ at xs y → x ≡ y
unfolding rises values_at
rises-once xs a b {x = x} {y = y} [] h x6 _ e = elim x6 [ ]
rises-once xs a b (r ∷ rs) h first first e = refl
rises-once xs a b {y = y} (r ∷ rs) h first (later m) e = absurd (omega (arith, later-above xs a b r rs h y m))
rises-once xs a b {x = x} (r ∷ rs) h (later m) first e = absurd (omega (arith, later-above xs a b r rs h x m))
rises-once xs a b (r ∷ rs) h (later m) (later n) e = rises-once xs (suc (at xs r)) b rs (and_both (leb a (at xs r) && leb (at xs r) b) (rises (suc (at xs r)) b (values_at xs rs)) h).1 m n e

pub entries-pairs : (xs cs rs : List ℕ) → entries_at xs cs rs ≡ pairs_of (values_at xs rs) (values_at cs rs)
unfolding entries_at pairs_of values_at
entries-pairs xs cs [] = refl
entries-pairs xs cs (r ∷ rs) = ap (λ (l : List ℕ). at xs r ∷ at cs r ∷ l) (entries-pairs xs cs rs)

pub holds-pairs : {xs cs : List ℕ} {a : ℕ} {ns rs : List ℕ} → HoldsFrom xs cs a ns rs → entries_at xs cs rs ≡ pairs_of (pattern_from a ns) (non_zero ns)
holds-pairs {xs} {cs} {a} {ns} {rs} h = entries-pairs xs cs rs ∙ rw (h.rows, h.counts) refl

-- ---- other tables with the same entries

pub holds_frame : {xs cs xs' cs' : List ℕ} {a : ℕ} {ns rs : List ℕ} → ((x : ℕ) → 1 ≤ times x rs → (at xs' x ≡ at xs x) × (at cs' x ≡ at cs x)) → HoldsFrom xs cs a ns rs → HoldsFrom xs' cs' a ns rs
holds_frame {xs} {cs} {xs'} {cs'} {a} {ns} {rs} f h =
    record { rows = values-frame xs xs' rs (λ x n. (f x n).0) ∙ h.rows; counts = values-frame cs cs' rs (λ x n. (f x n).1) ∙ h.counts }

module _ {xs cs : List ℕ} {a : ℕ} {ns rs : List ℕ} (q : ℕ) (low : 1 ≤ q) (lows : (x : ℕ) → 1 ≤ times x rs → 1 ≤ x) (out : times q rs ≡ 0) (h : HoldsFrom xs cs a ns rs) where
  pub holds-count-put : (v : ℕ) → HoldsFrom xs (put cs q v) a ns rs
  holds-count-put v = record { rows = h.rows; counts = values-put cs rs q v low lows out ∙ h.counts }

  pub holds-put : (i v : ℕ) → HoldsFrom (put xs q i) (put cs q v) a ns rs
  holds-put i v = record { rows = values-put xs rs q i low lows out ∙ h.rows; counts = values-put cs rs q v low lows out ∙ h.counts }
