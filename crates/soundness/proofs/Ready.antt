-- From the state before column j to the calls that read it: its children and starting columns are listed, the stash has the children's rows, so all that it is
-- given can be counted (ready-tally); counted, the counters are the definition's multiplicities (ready-counters), and the chain can be walked against them
-- (ready-check). Assumes nothing.
use mathlib.Core.Path.{◌≡◌, refl, sym, ap, subst, ◌∙◌}
use mathlib.Core.Bool.{Bool, true, ◌&&◌}
use mathlib.Core.List.{List, ◌∷◌, ◌++◌}
use Prim.Native.Nat.{ℕ, suc, ◌+◌, ◌-◌, ◌≤◌, ◌<◌}
use native.Mathlib.Omega.{arith}
use lib.Dec.{eqb}
use lib.ListN.{length, get_or, drop, replicate}
use lib.Seq.{drop_at}
use borrow.Author.Tests.{eqb-true}
use Rattle.lists.specs.Lists.{at, times, same, values_at, rises}
use Rattle.lists.proofs.Tests.{and_both}
use Rattle.lists.proofs.Member.{same-eq}
use Rattle.lists.proofs.Times.{times-cons, UpTo}
use Rattle.lists.proofs.Rising.{rises-length}
use Rattle.lists.proofs.Place.{values_length}
use Rattle.workspace.specs.Layout.{child_head, child_next, column_head, stash_start, row_stash, column_next}
use Rattle.workspace.specs.Regions.{cell, region}
use Rattle.workspace.proofs.Regions.{region-length, region-join, zero-region}
use Rattle.symbolic.specs.Factor.{FactorColumn, factor_of, column_at, parent_of, pattern_of, multiplicities_of}
use Rattle.symbolic.proofs.Patterns.{pattern-parts, pattern-within-rows}
use Rattle.pool.specs.Chains.{Linked}
use Rattle.pool.proofs.Chains.{linked-chain, linked-self}
use Rattle.book.specs.Book as book
use Rattle.book.specs.Tally.{tallied, booked_rows}
use Rattle.book.proofs.Sound.{Sound, sound-of}
use Rattle.tables.specs.Stored.{Stored, records_of, holds_column}
use Rattle.counting.specs.Counting.{numbered, gathered, start_at}
use Rattle.counting.specs.Given.{Counted, children_in, stashed, Stashed, starting_in, given_in, CanTallyAll}
use Rattle.soundness.specs.Checking.{CanCheck}
use Rattle.soundness.specs.State.{live_in, State}
use Rattle.counting.proofs.Numbers.{numbered-in, gathered-ext}
use Rattle.counting.proofs.Given.{counted-filled}
use Rattle.soundness.proofs.Local.{rows-rise, rows_few, rises-up, Verified, given_is}

-- ---- a region but its first place

pub region-tail : (w : List ℕ) (a l : ℕ) → a + (1 + l) ≤ length w → region w (a + 1) l ≡ drop 1 (region w a (1 + l))
region-tail w a l h = sym (ap (drop 1) (region-join w a 1 l) ∙ drop_at (region w a 1) (region w (a + 1) l) 1 (region-length w a 1 (omega arith)))

-- ---- a column that was read

-- the tail of its rows
abbrev pub tail_of : Stored → (c : ℕ) → List ℕ
tail_of s c = drop 1 (values_at s.rows (records_of s c))

pub record HeldColumn (s : Stored) (f : FactorColumn) (j : ℕ) : Type 0 where
  pub rows_are : values_at s.rows (records_of s j) ≡ pattern_of f
  pub counts-are : values_at s.counts (records_of s j) ≡ multiplicities_of f
  pub parent_is : at s.parents j ≡ f.parent

pub held : (s : Stored) (f : FactorColumn) (j : ℕ) → holds_column s j f ≡ true → HeldColumn s f j
held s f j e =
    let x : Bool = same (values_at s.rows (records_of s j)) (pattern_of f) in
    let y : Bool = same (values_at s.counts (records_of s j)) (multiplicities_of f) in
    let t : ((x && y) ≡ true) × (eqb (at s.parents j) f.parent ≡ true) = and_both (x && y) (eqb (at s.parents j) f.parent) e in
    let u : (x ≡ true) × (y ≡ true) = and_both x y t.0 in
    record {
      rows_are = same-eq (values_at s.rows (records_of s j)) (pattern_of f) u.0;
      counts-are = same-eq (values_at s.counts (records_of s j)) (multiplicities_of f) u.1;
      parent_is = eqb-true (at s.parents j) f.parent t.1;
    }

module _ {s : Stored} {b : book.Book} {windows : List ℕ} {clock : ℕ} {w : List ℕ} {j met : ℕ} (st : State s b windows clock w j met) where
  abbrev m : ℕ
  m = length s.heads

  abbrev f : ℕ
  f = length s.next

  abbrev L : List FactorColumn
  L = factor_of (length s.heads) (live_in s b windows clock)

  read-column : (c : ℕ) → 1 ≤ c → c < j → HeldColumn s (column_at L c) c
  read-column c p q = held s (column_at L c) c (st.holds c p q)

  read-verified : (c : ℕ) → 1 ≤ c → c < j → Verified m (live_in s b windows clock) (at s.parents) (tail_of s) c
  read-verified c p q =
      let h : HeldColumn s (column_at L c) c = read-column c p q in
      let t : (rest : List ℕ) × (pattern_of (column_at L c) ≡ c ∷ rest) × (rises (suc c) m rest ≡ true) × (get_or rest 0 0 ≡ parent_of L c) = pattern-parts m (live_in s b windows clock) c p (omega (arith, st.high)) in
      let e : tail_of s c ≡ t.0 = ap (drop 1) (h.rows_are ∙ t.1) in
      record { parent_is = h.parent_is; rows_are = t.1 ∙ ap (λ (l : List ℕ). c ∷ l) (sym e) }

  -- how many records it has
  read_length : (c : ℕ) → 1 ≤ c → c < j → (length (records_of s c) ≡ 1 + length (tail_of s c)) × (length (records_of s c) ≤ m)
  read_length c p q =
      let h : HeldColumn s (column_at L c) c = read-column c p q in
      let v : Verified m (live_in s b windows clock) (at s.parents) (tail_of s) c = read-verified c p q in
      let l : length (records_of s c) ≡ length (pattern_of (column_at L c)) = sym (values_length s.rows (records_of s c)) ∙ ap length h.rows_are in
      let r : length (pattern_of (column_at L c)) + 1 ≤ suc m = rises-length 1 m (pattern_of (column_at L c)) (omega arith) (pattern-within-rows m (live_in s b windows clock) c p (omega (arith, st.high))) in
      (omega (arith, l, ap length v.rows_are), omega arith)

  -- its rows but the first, in the stash
  module _ (c : ℕ) (p : 1 ≤ c) (q : c < j) where
    abbrev start : ℕ
    start = cell w (stash_start (length s.heads)) (c - 1)

    read-start : cell w (stash_start m) c ≡ start + (1 + length (tail_of s c))
    read-start = omega (arith, st.stash.start c p q, (read_length c p q).0)

    pub stash-tail : stashed w m f c ≡ tail_of s c
    stash-tail =
        let e : cell w (stash_start m) c - start - 1 ≡ length (tail_of s c) = omega (arith, read-start) in
        let k : 1 + length (tail_of s c) ≡ length (records_of s c) = omega (arith, (read_length c p q).0) in
        let fits : row_stash m f + start + (1 + length (tail_of s c)) ≤ length w = omega (arith, read-start, st.stash.below c p q, st.chains-walked.within, st.sizes.long) in
        ap (region w (row_stash m f + start + 1)) e ∙ region-tail w (row_stash m f + start) (length (tail_of s c)) fits ∙
        ap (drop 1) (ap (region w (row_stash m f + start)) k ∙ st.stash.rows_are c p q)

    pub stash-piece : UpTo m (tail_of s c) → Stashed w m f c
    stash-piece up =
        record {
          some = omega (arith, read-start);
          short = omega (arith, read-start, (read_length c p q).0, (read_length c p q).1);
          within = omega (arith, st.stash.below c p q, st.chains-walked.within);
          rows_in = subst (λ (l : List ℕ). UpTo m l) (sym stash-tail) up;
        }

  -- ---- column j can be counted

  module _ (inside : j ≤ length s.heads) where
    book-sound : Sound m b
    book-sound = sound-of m b st.sound

    kids-linked : Linked (region w (child_next m) m) (cell w (child_head m) (j - 1)) (numbered (at s.parents) j (j - 1))
    kids-linked = st.children j st.low inside

    kids-are : children_in w m j ≡ numbered (at s.parents) j (j - 1)
    kids-are = linked-chain (region w (child_next m) m) (cell w (child_head m) (j - 1)) (numbered (at s.parents) j (j - 1)) kids-linked

    cols-linked : Linked (region w (column_next m f (length b.next)) (length b.heads)) (cell w (column_head m) (j - 1)) (numbered (start_at b windows clock) j (length b.heads))
    cols-linked = st.columns j st.low inside

    cols-are : starting_in w m f (length b.heads) (length b.next) j ≡ numbered (start_at b windows clock) j (length b.heads)
    cols-are =
        linked-chain (region w (column_next m f (length b.next)) (length b.heads)) (cell w (column_head m) (j - 1)) (numbered (start_at b windows clock) j (length b.heads)) cols-linked

    a-kid : (c : ℕ) → 1 ≤ times c (children_in w m j) → (1 ≤ c) × (c < j)
    a-kid c n =
        let t : (1 ≤ c) × (c ≤ j - 1) × (at s.parents c ≡ j) = numbered-in (at s.parents) j (j - 1) c (subst (λ (l : List ℕ). 1 ≤ times c l) kids-are n) in
        (t.0, omega (arith, st.low))

    an-id : (i : ℕ) → 1 ≤ times i (starting_in w m f (length b.heads) (length b.next) j) → (1 ≤ i) × (i ≤ length b.heads)
    an-id i n =
        let t : (1 ≤ i) × (i ≤ length b.heads) × (start_at b windows clock i ≡ j) =
        numbered-in (start_at b windows clock) j (length b.heads) i (subst (λ (l : List ℕ). 1 ≤ times i l) cols-are n) in
        (t.0, t.1)

    tails-up : (c : ℕ) → 1 ≤ c → c < j → UpTo m (tail_of s c)
    tails-up c p q =
        let v : Verified m (live_in s b windows clock) (at s.parents) (tail_of s) c = read-verified c p q in
        tail-rows m (pattern_of (column_at L c)) c (tail_of s c) v.rows_are (rises-up m (pattern_of (column_at L c)) (pattern-within-rows m (live_in s b windows clock) c p (omega (arith, st.high))))
      where
        tail-rows : (m : ℕ) (xs : List ℕ) (y : ℕ) (ys : List ℕ) → xs ≡ y ∷ ys → UpTo m xs → UpTo m ys
        tail-rows m xs y ys e up x n = up x (omega (arith, ap (times x) e, times-cons x y ys))

    pub ready-tally : CanTallyAll b.heads b.rows b.next w m f j
    ready-tally =
        record {
          zero = st.zero;
          sizes = record { low = st.low; high = inside; m-bound = st.sizes.m-bound; f-bound = st.sizes.f-bound; long = omega (arith, st.sizes.long) };
          n-bound = st.sizes.n-bound;
          c-bound = st.sizes.c-bound;
          table-long = omega (arith, st.sizes.long);
          children = linked-self (region w (child_next m) m) (cell w (child_head m) (j - 1)) (numbered (at s.parents) j (j - 1)) kids-linked;
          stash = λ c n. (let t : (1 ≤ c) × (c < j) = a-kid c n in stash-piece c t.0 t.1 (tails-up c t.0 t.1));
          starting =
              linked-self (region w (column_next m f (length b.next)) (length b.heads)) (cell w (column_head m) (j - 1)) (numbered (start_at b windows clock) j (length b.heads)) cols-linked;
          copied = λ i n.
              (let t : (1 ≤ i) × (i ≤ length b.heads) = an-id i n in
              record { free = b.free; has = record { m = m; sized = st.sizes.booked; sound = st.sound; low = t.0; high = t.1 }; fits = rows_few book-sound i t.0 });
          rows_in = λ i n. rises-up m (booked_rows b.heads b.rows b.next i) (rows-rise book-sound i (an-id i n).0);
        }

    abbrev given-rows : List ℕ
    given-rows =
        j ∷ (gathered (tail_of s) (numbered (at s.parents) j (j - 1)) ++ gathered (λ (i : ℕ). (book.column_for b i).rows) (numbered (start_at b windows clock) j (length b.heads)))

    given-same : given_in b.heads b.rows b.next w m f j ≡ given-rows
    given-same =
        let k : gathered (stashed w m f) (children_in w m j) ≡ gathered (tail_of s) (numbered (at s.parents) j (j - 1)) =
        gathered-ext (stashed w m f) (tail_of s) (children_in w m j) (λ c n. (let t : (1 ≤ c) × (c < j) = a-kid c n in stash-tail c t.0 t.1)) ∙ ap (gathered (tail_of s)) kids-are in
        let l : gathered (booked_rows b.heads b.rows b.next) (starting_in w m f (length b.heads) (length b.next) j) ≡ gathered (λ (i : ℕ). (book.column_for b i).rows) (numbered (start_at b windows clock) j (length b.heads)) =
        gathered-ext (booked_rows b.heads b.rows b.next) (λ (i : ℕ). (book.column_for b i).rows) (starting_in w m f (length b.heads) (length b.next) j) (λ i n. refl) ∙
        ap (gathered (λ (i : ℕ). (book.column_for b i).rows)) cols-are in
        rw (k, l) refl

    front-zero : region w 0 m ≡ replicate m 0
    front-zero = zero-region w 0 m (omega (arith, st.sizes.long)) st.zero

    module _ {w₁ : List ℕ} {size : ℕ} (d : Counted m w w₁ (given_in b.heads b.rows b.next w m f j) size) where
      -- the counters are the definition's multiplicities
      pub ready-counters : region w₁ 0 m ≡ (column_at L j).counts
      ready-counters =
          d.counters ∙ ap (tallied (region w 0 m)) given-same ∙ ap (λ (l : List ℕ). tallied l given-rows) front-zero ∙
          given_is book-sound windows clock (at s.parents) (tail_of s) j st.low inside read-verified

      pub ready-check : CanCheck s.rows s.counts s.next w₁ m met size
      ready-check =
          record {
            rows_long = st.sizes.stored.rows_long;
            counts-long = st.sizes.stored.counts-long;
            m-bound = st.sizes.m-bound;
            f-bound = st.sizes.f-bound;
            long = omega (arith, st.sizes.long, d.only.same_length);
            within = st.chains-walked.within;
            size_is = counted-filled d st.zero;
          }
