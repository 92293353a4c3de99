-- The book as a list of columns, in this order: the list at one id, and where its column starts; its ids rise, so none comes twice; an id is booked exactly if it is among
-- them; its members are the booked ids' columns, no more than ids, and column_of finds them; two books that differ at one id; the sum of the lengths.
-- Assumes nothing.
use mathlib.Core.Path.{◌≡◌, refl, sym, ap, subst, ◌∙◌}
use mathlib.Core.Logic.{inl, inr, ◌≢◌}
use mathlib.Core.Bool.{true, false, ◌&&◌, not}
use mathlib.Core.List.{List, [], ◌∷◌}
use Prim.Native.Nat.{ℕ, zero, suc, ◌+◌, ◌-◌, ◌≤◌, ◌<◌}
use native.Mathlib.Omega.{arith}
use lib.Dec.{leb, eqb}
use lib.ListN.{length, get_or, drop, get_or-eq_default}
use lib.Seq.{drop-cons, drop-length}
use borrow.Author.Tests.{le-leb, eq-eqb, ne_eqb, eqb-true, eqb-false, not-true, not-false}
use Rattle.lists.specs.Lists.{Mem, first, later, at, values_at, among, no_repeats, rises, sum_of}
use Rattle.lists.proofs.Tests.{cases, eq-or-ne, lt-or-le, and_both, both-and, both_ways, refute}
use Rattle.lists.proofs.Member.{among-mem, mem-among}
use Rattle.lists.proofs.Rising.{rises-in, rises-weaken}
use Rattle.lists.proofs.Place.{values_length}
use Rattle.symbolic.specs.Columns.{Column}
use Rattle.symbolic.specs.Change.{ids_of, without, column_of}
use Rattle.symbolic.proofs.Bags.{id-mem}
use Rattle.pool.specs.Chains.{chain_from, chain}
use Rattle.pool.specs.Whole.{chains}
use Rattle.pool.proofs.Chains.{chain-in, chain-nil}
use Rattle.pool.proofs.Whole.{chains-nil, chains-length}
use Rattle.book.specs.Book.{Book, is_booked, column_for, columns_from, columns_in}
use Rattle.book.specs.Entries.{StartsAt}

-- ---- the list at one id

pub columns-nil : (b : Book) (i : ℕ) → columns_from b i 0 ≡ []
unfolding columns_from
columns-nil b i = refl

pub columns-booked : (b : Book) (i n : ℕ) → is_booked b.heads i ≡ true → columns_from b i (suc n) ≡ column_for b i ∷ columns_from b (suc i) n
unfolding columns_from
columns-booked b i n e = rw e refl

pub columns-absent : (b : Book) (i n : ℕ) → is_booked b.heads i ≡ false → columns_from b i (suc n) ≡ columns_from b (suc i) n
unfolding columns_from
columns-absent b i n e = rw e refl

-- its smallest row is the row at its head, 0 where that is 0
module _ (hs rs : List ℕ) (i : ℕ) where
  pub start_none : at hs i ≡ 0 → StartsAt hs rs i 0
  unfolding values_at
  start_none e next z = rw (e, chain-nil (length next) next) refl

  pub start-head : at hs i ≢ 0 → at hs i ≤ length rs → StartsAt hs rs i (at rs (at hs i))
  unfolding values_at
  start-head e l next z =
      let h : ℕ = at hs i in
      let q : length next ≡ suc (length next - 1) = omega arith in
      let c : chain next h ≡ h ∷ chain_from (length next - 1) next (at next h) =
      ap (λ (n : ℕ). chain_from n next h) q ∙ chain-in (length next - 1) next h (omega arith) (omega arith) in
      sym (ap (λ (xs : List ℕ). get_or (values_at rs xs) 0 0) c)

-- a booked id is one of the book's
pub booked-within : (hs : List ℕ) (l : ℕ) → 1 ≤ l → is_booked hs l ≡ true → l ≤ length hs
booked-within hs l p e =
    elim (lt-or-le (length hs) l) [
      | inr h ↦ h
      | inl h ↦ absurd (eqb-false (at hs l) 0 (not-true (eqb (at hs l) 0) e) (get_or-eq_default hs 0 (omega arith)))
    ]

pub absent-zero : (hs : List ℕ) (l : ℕ) → is_booked hs l ≡ false → at hs l ≡ 0
absent-zero hs l e = eqb-true (at hs l) 0 (not-false (eqb (at hs l) 0) e)

pub zero-absent : (hs : List ℕ) (l : ℕ) → at hs l ≡ 0 → is_booked hs l ≡ false
zero-absent hs l e = ap not (eq-eqb (at hs l) 0 e)

pub booked-some : (hs : List ℕ) (l : ℕ) → is_booked hs l ≡ true → at hs l ≢ 0
booked-some hs l e = eqb-false (at hs l) 0 (not-true (eqb (at hs l) 0) e)

pub some-booked : (hs : List ℕ) (l : ℕ) → at hs l ≢ 0 → is_booked hs l ≡ true
some-booked hs l e = ap not (ne_eqb (at hs l) 0 e)

-- ---- members

pub record Booked (b : Book) (i n : ℕ) (c : Column) : Type 0 where
  pub id : ℕ
  pub low : i ≤ id
  pub high : id < i + n
  pub booked : is_booked b.heads id ≡ true
  pub is : c ≡ column_for b id

from-mem : (b : Book) (n i : ℕ) (c : Column) → Mem c (columns_from b i n) → Booked b i n c
from-mem b zero i c m = elim (subst (λ (l : List Column). Mem c l) (columns-nil b i) m) [ ]
from-mem b (suc n) i c m =
    elim (cases (is_booked b.heads i)) [
      | inl e ↦ here c e (subst (λ (l : List Column). Mem c l) (columns-booked b i n e) m) (from-mem b n (suc i) c)
      | inr e ↦ more (from-mem b n (suc i) c (subst (λ (l : List Column). Mem c l) (columns-absent b i n e) m))
    ]
  where
    more : Booked b (suc i) n c → Booked b i (suc n) c
    more k = record { id = k.id; low = omega (arith, k.low); high = omega (arith, k.high); booked = k.booked; is = k.is }

    here : (c : Column) → is_booked b.heads i ≡ true → Mem c (column_for b i ∷ columns_from b (suc i) n) → (Mem c (columns_from b (suc i) n) → Booked b (suc i) n c) → Booked b i (suc n) c
    here c e first f = record { id = i; low = omega arith; high = omega arith; booked = e; is = refl }
    here c e (later k) f = let t : Booked b (suc i) n c = f k in record { id = t.id; low = omega (arith, t.low); high = omega (arith, t.high); booked = t.booked; is = t.is }

mem-from : (b : Book) (n i l : ℕ) → i ≤ l → l < i + n → is_booked b.heads l ≡ true → Mem (column_for b l) (columns_from b i n)
mem-from b zero i l p q e = absurd (omega arith)
mem-from b (suc n) i l p q e =
    elim (eq-or-ne i l) [
      | inl z ↦ rw z (subst (λ (t : List Column). Mem (column_for b l) t) (sym (columns-booked b l n e)) first)
      | inr z ↦
          let k : Mem (column_for b l) (columns_from b (suc i) n) = mem-from b n (suc i) l (omega arith) (omega arith) e in
          elim (cases (is_booked b.heads i)) [
            | inl d ↦ subst (λ (t : List Column). Mem (column_for b l) t) (sym (columns-booked b i n d)) (later k)
            | inr d ↦ subst (λ (t : List Column). Mem (column_for b l) t) (sym (columns-absent b i n d)) k
          ]
    ]

-- a member is a booked id's column, and a booked id's column is a member
pub columns-mem : (b : Book) {c : Column} → Mem c (columns_in b) → Booked b 1 (length b.heads) c
columns-mem b {c} m = from-mem b (length b.heads) 1 c m

pub mem-columns : (b : Book) (l : ℕ) → 1 ≤ l → is_booked b.heads l ≡ true → Mem (column_for b l) (columns_in b)
mem-columns b l p e = mem-from b (length b.heads) 1 l p (omega (arith, booked-within b.heads l p e)) e

-- no more columns than ids
from-count : (b : Book) (n i : ℕ) → length (columns_from b i n) ≤ n
from-count b zero i = rw (columns-nil b i) (omega arith)
from-count b (suc n) i =
    let k : length (columns_from b (suc i) n) ≤ n = from-count b n (suc i) in
    elim (cases (is_booked b.heads i)) [
      | inl e ↦ rw (columns-booked b i n e) (omega arith)
      | inr e ↦ rw (columns-absent b i n e) (omega arith)
    ]

pub columns-count : (b : Book) → length (columns_in b) ≤ length b.heads
columns-count b = from-count b (length b.heads) 1

-- ---- ids

ids-mem : (cs : List Column) (l : ℕ) → Mem l (ids_of cs) → (c : Column) × Mem c cs × (c.id ≡ l)
unfolding ids_of
ids-mem [] l m = elim m [ ]
ids-mem (c ∷ cs) l m = go l m (ids-mem cs l)
  where
    go : (l : ℕ) → Mem l (c.id ∷ ids_of cs) → (Mem l (ids_of cs) → (d : Column) × Mem d cs × (d.id ≡ l)) → (d : Column) × Mem d (c ∷ cs) × (d.id ≡ l)
    go l first f = (c, first, refl)
    go l (later m) f = let t : (d : Column) × Mem d cs × (d.id ≡ l) = f m in (t.0, later t.1, t.2)

from-rise : (b : Book) (n i z : ℕ) → i + n ≤ suc z → rises i z (ids_of (columns_from b i n)) ≡ true
unfolding ids_of rises
from-rise b zero i z h = rw (columns-nil b i) refl
from-rise b (suc n) i z h =
    let k : rises (suc i) z (ids_of (columns_from b (suc i) n)) ≡ true = from-rise b n (suc i) z (omega arith) in
    elim (cases (is_booked b.heads i)) [
      | inl e ↦ rw (columns-booked b i n e) (both-and (both-and (le-leb i i (omega arith)) (le-leb i z (omega arith))) k)
      | inr e ↦ rw (columns-absent b i n e) (rises-weaken (suc i) z i (ids_of (columns_from b (suc i) n)) (omega arith) k)
    ]

pub ids-rise : (b : Book) → rises 1 (length b.heads) (ids_of (columns_in b)) ≡ true
ids-rise b = from-rise b (length b.heads) 1 (length b.heads) (omega arith)

rises-distinct : (a z : ℕ) (xs : List ℕ) → rises a z xs ≡ true → no_repeats xs ≡ true
unfolding rises no_repeats
rises-distinct a z [] h = refl
rises-distinct a z (x ∷ xs) h =
    let t : ((leb a x && leb x z) ≡ true) × (rises (suc x) z xs ≡ true) = and_both (leb a x && leb x z) (rises (suc x) z xs) h in
    let n : among x xs ≡ false = refute (among x xs) (λ e. omega (arith, (rises-in (suc x) z (among-mem x xs e) t.1).0)) in
    rw n (rises-distinct (suc x) z xs t.1)

pub ids-distinct : (b : Book) → no_repeats (ids_of (columns_in b)) ≡ true
ids-distinct b = rises-distinct 1 (length b.heads) (ids_of (columns_in b)) (ids-rise b)

-- an id is booked exactly if it is among the ids
pub ids-booked : (b : Book) (l : ℕ) → 1 ≤ l → among l (ids_of (columns_in b)) ≡ is_booked b.heads l
ids-booked b l p =
    both_ways (among l (ids_of (columns_in b))) (is_booked b.heads l) (λ e. found (among-mem l (ids_of (columns_in b)) e))
    (λ e. mem-among (id-mem (mem-columns b l p e)))
  where
    found : Mem l (ids_of (columns_in b)) → is_booked b.heads l ≡ true
    found m =
        let t : (c : Column) × Mem c (columns_in b) × (c.id ≡ l) = ids-mem (columns_in b) l m in
        let k : Booked b 1 (length b.heads) t.0 = columns-mem b t.1 in
        let e : k.id ≡ l = sym (ap (λ (c : Column). c.id) k.is) ∙ t.2 in
        rw e at k.booked

-- ---- the column of an id

from-column : (b : Book) (n i l : ℕ) → i ≤ l → l < i + n → is_booked b.heads l ≡ true → column_of l (columns_from b i n) ≡ column_for b l
unfolding column_of
from-column b zero i l p q e = absurd (omega arith)
from-column b (suc n) i l p q e =
    elim (eq-or-ne i l) [
      | inl z ↦ rw z (rw (columns-booked b l n e, eq-eqb l l refl) refl)
      | inr z ↦
          let k : column_of l (columns_from b (suc i) n) ≡ column_for b l = from-column b n (suc i) l (omega arith) (omega arith) e in
          elim (cases (is_booked b.heads i)) [
            | inl d ↦ rw (columns-booked b i n d, ne_eqb i l z) k
            | inr d ↦ rw (columns-absent b i n d) k
          ]
    ]

pub column-found : (b : Book) (l : ℕ) → 1 ≤ l → is_booked b.heads l ≡ true → column_of l (columns_in b) ≡ column_for b l
column-found b l p e = from-column b (length b.heads) 1 l p (omega (arith, booked-within b.heads l p e)) e

-- ---- two books that differ at one id: a has it booked, b has not

pub record Differ (a b : Book) (id : ℕ) : Type 0 where
  pub long : length a.heads ≡ length b.heads
  pub low : 1 ≤ id
  pub high : id ≤ length b.heads
  pub with-id : is_booked a.heads id ≡ true
  pub without-id : is_booked b.heads id ≡ false
  pub same-booked : (l : ℕ) → 1 ≤ l → l ≤ length b.heads → l ≢ id → is_booked a.heads l ≡ is_booked b.heads l
  pub same-column : (l : ℕ) → 1 ≤ l → l ≤ length b.heads → l ≢ id → column_for a l ≡ column_for b l

module _ {a b : Book} {id : ℕ} (d : Differ a b id) where
  from-without : (n i : ℕ) → 1 ≤ i → i + n ≤ suc (length b.heads) → columns_from b i n ≡ without (id ∷ []) (columns_from a i n)
  unfolding without among
  from-without zero i p h = rw (columns-nil a i, columns-nil b i) refl
  from-without (suc n) i p h =
      let k : columns_from b (suc i) n ≡ without (id ∷ []) (columns_from a (suc i) n) = from-without n (suc i) (omega arith) (omega arith) in
      elim (eq-or-ne i id) [
        | inl z ↦
            let e : is_booked a.heads i ≡ true = rw z d.with-id in
            let g : is_booked b.heads i ≡ false = rw z d.without-id in
            columns-absent b i n g ∙ k ∙ rw (columns-booked a i n e, eq-eqb i id z) refl
        | inr z ↦
            let s : is_booked a.heads i ≡ is_booked b.heads i = d.same-booked i p (omega arith) z in
            let c : column_for a i ≡ column_for b i = d.same-column i p (omega arith) z in
            elim (cases (is_booked b.heads i)) [
              | inl e ↦ columns-booked b i n e ∙ rw (columns-booked a i n (s ∙ e), ne_eqb i id z) (rw (k, c) refl)
              | inr e ↦ columns-absent b i n e ∙ k ∙ sym (ap (without (id ∷ [])) (columns-absent a i n (s ∙ e)))
            ]
      ]

  -- the columns without the id
  pub differ-without : columns_in b ≡ without (id ∷ []) (columns_in a)
  differ-without = from-without (length b.heads) 1 (omega arith) (omega arith) ∙ ap (λ (n : ℕ). without (id ∷ []) (columns_from a 1 n)) (sym d.long)

  -- past the id nothing differs
  from_past : (f : Column → ℕ) (n i : ℕ) → id < i → i + n ≤ suc (length b.heads) → sum_of f (columns_from a i n) ≡ sum_of f (columns_from b i n)
  unfolding sum_of
  from_past f zero i p h = rw (columns-nil a i, columns-nil b i) refl
  from_past f (suc n) i p h =
      let k : sum_of f (columns_from a (suc i) n) ≡ sum_of f (columns_from b (suc i) n) = from_past f n (suc i) (omega arith) (omega arith) in
      let s : is_booked a.heads i ≡ is_booked b.heads i = d.same-booked i (omega arith) (omega arith) (omega arith) in
      let c : column_for a i ≡ column_for b i = d.same-column i (omega arith) (omega arith) (omega arith) in
      elim (cases (is_booked b.heads i)) [
        | inl e ↦ rw (columns-booked a i n (s ∙ e), columns-booked b i n e) (omega (arith, ap f c))
        | inr e ↦ rw (columns-absent a i n (s ∙ e), columns-absent b i n e) k
      ]

  from-sum : (f : Column → ℕ) (n i : ℕ) → 1 ≤ i → i ≤ id → id < i + n → i + n ≤ suc (length b.heads) → sum_of f (columns_from a i n) ≡ sum_of f (columns_from b i n) + f (column_for a id)
  unfolding sum_of
  from-sum f zero i p q r h = absurd (omega arith)
  from-sum f (suc n) i p q r h =
      elim (eq-or-ne i id) [
        | inl z ↦
            let e : is_booked a.heads i ≡ true = rw z d.with-id in
            let g : is_booked b.heads i ≡ false = rw z d.without-id in
            rw (columns-booked a i n e, columns-absent b i n g) (omega (arith, from_past f n (suc i) (omega arith) (omega arith), ap (λ (l : ℕ). f (column_for a l)) z))
        | inr z ↦
            let k : sum_of f (columns_from a (suc i) n) ≡ sum_of f (columns_from b (suc i) n) + f (column_for a id) = from-sum f n (suc i) (omega arith) (omega arith) (omega arith) (omega arith) in
            let s : is_booked a.heads i ≡ is_booked b.heads i = d.same-booked i p (omega arith) z in
            let c : column_for a i ≡ column_for b i = d.same-column i p (omega arith) z in
            elim (cases (is_booked b.heads i)) [
              | inl e ↦ rw (columns-booked a i n (s ∙ e), columns-booked b i n e) (omega (arith, ap f c))
              | inr e ↦ rw (columns-absent a i n (s ∙ e), columns-absent b i n e) k
            ]
      ]

  -- a sum over the columns has the id's column more
  pub differ-sum : (f : Column → ℕ) → sum_of f (columns_in a) ≡ sum_of f (columns_in b) + f (column_for a id)
  differ-sum f =
      ap (λ (n : ℕ). sum_of f (columns_from a 1 n)) d.long ∙
      from-sum f (length b.heads) 1 (omega arith) d.low (omega (arith, d.high)) (omega arith)

-- the head of an id, by place
pub head_at : (hs : List ℕ) (i : ℕ) → at hs (suc i) ≡ get_or hs i 0
head_at hs i = let e : suc i - 1 ≡ i = omega arith in ap (λ (j : ℕ). get_or hs j 0) e

-- ---- the sum of the lengths is the number of records in the chains

from-lengths : (b : Book) (n i : ℕ) → i + n ≡ length b.heads → length (chains b.next (drop i b.heads)) ≡ sum_of (λ c. length c.rows) (columns_from b (suc i) n)
unfolding sum_of
from-lengths b zero i h =
    let e : i ≡ length b.heads = omega arith in
    rw (columns-nil b (suc i), e) (rw (drop-length b.heads, chains-nil b.next) refl)
from-lengths b (suc n) i h =
    let k : length (chains b.next (drop (suc i) b.heads)) ≡ sum_of (λ c. length c.rows) (columns_from b (suc (suc i)) n) = from-lengths b n (suc i) (omega arith) in
    let v : length (column_for b (suc i)).rows ≡ length (chain b.next (get_or b.heads i 0)) =
    values_length b.rows (chain b.next (at b.heads (suc i))) ∙ ap (λ (h : ℕ). length (chain b.next h)) (head_at b.heads i) in
    let u : length (chains b.next (drop i b.heads)) ≡ length (chain b.next (get_or b.heads i 0)) + length (chains b.next (drop (suc i) b.heads)) =
    ap (λ (l : List ℕ). length (chains b.next l)) (drop-cons b.heads i 0 (omega arith)) ∙ chains-length b.next (get_or b.heads i 0) (drop (suc i) b.heads) in
    elim (cases (is_booked b.heads (suc i))) [
      | inl e ↦ rw (columns-booked b (suc i) n e) (omega arith)
      | inr e ↦
          let z : get_or b.heads i 0 ≡ 0 = sym (head_at b.heads i) ∙ absent-zero b.heads (suc i) e in
          rw (columns-absent b (suc i) n e)
          (omega (arith, ap (λ (h : ℕ). length (chain b.next h)) z, ap length (chain-nil (length b.next) b.next)))
    ]

pub columns-length : (b : Book) → sum_of (λ c. length c.rows) (columns_in b) ≡ length (chains b.next b.heads)
columns-length b = sym (from-lengths b (length b.heads) 0 (omega arith))
