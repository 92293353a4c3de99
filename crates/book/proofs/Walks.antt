-- The walk of one column, for any contents, in this order: the test column_walks as facts; the contract ColumnWalked made and read; the loop's
-- invariant Following: some records were followed, and their rows rise up to `above`; its start, a record more, each cut, the end. Rows that rise
-- and are at most m bound the walk. Assumes nothing.
use mathlib.Core.Path.{◌≡◌, refl, sym, ap, subst, ◌∙◌}
use mathlib.Core.Logic.{inl, inr, ◌≢◌}
use mathlib.Core.Bool.{Bool, true, false, ◌&&◌}
use mathlib.Core.List.{List, [], ◌∷◌, ◌++◌, append_assoc, append-nil}
use Prim.Native.Nat.{ℕ, suc, ◌+◌, ◌≤◌, ◌<◌}
use native.Mathlib.Omega.{arith}
use Rattle.std.specs.Prelude.{Some, None}
use lib.Dec.{leb}
use lib.ListN.{length, get_or, length-append}
use borrow.Author.Tests.{le-leb, leb-true}
use Rattle.lists.specs.Lists.{at, is_in, values_at, rises}
use Rattle.lists.proofs.Tests.{cases, and_both, both-and, refute, range-in}
use Rattle.lists.proofs.Place.{values_length}
use Rattle.pool.specs.declared.Rec.{Rec}
use Rattle.pool.specs.Chains.{chain, last_of, ends, Linked}
use Rattle.pool.specs.Ends.{last_from, chain_answer}
use Rattle.pool.proofs.Chains.{Step, linked-step, chain-linked, linked-ends}
use Rattle.pool.proofs.Runs.{Runs, runs-start, runs-more, runs-split, runs-end, runs-chain, runs_last}
use Rattle.book.specs.Book.{tables_of, column_for, column_fits}
use Rattle.book.specs.Walks.{column_walks, ColumnWalked}
use Rattle.book.proofs.Columns.{head_at}
use Rattle.book.proofs.Sound.{Fitting, fitting}

-- ---- the test, as facts

pub record Walks (heads rows next : List ℕ) (i met m : ℕ) : Type 0 where
  pub linked : Linked next (get_or heads i 0) (chain next (get_or heads i 0))
  pub fits : column_fits m (column_for (tables_of heads rows next) (suc i)) ≡ true
  pub room : met + length (chain next (get_or heads i 0)) ≤ length next

module _ {hs rs ns : List ℕ} {i n m : ℕ} where
  pub walks-of : column_walks hs rs ns i n m ≡ true → Walks hs rs ns i n m
  walks-of w =
      let h : ℕ = get_or hs i 0 in
      let a : Bool = ends ns h in
      let b : Bool = column_fits m (column_for (tables_of hs rs ns) (suc i)) in
      let c : Bool = leb (n + length (chain ns h)) (length ns) in
      let t : ((a && b) ≡ true) × (c ≡ true) = and_both (a && b) c w in
      let u : (a ≡ true) × (b ≡ true) = and_both a b t.0 in
      record { linked = chain-linked ns h u.0; fits = u.1; room = leb-true (n + length (chain ns h)) (length ns) t.1 }

  pub of-walks : Walks hs rs ns i n m → column_walks hs rs ns i n m ≡ true
  of-walks w =
      let h : ℕ = get_or hs i 0 in
      both-and (both-and (linked-ends ns h (chain ns h) w.linked) w.fits) (le-leb (n + length (chain ns h)) (length ns) w.room)

  -- the rows of a column that walks
  walks-rows : Walks hs rs ns i n m → Fitting m (values_at rs (chain ns (get_or hs i 0)))
  walks-rows w = subst (λ (h : ℕ). Fitting m (values_at rs (chain ns h))) (head_at hs i) (fitting m (column_for (tables_of hs rs ns) (suc i)) w.fits)

rows-walk : (hs rs ns : List ℕ) (i m : ℕ) → rises 1 m (values_at rs (chain ns (get_or hs i 0))) ≡ true → is_in 1 256 (length (values_at rs (chain ns (get_or hs i 0)))) ≡ true →
    column_fits m (column_for (tables_of hs rs ns) (suc i)) ≡ true
rows-walk hs rs ns i m a b =
    subst (λ (h : ℕ). (rises 1 m (values_at rs (chain ns h)) && is_in 1 256 (length (values_at rs (chain ns h)))) ≡ true) (sym (head_at hs i)) (both-and a b)

-- ---- the contract, made and read

module _ {hs rs ns : List ℕ} {i n m : ℕ} where
  pub walked-cut : (Walks hs rs ns i n m → ⊥) → ColumnWalked hs rs ns i n m None
  walked-cut f = let e : column_walks hs rs ns i n m ≡ false = refute (column_walks hs rs ns i n m) (λ w. f (walks-of w)) in rw e refl

  pub walked-ended : {k : ℕ} {e : Rec} → Walks hs rs ns i n m → k ≡ n + length (chain ns (get_or hs i 0)) → e.0 ≡ last_from ns (get_or hs i 0) → ColumnWalked hs rs ns i n m (Some (k, e))
  walked-ended w p q = let t : column_walks hs rs ns i n m ≡ true = of-walks w in rw (t, ← p, ← q) refl

  pub cut-walks : ColumnWalked hs rs ns i n m None → Walks hs rs ns i n m → ⊥
  cut-walks v w =
      let h : ℕ = get_or hs i 0 in
      let t : None ≡ chain_answer true n ns h = subst (λ (b : Bool). None ≡ chain_answer b n ns h) (of-walks w) v in
      let z : ◌≡◌ {A = ℕ} 0 1 = cc in omega arith

  pub ended-walks : {k : ℕ} {e : Rec} → ColumnWalked hs rs ns i n m (Some (k, e)) → Walks hs rs ns i n m × (k ≡ n + length (chain ns (get_or hs i 0))) × (e.0 ≡ last_from ns (get_or hs i 0))
  ended-walks {k} {e} v =
      let h : ℕ = get_or hs i 0 in
      elim (cases (column_walks hs rs ns i n m)) [
        | inl w ↦
            let t : Some (k, e) ≡ chain_answer true n ns h = subst (λ (b : Bool). Some (k, e) ≡ chain_answer b n ns h) w v in
            let p : (k, e) ≡ (n + length (chain ns h), record { 0 = last_from ns h }) = cc in
            (walks-of w, ap (λ (x : ℕ × Rec). x.0) p, ap (λ (x : ℕ × Rec). x.1.0) p)
        | inr w ↦
            let t : Some (k, e) ≡ chain_answer false n ns h = subst (λ (b : Bool). Some (k, e) ≡ chain_answer b n ns h) w v in
            absurd (let z : ◌≡◌ {A = ℕ} 0 1 = cc in omega arith)
      ]

-- ---- the invariant: k records were followed from head, the last of them `last` of row `above`, and the walk stands before r

pub record Following (rows next : List ℕ) (m head r last above k : ℕ) : Type 0 where
  pub records : List ℕ
  pub runs : Runs next head records r
  pub same : (rest : List ℕ) → rises 1 m (values_at rows (records ++ rest)) ≡ rises (suc above) m (values_at rows rest)
  pub counted : k ≡ length records
  pub last-is : last ≡ last_of 0 records
  pub few : k ≤ above
  pub high : above ≤ m
  pub narrow : r < 4294967296

pub following-start : {rs ns : List ℕ} {m h : ℕ} → h < 4294967296 → Following rs ns m h h 0 0 0
unfolding last_of
following-start {rs} {ns} {m} {h} e =
    record { records = []; runs = runs-start ns h; same = λ rest. refl; counted = refl; last-is = refl; few = omega arith; high = omega arith; narrow = e }

-- what a column that walks has at the next record
pub record Fine (rows next : List ℕ) (m r above : ℕ) : Type 0 where
  pub inside : r ≤ length next
  pub low : above < at rows r
  pub high : at rows r ≤ m

module _ {rs ns : List ℕ} {m h r last above k : ℕ} (f : Following rs ns m h r last above k) where
  pub following-next : {row : ℕ} → r ≢ 0 → r ≤ length ns → row ≡ at rs r → above < row → row ≤ m → at ns r < 4294967296 → Following rs ns m h (at ns r) r row (k + 1)
  unfolding values_at rises
  following-next {row} p q e a b n =
      record {
        records = f.records ++ (r ∷ []);
        runs = runs-more ns h f.records r (omega arith) q f.runs;
        same = λ rest.
            ap (λ (l : List ℕ). rises 1 m (values_at rs l)) (append_assoc f.records (r ∷ []) rest) ∙ f.same (r ∷ rest) ∙
            rw (← e, le-leb (suc above) row (omega arith), le-leb row m b) refl;
        counted = omega (arith, f.counted, length-append f.records (r ∷ []));
        last-is = sym (runs_last f.records r);
        few = omega (arith, f.few);
        high = b;
        narrow = n;
      }

  fine : r ≢ 0 → Linked ns h (chain ns h) → rises 1 m (values_at rs (chain ns h)) ≡ true → Fine rs ns m r above
  unfolding values_at rises
  fine p l e =
      let t : (ts : List ℕ) × (chain ns h ≡ f.records ++ ts) × Linked ns r ts = runs-split ns h f.records r (chain ns h) f.runs l in
      let s : Step ns r t.0 = linked-step ns r t.0 p t.2 in
      let c : chain ns h ≡ f.records ++ (r ∷ s.rest) = t.1 ∙ ap (λ (x : List ℕ). f.records ++ x) s.parts in
      let d : rises (suc above) m (values_at rs (r ∷ s.rest)) ≡ true = sym (f.same (r ∷ s.rest)) ∙ ap (λ (x : List ℕ). rises 1 m (values_at rs x)) (sym c) ∙ e in
      let a : Bool = leb (suc above) (at rs r) in
      let b : Bool = leb (at rs r) m in
      let u : (a && b ≡ true) × (rises (suc (at rs r)) m (values_at rs s.rest) ≡ true) = and_both (a && b) (rises (suc (at rs r)) m (values_at rs s.rest)) d in
      let v : (a ≡ true) × (b ≡ true) = and_both a b u.0 in
      record { inside = s.high; low = omega (arith, leb-true (suc above) (at rs r) v.0); high = leb-true (at rs r) m v.1 }

-- ---- the loop at place i

module _ (hs : List ℕ) (i n : ℕ) {rs ns : List ℕ} {m r last above k : ℕ} (f : Following rs ns m (get_or hs i 0) r last above k) where
  -- a record where a column that walks could not go on
  pub following-cut : r ≢ 0 → (Fine rs ns m r above → ⊥) → ColumnWalked hs rs ns i n m None
  following-cut p g = walked-cut (λ (w : Walks hs rs ns i n m). g (fine f p w.linked (walks-rows w).rise))

  module _ (z : r ≡ 0) where
    ended : Runs ns (get_or hs i 0) f.records 0
    ended = subst (Runs ns (get_or hs i 0) f.records) z f.runs

    following-chain : chain ns (get_or hs i 0) ≡ f.records
    following-chain = runs-chain ns (get_or hs i 0) f.records ended

    count : k ≡ length (chain ns (get_or hs i 0))
    count = omega (arith, f.counted, ap length following-chain)

    pub following-many : 256 < k → ColumnWalked hs rs ns i n m None
    following-many e = walked-cut (λ (w : Walks hs rs ns i n m). omega (arith, count, (walks-rows w).few, values_length rs (chain ns (get_or hs i 0))))

    pub following-full : length ns < n + k → ColumnWalked hs rs ns i n m None
    following-full e = walked-cut (λ (w : Walks hs rs ns i n m). omega (arith, count, w.room))

    pub following-ended : {l : ℕ} {e : Rec} → get_or hs i 0 ≢ 0 → k ≤ 256 → n + k ≤ length ns → l ≡ n + k → e.0 ≡ last → ColumnWalked hs rs ns i n m (Some (l, e))
    unfolding values_at rises
    following-ended some few room p q =
        let h : ℕ = get_or hs i 0 in
        let l : Linked ns h (chain ns h) = subst (Linked ns h) (sym following-chain) (runs-end ns h f.records ended) in
        let s : Step ns h (chain ns h) = linked-step ns h (chain ns h) some l in
        let rise : rises 1 m (values_at rs (chain ns h)) ≡ true =
        ap (λ (x : List ℕ). rises 1 m (values_at rs x)) (following-chain ∙ sym (append-nil f.records)) ∙ f.same [] in
        let fits : is_in 1 256 (length (values_at rs (chain ns h))) ≡ true =
        range-in 1 256 (length (values_at rs (chain ns h))) (omega (arith, values_length rs (chain ns h), ap length s.parts)) (omega (arith, values_length rs (chain ns h), count)) in
        let w : Walks hs rs ns i n m = record { linked = l; fits = rows-walk hs rs ns i m rise fits; room = omega (arith, count) } in
        walked-ended w (omega (arith, count)) (q ∙ f.last-is ∙ ap (last_of 0) (sym following-chain))
