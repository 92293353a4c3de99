-- The walk of a column's chain against the counters: records that fit are as many as the counters (fits-filled), so the walk knows how many to meet. The
-- whole chain passes exactly if what is left passes the counters that are left, and the rows of the records met stand in the stash (Checking). What makes
-- a chain not fit: too many counters, a chain that ends too early or leaves the pool, an entry that does not fit, a chain that goes on. Start, what a turn
-- asks, one entry more, the end. Assumes nothing.
use mathlib.Core.Path.{◌≡◌, refl, sym, ap, subst, ◌∙◌}
use mathlib.Core.Logic.{inl, inr, ◌≢◌}
use mathlib.Core.Bool.{Bool, true, false, ◌&&◌, true≢false}
use mathlib.Core.List.{List, [], ◌∷◌, ◌++◌, append_assoc, append-nil}
use Prim.Native.Nat.{ℕ, ◌+◌, ◌*◌, ◌-◌, ◌≤◌, ◌<◌}
use native.Mathlib.Omega.{arith}
use Rattle.std.specs.Prelude.{Some, None}
use lib.Dec.{leb}
use lib.ListN.{length, get_or, take, set, length-set, length-append}
use lib.Seq.{get_or-take, get_or-set_other, take-set-lt}
use borrow.Author.Tests.{le-leb, leb-true}
use Rattle.lists.specs.Lists.{at, put, values_at}
use Rattle.lists.proofs.Tests.{and_both, both-and, both_ways, refute}
use Rattle.lists.proofs.Place.{values-append, values_one}
use Rattle.workspace.specs.Layout.{row_stash}
use Rattle.workspace.specs.Regions.{cell, region}
use Rattle.workspace.proofs.Regions.{region-ext, store-push, store-leaves-region}
use Rattle.pool.specs.Chains.{chain, ends, last_of, Linked}
use Rattle.pool.proofs.Chains.{Step, linked-step, linked-ends, chain-linked}
use Rattle.pool.proofs.Runs.{Runs, runs-start, runs-more, runs-split, runs-end, runs-chain, runs-out, runs_last}
use Rattle.book.specs.Tally.{filled}
use Rattle.counting.specs.Counting.{OnlyTwo}
use Rattle.counting.proofs.Linking.{two-refl}
use Rattle.soundness.specs.Fitting.{entry_fits, passes, struck, fits}
use Rattle.soundness.specs.Checking.{EntryChecked, CanCheck, chain_fits, Checked}
use Rattle.soundness.proofs.Fitting.{struck-more, passes-next, passes-not, Entry, entry_of, of_entry, passes-filled, fits-filled, filled-fits}

-- ---- a chain that fits, and the ways in which one does not

pub record FitParts (rows counts next w : List ℕ) (m met head : ℕ) : Type 0 where
  pub linked : Linked next head (chain next head)
  pub fitting : fits rows counts m (region w 0 m) (chain next head) ≡ true
  pub room : met + length (chain next head) ≤ length next
  pub size : length (chain next head) ≡ filled (region w 0 m)

module _ (rows counts next w : List ℕ) (m met head : ℕ) where
  pub fit_parts : chain_fits rows counts next w m met head ≡ true → FitParts rows counts next w m met head
  fit_parts e =
      let a : Bool = ends next head in
      let b : Bool = fits rows counts m (region w 0 m) (chain next head) in
      let l : Bool = leb (met + length (chain next head)) (length next) in
      let t : ((a && b) ≡ true) × (l ≡ true) = and_both (a && b) l e in
      let u : (a ≡ true) × (b ≡ true) = and_both a b t.0 in
      record {
        linked = chain-linked next head u.0;
        fitting = u.1;
        room = leb-true (met + length (chain next head)) (length next) t.1;
        size = fits-filled rows counts m (region w 0 m) (chain next head) u.1;
      }

  pub fit-make : Linked next head (chain next head) → fits rows counts m (region w 0 m) (chain next head) ≡ true → met + length (chain next head) ≤ length next → chain_fits rows counts next w m met head ≡ true
  fit-make l f r = both-and (both-and (linked-ends next head (chain next head) l) f) (le-leb (met + length (chain next head)) (length next) r)

  -- not so many records as counters
  fit-size : (met + length (chain next head) ≤ length next → length (chain next head) ≢ filled (region w 0 m)) → chain_fits rows counts next w m met head ≡ false
  fit-size d =
      refute (chain_fits rows counts next w m met head) (λ e. (let p : FitParts rows counts next w m met head = fit_parts e in d p.room p.size))

  module _ (ds : List ℕ) (r : ℕ) (runs : Runs next head ds r) where
    -- the chain goes on from r, so it has more records than were met
    fit_on : r ≢ 0 → filled (region w 0 m) ≤ length ds → chain_fits rows counts next w m met head ≡ false
    fit_on p h =
        refute (chain_fits rows counts next w m met head) (λ e.
        (let q : FitParts rows counts next w m met head = fit_parts e in
        let t : (ts : List ℕ) × (chain next head ≡ ds ++ ts) × Linked next r ts = runs-split next head ds r (chain next head) runs q.linked in
        let s : Step next r t.0 = linked-step next r t.0 p t.2 in
        omega (arith, q.size, ap length t.1, length-append ds t.0, ap length s.parts)))

    -- an entry that does not fit
    fit-entry : r ≢ 0 → ((rest : List ℕ) → passes rows counts m (region w 0 m) 0 (ds ++ (r ∷ rest)) ≡ false) → chain_fits rows counts next w m met head ≡ false
    fit-entry p f =
        refute (chain_fits rows counts next w m met head) (λ e.
        (let q : FitParts rows counts next w m met head = fit_parts e in
        let t : (ts : List ℕ) × (chain next head ≡ ds ++ ts) × Linked next r ts = runs-split next head ds r (chain next head) runs q.linked in
        let s : Step next r t.0 = linked-step next r t.0 p t.2 in
        let c : chain next head ≡ ds ++ (r ∷ s.rest) = t.1 ∙ ap (λ (l : List ℕ). ds ++ l) s.parts in
        let y : passes rows counts m (region w 0 m) 0 (chain next head) ≡ true = (and_both (passes rows counts m (region w 0 m) 0 (chain next head)) _ q.fitting).0 in
        true≢false (sym y ∙ ap (passes rows counts m (region w 0 m) 0) c ∙ f s.rest)))

    fit-out : length next < r → chain_fits rows counts next w m met head ≡ false
    fit-out h = rw (runs-out next head ds r runs h) refl

-- ---- the invariant

pub record Checking (rows counts next w₀ : List ℕ) (m met head : ℕ) (w : List ℕ) (r last before k : ℕ) : Type 0 where
  pub records : List ℕ
  pub runs : Runs next head records r
  pub small : r < 4294967296
  pub counted : k ≡ length records
  pub last-is : last ≡ last_of 0 records
  pub same : (rest : List ℕ) → passes rows counts m (region w₀ 0 m) 0 (records ++ rest) ≡ passes rows counts m (region w 0 m) before rest
  pub only : OnlyTwo 0 m (row_stash m (length next)) (length next) w₀ w
  pub counters : region w 0 m ≡ struck (region w₀ 0 m) (values_at rows records)
  pub stash : region w (row_stash m (length next) + met) (length records) ≡ values_at rows records
  pub stash-before : (i : ℕ) → i < met → cell w (row_stash m (length next)) i ≡ cell w₀ (row_stash m (length next)) i

-- what a turn asks
pub record TurnFacts (rows counts next w : List ℕ) (m met size r k : ℕ) : Type 0 where
  pub low : 1 ≤ r
  pub high : r ≤ length next
  pub in_rows : r ≤ length rows
  pub in-counts : r ≤ length counts
  pub f-bound : length next ≤ 1048576
  pub m-bound : m ≤ 4096
  pub more : k < size
  pub room : met + size ≤ length next
  pub inside : 8 * m + length next + met + k < length w

-- an entry that fits the whole table's front fits the front
front-entry : (m : ℕ) (w : List ℕ) (z x v : ℕ) → Entry m w z x v → Entry m (region w 0 m) z x v
front-entry m w z x v e =
    record { above = e.above; within = e.within; some = e.some; counter = get_or-take m w (x - 1) 0 (omega (arith, e.above, e.within)) ∙ e.counter }

entry-front : (m : ℕ) (w : List ℕ) (z x v : ℕ) → Entry m (region w 0 m) z x v → Entry m w z x v
entry-front m w z x v e =
    record { above = e.above; within = e.within; some = e.some; counter = sym (get_or-take m w (x - 1) 0 (omega (arith, e.above, e.within))) ∙ e.counter }

module _ {rows counts next w₀ : List ℕ} {m met size head : ℕ} (pre : CanCheck rows counts next w₀ m met size) where
  -- a chain that does not fit
  not-fitting : {w : List ℕ} → OnlyTwo 0 m (row_stash m (length next)) (length next) w₀ w → chain_fits rows counts next w₀ m met head ≡ false → Checked rows counts next w₀ w m met head None
  not-fitting o e = record { only = o; answer = rw e refl; read = λ t. absurd (true≢false (sym t ∙ e)) }

  -- more counters than records are left
  pub checking-many : length next - met < size → Checked rows counts next w₀ w₀ m met head None
  checking-many h = not-fitting two-refl (fit-size rows counts next w₀ m met head (λ r e. omega (arith, pre.size_is)))

  pub checking-start : head < 4294967296 → Checking rows counts next w₀ m met head w₀ head 0 0 0
  unfolding struck values_at last_of
  checking-start small =
      record {
        records = [];
        runs = runs-start next head;
        small = small;
        counted = refl;
        last-is = refl;
        same = λ rest. refl;
        only = two-refl;
        counters = refl;
        stash = refl;
        stash-before = λ k h. refl;
      }

  module _ {w : List ℕ} {r last before k : ℕ} (i : Checking rows counts next w₀ m met head w r last before k) where
    w-long : 8 * m + 2 * length next ≤ length w
    w-long = omega (arith, pre.long, i.only.same_length)

    -- the records met pass, so they took as many counters away
    met-pass : passes rows counts m (region w₀ 0 m) 0 i.records ≡ true
    unfolding passes
    met-pass = ap (passes rows counts m (region w₀ 0 m) 0) (sym (append-nil i.records)) ∙ i.same []

    checking-within : k ≤ size
    checking-within = omega (arith, i.counted, pre.size_is, passes-filled rows counts m (region w₀ 0 m) 0 i.records met-pass)

    -- the chain ends while counters are left
    pub checking-short : k < size → r ≡ 0 → Checked rows counts next w₀ w m met head None
    checking-short h z =
        let c : chain next head ≡ i.records = runs-chain next head i.records (subst (Runs next head i.records) z i.runs) in
        not-fitting i.only (fit-size rows counts next w₀ m met head (λ p e. omega (arith, i.counted, ap length c, pre.size_is)))

    pub checking-out : length next < r → Checked rows counts next w₀ w m met head None
    checking-out h = not-fitting i.only (fit-out rows counts next w₀ m met head i.records r i.runs h)

    -- all counters were taken, and the chain goes on
    pub checking-on : size ≤ k → r ≢ 0 → Checked rows counts next w₀ w m met head None
    checking-on h p = not-fitting i.only (fit_on rows counts next w₀ m met head i.records r i.runs p (omega (arith, i.counted, pre.size_is)))

    module _ (room : size ≤ length next - met) where
      module _ (more : k < size) (p : r ≢ 0) (high : r ≤ length next) where
        pub checking-facts : TurnFacts rows counts next w m met size r k
        checking-facts =
            record {
              low = omega arith;
              high = high;
              in_rows = omega (arith, pre.rows_long);
              in-counts = omega (arith, pre.counts-long);
              f-bound = pre.f-bound;
              m-bound = pre.m-bound;
              more = more;
              room = omega (arith, pre.within);
              inside = omega (arith, pre.within, w-long);
            }

        abbrev place : ℕ
        place = 8 * m + length next + met + k

        module _ {x : List ℕ} {b : Bool} (checked : EntryChecked w x m (8 * m + length next + met + k) before (at rows r) (at counts r) b) where
          -- the entry fits the table's front exactly if it fits the counters
          same-fits : entry_fits m w before (at rows r) (at counts r) ≡ entry_fits m (region w 0 m) before (at rows r) (at counts r)
          same-fits =
              both_ways (entry_fits m w before (at rows r) (at counts r)) (entry_fits m (region w 0 m) before (at rows r) (at counts r))
              (λ h. of_entry m (region w 0 m) before (at rows r) (at counts r) (front-entry m w before (at rows r) (at counts r) (entry_of m w before (at rows r) (at counts r) h)))
              (λ h. of_entry m w before (at rows r) (at counts r) (entry-front m w before (at rows r) (at counts r) (entry_of m (region w 0 m) before (at rows r) (at counts r) h)))

          pub checking-failed : b ≡ false → Checked rows counts next w₀ x m met head None
          checking-failed f =
              let z : entry_fits m w before (at rows r) (at counts r) ≡ false = sym checked.answer ∙ f in
              let x-is : x ≡ w = checked.changed ∙ rw z refl in
              not-fitting (rw x-is i.only)
              (fit-entry rows counts next w₀ m met head i.records r i.runs p
              (λ rest. i.same (r ∷ rest) ∙ passes-not rows counts m (region w 0 m) before r rest (sym same-fits ∙ z)))

          module _ (t : b ≡ true) where
            fits-here : entry_fits m w before (at rows r) (at counts r) ≡ true
            fits-here = sym checked.answer ∙ t

            x-is : x ≡ set (set w (at rows r - 1) 0) place (at rows r)
            x-is = checked.changed ∙ rw fits-here refl

            here : Entry m (region w 0 m) before (at rows r) (at counts r)
            here = entry_of m (region w 0 m) before (at rows r) (at counts r) (sym same-fits ∙ fits-here)

            row_in : (1 ≤ at rows r) × (at rows r ≤ m)
            row_in = omega (arith, here.above, here.within)

            x-front : region x 0 m ≡ put (region w 0 m) (at rows r) 0
            x-front =
                ap (take m) x-is ∙ store-leaves-region (set w (at rows r - 1) 0) place (at rows r) 0 m (inr (omega (arith, row_in))) ∙
                take-set-lt m w (at rows r - 1) 0 (omega (arith, row_in))

            values-more : values_at rows (i.records ++ (r ∷ [])) ≡ values_at rows i.records ++ (at rows r ∷ [])
            values-more = values-append rows i.records (r ∷ []) ∙ ap (λ (l : List ℕ). values_at rows i.records ++ l) (values_one rows r)

            -- places from m on, but the one written
            x-place : (a : ℕ) → m ≤ a → a ≢ place → get_or x a 0 ≡ get_or w a 0
            x-place a h d =
                ap (λ (l : List ℕ). get_or l a 0) x-is ∙ get_or-set_other (set w (at rows r - 1) 0) place a (at rows r) 0 d ∙
                get_or-set_other w (at rows r - 1) a 0 0 (λ z. omega (arith, row_in))

            x-long : length x ≡ length w
            x-long = ap length x-is ∙ length-set (set w (at rows r - 1) 0) place (at rows r) ∙ length-set w (at rows r - 1) 0

            x-stash : region x (row_stash m (length next) + met) (length i.records + 1) ≡ values_at rows i.records ++ (at rows r ∷ [])
            x-stash =
                let y : List ℕ = set w (at rows r - 1) 0 in
                let st : ℕ = row_stash m (length next) + met in
                let n : ℕ = length i.records in
                let l : length y ≡ length w = length-set w (at rows r - 1) 0 in
                let e : place ≡ st + n = omega (arith, i.counted) in
                let fits_in : st + n < length w = omega (arith, checking-facts.inside, i.counted) in
                let same : region y st n ≡ region w st n =
                region-ext w y st st n (omega arith) (omega arith) (λ u h. get_or-set_other w (at rows r - 1) (st + u) 0 0 (λ z. omega (arith, row_in))) in
                ap (λ (z : List ℕ). region z st (n + 1)) (x-is ∙ ap (λ (z : ℕ). set y z (at rows r)) e) ∙
                store-push y st n (at rows r) (omega arith) ∙ ap (λ (z : List ℕ). z ++ (at rows r ∷ [])) (same ∙ i.stash)

            pub checking-next : at next r < 4294967296 → Checking rows counts next w₀ m met head x (at next r) r (at rows r) (k + 1)
            checking-next small =
                let one_more : length (i.records ++ (r ∷ [])) ≡ length i.records + 1 = length-append i.records (r ∷ []) in
                record {
                  records = i.records ++ (r ∷ []);
                  runs = runs-more next head i.records r (omega arith) high i.runs;
                  small = small;
                  counted = omega (arith, i.counted);
                  last-is = sym (runs_last i.records r);
                  same = λ rest.
                      ap (passes rows counts m (region w₀ 0 m) 0) (append_assoc i.records (r ∷ []) rest) ∙ i.same (r ∷ rest) ∙
                      passes-next rows counts m (region w 0 m) before r rest (sym same-fits ∙ fits-here) ∙
                      ap (λ (l : List ℕ). passes rows counts m l (at rows r) rest) (sym x-front);
                  only = record {
                    same_length = x-long ∙ i.only.same_length;
                    outside = λ a y z.
                        x-place a (elim y [ inl h ↦ absurd (omega arith) | inr h ↦ omega arith ])
                        (elim z [ inl h ↦ λ d. omega arith | inr h ↦ λ d. omega (arith, checking-facts.room, more) ]) ∙ i.only.outside a y z;
                  };
                  counters =
                      x-front ∙ ap (λ (l : List ℕ). put l (at rows r) 0) i.counters ∙ sym (struck-more (region w₀ 0 m) (values_at rows i.records) (at rows r)) ∙
                      ap (struck (region w₀ 0 m)) (sym values-more);
                  stash = ap (region x (row_stash m (length next) + met)) one_more ∙ x-stash ∙ sym values-more;
                  stash-before = λ a h. x-place (row_stash m (length next) + a) (omega arith) (λ d. omega arith) ∙ i.stash-before a h;
                }

      pub checking-end : size ≤ k → r ≡ 0 → Checked rows counts next w₀ w m met head (Some (met + size, record { 0 = last }))
      checking-end h z =
          let runs : Runs next head i.records 0 = subst (Runs next head i.records) z i.runs in
          let c : chain next head ≡ i.records = runs-chain next head i.records runs in
          let size_is : size ≡ length i.records = omega (arith, checking-within, i.counted) in
          let all : ((x : ℕ) → get_or (struck (region w₀ 0 m) (values_at rows i.records)) x 0 ≡ 0) × (fits rows counts m (region w₀ 0 m) i.records ≡ true) =
          filled-fits rows counts m (region w₀ 0 m) i.records met-pass (omega (arith, pre.size_is)) in
          let e : chain_fits rows counts next w₀ m met head ≡ true =
          fit-make rows counts next w₀ m met head (subst (Linked next head) (sym c) (runs-end next head i.records runs)) (ap (fits rows counts m (region w₀ 0 m)) c ∙ all.1) (omega (arith, ap length c, pre.within)) in
          let n : met + size ≡ met + length (chain next head) = omega (arith, ap length c) in
          record {
            only = i.only;
            answer = rw (e, n, i.last-is, c) refl;
            read = λ _. record {
              zero = λ x h. ap (λ (y : ℕ). get_or w y 0) (zero-add x) ∙ sym (get_or-take m w x 0 h) ∙ ap (λ (l : List ℕ). get_or l x 0) i.counters ∙ all.0 x;
              stash = ap (λ (l : List ℕ). region w (row_stash m (length next) + met) (length l)) c ∙ i.stash ∙ ap (values_at rows) (sym c);
              stash-before = i.stash-before;
            };
          }
        where
          zero-add : (x : ℕ) → 0 + x ≡ x
          zero-add x = omega arith
