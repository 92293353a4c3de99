-- A pool whose columns' chains end, with rows from 1 on in their records, is whole and has row 0 in its free records exactly if it is closed
-- (closed-whole, whole-closed). In this order: tests summed over all of 1 to n once each; zeros counted in a list, and pairs of zeros; the same over a
-- whole pool, where the columns have none; free records that have 0 in a second table too (zero-pairs); both ways of the law. Assumes nothing.
use mathlib.Core.Path.{◌≡◌, refl, sym, ap, ◌∙◌}
use mathlib.Core.Logic.{inl, inr}
use mathlib.Core.Bool.{Bool, true, ◌&&◌}
use mathlib.Core.List.{List, [], ◌∷◌, ◌++◌}
use Prim.Native.Nat.{ℕ, zero, suc, ◌+◌, ◌-◌, ◌≤◌, ◌<◌}
use native.Mathlib.Omega.{arith}
use lib.Dec.{eqb}
use lib.ListN.{length, get_or, length-append}
use borrow.Author.Tests.{eqb-true, eq-eqb, ne_eqb}
use Rattle.lists.specs.Lists.{one, among, all_zero, count, times, sum_of, at, values_at}
use Rattle.lists.proofs.Tests.{cases, eq-or-ne, zero-or-pos, and_both, both-and, both_ways, one-le}
use Rattle.lists.proofs.Count.{count-ext, count_cut, count-full, count_at, count-shift}
use Rattle.lists.proofs.Times.{times-nil, times-self, times-other, times-cons, times-append, mem-times, among_none, among-some, UpTo, among-count, times-length}
use Rattle.lists.proofs.Sum.{sum-append, sum-length, sum-le, sum-ext, sum-zero}
use Rattle.pool.specs.Chains.{chain, Linked}
use Rattle.pool.specs.Whole.{chains, is_whole, AllLinked, Pool}
use Rattle.pool.specs.Ends.{last_from}
use Rattle.pool.specs.Free.{Closed, zero_pairs}
use Rattle.pool.proofs.Chains.{linked-in, linked-once}
use Rattle.pool.proofs.Whole.{place-times, place-linked, all_in, whole-pool, pool-whole}
use Rattle.pool.proofs.Apart.{last-there, last-in, last_some, shared_last, chains-find, ends-apart, apart-ends}

-- ---- a test summed over numbers of 1 to n

sum-count : (t : ℕ → Bool) (n : ℕ) (xs : List ℕ) → ((x : ℕ) → times x xs ≤ 1) → UpTo n xs → sum_of (λ x. one (t x)) xs ≡ count (λ i. among i xs && t i) n
unfolding sum_of among count
sum-count t n [] once within = sym (count_cut (λ i. among i [] && t i) 0 n (omega arith) (λ c a b. refl))
sum-count t n (x ∷ xs) once within =
    let w : (1 ≤ x) × (x ≤ n) = within x (omega (arith, times-self x xs)) in
    let rest : sum_of (λ y. one (t y)) xs ≡ count (λ i. among i xs && t i) n =
    sum-count t n xs (λ y. omega (arith, once y, times-cons y x xs)) (λ y h. within y (omega (arith, times-cons y x xs))) in
    let new : one (among x xs && t x) ≡ 0 = rw (among_none x xs (omega (arith, once x, times-self x xs))) refl in
    let here : one (among x (x ∷ xs) && t x) ≡ one (t x) = rw (among-some x (x ∷ xs) (omega (arith, times-self x xs))) refl in
    omega (arith, rest, new, here, count_at (λ i. among i (x ∷ xs) && t i) (λ i. among i xs && t i) n x w.0 w.1 (λ c a b d. rw (ne_eqb c x d) refl))

all_true : (n : ℕ) → count (λ i. true) n ≡ n
unfolding count
all_true zero = refl
all_true (suc n) = omega (arith, all_true n)

-- n of them, each once, are all of 1 to n
sum-all : (t : ℕ → Bool) (n : ℕ) (xs : List ℕ) → ((x : ℕ) → times x xs ≤ 1) → UpTo n xs → length xs ≡ n → sum_of (λ x. one (t x)) xs ≡ count t n
sum-all t n xs once within size =
    sum-count t n xs once within ∙ count-ext (λ i. among i xs && t i) t n (λ c a b. rw (there c a b) refl)
  where
    there : (c : ℕ) → 1 ≤ c → c ≤ n → among c xs ≡ true
    there c a b = count-full (λ i. among i xs) (λ i. true) n (λ i p q e. refl) (omega (arith, all_true n, among-count n xs once within)) c a b refl

-- ---- zeros of a list

eqb-turn : (a b : ℕ) → eqb a b ≡ eqb b a
eqb-turn a b = both_ways (eqb a b) (eqb b a) (λ e. eq-eqb b a (sym (eqb-true a b e))) (λ e. eq-eqb a b (sym (eqb-true b a e)))

at_next : (y : ℕ) (ys : List ℕ) (i : ℕ) → 1 ≤ i → at (y ∷ ys) (suc i) ≡ at ys i
at_next y ys i h = let q : suc i - 1 ≡ suc (i - 1) = omega arith in ap (λ (k : ℕ). get_or (y ∷ ys) k 0) q

zeros-count : (ys : List ℕ) → times 0 ys ≡ count (λ i. eqb (at ys i) 0) (length ys)
unfolding times count
zeros-count [] = refl
zeros-count (y ∷ ys) =
    let next : count (λ i. eqb (at (y ∷ ys) (suc i)) 0) (length ys) ≡ count (λ i. eqb (at ys i) 0) (length ys) =
    count-ext (λ i. eqb (at (y ∷ ys) (suc i)) 0) (λ i. eqb (at ys i) 0) (length ys) (λ c a b. rw (at_next y ys c a) refl) in
    omega (arith, zeros-count ys, next, count-shift (λ i. eqb (at (y ∷ ys) i) 0) (length ys), ap one (eqb-turn 0 y))

pairs-count : (ys zs : List ℕ) → length zs ≡ length ys → zero_pairs ys zs ≡ count (λ i. eqb (at ys i) 0 && eqb (at zs i) 0) (length ys)
unfolding zero_pairs count
pairs-count [] zs e = refl
pairs-count (y ∷ ys) [] e = absurd (omega arith)
pairs-count (y ∷ ys) (z ∷ zs) e =
    let next : count (λ i. eqb (at (y ∷ ys) (suc i)) 0 && eqb (at (z ∷ zs) (suc i)) 0) (length ys) ≡ count (λ i. eqb (at ys i) 0 && eqb (at zs i) 0) (length ys) =
    count-ext (λ i. eqb (at (y ∷ ys) (suc i)) 0 && eqb (at (z ∷ zs) (suc i)) 0) (λ i. eqb (at ys i) 0 && eqb (at zs i) 0) (length ys)
    (λ c a b. rw (at_next y ys c a, at_next z zs c a) refl) in
    omega (arith, pairs-count ys zs (omega arith), next, count-shift (λ i. eqb (at (y ∷ ys) i) 0 && eqb (at (z ∷ zs) i) 0) (length ys))

-- all values at some numbers are 0 exactly if so many are as there are numbers
abbrev zeros_at : (ys xs : List ℕ) → ℕ
zeros_at ys xs = sum_of (λ x. one (eqb (at ys x) 0)) xs

zeros-short : (ys xs : List ℕ) → zeros_at ys xs ≤ length xs
zeros-short ys xs = omega (arith, sum-length xs, sum-le (λ x. one (eqb (at ys x) 0)) (λ x. 1) xs (λ x m. one-le (eqb (at ys x) 0)))

zeros-all : (ys xs : List ℕ) → zeros_at ys xs ≡ length xs → all_zero (values_at ys xs) ≡ true
unfolding sum_of all_zero values_at
zeros-all ys [] e = refl
zeros-all ys (x ∷ xs) e =
    elim (cases (eqb (at ys x) 0)) [
      | inl z ↦ both-and z (zeros-all ys xs (omega (arith, ap one z)))
      | inr z ↦ absurd (omega (arith, ap one z, zeros-short ys xs))
    ]

all-zeros : (ys xs : List ℕ) → all_zero (values_at ys xs) ≡ true → zeros_at ys xs ≡ length xs
unfolding sum_of all_zero values_at
all-zeros ys [] h = refl
all-zeros ys (x ∷ xs) h =
    let t : (eqb (at ys x) 0 ≡ true) × (all_zero (values_at ys xs) ≡ true) = and_both (eqb (at ys x) 0) (all_zero (values_at ys xs)) h in
    omega (arith, ap one t.0, all-zeros ys xs t.1)

-- so each is
pub zero-value : (ys xs : List ℕ) (x : ℕ) → all_zero (values_at ys xs) ≡ true → 1 ≤ times x xs → at ys x ≡ 0
unfolding all_zero values_at
zero-value ys [] x h n = absurd (omega (arith, times-nil x))
zero-value ys (y ∷ xs) x h n =
    let t : (eqb (at ys y) 0 ≡ true) × (all_zero (values_at ys xs) ≡ true) = and_both (eqb (at ys y) 0) (all_zero (values_at ys xs)) h in
    elim (eq-or-ne x y) [
      | inl e ↦ rw e (eqb-true (at ys y) 0 t.0)
      | inr e ↦ zero-value ys xs x t.1 (omega (arith, times-other x y xs e))
    ]

-- ---- a whole pool: each record once, in a column or free

-- the records of columns have rows from 1 on
abbrev pub Rowed : (rows next heads : List ℕ) → Type 0
Rowed rs ns hs = (x : ℕ) → 1 ≤ times x (chains ns hs) → 1 ≤ at rs x

pool-sum : {ns hs : List ℕ} {f : ℕ} → Pool ns hs f → (t : ℕ → Bool) →
    sum_of (λ x. one (t x)) (chains ns hs) + sum_of (λ x. one (t x)) (chain ns f) ≡ count t (length ns)
pool-sum {ns} {hs} {f} p t =
    sym (sum-append (λ x. one (t x)) (chains ns hs) (chain ns f)) ∙
    sum-all t (length ns) (chains ns hs ++ chain ns f) (λ x. omega (arith, p.once x, times-append x (chains ns hs) (chain ns f))) within
    (omega (arith, p.size, length-append (chains ns hs) (chain ns f)))
  where
    within : UpTo (length ns) (chains ns hs ++ chain ns f)
    within x n =
        elim (zero-or-pos (times x (chains ns hs))) [
          | inr q ↦ all_in ns hs p.linked x q
          | inl z ↦ linked-in ns f (chain ns f) p.unused x (omega (arith, times-append x (chains ns hs) (chain ns f)))
        ]

module _ (rs : List ℕ) {ns hs : List ℕ} {f : ℕ} (size : length rs ≡ length ns) (p : Pool ns hs f) (rowed : Rowed rs ns hs) where
  -- rows 0 are those of free records
  pool-zeros : times 0 rs ≡ zeros_at rs (chain ns f)
  pool-zeros =
      let none : zeros_at rs (chains ns hs) ≡ 0 =
      sum-zero (λ x. one (eqb (at rs x) 0)) (chains ns hs) (λ x m. ap one (ne_eqb (at rs x) 0 (λ e. omega (arith, rowed x (mem-times m))))) in
      omega (arith, zeros-count rs, ap (count (λ i. eqb (at rs i) 0)) size, pool-sum p (λ x. eqb (at rs x) 0))

  -- as many as there are free records, if all of those have row 0
  pub zero-rows : all_zero (values_at rs (chain ns f)) ≡ true → times 0 rs ≡ length (chain ns f)
  zero-rows zeros = pool-zeros ∙ all-zeros rs (chain ns f) zeros

-- ---- a second table: free records have 0 in it exactly if it has 0 at each row 0

module _ (rs vs : List ℕ) {ns hs : List ℕ} {f : ℕ} (size : length rs ≡ length ns) (long : length vs ≡ length ns) (p : Pool ns hs f) (rowed : Rowed rs ns hs)
    (zeros : all_zero (values_at rs (chain ns f)) ≡ true) where
  pool-pairs : zero_pairs rs vs ≡ zeros_at vs (chain ns f)
  pool-pairs =
      let both : ℕ → Bool = λ x. eqb (at rs x) 0 && eqb (at vs x) 0 in
      let none : sum_of (λ x. one (both x)) (chains ns hs) ≡ 0 =
      sum-zero (λ x. one (both x)) (chains ns hs) (λ x m. rw (ne_eqb (at rs x) 0 (λ e. omega (arith, rowed x (mem-times m)))) refl) in
      let free : sum_of (λ x. one (both x)) (chain ns f) ≡ zeros_at vs (chain ns f) =
      sum-ext (λ x. one (both x)) (λ x. one (eqb (at vs x) 0)) (chain ns f) (λ x m. rw (eq-eqb (at rs x) 0 (zero-value rs (chain ns f) x zeros (mem-times m))) refl) in
      omega (arith, pairs-count rs vs (omega arith), ap (count both) size, pool-sum p both)

  pub zero-pairs : zero_pairs rs vs ≡ times 0 rs → all_zero (values_at vs (chain ns f)) ≡ true
  zero-pairs e = zeros-all vs (chain ns f) (omega (arith, pool-pairs, zero-rows rs size p rowed zeros))

  pub zero-pairs-back : all_zero (values_at vs (chain ns f)) ≡ true → zero_pairs rs vs ≡ times 0 rs
  zero-pairs-back h = omega (arith, pool-pairs, zero-rows rs size p rowed zeros, all-zeros vs (chain ns f) h)

-- ---- closed is whole with free rows 0

module _ {rs ns hs : List ℕ} {f : ℕ} (size : length rs ≡ length ns) (linked : AllLinked ns hs) (rowed : Rowed rs ns hs) where
  -- a record of a column that were free would share its last record, of row 0
  closed-once : Closed rs ns hs f → (x : ℕ) → times x (chains ns hs) + times x (chain ns f) ≤ 1
  closed-once c x =
      elim (zero-or-pos (times x (chains ns hs))) [
        | inl z ↦ omega (arith, linked-once ns f (chain ns f) c.free-has.linked x)
        | inr p ↦ elim (zero-or-pos (times x (chain ns f))) [
          | inl z ↦ omega (arith, ends-apart ns hs linked c.apart x)
          | inr q ↦ absurd (shared p q)
        ]
      ]
    where
      shared : 1 ≤ times x (chains ns hs) → 1 ≤ times x (chain ns f) → ⊥
      shared p q =
          let t : (j : ℕ) × (j < length hs) × (1 ≤ times x (chain ns (get_or hs j 0))) = chains-find ns hs x p in
          let g : ℕ = get_or hs t.0 0 in
          let l : Linked ns g (chain ns g) = place-linked ns hs t.0 t.1 linked in
          let e : last_from ns g ≡ last_from ns f = shared_last ns g f (chain ns g) (chain ns f) x l c.free-has.linked t.2 q in
          let m : 1 ≤ times (last_from ns g) (chain ns g) = last-in (chain ns g) (last_some ns g (chain ns g) x l t.2) in
          let r : 1 ≤ at rs (last_from ns g) = rowed (last_from ns g) (omega (arith, place-times ns hs t.0 (last_from ns g) t.1)) in
          omega (arith, ap (at rs) e, c.free-has.zero (omega (arith, c.free-has.size, times-length x (chain ns f))))

  closed-pool : Closed rs ns hs f → Pool ns hs f
  closed-pool c = record { linked = linked; unused = c.free-has.linked; once = closed-once c; size = omega (arith, c.size, c.free-has.size) }

  pub closed-whole : Closed rs ns hs f → (is_whole ns hs f ≡ true) × (all_zero (values_at rs (chain ns f)) ≡ true)
  closed-whole c =
      let p : Pool ns hs f = closed-pool c in
      (pool-whole ns hs f p, zeros-all rs (chain ns f) (omega (arith, pool-zeros rs size p rowed, c.free-has.size)))

  pub whole-closed : is_whole ns hs f ≡ true → all_zero (values_at rs (chain ns f)) ≡ true → Closed rs ns hs f
  whole-closed e h =
      let p : Pool ns hs f = whole-pool ns hs f e in
      let z : times 0 rs ≡ length (chain ns f) = zero-rows rs size p rowed h in
      record {
        apart = apart-ends ns hs linked (λ x. omega (arith, p.once x));
        size = omega (arith, p.size);
        free-has = record { linked = p.unused; size = sym z; zero = λ n. zero-value rs (chain ns f) (last_from ns f) h (last-there (chain ns f) (omega arith)) };
      }
