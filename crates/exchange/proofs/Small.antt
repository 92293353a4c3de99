-- What stored columns that are sound have besides: no more columns than records (`rows-room`), no more rows in all patterns than records (`sizes-fit`), rows and
-- parents that are at most m (`rows-small`, `parents-small`). Assumes nothing.
use mathlib.Core.Path.{◌≡◌, refl, sym, ap, subst}
use mathlib.Core.Logic.{◌⊎◌, inl, inr}
use mathlib.Core.Bool.{true}
use mathlib.Core.List.{List, [], ◌∷◌, ◌++◌}
use Prim.Native.Nat.{ℕ, zero, suc, ◌+◌, ◌-◌, ◌≤◌, ◌<◌}
use native.Mathlib.Omega.{arith}
use lib.ListN.{length, get_or, length-append, get_or-eq_default}
use Rattle.lists.specs.Lists.{Mem, at, among, times, up_from}
use Rattle.lists.proofs.Tests.{lt-or-le}
use Rattle.lists.proofs.Member.{among-mem, mem-either, zero-at}
use Rattle.lists.proofs.Count.{count-full, count-le}
use Rattle.lists.proofs.Rising.{rises-in, from_up, up-length}
use Rattle.lists.proofs.Sum.{sum-le, sum-length}
use Rattle.lists.proofs.Times.{UpTo, among-count, times-append, times-mem, mem-times}
use Rattle.lists.proofs.Place.{values-mem}
use Rattle.symbolic.specs.Columns.{Column}
use Rattle.symbolic.specs.Factor.{factor_of, column_at, parent_of, size_of, size_sum}
use Rattle.symbolic.proofs.Patterns.{pattern-within-rows, pattern-parts}
use Rattle.symbolic.proofs.Sizes.{size-sum-of}
use Rattle.symbolic.proofs.Theorems.{parent_above}
use Rattle.pool.specs.Chains.{chain}
use Rattle.pool.specs.Whole.{chains, Pool}
use Rattle.pool.proofs.Chains.{linked-in}
use Rattle.pool.proofs.Whole.{chains-nil, chains_cons, all_in}
use Rattle.tables.specs.Stored.{Stored, records_of, is_sound_for}
use Rattle.tables.proofs.Stored.{SoundFor, sound-facts}
use Rattle.tables.proofs.Reading.{stored-full}

-- ---- a record's place

-- the chain that a record of all chains is in
chain-of : (ns hs : List ℕ) (x : ℕ) → Mem x (chains ns hs) → (j : ℕ) × (1 ≤ j) × (j ≤ length hs) × Mem x (chain ns (at hs j))
chain-of ns [] x h = elim (subst (λ (l : List ℕ). Mem x l) (chains-nil ns) h) [ ]
chain-of ns (h₀ ∷ hs) x h =
    elim (mem-either (chain ns h₀) (subst (λ (l : List ℕ). Mem x l) (chains_cons ns h₀ hs) h)) [
      | inl k ↦ (1, omega arith, omega arith, k)
      | inr k ↦
          let t : (j : ℕ) × (1 ≤ j) × (j ≤ length hs) × Mem x (chain ns (at hs j)) = chain-of ns hs x k in
          further t.0 t.1 t.2 t.3
    ]
  where
    further : (j : ℕ) → 1 ≤ j → j ≤ length hs → Mem x (chain ns (at hs j)) → (j : ℕ) × (1 ≤ j) × (j ≤ length (h₀ ∷ hs)) × Mem x (chain ns (at (h₀ ∷ hs) j))
    further zero a b k = absurd (omega arith)
    further (suc j) a b k =
        let q : suc j - 1 ≡ j = omega arith in
        let r : suc (suc j) - 1 ≡ suc j = omega arith in
        let n : Mem x (chain ns (get_or hs j 0)) = subst (λ (i : ℕ). Mem x (chain ns (get_or hs i 0))) q k in
        (suc (suc j), omega arith, omega arith, subst (λ (i : ℕ). Mem x (chain ns (get_or (h₀ ∷ hs) i 0))) (sym r) n)

-- each record of a whole pool stands in a chain or is free
record-in : {ns hs : List ℕ} {f : ℕ} → Pool ns hs f → (x : ℕ) → 1 ≤ x → x ≤ length ns → Mem x (chains ns hs) ⊎ Mem x (chain ns f)
record-in {ns} {hs} {f} p x a b =
    let rs : List ℕ = chains ns hs ++ chain ns f in
    let within : UpTo (length ns) rs = λ y n. up y n in
    let once : (y : ℕ) → times y rs ≤ 1 = λ y. omega (arith, times-append y (chains ns hs) (chain ns f), p.once y) in
    mem-either (chains ns hs) (among-mem x rs
    (count-full (λ y. among y rs) (λ y. true) (length ns) (λ c d e h. refl)
    (omega (arith, count-le (λ y. true) (length ns), among-count (length ns) rs once within, length-append (chains ns hs) (chain ns f), p.size)) x a b refl))
  where
    up : UpTo (length ns) (chains ns hs ++ chain ns f)
    up y n =
        elim (mem-either (chains ns hs) (times-mem y (chains ns hs ++ chain ns f) n)) [
          | inl k ↦ all_in ns hs p.linked y (mem-times k)
          | inr k ↦ linked-in ns f (chain ns f) p.unused y (mem-times k)
        ]

-- ---- sound stored columns

module _ (cs : List Column) (s : Stored) (z : is_sound_for cs s ≡ true) where
  facts : SoundFor cs s
  facts = sound-facts cs s z

  pub sizes-fit : size_sum (factor_of (length s.heads) cs) ≤ length s.next
  sizes-fit = omega (arith, stored-full cs s z)

  -- each column has its diagonal
  pub rows-room : length s.heads ≤ length s.next
  rows-room =
      let m : ℕ = length s.heads in
      let size : (j : ℕ) → Mem j (up_from 1 m) → 1 ≤ size_of (column_at (factor_of m cs) j) = λ j k.
      let b : (1 ≤ j) × (j < 1 + m) = from_up 1 m k in omega (arith, ap length (pattern-parts m cs j b.0 (omega arith)).1) in
      omega (
        arith,
        sizes-fit,
        size-sum-of m cs,
        sum-le (λ j. 1) (λ j. size_of (column_at (factor_of m cs) j)) (up_from 1 m) size,
        sum-length (up_from 1 m),
        up-length 1 m,
      )

  pub rows-small : length s.rows ≡ length s.next → (k : ℕ) → get_or s.rows k 0 ≤ length s.heads
  rows-small e k =
      elim (lt-or-le k (length s.next)) [
        | inr h ↦ omega (arith, get_or-eq_default s.rows 0 {n = k} (omega arith))
        | inl h ↦
            let q : suc k - 1 ≡ k = omega arith in
            subst (λ (i : ℕ). get_or s.rows i 0 ≤ length s.heads) q (elim (record-in facts.pool (suc k) (omega arith) (omega arith)) [
              | inl n ↦
                  let t : (j : ℕ) × (1 ≤ j) × (j ≤ length s.heads) × Mem (suc k) (records_of s j) = chain-of s.next s.heads (suc k) n in
                  (rises-in {x = at s.rows (suc k)} 1 (length s.heads)
                  (subst (λ (l : List ℕ). Mem (at s.rows (suc k)) l) (facts.column t.0 t.1 t.2).rows (values-mem s.rows t.3))
                  (pattern-within-rows (length s.heads) cs t.0 t.1 t.2)).1
              | inr n ↦ omega (arith, zero-at (values-mem s.rows n) facts.zero-rows)
            ])
      ]

  pub parents-small : length s.parents ≡ length s.heads → (k : ℕ) → get_or s.parents k 0 ≤ length s.heads
  parents-small e k =
      elim (lt-or-le k (length s.heads)) [
        | inr h ↦ omega (arith, get_or-eq_default s.parents 0 {n = k} (omega arith))
        | inl h ↦
            let q : suc k - 1 ≡ k = omega arith in
            let p : at s.parents (suc k) ≡ parent_of (factor_of (length s.heads) cs) (suc k) = (facts.column (suc k) (omega arith) (omega arith)).parent in
            let d : at s.parents (suc k) ≤ length s.heads =
            elim (parent_above (length s.heads) cs (suc k) (omega arith) (omega arith)) [ inl o ↦ omega arith | inr o ↦ omega (arith, o.1) ] in
            subst (λ (i : ℕ). get_or s.parents i 0 ≤ length s.heads) q d
      ]
