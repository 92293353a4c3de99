-- All that a column is given, counted in three steps: the diagonal, the children, the columns that start there. What a step leaves of the table
-- (module over OnlyIn), that each step can be made, and the three put together (giving-end). Assumes nothing.
use mathlib.Core.Path.{◌≡◌, refl, sym, ap, subst, ◌∙◌}
use mathlib.Core.Logic.{inl, inr}
use mathlib.Core.List.{List, [], ◌∷◌, ◌++◌}
use Prim.Native.Nat.{ℕ, suc, ◌+◌, ◌*◌, ◌-◌, ◌≤◌, ◌<◌}
use native.Mathlib.Omega.{arith}
use lib.ListN.{length, get_or, take, set, length-take}
use lib.Seq.{get_or-take}
use Rattle.lists.specs.Lists.{at, put, times}
use Rattle.lists.proofs.Tests.{eq-or-ne}
use Rattle.lists.proofs.Times.{times-nil, times-other, UpTo, times-length}
use Rattle.workspace.specs.Layout.{child_head, child_next, column_head, stash_start, row_stash, column_next}
use Rattle.workspace.specs.Regions.{cell, region, IsZero, OnlyIn}
use Rattle.workspace.proofs.Regions.{region-length, region-cell, region-ext, zero-at, only-trans}
use Rattle.pool.proofs.Chains.{linked-short, linked-high}
use Rattle.book.specs.Tally.{tallied, filled, booked_rows}
use Rattle.book.proofs.Tally.{tallied-append, tallied-cell, filled-raise, filled-most, filled_zero}
use Rattle.counting.specs.Counting.{gathered}
use Rattle.counting.specs.Given.{Counted, Places, children_in, stashed, Stashed, CanTallyChildren, starting_in, CanTallyColumns, given_in, CanTallyAll}
use Rattle.counting.proofs.Numbers.{gathered-ext, gathered-up, gathered-length}
use Rattle.counting.proofs.Tallies.{tallied-front, tallied-only, tallied-raised}
use Rattle.counting.proofs.Children.{stashed-length}

-- ---- what counting leaves of the table

module _ (m f : ℕ) {w₀ w : List ℕ} (o : OnlyIn 0 m w₀ w) (long : 8 * m + 4 * f + 1024 ≤ length w₀) where
  pub keep-place : (k : ℕ) → m ≤ k → get_or w k 0 ≡ get_or w₀ k 0
  keep-place k p = o.outside k (inr (omega arith))

  pub keep-region : (a l : ℕ) → m ≤ a → a + l ≤ length w₀ → region w a l ≡ region w₀ a l
  keep-region a l p q = region-ext w₀ w a a l q (omega (arith, o.same_length)) (λ i h. keep-place (a + i) (omega arith))

  module _ (j : ℕ) (low : 1 ≤ j) (high : j ≤ m) where
    pub keep-children : children_in w m j ≡ children_in w₀ m j
    keep-children = rw (keep-region (child_next m) m (omega arith) (omega arith), keep-place (child_head m + (j - 1)) (omega arith)) refl

    pub keep-starting : (n c : ℕ) → column_next m f c + n ≤ length w₀ → starting_in w m f n c j ≡ starting_in w₀ m f n c j
    keep-starting n c h = rw (keep-region (column_next m f c) n (omega arith) h, keep-place (column_head m + (j - 1)) (omega arith)) refl

  module _ (c : ℕ) (in-m : c ≤ m) (s : Stashed w₀ m f c) where
    keep-start : cell w (stash_start m) (c - 1) ≡ cell w₀ (stash_start m) (c - 1)
    keep-start = keep-place (stash_start m + (c - 1)) (omega arith)

    keep-end : cell w (stash_start m) c ≡ cell w₀ (stash_start m) c
    keep-end = keep-place (stash_start m + c) (omega arith)

    pub keep-stashed : stashed w m f c ≡ stashed w₀ m f c
    keep-stashed =
        rw (keep-start, keep-end)
        (keep-region (row_stash m f + cell w₀ (stash_start m) (c - 1) + 1) (cell w₀ (stash_start m) c - cell w₀ (stash_start m) (c - 1) - 1)
        (omega arith) (omega (arith, s.some, s.within)))

    pub keep-piece : Stashed w m f c
    keep-piece =
        record {
          some = omega (arith, s.some, keep-start, keep-end);
          short = omega (arith, s.short, keep-start, keep-end);
          within = omega (arith, s.within, keep-end);
          rows_in = subst (λ (l : List ℕ). UpTo m l) (sym keep-stashed) s.rows_in;
        }

-- ---- how many counters are not 0

pub counted-few : {m : ℕ} {w₀ w rows : List ℕ} {size : ℕ} → Counted m w₀ w rows size → size ≤ m
counted-few {m} {w₀} {w} c = omega (arith, c.size_is, filled-most (region w 0 m), length-take m w)

-- after zero counters
pub counted-filled : {m : ℕ} {w₀ w rows : List ℕ} {size : ℕ} → Counted m w₀ w rows size → IsZero w₀ 0 m → size ≡ filled (region w 0 m)
counted-filled {m} {w₀} {w} c z =
    omega (
      arith,
      c.size_is,
      filled_zero (region w₀ 0 m) (λ k h. let s : k < m = omega (arith, length-take m w₀) in region-cell w₀ 0 m k s ∙ z k s),
    )

-- ---- the three steps

module _ {hs rs ns w₀ : List ℕ} {m f j : ℕ} (pre : CanTallyAll hs rs ns w₀ m f j) where
  abbrev after_one : List ℕ
  after_one = set w₀ (j - 1) 1

  abbrev kids : List ℕ
  kids = gathered (stashed w₀ m f) (children_in w₀ m j)

  abbrev cols : List ℕ
  cols = gathered (booked_rows hs rs ns) (starting_in w₀ m f (length hs) (length ns) j)

  one-is : after_one ≡ tallied w₀ (j ∷ [])
  unfolding tallied
  one-is =
      let z : at w₀ j ≡ 0 = ap (λ (k : ℕ). get_or w₀ k 0) (zero-add (j - 1)) ∙ pre.zero (j - 1) (omega (arith, pre.sizes.low, pre.sizes.high)) in
      let e : 1 ≡ at w₀ j + 1 = omega arith in ap (put w₀ j) e
    where
      zero-add : (k : ℕ) → k ≡ 0 + k
      zero-add k = omega arith

  one_up : UpTo m (j ∷ [])
  one_up x n =
      elim (eq-or-ne x j) [
        | inl e ↦ omega (arith, pre.sizes.low, pre.sizes.high)
        | inr e ↦ absurd (omega (arith, times-other x j [] e, times-nil x))
      ]

  one-raised : 1 + filled (region w₀ 0 m) ≡ filled (region after_one 0 m)
  one-raised =
      let z : get_or w₀ (j - 1) 0 ≡ 0 = zero-at w₀ 0 m (j - 1) pre.zero (omega arith) (omega (arith, pre.sizes.low, pre.sizes.high)) in
      tallied-raised m 1 w₀ (j ∷ []) one_up one-is (sym (filled-raise w₀ (j - 1) 1 (omega (arith, pre.sizes)) z (omega arith)))

  one_only : OnlyIn 0 m w₀ after_one
  one_only = rw one-is (tallied-only m w₀ (j ∷ []) one_up)

  child-in : (c : ℕ) → 1 ≤ times c (children_in w₀ m j) → c ≤ m
  child-in c n =
      omega (
        arith,
        linked-high (region w₀ (child_next m) m) (cell w₀ (child_head m) (j - 1)) (children_in w₀ m j) c pre.children n,
        region-length w₀ (child_next m) m (omega (arith, pre.sizes.long)),
      )

  kids-up : UpTo m kids
  kids-up = gathered-up m (stashed w₀ m f) (children_in w₀ m j) (λ c n. (pre.stash c n).rows_in)

  kids-few : length kids ≤ 16777216
  kids-few =
      omega (
        arith,
        gathered-length 4096 (stashed w₀ m f) (children_in w₀ m j) (λ c n. omega (arith, stashed-length w₀ m f c, (pre.stash c n).short, pre.sizes.m-bound)),
        linked-short (region w₀ (child_next m) m) (cell w₀ (child_head m) (j - 1)) (children_in w₀ m j) pre.children,
        region-length w₀ (child_next m) m (omega (arith, pre.sizes.long)),
        pre.sizes.m-bound,
      )

  sizes-at : {w : List ℕ} → OnlyIn 0 m w₀ w → Places m f w j
  sizes-at o =
      record {
        low = pre.sizes.low;
        high = pre.sizes.high;
        m-bound = pre.sizes.m-bound;
        f-bound = pre.sizes.f-bound;
        long = omega (arith, pre.sizes.long, o.same_length);
      }

  one-counter : (k : ℕ) → k < m → get_or after_one k 0 ≤ 1
  one-counter k h =
      let z : get_or w₀ k 0 ≡ 0 = ap (λ (i : ℕ). get_or w₀ i 0) (zero-add k) ∙ pre.zero k h in
      let u : get_or (tallied w₀ (j ∷ [])) k 0 ≡ get_or w₀ k 0 + times (suc k) (j ∷ []) = tallied-cell m w₀ (j ∷ []) k one_up (omega (arith, pre.sizes.long)) in
      omega (arith, ap (λ (l : List ℕ). get_or l k 0) one-is, times-length (suc k) (j ∷ []))
    where
      zero-add : (k : ℕ) → k ≡ 0 + k
      zero-add k = omega arith

  pub giving-children : CanTallyChildren after_one m f j
  giving-children =
      let l : 8 * m + 4 * f + 1024 ≤ length w₀ = pre.sizes.long in
      let b : (1 ≤ j) × (j ≤ m) = (pre.sizes.low, pre.sizes.high) in
      let k : children_in after_one m j ≡ children_in w₀ m j = keep-children m f one_only l j b.0 b.1 in
      record {
        sizes = sizes-at one_only;
        linked =
            rw (k, keep-region m f one_only l (child_next m) m (omega arith) (omega arith), keep-place m f one_only l (child_head m + (j - 1)) (omega arith)) pre.children;
        each = λ c n.
            let n₀ : 1 ≤ times c (children_in w₀ m j) = subst (λ (x : List ℕ). 1 ≤ times c x) k n in
            keep-piece m f one_only l c (child-in c n₀) (pre.stash c n₀);
        room = λ i h. omega (arith, one-counter i h);
      }

  -- the children's rows are those of the table as it was lent
  kids-same : gathered (stashed after_one m f) (children_in after_one m j) ≡ kids
  kids-same =
      let l : 8 * m + 4 * f + 1024 ≤ length w₀ = pre.sizes.long in
      ap (gathered (stashed after_one m f)) (keep-children m f one_only l j pre.sizes.low pre.sizes.high) ∙
      gathered-ext (stashed after_one m f) (stashed w₀ m f) (children_in w₀ m j) (λ c n. keep-stashed m f one_only l c (child-in c n) (pre.stash c n))

  module _ {w₂ : List ℕ} {r : ℕ} (d : Counted m after_one w₂ (gathered (stashed after_one m f) (children_in after_one m j)) r) where
    both-only : OnlyIn 0 m w₀ w₂
    both-only = only-trans one_only d.only

    two-counter : (k : ℕ) → k < m → get_or w₂ k 0 ≤ 16777217
    two-counter k h =
        let u : get_or (tallied (region after_one 0 m) kids) k 0 ≡ get_or (region after_one 0 m) k 0 + times (suc k) kids =
        tallied-cell m (region after_one 0 m) kids k kids-up (omega (arith, region-length after_one 0 m (omega (arith, one_only.same_length, pre.sizes.long)))) in
        omega (
          arith,
          get_or-take m w₂ k 0 h,
          ap (λ (l : List ℕ). get_or l k 0) d.counters,
          ap (λ (l : List ℕ). get_or (tallied (region after_one 0 m) l) k 0) kids-same,
          get_or-take m after_one k 0 h,
          one-counter k h,
          times-length (suc k) kids,
          kids-few,
        )

    pub giving-first : r ≤ 4096
    giving-first = omega (arith, counted-few d, pre.sizes.m-bound)

    starting-same : starting_in w₂ m f (length hs) (length ns) j ≡ starting_in w₀ m f (length hs) (length ns) j
    starting-same = keep-starting m f both-only pre.sizes.long j pre.sizes.low pre.sizes.high (length hs) (length ns) pre.table-long

    pub giving-columns : CanTallyColumns hs rs ns w₂ m f j
    giving-columns =
        let l : 8 * m + 4 * f + 1024 ≤ length w₀ = pre.sizes.long in
        let b : (1 ≤ j) × (j ≤ m) = (pre.sizes.low, pre.sizes.high) in
        record {
          sizes = sizes-at both-only;
          n-bound = pre.n-bound;
          c-bound = pre.c-bound;
          table-long = omega (arith, pre.table-long, both-only.same_length);
          linked =
              rw (
                starting-same,
                keep-region m f both-only l (column_next m f (length ns)) (length hs) (omega arith) pre.table-long,
                keep-place m f both-only l (column_head m + (j - 1)) (omega arith),
              ) pre.starting;
          each = λ i n. pre.copied i (subst (λ (x : List ℕ). 1 ≤ times i x) starting-same n);
          rows_in = λ i n. pre.rows_in i (subst (λ (x : List ℕ). 1 ≤ times i x) starting-same n);
          room = λ i h. omega (arith, two-counter i h);
        }

    module _ {w₃ : List ℕ} {q : ℕ} (e : Counted m w₂ w₃ (gathered (booked_rows hs rs ns) (starting_in w₂ m f (length hs) (length ns) j)) q) where
      cols-same : gathered (booked_rows hs rs ns) (starting_in w₂ m f (length hs) (length ns) j) ≡ cols
      cols-same = ap (gathered (booked_rows hs rs ns)) starting-same

      pub giving-second : q ≤ 4096
      giving-second = omega (arith, counted-few e, pre.sizes.m-bound)

      pub giving-end : Counted m w₀ w₃ (given_in hs rs ns w₀ m f j) (1 + r + q)
      unfolding tallied
      giving-end =
          record {
            only = only-trans both-only e.only;
            counters =
                e.counters ∙ ap (tallied (region w₂ 0 m)) cols-same ∙ ap (λ (l : List ℕ). tallied l cols) (d.counters ∙ ap (tallied (region after_one 0 m)) kids-same) ∙
                sym (tallied-append (region after_one 0 m) kids cols) ∙
                ap (λ (l : List ℕ). tallied l (kids ++ cols)) (ap (take m) one-is ∙ tallied-front m w₀ (j ∷ []) one_up);
            size_is = omega (arith, d.size_is, e.size_is, one-raised);
          }
