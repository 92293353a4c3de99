-- The loops of a common row. Two rows walk up until they meet (`Nearing`): the smaller of two rows is not on the path of the larger, so what lies on both
-- paths stays when the smaller moves to its parent. Rows one after another (`CommonLeft`): the path of x and those of the rows that are left say what all
-- paths say. For each a start, one turn, and the ends. Assumes nothing.
use mathlib.Core.Path.{◌≡◌, refl, sym, ap, ◌∙◌, subst}
use mathlib.Core.Logic.{◌≢◌}
use mathlib.Core.Bool.{Bool, true, false, ◌&&◌, ◌||◌}
use mathlib.Core.List.{List}
use Prim.Native.Nat.{ℕ, suc, ◌+◌, ◌≤◌, ◌<◌}
use native.Mathlib.Omega.{arith}
use native.Mathlib.Numerals.{add-one}
use lib.Dec.{eqb}
use lib.ListN.{length, get_or, drop}
use lib.Seq.{drop-cons, drop-length}
use borrow.Author.Tests.{eqb-true}
use Rattle.lists.specs.Lists.{at, all, among, is_in}
use Rattle.lists.proofs.Tests.{and-false, and-true, and_assoc, refute, in-range, and-swap}
use Rattle.lists.proofs.Member.{place-mem, all-at}
use Rattle.symbolic.specs.Columns.{Register, live}
use Rattle.symbolic.specs.Factor.{factor_for, multiplicity, parent_of}
use Rattle.symbolic.specs.Meeting.{on_paths, common_of}
use Rattle.symbolic.proofs.Build.{laws}
use Rattle.symbolic.proofs.Laws.{path-within}
use Rattle.symbolic.proofs.Paths.{path-members}
use Rattle.symbolic.proofs.Common.{common-shared}
use Rattle.calls.specs.Questions.{path_list}
use Rattle.questions.specs.Asked.{ParentsFor}
use Rattle.questions.specs.Meeting.{PathsJoin}
use Rattle.questions.proofs.Following.{step-up, path-none}

-- ---- conjunctions

and_same : (a : Bool) → (a && a) ≡ a
and_same true = refl
and_same false = refl

-- the first of two ways counts for nothing where it excludes the rest
first-idle : (z a b : Bool) → (z ≡ true → b ≡ false) → ((z || a) && b) ≡ (a && b)
first-idle true a b h = h refl ∙ sym (ap (λ (c : Bool). a && c) (h refl) ∙ and-false a)
first-idle false a b h = refl

-- ---- one step up, of the smaller of two rows

-- row k lies on both paths
abbrev on_both : Register → (a b k : ℕ) → Bool
on_both r a b k = among k (path_list r a) && among k (path_list r b)

module _ {ps : List ℕ} {r : Register} (f : ParentsFor ps r) where
  pub parent-higher : (q : ℕ) → 1 ≤ q → q ≤ length ps → at ps q ≢ 0 → (q < at ps q) × (at ps q ≤ length ps)
  parent-higher q a b n =
      let e : at ps q ≡ parent_of (factor_for r) q = f.parent q a b in
      let v : (q < parent_of (factor_for r) q) × (parent_of (factor_for r) q ≤ r.m) × (0 < multiplicity (factor_for r) (parent_of (factor_for r) q) q) =
      (laws r.m (live r)).parent_in q a (omega (arith, f.size)) (omega arith) in
      omega (arith, f.size)

  below-path : (x y : ℕ) → 1 ≤ y → y ≤ length ps → x < y → among x (path_list r y) ≡ false
  below-path x y a b l =
      let h : y ≤ r.m = omega (arith, f.size) in
      refute (among x (path_list r y)) (λ t. omega (arith, path-within (laws r.m (live r)) a h ((path-members r.m (live r) y x a h).0 t)))

  step-shared : (x y : ℕ) → 1 ≤ x → x ≤ length ps → 1 ≤ y → y ≤ length ps → x < y → (k : ℕ) → on_both r x y k ≡ on_both r (at ps x) y k
  unfolding among
  step-shared x y a b d e l k =
      ap (λ (p : List ℕ). among k p && among k (path_list r y)) (step-up f x a b).parts ∙
      first-idle (eqb k x) (among k (path_list r (at ps x))) (among k (path_list r y))
      (λ t. subst (λ (z : ℕ). among z (path_list r y) ≡ false) (sym (eqb-true k x t)) (below-path x y d e l))

  off-root : (q k : ℕ) → q ≡ 0 → among k (path_list r q) ≡ false
  unfolding among
  off-root q k z = ap (λ (j : ℕ). among k (path_list r j)) z ∙ ap (among k) (path-none f)

-- ---- two rows walk up: what lies on the paths of a and b lies on those of x and y

pub record Nearing (parents : List ℕ) (r : Register) (a b x y : ℕ) : Type 0 where
  pub shared : (k : ℕ) → on_both r a b k ≡ on_both r x y k
  pub left-low : 1 ≤ x
  pub left-high : x ≤ length parents
  pub right-low : 1 ≤ y
  pub right-high : y ≤ length parents

module _ {ps : List ℕ} {r : Register} (f : ParentsFor ps r) (a b : ℕ) where
  pub nearing-start : 1 ≤ a → a ≤ length ps → 1 ≤ b → b ≤ length ps → Nearing ps r a b a b
  nearing-start p q s t = record { shared = λ k. refl; left-low = p; left-high = q; right-low = s; right-high = t }

  module _ {x y : ℕ} (i : Nearing ps r a b x y) where
    -- the first is smaller
    module _ (l : x < y) where
      left-shared : (k : ℕ) → on_both r a b k ≡ on_both r (at ps x) y k
      left-shared k = i.shared k ∙ step-shared f x y i.left-low i.left-high i.right-low i.right-high l k

      pub nearing-left : at ps x ≢ 0 → Nearing ps r a b (at ps x) y
      nearing-left n =
          let u : (x < at ps x) × (at ps x ≤ length ps) = parent-higher f x i.left-low i.left-high n in
          record { shared = left-shared; left-low = omega arith; left-high = u.1; right-low = i.right-low; right-high = i.right-high }

      pub left-root : at ps x ≡ 0 → PathsJoin r a b 0
      left-root z =
          record {
            shared = λ k. left-shared k ∙ rw (off-root f (at ps x) k z, off-root f 0 k refl) refl;
            high = omega arith;
          }

    -- the second is smaller
    module _ (l : y < x) where
      right-shared : (k : ℕ) → on_both r a b k ≡ on_both r x (at ps y) k
      right-shared k =
          i.shared k ∙ and-swap (among k (path_list r x)) (among k (path_list r y)) ∙
          step-shared f y x i.right-low i.right-high i.left-low i.left-high l k ∙
          and-swap (among k (path_list r (at ps y))) (among k (path_list r x))

      pub nearing-right : at ps y ≢ 0 → Nearing ps r a b x (at ps y)
      nearing-right n =
          let u : (y < at ps y) × (at ps y ≤ length ps) = parent-higher f y i.right-low i.right-high n in
          record { shared = right-shared; left-low = i.left-low; left-high = i.left-high; right-low = omega arith; right-high = u.1 }

      pub right-root : at ps y ≡ 0 → PathsJoin r a b 0
      right-root z =
          record {
            shared = λ k. right-shared k ∙ rw (off-root f (at ps y) k z, off-root f 0 k refl) (and-false (among k (path_list r x)));
            high = omega arith;
          }

    pub nearing-end : x ≡ y → PathsJoin r a b x
    nearing-end q =
        record {
          shared = λ k.
              i.shared k ∙ ap (λ (z : ℕ). among k (path_list r x) && among k (path_list r z)) (sym q) ∙ and_same (among k (path_list r x));
          high = omega (arith, i.left-high, f.size);
        }

-- ---- rows one after another: the path of x and those of the rows from place k on say what all paths say

pub record CommonLeft (r : Register) (rows : List ℕ) (x k : ℕ) : Type 0 where
  pub within : k ≤ length rows
  pub low : 1 ≤ x
  pub high : x ≤ r.m
  pub same : (j : ℕ) → on_paths (factor_for r) rows j ≡ (among j (path_list r x) && on_paths (factor_for r) (drop k rows) j)

-- a row that was named is one of 1 to m
pub named-row : (m : ℕ) (rs : List ℕ) (k : ℕ) → k < length rs → all (is_in 1 m) rs ≡ true → (1 ≤ get_or rs k 0) × (get_or rs k 0 ≤ m)
named-row m rs k h e = in-range 1 m (get_or rs k 0) (all-at (is_in 1 m) (place-mem rs k 0 h) e)

module _ {ps : List ℕ} {r : Register} (f : ParentsFor ps r) (rs : List ℕ) where
  pub common-start : 1 ≤ length rs → all (is_in 1 (length ps)) rs ≡ true → CommonLeft r rs (get_or rs 0 0) 1
  unfolding all
  common-start h e =
      let t : (1 ≤ get_or rs 0 0) × (get_or rs 0 0 ≤ length ps) = named-row (length ps) rs 0 h e in
      record {
        within = h;
        low = t.0;
        high = omega (arith, f.size);
        same = λ j. ap (λ (l : List ℕ). on_paths (factor_for r) l j) (drop-cons rs 0 0 h);
      }

  module _ {x k : ℕ} (i : CommonLeft r rs x k) where
    module _ (h : k < length rs) {z : ℕ} (p : PathsJoin r x (get_or rs k 0) z) where
      row-met : (j : ℕ) → on_paths (factor_for r) rs j ≡ (among j (path_list r z) && on_paths (factor_for r) (drop (suc k) rs) j)
      unfolding all
      row-met j =
          i.same j ∙ ap (λ (l : List ℕ). among j (path_list r x) && on_paths (factor_for r) l j) (drop-cons rs k 0 h) ∙
          sym (and_assoc (among j (path_list r x)) (among j (path_list r (get_or rs k 0))) (on_paths (factor_for r) (drop (suc k) rs) j)) ∙
          ap (λ (b : Bool). b && on_paths (factor_for r) (drop (suc k) rs) j) (p.shared j)

      pub common-turn : z ≢ 0 → CommonLeft r rs z (k + 1)
      common-turn n =
          record {
            within = omega arith;
            low = omega arith;
            high = p.high;
            same = λ j.
                row-met j ∙ ap (λ (q : ℕ). among j (path_list r z) && on_paths (factor_for r) (drop q rs) j) (sym (add-one k));
          }

      -- the paths do not join: no row lies on all
      pub common-none : z ≡ 0 → 0 ≡ common_of (factor_for r) rs
      common-none e =
          sym (common-shared r.m (live r) rs 0 (omega arith) (λ j. row-met j ∙ rw (off-root f z j e, off-root f 0 j refl) refl))

    pub common-end : length rs ≤ k → x ≡ common_of (factor_for r) rs
    unfolding all
    common-end h =
        let e : k ≡ length rs = omega (arith, i.within) in
        sym (common-shared r.m (live r) rs x i.high
        (λ j.
        i.same j ∙ ap (λ (l : List ℕ). among j (path_list r x) && on_paths (factor_for r) l j) (ap (λ (q : ℕ). drop q rs) e ∙ drop-length rs) ∙
        and-true (among j (path_list r x))))
