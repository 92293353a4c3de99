-- The columns that meet a row, as the code finds them: what the parent of a column and the marks above it tell (`row-parent` and on), the loop that marks from
-- row i down (`Marking`), the loop that copies the marked columns out (`Collecting`), and the marks cleared again. Assumes nothing.
use mathlib.Core.Path.{◌≡◌, refl, sym, ap, ◌∙◌, subst}
use mathlib.Core.Logic.{◌≢◌, inl, inr}
use mathlib.Core.Bool.{Bool, true, false, not}
use mathlib.Core.List.{List, [], ◌∷◌, ◌++◌, append_assoc, append-nil}
use Prim.Native.Nat.{ℕ, suc, ◌+◌, ◌-◌, ◌≤◌, ◌<◌}
use native.Mathlib.Omega.{arith}
use lib.Dec.{eqb}
use lib.ListN.{length, get_or, set, length-append}
use borrow.Author.Tests.{eq-eqb, ne_eqb}
use Rattle.lists.specs.Lists.{one, at, over, put}
use Rattle.lists.proofs.Tests.{eq-or-ne}
use Rattle.lists.proofs.Place.{at-put-same, at-put-other, over-push, over-length}
use Rattle.symbolic.specs.Columns.{Register, live}
use Rattle.symbolic.specs.Factor.{factor_for, multiplicity, parent_of, in_pattern}
use Rattle.symbolic.specs.Batch.{passing}
use Rattle.symbolic.proofs.Build.{laws}
use Rattle.symbolic.proofs.Passing.{passing-within, passing-short}
use Rattle.symbolic.proofs.Meeting.{meeting-cut, own-holds, holds-parent, holds-root, holds-above, holds-below}
use Rattle.workspace.specs.Regions.{IsZero, OnlyIn, cleared}
use Rattle.workspace.proofs.Regions.{zero-at, zero-part, only-refl, only-sym, only-trans, only_store, cleared-unique}
use Rattle.pool.specs.Chains.{chain}
use Rattle.columns.specs.Search.{count_of}
use Rattle.calls.specs.Questions.{meets_list}
use Rattle.questions.specs.Meeting.{TreeFor, CanClimb, MarkedAbove, marked_to}
use Rattle.questions.proofs.Reading.{read-multiplicity}

-- the place of a column is not 0
abbrev marked : (work : List ℕ) → (k : ℕ) → Bool
marked w k = not (eqb (at w k) 0)

-- tables that can be read are those of a register
pub climb-tree : {hs ps rs cs ns : List ℕ} (c : CanClimb hs ps rs cs ns) → TreeFor hs ps rs cs ns c.ask.register
climb-tree c = record { columns-are = c.ask.held; parents-are = c.parents-are }

-- ---- a column below row i, by its parent and the marks above it

module _ {hs ps rs cs ns : List ℕ} {r : Register} (t : TreeFor hs ps rs cs ns r) (i j : ℕ) (a : 1 ≤ j) (b : j < i) (d : i ≤ length hs) where
  abbrev m : ℕ
  m = r.m

  size : m ≡ length hs
  size = t.columns-are.size

  parent-at : at ps j ≡ parent_of (factor_for r) j
  parent-at = t.parents-are.parent j a (omega (arith, size, t.parents-are.size))

  high : i ≤ m
  high = omega (arith, size)

  pub row-parent : at ps j ≡ i → true ≡ in_pattern (factor_for r) i j
  row-parent e = sym (holds-parent m (live r) i j a b high (sym parent-at ∙ e))

  pub row-root : at ps j ≡ 0 → false ≡ in_pattern (factor_for r) i j
  row-root e = sym (holds-root m (live r) i j a b high (sym parent-at ∙ e))

  pub row-above : i < at ps j → false ≡ in_pattern (factor_for r) i j
  row-above e = sym (holds-above m (live r) i j a b high (subst (λ (p : ℕ). i < p) parent-at e))

  pub row-unmarked : (w : List ℕ) → MarkedAbove r w i j → at ps j ≢ 0 → at ps j ≤ i → at w (at ps j) ≡ 0 → false ≡ in_pattern (factor_for r) i j
  row-unmarked w k p q z =
      let v : (j < parent_of (factor_for r) j) × (parent_of (factor_for r) j ≤ m) × (0 < multiplicity (factor_for r) (parent_of (factor_for r) j) j) =
      (laws m (live r)).parent_in j a (omega (arith, high)) (omega (arith, parent-at)) in
      let h : one (in_pattern (factor_for r) i (at ps j)) ≡ 0 = sym (k.done (at ps j) (omega (arith, v.0, parent-at)) q) ∙ z in
      sym (holds-below m (live r) i j a b high (subst (λ (x : ℕ). in_pattern (factor_for r) i x ≡ false) parent-at (one_none (in_pattern (factor_for r) i (at ps j)) h)))
    where
      one_none : (c : Bool) → one c ≡ 0 → c ≡ false
      one_none true e = absurd (omega arith)
      one_none false e = refl

  pub row-counted : (n : ℕ) → n ≡ count_of rs cs (chain ns (at hs j)) i → not (eqb n 0) ≡ in_pattern (factor_for r) i j
  row-counted n e =
      ap (λ (x : ℕ). not (eqb x 0)) (e ∙ read-multiplicity t.columns-are j a (omega arith) i (omega arith))

-- ---- marking from row i down

only-put : {w x : List ℕ} (i k v : ℕ) → OnlyIn 0 i w x → 1 ≤ k → k ≤ i → OnlyIn 0 i w (put x k v)
only-put {w} {x} i k v o a b =
    let q : 0 + (k - 1) ≡ k - 1 = omega arith in
    subst (λ (p : ℕ). OnlyIn 0 i w (set x p v)) q (only_store o (k - 1) v (omega arith))

-- columns above j are marked and counted, those from j down are not yet
pub record Marking (hs ps rs cs ns work₀ : List ℕ) (i : ℕ) (work : List ℕ) (n j : ℕ) : Type 0 where
  pub only : OnlyIn 0 i work₀ work
  pub below : j < i
  pub counted : n ≡ length (passing (marked work) (suc j) (i - j))
  pub marks : (r : Register) → TreeFor hs ps rs cs ns r → MarkedAbove r work i j
  pub left : (k : ℕ) → 1 ≤ k → k ≤ j → at work k ≡ 0

-- one column more in front
before-one : (f : ℕ → Bool) (i j : ℕ) → 1 ≤ j → j < i → passing f (suc (j - 1)) (i - (j - 1)) ≡ passing f j (suc (i - j))
before-one f i j a b =
    let p : suc (j - 1) ≡ j = omega arith in
    let q : i - (j - 1) ≡ suc (i - j) = omega arith in
    ap (λ (x : ℕ). passing f x (i - (j - 1))) p ∙ ap (passing f j) q

mark-is : (w : List ℕ) (k : ℕ) {v : ℕ} → at w k ≡ v → marked w k ≡ not (eqb v 0)
mark-is w k e = ap (λ (x : ℕ). not (eqb x 0)) e

module _ {hs ps rs cs ns : List ℕ} (i : ℕ) (low : 1 ≤ i) (high : i ≤ length hs) where
  -- row i's own column is marked
  pub marking-start : (work : List ℕ) → length hs ≤ length work → IsZero work 0 (length hs) → Marking hs ps rs cs ns (put work i 1) i (put work i 1) 1 (i - 1)
  unfolding passing
  marking-start work room z =
      let w : List ℕ = put work i 1 in
      let own : at w i ≡ 1 = at-put-same work i 1 low (omega arith) in
      let p : suc (i - 1) ≡ i = omega arith in
      let q : i - (i - 1) ≡ 1 = omega arith in
      let alone : passing (marked w) i 1 ≡ i ∷ [] = rw (mark-is w i own) refl in
      let others : (k : ℕ) → 1 ≤ k → k ≤ i - 1 → at w k ≡ 0 =
      λ k a b. at-put-other work i k 1 low a (λ e. omega arith) ∙ zero-at work 0 (length hs) (k - 1) z (omega arith) (omega arith) in
      record {
        only = only-refl;
        below = omega arith;
        counted = sym (ap length (ap (λ (x : ℕ). passing (marked w) x (i - (i - 1))) p ∙ ap (passing (marked w) i) q ∙ alone));
        marks = λ r t. record {
          done = λ k a b.
              let e : i ≡ k = omega arith in
              subst (λ (x : ℕ). at w x ≡ one (in_pattern (factor_for r) i x)) e
              (own ∙ sym (ap one (own-holds r.m (live r) i low (omega (arith, t.columns-are.size)))));
          left = others;
        };
        left = others;
      }

module _ {hs ps rs cs ns work₀ : List ℕ} (i : ℕ) (low : 1 ≤ i) (high : i ≤ length hs) (room : length hs ≤ length work₀) where
  module _ {work : List ℕ} {n j : ℕ} (c : Marking hs ps rs cs ns work₀ i work n j) where
    pub marking-short : n + j ≤ i
    marking-short = omega (arith, c.counted, c.below, passing-short (marked work) (suc j) (i - j))

    pub marking-long : length work ≡ length work₀
    marking-long = c.only.same_length

    module _ (a : 1 ≤ j) where
      -- column j holds row i
      pub marking-take : ((r : Register) → TreeFor hs ps rs cs ns r → MarkedAbove r work i j → in_pattern (factor_for r) i j ≡ true) →
          Marking hs ps rs cs ns work₀ i (put work j 1) (n + 1) (j - 1)
      unfolding passing
      marking-take h =
          let w : List ℕ = put work j 1 in
          let own : at w j ≡ 1 = at-put-same work j 1 a (omega (arith, marking-long, c.below)) in
          let same : (k : ℕ) → 1 ≤ k → k ≢ j → at w k ≡ at work k = λ k x y. at-put-other work j k 1 a x y in
          let rest : passing (marked w) (suc j) (i - j) ≡ passing (marked work) (suc j) (i - j) =
          passing-within (marked w) (marked work) (suc j) (i - j) (λ k x y. mark-is w k (same k (omega arith) (λ e. omega arith))) in
          let front : passing (marked w) j (suc (i - j)) ≡ j ∷ passing (marked work) (suc j) (i - j) =
          rw (mark-is w j own) (ap {B = List ℕ} (λ l. j ∷ l) rest) in
          let others : (k : ℕ) → 1 ≤ k → k ≤ j - 1 → at w k ≡ 0 = λ k x y. same k x (λ e. omega arith) ∙ c.left k x (omega arith) in
          record {
            only = only-put i j 1 c.only a (omega (arith, c.below));
            below = omega (arith, c.below);
            counted = omega (arith, c.counted, ap length (before-one (marked w) i j a c.below ∙ front));
            marks = λ r t. record {
              done = λ k x y. elim (eq-or-ne k j) [
                | inl e ↦ rw e (own ∙ sym (ap one (h r t (c.marks r t))))
                | inr e ↦ same k (omega arith) e ∙ (c.marks r t).done k (omega arith) y
              ];
              left = others;
            };
            left = others;
          }

      -- column j does not
      pub marking-pass : ((r : Register) → TreeFor hs ps rs cs ns r → MarkedAbove r work i j → in_pattern (factor_for r) i j ≡ false) →
          Marking hs ps rs cs ns work₀ i work n (j - 1)
      unfolding passing
      marking-pass h =
          let front : passing (marked work) j (suc (i - j)) ≡ passing (marked work) (suc j) (i - j) =
          rw (mark-is work j (c.left j a (omega arith))) refl in
          record {
            only = c.only;
            below = omega (arith, c.below);
            counted = c.counted ∙ sym (ap length (before-one (marked work) i j a c.below ∙ front));
            marks = λ r t. record {
              done = λ k x y. elim (eq-or-ne k j) [
                | inl e ↦ rw e (c.left j a (omega arith) ∙ sym (ap one (h r t (c.marks r t))))
                | inr e ↦ (c.marks r t).done k (omega arith) y
              ];
              left = λ k x y. c.left k x (omega arith);
            };
            left = λ k x y. c.left k x (omega arith);
          }

    module _ (z : j ≡ 0) where
      pub marking-number : n ≡ length (marked_to work i)
      marking-number =
          let q : i - 0 ≡ i = omega arith in
          c.counted ∙ ap length (ap (λ (x : ℕ). passing (marked work) (suc x) (i - x)) z ∙ ap (passing (marked work) 1) q)

      pub marking-all : (r : Register) → TreeFor hs ps rs cs ns r → MarkedAbove r work i 0
      marking-all r t = subst (λ (x : ℕ). MarkedAbove r work i x) z (c.marks r t)

-- when all are marked, the marked columns are those that hold row i
pub marked-meets : {hs ps rs cs ns : List ℕ} {r : Register} (i : ℕ) → TreeFor hs ps rs cs ns r → 1 ≤ i → i ≤ length hs → {work : List ℕ} → MarkedAbove r work i 0 →
    marked_to work i ≡ meets_list r i
marked-meets {r = r} i t a b {work} c =
    passing-within (marked work) (λ (k : ℕ). in_pattern (factor_for r) i k) 1 i
    (λ k x y. mark-is work k (c.done k (omega arith) (omega arith)) ∙ one-is (in_pattern (factor_for r) i k)) ∙
    sym (meeting-cut r.m (live r) i a (omega (arith, t.columns-are.size)))
  where
    one-is : (x : Bool) → not (eqb (one x) 0) ≡ x
    one-is true = refl
    one-is false = refl

-- so many columns, by every register
pub meets-number : {hs ps rs cs ns work : List ℕ} {i n : ℕ} → 1 ≤ i → i ≤ length hs → n ≡ length (marked_to work i) →
    ((r : Register) → TreeFor hs ps rs cs ns r → MarkedAbove r work i 0) → (r : Register) → TreeFor hs ps rs cs ns r → n ≡ length (meets_list r i)
meets-number {i = i} a b e m r t = e ∙ ap length (marked-meets i t a b (m r t))

-- from the table before row i was marked
pub marking-only : {hs ps rs cs ns work₀ work : List ℕ} (i : ℕ) {n j : ℕ} → 1 ≤ i → Marking hs ps rs cs ns (put work₀ i 1) i work n j → OnlyIn 0 i work₀ work
marking-only i {n} {j} a c = only-trans (only-put i i 1 only-refl a (omega arith)) c.only

pub meets-few : {hs ps rs cs ns : List ℕ} {r : Register} (i : ℕ) → TreeFor hs ps rs cs ns r → 1 ≤ i → i ≤ length hs → length (meets_list r i) ≤ i
meets-few {r = r} i t a b =
    let f : ℕ → Bool = λ (j : ℕ). in_pattern (factor_for r) i j in
    omega (arith, ap length (meeting-cut r.m (live r) i a (omega (arith, t.columns-are.size))), passing-short f 1 i)

-- ---- copying the marked columns out

-- the columns up to j are done: the marked ones stand at the front of the list
pub record Collecting (work list₀ : List ℕ) (i : ℕ) (list : List ℕ) (j k : ℕ) : Type 0 where
  pub done : List ℕ
  pub parts : marked_to work i ≡ done ++ passing (marked work) (suc j) (i - j)
  pub number : length done ≡ k
  pub written : list ≡ over done list₀
  pub high : j ≤ i

module _ {work list₀ : List ℕ} {i : ℕ} (fits : length (marked_to work i) ≤ length list₀) where
  pub collecting-start : Collecting work list₀ i list₀ 0 0
  collecting-start =
      let q : i ≡ i - 0 = omega arith in
      record { done = []; parts = ap (passing (marked work) 1) q; number = refl; written = refl; high = omega arith }

  module _ {list : List ℕ} {j k : ℕ} (c : Collecting work list₀ i list j k) where
    collecting-within : k + length (passing (marked work) (suc j) (i - j)) ≡ length (marked_to work i)
    collecting-within = omega (arith, c.number, ap length c.parts, length-append c.done (passing (marked work) (suc j) (i - j)))

    pub collecting-long : length list ≡ length list₀
    collecting-long = ap length c.written ∙ over-length c.done list₀ (omega (arith, fits, collecting-within, c.number))

    module _ (b : j < i) where
      next_one : (f : ℕ → Bool) → passing f (suc j) (i - j) ≡ passing f (suc j) (suc (i - suc j))
      next_one f = let q : i - j ≡ suc (i - suc j) = omega arith in ap (passing f (suc j)) q

      module _ (z : get_or work j 0 ≢ 0) where
        front : passing (marked work) (suc j) (i - j) ≡ suc j ∷ passing (marked work) (suc (suc j)) (i - suc j)
        unfolding passing
        front =
            let q : suc j - 1 ≡ j = omega arith in
            let e : marked work (suc j) ≡ true = ap (λ (x : ℕ). not (eqb (get_or work x 0) 0)) q ∙ ap not (ne_eqb (get_or work j 0) 0 z) in
            next_one (marked work) ∙ rw e refl

        pub collecting-room : k < length list
        collecting-room = omega (arith, fits, collecting-within, ap length front, collecting-long)

        pub collecting-take : Collecting work list₀ i (set list k (j + 1)) (j + 1) (k + 1)
        collecting-take =
            let p : suc j ≡ j + 1 = omega arith in
            subst (λ (x : ℕ). Collecting work list₀ i (set list k x) x (k + 1)) p
            (record {
              done = c.done ++ (suc j ∷ []);
              parts = c.parts ∙ ap (λ (l : List ℕ). c.done ++ l) front ∙ sym (append_assoc c.done (suc j ∷ []) (passing (marked work) (suc (suc j)) (i - suc j)));
              number = omega (arith, length-append c.done (suc j ∷ []), c.number);
              written =
                  ap (λ (l : List ℕ). set l k (suc j)) c.written ∙
                  over-push c.done list₀ k (suc j) c.number (omega (arith, collecting-room, collecting-long));
              high = b;
            })

      pub collecting-pass : get_or work j 0 ≡ 0 → Collecting work list₀ i list (j + 1) k
      unfolding passing
      collecting-pass z =
          let p : suc j ≡ j + 1 = omega arith in
          let q : suc j - 1 ≡ j = omega arith in
          let e : marked work (suc j) ≡ false = ap (λ (x : ℕ). not (eqb (get_or work x 0) 0)) q ∙ ap not (eq-eqb (get_or work j 0) 0 z) in
          subst (λ (x : ℕ). Collecting work list₀ i list x k) p
          (record {
            done = c.done;
            parts = c.parts ∙ ap (λ (l : List ℕ). c.done ++ l) (next_one (marked work) ∙ rw e refl);
            number = c.number;
            written = c.written;
            high = b;
          })

    pub collecting-end : i ≤ j → list ≡ over (marked_to work i) list₀
    unfolding passing
    collecting-end h =
        let q : i - j ≡ 0 = omega arith in
        c.written ∙ ap (λ (l : List ℕ). over l list₀)
        (sym (c.parts ∙ ap (λ (x : ℕ). c.done ++ passing (marked work) (suc j) x) q ∙ append-nil c.done))

-- ---- the marks cleared

-- a table that was zero there is as before
pub marks-cleared : {work₀ work : List ℕ} (i n : ℕ) → i ≤ n → n ≤ length work₀ → IsZero work₀ 0 n → OnlyIn 0 i work₀ work → cleared work 0 i ≡ work₀
marks-cleared {work₀} {work} i n a b z o =
    sym (cleared-unique work 0 i (omega (arith, o.same_length)) (only-sym o) (zero-part work₀ 0 n 0 i z (omega arith) (omega arith)))
