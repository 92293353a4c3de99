-- Groups of a list of columns, from place a to place e: booked as the list is (`booked-part`), and what they touch, one after another, is what the list's front
-- touches (`leaving-more`, `entering-more`). Assumes nothing.
use mathlib.Core.Path.{◌≡◌, sym, ap, ◌∙◌, subst}
use mathlib.Core.Bool.{Bool, ◌||◌}
use mathlib.Core.List.{List, [], ◌∷◌, ◌++◌, append-nil}
use Prim.Native.Nat.{ℕ, zero, suc, ◌+◌, ◌-◌, ◌≤◌, ◌<◌}
use native.Mathlib.Omega.{arith}
use lib.ListN.{take, drop, take-append-drop}
use lib.Seq.{take-add, drop-drop}
use Rattle.lists.specs.Lists.{sum_of}
use Rattle.lists.proofs.Tests.{or-false}
use Rattle.lists.proofs.Sum.{sum-append}
use Rattle.symbolic.specs.Columns.{Column}
use Rattle.symbolic.specs.Factor.{FactorColumn, factor_of}
use Rattle.symbolic.specs.Batch.{is_touched}
use Rattle.symbolic.specs.Change.{Bag}
use Rattle.symbolic.specs.Groups.{joined, leave_touches, enter_touches}
use Rattle.symbolic.proofs.Theorems.{order-free, leave-splits, enter-splits}
use Rattle.book.specs.Book as book
use Rattle.updown.specs.Entries.{Booked}
use Rattle.exchange.specs.Stages.{group_touches}

-- the group from place a on ends at place e, of n in all
pub record GroupEnds (a n e : ℕ) : Type 0 where
  pub low : a < e
  pub high : e ≤ n
  pub few : e ≤ a + 64

-- ---- booked

booked-front : (b : book.Book) (n : ℕ) (ids : List ℕ) (W : List Column) → Booked b ids W → Booked b (take n ids) (take n W)
unfolding Booked
booked-front b zero ids W h = tt
booked-front b (suc n) [] [] h = tt
booked-front b (suc n) [] (w ∷ ws) h = h
booked-front b (suc n) (i ∷ is) [] h = h
booked-front b (suc n) (i ∷ is) (w ∷ ws) h = (h.0, h.1, h.2, booked-front b n is ws h.3)

booked-rest : (b : book.Book) (n : ℕ) (ids : List ℕ) (W : List Column) → Booked b ids W → Booked b (drop n ids) (drop n W)
unfolding Booked
booked-rest b zero ids W h = h
booked-rest b (suc n) [] [] h = tt
booked-rest b (suc n) [] (w ∷ ws) h = elim h [ ]
booked-rest b (suc n) (i ∷ is) [] h = elim h [ ]
booked-rest b (suc n) (i ∷ is) (w ∷ ws) h = booked-rest b n is ws h.3

-- the columns from place a to place e
abbrev pub group : (cs : List Column) (a e : ℕ) → List Column
group cs a e = take (e - a) (drop a cs)

pub booked-part : (b : book.Book) (a e : ℕ) (ids : List ℕ) (W : List Column) → Booked b ids W → Booked b (take (e - a) (drop a ids)) (group W a e)
booked-part b a e ids W h = booked-front b (e - a) (drop a ids) (drop a W) (booked-rest b a ids W h)

-- ---- the parts of a list

module _ (cs : List Column) (a e : ℕ) (h : a ≤ e) where
  -- the front grows by the group, and the rest is the group and what follows
  pub front-more : take a cs ++ group cs a e ≡ take e cs
  front-more = let q : a + (e - a) ≡ e = omega arith in sym (take-add a (e - a) cs) ∙ ap (λ (n : ℕ). take n cs) q

  pub rest-less : group cs a e ++ drop e cs ≡ drop a cs
  rest-less =
      let q : a + (e - a) ≡ e = omega arith in
      ap (λ (l : List Column). group cs a e ++ l) (sym (drop-drop (e - a) a cs ∙ ap (λ (n : ℕ). drop n cs) q)) ∙ take-append-drop (e - a) (drop a cs)

  -- all of it, and other columns: those and what follows the group, then the front and the group
  pub all-parts : (R : List Column) → Bag (R ++ cs) ((R ++ drop e cs) ++ (take a cs ++ group cs a e))
  all-parts R f =
      omega (
        arith,
        sum-append f R cs,
        sum-append f (R ++ drop e cs) (take a cs ++ group cs a e),
        sum-append f R (drop e cs),
        ap (sum_of f) front-more,
        sum-append f (take e cs) (drop e cs),
        ap (sum_of f) (take-append-drop e cs),
      )

  -- those that have not left, in the order in which the group stands last
  pub left-parts : (R : List Column) → Bag (R ++ drop a cs) ((R ++ drop e cs) ++ group cs a e)
  left-parts R f =
      omega (
        arith,
        sum-append f R (drop a cs),
        sum-append f (R ++ drop e cs) (group cs a e),
        sum-append f R (drop e cs),
        sum-append f (group cs a e) (drop e cs),
        ap (sum_of f) rest-less,
      )

-- ---- what groups touch

-- U leaves N, U and W, then W leaves N and W
two-leave : (m : ℕ) (N U W : List Column) (j : ℕ) → 1 ≤ j → j ≤ m →
    (is_touched (factor_of m (N ++ (U ++ W))) U j || group_touches m N W j) ≡ is_touched (factor_of m (N ++ (U ++ W))) (U ++ W) j
unfolding joined leave_touches
two-leave m N U W j p q =
    subst (λ (G : List Column). (is_touched (factor_of m (N ++ (U ++ G))) U j || is_touched (factor_of m (N ++ G)) W j) ≡ is_touched (factor_of m (N ++ (U ++ G))) (U ++ G) j)
    (append-nil W)
    (ap (λ (z : Bool). is_touched (factor_of m (N ++ (U ++ (W ++ [])))) U j || z) (sym (or-false (is_touched (factor_of m (N ++ (W ++ []))) W j))) ∙
    leave-splits m N (U ∷ (W ∷ [])) j p q)

-- U enters beside R, then W beside R and U
two-enter : (m : ℕ) (R U W : List Column) (j : ℕ) → 1 ≤ j → j ≤ m →
    (is_touched (factor_of m (R ++ U)) U j || group_touches m (R ++ U) W j) ≡ is_touched (factor_of m (R ++ (U ++ W))) (U ++ W) j
unfolding joined enter_touches
two-enter m R U W j p q =
    ap (λ (z : Bool). is_touched (factor_of m (R ++ U)) U j || z) (sym (or-false (group_touches m (R ++ U) W j))) ∙ enter-splits m R (U ∷ (W ∷ [])) j p q ∙
    ap (λ (G : List Column). is_touched (factor_of m (R ++ (U ++ G))) (U ++ G) j) (append-nil W)

module _ (m : ℕ) (R cs : List Column) (a e : ℕ) (h : a ≤ e) where
  pub leaving-more : (j : ℕ) → 1 ≤ j → j ≤ m →
      (is_touched (factor_of m (R ++ cs)) (take a cs) j || group_touches m (R ++ drop e cs) (group cs a e) j) ≡ is_touched (factor_of m (R ++ cs)) (take e cs) j
  leaving-more j p q =
      let N : List Column = R ++ drop e cs in
      let U : List Column = take a cs in
      let W : List Column = group cs a e in
      let o : factor_of m (R ++ cs) ≡ factor_of m (N ++ (U ++ W)) = order-free m (R ++ cs) (N ++ (U ++ W)) (all-parts cs a e h R) in
      ap (λ (fs : List FactorColumn). is_touched fs U j || group_touches m N W j) o ∙ two-leave m N U W j p q ∙
      ap (λ (fs : List FactorColumn). is_touched fs (U ++ W) j) (sym o) ∙ ap (λ (l : List Column). is_touched (factor_of m (R ++ cs)) l j) (front-more cs a e h)

  pub entering-more : (j : ℕ) → 1 ≤ j → j ≤ m →
      (is_touched (factor_of m (R ++ take a cs)) (take a cs) j || group_touches m (R ++ take a cs) (group cs a e) j) ≡ is_touched (factor_of m (R ++ take e cs)) (take e cs) j
  entering-more j p q =
      two-enter m R (take a cs) (group cs a e) j p q ∙ ap (λ (l : List Column). is_touched (factor_of m (R ++ l)) l j) (front-more cs a e h)
