-- Plans: one entry of a plan that suits (`suits-next`), a plan put into multiplicities that are cut in two, what a plan leaves below its rows, and the
-- kinds counted. A loop over a plan takes it from the front, so every law is about `e ∷ es`.
-- Assumes nothing.
use mathlib.Core.Path.{◌≡◌, refl, sym, ap, ◌∙◌}
use mathlib.Core.Logic.{◌≢◌}
use mathlib.Core.List.{List, [], ◌∷◌, ◌++◌, append_assoc}
use Prim.Native.Nat.{ℕ, suc, ◌+◌, ◌-◌, ◌≤◌, ◌<◌}
use native.Mathlib.Omega.{arith}
use lib.ListN.{length, get_or}
use lib.Seq.{set_at, get_or_at}
use borrow.Author.Tests.{eq-eqb, ne_eqb}
use Rattle.lists.specs.Lists.{at, put}
use Rattle.lists.proofs.Place.{at-put-other}
use Rattle.workspace.specs.Planned.{row_of, multiplicity_of, kind_of}
use Rattle.columns.specs.Plan.{KindIs, planned, Suits, of_kind}

-- ---- one entry

pub record Entry (ns : List ℕ) (a e : ℕ) (es : List ℕ) : Type 0 where
  pub low : a ≤ row_of e
  pub high : row_of e ≤ length ns
  pub fits : multiplicity_of e < 65536
  pub kind : KindIs (at ns (row_of e)) (multiplicity_of e) (kind_of e)
  pub rest : Suits ns (suc (row_of e)) es

pub suits-next : {ns : List ℕ} {a e : ℕ} {es : List ℕ} → Suits ns a (e ∷ es) → Entry ns a e es
unfolding Suits
suits-next h = record { low = h.0; high = h.1; fits = h.2; kind = h.3; rest = h.4 }

pub suits-above : (ns : List ℕ) (a : ℕ) (plan : List ℕ) → (1 ≤ length plan → row_of (get_or plan 0 0) ≢ a) → Suits ns a plan → Suits ns (suc a) plan
unfolding Suits
suits-above ns a [] n h = tt
suits-above ns a (e ∷ es) n h = let d : row_of e ≢ a = n (omega arith) in (omega (arith, h.0), h.1, h.2, h.3, h.4)

-- ---- multiplicities cut in two at a row

pub at_cut : (xs : List ℕ) (n : ℕ) (ys : List ℕ) (i : ℕ) → suc (length xs) ≡ i → at (xs ++ (n ∷ ys)) i ≡ n
at_cut xs n ys i e = get_or_at xs n ys 0 (i - 1) (omega arith)

pub put-cut : (xs : List ℕ) (n : ℕ) (ys : List ℕ) (i v : ℕ) → suc (length xs) ≡ i → put (xs ++ (n ∷ ys)) i v ≡ (xs ++ (v ∷ [])) ++ ys
put-cut xs n ys i v e = set_at xs n ys v (i - 1) (omega arith) ∙ sym (append_assoc xs (v ∷ []) ys)

pub planned-none : (ns : List ℕ) → planned ns [] ≡ ns
unfolding planned
planned-none ns = refl

pub planned-next : (xs : List ℕ) (n : ℕ) (ys : List ℕ) (e : ℕ) (es : List ℕ) → suc (length xs) ≡ row_of e → planned (xs ++ (n ∷ ys)) (e ∷ es) ≡ planned ((xs ++ (multiplicity_of e ∷ [])) ++ ys) es
unfolding planned
planned-next xs n ys e es q = ap (λ (l : List ℕ). planned l es) (put-cut xs n ys (row_of e) (multiplicity_of e) q)

-- a row below those planned keeps its multiplicity; ms may be other multiplicities than those that the plan suits
pub planned_below : (ns ms : List ℕ) (a : ℕ) (plan : List ℕ) (i : ℕ) → Suits ns a plan → 1 ≤ i → i < a → at (planned ms plan) i ≡ at ms i
unfolding planned Suits
planned_below ns ms a [] i h l k = refl
planned_below ns ms a (e ∷ es) i h l k =
    planned_below ns (put ms (row_of e) (multiplicity_of e)) (suc (row_of e)) es i h.4 l (omega (arith, h.0)) ∙
    at-put-other ms (row_of e) i (multiplicity_of e) (omega arith) l (λ q. omega (arith, h.0))

-- ---- kinds

pub kind-none : (k : ℕ) → of_kind k [] ≡ 0
unfolding of_kind
kind-none k = refl

pub kind-append : (k : ℕ) (es ds : List ℕ) → of_kind k (es ++ ds) ≡ of_kind k es + of_kind k ds
unfolding of_kind
kind-append k [] ds = omega arith
kind-append k (e ∷ es) ds = omega (arith, kind-append k es ds)

pub kind-here : (k e : ℕ) (es : List ℕ) → kind_of e ≡ k → of_kind k (e ∷ es) ≡ suc (of_kind k es)
unfolding of_kind
kind-here k e es q = rw (eq-eqb (kind_of e) k q) (omega arith)

pub kind-other : (k e : ℕ) (es : List ℕ) → kind_of e ≢ k → of_kind k (e ∷ es) ≡ of_kind k es
unfolding of_kind
kind-other k e es q = rw (ne_eqb (kind_of e) k q) (omega arith)
