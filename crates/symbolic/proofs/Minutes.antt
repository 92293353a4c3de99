-- Columns given the minutes of two lists: ids, number and rows stay, and so does what reads no window. Assumes nothing.
use mathlib.Core.Path.{◌≡◌, refl, ap, ◌∙◌}
use mathlib.Core.Bool.{Bool, ◌&&◌}
use mathlib.Core.List.{List, [], ◌∷◌}
use Prim.Native.Nat.{ℕ, suc, ◌+◌}
use lib.ListN.{length, get_or, drop}
use Rattle.lists.specs.Lists.{all, sum_of}
use Rattle.symbolic.specs.Columns.{Column, within, with_minutes}
use Rattle.symbolic.specs.Change.{ids_of}

pub minutes-ids : (ps qs : List ℕ) (cs : List Column) → ids_of (with_minutes ps qs cs) ≡ ids_of cs
unfolding with_minutes ids_of
minutes-ids ps qs [] = refl
minutes-ids ps qs (c ∷ cs) = ap (λ (is : List ℕ). c.id ∷ is) (minutes-ids (drop 1 ps) (drop 1 qs) cs)

pub minutes-length : (ps qs : List ℕ) (cs : List Column) → length (with_minutes ps qs cs) ≡ length cs
unfolding with_minutes
minutes-length ps qs [] = refl
minutes-length ps qs (c ∷ cs) = ap suc (minutes-length (drop 1 ps) (drop 1 qs) cs)

-- a test that does not read the window
pub minutes-all : (p : Column → Bool) → ((c : Column) (a b : ℕ) → p (within a b c) ≡ p c) → (ps qs : List ℕ) (cs : List Column) →
    all p (with_minutes ps qs cs) ≡ all p cs
unfolding with_minutes all
minutes-all p h ps qs [] = refl
minutes-all p h ps qs (c ∷ cs) =
    ap (λ (z : Bool). z && all p (with_minutes (drop 1 ps) (drop 1 qs) cs)) (h c (get_or ps 0 0) (get_or qs 0 0)) ∙
    ap (λ (z : Bool). p c && z) (minutes-all p h (drop 1 ps) (drop 1 qs) cs)

-- a value that does not read it
pub minutes-sum : (f : Column → ℕ) → ((c : Column) (a b : ℕ) → f (within a b c) ≡ f c) → (ps qs : List ℕ) (cs : List Column) →
    sum_of f (with_minutes ps qs cs) ≡ sum_of f cs
unfolding with_minutes sum_of
minutes-sum f h ps qs [] = refl
minutes-sum f h ps qs (c ∷ cs) =
    ap (λ (n : ℕ). n + sum_of f (with_minutes (drop 1 ps) (drop 1 qs) cs)) (h c (get_or ps 0 0) (get_or qs 0 0)) ∙
    ap (λ (n : ℕ). f c + n) (minutes-sum f h (drop 1 ps) (drop 1 qs) cs)

pub minutes-rows-sum : (ps qs : List ℕ) (cs : List Column) → sum_of (λ c. length c.rows) (with_minutes ps qs cs) ≡ sum_of (λ c. length c.rows) cs
minutes-rows-sum = minutes-sum (λ c. length c.rows) (λ c a b. refl)
