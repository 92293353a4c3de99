-- A list written front to back over another: one value more, and the whole. A loop's invariant is `list ≡ over (take i new) old`; where the new list is as
-- long as the old one, `Filling`. Assumes nothing.
use mathlib.Core.Path.{◌≡◌, refl, sym, ap, ◌∙◌}
use mathlib.Core.List.{List, [], ◌∷◌, ◌++◌, append-nil}
use Prim.Native.Nat.{ℕ, ◌+◌, ◌≤◌, ◌<◌}
use native.Mathlib.Omega.{arith}
use native.Mathlib.Numerals.{add-one}
use lib.ListN.{length, get_or, take, set, drop_of_length-le}
use lib.Seq.{take-suc, take_all, length-take-le}
use Rattle.lists.specs.Lists.{over}
use Rattle.lists.proofs.Place.{over-push, over-length}

-- nothing is written yet
pub over_none : (new old : List ℕ) → old ≡ over (take 0 new) old
over_none new old = refl

-- one value more
pub over-next : (new old : List ℕ) (i v : ℕ) → i < length new → length new ≤ length old → get_or new i 0 ≡ v →
    set (over (take i new) old) i v ≡ over (take (i + 1) new) old
over-next new old i v h l e =
    over-push (take i new) old i v (length-take-le i new (omega arith)) (omega arith) ∙
    ap (λ (t : List ℕ). over t old) (sym (ap (λ (j : ℕ). take j new) (add-one i) ∙ take-suc new i 0 h ∙ ap (λ (x : ℕ). take i new ++ (x ∷ [])) e))

-- all is written
pub over-all : (new old : List ℕ) (i : ℕ) → length new ≤ i → over (take i new) old ≡ over new old
over-all new old i h = ap (λ (t : List ℕ). over t old) (take_all i new h)

-- a list of the same length is written over whole
pub over-whole : (new old : List ℕ) → length new ≡ length old → over new old ≡ new
over-whole new old e = ap (λ (t : List ℕ). new ++ t) (drop_of_length-le old {i = length new} (omega arith)) ∙ append-nil new

-- while it is written the length stays
pub over-taken : (new old : List ℕ) (i : ℕ) → i ≤ length new → length new ≤ length old → length (over (take i new) old) ≡ length old
over-taken new old i h l = over-length (take i new) old (omega (arith, length-take-le i new h))

-- ---- a table filled from the front with the values of a list as long as itself

-- the first i values are written
pub record Filling (new old xs : List ℕ) (i : ℕ) : Type 0 where
  pub size : length new ≡ length old
  pub within : i ≤ length old
  pub written : xs ≡ over (take i new) old

pub filling-start : (new old : List ℕ) → length new ≡ length old → Filling new old old 0
filling-start new old e = record { size = e; within = omega arith; written = over_none new old }

module _ {new old xs : List ℕ} {i : ℕ} (w : Filling new old xs i) where
  pub filling-long : length xs ≡ length old
  filling-long = ap length w.written ∙ over-taken new old i (omega (arith, w.size, w.within)) (omega (arith, w.size))

  pub filling-next : {v : ℕ} → i < length old → get_or new i 0 ≡ v → Filling new old (set xs i v) (i + 1)
  filling-next {v} h e =
      record {
        size = w.size;
        within = omega arith;
        written = ap (λ (l : List ℕ). set l i v) w.written ∙ over-next new old i v (omega (arith, w.size)) (omega (arith, w.size)) e;
      }

  pub filling-end : length old ≤ i → xs ≡ new
  filling-end h = w.written ∙ over-all new old i (omega (arith, w.size)) ∙ over-whole new old w.size
