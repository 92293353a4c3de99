-- The columns that a choice takes: at one id; two choices that agree on the booked ids take the same; what one takes is what it takes with another choice and
-- without it; what a member is; rows that fit; no more than ids; the ids that a choice takes. Assumes nothing.
use mathlib.Core.Path.{◌≡◌, refl, sym, subst, ◌∙◌}
use mathlib.Core.Logic.{inl, inr}
use mathlib.Core.Bool.{Bool, true, false, ◌&&◌, not}
use mathlib.Core.List.{List, [], ◌∷◌, ◌++◌}
use Prim.Native.Nat.{ℕ, zero, suc, ◌+◌, ◌≤◌, ◌<◌}
use native.Mathlib.Omega.{arith}
use lib.ListN.{length}
use Rattle.lists.specs.Lists.{Mem, first, later, all, sum_of}
use Rattle.lists.proofs.Tests.{cases, and_both, and-swap}
use Rattle.lists.proofs.Member.{all-make}
use Rattle.lists.proofs.Sum.{sum-append}
use Rattle.symbolic.specs.Columns.{Column, fits_rows}
use Rattle.symbolic.specs.Change.{Bag}
use Rattle.book.specs.Book.{Book, is_booked, column_for, is_sound}
use Rattle.book.proofs.Sound.{sound-of, fitting}
use Rattle.windows.specs.Windows.{counts_at, stays_between}
use Rattle.windows.specs.Chosen.{ids_from, chosen_from, chosen}

-- ---- the list at one id

module _ (b : Book) (p : ℕ → Bool) (i : ℕ) where
  pub chosen-nil : chosen_from b p i 0 ≡ []
  unfolding chosen_from
  chosen-nil = refl

  pub chosen-in : (n : ℕ) → (is_booked b.heads i && p i) ≡ true → chosen_from b p i (suc n) ≡ column_for b i ∷ chosen_from b p (suc i) n
  unfolding chosen_from
  chosen-in n e = rw e refl

  pub chosen-out : (n : ℕ) → (is_booked b.heads i && p i) ≡ false → chosen_from b p i (suc n) ≡ chosen_from b p (suc i) n
  unfolding chosen_from
  chosen-out n e = rw e refl

-- ---- choices that agree

-- on the booked ids among those looked at
pub from-same : (b : Book) (p q : ℕ → Bool) (n i : ℕ) → ((l : ℕ) → i ≤ l → l < i + n → is_booked b.heads l ≡ true → p l ≡ q l) → chosen_from b p i n ≡ chosen_from b q i n
unfolding chosen_from
from-same b p q zero i h = refl
from-same b p q (suc n) i h =
    let k : chosen_from b p (suc i) n ≡ chosen_from b q (suc i) n = from-same b p q n (suc i) (λ l s t e. h l (omega arith) (omega arith) e) in
    elim (cases (is_booked b.heads i)) [
      | inl e ↦ rw (e, h i (omega arith) (omega arith) e, k) refl
      | inr e ↦ rw (e, k) refl
    ]

pub chosen-same : (b : Book) (p q : ℕ → Bool) → ((l : ℕ) → is_booked b.heads l ≡ true → p l ≡ q l) → chosen b p ≡ chosen b q
chosen-same b p q h = from-same b p q (length b.heads) 1 (λ l s t e. h l e)

-- to count at both minutes is to count at both
pub stays-both : (b : Book) (w : List ℕ) (n t u : ℕ) → chosen b (stays_between w n t u) ≡ chosen b (stays_between w n u t)
stays-both b w n t u = chosen-same b (stays_between w n t u) (stays_between w n u t) (λ l e. and-swap (counts_at w n t l) (counts_at w n u l))

-- ---- what one choice takes: with another choice, and without it

from-sum : (b : Book) (p q : ℕ → Bool) (f : Column → ℕ) (n i : ℕ) →
    sum_of f (chosen_from b p i n) ≡ sum_of f (chosen_from b (λ l. p l && q l) i n) + sum_of f (chosen_from b (λ l. p l && not (q l)) i n)
unfolding sum_of chosen_from
from-sum b p q f zero i = refl
from-sum b p q f (suc n) i =
    let k : sum_of f (chosen_from b p (suc i) n) ≡ sum_of f (chosen_from b (λ l. p l && q l) (suc i) n) + sum_of f (chosen_from b (λ l. p l && not (q l)) (suc i) n) = from-sum b p q f n (suc i) in
    elim (cases (is_booked b.heads i)) [
      | inl e ↦ elim (cases (p i)) [
        | inl d ↦ elim (cases (q i)) [
          | inl g ↦ rw (e, d, g) (omega arith)
          | inr g ↦ rw (e, d, g) (omega arith)
        ]
        | inr d ↦ rw (e, d) k
      ]
      | inr e ↦ rw e k
    ]

pub chosen-sum : (b : Book) (p q : ℕ → Bool) (f : Column → ℕ) →
    sum_of f (chosen b p) ≡ sum_of f (chosen b (λ l. p l && q l)) + sum_of f (chosen b (λ l. p l && not (q l)))
chosen-sum b p q f = from-sum b p q f (length b.heads) 1

pub chosen-splits : (b : Book) (p q : ℕ → Bool) → Bag (chosen b p) (chosen b (λ l. p l && q l) ++ chosen b (λ l. p l && not (q l)))
chosen-splits b p q f = chosen-sum b p q f ∙ sym (sum-append f (chosen b (λ l. p l && q l)) (chosen b (λ l. p l && not (q l))))

-- ---- members

-- a column is that of a booked id, of n from i on, that a choice takes
pub record Taken (b : Book) (p : ℕ → Bool) (i n : ℕ) (c : Column) : Type 0 where
  pub id : ℕ
  pub low : i ≤ id
  pub high : id < i + n
  pub booked : is_booked b.heads id ≡ true
  pub taken : p id ≡ true
  pub is : c ≡ column_for b id

from-mem : (b : Book) (p : ℕ → Bool) (n i : ℕ) (c : Column) → Mem c (chosen_from b p i n) → Taken b p i n c
from-mem b p zero i c m = elim (subst (λ (l : List Column). Mem c l) (chosen-nil b p i) m) [ ]
from-mem b p (suc n) i c m =
    elim (cases (is_booked b.heads i && p i)) [
      | inl e ↦ here c e (subst (λ (l : List Column). Mem c l) (chosen-in b p i n e) m) (from-mem b p n (suc i) c)
      | inr e ↦ more c (from-mem b p n (suc i) c (subst (λ (l : List Column). Mem c l) (chosen-out b p i n e) m))
    ]
  where
    more : (c : Column) → Taken b p (suc i) n c → Taken b p i (suc n) c
    more c k = record { id = k.id; low = omega (arith, k.low); high = omega (arith, k.high); booked = k.booked; taken = k.taken; is = k.is }

    here : (c : Column) → (is_booked b.heads i && p i) ≡ true → Mem c (column_for b i ∷ chosen_from b p (suc i) n) → (Mem c (chosen_from b p (suc i) n) → Taken b p (suc i) n c) → Taken b p i (suc n) c
    here c e first f =
        let t : (is_booked b.heads i ≡ true) × (p i ≡ true) = and_both (is_booked b.heads i) (p i) e in
        record { id = i; low = omega arith; high = omega arith; booked = t.0; taken = t.1; is = refl }
    here c e (later k) f = more c (f k)

pub chosen-mem : (b : Book) (p : ℕ → Bool) {c : Column} → Mem c (chosen b p) → Taken b p 1 (length b.heads) c
chosen-mem b p {c} m = from-mem b p (length b.heads) 1 c m

-- of a sound book: their rows are rows
pub chosen-fits : (m : ℕ) (b : Book) (p : ℕ → Bool) → is_sound m b ≡ true → all (fits_rows m) (chosen b p) ≡ true
chosen-fits m b p e =
    all-make (fits_rows m) (chosen b p) (λ c k.
    let t : Taken b p 1 (length b.heads) c = chosen-mem b p k in
    subst (λ (c : Column). fits_rows m c ≡ true) (sym t.is) (fitting m (column_for b t.id) ((sound-of m b e).fits t.id t.low t.booked)).rise)

-- no more columns than ids
from-few : (b : Book) (p : ℕ → Bool) (n i : ℕ) → length (chosen_from b p i n) ≤ n
from-few b p zero i = rw (chosen-nil b p i) (omega arith)
from-few b p (suc n) i =
    let k : length (chosen_from b p (suc i) n) ≤ n = from-few b p n (suc i) in
    elim (cases (is_booked b.heads i && p i)) [
      | inl e ↦ rw (chosen-in b p i n e) (omega arith)
      | inr e ↦ rw (chosen-out b p i n e) (omega arith)
    ]

pub chosen-few : (b : Book) (p : ℕ → Bool) → length (chosen b p) ≤ length b.heads
chosen-few b p = from-few b p (length b.heads) 1

-- ---- the ids at one id

module _ (hs : List ℕ) (p : ℕ → Bool) (i : ℕ) where
  pub ids-in : (n : ℕ) → (is_booked hs i && p i) ≡ true → ids_from hs p i (suc n) ≡ i ∷ ids_from hs p (suc i) n
  unfolding ids_from
  ids-in n e = rw e refl

  pub ids-out : (n : ℕ) → (is_booked hs i && p i) ≡ false → ids_from hs p i (suc n) ≡ ids_from hs p (suc i) n
  unfolding ids_from
  ids-out n e = rw e refl
