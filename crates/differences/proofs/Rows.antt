-- Rising lists of rows, by what a walk does with them: take the first, bound them anew, join two or cut one in two, know that no row is twice and none
-- above the last. Then members: the only one, those of a list that has another's and one more.
-- What lists has of rising lists (members within the bounds, weaker bounds, lengths) is not repeated. Assumes nothing.
use mathlib.Core.Path.{◌≡◌, refl}
use mathlib.Core.Logic.{inl, inr, ◌≢◌}
use mathlib.Core.Bool.{true, false, ◌&&◌, ◌||◌}
use mathlib.Core.List.{List, [], ◌∷◌, ◌++◌}
use Prim.Native.Nat.{ℕ, suc, ◌+◌, ◌≤◌, ◌<◌}
use native.Mathlib.Omega.{arith}
use lib.Dec.{leb}
use borrow.Author.Tests.{leb-true, le-leb}
use Rattle.lists.specs.Lists.{Mem, first, later, among, times, rises}
use Rattle.lists.proofs.Tests.{eq-or-ne, zero-or-pos, and_both, both-and, both_ways}
use Rattle.lists.proofs.Member.{mem-left, mem-right, mem-either, among-mem, mem-among}
use Rattle.lists.proofs.Times.{times-nil, times-self, times-other, times-mem, among_none, among-some}
use Rattle.lists.proofs.Rising.{rises-in, rises-weaken}

-- ---- at the front

pub rises-nil : (a b : ℕ) → rises a b [] ≡ true
unfolding rises
rises-nil a b = refl

pub rises-cons : (a b x : ℕ) (xs : List ℕ) → a ≤ x → x ≤ b → rises (suc x) b xs ≡ true → rises a b (x ∷ xs) ≡ true
unfolding rises
rises-cons a b x xs p q r = both-and (both-and (le-leb a x p) (le-leb x b q)) r

pub record Front (a b x : ℕ) (xs : List ℕ) : Type 0 where
  pub low : a ≤ x
  pub high : x ≤ b
  pub tail : rises (suc x) b xs ≡ true

pub rises-front : (a b x : ℕ) (xs : List ℕ) → rises a b (x ∷ xs) ≡ true → Front a b x xs
unfolding rises
rises-front a b x xs h =
    let t : ((leb a x && leb x b) ≡ true) × (rises (suc x) b xs ≡ true) = and_both (leb a x && leb x b) (rises (suc x) b xs) h in
    let u : (leb a x ≡ true) × (leb x b ≡ true) = and_both (leb a x) (leb x b) t.0 in
    record { low = leb-true a x u.0; high = leb-true x b u.1; tail = t.1 }

-- ---- other bounds

pub rises-within : (a b c d : ℕ) (xs : List ℕ) → rises a b xs ≡ true → ((x : ℕ) → Mem x xs → (c ≤ x) × (x ≤ d)) → rises c d xs ≡ true
rises-within a b c d [] h f = rises-nil c d
rises-within a b c d (x ∷ xs) h f =
    let t : Front a b x xs = rises-front a b x xs h in
    rises-cons c d x xs (f x first).0 (f x first).1
    (rises-within (suc x) b (suc x) d xs t.tail (λ y k. ((rises-in (suc x) b k t.tail).0, (f y (later k)).1)))

-- ---- two in a row

pub rises-join : (a b c : ℕ) (xs ys : List ℕ) → a ≤ suc b → b ≤ c → rises a b xs ≡ true → rises (suc b) c ys ≡ true → rises a c (xs ++ ys) ≡ true
rises-join a b c [] ys l m h k = rises-weaken (suc b) c a ys l k
rises-join a b c (x ∷ xs) ys l m h k =
    let t : Front a b x xs = rises-front a b x xs h in
    rises-cons a c x (xs ++ ys) t.low (omega (arith, t.high)) (rises-join (suc x) b c xs ys (omega (arith, t.high)) m t.tail k)

pub rises-left : (a b : ℕ) (xs ys : List ℕ) → rises a b (xs ++ ys) ≡ true → rises a b xs ≡ true
rises-left a b [] ys h = rises-nil a b
rises-left a b (x ∷ xs) ys h =
    let t : Front a b x (xs ++ ys) = rises-front a b x (xs ++ ys) h in rises-cons a b x xs t.low t.high (rises-left (suc x) b xs ys t.tail)

pub rises-right : (a b : ℕ) (xs ys : List ℕ) → rises a b (xs ++ ys) ≡ true → rises a b ys ≡ true
rises-right a b [] ys h = h
rises-right a b (x ∷ xs) ys h =
    let t : Front a b x (xs ++ ys) = rises-front a b x (xs ++ ys) h in
    rises-right a b xs ys (rises-weaken (suc x) b a (xs ++ ys) (omega (arith, t.low)) t.tail)

-- those of the first are below those of the second
pub rises-apart : {x y : ℕ} (a b : ℕ) {xs ys : List ℕ} → rises a b (xs ++ ys) ≡ true → Mem x xs → Mem y ys → x < y
rises-apart a b {ys = ys} h (first {xs}) n =
    let t : Front a b _ (xs ++ ys) = rises-front a b _ (xs ++ ys) h in
    (rises-in _ b (mem-right xs n) t.tail).0
rises-apart a b {ys = ys} h (later {x = z} {xs = zs} k) n =
    let t : Front a b z (zs ++ ys) = rises-front a b z (zs ++ ys) h in rises-apart (suc z) b t.tail k n

-- ---- no row twice

pub rises-once : (a b : ℕ) (xs : List ℕ) → rises a b xs ≡ true → (x : ℕ) → times x xs ≤ 1
rises-once a b [] h x = omega (arith, times-nil x)
rises-once a b (y ∷ ys) h x =
    let t : Front a b y ys = rises-front a b y ys h in
    elim (eq-or-ne x y) [
      | inl e ↦ rw e (elim (zero-or-pos (times y ys)) [
        | inl z ↦ omega (arith, times-self y ys)
        | inr p ↦ absurd (omega (arith, (rises-in (suc y) b (times-mem y ys p) t.tail).0))
      ])
      | inr e ↦ omega (arith, times-other x y ys e, rises-once (suc y) b ys t.tail x)
    ]

-- ---- members

pub only-member : {i x : ℕ} → Mem i (x ∷ []) → i ≡ x
only-member first = refl
only-member (later n) = elim n [ ]

pub among-nil : (x : ℕ) → among x [] ≡ false
unfolding among
among-nil x = refl

-- as often as in two lists together: in the one or in the other
pub among-sum : (x : ℕ) (zs xs ys : List ℕ) → times x zs ≡ times x xs + times x ys → among x zs ≡ (among x xs || among x ys)
among-sum x zs xs ys e =
    elim (zero-or-pos (times x xs)) [
      | inr p ↦ rw (among-some x zs (omega arith), among-some x xs p)
      | inl z ↦ elim (zero-or-pos (times x ys)) [
        | inr p ↦ rw (among-some x zs (omega arith), among_none x xs z, among-some x ys p)
        | inl w ↦ rw (among_none x zs (omega arith), among_none x xs z, among_none x ys w)
      ]
    ]

pub among-last : (x : ℕ) (xs : List ℕ) → among x (xs ++ (x ∷ [])) ≡ true
among-last x xs = mem-among (mem-right xs first)

pub among-before : (x y : ℕ) (xs : List ℕ) → x ≢ y → among x (xs ++ (y ∷ [])) ≡ among x xs
among-before x y xs d =
    both_ways (among x (xs ++ (y ∷ []))) (among x xs)
    (λ h. elim (mem-either xs (among-mem x (xs ++ (y ∷ [])) h)) [ inl n ↦ mem-among n | inr n ↦ absurd (d (only-member n)) ])
    (λ h. mem-among (mem-left (y ∷ []) (among-mem x xs h)))

-- in a rising list none is above the last
pub upto-last : {x : ℕ} (a b y : ℕ) (xs : List ℕ) → rises a b (xs ++ (y ∷ [])) ≡ true → Mem x (xs ++ (y ∷ [])) → x ≤ y
upto-last {x} a b y xs h n =
    elim (mem-either xs n) [
      | inl k ↦ let l : x < y = rises-apart a b h k first in omega arith
      | inr k ↦ omega (arith, only-member k)
    ]
