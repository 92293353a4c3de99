-- Lists of naturals, as every crate's definitions read them: choices, answers, members, counts, numbered places, rising lists. Laws: proofs/, by the
-- same groups. What the kit's lib.Seq and lib.ListN have (take, drop, set, get_or, replicate) is not repeated. Assumes nothing.
use Rattle.std.specs.Prelude.{◌≡◌, Bool, true, false, ◌&&◌, ◌||◌, not, List, [], ◌∷◌, ◌++◌, ℕ, zero, suc, ◌+◌, ◌-◌, leb, eqb, length, get_or, set, take, drop}

-- ---- choices and tests

-- the first where a test holds, otherwise the second
abbrev pub pick : {A : Type 0} → Bool → A → A → A
pick true x y = x
pick false x y = y

-- 1 for a test that holds, else 0
abbrev pub one : Bool → ℕ
one z = pick z 1 0

-- a number lies within two bounds, both included
abbrev pub is_in : (low high x : ℕ) → Bool
is_in a b x = leb a x && leb x b

-- an answer says whether a fact holds
pub record Decides (fact : Type 0) (answer : Bool) : Type 0 where
  pub yes : answer ≡ true → fact
  pub no : fact → answer ≡ true

-- ---- members

-- a is an element of a list
pub data Mem {A : Type 0} (a : A) : List A → Type 0 where
  first : {xs : List A} → Mem a (a ∷ xs)
  later : {x : A} {xs : List A} → Mem a xs → Mem a (x ∷ xs)

-- every element passes a test
unfoldable pub all : {A : Type 0} → (A → Bool) → List A → Bool
all f [] = true
all f (x ∷ xs) = f x && all f xs

-- some element passes a test
unfoldable pub any : {A : Type 0} → (A → Bool) → List A → Bool
any f [] = false
any f (x ∷ xs) = f x || any f xs

-- a number stands in a list
unfoldable pub among : ℕ → List ℕ → Bool
among x [] = false
among x (y ∷ ys) = eqb x y || among x ys

-- no number stands in a list twice
unfoldable pub no_repeats : List ℕ → Bool
no_repeats [] = true
no_repeats (x ∷ xs) = not (among x xs) && no_repeats xs

-- every number in a list is 0
unfoldable pub all_zero : List ℕ → Bool
all_zero [] = true
all_zero (x ∷ xs) = eqb x 0 && all_zero xs

-- the same list, as a test
unfoldable pub same : List ℕ → List ℕ → Bool
same [] [] = true
same [] (y ∷ ys) = false
same (x ∷ xs) [] = false
same (x ∷ xs) (y ∷ ys) = eqb x y && same xs ys

-- ---- counts

-- how many of 1 to n pass a test
unfoldable pub count : (ℕ → Bool) → ℕ → ℕ
count f zero = 0
count f (suc n) = count f n + one (f (suc n))

-- how often a number stands in a list: in it is 1 ≤ times, not in it times ≡ 0, no repeats times ≤ 1 for every number
unfoldable pub times : ℕ → List ℕ → ℕ
times x [] = 0
times x (y ∷ ys) = one (eqb x y) + times x ys

-- the sum of a value over all elements
unfoldable pub sum_of : {A : Type 0} → (A → ℕ) → List A → ℕ
sum_of f [] = 0
sum_of f (x ∷ xs) = f x + sum_of f xs

-- ---- numbered places: what belongs to number k stands at place k − 1. Numbers are from 1: number 0 would read number 1, so every use excludes it

-- what a list has for a number; 0 past its end
abbrev pub at : List ℕ → (number : ℕ) → ℕ
at xs k = get_or xs (k - 1) 0

-- a list with a value put in for a number
abbrev pub put : List ℕ → (number value : ℕ) → List ℕ
put xs k v = set xs (k - 1) v

-- what a list has for each of some numbers, in their order
unfoldable pub values_at : List ℕ → (numbers : List ℕ) → List ℕ
values_at xs [] = []
values_at xs (r ∷ rs) = at xs r ∷ values_at xs rs

-- a list written over the front of another
abbrev pub over : {A : Type 0} → (new old : List A) → List A
over xs old = xs ++ drop (length xs) old

-- a list written over another from a place on
abbrev pub written_at : (place : ℕ) → (new old : List ℕ) → List ℕ
written_at p xs old = take p old ++ (xs ++ drop (p + length xs) old)

-- two lists that keep step, in turns
unfoldable pub pairs_of : (firsts seconds : List ℕ) → List ℕ
pairs_of [] ys = []
pairs_of (x ∷ xs) [] = []
pairs_of (x ∷ xs) (y ∷ ys) = x ∷ y ∷ pairs_of xs ys

-- ---- rising lists

-- strictly rising, from a least value up to a bound
unfoldable pub rises : (least bound : ℕ) → List ℕ → Bool
rises a b [] = true
rises a b (x ∷ xs) = leb a x && leb x b && rises (suc x) b xs

-- n numbers from i on
unfoldable pub up_from : (i n : ℕ) → List ℕ
up_from i zero = []
up_from i (suc n) = i ∷ up_from (suc i) n
