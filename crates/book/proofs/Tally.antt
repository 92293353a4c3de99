-- Rows counted in a table of counters: the table's length, list after list, what stands at a number after it, how many counters are not 0.
-- Then what a loop that counts rows knows (Tally). Assumes nothing.
use mathlib.Core.Path.{◌≡◌, refl, sym, ap, subst, ◌∙◌}
use mathlib.Core.Logic.{◌⊎◌, inl, inr, ◌≢◌}
use mathlib.Core.List.{List, [], ◌∷◌, ◌++◌}
use Prim.Native.Nat.{ℕ, zero, suc, ◌+◌, ◌-◌, ◌≤◌, ◌<◌}
use native.Mathlib.Omega.{arith}
use lib.Dec.{eqb}
use lib.ListN.{length, get_or, set}
use lib.Seq.{get_or-set_other}
use borrow.Author.Tests.{eq-eqb, ne_eqb}
use Rattle.lists.specs.Lists.{pick, at, put, times}
use Rattle.lists.proofs.Tests.{eq-or-ne}
use Rattle.lists.proofs.Times.{times-nil, times-self, times-other, times-cons, UpTo, times-length}
use Rattle.lists.proofs.Place.{put-length, at-put-same, at-put-other}
use Rattle.book.specs.Tally.{tallied, filled}

pub tallied-nil : (ns : List ℕ) → tallied ns [] ≡ ns
unfolding tallied
tallied-nil ns = refl

pub tallied-length : (ns xs : List ℕ) → length (tallied ns xs) ≡ length ns
unfolding tallied
tallied-length ns [] = refl
tallied-length ns (x ∷ xs) = tallied-length (put ns x (at ns x + 1)) xs ∙ put-length ns x (at ns x + 1)

pub tallied-append : (ns xs ys : List ℕ) → tallied ns (xs ++ ys) ≡ tallied (tallied ns xs) ys
unfolding tallied
tallied-append ns [] ys = refl
tallied-append ns (x ∷ xs) ys = tallied-append (put ns x (at ns x + 1)) xs ys

pub tallied-more : (ns xs : List ℕ) (x : ℕ) → tallied ns (xs ++ (x ∷ [])) ≡ put (tallied ns xs) x (at (tallied ns xs) x + 1)
unfolding tallied
tallied-more ns xs x = tallied-append ns xs (x ∷ [])

-- a list's later rows lie where its first is put
pub up_rest : (m x : ℕ) (xs : List ℕ) → UpTo m (x ∷ xs) → UpTo m xs
up_rest m x xs within y n = within y (omega (arith, times-cons y x xs))

-- ---- what stands at a row, and what stays

pub tallied-at : (ns xs : List ℕ) (x : ℕ) → UpTo (length ns) xs → 1 ≤ x → at (tallied ns xs) x ≡ at ns x + times x xs
unfolding tallied
tallied-at ns [] x within low = omega (arith, times-nil x)
tallied-at ns (y ∷ ys) x within low =
    let w : (1 ≤ y) × (y ≤ length ns) = within y (omega (arith, times-self y ys)) in
    let l : UpTo (length (put ns y (at ns y + 1))) ys = subst (λ (n : ℕ). UpTo n ys) (sym (put-length ns y (at ns y + 1))) (up_rest (length ns) y ys within) in
    let ih : at (tallied (put ns y (at ns y + 1)) ys) x ≡ at (put ns y (at ns y + 1)) x + times x ys = tallied-at (put ns y (at ns y + 1)) ys x l low in
    elim (eq-or-ne x y) [
      | inl e ↦
          let s : at (put ns y (at ns y + 1)) x ≡ at ns x + 1 =
          subst (λ (z : ℕ). at (put ns z (at ns z + 1)) x ≡ at ns x + 1) e (at-put-same ns x (at ns x + 1) low (omega (arith, w.1))) in
          let t : times x (y ∷ ys) ≡ 1 + times x ys = subst (λ (z : ℕ). times x (z ∷ ys) ≡ 1 + times x ys) e (times-self x ys) in
          omega arith
      | inr e ↦ omega (arith, ih, at-put-other ns y x (at ns y + 1) w.0 low e, times-other x y ys e)
    ]

-- the same by place
pub tallied-cell : (m : ℕ) (w xs : List ℕ) (i : ℕ) → UpTo m xs → m ≤ length w → get_or (tallied w xs) i 0 ≡ get_or w i 0 + times (suc i) xs
tallied-cell m w xs i within h =
    let c : suc i - 1 ≡ i = omega arith in
    let up : UpTo (length w) xs = λ y n. (let z : (1 ≤ y) × (y ≤ m) = within y n in omega arith) in
    subst (λ (z : ℕ). get_or (tallied w xs) z 0 ≡ get_or w z 0 + times (suc i) xs) c (tallied-at w xs (suc i) up (omega arith))

-- places from m on, where the rows are 1 to m
pub tallied-past : (m : ℕ) (w xs : List ℕ) (k : ℕ) → UpTo m xs → m ≤ k → get_or (tallied w xs) k 0 ≡ get_or w k 0
unfolding tallied
tallied-past m w [] k within h = refl
tallied-past m w (x ∷ xs) k within h =
    let b : (1 ≤ x) × (x ≤ m) = within x (omega (arith, times-self x xs)) in
    tallied-past m (put w x (at w x + 1)) xs k (up_rest m x xs within) h ∙ get_or-set_other w (x - 1) k (at w x + 1) 0 (λ e. omega arith)

-- ---- how many counters are not 0

-- what a counter adds
none-added : (n : ℕ) → n ≡ 0 → ◌≡◌ {A = ℕ} (pick (eqb n 0) 0 1) 0
none-added n e = rw (eq-eqb n 0 e) refl

one-added : (n : ℕ) → n ≢ 0 → ◌≡◌ {A = ℕ} (pick (eqb n 0) 0 1) 1
one-added n d = rw (ne_eqb n 0 d) refl

-- a value put at a place of the table
pub filled_put : (ns : List ℕ) (k v : ℕ) → k < length ns → filled (set ns k v) + pick (eqb (get_or ns k 0) 0) 0 1 ≡ filled ns + pick (eqb v 0) 0 1
unfolding filled
filled_put [] k v h = absurd (omega arith)
filled_put (n ∷ ns) zero v h = omega arith
filled_put (n ∷ ns) (suc k) v h = omega (arith, filled_put ns k v (omega arith))

-- a place that is not 0 lies in the table
pub place_in : (ns : List ℕ) (k : ℕ) → get_or ns k 0 ≢ 0 → k < length ns
place_in [] k d = absurd (d refl)
place_in (n ∷ ns) zero d = omega arith
place_in (n ∷ ns) (suc k) d = omega (arith, place_in ns k d)

-- a counter leaves 0
pub filled-raise : (ns : List ℕ) (k v : ℕ) → k < length ns → get_or ns k 0 ≡ 0 → v ≢ 0 → filled (set ns k v) ≡ 1 + filled ns
filled-raise ns k v h z d = omega (arith, filled_put ns k v h, none-added (get_or ns k 0) z, one-added v d)

-- a counter stays other than 0
pub filled-keep : (ns : List ℕ) (k v : ℕ) → get_or ns k 0 ≢ 0 → v ≢ 0 → filled (set ns k v) ≡ filled ns
filled-keep ns k v d t = omega (arith, filled_put ns k v (place_in ns k d), one-added (get_or ns k 0) d, one-added v t)

-- a counter becomes 0
pub filled-lower : (ns : List ℕ) (k : ℕ) → get_or ns k 0 ≢ 0 → 1 + filled (set ns k 0) ≡ filled ns
filled-lower ns k d = omega (arith, filled_put ns k 0 (place_in ns k d), one-added (get_or ns k 0) d, none-added 0 refl)

pub filled-most : (ns : List ℕ) → filled ns ≤ length ns
unfolding filled
filled-most [] = omega arith
filled-most (n ∷ ns) = elim (eq-or-ne n 0) [ inl e ↦ omega (arith, none-added n e, filled-most ns) | inr d ↦ omega (arith, one-added n d, filled-most ns) ]

-- a value put in raises it by 1 at most
filled-set : (ns : List ℕ) (k v : ℕ) → filled (set ns k v) ≤ filled ns + 1
unfolding filled
filled-set [] k v = omega arith
filled-set (n ∷ ns) zero v = elim (eq-or-ne v 0) [ inl e ↦ omega (arith, none-added v e) | inr d ↦ omega (arith, one-added v d) ]
filled-set (n ∷ ns) (suc k) v = omega (arith, filled-set ns k v)

tallied-filled : (ns xs : List ℕ) → filled (tallied ns xs) ≤ filled ns + length xs
unfolding tallied
tallied-filled ns [] = omega arith
tallied-filled ns (x ∷ xs) = omega (arith, tallied-filled (put ns x (at ns x + 1)) xs, filled-set ns (x - 1) (at ns x + 1))

pub filled-append : (ns ks : List ℕ) → filled (ns ++ ks) ≡ filled ns + filled ks
unfolding filled
filled-append [] ks = omega arith
filled-append (n ∷ ns) ks = omega (arith, filled-append ns ks)

-- none where every place is 0, and the converse
pub filled_zero : (ns : List ℕ) → ((k : ℕ) → k < length ns → get_or ns k 0 ≡ 0) → filled ns ≡ 0
unfolding filled
filled_zero [] z = refl
filled_zero (n ∷ ns) z = omega (arith, none-added n (z 0 (omega arith)), filled_zero ns (λ k h. z (suc k) (omega arith)))

pub filled-first : (n : ℕ) (ns : List ℕ) → filled (n ∷ ns) ≡ 0 → (n ≡ 0) × (filled ns ≡ 0)
unfolding filled
filled-first n ns e = elim (eq-or-ne n 0) [ inl z ↦ omega (arith, none-added n z) | inr d ↦ absurd (omega (arith, one-added n d)) ]

pub filled_none : (ns : List ℕ) → filled ns ≡ 0 → (k : ℕ) → get_or ns k 0 ≡ 0
filled_none [] e k = refl
filled_none (n ∷ ns) e zero = (filled-first n ns e).0
filled_none (n ∷ ns) e (suc k) = filled_none ns (filled-first n ns e).1 k

-- ---- rows counted one by one

-- the rows xs were counted, and size counters left 0
pub record Tally (w₀ xs w : List ℕ) (size : ℕ) : Type 0 where
  pub is : w ≡ tallied w₀ xs
  pub size_is : size + filled w₀ ≡ filled w

pub tally-of : {w₀ xs w : List ℕ} {size : ℕ} → w ≡ tallied w₀ xs → size + filled w₀ ≡ filled w → Tally w₀ xs w size
tally-of e s = record { is = e; size_is = s }

pub tally-none : (w : List ℕ) → Tally w [] w 0
tally-none w = record { is = sym (tallied-nil w); size_is = omega arith }

module _ {w₀ xs w : List ℕ} {size : ℕ} (t : Tally w₀ xs w size) where
  pub tally-length : length w ≡ length w₀
  tally-length = ap length t.is ∙ tallied-length w₀ xs

  pub tally-past : (m x : ℕ) → UpTo m xs → m ≤ x → get_or w x 0 ≡ get_or w₀ x 0
  tally-past m x up h = ap (λ (l : List ℕ). get_or l x 0) t.is ∙ tallied-past m w₀ xs x up h

  -- no more counters left 0 than there are rows
  pub tally-few : size ≤ length xs
  tally-few = omega (arith, t.size_is, ap filled t.is, tallied-filled w₀ xs)

  -- 32 bits hold a counter that had room for n rows, after fewer
  pub tally-room : (m n i : ℕ) → UpTo m xs → m ≤ length w₀ → length xs < n → get_or w₀ i 0 + n < 4294967296 → get_or w i 0 + 1 < 4294967296
  tally-room m n i up h f r = omega (arith, ap (λ (l : List ℕ). get_or l i 0) t.is, tallied-cell m w₀ xs i up h, times-length (suc i) xs)

  -- one row more: its counter leaves 0, or was other than 0
  pub tally-more : (x size' : ℕ) → x - 1 < length w₀ → ((at w x ≡ 0) × (size' ≡ size + 1)) ⊎ ((at w x ≢ 0) × (size' ≡ size)) →
      Tally w₀ (xs ++ (x ∷ [])) (put w x (at w x + 1)) size'
  tally-more x size' h d =
      record {
        is = ap (λ (l : List ℕ). put l x (at l x + 1)) t.is ∙ sym (tallied-more w₀ xs x);
        size_is = elim d [
          | inl e ↦ omega (arith, t.size_is, filled-raise w (x - 1) (at w x + 1) (omega (arith, tally-length)) e.0 (omega arith))
          | inr e ↦ omega (arith, t.size_is, filled-keep w (x - 1) (at w x + 1) e.0 (omega arith))
        ];
      }

  -- other rows after them
  pub tally-append : {ys x : List ℕ} {found : ℕ} → Tally w ys x found → Tally w₀ (xs ++ ys) x (size + found)
  tally-append {ys} u =
      record {
        is = u.is ∙ ap (λ (l : List ℕ). tallied l ys) t.is ∙ sym (tallied-append w₀ xs ys);
        size_is = omega (arith, t.size_is, u.size_is);
      }
