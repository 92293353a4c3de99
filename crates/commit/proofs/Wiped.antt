-- What the pass that writes parents leaves, as functions of the columns: values put at their numbers (`put_all`), their places wiped (`wiped`). One
-- column more at the end, and what stands where afterwards. Assumes nothing.
use mathlib.Core.Path.{◌≡◌, refl, ap, ◌∙◌}
use mathlib.Core.Logic.{◌⊎◌, inl, inr, ◌≢◌}
use mathlib.Core.List.{List, [], ◌∷◌, ◌++◌}
use Prim.Native.Nat.{ℕ, ◌+◌, ◌-◌, ◌≤◌, ◌<◌}
use native.Mathlib.Omega.{arith}
use lib.ListN.{length, get_or, set, length-set}
use lib.Seq.{get_or-set_same, get_or-set_other}
use Rattle.lists.specs.Lists.{Mem, first, later, at, put, times}
use Rattle.lists.proofs.Tests.{eq-or-ne}
use Rattle.lists.proofs.Place.{put-length, at-put-same, at-put-other}
use Rattle.lists.proofs.Times.{times-nil, times-self, times-other, times-cons, mem-times}
use Rattle.workspace.specs.Regions.{cell}
use Rattle.workspace.specs.Layout.{marks_at, starts_at, next_at, plan_at}
use Rattle.commit.specs.Passes.{put_all, wiped}

-- ---- values put at numbers

pub all_none : (f : ℕ → ℕ) (xs : List ℕ) → put_all f [] xs ≡ xs
unfolding put_all
all_none f xs = refl

pub all_more : (f : ℕ → ℕ) (js : List ℕ) (j : ℕ) (xs : List ℕ) → put_all f (js ++ (j ∷ [])) xs ≡ put (put_all f js xs) j (f j)
unfolding put_all
all_more f [] j xs = refl
all_more f (x ∷ js) j xs = all_more f js j (put xs x (f x))

pub all-length : (f : ℕ → ℕ) (js xs : List ℕ) → length (put_all f js xs) ≡ length xs
unfolding put_all
all-length f [] xs = refl
all-length f (x ∷ js) xs = all-length f js (put xs x (f x)) ∙ put-length xs x (f x)

pub all-other : (f : ℕ → ℕ) (js xs : List ℕ) (l : ℕ) → ((j : ℕ) → 1 ≤ times j js → 1 ≤ j) → 1 ≤ l → times l js ≡ 0 → at (put_all f js xs) l ≡ at xs l
unfolding put_all
all-other f [] xs l low a z = refl
all-other f (j ∷ js) xs l low a z =
    let d : l ≢ j = λ e. omega (arith, times-self j js, ap (λ (x : ℕ). times x (j ∷ js)) e) in
    all-other f js (put xs j (f j)) l (λ x h. low x (omega (arith, times-cons x j js))) a (omega (arith, times-other l j js d)) ∙
    at-put-other xs j l (f j) (low j (omega (arith, times-self j js))) a d

pub all-at : (f : ℕ → ℕ) (js xs : List ℕ) (l : ℕ) → ((j : ℕ) → 1 ≤ times j js → (1 ≤ j) × (j ≤ length xs)) → 1 ≤ times l js → at (put_all f js xs) l ≡ f l
unfolding put_all
all-at f [] xs l low h = absurd (omega (arith, times-nil l))
all-at f (j ∷ js) xs l low h =
    let more : (x : ℕ) → 1 ≤ times x js → (1 ≤ x) × (x ≤ length xs) = λ x k. low x (omega (arith, times-cons x j js)) in
    elim (eq-or-ne (times l js) 0) [
      | inr d ↦ all-at f js (put xs j (f j)) l (λ x k. ((more x k).0, omega (arith, (more x k).1, put-length xs j (f j)))) (omega arith)
      | inl z ↦ elim (eq-or-ne l j) [
        | inr d ↦ absurd (omega (arith, times-other l j js d))
        | inl q ↦
            let b : (1 ≤ j) × (j ≤ length xs) = low j (omega (arith, times-self j js)) in
            all-other f js (put xs j (f j)) l (λ x k. (more x k).0) (omega arith) z ∙ rw q (at-put-same xs j (f j) b.0 b.1)
      ]
    ]

-- ---- places wiped

-- a place of one of the columns
abbrev pub PlaceOf : (m : ℕ) (columns : List ℕ) (k : ℕ) → Type 0
PlaceOf m js k = (j : ℕ) × (Mem j js × ((k ≡ marks_at m + (j - 1)) ⊎ ((k ≡ starts_at m + (j - 1)) ⊎ (k ≡ next_at m + (j - 1)))))

pub wiped-none : (m : ℕ) (w : List ℕ) → wiped m [] w ≡ w
unfolding wiped
wiped-none m w = refl

pub wiped-more : (m : ℕ) (js : List ℕ) (j : ℕ) (w : List ℕ) →
    wiped m (js ++ (j ∷ [])) w ≡ set (set (set (wiped m js w) (marks_at m + (j - 1)) 0) (starts_at m + (j - 1)) 0) (next_at m + (j - 1)) 0
unfolding wiped
wiped-more m [] j w = refl
wiped-more m (x ∷ js) j w = wiped-more m js j (set (set (set w (marks_at m + (x - 1)) 0) (starts_at m + (x - 1)) 0) (next_at m + (x - 1)) 0)

three-length : (w : List ℕ) (a b c : ℕ) → length (set (set (set w a 0) b 0) c 0) ≡ length w
three-length w a b c = simp length-set

pub wiped-length : (m : ℕ) (js w : List ℕ) → length (wiped m js w) ≡ length w
unfolding wiped
wiped-length m [] w = refl
wiped-length m (x ∷ js) w =
    wiped-length m js (set (set (set w (marks_at m + (x - 1)) 0) (starts_at m + (x - 1)) 0) (next_at m + (x - 1)) 0) ∙
    three-length w (marks_at m + (x - 1)) (starts_at m + (x - 1)) (next_at m + (x - 1))

-- one store of zero: the place, or any other
zero-or-same : (w : List ℕ) (a k : ℕ) → a < length w → ((k ≡ a) × (get_or (set w a 0) k 0 ≡ 0)) ⊎ ((k ≢ a) × (get_or (set w a 0) k 0 ≡ get_or w k 0))
zero-or-same w a k h =
    elim (eq-or-ne k a) [
      | inl e ↦ inl (e, rw e (get_or-set_same w a 0 0 h))
      | inr d ↦ inr (d, get_or-set_other w a k 0 0 d)
    ]

pub data Three (w : List ℕ) (a b c k v : ℕ) : Type 0 where
  wipes : (k ≡ a) ⊎ ((k ≡ b) ⊎ (k ≡ c)) → v ≡ 0 → Three w a b c k v
  leaves : k ≢ a → k ≢ b → k ≢ c → v ≡ get_or w k 0 → Three w a b c k v

three : (w : List ℕ) (a b c k : ℕ) → a < length w → b < length w → c < length w → Three w a b c k (get_or (set (set (set w a 0) b 0) c 0) k 0)
three w a b c k p q r =
    elim (zero-or-same (set (set w a 0) b 0) c k (simp length-set r)) [
      | inl t ↦ wipes (inr (inr t.0)) t.1
      | inr t ↦ elim (zero-or-same (set w a 0) b k (simp length-set q)) [
        | inl u ↦ wipes (inr (inl u.0)) (t.1 ∙ u.1)
        | inr u ↦ elim (zero-or-same w a k p) [
          | inl v ↦ wipes (inl v.0) (t.1 ∙ u.1 ∙ v.1)
          | inr v ↦ leaves v.0 u.0 t.0 (t.1 ∙ u.1 ∙ v.1)
        ]
      ]
    ]

-- one column more at the front
module _ (m x : ℕ) (js w : List ℕ) (k : ℕ) where
  away : (j : ℕ) → Mem j (x ∷ js) → (k ≡ marks_at m + (j - 1)) ⊎ ((k ≡ starts_at m + (j - 1)) ⊎ (k ≡ next_at m + (j - 1))) →
      k ≢ marks_at m + (x - 1) → k ≢ starts_at m + (x - 1) → k ≢ next_at m + (x - 1) → (PlaceOf m js k → ⊥) → ⊥
  away j first (inl e) p q r n = p e
  away j first (inr (inl e)) p q r n = q e
  away j first (inr (inr e)) p q r n = r e
  away j (later h) o p q r n = n (j, (h, o))

  three-cases : (v y : ℕ) → y ≡ v → (PlaceOf m js k → ⊥) → Three w (marks_at m + (x - 1)) (starts_at m + (x - 1)) (next_at m + (x - 1)) k v →
      (PlaceOf m (x ∷ js) k × (y ≡ 0)) ⊎ ((PlaceOf m (x ∷ js) k → ⊥) × (y ≡ get_or w k 0))
  three-cases v y e n (wipes p z) = inl ((x, (first, p)), e ∙ z)
  three-cases v y e n (leaves p q r z) = inr (λ t. away t.0 t.1.0 t.1.1 p q r n, e ∙ z)

no_place : (m k : ℕ) → PlaceOf m [] k → ⊥
no_place m k p = none p.1.0
  where
    none : {j : ℕ} → Mem j [] → ⊥
    none h = elim h [ ]

-- a place of the columns is zero, any other as it was
pub wiped-cases : (m : ℕ) (js w : List ℕ) (k : ℕ) → ((j : ℕ) → Mem j js → (1 ≤ j) × (j ≤ m)) → plan_at m ≤ length w →
    (PlaceOf m js k × (get_or (wiped m js w) k 0 ≡ 0)) ⊎ ((PlaceOf m js k → ⊥) × (get_or (wiped m js w) k 0 ≡ get_or w k 0))
unfolding wiped
wiped-cases m [] w k within long = inr (no_place m k, refl)
wiped-cases m (x ∷ js) w k within long =
    let a : ℕ = marks_at m + (x - 1) in
    let b : ℕ = starts_at m + (x - 1) in
    let c : ℕ = next_at m + (x - 1) in
    let h : (1 ≤ x) × (x ≤ m) = within x first in
    elim (wiped-cases m js (set (set (set w a 0) b 0) c 0) k (λ j n. within j (later n)) (omega (arith, three-length w a b c))) [
      | inl t ↦ inl ((t.0.0, (later t.0.1.0, t.0.1.1)), t.1)
      | inr t ↦ three-cases m x js w k (get_or (set (set (set w a 0) b 0) c 0) k 0) (get_or (wiped m js (set (set (set w a 0) b 0) c 0)) k 0) t.1 t.0
          (three w a b c k (omega arith) (omega arith) (omega arith))
    ]

-- a column that is not among them keeps its mark and its next column
module _ (m : ℕ) (js w : List ℕ) (within : (j : ℕ) → Mem j js → (1 ≤ j) × (j ≤ m)) (long : plan_at m ≤ length w) (l : ℕ) (low : 1 ≤ l) (high : l ≤ m)
    (fresh : times l js ≡ 0) where
  not-among : (j : ℕ) → Mem j js → j ≡ l → ⊥
  not-among j h e = omega (arith, mem-times h, ap (λ (x : ℕ). times x js) e)

  mark-off : (j : ℕ) → Mem j js →
      (marks_at m + (l - 1) ≡ marks_at m + (j - 1)) ⊎ ((marks_at m + (l - 1) ≡ starts_at m + (j - 1)) ⊎ (marks_at m + (l - 1) ≡ next_at m + (j - 1))) → ⊥
  mark-off j h (inl e) = not-among j h (omega (arith, (within j h).0))
  mark-off j h (inr (inl e)) = omega arith
  mark-off j h (inr (inr e)) = omega arith

  next-off : (j : ℕ) → Mem j js →
      (next_at m + (l - 1) ≡ marks_at m + (j - 1)) ⊎ ((next_at m + (l - 1) ≡ starts_at m + (j - 1)) ⊎ (next_at m + (l - 1) ≡ next_at m + (j - 1))) → ⊥
  next-off j h (inl e) = omega (arith, (within j h).1)
  next-off j h (inr (inl e)) = omega (arith, (within j h).1)
  next-off j h (inr (inr e)) = not-among j h (omega (arith, (within j h).0))

  pub wiped-mark : cell (wiped m js w) (marks_at m) (l - 1) ≡ cell w (marks_at m) (l - 1)
  wiped-mark =
      elim (wiped-cases m js w (marks_at m + (l - 1)) within long) [
        | inl t ↦ absurd (mark-off t.0.0 t.0.1.0 t.0.1.1)
        | inr t ↦ t.1
      ]

  pub wiped-next : cell (wiped m js w) (next_at m) (l - 1) ≡ cell w (next_at m) (l - 1)
  wiped-next =
      elim (wiped-cases m js w (next_at m + (l - 1)) within long) [
        | inl t ↦ absurd (next-off t.0.0 t.0.1.0 t.0.1.1)
        | inr t ↦ t.1
      ]
