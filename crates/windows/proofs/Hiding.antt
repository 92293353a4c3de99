-- The loops that hide the starts of columns outside their windows: each start stays or becomes 0 (`hiding-shown`, `hiding-hidden`), and which it is the definitions say
-- by place (`listed_at`, `booked-at`). Assumes nothing.
use mathlib.Core.Path.{◌≡◌, refl, sym, ap, ◌∙◌}
use mathlib.Core.Bool.{true, false}
use mathlib.Core.List.{List, [], ◌∷◌}
use Prim.Native.Nat.{ℕ, zero, suc, ◌+◌, ◌<◌}
use native.Mathlib.Omega.{arith}
use lib.ListN.{length, get_or, set, take, drop}
use lib.Seq.{get_or-drop, get_or-append-add, length-take-le}
use Rattle.lists.specs.Lists.{pick, over}
use Rattle.lists.proofs.Over.{Filling, filling-start, filling-next}
use Rattle.symbolic.specs.Columns.{is_inside}
use Rattle.windows.specs.Windows.{counts_at}
use Rattle.windows.specs.Windowed.{listed_inside, booked_inside}

-- ---- one start

module _ {new old xs : List ℕ} {i : ℕ} (w : Filling new old xs i) (h : i < length old) where
  -- what is not written yet stands as it was
  filling-old : get_or xs i 0 ≡ get_or old i 0
  filling-old =
      let front : List ℕ = take i new in
      let q : length front ≡ i = length-take-le i new (omega (arith, w.size)) in
      let e : i ≡ length front + 0 = omega arith in
      ap (λ (l : List ℕ). get_or l i 0) w.written ∙ ap (λ (k : ℕ). get_or (over front old) k 0) e ∙ get_or-append-add front (drop (length front) old) 0 0 ∙
      get_or-drop (length front) old 0 0 ∙ ap (λ (k : ℕ). get_or old k 0) (sym e)

  pub hiding-shown : get_or new i 0 ≡ get_or old i 0 → Filling new old (set xs i (get_or xs i 0)) (i + 1)
  hiding-shown e = filling-next w h (e ∙ sym filling-old)

  pub hiding-hidden : get_or new i 0 ≡ 0 → Filling new old (set xs i 0) (i + 1)
  hiding-hidden e = filling-next w h e

-- the rest of a list, by place
rest_at : (xs : List ℕ) (k : ℕ) → get_or (drop 1 xs) k 0 ≡ get_or xs (suc k) 0
rest_at xs k = let e : 1 + k ≡ suc k = omega arith in get_or-drop 1 xs k 0 ∙ ap (λ (j : ℕ). get_or xs j 0) e

-- ---- by lists of minutes

listed-length : (t : ℕ) (ps qs ss : List ℕ) → length (listed_inside t ps qs ss) ≡ length ss
unfolding listed_inside
listed-length t ps qs [] = refl
listed-length t ps qs (s ∷ ss) = ap suc (listed-length t (drop 1 ps) (drop 1 qs) ss)

listed_at : (t : ℕ) (ps qs ss : List ℕ) (k : ℕ) → k < length ss → get_or (listed_inside t ps qs ss) k 0 ≡ pick (is_inside (get_or ps k 0) (get_or qs k 0) t) (get_or ss k 0) 0
unfolding listed_inside
listed_at t ps qs [] k h = absurd (omega arith)
listed_at t ps qs (s ∷ ss) zero h = refl
listed_at t ps qs (s ∷ ss) (suc k) h = rw (listed_at t (drop 1 ps) (drop 1 qs) ss k (omega arith), rest_at ps k, rest_at qs k) refl

pub listed_start : (t : ℕ) (ps qs ss : List ℕ) → Filling (listed_inside t ps qs ss) ss ss 0
listed_start t ps qs ss = filling-start (listed_inside t ps qs ss) ss (listed-length t ps qs ss)

module _ (t : ℕ) (ps qs : List ℕ) {ss xs : List ℕ} {k : ℕ} (w : Filling (listed_inside t ps qs ss) ss xs k) (h : k < length ss) where
  pub listed-shown : is_inside (get_or ps k 0) (get_or qs k 0) t ≡ true → Filling (listed_inside t ps qs ss) ss (set xs k (get_or xs k 0)) (k + 1)
  listed-shown e = hiding-shown w h (rw (listed_at t ps qs ss k h, e) refl)

  pub listed-hidden : is_inside (get_or ps k 0) (get_or qs k 0) t ≡ false → Filling (listed_inside t ps qs ss) ss (set xs k 0) (k + 1)
  listed-hidden e = hiding-hidden w h (rw (listed_at t ps qs ss k h, e) refl)

-- ---- by the table

booked-length : (t : ℕ) (w : List ℕ) (n : ℕ) (is ss : List ℕ) → length (booked_inside t w n is ss) ≡ length ss
unfolding booked_inside
booked-length t w n is [] = refl
booked-length t w n is (s ∷ ss) = ap suc (booked-length t w n (drop 1 is) ss)

booked-at : (t : ℕ) (w : List ℕ) (n : ℕ) (is ss : List ℕ) (k : ℕ) → k < length ss → get_or (booked_inside t w n is ss) k 0 ≡ pick (counts_at w n t (get_or is k 0)) (get_or ss k 0) 0
unfolding booked_inside
booked-at t w n is [] k h = absurd (omega arith)
booked-at t w n is (s ∷ ss) zero h = refl
booked-at t w n is (s ∷ ss) (suc k) h = rw (booked-at t w n (drop 1 is) ss k (omega arith), rest_at is k) refl

pub booked-start : (t : ℕ) (w : List ℕ) (n : ℕ) (is ss : List ℕ) → Filling (booked_inside t w n is ss) ss ss 0
booked-start t w n is ss = filling-start (booked_inside t w n is ss) ss (booked-length t w n is ss)

module _ (t : ℕ) (v : List ℕ) (n : ℕ) (is : List ℕ) {ss xs : List ℕ} {k : ℕ} (w : Filling (booked_inside t v n is ss) ss xs k) (h : k < length ss) where
  pub booked-shown : counts_at v n t (get_or is k 0) ≡ true → Filling (booked_inside t v n is ss) ss (set xs k (get_or xs k 0)) (k + 1)
  booked-shown e = hiding-shown w h (rw (booked-at t v n is ss k h, e) refl)

  pub booked-hidden : counts_at v n t (get_or is k 0) ≡ false → Filling (booked_inside t v n is ss) ss (set xs k 0) (k + 1)
  booked-hidden e = hiding-hidden w h (rw (booked-at t v n is ss k h, e) refl)
