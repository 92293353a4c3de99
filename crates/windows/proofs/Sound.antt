-- When a table of windows is sound: by ids (`sound-at`, `sound-make`); after an opening, and after a batch entered or left. Assumes nothing.
use mathlib.Core.Path.{◌≡◌, refl, sym, subst}
use mathlib.Core.Logic.{inl, inr}
use mathlib.Core.Bool.{true, false}
use mathlib.Core.List.{List}
use Prim.Native.Nat.{ℕ, ◌+◌, ◌-◌, ◌*◌, ◌≤◌, ◌<◌}
use native.Mathlib.Omega.{arith}
use lib.ListN.{length, get_or, replicate, length-replicate, get_or-replicate, get_or-eq_default}
use Rattle.lists.specs.Lists.{at, among, no_repeats, up_from}
use Rattle.lists.proofs.Tests.{cases, lt-or-le}
use Rattle.lists.proofs.Member.{all-at, all-make, among-mem, mem-place}
use Rattle.lists.proofs.Rising.{up-from, from_up}
use Rattle.symbolic.specs.Columns.{is_window}
use Rattle.book.specs.Book.{is_booked}
use Rattle.windows.specs.Windowed.{minutes_fit, are_sound, entered, left, HasIds}
use Rattle.windows.proofs.Written.{Has, entered-others, entered_at, left-others, left-zero}

-- ---- by ids

pub sound-at : (hs w : List ℕ) → are_sound hs w ≡ true → (l : ℕ) → 1 ≤ l → l ≤ length hs → minutes_fit hs w l ≡ true
sound-at hs w e l p q = all-at (minutes_fit hs w) (up-from 1 (length hs) l p (omega arith)) e

pub sound-make : (hs w : List ℕ) → ((l : ℕ) → 1 ≤ l → l ≤ length hs → minutes_fit hs w l ≡ true) → are_sound hs w ≡ true
sound-make hs w f =
    all-make (minutes_fit hs w) (up_from 1 (length hs)) (λ l m.
    let t : (1 ≤ l) × (l < 1 + length hs) = from_up 1 (length hs) m in f l t.0 (omega arith))

-- the minutes of a booked id are a window, of any other 0
booked-fits : (hs w : List ℕ) (l : ℕ) → is_booked hs l ≡ true → is_window (at w l) (at w (length hs + l)) ≡ true → minutes_fit hs w l ≡ true
booked-fits hs w l e f = rw e f

zero-fits : (hs w : List ℕ) (l : ℕ) → is_booked hs l ≡ false → Has w (length hs) l 0 0 → minutes_fit hs w l ≡ true
zero-fits hs w l e t = rw (e, t.0, t.1) refl

-- an id whose head and minutes stay fits as before
same-fits : (hs ks w W : List ℕ) (l : ℕ) → length ks ≡ length hs → at ks l ≡ at hs l → Has W (length hs) l (at w l) (at w (length hs + l)) →
    minutes_fit hs w l ≡ true → minutes_fit ks W l ≡ true
same-fits hs ks w W l long e t f = rw (long, e, t.0, t.1) f

-- ---- after an opening

pub opened-sound : (n : ℕ) → are_sound (replicate n 0) (replicate (2 * n) 0) ≡ true
opened-sound n =
    sound-make (replicate n 0) (replicate (2 * n) 0) (λ l p q.
    zero-fits (replicate n 0) (replicate (2 * n) 0) l (rw (zeros n (l - 1)) refl) (zeros (2 * n) (l - 1), zeros (2 * n) (length (replicate {A = ℕ} n 0) + l - 1)))
  where
    zeros : (n k : ℕ) → get_or {A = ℕ} (replicate n 0) k 0 ≡ 0
    zeros n k = elim (lt-or-le k n) [ inl h ↦ get_or-replicate n k 0 0 h | inr h ↦ get_or-eq_default (replicate n 0) 0 (omega (arith, length-replicate {A = ℕ} n 0)) ]

-- ---- after a batch: of heads hs before and ks after it

module _ (hs ks w ids : List ℕ) (long : length ks ≡ length hs) (others : (l : ℕ) → 1 ≤ l → l ≤ length hs → among l ids ≡ false → at ks l ≡ at hs l)
    (h : HasIds w (length hs) ids) (sound : are_sound hs w ≡ true) where
  -- different ids that are booked after it, with windows
  pub entered-sound : (ps qs : List ℕ) → no_repeats ids ≡ true → ((k : ℕ) → k < length ids → is_booked ks (get_or ids k 0) ≡ true) →
      ((k : ℕ) → k < length ids → is_window (get_or ps k 0) (get_or qs k 0) ≡ true) → are_sound ks (entered w (length hs) ids ps qs) ≡ true
  entered-sound ps qs d booked windows =
      let n : ℕ = length hs in
      let W : List ℕ = entered w n ids ps qs in
      sound-make ks W (λ l p q.
      elim (cases (among l ids)) [
        | inl e ↦
            let t : (k : ℕ) × (k < length ids) × (get_or ids k 0 ≡ l) = mem-place 0 (among-mem l ids e) in
            let g : Has W n l (get_or ps t.0 0) (get_or qs t.0 0) =
            subst (λ (i : ℕ). Has W n i (get_or ps t.0 0) (get_or qs t.0 0)) t.2 (entered_at w n ids ps qs d h t.0 t.1) in
            booked-fits ks W l (subst (λ (i : ℕ). is_booked ks i ≡ true) t.2 (booked t.0 t.1))
            (rw (long, g.0, g.1) (windows t.0 t.1))
        | inr e ↦ same-fits hs ks w W l long (others l p (omega arith) e) (entered-others w n ids ps qs h l p (omega arith) e) (sound-at hs w sound l p (omega arith))
      ])

  -- ids that are not booked after it
  pub left-sound : ((k : ℕ) → k < length ids → is_booked ks (get_or ids k 0) ≡ false) → are_sound ks (left w (length hs) ids) ≡ true
  left-sound absent =
      let n : ℕ = length hs in
      let W : List ℕ = left w n ids in
      sound-make ks W (λ l p q.
      elim (cases (among l ids)) [
        | inl e ↦
            let t : (k : ℕ) × (k < length ids) × (get_or ids k 0 ≡ l) = mem-place 0 (among-mem l ids e) in
            zero-fits ks W l (subst (λ (i : ℕ). is_booked ks i ≡ false) t.2 (absent t.0 t.1))
            (subst (λ (k : ℕ). Has W k l 0 0) (sym long) (left-zero w n ids h l e))
        | inr e ↦ same-fits hs ks w W l long (others l p (omega arith) e) (left-others w n ids h l p (omega arith) e) (sound-at hs w sound l p (omega arith))
      ])
