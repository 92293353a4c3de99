-- Rows counted in the first m places of the work table, where `tallied` speaks of the whole table and of its front alike: what of the table stays,
-- the total, how many counters left 0. Then the loop that counts rows that stand in the table (Tallying). Assumes nothing.
use mathlib.Core.Path.{◌≡◌, refl, sym, ap, subst, ◌∙◌}
use mathlib.Core.Logic.{◌⊎◌, inl, inr, ◌≢◌}
use mathlib.Core.List.{List, [], ◌∷◌, ◌++◌}
use Prim.Native.Nat.{ℕ, zero, suc, ◌+◌, ◌-◌, ◌≤◌, ◌<◌}
use native.Mathlib.Omega.{arith}
use lib.ListN.{length, get_or, take, drop, set, take-append-drop, length-take, length-drop}
use lib.Seq.{ext_get_or, get_or-drop, take-set-lt}
use Rattle.lists.specs.Lists.{at, put, sum_of}
use Rattle.lists.proofs.Member.{mem-place}
use Rattle.lists.proofs.Times.{times-self, times-mem, UpTo}
use Rattle.lists.proofs.Place.{put-length}
use Rattle.workspace.specs.Regions.{region, cell, OnlyIn}
use Rattle.workspace.proofs.Regions.{region-next, region-cell}
use Rattle.book.specs.Tally.{tallied, filled}
use Rattle.book.proofs.Tally.{tallied-length, up_rest, tallied-past, filled-most, filled-append, filled-first, Tally, tally-none, tally-length, tally-past, tally-few, tally-room, tally-more}
use Rattle.counting.specs.Counting.{total, CanTally}

-- ---- what stays

pub tallied-only : (m : ℕ) (w xs : List ℕ) → UpTo m xs → OnlyIn 0 m w (tallied w xs)
tallied-only m w xs within =
    record {
      same_length = tallied-length w xs;
      outside = λ k s. elim s [ inl h ↦ absurd (omega arith) | inr h ↦ tallied-past m w xs k within (omega arith) ];
    }

-- the front of the table
pub tallied-front : (m : ℕ) (w xs : List ℕ) → UpTo m xs → take m (tallied w xs) ≡ tallied (take m w) xs
unfolding tallied
tallied-front m w [] within = refl
tallied-front m w (x ∷ xs) within =
    let b : (1 ≤ x) × (x ≤ m) = within x (omega (arith, times-self x xs)) in
    let i : x - 1 < m = omega arith in
    tallied-front m (put w x (at w x + 1)) xs (up_rest m x xs within) ∙
    ap (λ (l : List ℕ). tallied l xs) (take-set-lt m w (x - 1) (at w x + 1) i ∙ ap (λ (v : ℕ). set (take m w) (x - 1) (v + 1)) (sym (front_at m w x i)))
  where
    front_at : (m : ℕ) (w : List ℕ) (x : ℕ) → x - 1 < m → at (take m w) x ≡ at w x
    front_at m w x h = region-cell w 0 m (x - 1) h ∙ ap (λ (k : ℕ). get_or w k 0) (zero-add (x - 1))
      where
        zero-add : (k : ℕ) → 0 + k ≡ k
        zero-add k = omega arith

-- ---- the total

pub total-put : (ns : List ℕ) (k v : ℕ) → k < length ns → total (set ns k v) + get_or ns k 0 ≡ total ns + v
unfolding sum_of
total-put [] k v h = absurd (omega arith)
total-put (n ∷ ns) zero v h = omega arith
total-put (n ∷ ns) (suc k) v h = omega (arith, total-put ns k v (omega arith))

pub total-place : (ns : List ℕ) (k : ℕ) → get_or ns k 0 ≤ total ns
unfolding sum_of
total-place [] k = omega arith
total-place (n ∷ ns) zero = omega arith
total-place (n ∷ ns) (suc k) = omega (arith, total-place ns k)

pub tallied-total : (ns xs : List ℕ) → UpTo (length ns) xs → total (tallied ns xs) ≡ total ns + length xs
unfolding tallied
tallied-total ns [] within = omega arith
tallied-total ns (x ∷ xs) within =
    let w : (1 ≤ x) × (x ≤ length ns) = within x (omega (arith, times-self x xs)) in
    let l : UpTo (length (put ns x (at ns x + 1))) xs = subst (λ (n : ℕ). UpTo n xs) (sym (put-length ns x (at ns x + 1))) (up_rest (length ns) x xs within) in
    omega (arith, tallied-total (put ns x (at ns x + 1)) xs l, total-put ns (x - 1) (at ns x + 1) (omega arith))

pub filled-total : (ns : List ℕ) → filled ns ≡ 0 → total ns ≡ 0
unfolding sum_of
filled-total [] e = refl
filled-total (n ∷ ns) e = omega (arith, filled-first n ns e, filled-total ns (filled-first n ns e).1)

-- ---- how many counters left 0

-- the front of a table that changed nowhere else
pub filled-front : (m size : ℕ) {w x : List ℕ} → OnlyIn 0 m w x → size + filled w ≡ filled x → size + filled (region w 0 m) ≡ filled (region x 0 m)
filled-front m size {w} {x} o e =
    let d : drop m x ≡ drop m w =
    ext_get_or 0 (drop m x) (drop m w) (simp (length-drop, o.same_length))
    (λ k h. get_or-drop m x k 0 ∙ o.outside (m + k) (inr (omega arith)) ∙ sym (get_or-drop m w k 0)) in
    omega (
      arith,
      ap filled (sym (take-append-drop m w)),
      ap filled (sym (take-append-drop m x)),
      filled-append (take m w) (drop m w),
      filled-append (take m x) (drop m x),
      ap filled d,
    )

-- rows of 1 to m counted: as many counters left 0 in the table's front as in the whole table
pub tallied-raised : (m size : ℕ) (w xs : List ℕ) {x : List ℕ} → UpTo m xs → x ≡ tallied w xs → size + filled w ≡ filled x →
    size + filled (region w 0 m) ≡ filled (region x 0 m)
tallied-raised m size w xs within e h = filled-front m size (subst (λ (l : List ℕ). OnlyIn 0 m w l) (sym e) (tallied-only m w xs within)) h

module _ {w₀ xs w : List ℕ} {size : ℕ} (t : Tally w₀ xs w size) where
  pub tally-front : (m : ℕ) → UpTo m xs → size + filled (region w₀ 0 m) ≡ filled (region w 0 m)
  tally-front m up = tallied-raised m size w₀ xs up t.is t.size_is

  -- no more of them left 0 than there are
  pub tally-most : (m : ℕ) → UpTo m xs → size ≤ m
  tally-most m up = omega (arith, tally-front m up, filled-most (region w 0 m), length-take m w)

-- ---- a loop that counts the rows at places a to e - 1

pub region-up : (w : List ℕ) (a l m : ℕ) → ((k : ℕ) → a ≤ k → k < a + l → (1 ≤ get_or w k 0) × (get_or w k 0 ≤ m)) → UpTo m (region w a l)
region-up w a l m h x n =
    let t : (k : ℕ) × (k < length (region w a l)) × (get_or (region w a l) k 0 ≡ x) = mem-place 0 (times-mem x (region w a l) n) in
    let q : t.0 < l = omega (arith, length-take l (drop a w)) in
    let e : get_or w (a + t.0) 0 ≡ x = sym (region-cell w a l t.0 q) ∙ t.2 in
    let b : (1 ≤ get_or w (a + t.0) 0) × (get_or w (a + t.0) 0 ≤ m) = h (a + t.0) (omega arith) (omega arith) in
    omega arith

pub record Tallying (work₀ : List ℕ) (a e : ℕ) (work : List ℕ) (size k : ℕ) : Type 0 where
  pub low : a ≤ k
  pub high : k - a ≤ e - a
  pub counted : Tally work₀ (region work₀ a (k - a)) work size

pub tallying-start : (w : List ℕ) (a e : ℕ) → Tallying w a e w 0 a
tallying-start w a e = let z : a - a ≡ 0 = omega arith in record { low = omega arith; high = omega arith; counted = rw z (tally-none w) }

module _ {w₀ : List ℕ} {a e : ℕ} (pre : CanTally w₀ a e) {w : List ℕ} {size k : ℕ} (i : Tallying w₀ a e w size k) where
  done-up : UpTo pre.m (region w₀ a (k - a))
  done-up = region-up w₀ a (k - a) pre.m (λ x p q. pre.rows_in x p (omega (arith, i.low, i.high)))

  tallying-past : (x : ℕ) → a ≤ x → get_or w x 0 ≡ get_or w₀ x 0
  tallying-past x h = tally-past i.counted pre.m x done-up (omega (arith, pre.before))

  tallying-row : k < e → (1 ≤ get_or w k 0) × (get_or w k 0 ≤ pre.m)
  tallying-row h = let b : (1 ≤ get_or w₀ k 0) × (get_or w₀ k 0 ≤ pre.m) = pre.rows_in k i.low h in omega (arith, tallying-past k i.low)

  tallying-room : (x : ℕ) → k < e → x < pre.m → get_or w x 0 + 1 < 4294967296
  tallying-room x h q =
      tally-room i.counted pre.m (e - a) x done-up (omega (arith, pre.long, pre.before, i.low))
      (omega (arith, length-take (k - a) (drop a w₀), i.low)) (pre.room x q)

  -- how many there are stays within 32 bits
  tallying-few : k < e → size + 1 < 4294967296
  tallying-few h =
      let b : (1 ≤ get_or w₀ k 0) × (get_or w₀ k 0 ≤ pre.m) = pre.rows_in k i.low h in
      omega (arith, pre.room 0 (omega arith), tally-few i.counted, length-take (k - a) (drop a w₀), i.low)

  -- in the turn of place k: its row and the row's counter stand in the table, and both counts have room
  pub record TallyingTurn : Type 0 where
    pub row : 1 ≤ get_or w k 0
    pub counter : get_or w k 0 - 1 < length w
    pub room : get_or w (get_or w k 0 - 1) 0 + 1 < 4294967296
    pub few : size + 1 < 4294967296

  pub tallying-turn : k < e → TallyingTurn
  tallying-turn h =
      let r : (1 ≤ get_or w k 0) × (get_or w k 0 ≤ pre.m) = tallying-row h in
      record {
        row = r.0;
        counter = omega (arith, tally-length i.counted, pre.before, i.low, pre.long);
        room = tallying-room (get_or w k 0 - 1) h (omega arith);
        few = tallying-few h;
      }

  pub tallying-more : (size' : ℕ) → k < e →
      ((get_or w (get_or w k 0 - 1) 0 ≡ 0) × (size' ≡ size + 1)) ⊎ ((get_or w (get_or w k 0 - 1) 0 ≢ 0) × (size' ≡ size)) →
      Tallying w₀ a e (set w (get_or w k 0 - 1) (get_or w (get_or w k 0 - 1) 0 + 1)) size' (k + 1)
  tallying-more size' h d =
      let s : k - a + 1 ≡ k + 1 - a = omega (arith, i.low) in
      let q : a + (k - a) ≡ k = omega (arith, i.low) in
      let g : region w₀ a (k - a + 1) ≡ region w₀ a (k - a) ++ (cell w₀ a (k - a) ∷ []) = region-next w₀ a (k - a) (omega (arith, pre.long)) in
      let v : cell w₀ a (k - a) ≡ get_or w k 0 = ap (λ (x : ℕ). get_or w₀ x 0) q ∙ sym (tallying-past k i.low) in
      let r : (1 ≤ get_or w k 0) × (get_or w k 0 ≤ pre.m) = tallying-row h in
      let p : region w₀ a (k - a) ++ (get_or w k 0 ∷ []) ≡ region w₀ a (k + 1 - a) =
      ap (λ (x : ℕ). region w₀ a (k - a) ++ (x ∷ [])) (sym v) ∙ sym g ∙ ap (region w₀ a) s in
      record {
        low = omega (arith, i.low);
        high = omega (arith, i.high, i.low);
        counted =
            subst (λ (l : List ℕ). Tally w₀ l (set w (get_or w k 0 - 1) (get_or w (get_or w k 0 - 1) 0 + 1)) size') p
            (tally-more i.counted (get_or w k 0) size' (omega (arith, pre.long, pre.before, i.low)) d);
      }
