-- The number of a whole call: what is known once 1 to 5 and 20 are passed (`early-facts`), that sizes in range leave 5 alone to all but openings
-- (`early-number`) and that 6 is none of these (`early-other`), that 7 to 18 and 21 are the call's own (`call-number`), what an accepted call has found
-- (`accepted-found`), and that on sound tables the number needs no look at their contents (`sound-number`). Assumes nothing.
use mathlib.Core.Path.{◌≡◌, refl, sym, ap, ◌∙◌, subst}
use mathlib.Core.Logic.{inl, inr, ◌≢◌}
use mathlib.Core.Bool.{Bool, true, false, ◌&&◌, ◌||◌, not, true≢false}
use mathlib.Core.List.{List, [], ◌∷◌}
use Prim.Native.Nat.{ℕ, suc, ◌+◌, ◌≤◌, ◌<◌}
use native.Mathlib.Omega.{arith}
use lib.Dec.{ltb, leb, eqb}
use lib.ListN.{length, get_or, take, drop}
use borrow.Author.Tests.{le-leb}
use Rattle.lists.specs.Lists.{is_in, all, among}
use Rattle.lists.proofs.Tests.{lt-or-le, or_right}
use Rattle.symbolic.specs.Columns.{is_window, Register}
use Rattle.symbolic.specs.Factor.{factor_for, size_sum}
use Rattle.symbolic.specs.Change.{added, removed, clocked}
use Rattle.tables.specs.Tables.{Tables, Sizes, State, long_enough, register_of, is_sound}
use Rattle.calls.specs.Refusals.{Refusal, accepted, is_accepted, or_else, unless, bounds, sizes_refusal, work_for, short_refusal, lines_of, in_register, rows_refusal, columns_refusal, row_sum, room_refusal, keep_step, ids_refusal, row_refusal, room_for}
use Rattle.calls.specs.Calls.{Change, adding, removing, setting, Question, ask_next_row, ask_parent, ask_path, ask_column, ask_meets, ask_common, Entry, opening, changing, checking, asking, Call, is_opening, sizes_after, keeps_rule}
use Rattle.calls.specs.Changes.{effect}
use Rattle.calls.specs.Questions.{response}
use Rattle.calls.specs.Numbers.{has_lists, call_early, sound_refusal, own_refusal, call_refusal, refusal_of}
use Rattle.calls.proofs.Choices.{or-both, or-second, unless_holds, unless-true, NumberOf, number-none, number-unless, number-or}
use Rattle.calls.proofs.Refusals.{HasRoom, early-passed}

-- ---- 1 to 5

-- 1 to 5 and 20 are passed: sizes in range, an opening's limits in order, tables and work table long enough for the sizes
pub record Ready (l : Sizes) (t : Tables) (k : Call) : Type 0 where
  pub sizes : sizes_refusal bounds (sizes_after l k.entry) ≡ accepted
  pub limits : keeps_rule k.entry ≡ true
  pub room : HasRoom (sizes_after l k.entry) t k.lent.work

pub early-facts : (l : Sizes) (t : Tables) (k : Call) → is_accepted (call_early l t k) ≡ true → Ready l t k
early-facts l t k h =
    let j : Sizes = sizes_after l k.entry in
    let u : (sizes_refusal bounds j ≡ accepted) × (keeps_rule k.entry ≡ true) × HasRoom j t k.lent.work × (has_lists j k.entry k.lent ≡ true) =
    early-passed j (keeps_rule k.entry) t k.lent.work (has_lists j k.entry k.lent) h in
    record { sizes = u.0; limits = u.1; room = u.2 }

-- only an opening changes the sizes
pub sizes-stay : (l : Sizes) (e : Entry) → is_opening e ≡ false → sizes_after l e ≡ l
sizes-stay l (opening k g) o = absurd (true≢false o)
sizes-stay l (changing c) o = refl
sizes-stay l checking o = refl
sizes-stay l (asking q p) o = refl

-- only an opening hands over limits
pub rule-kept : (e : Entry) → is_opening e ≡ false → keeps_rule e ≡ true
rule-kept (opening k g) o = absurd (true≢false o)
rule-kept (changing c) o = refl
rule-kept checking o = refl
rule-kept (asking q p) o = refl

short-number : (P : ℕ → Type 0) → P 5 → (l : Sizes) (t : Tables) (w : List ℕ) (z : Bool) → NumberOf P (or_else (short_refusal l t w) (unless z 5 0))
short-number P h l t w z =
    number-or P (short_refusal l t w) (unless z 5 0) (number-unless P (long_enough l t && leb (work_for l) (length w)) 5 0 h) (number-unless P z 5 0 h)

-- with sizes in range, all but an opening can give only 5 here
pub early-number : (l : Sizes) (t : Tables) → sizes_refusal bounds l ≡ accepted → (k : Call) → is_opening k.entry ≡ false →
    NumberOf (λ n. n ≡ 5) (call_early l t k)
early-number l t e k o =
    let j : Sizes = sizes_after l k.entry in
    let w : List ℕ = k.lent.work in
    let z : Bool = has_lists j k.entry k.lent in
    let f : sizes_refusal bounds j ≡ accepted = subst (λ (i : Sizes). sizes_refusal bounds i ≡ accepted) (sym (sizes-stay l k.entry o)) e in
    let y : Refusal = or_else (short_refusal j t w) (unless z 5 0) in
    let q : or_else (unless (keeps_rule k.entry) 20 0) y ≡ y = ap (λ (g : Bool). or_else (unless g 20 0) y) (rule-kept k.entry o) in
    subst (λ (x : Refusal). NumberOf (λ n. n ≡ 5) x) (sym (or-second (sizes_refusal bounds j) (or_else (unless (keeps_rule k.entry) 20 0) y) (ap is_accepted f) ∙ q))
    (short-number (λ n. n ≡ 5) refl j t w z)

-- a number other than 6
abbrev Other : ℕ → Type 0
Other n = n ≢ 6

sizes-other : (l : Sizes) → NumberOf Other (sizes_refusal bounds l)
sizes-other l =
    let x : Refusal = unless (is_in 1 4096 l.m) 1 0 in
    let y : Refusal = unless (is_in 1 16384 l.n) 2 0 in
    let z : Refusal = unless (is_in l.m 1048576 l.f) 3 0 in
    let w : Refusal = unless (is_in 1 262144 l.c) 4 0 in
    number-or Other x (or_else y (or_else z w)) (number-unless Other (is_in 1 4096 l.m) 1 0 (omega arith))
    (number-or Other y (or_else z w) (number-unless Other (is_in 1 16384 l.n) 2 0 (omega arith))
    (number-or Other z w (number-unless Other (is_in l.m 1048576 l.f) 3 0 (omega arith)) (number-unless Other (is_in 1 262144 l.c) 4 0 (omega arith))))

-- what comes before the contents are read is not 6
pub early-other : (l : Sizes) (t : Tables) (k : Call) → (call_early l t k).number ≢ 6
early-other l t k =
    let j : Sizes = sizes_after l k.entry in
    let z : Bool = has_lists j k.entry k.lent in
    let y : Refusal = or_else (short_refusal j t k.lent.work) (unless z 5 0) in
    let g : Bool = keeps_rule k.entry in
    let h : NumberOf Other (call_early l t k) =
    number-or Other (sizes_refusal bounds j) (or_else (unless g 20 0) y) (sizes-other j)
    (number-or Other (unless g 20 0) y (number-unless Other g 20 0 (omega arith)) (short-number Other (omega arith) j t k.lent.work z)) in
    elim h [ inl e ↦ λ q. omega arith | inr d ↦ d ]

-- ---- 7 to 18 and 21

-- the numbers that a call's own checks give
abbrev pub OwnNumber : ℕ → Type 0
OwnNumber n = (7 ≤ n) × (n ≤ 21) × (n ≢ 19) × (n ≢ 20)

-- those of a batch's columns, 16 not among them
abbrev ColumnNumber : ℕ → Type 0
ColumnNumber n = (7 ≤ n) × (n ≤ 21) × (n ≢ 16) × (n ≢ 19) × (n ≢ 20)

-- what holds of these holds of all that a batch's columns give
column-number : {P : ℕ → Type 0} → ((n : ℕ) → ColumnNumber n → P n) → (x : Refusal) → NumberOf ColumnNumber x → NumberOf P x
column-number h x (inl e) = inl e
column-number h x (inr k) = inr (h x.number k)

own-column : (n : ℕ) → ColumnNumber n → OwnNumber n
own-column n k = (k.0, k.1, k.3, k.4)

rows-number : (m p a : ℕ) (is : List ℕ) → NumberOf ColumnNumber (rows_refusal m p a is)
unfolding rows_refusal
rows-number m p a [] = number-none ColumnNumber
rows-number m p a (i ∷ is) =
    number-or ColumnNumber (unless (is_in 1 m i) 13 p) (or_else (unless (ltb a i) 14 p) (rows_refusal m p i is))
    (number-unless ColumnNumber (is_in 1 m i) 13 p (omega arith))
    (number-or ColumnNumber (unless (ltb a i) 14 p) (rows_refusal m p i is) (number-unless ColumnNumber (ltb a i) 14 p (omega arith)) (rows-number m p i is))

columns-number : (r : Register) (n p : ℕ) (bs is ns rs ps qs : List ℕ) → NumberOf ColumnNumber (columns_refusal r n p bs is ns rs ps qs)
unfolding columns_refusal
columns-number r n p bs [] ns rs ps qs = number-unless ColumnNumber (eqb (length rs) 0) 12 0 (omega arith)
columns-number r n p bs (i ∷ is) [] rs ps qs = inr (omega arith)
columns-number r n p bs (i ∷ is) (k ∷ ns) rs ps qs =
    let a : Refusal = unless (is_in 1 n i) 8 p in
    let b : Refusal = unless (not (among i bs)) 9 p in
    let c : Refusal = unless (not (in_register r i)) 10 p in
    let d : Refusal = unless (is_in 1 256 k && leb k (length rs)) 12 p in
    let e : Refusal = rows_refusal r.m p 0 (take k rs) in
    let f : Refusal = unless (is_window (get_or ps 0 0) (get_or qs 0 0)) 21 p in
    let g : Refusal = columns_refusal r n (suc p) (i ∷ bs) is ns (drop k rs) (drop 1 ps) (drop 1 qs) in
    let D : Refusal = or_else d (or_else e (or_else f g)) in
    number-or ColumnNumber a (or_else b (or_else c D)) (number-unless ColumnNumber (is_in 1 n i) 8 p (omega arith))
    (number-or ColumnNumber b (or_else c D) (number-unless ColumnNumber (not (among i bs)) 9 p (omega arith))
    (number-or ColumnNumber c D (number-unless ColumnNumber (not (in_register r i)) 10 p (omega arith))
    (number-or ColumnNumber d (or_else e (or_else f g)) (number-unless ColumnNumber (is_in 1 256 k && leb k (length rs)) 12 p (omega arith))
    (number-or ColumnNumber e (or_else f g) (rows-number r.m p 0 (take k rs))
    (number-or ColumnNumber f g (number-unless ColumnNumber (is_window (get_or ps 0 0) (get_or qs 0 0)) 21 p (omega arith))
    (columns-number r n (suc p) (i ∷ bs) is ns (drop k rs) (drop 1 ps) (drop 1 qs)))))))

room-number : (l : Sizes) (r : Register) → NumberOf OwnNumber (room_refusal l r)
room-number l r =
    number-or OwnNumber (unless (leb (row_sum r.columns) l.c) 15 0) (unless (leb (size_sum (factor_for r)) l.f) 16 0)
    (number-unless OwnNumber (leb (row_sum r.columns) l.c) 15 0 (omega arith))
    (number-unless OwnNumber (leb (size_sum (factor_for r)) l.f) 16 0 (omega arith))

ids-number : (r : Register) (n p : ℕ) (bs is : List ℕ) → NumberOf ColumnNumber (ids_refusal r n p bs is)
unfolding ids_refusal
ids-number r n p bs [] = number-none ColumnNumber
ids-number r n p bs (i ∷ is) =
    let a : Refusal = unless (is_in 1 n i) 8 p in
    let b : Refusal = unless (not (among i bs)) 9 p in
    let c : Refusal = unless (in_register r i) 11 p in
    let d : Refusal = ids_refusal r n (suc p) (i ∷ bs) is in
    number-or ColumnNumber a (or_else b (or_else c d)) (number-unless ColumnNumber (is_in 1 n i) 8 p (omega arith))
    (number-or ColumnNumber b (or_else c d) (number-unless ColumnNumber (not (among i bs)) 9 p (omega arith))
    (number-or ColumnNumber c d (number-unless ColumnNumber (in_register r i) 11 p (omega arith)) (ids-number r n (suc p) (i ∷ bs) is)))

row_number : (m i : ℕ) → NumberOf OwnNumber (row_refusal m i)
row_number m i = number-unless OwnNumber (is_in 1 m i) 17 0 (omega arith)

place-number : (xs : List ℕ) (p n : ℕ) → NumberOf OwnNumber (room_for xs p n)
place-number xs p n = number-unless OwnNumber (leb (p + n) (length xs)) 18 0 (omega arith)

-- each change
change-number : (l : Sizes) (r : Register) (c : Change) → NumberOf OwnNumber ((effect r c).refusal l)
change-number l r (adding is ns rs ps qs) =
    let y : Refusal = columns_refusal r l.n 1 [] is ns rs ps qs in
    let z : Refusal = room_refusal l (added r (lines_of is ns rs ps qs)) in
    number-or OwnNumber (unless (keep_step is ns ps qs) 7 0) (or_else y z) (number-unless OwnNumber (keep_step is ns ps qs) 7 0 (omega arith))
    (number-or OwnNumber y z (column-number own-column y (columns-number r l.n 1 [] is ns rs ps qs)) (room-number l (added r (lines_of is ns rs ps qs))))
change-number l r (removing is) =
    number-or OwnNumber (unless (is_in 1 64 (length is)) 7 0) (ids_refusal r l.n 1 [] is) (number-unless OwnNumber (is_in 1 64 (length is)) 7 0 (omega arith))
    (column-number own-column (ids_refusal r l.n 1 [] is) (ids-number r l.n 1 [] is))
change-number l r (setting t) = number-unless OwnNumber (leb (size_sum (factor_for (clocked r t))) l.f) 16 0 (omega arith)

-- 16 says that the patterns after the change do not fit
pub sixteen-full : (l : Sizes) (r : Register) (c : Change) → ((effect r c).refusal l).number ≡ 16 → l.f < size_sum (factor_for (effect r c).register)
sixteen-full l r c h = elim (full c) [ inl z ↦ absurd (omega arith) | inr k ↦ k h ]
  where
    Full : Register → ℕ → Type 0
    Full a n = n ≡ 16 → l.f < size_sum (factor_for a)

    others : (a : Register) (n : ℕ) → ColumnNumber n → Full a n
    others a n k e = absurd (k.2 e)

    room : (a : Register) → NumberOf (Full a) (unless (leb (size_sum (factor_for a)) l.f) 16 0)
    room a =
        elim (lt-or-le l.f (size_sum (factor_for a))) [
          | inl h ↦ number-unless (Full a) (leb (size_sum (factor_for a)) l.f) 16 0 (λ e. h)
          | inr h ↦ inl (ap (λ (x : Refusal). x.number) (unless-true (leb (size_sum (factor_for a)) l.f) 16 0 (le-leb (size_sum (factor_for a)) l.f h)))
        ]

    full : (c : Change) → NumberOf (Full (effect r c).register) ((effect r c).refusal l)
    full (adding is ns rs ps qs) =
        let a : Register = added r (lines_of is ns rs ps qs) in
        let y : Refusal = columns_refusal r l.n 1 [] is ns rs ps qs in
        let z : Refusal = unless (leb (row_sum a.columns) l.c) 15 0 in
        let w : Refusal = unless (leb (size_sum (factor_for a)) l.f) 16 0 in
        number-or (Full a) (unless (keep_step is ns ps qs) 7 0) (or_else y (or_else z w)) (number-unless (Full a) (keep_step is ns ps qs) 7 0 (λ e. absurd (omega arith)))
        (number-or (Full a) y (or_else z w) (column-number (others a) y (columns-number r l.n 1 [] is ns rs ps qs))
        (number-or (Full a) z w (number-unless (Full a) (leb (row_sum a.columns) l.c) 15 0 (λ e. absurd (omega arith))) (room a)))
    full (removing is) =
        let a : Register = removed r is in
        let y : Refusal = ids_refusal r l.n 1 [] is in
        number-or (Full a) (unless (is_in 1 64 (length is)) 7 0) y (number-unless (Full a) (is_in 1 64 (length is)) 7 0 (λ e. absurd (omega arith)))
        (column-number (others a) y (ids-number r l.n 1 [] is))
    full (setting t) = room (clocked r t)

-- each question
question-number : (r : Register) (q : Question) → NumberOf OwnNumber (response r q).refusal
question-number r (ask_next_row i j) = number-or OwnNumber (row_refusal r.m i) (row_refusal r.m j) (row_number r.m i) (row_number r.m j)
question-number r (ask_parent j) = row_number r.m j
question-number r (ask_path j) = row_number r.m j
question-number r (ask_column j) = row_number r.m j
question-number r (ask_meets i) = row_number r.m i
question-number r (ask_common is) =
    number-or OwnNumber (unless (is_in 1 64 (length is)) 7 0) (unless (all (is_in 1 r.m) is) 17 0) (number-unless OwnNumber (is_in 1 64 (length is)) 7 0 (omega arith))
    (number-unless OwnNumber (all (is_in 1 r.m) is) 17 0 (omega arith))

own-number : (l : Sizes) (r : Register) (e : Entry) (xs : List ℕ) → NumberOf OwnNumber (own_refusal l r e xs)
own-number l r (opening k g) xs = number-none OwnNumber
own-number l r (changing c) xs = change-number l r c
own-number l r checking xs = number-none OwnNumber
own-number l r (asking q p) xs =
    number-or OwnNumber (response r q).refusal (room_for xs p (length (response r q).list)) (question-number r q) (place-number xs p (length (response r q).list))

pub call-number : (l : Sizes) (r : Register) (k : Call) → NumberOf OwnNumber (call_refusal l r k)
call-number l r k = own-number l r k.entry k.lent.list

-- ---- 6

pub sound_none : (s : State) (t : Tables) (e : Entry) → is_sound s t ≡ true → sound_refusal s t e ≡ accepted
sound_none s t e h = unless-true (is_opening e || is_sound s t) 6 0 (or_right (is_opening e) (is_sound s t) h)

-- a call that passed 6 found the tables sound
pub sound-read : (s : State) (t : Tables) (e : Entry) → is_opening e ≡ false → is_accepted (sound_refusal s t e) ≡ true → is_sound s t ≡ true
sound-read s t e o h =
    subst (λ (z : Bool). (z || is_sound s t) ≡ true) o (unless_holds (is_opening e || is_sound s t) 6 0 refl h)

-- an accepted call that is no opening found sizes in range, and tables long enough and sound
pub record Found (s : State) (t : Tables) : Type 0 where
  pub in-range : sizes_refusal bounds s.sizes ≡ accepted
  pub long : long_enough s.sizes t ≡ true
  pub sound : is_sound s t ≡ true

pub accepted-found : (s : State) (t : Tables) (k : Call) → is_opening k.entry ≡ false → is_accepted (refusal_of s t k) ≡ true → Found s t
accepted-found s t k o h =
    let x : Refusal = sound_refusal s t k.entry in
    let y : Refusal = call_refusal s.sizes (register_of s t) k in
    let u : (is_accepted (call_early s.sizes t k) ≡ true) × (is_accepted (or_else x y) ≡ true) = or-both (call_early s.sizes t k) (or_else x y) h in
    let r : Ready s.sizes t k = early-facts s.sizes t k u.0 in
    let e : sizes_after s.sizes k.entry ≡ s.sizes = sizes-stay s.sizes k.entry o in
    record {
      in-range = subst (λ (l : Sizes). sizes_refusal bounds l ≡ accepted) e r.sizes;
      long = subst (λ (l : Sizes). long_enough l t ≡ true) e r.room.tables;
      sound = sound-read s t k.entry o (or-both x y u.1).0;
    }

-- on sound tables the number is that of lengths, sizes, register and arguments
pub sound-number : (s : State) (t : Tables) (k : Call) → is_sound s t ≡ true →
    refusal_of s t k ≡ or_else (call_early s.sizes t k) (call_refusal s.sizes (register_of s t) k)
sound-number s t k h =
    ap (λ (y : Refusal). or_else (call_early s.sizes t k) y)
    (or-second (sound_refusal s t k.entry) (call_refusal s.sizes (register_of s t) k) (ap is_accepted (sound_none s t k.entry h)))
