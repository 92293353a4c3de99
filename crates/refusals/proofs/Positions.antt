-- The loops over the positions of a batch, for every book with given heads: `ColumnsLeft` and `IdsLeft`, what is left says what the whole says; the start,
-- a position that is refused, one more, the end. Above them: one position regrouped, and live ids as booked ones.
-- Assumes nothing.
use mathlib.Core.Path.{◌≡◌, refl, sym, ap, ◌∙◌}
use mathlib.Core.Logic.{inl, inr, ◌≢◌}
use mathlib.Core.Bool.{Bool, true, false, ◌&&◌, not}
use mathlib.Core.List.{List, [], ◌∷◌}
use Prim.Native.Nat.{ℕ, suc, ◌+◌, ◌≤◌, ◌<◌}
use native.Mathlib.Omega.{arith}
use native.Mathlib.Numerals.{add-one}
use lib.Dec.{leb, eqb}
use lib.ListN.{length, get_or, take, drop, length-drop}
use lib.Seq.{drop-cons, drop-length, drop-drop}
use borrow.Author.Tests.{leb-true, eq-eqb, ne_eqb}
use Rattle.lists.specs.Lists.{is_in, among}
use Rattle.lists.proofs.Tests.{cases, and_both, in-range}
use Rattle.symbolic.specs.Columns.{is_window, Register}
use Rattle.book.specs.Book.{book_of, is_booked}
use Rattle.book.proofs.Columns.{ids-booked}
use Rattle.calls.specs.Refusals.{Refusal, refusal, accepted, is_accepted, or_else, unless, in_register, rows_refusal, columns_refusal, ids_refusal}
use Rattle.calls.proofs.Choices.{or-both, unless_holds, or-first, or_assoc}
use Rattle.refusals.specs.Parts.{placed, IsNumber, before, id_refusal, count_refusal, window_refusal, column_refusal, leaving_refusal, InStep}
use Rattle.refusals.specs.Found.{bare_in}
use Rattle.early_refusals.proofs.Tests.{unless-accepted}
use Rattle.refusals.proofs.Parts.{placed-none}

-- ---- one position

regroup : (a b c d e f g : Refusal) →
    or_else (or_else (or_else a b) (or_else c (or_else (or_else d e) f))) g ≡ or_else a (or_else b (or_else c (or_else d (or_else e (or_else f g)))))
regroup a b c d e f g =
    or_assoc (or_else a b) (or_else c (or_else (or_else d e) f)) g ∙
    ap (λ (x : Refusal). or_else (or_else a b) x)
    (or_assoc c (or_else (or_else d e) f) g ∙ ap (λ (x : Refusal). or_else c x) (or_assoc (or_else d e) f g ∙ or_assoc d e (or_else f g))) ∙
    or_assoc a b (or_else c (or_else d (or_else e (or_else f g))))

-- the test of the id decides wherever its being live is not what being booked is
module _ (n : ℕ) (is : List ℕ) (k : ℕ) (z y : Bool) (h : 1 ≤ get_or is k 0 → z ≡ y) where
  same_after : (f : Bool → Refusal) (p : ℕ) → or_else (id_refusal n is k p) (f z) ≡ or_else (id_refusal n is k p) (f y)
  same_after f p =
      elim (cases (is_in 1 n (get_or is k 0))) [
        | inl e ↦ ap (λ (x : Bool). or_else (id_refusal n is k p) (f x)) (h (in-range 1 n (get_or is k 0) e).0)
        | inr e ↦
            let r : is_accepted (unless (is_in 1 n (get_or is k 0)) 8 p) ≡ false = unless-accepted (is_in 1 n (get_or is k 0)) 8 p refl ∙ e in
            let s : is_accepted (id_refusal n is k p) ≡ false =
            ap is_accepted (or-first (unless (is_in 1 n (get_or is k 0)) 8 p) (unless (not (among (get_or is k 0) (before k is))) 9 p) r) ∙ r in
            or-first (id_refusal n is k p) (f z) s ∙ sym (or-first (id_refusal n is k p) (f y) s)
      ]

module _ (r : Register) (n p k : ℕ) (is : List ℕ) (h : k < length is) where
  pub columns-here : (ns rs ps qs : List ℕ) → k < length ns → k < length ps → k < length qs →
      columns_refusal r n p (before k is) (drop k is) (drop k ns) rs (drop k ps) (drop k qs) ≡
      or_else (column_refusal r.m n (in_register r (get_or is k 0)) is ns rs ps qs k p)
      (columns_refusal r n (suc p) (before (suc k) is) (drop (suc k) is) (drop (suc k) ns) (drop (get_or ns k 0) rs) (drop (suc k) ps) (drop (suc k) qs))
  unfolding columns_refusal before
  columns-here ns rs ps qs g a b =
      rw (drop-cons is k 0 h, drop-cons ns k 0 g, drop-cons ps k 0 a, drop-cons qs k 0 b)
      (sym
      (regroup (unless (is_in 1 n (get_or is k 0)) 8 p) (unless (not (among (get_or is k 0) (before k is))) 9 p) (unless (not (in_register r (get_or is k 0))) 10 p)
      (unless (is_in 1 256 (get_or ns k 0) && leb (get_or ns k 0) (length rs)) 12 p) (rows_refusal r.m p 0 (take (get_or ns k 0) rs))
      (unless (is_window (get_or ps k 0) (get_or qs k 0)) 21 p)
      (columns_refusal r n (suc p) (get_or is k 0 ∷ before k is) (drop (suc k) is) (drop (suc k) ns) (drop (get_or ns k 0) rs) (drop (suc k) ps) (drop (suc k) qs))))

  pub ids-here : ids_refusal r n p (before k is) (drop k is) ≡
      or_else (leaving_refusal n (in_register r (get_or is k 0)) is k p) (ids_refusal r n (suc p) (before (suc k) is) (drop (suc k) is))
  unfolding ids_refusal before
  ids-here =
      let a : Refusal = unless (is_in 1 n (get_or is k 0)) 8 p in
      let b : Refusal = unless (not (among (get_or is k 0) (before k is))) 9 p in
      let c : Refusal = unless (in_register r (get_or is k 0)) 11 p in
      let d : Refusal = ids_refusal r n (suc p) (get_or is k 0 ∷ before k is) (drop (suc k) is) in
      rw (drop-cons is k 0 h) (sym (or_assoc (or_else a b) c d ∙ or_assoc a b (or_else c d)))

-- ---- an addition

pub record ColumnsLeft (m : ℕ) (heads ids counts list firsts seconds : List ℕ) (k from : ℕ) : Type 0 where
  pub within : k ≤ length ids
  pub starts : from ≤ length list
  pub same : (rows next : List ℕ) (free : ℕ) →
      columns_refusal (bare_in m (book_of heads rows next free)) (length heads) (suc k) (before k ids) (drop k ids) (drop k counts) (drop from list) (drop k firsts) (drop k seconds) ≡
      columns_refusal (bare_in m (book_of heads rows next free)) (length heads) 1 [] ids counts list firsts seconds

pub columns-start : (m : ℕ) (hs is ns rs ps qs : List ℕ) → ColumnsLeft m hs is ns rs ps qs 0 0
unfolding before
columns-start m hs is ns rs ps qs = record { within = omega arith; starts = omega arith; same = λ rows next free. refl }

module _ {m : ℕ} {hs is ns rs ps qs : List ℕ} {k from : ℕ} (l : ColumnsLeft m hs is ns rs ps qs k from) where
  abbrev part : ℕ → Refusal
  part p = column_refusal m (length hs) (is_booked hs (get_or is k 0)) is ns (drop from rs) ps qs k p

  -- what the columns after the one at place k say
  abbrev later : Register → Refusal
  later r =
      columns_refusal r (length hs) (suc (suc k)) (before (suc k) is) (drop (suc k) is) (drop (suc k) ns) (drop (get_or ns k 0) (drop from rs)) (drop (suc k) ps)
      (drop (suc k) qs)

  module _ (h : k < length is) (g : InStep is ns ps qs) {a : ℕ} (t : IsNumber a part) where
    turn : (rows next : List ℕ) (free : ℕ) →
        columns_refusal (bare_in m (book_of hs rows next free)) (length hs) 1 [] is ns rs ps qs ≡ or_else (placed a (suc k)) (later (bare_in m (book_of hs rows next free)))
    turn rows next free =
        let r : Register = bare_in m (book_of hs rows next free) in
        sym (l.same rows next free) ∙
        columns-here r (length hs) (suc k) k is h ns (drop from rs) ps qs (omega (arith, g.counted)) (omega (arith, g.firsts-length)) (omega (arith, g.seconds-length)) ∙
        ap (λ (x : Refusal). or_else x (later r))
        (same_after (length hs) is k (in_register r (get_or is k 0)) (is_booked hs (get_or is k 0)) (λ e. ids-booked (book_of hs rows next free) (get_or is k 0) e)
        (λ (z : Bool). or_else (unless (not z) 10 (suc k)) (or_else (count_refusal m (get_or ns k 0) (drop from rs) (suc k)) (window_refusal (get_or ps k 0) (get_or qs k 0) (suc k)))) (suc k) ∙
        t.same (suc k))

    pub columns-refused : a ≢ 0 → (rows next : List ℕ) (free : ℕ) →
        refusal a (k + 1) ≡ columns_refusal (bare_in m (book_of hs rows next free)) (length hs) 1 [] is ns rs ps qs
    columns-refused e rows next free =
        sym (turn rows next free ∙ rw (ne_eqb a 0 e) (rw (ne_eqb a 0 e) (ap (refusal a) (sym (add-one k)))))

    -- an accepted column has its rows
    pub columns-room : a ≡ 0 → from + get_or ns k 0 ≤ length rs
    columns-room e =
        let i : Refusal = id_refusal (length hs) is k 0 in
        let j : Refusal = unless (not (is_booked hs (get_or is k 0))) 10 0 in
        let o : Refusal = unless (is_in 1 256 (get_or ns k 0) && leb (get_or ns k 0) (length (drop from rs))) 12 0 in
        let q : Refusal = rows_refusal m 0 0 (take (get_or ns k 0) (drop from rs)) in
        let x : Refusal = window_refusal (get_or ps k 0) (get_or qs k 0) 0 in
        let y : Refusal = or_else (or_else o q) x in
        let u : is_accepted y ≡ true = (or-both j y (or-both i (or_else j y) (ap is_accepted (t.same 0 ∙ placed-none 0 e))).1).1 in
        let v : (is_in 1 256 (get_or ns k 0) && leb (get_or ns k 0) (length (drop from rs))) ≡ true =
        unless_holds (is_in 1 256 (get_or ns k 0) && leb (get_or ns k 0) (length (drop from rs))) 12 0 refl (or-both o q (or-both (or_else o q) x u).0).0 in
        let w : get_or ns k 0 ≤ length (drop from rs) = leb-true (get_or ns k 0) (length (drop from rs)) (and_both (is_in 1 256 (get_or ns k 0)) (leb (get_or ns k 0) (length (drop from rs))) v).1 in
        omega (arith, length-drop from rs, l.starts)

    pub columns-more : a ≡ 0 → ColumnsLeft m hs is ns rs ps qs (k + 1) (from + get_or ns k 0)
    columns-more e =
        record {
          within = omega arith;
          starts = columns-room e;
          same = λ rows next free.
              let r : Register = bare_in m (book_of hs rows next free) in
              ap (λ (j : ℕ). columns_refusal r (length hs) (suc j) (before j is) (drop j is) (drop j ns) (drop (from + get_or ns k 0) rs) (drop j ps) (drop j qs)) (add-one k) ∙
              ap (λ (xs : List ℕ). columns_refusal r (length hs) (suc (suc k)) (before (suc k) is) (drop (suc k) is) (drop (suc k) ns) xs (drop (suc k) ps) (drop (suc k) qs)) (sym (drop-drop (get_or ns k 0) from rs)) ∙
              sym (turn rows next free ∙ rw (eq-eqb a 0 e) refl);
        }

  module _ (h : length is ≤ k) where
    ended : (rows next : List ℕ) (free : ℕ) →
        columns_refusal (bare_in m (book_of hs rows next free)) (length hs) 1 [] is ns rs ps qs ≡ unless (eqb (length (drop from rs)) 0) 12 0
    unfolding columns_refusal
    ended rows next free =
        let e : k ≡ length is = omega (arith, l.within) in
        sym (l.same rows next free) ∙
        ap (λ (js : List ℕ). columns_refusal (bare_in m (book_of hs rows next free)) (length hs) (suc k) (before k is) js (drop k ns) (drop from rs) (drop k ps) (drop k qs)) (ap (λ (j : ℕ). drop j is) e ∙ drop-length is)

    pub columns-over : from < length rs → (rows next : List ℕ) (free : ℕ) →
        refusal 12 0 ≡ columns_refusal (bare_in m (book_of hs rows next free)) (length hs) 1 [] is ns rs ps qs
    columns-over g rows next free =
        sym (ended rows next free ∙ rw (ne_eqb (length (drop from rs)) 0 (λ e. omega (arith, length-drop from rs))) refl)

    pub columns-end : length rs ≤ from → (rows next : List ℕ) (free : ℕ) →
        accepted ≡ columns_refusal (bare_in m (book_of hs rows next free)) (length hs) 1 [] is ns rs ps qs
    columns-end g rows next free =
        sym (ended rows next free ∙ rw (eq-eqb (length (drop from rs)) 0 (omega (arith, length-drop from rs))) refl)

-- ---- a removal

pub record IdsLeft (heads ids : List ℕ) (k : ℕ) : Type 0 where
  pub within : k ≤ length ids
  pub same : (m : ℕ) (rows next : List ℕ) (free : ℕ) →
      ids_refusal (bare_in m (book_of heads rows next free)) (length heads) (suc k) (before k ids) (drop k ids) ≡
      ids_refusal (bare_in m (book_of heads rows next free)) (length heads) 1 [] ids

pub ids-start : (hs is : List ℕ) → IdsLeft hs is 0
unfolding before
ids-start hs is = record { within = omega arith; same = λ m rows next free. refl }

module _ {hs is : List ℕ} {k : ℕ} (l : IdsLeft hs is k) where
  module _ (h : k < length is) {a : ℕ} (t : IsNumber a (leaving_refusal (length hs) (is_booked hs (get_or is k 0)) is k)) where
    leaves : (m : ℕ) (rows next : List ℕ) (free : ℕ) →
        ids_refusal (bare_in m (book_of hs rows next free)) (length hs) 1 [] is ≡
        or_else (placed a (suc k)) (ids_refusal (bare_in m (book_of hs rows next free)) (length hs) (suc (suc k)) (before (suc k) is) (drop (suc k) is))
    leaves m rows next free =
        let r : Register = bare_in m (book_of hs rows next free) in
        sym (l.same m rows next free) ∙ ids-here r (length hs) (suc k) k is h ∙
        ap (λ (x : Refusal). or_else x (ids_refusal r (length hs) (suc (suc k)) (before (suc k) is) (drop (suc k) is)))
        (same_after (length hs) is k (in_register r (get_or is k 0)) (is_booked hs (get_or is k 0)) (λ e. ids-booked (book_of hs rows next free) (get_or is k 0) e) (λ (z : Bool). unless z 11 (suc k)) (suc k) ∙ t.same (suc k))

    pub ids-refused : a ≢ 0 → (m : ℕ) (rows next : List ℕ) (free : ℕ) → refusal a (k + 1) ≡ ids_refusal (bare_in m (book_of hs rows next free)) (length hs) 1 [] is
    ids-refused e m rows next free =
        sym (leaves m rows next free ∙ rw (ne_eqb a 0 e) (rw (ne_eqb a 0 e) (ap (refusal a) (sym (add-one k)))))

    pub ids_more : a ≡ 0 → IdsLeft hs is (k + 1)
    ids_more e =
        record {
          within = omega arith;
          same = λ m rows next free.
              ap (λ (j : ℕ). ids_refusal (bare_in m (book_of hs rows next free)) (length hs) (suc j) (before j is) (drop j is)) (add-one k) ∙
              sym (leaves m rows next free ∙ rw (eq-eqb a 0 e) refl);
        }

  pub ids-end : length is ≤ k → (m : ℕ) (rows next : List ℕ) (free : ℕ) → accepted ≡ ids_refusal (bare_in m (book_of hs rows next free)) (length hs) 1 [] is
  unfolding ids_refusal
  ids-end h m rows next free =
      let e : k ≡ length is = omega (arith, l.within) in
      sym
      (sym (l.same m rows next free) ∙
      ap (ids_refusal (bare_in m (book_of hs rows next free)) (length hs) (suc k) (before k is)) (ap (λ (j : ℕ). drop j is) e ∙ drop-length is))
