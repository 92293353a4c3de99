-- What a question answers, for every register whose tables these are: 18, or the value with what is written. First for any question: one without a list, one whose
-- list is written from a place on. Then question by question.
-- Assumes nothing.
use mathlib.Core.Path.{◌≡◌, refl, sym, ap, ◌∙◌, subst}
use mathlib.Core.List.{List, []}
use Prim.Native.Nat.{ℕ}
use lib.ListN.{length}
use Rattle.lists.specs.Lists.{written_at}
use Rattle.symbolic.specs.Columns.{Register}
use Rattle.symbolic.specs.Factor.{factor_for, column_at, size_of}
use Rattle.symbolic.specs.NextRow.{ColumnEntry, next_row}
use Rattle.calls.specs.Refusals.{Refusal, refusal, accepted, or_else, row_refusal, room_for}
use Rattle.calls.specs.Calls.{Question, ask_next_row, ask_column, ask_meets}
use Rattle.calls.specs.Questions.{column_list, meets_list, response}
use Rattle.calls.specs.Numbers.{ask_refusal}
use Rattle.questions.specs.Asked.{ColumnsFor, reply_of, answered_by, replied_to, RepliesAt, Finds, Leaves}
use Rattle.questions.specs.Meeting.{TreeFor}
use Rattle.questions.proofs.Replies.{refused-reply, refused-list, accepted-answer, accepted-list}

-- a row's test by the register
row_at : {k m : ℕ} (e : k ≡ m) (i : ℕ) {x : Refusal} → row_refusal m i ≡ x → row_refusal k i ≡ x
row_at e i {x} h = subst (λ (n : ℕ). row_refusal n i ≡ x) (sym e) h

-- what an accepted question without a row replies
value-reply : (r : Register) (q : Question) (p : ℕ) (xs : List ℕ) {v : ℕ} → ask_refusal r q p xs ≡ accepted → (response r q).row ≡ 0 → v ≡ (response r q).value →
    reply_of (record { number = 0; value = v }) ≡ replied_to r q p xs
value-reply r q p xs {v} e z a =
    (λ t. answered_by (record { refusal = accepted; list = []; row = sym z t; value = a t })) ∙ accepted-answer r q p xs e

-- ---- any question without a list

module _ (Fits : Register → Type 0) (q : Question) (empty : (r : Register) → (response r q).list ≡ []) where
  abbrev after : (r : Register) → Refusal → Refusal
  after r x = or_else x (room_for [] 0 (length (response r q).list))

  module _ (h : (r : Register) → Fits r → (response r q).refusal ≡ accepted) where
    pub plain-taken : (r : Register) → Fits r → ask_refusal r q 0 [] ≡ accepted
    plain-taken r f = ap (after r) (h r f) ∙ ap (λ (xs : List ℕ). or_else accepted (room_for [] 0 (length xs))) (empty r)

-- ---- any question about column j whose list is written from place p on

module _ (Fits : Register → Type 0) (m : ℕ) (size : (r : Register) → Fits r → r.m ≡ m) (q : Question) (j : ℕ)
    (row : (r : Register) → (response r q).refusal ≡ row_refusal r.m j) (p : ℕ) (xs : List ℕ) where
  abbrev room : Register → Refusal
  room r = room_for xs p (length (response r q).list)

  first-is : {x : Refusal} → row_refusal m j ≡ x → (r : Register) → Fits r → ask_refusal r q p xs ≡ or_else x (room r)
  first-is h r f = ap (λ (y : Refusal). or_else y (room r)) (row r ∙ row_at (size r f) j h)

  module _ (a : row_refusal m j ≡ accepted) (n : ℕ) (v : (r : Register) → Fits r → n ≡ length (response r q).list) where
    second_is : {x : Refusal} → room_for xs p n ≡ x → (r : Register) → Fits r → ask_refusal r q p xs ≡ x
    second_is {x} h r f = first-is a r f ∙ subst (λ (k : ℕ). room_for xs p k ≡ x) (v r f) h

    pub list-room : room_for xs p n ≡ refusal 18 0 → RepliesAt Fits q p xs (record { number = 18; value = 0 }) × Leaves Fits q p xs xs
    list-room h = (λ r f. refused-reply r q p xs 18 refl (second_is h r f), λ r f. refused-list r q p xs 18 refl (second_is h r f))

    pub list-answer : (k : ℕ) (ys : List ℕ) → room_for xs p n ≡ accepted → ((r : Register) → (response r q).row ≡ 0) → ((r : Register) → Fits r → k ≡ (response r q).value) →
        ((r : Register) → Fits r → ys ≡ written_at p (response r q).list xs) → RepliesAt Fits q p xs (record { number = 0; value = k }) × Leaves Fits q p xs ys
    list-answer k ys h z u w = (λ r f. value-reply r q p xs (second_is h r f) (z r) (u r f), λ r f. accepted-list r q p xs (second_is h r f) (w r f))

-- ---- the next row

module _ (hs rs cs ns : List ℕ) (i j : ℕ) where
  abbrev both : Register → Refusal
  both r = or_else (row_refusal r.m i) (row_refusal r.m j)

  first-row : {x : Refusal} → row_refusal (length hs) i ≡ x → (r : Register) → ColumnsFor hs rs cs ns r → both r ≡ or_else x (row_refusal r.m j)
  first-row h r f = ap (λ (y : Refusal). or_else y (row_refusal r.m j)) (row_at f.size i h)

  module _ (a : row_refusal (length hs) i ≡ accepted) where
    pub next-answer : (x n : ℕ) → row_refusal (length hs) j ≡ accepted → ((r : Register) → ColumnsFor hs rs cs ns r → record { row = x; count = n } ≡ next_row (factor_for r) i j) →
        Finds (ColumnsFor hs rs cs ns) (ask_next_row i j) (record { number = 0; row = x; multiplicity = n })
    next-answer x n b v r f =
        ap (λ (y : ColumnEntry). answered_by (record { refusal = accepted; list = []; row = y.row; value = y.count })) (v r f) ∙
        accepted-answer r (ask_next_row i j) 0 [] (plain-taken (ColumnsFor hs rs cs ns) (ask_next_row i j) (λ r. refl) (λ r f. first-row a r f ∙ row_at f.size j b) r f)

-- ---- a column

module _ (hs rs cs ns : List ℕ) (j p : ℕ) (xs : List ℕ) where
  module _ (a : row_refusal (length hs) j ≡ accepted) (k : ℕ) (v : (r : Register) → ColumnsFor hs rs cs ns r → k ≡ length (column_list r j)) where
    pub column-room : room_for xs p k ≡ refusal 18 0 →
        RepliesAt (ColumnsFor hs rs cs ns) (ask_column j) p xs (record { number = 18; value = 0 }) × Leaves (ColumnsFor hs rs cs ns) (ask_column j) p xs xs
    column-room h = list-room (ColumnsFor hs rs cs ns) (length hs) (λ r f. f.size) (ask_column j) j (λ r. refl) p xs a k v h

    pub column-answer : (n : ℕ) (ys : List ℕ) → room_for xs p k ≡ accepted →
        ((r : Register) → ColumnsFor hs rs cs ns r → n ≡ size_of (column_at (factor_for r) j)) →
        ((r : Register) → ColumnsFor hs rs cs ns r → ys ≡ written_at p (column_list r j) xs) →
        RepliesAt (ColumnsFor hs rs cs ns) (ask_column j) p xs (record { number = 0; value = n }) × Leaves (ColumnsFor hs rs cs ns) (ask_column j) p xs ys
    column-answer n ys h u w = list-answer (ColumnsFor hs rs cs ns) (length hs) (λ r f. f.size) (ask_column j) j (λ r. refl) p xs a k v n ys h (λ r. refl) u w

-- ---- the columns that meet a row

module _ (hs ps rs cs ns : List ℕ) (i p : ℕ) (xs : List ℕ) where
  module _ (a : row_refusal (length hs) i ≡ accepted) (n : ℕ) (v : (r : Register) → TreeFor hs ps rs cs ns r → n ≡ length (meets_list r i)) where
    pub meets-room : room_for xs p n ≡ refusal 18 0 →
        RepliesAt (TreeFor hs ps rs cs ns) (ask_meets i) p xs (record { number = 18; value = 0 }) × Leaves (TreeFor hs ps rs cs ns) (ask_meets i) p xs xs
    meets-room h = list-room (TreeFor hs ps rs cs ns) (length hs) (λ r f. f.columns-are.size) (ask_meets i) i (λ r. refl) p xs a n v h

    pub meets-answer : (ys : List ℕ) → room_for xs p n ≡ accepted → ((r : Register) → TreeFor hs ps rs cs ns r → ys ≡ written_at p (meets_list r i) xs) →
        RepliesAt (TreeFor hs ps rs cs ns) (ask_meets i) p xs (record { number = 0; value = n }) × Leaves (TreeFor hs ps rs cs ns) (ask_meets i) p xs ys
    meets-answer ys h w =
        list-answer (TreeFor hs ps rs cs ns) (length hs) (λ r f. f.columns-are.size) (ask_meets i) i (λ r. refl) p xs a n v n ys h (λ r. refl) v w
