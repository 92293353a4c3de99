-- A question's reply by the tests that the code makes: a row inside (`row_in`), 18 for too little room (`room_out`, `room_in`), and what a refused or an accepted
-- question replies and leaves of its list. Assumes nothing.
use mathlib.Core.Path.{◌≡◌, refl, sym, ap, ◌∙◌}
use mathlib.Core.Bool.{Bool, true, false, not, false≢true}
use mathlib.Core.List.{List, [], ◌++◌, append-nil}
use Prim.Native.Nat.{ℕ, ◌+◌, ◌-◌, ◌≤◌}
use native.Mathlib.Omega.{arith}
use lib.Dec.{leb, eqb}
use lib.ListN.{length, take, drop}
use lib.Seq.{drop-drop, drop-length}
use borrow.Author.Tests.{leb-true}
use borrow.Author.Rules.{part_to_end}
use borrow.Rule.Slice.PartMut.{put_mid}
use Rattle.lists.specs.Lists.{is_in, over, written_at}
use Rattle.lists.proofs.Tests.{in-range}
use Rattle.symbolic.specs.Columns.{Register}
use Rattle.calls.specs.Refusals.{refusal, accepted, is_accepted, unless, row_refusal, room_for}
use Rattle.calls.specs.Calls.{Question}
use Rattle.calls.specs.Questions.{response}
use Rattle.calls.specs.Numbers.{ask_refusal}
use Rattle.question_refusals.specs.Room.{NoRoom}
use Rattle.questions.specs.Asked.{reply_of, answered_by, replied_to, list_left}

-- ---- one test

test-out : (z : Bool) (n : ℕ) {x : Bool} → eqb n 0 ≡ false → x ≡ not (is_accepted (unless z n 0)) → x ≡ true → unless z n 0 ≡ refusal n 0
test-out true n q e h = absurd (false≢true (sym e ∙ h))
test-out false n q e h = refl

test_in : (z : Bool) (n : ℕ) {x : Bool} → eqb n 0 ≡ false → x ≡ not (is_accepted (unless z n 0)) → x ≡ false → z ≡ true
test_in true n q e h = refl
test_in false n q e h = sym h ∙ e ∙ ap not q

-- ---- 17

module _ (m i : ℕ) {x : Bool} (e : x ≡ not (is_accepted (row_refusal m i))) where
  pub row_in : x ≡ false → (row_refusal m i ≡ accepted) × (1 ≤ i) × (i ≤ m)
  row_in h = let z : is_in 1 m i ≡ true = test_in (is_in 1 m i) 17 refl e h in (ap (λ (b : Bool). unless b 17 0) z, (in-range 1 m i z).0, (in-range 1 m i z).1)

-- ---- 18

module _ (xs : List ℕ) (p n : ℕ) {x : Bool} (e : NoRoom (length xs) p n x) where
  pub room_out : x ≡ true → room_for xs p n ≡ refusal 18 0
  room_out h = test-out (leb (p + n) (length xs)) 18 refl (e xs refl) h

  pub room_in : x ≡ false → (room_for xs p n ≡ accepted) × (p + n ≤ length xs)
  room_in h =
      let z : leb (p + n) (length xs) ≡ true = test_in (leb (p + n) (length xs)) 18 refl (e xs refl) h in
      (ap (λ (b : Bool). unless b 18 0) z, leb-true (p + n) (length xs) z)

-- ---- the reply and the list

module _ (r : Register) (k : Question) (p : ℕ) (xs : List ℕ) where
  module _ (n : ℕ) (q : eqb n 0 ≡ false) (e : ask_refusal r k p xs ≡ refusal n 0) where
    pub refused-reply : reply_of (record { number = n; value = 0 }) ≡ replied_to r k p xs
    refused-reply = rw (e, q) refl

    pub refused-list : xs ≡ list_left r k p xs
    refused-list = rw (e, q) refl

  module _ (e : ask_refusal r k p xs ≡ accepted) where
    pub accepted-answer : answered_by (response r k) ≡ replied_to r k p xs
    accepted-answer = rw e refl

    pub accepted-list : {ys : List ℕ} → ys ≡ written_at p (response r k).list xs → ys ≡ list_left r k p xs
    accepted-list a = rw e a

-- ---- a part of the list, from place p on, written from its front

pub part-written : (xs ys new : List ℕ) (p : ℕ) → p + length new ≤ length xs → ys ≡ over new (take (length xs - p) (drop p xs)) →
    put_mid p (length xs - p) xs ys ≡ written_at p new xs
part-written xs ys new p h e =
    let rest : drop (length xs - p) (drop p xs) ≡ [] =
    drop-drop (length xs - p) p xs ∙ ap (λ (n : ℕ). drop n xs) (whole (length xs) (omega arith)) ∙ drop-length xs in
    let new_is : ys ≡ new ++ drop (p + length new) xs =
    e ∙ ap (λ (l : List ℕ). over new l) (part_to_end xs p) ∙ ap (λ (l : List ℕ). new ++ l) (drop-drop (length new) p xs) in
    ap (λ (l : List ℕ). take p xs ++ (ys ++ l)) rest ∙ ap (λ (l : List ℕ). take p xs ++ l) (append-nil ys ∙ new_is)
  where
    whole : (n : ℕ) → p ≤ n → p + (n - p) ≡ n
    whole n l = omega arith
