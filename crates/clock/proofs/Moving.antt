-- A clock change of a register that a sound book and its windows hold is an exchange of the book's columns: those that count at both minutes stay, those at the first
-- alone leave, those at the second alone enter. The factors before and after it, and its report (`book-moves`). Assumes nothing.
use mathlib.Core.Path.{◌≡◌, refl, ap, ◌∙◌}
use mathlib.Core.Bool.{Bool, true, ◌||◌}
use mathlib.Core.List.{List, [], ◌∷◌, ◌++◌}
use Prim.Native.Nat.{ℕ}
use lib.ListN.{length, replicate}
use Rattle.symbolic.specs.Columns.{Column, with_rows, Register, live}
use Rattle.symbolic.specs.Factor.{FactorColumn, factor_of, factor_for}
use Rattle.symbolic.specs.Batch.{is_touched, is_exchanged, exchanged, entries_of}
use Rattle.symbolic.specs.Change.{clocked}
use Rattle.symbolic.proofs.Live.{live-is}
use Rattle.symbolic.proofs.Passing.{passing-same}
use Rattle.symbolic.proofs.Theorems.{order-free, rowless-factor, rowless-touch}
use Rattle.book.specs.Book.{Book, book_of, tables_of, is_sound}
use Rattle.windows.specs.Windows.{counts_at, moves_from, stays_between}
use Rattle.windows.specs.Chosen.{chosen}
use Rattle.windows.specs.Windowed.{lines_in, register_in}
use Rattle.windows.proofs.Chosen.{chosen-splits}
use Rattle.windows.proofs.Counted.{counted-at, counted-moving, counted-staying}
use Rattle.calls.specs.Calls.Change.{setting}
use Rattle.calls.specs.Changes.{effect, touched_by, labelled, labels_by, entries_by}
use Rattle.exchange.specs.Exchange.{staying, leaving, entering}
use Rattle.exchange.proofs.Choosing.{chosen-free, count-after}

-- the clock change of a register as an exchange: A leave, B enter, R stay
pub record Moves (r : Register) (minute m : ℕ) (R A B : List Column) : Type 0 where
  pub before : factor_for r ≡ factor_of m (R ++ A)
  pub after : factor_for (clocked r minute) ≡ factor_of m (R ++ B)
  pub stay : factor_of m (effect r (setting minute)).stay ≡ factor_of m R
  pub touched : touched_by r (setting minute) ≡ exchanged (factor_of m (R ++ A)) (factor_of m (R ++ B)) A B
  pub labels : labels_by r (setting minute) ≡ replicate (length (exchanged (factor_of m (R ++ A)) (factor_of m (R ++ B)) A B)) 0
  pub entries : entries_by r (setting minute) ≡ entries_of (factor_of m (R ++ A)) (factor_of m (R ++ B)) (exchanged (factor_of m (R ++ A)) (factor_of m (R ++ B)) A B)

-- every label is 0
labelled-zero : (js : List ℕ) → labelled (λ j. 0) js ≡ replicate (length js) 0
unfolding labelled
labelled-zero [] = refl
labelled-zero (j ∷ js) = ap (λ (ls : List ℕ). 0 ∷ ls) (labelled-zero js)

-- columns with no row touch nothing
touched-same : (fs : List FactorColumn) (cs : List Column) {ds : List Column} → with_rows cs ≡ ds → (j : ℕ) → is_touched fs cs j ≡ is_touched fs ds j
touched-same fs cs e j = rowless-touch fs cs j ∙ ap (λ (es : List Column). is_touched fs es j) e

exchanged_same : (fs gs : List FactorColumn) (leave enter : List Column) {A B : List Column} → with_rows leave ≡ A → with_rows enter ≡ B →
    exchanged fs gs leave enter ≡ exchanged fs gs A B
exchanged_same fs gs leave enter {A} {B} p q =
    passing-same (is_exchanged fs gs leave enter) (is_exchanged fs gs A B)
    (λ j. ap (λ (z : Bool). z || is_touched gs enter j) (touched-same fs leave p j) ∙ ap (λ (z : Bool). is_touched fs A j || z) (touched-same gs enter q j)) 1 (length gs)

module _ (m : ℕ) (hs rs ns : List ℕ) (free : ℕ) (w : List ℕ) (sound : is_sound m (book_of hs rs ns free) ≡ true) where
  abbrev booked : Book
  booked = book_of hs rs ns free

  -- but for columns with no row, those that count are those of the ids that count
  live-chosen : (t : ℕ) → with_rows (live (register_in m t (book_of hs rs ns free) w)) ≡ chosen (tables_of hs rs ns) (counts_at w (length hs) t)
  live-chosen t =
      ap with_rows (live-is (register_in m t booked w) (lines_in booked w)) ∙ counted-at m booked w sound t ∙
      chosen-free (tables_of hs rs ns) (counts_at w (length hs) t) free

  pub live-factor : (t : ℕ) → factor_for (register_in m t (book_of hs rs ns free) w) ≡ factor_of m (chosen (tables_of hs rs ns) (counts_at w (length hs) t))
  live-factor t = rowless-factor m (live (register_in m t booked w)) ∙ ap (factor_of m) (live-chosen t)

  module _ (o t : ℕ) where
    abbrev r : Register
    r = register_in m o booked w

    abbrev R : List Column
    R = staying (tables_of hs rs ns) w o t

    abbrev A : List Column
    A = leaving (tables_of hs rs ns) w o t

    abbrev B : List Column
    B = entering (tables_of hs rs ns) w o t

    -- the factors before and after
    factor-before : factor_for (register_in m o (book_of hs rs ns free) w) ≡ factor_of m (staying (tables_of hs rs ns) w o t ++ leaving (tables_of hs rs ns) w o t)
    factor-before =
        live-factor o ∙ order-free m (chosen (tables_of hs rs ns) (counts_at w (length hs) o)) (R ++ A)
        (chosen-splits (tables_of hs rs ns) (counts_at w (length hs) o) (counts_at w (length hs) t))

    factor-after : factor_for (register_in m t (book_of hs rs ns free) w) ≡ factor_of m (staying (tables_of hs rs ns) w o t ++ entering (tables_of hs rs ns) w o t)
    factor-after = live-factor t ∙ order-free m (chosen (tables_of hs rs ns) (counts_at w (length hs) t)) (R ++ B) (count-after (tables_of hs rs ns) w o t)

    touched-is : touched_by (register_in m o (book_of hs rs ns free) w) (setting t) ≡
        exchanged (factor_of m (staying (tables_of hs rs ns) w o t ++ leaving (tables_of hs rs ns) w o t)) (factor_of m (staying (tables_of hs rs ns) w o t ++ entering (tables_of hs rs ns) w o t))
        (leaving (tables_of hs rs ns) w o t) (entering (tables_of hs rs ns) w o t)
    touched-is =
        exchanged_same (factor_for r) (factor_for (clocked r t)) (effect r (setting t)).leave (effect r (setting t)).enter
        (counted-moving m booked w sound o t ∙ chosen-free (tables_of hs rs ns) (moves_from w (length hs) o t) free)
        (counted-moving m booked w sound t o ∙ chosen-free (tables_of hs rs ns) (moves_from w (length hs) t o) free) ∙
        ap (λ (fs : List FactorColumn). exchanged fs (factor_for (clocked r t)) A B) factor-before ∙ ap (λ (gs : List FactorColumn). exchanged (factor_of m (R ++ A)) gs A B) factor-after

    pub book-moves : Moves (register_in m o (book_of hs rs ns free) w) t m (staying (tables_of hs rs ns) w o t) (leaving (tables_of hs rs ns) w o t) (entering (tables_of hs rs ns) w o t)
    book-moves =
        let js : List ℕ = exchanged (factor_of m (R ++ A)) (factor_of m (R ++ B)) A B in
        record {
          before = factor-before;
          after = factor-after;
          stay = rowless-factor m (effect r (setting t)).stay ∙
              ap (factor_of m) (counted-staying m booked w sound o t ∙ chosen-free (tables_of hs rs ns) (stays_between w (length hs) o t) free);
          touched = touched-is;
          labels = labelled-zero (touched_by r (setting t)) ∙ ap (λ (is : List ℕ). replicate (length is) 0) touched-is;
          entries = ap (λ (is : List ℕ). entries_of (factor_for r) (factor_for (clocked r t)) is) touched-is ∙
              ap (λ (fs : List FactorColumn). entries_of fs (factor_for (clocked r t)) js) factor-before ∙ ap (λ (gs : List FactorColumn). entries_of (factor_of m (R ++ A)) gs js) factor-after;
        }
