-- The rows of an add line: as many as its command says (`rows-counted`), at the front of the list after parsing (`rows-listed`). Assumes nothing.
use mathlib.Core.Path.{◌≡◌, refl, sym, ap, ◌∙◌}
use mathlib.Core.Logic.{inl, inr}
use mathlib.Core.Bool.{Bool, true, false, false≢true}
use mathlib.Core.List.{List}
use Prim.Native.Nat.{ℕ, ◌≤◌}
use native.Mathlib.Omega.{arith}
use lib.Dec.{ltb, leb, eqb}
use lib.ListN.{length, take, drop, length-drop, length-append}
use lib.Seq.{take_at}
use borrow.Author.Tests.{ltb-false, le-leb}
use Rattle.lists.specs.Lists.{pick, same, over}
use Rattle.lists.proofs.Tests.{cases}
use Rattle.listing_text.specs.Command.{first_word, later_words, numbers_of, open_of, add_of, added_rows, drop_of, show_of, open_word, add_word, drop_word, show_word, command_of, rows_of}
use Rattle.listing_text.specs.declared.command.Command.{Command}
use Rattle.listing_text.specs.declared.command.Command.TheVariants.{Open, Add, Drop, Show, Unknown}

-- whether a command is an addition, and of how many rows
abbrev is_add : Command → Bool
is_add (Open m n f c) = false
is_add (Add i n) = true
is_add (Drop i) = false
is_add Show = false
is_add Unknown = false

abbrev rows_said : Command → ℕ
rows_said (Open m n f c) = 0
rows_said (Add i n) = n
rows_said (Drop i) = 0
rows_said Show = 0
rows_said Unknown = 0

open-other : (ns : List ℕ) → is_add (open_of ns) ≡ false
unfolding open_of
open-other ns = elim (cases (eqb (length ns) 4)) [ inl e ↦ rw e refl | inr e ↦ rw e refl ]

drop-other : (ns : List ℕ) → is_add (drop_of ns) ≡ false
unfolding drop_of
drop-other ns = elim (cases (eqb (length ns) 1)) [ inl e ↦ rw e refl | inr e ↦ rw e refl ]

show-other : (ws : List (List ℕ)) → is_add (show_of ws) ≡ false
unfolding show_of
show-other ws = elim (cases (eqb (length ws) 0)) [ inl e ↦ rw e refl | inr e ↦ rw e refl ]

add-said : (ns : List ℕ) → is_add (add_of ns) ≡ true → length (added_rows ns) ≡ rows_said (add_of ns)
unfolding add_of added_rows
add-said ns h =
    elim (cases (leb 2 (length ns))) [ inl e ↦ rw e (length-drop 1 ns) | inr e ↦ absurd (false≢true (rw e at h)) ]

last-other : (line : List ℕ) → is_add (pick (same (first_word line) show_word) (show_of (later_words line)) Unknown) ≡ false
last-other line =
    elim (cases (same (first_word line) show_word)) [ inl e ↦ rw e (show-other (later_words line)) | inr e ↦ rw e refl ]

later-other : (line : List ℕ) →
    is_add (pick (same (first_word line) drop_word) (drop_of (numbers_of line)) (pick (same (first_word line) show_word) (show_of (later_words line)) Unknown)) ≡ false
later-other line =
    elim (cases (same (first_word line) drop_word)) [ inl e ↦ rw e (drop-other (numbers_of line)) | inr e ↦ rw e (last-other line) ]

counted : (line : List ℕ) → is_add (command_of line) ≡ true → length (rows_of line) ≡ rows_said (command_of line)
unfolding command_of rows_of
counted line h =
    elim (cases (ltb 1999 (length line))) [
      | inl e ↦ absurd (false≢true (rw e at h))
      | inr e ↦ rw (e, le-leb (length line) 1999 (ltb-false 1999 (length line) e)) (elim (cases (same (first_word line) open_word)) [
        | inl f ↦ absurd (false≢true (sym (open-other (numbers_of line)) ∙ (rw (e, f) at h)))
        | inr f ↦ elim (cases (same (first_word line) add_word)) [
          | inl g ↦ rw (f, g) (add-said (numbers_of line) (rw (e, f, g) at h))
          | inr g ↦ absurd (false≢true (sym (later-other line) ∙ (rw (e, f, g) at h)))
        ]
      ])
    ]

pub rows-counted : (line : List ℕ) (i n : ℕ) → command_of line ≡ Add i n → length (rows_of line) ≡ n
rows-counted line i n e = counted line (ap is_add e) ∙ ap rows_said e

-- the list has places for them, and they stand at its front
module _ (line old list : List ℕ) (i n : ℕ) (e : command_of line ≡ Add i n) (f : list ≡ over (rows_of line) old) where
  pub rows_fit : n ≤ length list
  rows_fit = omega (arith, rows-counted line i n e, ap length f, length-append (rows_of line) (drop (length (rows_of line)) old))

  pub rows-listed : take n list ≡ rows_of line
  rows-listed = ap (λ (l : List ℕ). take n l) f ∙ take_at (rows_of line) (drop (length (rows_of line)) old) n (rows-counted line i n e)
