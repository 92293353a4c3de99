-- Document 01's example by the definitions: two of its lines as commands, a refused line of each kind that is easy to get wrong, and the
-- lines that it prints. Two statements, by computation. Assumes nothing.
use mathlib.Core.Path.{◌≡◌, refl}
use mathlib.Core.List.{List, [], ◌∷◌}
use Prim.Native.Nat.{ℕ}
use Rattle.lists.specs.Lists.{all, same}
use Rattle.listing_text.specs.declared.command.Command.TheVariants.{Open, Add, Drop, Unknown}
use Rattle.listing_text.specs.Command.{first_word, later_words, value_after, is_number, numbers_of, open_of, add_of, added_rows, drop_of, command_of, rows_of}
use Rattle.listing_text.specs.Text.{digits, decimal, ok_line, no_line, show_head, show_pair, show_pairs, show_line}

-- open 5 8 9 16
open_line : List ℕ
open_line = 111 ∷ 112 ∷ 101 ∷ 110 ∷ 32 ∷ 53 ∷ 32 ∷ 56 ∷ 32 ∷ 57 ∷ 32 ∷ 49 ∷ 54 ∷ []

-- add 1 1 3
add_line : List ℕ
add_line = 97 ∷ 100 ∷ 100 ∷ 32 ∷ 49 ∷ 32 ∷ 49 ∷ 32 ∷ 51 ∷ []

-- add 5
no_row : List ℕ
no_row = 97 ∷ 100 ∷ 100 ∷ 32 ∷ 53 ∷ []

-- drop 4294967295, drop 4294967296, drop 7 with a space after it
last_number : List ℕ
last_number = 100 ∷ 114 ∷ 111 ∷ 112 ∷ 32 ∷ 52 ∷ 50 ∷ 57 ∷ 52 ∷ 57 ∷ 54 ∷ 55 ∷ 50 ∷ 57 ∷ 53 ∷ []

no_number : List ℕ
no_number = 100 ∷ 114 ∷ 111 ∷ 112 ∷ 32 ∷ 52 ∷ 50 ∷ 57 ∷ 52 ∷ 57 ∷ 54 ∷ 55 ∷ 50 ∷ 57 ∷ 54 ∷ []

space_after : List ℕ
space_after = 100 ∷ 114 ∷ 111 ∷ 112 ∷ 32 ∷ 55 ∷ 32 ∷ []

read :
    (command_of open_line ≡ Open 5 8 9 16) × (rows_of open_line ≡ [])
    × (command_of add_line ≡ Add 1 2) × (rows_of add_line ≡ 1 ∷ 3 ∷ [])
    × (command_of no_row ≡ Unknown) × (command_of last_number ≡ Drop 4294967295) × (command_of no_number ≡ Unknown)
    × (command_of space_after ≡ Unknown) × (command_of [] ≡ Unknown)
unfolding open_line add_line no_row last_number no_number space_after first_word later_words value_after is_number numbers_of open_of add_of added_rows drop_of command_of rows_of all same
read = (refl, refl, refl, refl, refl, refl, refl, refl, refl)

-- ok 2 3 1; no 19 0; 1 3 1:3 3:1 4:1
printed :
    (ok_line 2 3 1 ≡ 111 ∷ 107 ∷ 32 ∷ 50 ∷ 32 ∷ 51 ∷ 32 ∷ 49 ∷ 10 ∷ []) × (no_line 19 0 ≡ 110 ∷ 111 ∷ 32 ∷ 49 ∷ 57 ∷ 32 ∷ 48 ∷ 10 ∷ [])
    × (show_line 1 3 (1 ∷ 3 ∷ 3 ∷ 1 ∷ 4 ∷ 1 ∷ []) ≡ 49 ∷ 32 ∷ 51 ∷ 32 ∷ 49 ∷ 58 ∷ 51 ∷ 32 ∷ 51 ∷ 58 ∷ 49 ∷ 32 ∷ 52 ∷ 58 ∷ 49 ∷ 10 ∷ [])
unfolding digits decimal ok_line no_line show_head show_pair show_pairs show_line
printed = (refl, refl, refl)
