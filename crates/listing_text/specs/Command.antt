-- What a line of the listing program's input means: its words, the numbers among them, the command that they make, and the rows of an add
-- line. A line is a list of bytes without its newline: 32 is the space, 48 to 57 are the digits. Then what the parser's functions ask and
-- promise. Laws: proofs/Words.antt, Numbers.antt (a word), Reading.antt (a line's numbers), Commands.antt; instances: Cases.antt. Assumes
-- nothing: these are definitions.
use Rattle.std.specs.Prelude.{◌≡◌, Bool, true, ◌&&◌, Option, Some, None, List, [], ◌∷◌, map, ℕ, ◌+◌, ◌*◌, ◌-◌, ◌^◌, ◌≤◌, ◌<◌, ltb, leb, eqb, length, get_or, drop}
use Rattle.lists.specs.Lists.{pick, is_in, all, same, over}
use Rattle.listing_text.specs.declared.command.Command.{Command}
use Rattle.listing_text.specs.declared.command.Command.TheVariants.{Open, Add, Drop, Show, Unknown}

-- ---- words

-- the bytes before the first space
unfoldable pub first_word : List ℕ → List ℕ
first_word [] = []
first_word (b ∷ bs) = pick (eqb b 32) [] (b ∷ first_word bs)

-- the other words: one after each space
unfoldable pub later_words : List ℕ → List (List ℕ)
later_words [] = []
later_words (b ∷ bs) = pick (eqb b 32) (first_word bs ∷ later_words bs) (later_words bs)

-- ---- numbers: a digit or more, and a value below 2^32

-- a byte is a digit
abbrev pub is_digit : ℕ → Bool
is_digit b = is_in 48 57 b

-- a value, with the digits that follow it
unfoldable pub value_after : ℕ → List ℕ → ℕ
value_after v [] = v
value_after v (d ∷ ds) = value_after (10 * v + (d - 48)) ds

-- the value of a word of digits, decimal
abbrev pub value_of : List ℕ → ℕ
value_of w = value_after 0 w

-- "A number is one digit or more"; "a number not below 2^32 gets 19"
unfoldable pub is_number : List ℕ → Bool
is_number w = ltb 0 (length w) && (all is_digit w && ltb (value_of w) (2 ^ 32))

-- the value of a word that is a number
unfoldable pub number_of : List ℕ → Option ℕ
number_of w = pick (is_number w) (Some (value_of w)) None

-- the values of the words after the first, if each is a number; otherwise none
unfoldable pub numbers_of : (line : List ℕ) → List ℕ
numbers_of line = pick (all is_number (later_words line)) (map value_of (later_words line)) []

-- ---- commands

-- open m n F C
unfoldable pub open_of : (numbers : List ℕ) → Command
open_of ns = pick (eqb (length ns) 4) (Open (get_or ns 0 0) (get_or ns 1 0) (get_or ns 2 0) (get_or ns 3 0)) Unknown

-- add id rows
unfoldable pub add_of : (numbers : List ℕ) → Command
add_of ns = pick (leb 2 (length ns)) (Add (get_or ns 0 0) (length ns - 1)) Unknown

-- the rows of an add line: its numbers but the id
unfoldable pub added_rows : (numbers : List ℕ) → List ℕ
added_rows ns = pick (leb 2 (length ns)) (drop 1 ns) []

-- drop id
unfoldable pub drop_of : (numbers : List ℕ) → Command
drop_of ns = pick (eqb (length ns) 1) (Drop (get_or ns 0 0)) Unknown

-- show, alone
unfoldable pub show_of : (later : List (List ℕ)) → Command
show_of ws = pick (eqb (length ws) 0) Show Unknown

-- `open`, in bytes
abbrev pub open_word : List ℕ
open_word = 111 ∷ 112 ∷ 101 ∷ 110 ∷ []

-- `add`, in bytes
abbrev pub add_word : List ℕ
add_word = 97 ∷ 100 ∷ 100 ∷ []

-- `drop`, in bytes
abbrev pub drop_word : List ℕ
drop_word = 100 ∷ 114 ∷ 111 ∷ 112 ∷ []

-- `show`, in bytes
abbrev pub show_word : List ℕ
show_word = 115 ∷ 104 ∷ 111 ∷ 119 ∷ []

-- a line of at most 1,999 bytes, by its first word; a longer one is no command
unfoldable pub command_of : (line : List ℕ) → Command
command_of line =
    pick (ltb 1999 (length line)) Unknown
    (pick (same (first_word line) open_word) (open_of (numbers_of line))
    (pick (same (first_word line) add_word) (add_of (numbers_of line))
    (pick (same (first_word line) drop_word) (drop_of (numbers_of line)) (pick (same (first_word line) show_word) (show_of (later_words line)) Unknown))))

-- the rows of an add line; none of any other
unfoldable pub rows_of : (line : List ℕ) → List ℕ
rows_of line = pick (leb (length line) 1999 && same (first_word line) add_word) (added_rows (numbers_of line)) []

-- ---- what the parser's functions ask and promise

-- a place of a line at which a word ends: a space, or the line's end
pub record EndsWord (line : List ℕ) (at : ℕ) : Type 0 where
  pub within : at ≤ length line
  pub space : at < length line → get_or line at 0 ≡ 32

-- only numbers follow a word's end, and no more than there is room for
pub record Numbers (line : List ℕ) (at room : ℕ) : Type 0 where
  pub ends : EndsWord line at
  pub good : all is_number (later_words (drop at line)) ≡ true
  pub fits : length (later_words (drop at line)) ≤ room

-- room for as many rows as a line can have: each takes a space and a digit
pub record AddRoom (line : List ℕ) (at room : ℕ) : Type 0 where
  pub ends : EndsWord line at
  pub short : length line ≤ 1999
  pub enough : 1000 ≤ room

-- an add line's numbers: the command, and the list with the rows over its front
pub record Added (numbers rows₀ rows : List ℕ) (r : Command) : Type 0 where
  pub command : r ≡ add_of numbers
  pub rows_are : rows ≡ over (added_rows numbers) rows₀

-- THE PARSER'S PROMISE: the command, and the list with the rows over its front
pub record Parsed (line rows₀ rows : List ℕ) (r : Command) : Type 0 where
  pub command : r ≡ command_of line
  pub rows_are : rows ≡ over (rows_of line) rows₀
