-- What the listing program prints: numbers in decimal, the two answers and the lines of a shown factor, as bytes with the final newline
-- (10); then what the printer's functions ask and promise. Laws: proofs/Decimal.antt, proofs/Printing.antt. Assumes nothing: these are
-- definitions.
use Rattle.std.specs.Prelude.{◌≡◌, List, [], ◌∷◌, ◌++◌, ℕ, zero, suc, ◌+◌, ◌/◌, ◌%◌, ◌≤◌, ltb, length}
use Rattle.lists.specs.Lists.{pick, written_at}

-- ---- numbers

-- the digits of a number, if they are at most so many
unfoldable pub digits : (most n : ℕ) → List ℕ
digits zero n = []
digits (suc k) n = pick (ltb n 10) ((48 + n) ∷ []) (digits k (n / 10) ++ ((48 + n % 10) ∷ []))

-- no leading zero, and 0 as one digit; n has at most n + 1 digits
unfoldable pub decimal : ℕ → List ℕ
decimal n = digits (suc n) n

-- ---- lines

-- the byte that ends a line
abbrev pub newline : List ℕ
newline = 10 ∷ []

-- a byte, then a number
abbrev pub marked_number : (mark n : ℕ) → List ℕ
marked_number b n = b ∷ decimal n

-- ok touched entries grade
unfoldable pub ok_line : (touched entries grade : ℕ) → List ℕ
ok_line t e g = (111 ∷ 107 ∷ []) ++ marked_number 32 t ++ marked_number 32 e ++ marked_number 32 g ++ newline

-- no number position
unfoldable pub no_line : (refusal position : ℕ) → List ℕ
no_line n p = (110 ∷ 111 ∷ []) ++ marked_number 32 n ++ marked_number 32 p ++ newline

-- column parent
unfoldable pub show_head : (column parent : ℕ) → List ℕ
show_head j p = decimal j ++ marked_number 32 p

-- a space, then row:multiplicity
unfoldable pub show_pair : (row multiplicity : ℕ) → List ℕ
show_pair i n = marked_number 32 i ++ marked_number 58 n

-- the pairs of a list of row, multiplicity, row, multiplicity and so on
unfoldable pub show_pairs : (entries : List ℕ) → List ℕ
show_pairs [] = []
show_pairs (i ∷ []) = []
show_pairs (i ∷ n ∷ es) = show_pair i n ++ show_pairs es

-- column parent, then the pairs
unfoldable pub show_line : (column parent : ℕ) → (entries : List ℕ) → List ℕ
show_line j p es = show_head j p ++ show_pairs es ++ newline

-- ---- what the printer's functions ask and promise

-- room for bytes from a place on
pub record Room (out : List ℕ) (at : ℕ) (bytes : List ℕ) : Type 0 where
  pub room : at + length bytes ≤ length out

-- the bytes are written, and the result is the place after them
pub record Written (out₀ : List ℕ) (at : ℕ) (bytes out : List ℕ) (next : ℕ) : Type 0 where
  pub out-is : out ≡ written_at at bytes out₀
  pub next-is : next ≡ at + length bytes
