-- The listing program as a whole: lines answered in turn, by bytes in order. What the reads gave and what the writes were handed is `Passed` of crates/streams, which lines
-- a text has `lines_of` of crates/listing_lines. Laws: proofs/Running.antt. Assumes nothing: these are definitions.
use Rattle.std.specs.Prelude.{◌≡◌, List, [], ◌∷◌, ◌++◌, ℕ}
use Rattle.listing_lines.specs.Lines.{lines_of}
use Rattle.listing_show.specs.Showing.{no_state}
use Rattle.listing_memory.specs.Memory.{Memory, Lengths}
use Rattle.listing_answers.specs.Listing.{Answered}
use Rattle.streams.specs.Passing.{Passed, Finished}
use Rattle.streams.specs.declared.Streams.{Streams}

-- lines answered one after another, each in the memory that the line before it left, by these bytes in order
unfoldable pub AnsweredInTurn : List (List ℕ) → Memory → (bytes : List ℕ) → Memory → Type 0
AnsweredInTurn [] u bs v = (bs ≡ []) × (u ≡ v)
AnsweredInTurn (l ∷ ls) u bs v =
    (w : Memory) × ((first : List ℕ) × ((rest : List ℕ) × ((bs ≡ first ++ rest) × (Answered u l first w × AnsweredInTurn ls w rest v))))

-- no read gives any more; all lines that the reads gave are answered in turn, and the writes were handed the answers
pub record AllAnswered (u : Memory) (r : Streams) : Type 0 where
  pub text : List ℕ
  pub bytes : List ℕ
  pub last : Memory
  pub finished : Finished r
  pub passed : Passed r text bytes
  pub answered : AnsweredInTurn (lines_of text) u bytes last

-- THE PROMISE OF THE PROGRAM: so it is from a memory in which no factor is open, with the tables of document 01
pub record Listed (r : Streams) : Type 0 where
  pub first : Memory
  pub lengths : Lengths first
  pub closed : first.world.state ≡ no_state
  pub all : AllAnswered first r
