-- The next line of an input that is read in pieces, with bytes that wait to be written. What the reads gave and what the writes were handed is `Passed` of crates/streams;
-- which lines a text has is `lines_of` of crates/listing_lines. Laws: proofs/Taking.antt. Assumes nothing: these are definitions.
use Rattle.std.specs.Prelude.{◌≡◌, Option, Some, None, IfSome, List, [], ◌∷◌, ◌++◌, ℕ, ◌+◌, ◌-◌, ◌*◌, ◌≤◌, ◌<◌, length, take, drop}
use Rattle.lists.specs.Lists.{one}
use Rattle.std.specs.Option.{is_some}
use Rattle.listing_lines.specs.Lines.{lines_of}
use Rattle.streams.specs.Passing.{Finished, reads_left, Issued}
use Rattle.streams.specs.declared.Streams.{Streams}
use Rattle.streams.specs.declared.Reading.{Reading}
use Rattle.listing_input.specs.declared.Input.{Input}

-- the bytes of a piece that are read and not taken
abbrev pub left_of : (piece : List ℕ) → Input → List ℕ
left_of p x = drop x.place (take x.count p)

-- bytes that the reads to come may give: none where no read gives any more
abbrev pub CanCome : Streams → (bytes : List ℕ) → Type 0
CanCome s bs = Finished s → bs ≡ []

-- the front of a list holds a line, cut at 2,000 bytes
abbrev pub Holds : (list : List ℕ) → (filled : ℕ) → (line : List ℕ) → Type 0
Holds xs n h = take n xs ≡ take 2000 h

-- a number that falls with each byte taken: no more bytes can come
abbrev pub ahead : Streams → (place count : ℕ) → ℕ
ahead s a n = reads_left s * 4097 + (n - a)

-- what waited is written, then the next piece is read
pub record PieceRead (s : Streams) (out : List ℕ) (waiting : ℕ) (piece : List ℕ) (r : Reading) : Type 0 where
  pub within : r.count ≤ length piece
  pub issued : (i o : List ℕ) → Issued s out waiting i o → Issued r.streams out 0 (i ++ take r.count piece) o
  pub none : 1 ≤ length piece → r.count ≡ 0 → Finished r.streams
  pub later : Finished s → (r.count ≡ 0) × Finished r.streams
  pub most : reads_left r.streams ≤ reads_left s
  pub less : 1 ≤ r.count → reads_left r.streams < reads_left s

-- between two lines, when some bytes were added to those that wait
pub record Between (piece line out : List ℕ) (x : Input) (added : ℕ) : Type 0 where
  pub within : x.place ≤ x.count
  pub fits : x.count ≤ length piece
  pub waits : x.waiting + added ≤ length out
  pub room : 91520 ≤ length out
  pub piece-long : length piece ≡ 4096
  pub line-long : length line ≡ 2000

-- the line found, if there is one
abbrev pub line_found : Option ℕ → (bytes : List ℕ) → List (List ℕ)
line_found None bs = []
line_found (Some n) bs = bs ∷ []

-- THE PROMISE: of all lines of what is left and what comes, the line found is the first, whatever the reads to come give; where none is found, there is none, no read gives
-- any more, and no byte waits
pub record NextLine (piece₀ out : List ℕ) (x₀ : Input) (added : ℕ) (piece line : List ℕ) (x : Input) : Type 0 where
  pub got : List ℕ
  pub bytes : List ℕ
  pub issued : (i o : List ℕ) → Issued x₀.streams out (x₀.waiting + added) i o → Issued x.streams out x.waiting (i ++ got) o
  pub first : (more : List ℕ) → CanCome x.streams more → lines_of (left_of piece₀ x₀ ++ (got ++ more)) ≡ line_found x.line bytes ++ lines_of (left_of piece x ++ more)
  pub held : IfSome x.line (λ n. Holds line n bytes)
  pub none : x.line ≡ None → Finished x.streams × ((x.waiting ≡ 0) × (left_of piece x ≡ []))
  pub later : (more : List ℕ) → CanCome x.streams more → CanCome x₀.streams (got ++ more)
  pub within : x.place ≤ x.count
  pub fits : x.count ≤ length piece
  pub cut : IfSome x.line (λ n. n ≤ 2000)
  pub room : x.waiting + 91520 ≤ length out
  pub less : ahead x.streams x.place x.count + one (is_some x.line) ≤ ahead x₀.streams x₀.place x₀.count
