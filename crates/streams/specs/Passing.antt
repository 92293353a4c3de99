-- What went through standard input and output, as far as a contract can hold it: a record of counts that only `read` and `write` of this crate raise. The crates
-- above never open `Passed`: they know it by the promises of the functions here. Laws: proofs/Passing.antt. Assumes nothing: these are definitions.
use Rattle.std.specs.Prelude.{◌≡◌, ◌≢◌, ℕ, ◌+◌, ◌-◌, ◌*◌, ◌<◌, ◌≤◌, true, false, ◌⊎◌, List, [], ◌++◌, length, take}
use Rattle.streams.specs.declared.Source.TheVariants.{Open}
use Rattle.streams.specs.declared.Streams.{Streams}
use Rattle.streams.specs.declared.Reading.{Reading}
use Rattle.streams.specs.declared.Waiting.{Waiting}

-- a count modulo 2^64
abbrev pub CountOf : (count n : ℕ) → Type 0
CountOf c n = (k : ℕ) × (c + k * 18446744073709551616 ≡ n)

-- WHAT WENT THROUGH, by number: the reads gave the input, and the writes were handed the output, or its front up to a write that failed. Which bytes: those that the functions here
-- were lent, as long as no proof above opens this record
pub record Passed (s : Streams) (input output : List ℕ) : Type 0 where
  pub handed : ℕ
  pub read : CountOf s.read (length input)
  pub written : CountOf s.written handed
  pub front : handed ≤ length output
  pub whole : s.failed ≡ false → handed ≡ length output

-- NO READ GIVES ANY MORE: the last one gave nothing, or a write failed, or 2^64 − 1 reads were made
abbrev pub Finished : Streams → Type 0
Finished s = (s.source ≢ Open) ⊎ ((s.failed ≡ true) ⊎ (s.reads ≡ 18446744073709551615))

-- nothing went through yet
pub record Started (r : Streams) : Type 0 where
  pub passed : Passed r [] []
  pub unended : r.source ≡ Open
  pub working : r.failed ≡ false
  pub unread : r.reads ≡ 0

-- how many reads may still be made
abbrev pub reads_left : Streams → ℕ
reads_left s = 18446744073709551615 - s.reads

-- a read's bytes are the input's next; it gives none just where no read does, if its list has a place; after some bytes another read may be made, unless that was the last
pub record Read (s : Streams) (piece : List ℕ) (r : Reading) : Type 0 where
  pub within : r.count ≤ length piece
  pub passed : (i o : List ℕ) → Passed s i o → Passed r.streams (i ++ take r.count piece) o
  pub none : 1 ≤ length piece → r.count ≡ 0 → Finished r.streams
  pub later : Finished s → (r.count ≡ 0) × Finished r.streams
  pub most : reads_left r.streams ≤ reads_left s
  pub less : 1 ≤ r.count → reads_left r.streams < reads_left s
  pub goes_on : 1 ≤ r.count → (r.streams.source ≡ Open) × ((r.streams.failed ≡ false) × (r.streams.reads ≡ s.reads + 1))

-- a write's bytes are the output's next, and it reads nothing
pub record Wrote (s : Streams) (bytes : List ℕ) (r : Streams) : Type 0 where
  pub passed : (i o : List ℕ) → Passed s i o → Passed r i (o ++ bytes)
  pub later : Finished s → Finished r
  pub same : reads_left r ≡ reads_left s

-- the output, with the bytes that wait at the front of a list
pub record Issued (s : Streams) (list : List ℕ) (count : ℕ) (input output : List ℕ) : Type 0 where
  pub sent : List ℕ
  pub passed : Passed s input sent
  pub all : output ≡ sent ++ take count list

-- there is room behind the bytes that wait, and none is lost
pub record Flushed (s : Streams) (list : List ℕ) (count needed : ℕ) (r : Waiting) : Type 0 where
  pub room : r.count + needed ≤ length list
  pub issued : (i o : List ℕ) → Issued s list count i o → Issued r.streams list r.count i o
  pub later : Finished s → Finished r.streams
  pub same : reads_left r.streams ≡ reads_left s
