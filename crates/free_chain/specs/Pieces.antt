-- The free chain in pieces: steps of `next` from record to record, a piece that says how many steps lead from its start to where it stands, and the
-- scratch that holds the pieces and, behind them, a queue of those still to be walked. Assumes nothing: these are definitions.
use Rattle.std.specs.Prelude.{◌≡◌, Bool, true, List, ℕ, zero, suc, ◌+◌, ◌*◌, ◌≤◌, ◌<◌, ltb, length, get_or, set}
use Rattle.lists.specs.Lists.{pick, at}

-- two tables of one pool, small enough that a record and a count of records fit a place of scratch
pub record OnePool (rows next : List ℕ) : Type 0 where
  pub same_size : length rows ≡ length next
  pub small : length next ≤ 1073741824

-- so many steps lead from one record to another or to 0: each record passed is of the pool, and one that nothing follows has row 0
unfoldable pub Leads : (rows next : List ℕ) → (steps start stop : ℕ) → Type 0
Leads rs ns zero a b = a ≡ b
Leads rs ns (suc n) a b = (1 ≤ a) × (a ≤ length ns) × (at ns a ≡ 0 → at rs a ≡ 0) × Leads rs ns n (at ns a) b

-- the records from place i to place e follow one another
pub record RunsTo (next : List ℕ) (i e : ℕ) : Type 0 where
  pub forward : i ≤ e
  pub within : e < length next
  pub rising : (j : ℕ) → i ≤ j → j < e → get_or next j 0 ≡ j + 2

-- the four records from place e on each lead to the one behind it
abbrev pub FourFollow : (next : List ℕ) → (e : ℕ) → Type 0
FourFollow ns e = (j : ℕ) → e ≤ j → j < e + 4 → get_or ns j 0 ≡ j + 2

-- ---- one piece

-- a piece's length
abbrev pub length_of : (scratch : List ℕ) → (piece : ℕ) → ℕ
length_of w s = get_or w (2 * s) 0

-- where a piece stands
abbrev pub stand_of : (scratch : List ℕ) → (piece : ℕ) → ℕ
stand_of w s = get_or w (2 * s + 1) 0

-- scratch with another length and stand of a piece
abbrev pub with_piece : (scratch : List ℕ) → (piece size stand : ℕ) → List ℕ
with_piece w s n r = set (set w (2 * s) n) (2 * s + 1) r

-- a piece that starts at a record: its length leads to where it stands
pub record Stands (rows next scratch : List ℕ) (start s : ℕ) : Type 0 where
  pub leads : Leads rows next (length_of scratch s) start (stand_of scratch s)
  pub size : length_of scratch s ≤ length next
  pub stand : stand_of scratch s ≤ length next

-- what a step of a piece asks
pub record CanStep (rows next scratch : List ℕ) (s : ℕ) : Type 0 where
  pub can : OnePool rows next
  pub room : 2 * s + 1 < length scratch
  pub size : length_of scratch s ≤ length next
  pub stand : stand_of scratch s ≤ length next

-- after a step of a piece: some steps lead on from where it stood, or none, and are added to it
pub record Stepped (rows next scratch₀ scratch : List ℕ) (s : ℕ) : Type 0 where
  pub steps : ℕ
  pub stop : ℕ
  pub leads : Leads rows next steps (stand_of scratch₀ s) stop
  pub size : length_of scratch₀ s + steps ≤ length next
  pub stand : stop ≤ length next
  pub written : scratch ≡ with_piece scratch₀ s (length_of scratch₀ s + steps) stop

-- ---- all pieces

-- where a piece starts: at its cut, and the last one at the chain's head
unfoldable pub start_of : (cuts head piece : ℕ) → ℕ
start_of c h s = pick (ltb s c) (1024 * s + 1) h

-- every piece stands, from its start
abbrev pub Pieces : (rows next : List ℕ) → (cuts : ℕ) → (starts : ℕ → ℕ) → (scratch : List ℕ) → Type 0
Pieces rs ns c f w = (s : ℕ) → s ≤ c → Stands rs ns w (f s) s

-- whatever the starts, pieces that stood still stand
abbrev pub Kept : (rows next : List ℕ) → (cuts : ℕ) → (scratch₀ scratch : List ℕ) → Type 0
Kept rs ns c w₀ w = (f : ℕ → ℕ) → Pieces rs ns c f w₀ → Pieces rs ns c f w

-- the place where the queue begins
abbrev pub queue_of : (cuts : ℕ) → ℕ
queue_of c = 2 * (c + 1)

-- n pieces are queued
pub record Queued (scratch : List ℕ) (cuts n : ℕ) : Type 0 where
  pub few : n ≤ cuts + 1
  pub pieces : (q : ℕ) → q < n → get_or scratch (queue_of cuts + q) 0 ≤ cuts

-- scratch has room for the pieces and the queue, and the cuts are the pool's
pub record Room (size : ℕ) (scratch : List ℕ) (cuts : ℕ) : Type 0 where
  pub small : size ≤ 1073741824
  pub above : size ≤ 1024 * cuts
  pub below : 1024 * cuts < size + 1024
  pub long : 3 * (cuts + 1) ≤ length scratch

-- a piece has length 0 and stands at its start
abbrev pub LaidAt : (scratch : List ℕ) → (start piece : ℕ) → Type 0
LaidAt w a s = (length_of w s ≡ 0) × (stand_of w s ≡ a)

-- every piece laid out, and n of them queued
pub record Laid (cuts head : ℕ) (scratch : List ℕ) (n : ℕ) : Type 0 where
  pub pieces : (s : ℕ) → s ≤ cuts → LaidAt scratch (start_of cuts head s) s
  pub queue : Queued scratch cuts n

-- what a round of steps asks
pub record CanRound (rows next scratch : List ℕ) (cuts n : ℕ) : Type 0 where
  pub can : OnePool rows next
  pub room : Room (length next) scratch cuts
  pub starts : ℕ → ℕ
  pub pieces : Pieces rows next cuts starts scratch
  pub queue : Queued scratch cuts n

-- after a round of steps n pieces are left in the queue, and the budget has fallen by one for each of them at least
pub record Rounded (rows next : List ℕ) (cuts : ℕ) (scratch₀ scratch : List ℕ) (left₀ n left : ℕ) : Type 0 where
  pub kept : Kept rows next cuts scratch₀ scratch
  pub queue : Queued scratch cuts n
  pub budget : n + left ≤ left₀

-- what adding up asks: the pieces' lengths, and where they stand, are of a pool
pub record CanAddUp (scratch : List ℕ) (cuts : ℕ) : Type 0 where
  pub records : ℕ
  pub room : Room records scratch cuts
  pub size : (s : ℕ) → s ≤ cuts → length_of scratch s ≤ records
  pub stand : (s : ℕ) → s ≤ cuts → stand_of scratch s ≤ records

-- a sum that comes to the end: if the answer is yes, k steps lead from any head whose piece is the last one to 0
abbrev pub AddsTo : (scratch : List ℕ) → (cuts k : ℕ) → (answer : Bool) → Type 0
AddsTo w c k a = (rs ns : List ℕ) (h : ℕ) → Pieces rs ns c (start_of c h) w → a ≡ true → Leads rs ns k h 0
