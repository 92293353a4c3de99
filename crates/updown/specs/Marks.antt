-- The walk's marks and flags, and raw reads and stores: a mark for each row, a flag for each block of 64 rows that has a marked one; the next column taken
-- (Taken) and one step up (CanStep, SteppedTo). Assumes nothing: these are definitions.
use Rattle.std.specs.Prelude.{◌≡◌, ◌≢◌, Bool, true, false, ◌&&◌, not, List, ℕ, ◌+◌, ◌-◌, ◌*◌, ◌/◌, ◌%◌, ◌≤◌, ◌<◌, ltb, eqb, length, set}
use Rattle.lists.specs.Lists.{pick, at}
use Rattle.workspace.specs.Regions.{cell}
use Rattle.emission.specs.declared.Emission.{Emission}
use Rattle.updown.specs.Plans.{start_bit, label_weight, parent_weight, parent_in}
use Rattle.workspace.specs.Layout.{marks_at, starts_at, children_at, next_at, lost_at, links_at, plan_at, block_rows, flag_count}

-- the work table has the regions of m rows and, past them, 64 flags
pub record Room (m flags : ℕ) (work : List ℕ) : Type 0 where
  pub m-bound : m ≤ 4096
  pub low : plan_at m ≤ flags
  pub long : flags + flag_count ≤ length work

-- the mark of a row, 0 for none
abbrev pub mark_at : (m : ℕ) (work : List ℕ) (row : ℕ) → ℕ
mark_at m w q = cell w (marks_at m) (q - 1)

-- the flag of a row's block
abbrev pub flag_at : (flags : ℕ) (work : List ℕ) (row : ℕ) → ℕ
flag_at f w q = cell w f ((q - 1) / block_rows)

-- a row marked, with its block
abbrev pub marked : (m flags : ℕ) (work : List ℕ) (row mark : ℕ) → List ℕ
marked m f w q x = set (set w (marks_at m + (q - 1)) x) (f + (q - 1) / block_rows) 1

-- the row where the batch column of a position starts marked; nothing for row 0, where a column with no row starts
abbrev pub start_marked : (m flags : ℕ) (work : List ℕ) (row position : ℕ) → List ℕ
start_marked m f w q k = pick (eqb q 0) w (marked m f w q (label_weight * k + start_bit))

-- a tree parent marked with at least a label
abbrev pub raised : (m flags : ℕ) (work : List ℕ) (row label : ℕ) → List ℕ
raised m f w q l = pick (ltb (mark_at m w q / label_weight) l) (marked m f w q (label_weight * l + mark_at m w q % label_weight)) w

-- a marked row past the first rows has the flag of its block
abbrev pub Flagged : (m flags : ℕ) (work : List ℕ) (from : ℕ) → Type 0
Flagged m f w a = (q : ℕ) → a < q → q ≤ m → mark_at m w q ≢ 0 → flag_at f w q ≢ 0

-- the first marked row past the first rows, or 0
pub record Next (m : ℕ) (work : List ℕ) (from row : ℕ) : Type 0 where
  pub found : row ≢ 0 → (from < row) × ((row ≤ m) × (mark_at m work row ≢ 0))
  pub passed : (q : ℕ) → from < q → q ≤ m → (row ≢ 0 → q < row) → mark_at m work q ≡ 0

-- ---- a done column's place in the tables

-- where the plan of a column ends that is not the last: where that of the next touched column starts
abbrev pub end_at : (m : ℕ) (work : List ℕ) (c : ℕ) → ℕ
end_at m w c = cell w (starts_at m) (cell w (next_at m) (c - 1) - 1)

-- the other parent of a done column: the stored one when adding, the new one in its mark when removing
abbrev pub other_at : (parents work : List ℕ) (m c : ℕ) (adding : Bool) → ℕ
other_at ps w m c z = pick z (at ps c) (parent_in (mark_at m w c))

-- a column out of one queue and into that of its other parent, if it has one and that is another one
abbrev pub passed_on : (m : ℕ) (work : List ℕ) (c j other : ℕ) → List ℕ
passed_on m w c j o =
    pick (not (eqb o j) && not (eqb o 0)) (set (set w (links_at m + (c - 1)) (cell w (lost_at m) (o - 1))) (lost_at m + (o - 1)) c) (set w (links_at m + (c - 1)) 0)

-- a column into the queue of its tree parent
abbrev pub queued : (m : ℕ) (work : List ℕ) (c up : ℕ) → List ℕ
queued m w c q = set (set w (links_at m + (c - 1)) (cell w (children_at m) (q - 1))) (children_at m + (q - 1)) c

-- a turn begun: the last touched column goes on to j, and j's plan starts
abbrev pub begun : (m : ℕ) (work : List ℕ) (last j used : ℕ) → List ℕ
begun m w l j u = set (pick (eqb l 0) w (set w (next_at m + (l - 1)) j)) (starts_at m + (j - 1)) u

-- the new parent of j kept in its mark
abbrev pub kept : (m : ℕ) (work : List ℕ) (j parent : ℕ) → List ℕ
kept m w j p = set w (marks_at m + (j - 1)) (mark_at m w j + parent_weight * p)

-- one step up from j: its new parent is kept; its tree parent, if it has one, is marked with j's label, and j waits in its queue
abbrev pub stepped_up : (m flags : ℕ) (work : List ℕ) (j parent up : ℕ) → List ℕ
stepped_up m f w j p q = pick (eqb q 0) (kept m w j p) (queued m (raised m f (kept m w j p) q (mark_at m w j / label_weight)) j q)

-- ---- the first and the last step of a turn

-- the next marked row past the last touched column, with its turn begun; or 0, and nothing is written
pub record Taken (m : ℕ) (before after : List ℕ) (last used row : ℕ) : Type 0 where
  pub next : Next m before last row
  pub begins : row ≢ 0 → after ≡ begun m before last row used
  pub ends : row ≡ 0 → after ≡ before

-- the parent in the tree of all columns: the new one when adding, the stored one when removing
abbrev pub up_at : (parents : List ℕ) (j parent : ℕ) (adding : Bool) → ℕ
up_at ps j p z = pick z p (at ps j)

-- one step up from j can be taken, and the numbers of the walk go on
pub record CanStep (parents work : List ℕ) (m flags j parent : ℕ) (adding : Bool) (count entries larger : ℕ) : Type 0 where
  pub room : Room m flags work
  pub low : 1 ≤ j
  pub high : j ≤ m
  pub parents-long : length parents ≡ m
  pub parent-high : parent ≤ m
  pub up-high : up_at parents j parent adding ≤ m
  pub mark-small : mark_at m work j < 260
  pub count_small : count < 4096
  pub entries-small : entries ≤ 16777216
  pub larger-small : larger ≤ 4096

-- where the plan of j fits, the step is stored and the numbers of the walk have one column more; else nothing is written, and the plan's places are told
pub record SteppedTo (parents before after : List ℕ) (m flags j : ℕ) (adding : Bool) (e : Emission) (first count entries : ℕ) (fits : Bool) (first' last' count' entries' used' avail' : ℕ) : Type 0 where
  pub fits-is : fits ≡ e.fits
  pub used-is : used' ≡ e.used
  pub stored : e.fits ≡ true → after ≡ stepped_up m flags before j e.parent.0 (up_at parents j e.parent.0 adding)
  pub first-is : e.fits ≡ true → first' ≡ pick (eqb first 0) j first
  pub last-is : e.fits ≡ true → last' ≡ j
  pub count-is : e.fits ≡ true → count' ≡ count + 1
  pub entries-is : e.fits ≡ true → entries' ≡ entries + e.larger
  pub avail-is : e.fits ≡ true → avail' ≡ e.avail.0
  pub stays : e.fits ≡ false → after ≡ before
