-- Multiplicities half way through the turn of column j, beside Algorithms 3 and 4 of document 000 (theorem 4.1, section 5): the old ones, with the batch columns
-- and the children handled so far counted anew. A handles the batch columns that start at j; B and C the touched children of j in the tree with the batch; D those
-- that j has without it alone. The contracts of A to D say SoFar. Assumes nothing: these are definitions.
use Rattle.std.specs.Prelude.{◌≡◌, Bool, false, ◌&&◌, ◌||◌, not, List, [], ◌++◌, ℕ, ◌+◌, ◌-◌, ◌≤◌, ◌<◌, eqb, length, take, drop}
use Rattle.lists.specs.Lists.{pick, count}
use Rattle.symbolic.specs.Columns.{Column, starting_with}
use Rattle.symbolic.specs.Factor.{FactorColumn, multiplicity, parent_of}
use Rattle.symbolic.specs.Definition.{child_with}
use Rattle.symbolic.specs.Batch.{is_touched}
use Rattle.symbolic.specs.Steps.{count_so_far}
use Rattle.differences.specs.Tally.{base, difference_at, Tally}
use Rattle.updown.specs.Turns.{larger, before, after, tree_parent, other_parent}

-- ---- which children are handled

-- before B and C: none
abbrev pub nobody : ℕ → Bool
nobody c = false

-- one more
abbrev pub also : (handled : ℕ → Bool) (c : ℕ) → ℕ → Bool
also H c d = H d || eqb d c

-- after B and C: the touched children of j in the tree with the batch
abbrev pub children : (m : ℕ) (R W : List Column) (j c : ℕ) → Bool
children m R W j c = is_touched (larger m R W) W c && eqb (tree_parent m R W c) j

-- what D handles: the touched children of j without the batch alone; lost when adding, gained when removing
abbrev pub lost : (m : ℕ) (R W : List Column) (j c : ℕ) → Bool
lost m R W j c = is_touched (larger m R W) W c && not (eqb (tree_parent m R W c) j) && eqb (other_parent m R c) j

-- after D: both
abbrev pub family : (m : ℕ) (R W : List Column) (j c : ℕ) → Bool
family m R W j c = children m R W j c || lost m R W j c

-- ---- what the handled columns and children count for, in row i of column j

-- of the handled children those that are children of j in a factor and hold row i
abbrev pub children_count : (m : ℕ) (L : List FactorColumn) (handled : ℕ → Bool) (i j : ℕ) → ℕ
children_count m L H i j = count (λ c. H c && child_with (multiplicity L) (parent_of L) j i c) m

-- before the call; the first k batch columns counted for something only if they leave
abbrev pub counted_before : (adding : Bool) (m : ℕ) (R W : List Column) (k : ℕ) (handled : ℕ → Bool) (i j : ℕ) → ℕ
counted_before z m R W k H i j = starting_with j i (pick z [] (take k W)) + children_count m (before z m R W) H i j

-- now; the first k batch columns count for something only if they enter
abbrev pub counted_now : (adding : Bool) (m : ℕ) (R W : List Column) (k : ℕ) (handled : ℕ → Bool) (i j : ℕ) → ℕ
counted_now z m R W k H i j = starting_with j i (pick z (take k W) []) + children_count m (after z m R W) H i j

-- MULTIPLICITY SO FAR: the old one, less what the handled columns and children counted for before, plus what they count for now
abbrev pub multiplicity_so_far : (adding : Bool) (m : ℕ) (R W : List Column) (k : ℕ) (handled : ℕ → Bool) (i j : ℕ) → ℕ
multiplicity_so_far z m R W k H i j = multiplicity (before z m R W) i j - counted_before z m R W k H i j + counted_now z m R W k H i j

-- ---- the statement, of the numbers that the code keeps: the old multiplicity is the stored one (Multiplicities in States.antt); n rows are touched; the
-- place of a touched row holds base plus its difference, that of another 0

-- for rows from j on the old multiplicity plus the difference is the multiplicity so far; rows below j have no difference
pub record SoFar (m : ℕ) (R W : List Column) (adding : Bool) (work : List ℕ) (n j k : ℕ) (handled : ℕ → Bool) : Type 0 where
  pub tally : Tally m work n (difference_at work)
  pub rows : (i : ℕ) → j ≤ i → i ≤ m → multiplicity (before adding m R W) i j + difference_at work i ≡ base + multiplicity_so_far adding m R W k handled i j
  pub still : (i : ℕ) → 1 ≤ i → i < j → difference_at work i ≡ base

-- after D: the old multiplicity plus the difference is the definition's
pub record IsDefinition (m : ℕ) (R W : List Column) (adding : Bool) (work : List ℕ) (n j : ℕ) : Type 0 where
  pub tally : Tally m work n (difference_at work)
  pub rows : (i : ℕ) → j ≤ i → i ≤ m → multiplicity (before adding m R W) i j + difference_at work i ≡ base + multiplicity (after adding m R W) i j
  pub still : (i : ℕ) → 1 ≤ i → i < j → difference_at work i ≡ base

-- ---- what is shown of them: terms in proofs/SoFar.antt, by the same names in lower case

-- what is handled counted for no more than the old multiplicity, so the subtraction never cuts off
abbrev pub CountedWithin : Type 0
CountedWithin =
    (m : ℕ) (R W : List Column) (adding : Bool) (j : ℕ) → 1 ≤ j → j ≤ m → (k : ℕ) (handled : ℕ → Bool) (i : ℕ) → j ≤ i → i ≤ m →
    counted_before adding m R W k handled i j ≤ multiplicity (before adding m R W) i j

-- the multiplicity so far is the count in which what is handled counts anew and the rest as before, of which the laws of UpdateSteps and DowndateSteps speak
abbrev pub CountedAnew : Type 0
CountedAnew =
    (m : ℕ) (R W : List Column) (adding : Bool) (j : ℕ) → 1 ≤ j → j ≤ m → (k : ℕ) (handled : ℕ → Bool) (i : ℕ) → j ≤ i → i ≤ m →
    multiplicity_so_far adding m R W k handled i j ≡
    count_so_far m handled (multiplicity (before adding m R W)) (parent_of (before adding m R W)) (multiplicity (after adding m R W)) (parent_of (after adding m R W))
    (starting_with j i (R ++ pick adding (take k W) (drop k W))) i j

-- nothing handled: the old one
abbrev pub NoneHandled : Type 0
NoneHandled =
    (m : ℕ) (R W : List Column) (adding : Bool) (j : ℕ) → 1 ≤ j → j ≤ m → (i : ℕ) → j ≤ i → i ≤ m → multiplicity_so_far adding m R W 0 nobody i j ≡ multiplicity (before adding m R W) i j

-- all of A to D handled: the definition's
abbrev pub AllHandled : Type 0
AllHandled =
    (m : ℕ) (R W : List Column) (adding : Bool) (j : ℕ) → 1 ≤ j → j ≤ m → (i : ℕ) → j ≤ i → i ≤ m →
    multiplicity_so_far adding m R W (length W) (family m R W j) i j ≡ multiplicity (after adding m R W) i j

-- only touched children are visited: an untouched child counts the same anew
abbrev pub UntouchedSame : Type 0
UntouchedSame =
    (m : ℕ) (R W : List Column) (adding : Bool) (j c : ℕ) → 1 ≤ c → c ≤ m → is_touched (larger m R W) W c ≡ false → (i : ℕ) → 1 ≤ i → i ≤ m →
    child_with (multiplicity (before adding m R W)) (parent_of (before adding m R W)) j i c ≡ child_with (multiplicity (after adding m R W)) (parent_of (after adding m R W)) j i c

-- a child gained from nowhere is lost by nobody
abbrev pub GainedFromNowhere : Type 0
GainedFromNowhere = (m : ℕ) (R W : List Column) (c : ℕ) → other_parent m R c ≡ 0 → (j : ℕ) → 1 ≤ j → lost m R W j c ≡ false
