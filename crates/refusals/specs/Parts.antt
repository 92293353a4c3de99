-- The parts that a batch's refusal is found by: one id, with the ids before its place; the rows of a column; its count; its window; the whole column; the
-- id of a removal. A part gives a number alone, since its position is the loop's. That the parts in order are the refusal: proofs/Positions.antt.
-- Assumes nothing: these are definitions.
use Rattle.std.specs.Prelude.{◌≡◌, Bool, ◌&&◌, not, List, [], ◌∷◌, ℕ, zero, suc, ◌≤◌, ◌<◌, leb, eqb, length, get_or, take}
use Rattle.lists.specs.Lists.{pick, is_in, among}
use Rattle.symbolic.specs.Columns.{is_window}
use Rattle.calls.specs.Refusals.{Refusal, refusal, accepted, or_else, unless, rows_refusal}

-- a number at a position; 0 is accepted, at none
abbrev pub placed : (number position : ℕ) → Refusal
placed n p = pick (eqb n 0) accepted (refusal n p)

-- a number is a part's refusal, at every position
pub record IsNumber (number : ℕ) (part : ℕ → Refusal) : Type 0 where
  pub same : (p : ℕ) → part p ≡ placed number p

-- the ids before place k, the last of them first
unfoldable pub before : (k : ℕ) → (ids : List ℕ) → List ℕ
before zero is = []
before (suc k) is = get_or is k 0 ∷ before k is

-- 8 or 9: the id at place k
abbrev pub id_refusal : (n : ℕ) → (ids : List ℕ) → (k position : ℕ) → Refusal
id_refusal n is k p = or_else (unless (is_in 1 n (get_or is k 0)) 8 p) (unless (not (among (get_or is k 0) (before k is))) 9 p)

-- 13 or 14: the rows of one column
abbrev pub rows_part : (m : ℕ) → (rows : List ℕ) → (position : ℕ) → Refusal
rows_part m rs p = rows_refusal m p 0 rs

-- 12, 13 or 14: a column of so many of the rows that remain
abbrev pub count_refusal : (m count : ℕ) → (rows : List ℕ) → (position : ℕ) → Refusal
count_refusal m k rs p = or_else (unless (is_in 1 256 k && leb k (length rs)) 12 p) (rows_part m (take k rs) p)

-- 21: the window of one column
abbrev pub window_refusal : (first second position : ℕ) → Refusal
window_refusal a b p = unless (is_window a b) 21 p

-- 8, 9, 10, 12, 13, 14 or 21: the column at place k of an addition, where its id is booked or not
abbrev pub column_refusal : (m n : ℕ) → (is_taken : Bool) → (ids counts rows firsts seconds : List ℕ) → (k position : ℕ) → Refusal
column_refusal m n z is ns rs ps qs k p =
    or_else (id_refusal n is k p)
    (or_else (unless (not z) 10 p) (or_else (count_refusal m (get_or ns k 0) rs p) (window_refusal (get_or ps k 0) (get_or qs k 0) p)))

-- 8, 9 or 11: the id at place k of a removal
abbrev pub leaving_refusal : (n : ℕ) → (is_taken : Bool) → (ids : List ℕ) → (k position : ℕ) → Refusal
leaving_refusal n z is k p = or_else (id_refusal n is k p) (unless z 11 p)

-- a count and two minutes for each id, and no more ids than a batch can have
pub record InStep (ids counts firsts seconds : List ℕ) : Type 0 where
  pub counted : length counts ≡ length ids
  pub firsts-length : length firsts ≡ length ids
  pub seconds-length : length seconds ≡ length ids
  pub few : length ids ≤ 64

-- a place of the ids, with its count and its minutes, and how many rows the columns before it have
pub record HasPlace (ids counts list firsts seconds : List ℕ) (k from : ℕ) : Type 0 where
  pub counted : length counts ≡ length ids
  pub firsts-length : length firsts ≡ length ids
  pub seconds-length : length seconds ≡ length ids
  pub within : k < length ids
  pub starts : from ≤ length list
