-- The table of windows beside the book: the book's columns with their windows, the register; when the table is sound; minutes written for ids; where columns start
-- that may be outside their windows. Assumes nothing: these are definitions.
use Rattle.std.specs.Prelude.{Bool, ◌&&◌, List, [], ◌∷◌, ℕ, ◌+◌, ◌*◌, ◌≤◌, ◌<◌, eqb, length, get_or, drop}
use Rattle.lists.specs.Lists.{pick, all, at, put, up_from}
use Rattle.symbolic.specs.Columns.{Column, within, is_inside, is_window, Register}
use Rattle.book.specs.Book.{Book, is_booked, columns_in}
use Rattle.windows.specs.Windows.{counts_at}

-- ---- the register

-- columns with the minutes that a table has for their ids, of n
unfoldable pub windowed : (windows : List ℕ) → (n : ℕ) → List Column → List Column
windowed w n [] = []
windowed w n (c ∷ cs) = within (at w c.id) (at w (n + c.id)) c ∷ windowed w n cs

-- the booked columns with their windows, by rising id
abbrev pub lines_in : Book → (windows : List ℕ) → List Column
lines_in b w = windowed w (length b.heads) (columns_in b)

-- the register that a book and its windows hold, for rows 1 to m and a clock
abbrev pub register_in : (m clock : ℕ) → Book → (windows : List ℕ) → Register
register_in m t b w = record { m = m; clock = t; columns = lines_in b w }

-- ---- sound

-- the minutes of an id: of a booked one a window, of any other "anything but 0" is unsound
abbrev pub minutes_fit : (heads windows : List ℕ) → (id : ℕ) → Bool
minutes_fit hs w i =
    pick (is_booked hs i) (is_window (at w i) (at w (length hs + i))) (eqb (at w i) 0 && eqb (at w (length hs + i)) 0)

-- SOUND: the minutes of every id fit
abbrev pub are_sound : (heads windows : List ℕ) → Bool
are_sound hs w = all (minutes_fit hs w) (up_from 1 (length hs))

-- ---- minutes written

-- the minutes of an id, of n
abbrev pub put_minutes : (windows : List ℕ) → (n id first second : ℕ) → List ℕ
put_minutes w n i a b = put (put w i a) (n + i) b

-- ids get the minutes that two lists have for them, by position
unfoldable pub entered : (windows : List ℕ) → (n : ℕ) → (ids firsts seconds : List ℕ) → List ℕ
entered w n [] ps qs = w
entered w n (i ∷ is) ps qs = entered (put_minutes w n i (get_or ps 0 0) (get_or qs 0 0)) n is (drop 1 ps) (drop 1 qs)

-- ids get minutes 0 and 0
unfoldable pub left : (windows : List ℕ) → (n : ℕ) → (ids : List ℕ) → List ℕ
left w n [] = w
left w n (i ∷ is) = left (put_minutes w n i 0 0) n is

-- ids of 1 to n, and two places for each in the table
pub record HasIds (windows : List ℕ) (n : ℕ) (ids : List ℕ) : Type 0 where
  pub few : n ≤ 16384
  pub long : 2 * n ≤ length windows
  pub named : (k : ℕ) → k < length ids → (1 ≤ get_or ids k 0) × (get_or ids k 0 ≤ n)

-- ---- where columns start

-- by position, 0 for one that is outside its window
unfoldable pub listed_inside : (minute : ℕ) → (firsts seconds starts : List ℕ) → List ℕ
listed_inside t ps qs [] = []
listed_inside t ps qs (s ∷ ss) = pick (is_inside (get_or ps 0 0) (get_or qs 0 0) t) s 0 ∷ listed_inside t (drop 1 ps) (drop 1 qs) ss

-- the same of ids, by the table's windows
unfoldable pub booked_inside : (minute : ℕ) → (windows : List ℕ) → (n : ℕ) → (ids starts : List ℕ) → List ℕ
booked_inside t w n is [] = []
booked_inside t w n is (s ∷ ss) = pick (counts_at w n t (get_or is 0 0)) s 0 ∷ booked_inside t w n (drop 1 is) ss
