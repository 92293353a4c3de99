-- The number and position of a whole call, in document 01's order: sizes (then an opening's limits), tables, contents, then the call's own. The first need
-- nothing of the tables, the second their lengths, the third their contents, the last the register that the book holds.
-- Assumes nothing: these are definitions.
use Rattle.std.specs.Prelude.{Bool, true, ◌||◌, List, ℕ, length}
use Rattle.symbolic.specs.Columns.{Register}
use Rattle.tables.specs.Tables.{Tables, Sizes, State, register_of, is_sound}
use Rattle.calls.specs.Refusals.{Refusal, accepted, or_else, unless, lists_long, early_refusal, room_for}
use Rattle.calls.specs.Calls.{Question, Entry, opening, changing, checking, asking, Lent, Call, is_opening, sizes_after, keeps_rule}
use Rattle.calls.specs.Changes.{effect}
use Rattle.calls.specs.Questions.{response}

-- a call's own lists are long enough for its report: only a change has such lists
abbrev pub has_lists : Sizes → Entry → Lent → Bool
has_lists l (opening k g) x = true
has_lists l (changing c) x = lists_long l.m x.touched x.labels
has_lists l checking x = true
has_lists l (asking q p) x = true

-- 1 to 5 and 20 of a call in a record with these sizes
abbrev pub call_early : Sizes → Tables → Call → Refusal
call_early l t k =
    early_refusal (sizes_after l k.entry) (keeps_rule k.entry) t k.lent.work (has_lists (sizes_after l k.entry) k.entry k.lent)

-- 6, "all but open": not sound
abbrev pub sound_refusal : State → Tables → Entry → Refusal
sound_refusal s t e = unless (is_opening e || is_sound s t) 6 0

-- 7 and 17, then 18 "the list ends before the answer does": of a question whose list is written from a place on
abbrev pub ask_refusal : Register → Question → (place : ℕ) → (list : List ℕ) → Refusal
ask_refusal r q p xs = or_else (response r q).refusal (room_for xs p (length (response r q).list))

-- 7 to 18 and 21, by the register; list: the one lent to a question
abbrev pub own_refusal : Sizes → Register → Entry → (list : List ℕ) → Refusal
own_refusal l r (opening k g) xs = accepted
own_refusal l r (changing c) xs = (effect r c).refusal l
own_refusal l r checking xs = accepted
own_refusal l r (asking q p) xs = ask_refusal r q p xs

-- the same of a call
abbrev pub call_refusal : Sizes → Register → Call → Refusal
call_refusal l r k = own_refusal l r k.entry k.lent.list

-- THE NUMBER of a call, with its position
abbrev pub refusal_of : State → Tables → Call → Refusal
refusal_of s t k =
    or_else (call_early s.sizes t k) (or_else (sound_refusal s t k.entry) (call_refusal s.sizes (register_of s t) k))
