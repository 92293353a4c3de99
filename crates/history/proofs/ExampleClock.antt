-- The example's calls with windows and the clock: the worlds after an opening for three rows and after each accepted change, the event of each call, and the
-- transitions, all by computing. Which free records are taken is this example's choice.
-- Assumes nothing.
use mathlib.Core.Path.{refl}
use mathlib.Core.List.{List, [], ◌∷◌, ◌++◌, cons≢nil}
use Prim.Native.Nat.{ℕ}
use lib.ListN.{replicate}
use Rattle.lists.specs.Lists.{all, any, among, no_repeats, all_zero, same, sum_of, values_at, rises, up_from}
use Rattle.symbolic.specs.Columns.{starting_with, counted_by, with_minutes, live_of}
use Rattle.symbolic.specs.Factor.{children_with, counts_from, first_above, build_from, pattern_from, non_zero, path_from, size_sum}
use Rattle.symbolic.specs.Batch.{passing, label_from}
use Rattle.symbolic.specs.Change.{ids_of, without, column_of, columns_of}
use Rattle.symbolic.specs.Grades.{limits_of, old_limits}
use Rattle.pool.specs.Chains.{chain_from, last_of}
use Rattle.pool.specs.Whole.{chains}
use Rattle.book.specs.Book.{columns_from}
use Rattle.windows.specs.Windowed.{windowed}
use Rattle.tables.specs.Stored.{holds_from}
use Rattle.tables.specs.Opening.{opened_state, opened_tables}
use Rattle.calls.specs.Refusals.{batch_of, rows_refusal, columns_refusal, ids_refusal}
use Rattle.calls.specs.Calls.{Change, removing, setting, checking, work_only, call_of}
use Rattle.calls.specs.Changes.{labelled}
use Rattle.calls.specs.Steps.{Answer, World, Exchanged, Transition}
use Rattle.calls.proofs.Exchanges.{exchange-passed}
use Rattle.history.specs.Runs.{Event}
use Rattle.history.specs.Example.{work_lent, list_lent, add_in, add_later, change, open_with, answered, work_left, clock_sizes}
use Rattle.history.proofs.ExampleWorlds.{full}

-- ---- the worlds

abbrev world_at : (clock free book_free : ℕ) → (parents rows counts next book_heads book_rows book_next windows : List ℕ) → World
world_at t f g ps rs cs ns bh br bn ws =
    record {
      state = record { sizes = clock_sizes; limits = old_limits; free = f; book_free = g; clock = t };
      tables = record {
        heads = 1 ∷ 2 ∷ 3 ∷ 4 ∷ 5 ∷ 8 ∷ [];
        parents = ps ++ (0 ∷ 0 ∷ 8 ∷ []);
        rows = rs ++ (5 ∷ 3 ∷ 4 ∷ 4 ∷ 3 ∷ 8 ∷ []);
        counts = cs ++ (1 ∷ 1 ∷ 1 ∷ 1 ∷ 1 ∷ 8 ∷ []);
        next = ns ++ (0 ∷ 7 ∷ 0 ∷ 0 ∷ 0 ∷ 8 ∷ []);
        book_heads = bh ++ (0 ∷ 0 ∷ 0 ∷ 0 ∷ 8 ∷ []);
        book_rows = br ++ (replicate 9 0 ++ (8 ∷ []));
        book_next = bn ++ (9 ∷ 10 ∷ 11 ∷ 12 ∷ 13 ∷ 14 ∷ 15 ∷ 16 ∷ 0 ∷ 8 ∷ []);
        windows = ws ++ (replicate 8 0 ++ (8 ∷ []));
      };
    }

-- opened for three rows, the places past them as they were
abbrev pub timed : World
timed = record { state = opened_state clock_sizes old_limits; tables = opened_tables clock_sizes (full old_limits).tables }

-- {1,2} under id 1 counts: record 4, the last
abbrev pub booked : World
booked =
    world_at 0 0 3 (2 ∷ 0 ∷ 0 ∷ []) (1 ∷ 2 ∷ 3 ∷ 2 ∷ []) (2 ∷ 2 ∷ 1 ∷ 1 ∷ []) (4 ∷ 0 ∷ 0 ∷ 0 ∷ [])
    (1 ∷ 0 ∷ 0 ∷ 0 ∷ []) (1 ∷ 2 ∷ 0 ∷ 0 ∷ 0 ∷ 0 ∷ 0 ∷ []) (2 ∷ 0 ∷ 4 ∷ 5 ∷ 6 ∷ 7 ∷ 0 ∷ []) (0 ∷ 0 ∷ 0 ∷ 0 ∷ 5 ∷ 0 ∷ 0 ∷ 0 ∷ [])

-- {1,3} under id 2 and {1,2,3} under id 3 are booked, and do not count before minutes 5 and 9
abbrev both_at : (clock : ℕ) → World
both_at t =
    world_at t 0 0 (2 ∷ 0 ∷ 0 ∷ []) (1 ∷ 2 ∷ 3 ∷ 2 ∷ []) (2 ∷ 2 ∷ 1 ∷ 1 ∷ []) (4 ∷ 0 ∷ 0 ∷ 0 ∷ [])
    (1 ∷ 3 ∷ 5 ∷ 0 ∷ []) (1 ∷ 2 ∷ 1 ∷ 3 ∷ 1 ∷ 2 ∷ 3 ∷ []) (2 ∷ 0 ∷ 4 ∷ 0 ∷ 6 ∷ 7 ∷ 0 ∷ []) (0 ∷ 5 ∷ 9 ∷ 0 ∷ 5 ∷ 9 ∷ 12 ∷ 0 ∷ [])

abbrev pub both : World
both = both_at 0

abbrev pub at_three : World
at_three = both_at 3

-- {1,3} has taken the place of {1,2}
abbrev pub world_at_five : World
world_at_five =
    world_at 5 0 0 (3 ∷ 0 ∷ 0 ∷ []) (1 ∷ 2 ∷ 3 ∷ 3 ∷ []) (2 ∷ 1 ∷ 2 ∷ 1 ∷ []) (4 ∷ 0 ∷ 0 ∷ 0 ∷ [])
    (1 ∷ 3 ∷ 5 ∷ 0 ∷ []) (1 ∷ 2 ∷ 1 ∷ 3 ∷ 1 ∷ 2 ∷ 3 ∷ []) (2 ∷ 0 ∷ 4 ∷ 0 ∷ 6 ∷ 7 ∷ 0 ∷ []) (0 ∷ 5 ∷ 9 ∷ 0 ∷ 5 ∷ 9 ∷ 12 ∷ 0 ∷ [])

-- id 1 dropped: its book records 1 and 2 are free, and its minutes 0
abbrev pub left : World
left =
    world_at 5 0 1 (3 ∷ 0 ∷ 0 ∷ []) (1 ∷ 2 ∷ 3 ∷ 3 ∷ []) (2 ∷ 1 ∷ 2 ∷ 1 ∷ []) (4 ∷ 0 ∷ 0 ∷ 0 ∷ [])
    (0 ∷ 3 ∷ 5 ∷ 0 ∷ []) (0 ∷ 0 ∷ 1 ∷ 3 ∷ 1 ∷ 2 ∷ 3 ∷ []) (2 ∷ 0 ∷ 4 ∷ 0 ∷ 6 ∷ 7 ∷ 0 ∷ []) (0 ∷ 5 ∷ 9 ∷ 0 ∷ 0 ∷ 9 ∷ 12 ∷ 0 ∷ [])

-- back at minute 0 no column counts
abbrev pub world_at_zero : World
world_at_zero =
    world_at 0 4 1 (0 ∷ 0 ∷ 0 ∷ []) (1 ∷ 2 ∷ 3 ∷ 0 ∷ []) (1 ∷ 1 ∷ 1 ∷ 0 ∷ []) (0 ∷ 0 ∷ 0 ∷ 0 ∷ [])
    (0 ∷ 3 ∷ 5 ∷ 0 ∷ []) (0 ∷ 0 ∷ 1 ∷ 3 ∷ 1 ∷ 2 ∷ 3 ∷ []) (2 ∷ 0 ∷ 4 ∷ 0 ∷ 6 ∷ 7 ∷ 0 ∷ []) (0 ∷ 5 ∷ 9 ∷ 0 ∷ 0 ∷ 9 ∷ 12 ∷ 0 ∷ [])

-- ---- what each accepted change leaves

early-exchanged : Exchanged timed (add_in 1 (1 ∷ 2 ∷ []) 0 5) booked
unfolding all any among no_repeats all_zero same values_at rises up_from starting_with counted_by live_of children_with counts_from first_above build_from pattern_from non_zero path_from passing chain_from last_of chains columns_from windowed holds_from with_minutes batch_of
early-exchanged = exchange-passed timed (add_in 1 (1 ∷ 2 ∷ []) 0 5) booked refl refl refl refl (λ h. absurd (cons≢nil h)) refl

dormant-exchanged : Exchanged booked add_later both
unfolding all any among no_repeats all_zero same values_at rises up_from starting_with counted_by live_of children_with counts_from first_above build_from pattern_from non_zero path_from passing chain_from last_of chains columns_from windowed holds_from with_minutes batch_of
dormant-exchanged = exchange-passed booked add_later both refl refl refl refl (λ h. absurd (cons≢nil h)) refl

three-exchanged : Exchanged both (setting 3) at_three
unfolding all any among no_repeats all_zero same values_at rises up_from starting_with counted_by live_of children_with counts_from first_above build_from pattern_from non_zero path_from passing chain_from last_of chains columns_from windowed holds_from
three-exchanged =
    exchange-passed both (setting 3) at_three refl refl refl refl (λ h. record { heads = refl; rows = refl; next = refl; windows = refl; free = refl }) refl

five-exchanged : Exchanged at_three (setting 5) world_at_five
unfolding all any among no_repeats all_zero same values_at rises up_from starting_with counted_by live_of children_with counts_from first_above build_from pattern_from non_zero path_from passing chain_from last_of chains columns_from windowed holds_from
five-exchanged =
    exchange-passed at_three (setting 5) world_at_five refl refl refl refl (λ h. record { heads = refl; rows = refl; next = refl; windows = refl; free = refl }) refl

dropped-exchanged : Exchanged world_at_five (removing (1 ∷ [])) left
unfolding all any among no_repeats all_zero same values_at rises up_from starting_with counted_by live_of children_with counts_from first_above build_from pattern_from non_zero path_from passing chain_from last_of chains columns_from windowed holds_from without column_of columns_of
dropped-exchanged = exchange-passed world_at_five (removing (1 ∷ [])) left refl refl refl refl (λ h. absurd (cons≢nil h)) refl

zero-exchanged : Exchanged left (setting 0) world_at_zero
unfolding all any among no_repeats all_zero same values_at rises up_from starting_with counted_by live_of children_with counts_from first_above build_from pattern_from non_zero path_from passing chain_from last_of chains columns_from windowed holds_from
zero-exchanged =
    exchange-passed left (setting 0) world_at_zero refl refl refl refl (λ h. record { heads = refl; rows = refl; next = refl; windows = refl; free = refl }) refl

-- ---- the events

abbrev event : Change → Answer → (touched labels : List ℕ) → Event
event c a ts ls = record { call = change c; answer = a; left = record { work = work_left 1075; touched = ts; labels = ls; list = [] } }

abbrev pub opening : Event
opening =
    record {
      call = open_with clock_sizes (limits_of 0 0 0);
      answer = answered 0 0 0 0 0;
      left = record { work = work_left 1075; touched = []; labels = []; list = [] };
    }

abbrev pub early : Event
early = event (add_in 1 (1 ∷ 2 ∷ []) 0 5) (answered 0 0 2 3 1) (1 ∷ 2 ∷ 9 ∷ 9 ∷ 9 ∷ 9 ∷ []) (1 ∷ 1 ∷ 9 ∷ 9 ∷ 9 ∷ 9 ∷ [])

abbrev pub dormant : Event
dormant = event add_later (answered 0 0 0 0 0) list_lent list_lent

abbrev pub refused : Event
refused = event (add_in 4 (2 ∷ []) 5 5) (answered 21 1 0 0 0) list_lent list_lent

abbrev pub to_three : Event
to_three = event (setting 3) (answered 0 0 0 0 0) list_lent list_lent

abbrev pub to_five : Event
to_five = event (setting 5) (answered 0 0 3 4 1) (1 ∷ 2 ∷ 3 ∷ 9 ∷ 9 ∷ 9 ∷ []) (0 ∷ 0 ∷ 0 ∷ 9 ∷ 9 ∷ 9 ∷ [])

abbrev pub to_nine : Event
to_nine = event (setting 9) (answered 16 0 0 0 0) list_lent list_lent

abbrev pub dropped : Event
dropped = event (removing (1 ∷ [])) (answered 0 0 0 0 0) list_lent list_lent

abbrev pub to_zero : Event
to_zero = event (setting 0) (answered 0 0 2 3 1) (1 ∷ 3 ∷ 9 ∷ 9 ∷ 9 ∷ 9 ∷ []) (0 ∷ 0 ∷ 9 ∷ 9 ∷ 9 ∷ 9 ∷ [])

abbrev pub sound : Event
sound =
    record {
      call = call_of checking (work_only work_lent);
      answer = answered 0 0 0 0 0;
      left = record { work = work_left 1075; touched = []; labels = []; list = [] };
    }

-- ---- the transitions

pub opening-step : Transition (full old_limits) opening.call opening.answer opening.left timed
unfolding all any among no_repeats all_zero same sum_of values_at rises up_from starting_with counted_by live_of children_with counts_from first_above build_from pattern_from non_zero path_from size_sum passing label_from labelled ids_of chain_from last_of chains columns_from windowed holds_from with_minutes batch_of rows_refusal columns_refusal
opening-step = (refl, refl, (refl, refl))

pub early-step : Transition timed early.call early.answer early.left booked
unfolding all any among no_repeats all_zero same sum_of values_at rises up_from starting_with counted_by live_of children_with counts_from first_above build_from pattern_from non_zero path_from size_sum passing label_from labelled ids_of chain_from last_of chains columns_from windowed holds_from with_minutes batch_of rows_refusal columns_refusal
early-step = (refl, refl, early-exchanged)

pub dormant-step : Transition booked dormant.call dormant.answer dormant.left both
unfolding all any among no_repeats all_zero same sum_of values_at rises up_from starting_with counted_by live_of children_with counts_from first_above build_from pattern_from non_zero path_from size_sum passing label_from labelled ids_of chain_from last_of chains columns_from windowed holds_from with_minutes batch_of rows_refusal columns_refusal
dormant-step = (refl, refl, dormant-exchanged)

pub refused-step : Transition both refused.call refused.answer refused.left both
unfolding all any among no_repeats all_zero same sum_of values_at rises up_from starting_with counted_by live_of children_with counts_from first_above build_from pattern_from non_zero path_from size_sum passing label_from labelled ids_of chain_from last_of chains columns_from windowed holds_from with_minutes batch_of rows_refusal columns_refusal
refused-step = (refl, refl, refl)

pub to-three-step : Transition both to_three.call to_three.answer to_three.left at_three
unfolding all any among no_repeats all_zero same sum_of values_at rises up_from starting_with counted_by live_of children_with counts_from first_above build_from pattern_from non_zero path_from size_sum passing label_from labelled ids_of chain_from last_of chains columns_from windowed holds_from with_minutes batch_of rows_refusal columns_refusal
to-three-step = (refl, refl, three-exchanged)

pub to-five-step : Transition at_three to_five.call to_five.answer to_five.left world_at_five
unfolding all any among no_repeats all_zero same sum_of values_at rises up_from starting_with counted_by live_of children_with counts_from first_above build_from pattern_from non_zero path_from size_sum passing label_from labelled ids_of chain_from last_of chains columns_from windowed holds_from with_minutes batch_of rows_refusal columns_refusal
to-five-step = (refl, refl, five-exchanged)

pub to-nine-step : Transition world_at_five to_nine.call to_nine.answer to_nine.left world_at_five
unfolding all any among no_repeats all_zero same sum_of values_at rises up_from starting_with counted_by live_of children_with counts_from first_above build_from pattern_from non_zero path_from size_sum passing label_from labelled ids_of chain_from last_of chains columns_from windowed holds_from with_minutes batch_of rows_refusal columns_refusal
to-nine-step = (refl, refl, refl)

pub dropped_step : Transition world_at_five dropped.call dropped.answer dropped.left left
unfolding all any among no_repeats all_zero same sum_of values_at rises up_from starting_with counted_by live_of children_with counts_from first_above build_from pattern_from non_zero path_from size_sum passing label_from labelled ids_of chain_from last_of chains columns_from windowed holds_from with_minutes batch_of rows_refusal columns_refusal ids_refusal without column_of columns_of
dropped_step = (refl, refl, dropped-exchanged)

pub to-zero-step : Transition left to_zero.call to_zero.answer to_zero.left world_at_zero
unfolding all any among no_repeats all_zero same sum_of values_at rises up_from starting_with counted_by live_of children_with counts_from first_above build_from pattern_from non_zero path_from size_sum passing label_from labelled ids_of chain_from last_of chains columns_from windowed holds_from with_minutes batch_of rows_refusal columns_refusal
to-zero-step = (refl, refl, zero-exchanged)

pub sound-step : Transition world_at_zero sound.call sound.answer sound.left world_at_zero
unfolding all any among no_repeats all_zero same sum_of values_at rises up_from starting_with counted_by live_of children_with counts_from first_above build_from pattern_from non_zero path_from size_sum passing label_from labelled ids_of chain_from last_of chains columns_from windowed holds_from with_minutes batch_of rows_refusal columns_refusal
sound-step = (refl, refl, refl)
