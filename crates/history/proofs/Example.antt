-- The listed example, step by step, on the worlds of ExampleWorlds.antt: the event of each call, the transitions and the run, all by computing. ExampleClock.antt has
-- the calls with windows and the clock.
-- Assumes nothing.
use mathlib.Core.Path.{refl}
use mathlib.Core.List.{List, [], ◌∷◌}
use Prim.Native.Nat.{ℕ}
use Rattle.lists.specs.Lists.{all, any, among, no_repeats, all_zero, same, sum_of, values_at, rises, up_from, pairs_of}
use Rattle.symbolic.specs.Columns.{starting_with, counted_by, with_minutes, live_of}
use Rattle.symbolic.specs.Factor.{children_with, counts_from, first_above, build_from, pattern_from, non_zero, path_from, size_sum}
use Rattle.symbolic.specs.Batch.{passing, label_from}
use Rattle.symbolic.specs.NextRow.{first_from}
use Rattle.symbolic.specs.Change.{ids_of, without, column_of, columns_of}
use Rattle.symbolic.specs.Grades.{Limits, limits_of, old_limits}
use Rattle.pool.specs.Chains.{chain_from, last_of}
use Rattle.pool.specs.Whole.{chains}
use Rattle.book.specs.Book.{columns_from}
use Rattle.windows.specs.Windowed.{windowed}
use Rattle.tables.specs.Stored.{holds_from}
use Rattle.tables.specs.Tables.{Sizes}
use Rattle.calls.specs.Refusals.{batch_of, rows_refusal, columns_refusal, ids_refusal}
use Rattle.calls.specs.Calls.{Change, removing, ask_next_row, ask_parent, ask_path, ask_column, ask_meets, ask_common, checking, work_only, Call, call_of}
use Rattle.calls.specs.Changes.{labelled}
use Rattle.calls.specs.Steps.{Answer, Transition}
use Rattle.history.specs.Runs.{Event, Run, Begun, Plain}
use Rattle.history.specs.Example.{asked_sizes, work_lent, list_lent, add, change, ask, ask_from, open_with, answered, valued_at, valued, work_left, last_sizes, event_calls, event_answers, event_touched, event_labels, event_work, event_lists, shown_from}
use Rattle.history.specs.Statements.{ConcreteRun}
use Rattle.history.proofs.ExampleClock.{timed, booked, both, at_three, world_at_five, left, world_at_zero, opening, early, dormant, refused, to_three, to_five, to_nine, dropped, to_zero, sound, opening-step, early-step, dormant-step, refused-step, to-three-step, to-five-step, to-nine-step, dropped_step, to-zero-step, sound-step}
use Rattle.history.proofs.ExampleWorlds.{world0, world1, world2, world3, world4, world5, world6, fresh, full, first-exchanged, second-exchanged, third-exchanged, removal-exchanged, returned-exchanged, filled-exchanged, emptied-exchanged, refilled-exchanged}

-- ---- the run

abbrev event : Change → Answer → (touched labels : List ℕ) → Event
event c a ts ls = record { call = change c; answer = a; left = record { work = work_left 1124; touched = ts; labels = ls; list = [] } }

abbrev first : Event
first = event (add 1 (1 ∷ 3 ∷ [])) (answered 0 0 2 3 1) (1 ∷ 3 ∷ 9 ∷ 9 ∷ 9 ∷ 9 ∷ []) (1 ∷ 1 ∷ 9 ∷ 9 ∷ 9 ∷ 9 ∷ [])

abbrev again : Event
again = event (add 1 (2 ∷ [])) (answered 10 1 0 0 0) list_lent list_lent

abbrev second : Event
second = event (add 2 (1 ∷ 4 ∷ [])) (answered 0 0 3 6 1) (1 ∷ 3 ∷ 4 ∷ 9 ∷ 9 ∷ 9 ∷ []) (1 ∷ 1 ∷ 1 ∷ 9 ∷ 9 ∷ 9 ∷ [])

abbrev third : Event
third = event (add 3 (2 ∷ 3 ∷ [])) (answered 0 0 3 5 1) (2 ∷ 3 ∷ 4 ∷ 9 ∷ 9 ∷ 9 ∷ []) (1 ∷ 1 ∷ 1 ∷ 9 ∷ 9 ∷ 9 ∷ [])

abbrev checked : Event
checked = record { call = call_of checking (work_only work_lent); answer = answered 0 0 0 0 0; left = record { work = work_left 1124; touched = []; labels = []; list = [] } }

abbrev question : Call → (value : ℕ) → (list : List ℕ) → Event
question k v xs = record { call = k; answer = valued v; left = record { work = work_left 1124; touched = []; labels = []; list = xs } }

abbrev turned : Call → (number : ℕ) → Event
turned k n = record { call = k; answer = answered n 0 0 0 0; left = record { work = work_left 1124; touched = []; labels = []; list = k.lent.list } }

abbrev path : Event
path = question (ask_from (ask_path 1) 1) 3 (9 ∷ 1 ∷ 3 ∷ 4 ∷ 9 ∷ 9 ∷ [])

abbrev column : Event
column = question (ask_from (ask_column 1) 0) 3 (1 ∷ 3 ∷ 3 ∷ 1 ∷ 4 ∷ 1 ∷ [])

abbrev next_row : (from row count : ℕ) → Event
next_row i x n = record { call = ask (ask_next_row i 1); answer = valued_at x n; left = record { work = work_left 1124; touched = []; labels = []; list = [] } }

abbrev walk1 : Event
walk1 = next_row 1 1 3

abbrev walk2 : Event
walk2 = next_row 2 3 1

abbrev walk3 : Event
walk3 = next_row 4 4 1

abbrev walk4 : Event
walk4 = next_row 5 0 0

abbrev beyond : Event
beyond = turned (ask (ask_next_row 6 1)) 17

abbrev parent : Event
parent = question (ask (ask_parent 1)) 3 []

abbrev meets : Event
meets = question (ask_from (ask_meets 4) 2) 3 (9 ∷ 9 ∷ 1 ∷ 3 ∷ 4 ∷ 9 ∷ [])

abbrev joined : Event
joined = question (ask (ask_common (1 ∷ 2 ∷ []))) 3 []

abbrev apart : Event
apart = question (ask (ask_common (1 ∷ 5 ∷ []))) 0 []

abbrev none_named : Event
none_named = turned (ask (ask_common [])) 7

abbrev outside : Event
outside = turned (ask_from (ask_meets 6) 0) 17

abbrev no_room : Event
no_room = turned (ask_from (ask_meets 4) 4) 18

abbrev removal : Event
removal =
    event (removing (2 ∷ [])) (answered 0 0 3 6 1) (1 ∷ 3 ∷ 4 ∷ 9 ∷ 9 ∷ 9 ∷ []) (1 ∷ 1 ∷ 1 ∷ 9 ∷ 9 ∷ 9 ∷ [])

-- ---- openings with limits

abbrev opened : Sizes → Limits → Answer → (work : List ℕ) → Event
opened l g a w = record { call = open_with l g; answer = a; left = record { work = w; touched = []; labels = []; list = [] } }

abbrev no_rows : Event
no_rows = opened (record { m = 0; n = 8; f = 9; c = 16 }) (limits_of 2 3 4) (answered 1 0 0 0 0) work_lent

abbrev no_limits : Event
no_limits = opened asked_sizes (limits_of 2 2 3) (answered 20 0 0 0 0) work_lent

abbrev left_at0 : Event
left_at0 = opened (record { m = 5; n = 8; f = 0; c = 16 }) (limits_of 2 3 4) (answered 5 0 0 0 0) work_lent

abbrev two_rows : Event
two_rows = opened last_sizes (limits_of 2 3 4) (answered 0 0 0 0 0) (work_left 1055)

abbrev plain_two : Event
plain_two = opened last_sizes (limits_of 0 0 0) (answered 0 0 0 0 0) (work_left 1055)

abbrev returned : Event
returned = event (add 4 (1 ∷ 4 ∷ [])) (answered 0 0 3 6 1) (1 ∷ 3 ∷ 4 ∷ 9 ∷ 9 ∷ 9 ∷ []) (1 ∷ 1 ∷ 1 ∷ 9 ∷ 9 ∷ 9 ∷ [])

-- a batch on two rows that touches both
abbrev graded : Change → (entries grade : ℕ) → Event
graded c n g =
    record {
      call = change c;
      answer = answered 0 0 2 n g;
      left = record { work = work_left 1055; touched = 1 ∷ 2 ∷ 9 ∷ 9 ∷ 9 ∷ 9 ∷ []; labels = 1 ∷ 1 ∷ 9 ∷ 9 ∷ 9 ∷ 9 ∷ []; list = [] };
    }

abbrev filled : Event
filled = graded (add 1 (1 ∷ 2 ∷ [])) 3 3

abbrev emptied : Event
emptied = graded (removing (1 ∷ [])) 3 3

abbrev refilled : Event
refilled = graded (add 1 (1 ∷ 2 ∷ [])) 3 1

abbrev plain1 : Plain
plain1 = record { sizes = asked_sizes; limits = old_limits; register = record { m = 5; clock = 0; columns = [] } }

opened-begun : Begun world1 plain1
unfolding all any among no_repeats all_zero same sum_of values_at rises up_from starting_with counted_by live_of children_with counts_from first_above build_from pattern_from non_zero path_from size_sum passing label_from labelled ids_of chain_from last_of chains columns_from windowed holds_from with_minutes batch_of rows_refusal columns_refusal
opened-begun =
    record {
      before = world0;
      asked = asked_sizes;
      limits = limits_of 0 0 0;
      lent = work_only work_lent;
      answer = answered 0 0 0 0 0;
      left = record { work = work_left 1124; touched = []; labels = []; list = [] };
      step = (refl, refl, (refl, refl));
      taken = refl;
      plain = refl;
    }

first_step : Transition world1 first.call first.answer first.left world2
unfolding all any among no_repeats all_zero same sum_of values_at rises up_from starting_with counted_by live_of children_with counts_from first_above build_from pattern_from non_zero path_from size_sum passing label_from labelled ids_of chain_from last_of chains columns_from windowed holds_from with_minutes batch_of rows_refusal columns_refusal
first_step = (refl, refl, first-exchanged)

again-step : Transition world2 again.call again.answer again.left world2
unfolding all any among no_repeats all_zero same sum_of values_at rises up_from starting_with counted_by live_of children_with counts_from first_above build_from pattern_from non_zero path_from size_sum passing label_from labelled ids_of chain_from last_of chains columns_from windowed holds_from with_minutes batch_of rows_refusal columns_refusal
again-step = (refl, refl, refl)

second-step : Transition world2 second.call second.answer second.left world3
unfolding all any among no_repeats all_zero same sum_of values_at rises up_from starting_with counted_by live_of children_with counts_from first_above build_from pattern_from non_zero path_from size_sum passing label_from labelled ids_of chain_from last_of chains columns_from windowed holds_from with_minutes batch_of rows_refusal columns_refusal
second-step = (refl, refl, second-exchanged)

third-step : Transition world3 third.call third.answer third.left world4
unfolding all any among no_repeats all_zero same sum_of values_at rises up_from starting_with counted_by live_of children_with counts_from first_above build_from pattern_from non_zero path_from size_sum passing label_from labelled ids_of chain_from last_of chains columns_from windowed holds_from with_minutes batch_of rows_refusal columns_refusal
third-step = (refl, refl, third-exchanged)

checked-step : Transition world4 checked.call checked.answer checked.left world4
unfolding all any among no_repeats all_zero same sum_of values_at rises up_from starting_with counted_by live_of children_with counts_from first_above build_from pattern_from non_zero path_from size_sum passing label_from labelled ids_of chain_from last_of chains columns_from windowed holds_from with_minutes batch_of rows_refusal columns_refusal
checked-step = (refl, refl, refl)

path-step : Transition world4 path.call path.answer path.left world4
unfolding all any among no_repeats all_zero same sum_of values_at rises up_from starting_with counted_by live_of children_with counts_from first_above build_from pattern_from non_zero path_from size_sum passing label_from labelled ids_of chain_from last_of chains columns_from windowed holds_from with_minutes batch_of rows_refusal columns_refusal
path-step = (refl, refl, refl)

column-step : Transition world4 column.call column.answer column.left world4
unfolding all any among no_repeats all_zero same sum_of values_at rises up_from starting_with counted_by live_of children_with counts_from first_above build_from pattern_from non_zero path_from size_sum passing label_from labelled ids_of chain_from last_of chains columns_from windowed holds_from with_minutes batch_of rows_refusal columns_refusal pairs_of
column-step = (refl, refl, refl)

walk1-step : Transition world4 walk1.call walk1.answer walk1.left world4
unfolding all any among no_repeats all_zero same sum_of values_at rises up_from starting_with counted_by live_of children_with counts_from first_above build_from pattern_from non_zero path_from size_sum passing label_from labelled ids_of chain_from last_of chains columns_from windowed holds_from with_minutes batch_of rows_refusal columns_refusal first_from
walk1-step = (refl, refl, refl)

walk2-step : Transition world4 walk2.call walk2.answer walk2.left world4
unfolding all any among no_repeats all_zero same sum_of values_at rises up_from starting_with counted_by live_of children_with counts_from first_above build_from pattern_from non_zero path_from size_sum passing label_from labelled ids_of chain_from last_of chains columns_from windowed holds_from with_minutes batch_of rows_refusal columns_refusal first_from
walk2-step = (refl, refl, refl)

walk3-step : Transition world4 walk3.call walk3.answer walk3.left world4
unfolding all any among no_repeats all_zero same sum_of values_at rises up_from starting_with counted_by live_of children_with counts_from first_above build_from pattern_from non_zero path_from size_sum passing label_from labelled ids_of chain_from last_of chains columns_from windowed holds_from with_minutes batch_of rows_refusal columns_refusal first_from
walk3-step = (refl, refl, refl)

walk4-step : Transition world4 walk4.call walk4.answer walk4.left world4
unfolding all any among no_repeats all_zero same sum_of values_at rises up_from starting_with counted_by live_of children_with counts_from first_above build_from pattern_from non_zero path_from size_sum passing label_from labelled ids_of chain_from last_of chains columns_from windowed holds_from with_minutes batch_of rows_refusal columns_refusal first_from
walk4-step = (refl, refl, refl)

beyond-step : Transition world4 beyond.call beyond.answer beyond.left world4
unfolding all any among no_repeats all_zero same sum_of values_at rises up_from starting_with counted_by live_of children_with counts_from first_above build_from pattern_from non_zero path_from size_sum passing label_from labelled ids_of chain_from last_of chains columns_from windowed holds_from with_minutes batch_of rows_refusal columns_refusal
beyond-step = (refl, refl, refl)

parent-step : Transition world4 parent.call parent.answer parent.left world4
unfolding all any among no_repeats all_zero same sum_of values_at rises up_from starting_with counted_by live_of children_with counts_from first_above build_from pattern_from non_zero path_from size_sum passing label_from labelled ids_of chain_from last_of chains columns_from windowed holds_from with_minutes batch_of rows_refusal columns_refusal
parent-step = (refl, refl, refl)

meets-step : Transition world4 meets.call meets.answer meets.left world4
unfolding all any among no_repeats all_zero same sum_of values_at rises up_from starting_with counted_by live_of children_with counts_from first_above build_from pattern_from non_zero path_from size_sum passing label_from labelled ids_of chain_from last_of chains columns_from windowed holds_from with_minutes batch_of rows_refusal columns_refusal
meets-step = (refl, refl, refl)

joined_step : Transition world4 joined.call joined.answer joined.left world4
unfolding all any among no_repeats all_zero same sum_of values_at rises up_from starting_with counted_by live_of children_with counts_from first_above build_from pattern_from non_zero path_from size_sum passing label_from labelled ids_of chain_from last_of chains columns_from windowed holds_from with_minutes batch_of rows_refusal columns_refusal
joined_step = (refl, refl, refl)

apart-step : Transition world4 apart.call apart.answer apart.left world4
unfolding all any among no_repeats all_zero same sum_of values_at rises up_from starting_with counted_by live_of children_with counts_from first_above build_from pattern_from non_zero path_from size_sum passing label_from labelled ids_of chain_from last_of chains columns_from windowed holds_from with_minutes batch_of rows_refusal columns_refusal
apart-step = (refl, refl, refl)

none-named-step : Transition world4 none_named.call none_named.answer none_named.left world4
unfolding all any among no_repeats all_zero same sum_of values_at rises up_from starting_with counted_by live_of children_with counts_from first_above build_from pattern_from non_zero path_from size_sum passing label_from labelled ids_of chain_from last_of chains columns_from windowed holds_from with_minutes batch_of rows_refusal columns_refusal
none-named-step = (refl, refl, refl)

outside-step : Transition world4 outside.call outside.answer outside.left world4
unfolding all any among no_repeats all_zero same sum_of values_at rises up_from starting_with counted_by live_of children_with counts_from first_above build_from pattern_from non_zero path_from size_sum passing label_from labelled ids_of chain_from last_of chains columns_from windowed holds_from with_minutes batch_of rows_refusal columns_refusal
outside-step = (refl, refl, refl)

no-room-step : Transition world4 no_room.call no_room.answer no_room.left world4
unfolding all any among no_repeats all_zero same sum_of values_at rises up_from starting_with counted_by live_of children_with counts_from first_above build_from pattern_from non_zero path_from size_sum passing label_from labelled ids_of chain_from last_of chains columns_from windowed holds_from with_minutes batch_of rows_refusal columns_refusal
no-room-step = (refl, refl, refl)

removal-step : Transition world4 removal.call removal.answer removal.left world5
unfolding all any among no_repeats all_zero same sum_of values_at rises up_from starting_with counted_by live_of children_with counts_from first_above build_from pattern_from non_zero path_from size_sum passing label_from labelled ids_of chain_from last_of chains columns_from windowed holds_from with_minutes batch_of rows_refusal columns_refusal ids_refusal without column_of columns_of
removal-step = (refl, refl, removal-exchanged)

no-rows-step : Transition world5 no_rows.call no_rows.answer no_rows.left world5
unfolding all any among no_repeats all_zero same sum_of values_at rises up_from starting_with counted_by live_of children_with counts_from first_above build_from pattern_from non_zero path_from size_sum passing label_from labelled ids_of chain_from last_of chains columns_from windowed holds_from with_minutes batch_of rows_refusal columns_refusal
no-rows-step = (refl, refl, refl)

no-limits-step : Transition world5 no_limits.call no_limits.answer no_limits.left world5
no-limits-step = (refl, refl, refl)

left-at-0-step : Transition world5 left_at0.call left_at0.answer left_at0.left world5
left-at-0-step = (refl, refl, refl)

returned-step : Transition world5 returned.call returned.answer returned.left world6
unfolding all any among no_repeats all_zero same sum_of values_at rises up_from starting_with counted_by live_of children_with counts_from first_above build_from pattern_from non_zero path_from size_sum passing label_from labelled ids_of chain_from last_of chains columns_from windowed holds_from with_minutes batch_of rows_refusal columns_refusal
returned-step = (refl, refl, returned-exchanged)

two-rows-step : Transition world6 two_rows.call two_rows.answer two_rows.left (fresh (limits_of 2 3 4))
unfolding all any among no_repeats all_zero same sum_of values_at rises up_from starting_with counted_by live_of children_with counts_from first_above build_from pattern_from non_zero path_from size_sum passing label_from labelled ids_of chain_from last_of chains columns_from windowed holds_from with_minutes batch_of rows_refusal columns_refusal
two-rows-step = (refl, refl, (refl, refl))

filled-step : Transition (fresh (limits_of 2 3 4)) filled.call filled.answer filled.left (full (limits_of 2 3 4))
unfolding all any among no_repeats all_zero same sum_of values_at rises up_from starting_with counted_by live_of children_with counts_from first_above build_from pattern_from non_zero path_from size_sum passing label_from labelled ids_of chain_from last_of chains columns_from windowed holds_from with_minutes batch_of rows_refusal columns_refusal
filled-step = (refl, refl, filled-exchanged)

emptied-step : Transition (full (limits_of 2 3 4)) emptied.call emptied.answer emptied.left (fresh (limits_of 2 3 4))
unfolding all any among no_repeats all_zero same sum_of values_at rises up_from starting_with counted_by live_of children_with counts_from first_above build_from pattern_from non_zero path_from size_sum passing label_from labelled ids_of chain_from last_of chains columns_from windowed holds_from with_minutes batch_of rows_refusal columns_refusal ids_refusal without column_of columns_of
emptied-step = (refl, refl, emptied-exchanged)

plain-two-step : Transition (fresh (limits_of 2 3 4)) plain_two.call plain_two.answer plain_two.left (fresh old_limits)
unfolding all any among no_repeats all_zero same sum_of values_at rises up_from starting_with counted_by live_of children_with counts_from first_above build_from pattern_from non_zero path_from size_sum passing label_from labelled ids_of chain_from last_of chains columns_from windowed holds_from with_minutes batch_of rows_refusal columns_refusal
plain-two-step = (refl, refl, (refl, refl))

refilled-step : Transition (fresh old_limits) refilled.call refilled.answer refilled.left (full old_limits)
unfolding all any among no_repeats all_zero same sum_of values_at rises up_from starting_with counted_by live_of children_with counts_from first_above build_from pattern_from non_zero path_from size_sum passing label_from labelled ids_of chain_from last_of chains columns_from windowed holds_from with_minutes batch_of rows_refusal columns_refusal
refilled-step = (refl, refl, refilled-exchanged)

pub concrete-run : ConcreteRun
unfolding all same up_from Run event_calls event_answers event_touched event_labels event_work event_lists shown_from chain_from values_at pairs_of opened-begun
concrete-run =
    record {
      start = world1;
      plain = plain1;
      events = first ∷ again ∷ second ∷ third ∷ [];
      end = world4;
      begun = opened-begun;
      asked = refl;
      limits = refl;
      run = (world2, (first_step, (world2, (again-step, (world3, (second-step, (world4, (third-step, refl))))))));
      calls = refl;
      answers = refl;
      touched = refl;
      labels = refl;
      shows = refl;
      later = checked ∷ path ∷ column ∷ walk1 ∷ walk2 ∷ walk3 ∷ walk4 ∷ beyond ∷ parent ∷ meets ∷ joined ∷ apart ∷ none_named ∷ outside ∷ no_room ∷ removal ∷ [];
      last = world5;
      later-run =
          (world4, (checked-step, (world4, (path-step, (world4, (column-step, (world4, (walk1-step, (world4, (walk2-step, (world4, (walk3-step, (world4, (walk4-step, (world4, (beyond-step, (world4, (parent-step, (world4, (meets-step, (world4, (joined_step, (world4, (apart-step, (world4, (none-named-step, (world4, (outside-step, (world4, (no-room-step, (world5, (removal-step, refl))))))))))))))))))))))))))))))));
      later-calls = refl;
      later-answers = refl;
      later-touched = refl;
      later-labels = refl;
      later-lists = refl;
      later-work = refl;
      later-shows = refl;
      last-events = no_rows ∷ no_limits ∷ left_at0 ∷ returned ∷ two_rows ∷ filled ∷ emptied ∷ plain_two ∷ refilled ∷ [];
      reopened = full old_limits;
      last-run =
          (world5, (no-rows-step, (world5, (no-limits-step, (world5, (left-at-0-step, (world6, (returned-step, (fresh (limits_of 2 3 4), (two-rows-step, (full (limits_of 2 3 4), (filled-step, (fresh (limits_of 2 3 4), (emptied-step, (fresh old_limits, (plain-two-step, (full old_limits, (refilled-step, refl))))))))))))))))));
      last-calls = refl;
      last-answers = refl;
      last-touched = refl;
      last-labels = refl;
      last-work = refl;
      last-shows = refl;
      clock-events = opening ∷ early ∷ dormant ∷ refused ∷ to_three ∷ to_five ∷ to_nine ∷ [];
      at_five = world_at_five;
      clock-run =
          (timed, (opening-step, (booked, (early-step, (both, (dormant-step, (both, (refused-step, (at_three, (to-three-step, (world_at_five, (to-five-step, (world_at_five, (to-nine-step, refl))))))))))))));
      clock-calls = refl;
      clock-answers = refl;
      clock-touched = refl;
      clock-labels = refl;
      clock-work = refl;
      clock-stands = refl;
      clock-shows = refl;
      back-events = dropped ∷ to_zero ∷ sound ∷ [];
      at_zero = world_at_zero;
      back-run = (left, (dropped_step, (world_at_zero, (to-zero-step, (world_at_zero, (sound-step, refl))))));
      back-calls = refl;
      back-answers = refl;
      back-touched = refl;
      back-labels = refl;
      back-stands = refl;
      back-shows = refl;
    }
