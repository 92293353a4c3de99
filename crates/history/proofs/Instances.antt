-- Document 01's instances and document 02's, all by computing: each side of each line is unfolded to a number or a list. The largest is a factor of 24 columns.
-- Nothing else is unfolded so far; elsewhere the factor stays shut.
-- Assumes nothing.
use mathlib.Core.Path.{refl}
use Rattle.lists.specs.Lists.{all, any, among, sum_of, up_from, pairs_of}
use Rattle.symbolic.specs.Columns.{starting_with, counted_by, with_minutes, live_of}
use Rattle.symbolic.specs.Factor.{children_with, counts_from, first_above, build_from, pattern_from, non_zero, path_from, size_sum}
use Rattle.symbolic.specs.Batch.{passing, label_from}
use Rattle.symbolic.specs.NextRow.{first_from}
use Rattle.symbolic.specs.Change.{ids_of, without, column_of, columns_of}
use Rattle.calls.specs.Refusals.{batch_of, rows_refusal, columns_refusal, ids_refusal}
use Rattle.calls.specs.Changes.{labelled}
use Rattle.history.specs.Instances.{StarredInstances, NinthInstance, LimitInstances, RecordInstances, MeetingInstances, NextInstances, WindowInstances}

pub starred-instances : StarredInstances
unfolding any among sum_of up_from starting_with counted_by live_of children_with counts_from first_above build_from pattern_from non_zero path_from size_sum passing label_from labelled ids_of without column_of columns_of with_minutes batch_of rows_refusal columns_refusal pairs_of
starred-instances =
    record {
      fresh = (refl, refl);
      state-1 = (refl, refl);
      state-2 = (refl, refl);
      state-3 = (refl, refl);
      state-4 = (refl, refl);
      state-5 = (refl, refl);
      batch-touched = refl;
      batch-labels = refl;
      batch-entries = refl;
      batch-answer = refl;
      batch-register = refl;
      removal-touched = refl;
      removal-entries = refl;
      removal-answer = refl;
      removal-1 = (refl, refl);
      removal-3 = (refl, refl);
      removal-4 = (refl, refl);
      twice-1 = (refl, refl);
      twice-3 = (refl, refl);
      alone = (refl, refl);
      room-9 = refl;
      room-8 = refl;
      grade-1 = refl;
      grade-2 = refl;
      answer-255 = refl;
      answer-256 = refl;
    }

pub ninth-instance : NinthInstance
unfolding among sum_of starting_with counted_by live_of children_with counts_from first_above build_from path_from ids_of without with_minutes batch_of rows_refusal columns_refusal ids_refusal
ninth-instance = record { emptied = refl; repeated = refl; equal-rows = refl; path = refl }

pub limit-instances : LimitInstances
unfolding any among sum_of up_from starting_with counted_by live_of children_with counts_from first_above build_from pattern_from non_zero path_from size_sum passing label_from labelled without column_of columns_of with_minutes batch_of
limit-instances =
    record {
      opening-000 = refl;
      opening-007 = refl;
      opening-012 = refl;
      opening-123 = refl;
      opening-223 = refl;
      opening-232 = refl;
      opening-234 = refl;
      opening-most = refl;
      opening-1 = refl;
      opening-2 = refl;
      opening-3 = refl;
      opening-4 = refl;
      answer-255 = refl;
      answer-256 = refl;
      answer-removal = refl;
      answer-beyond = refl;
      later-000 = λ t. refl;
      later-change = λ t. refl;
      later-question = λ t. refl;
      later-short = refl;
      later-123 = λ t. refl;
      later-233 = λ t. refl;
    }

pub record-instances : RecordInstances
record-instances =
    record {
      default-1 = refl;
      default-most = refl;
      enough = refl;
      one-short = refl;
      work-short = refl;
      left-at-0 = refl;
      named-16 = refl;
      rows-0 = refl;
      rows-4097 = refl;
      rows-most = refl;
      rows-4096 = refl;
      in-record = refl;
    }

pub meeting-instances : MeetingInstances
unfolding all among starting_with counted_by live_of children_with counts_from first_above build_from path_from passing with_minutes batch_of
meeting-instances =
    record {
      meets-1 = refl;
      meets-2 = refl;
      meets-3 = refl;
      meets-4 = refl;
      meets-5 = refl;
      places = refl;
      common-12 = refl;
      common-31 = refl;
      common-124 = refl;
      common-15 = refl;
      common-125 = refl;
      common-answer = refl;
      common-1 = refl;
      common-55 = refl;
      common-212 = refl;
      rows-0 = refl;
      rows-64 = refl;
      rows-65 = refl;
      row-0 = refl;
      row-6 = refl;
      rows-16 = refl;
      rows-01 = refl;
      place-3 = refl;
      place-4 = refl;
      place-7 = refl;
      order-7 = refl;
      order-17 = refl;
      order-5 = refl;
    }

pub next-instances : NextInstances
unfolding among starting_with counted_by live_of children_with counts_from first_above build_from pattern_from non_zero with_minutes batch_of first_from
next-instances =
    record {
      stands = refl;
      absent = refl;
      ends = refl;
      diagonal = refl;
      below = refl;
      parent = refl;
      root = refl;
      last = refl;
      row-0 = refl;
      row-5 = refl;
      row-6 = refl;
      column-0 = refl;
      column-6 = refl;
    }

pub window-instances : WindowInstances
unfolding all any among sum_of up_from starting_with counted_by live_of children_with counts_from first_above build_from pattern_from non_zero path_from size_sum passing label_from labelled ids_of without column_of columns_of with_minutes batch_of rows_refusal columns_refusal ids_refusal
window-instances =
    record {
      none = refl;
      from-0 = refl;
      to-0 = refl;
      empty = refl;
      turned = refl;
      one-minute = refl;
      all-minutes = refl;
      last-minute = refl;
      beyond = refl;
      order-13 = refl;
      order-14 = refl;
      order-21 = refl;
      order-8 = refl;
      order-12 = refl;
      order-16 = refl;
      firsts-short = refl;
      seconds-short = refl;
      minutes-none = refl;
      at-4 = refl;
      at_5 = refl;
      at_8 = refl;
      at_9 = refl;
      always = λ t. refl;
      at-0 = refl;
      at_last = refl;
      past-last = refl;
      booked-none = refl;
      booked-kept = refl;
      booked-empty = refl;
      free-none = refl;
      free-kept = refl;
      added-0 = refl;
      removed-0 = refl;
      clock-4 = refl;
      clock-0 = refl;
      clock-5 = refl;
      batch-touched = refl;
      batch-labels = refl;
      batch-entries = refl;
      again = refl;
      removal = refl;
      other = refl;
      booked-rows = refl;
      live-rows = refl;
      clock-fits = refl;
      clock-16 = refl;
      together = refl;
      in-turn = refl;
      paths = refl;
      zeros = refl;
      larger = refl;
      equal-touched = refl;
      equal-entries = refl;
      equal-factor = refl;
      back = refl;
    }
