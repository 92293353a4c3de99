-- Document 01's instances (specs/Cases.antt): each side computes to the other. Only here are whole factors unfolded. Assumes nothing.
use mathlib.Core.Path.{refl}
use Rattle.lists.specs.Lists.{any, among, sum_of}
use Rattle.symbolic.specs.Columns.{starting_with}
use Rattle.symbolic.specs.Factor.{children_with, counts_from, first_above, build_from, pattern_from, non_zero, path_from, size_sum}
use Rattle.symbolic.specs.Batch.{touched_from, label_from, labels_of}
use Rattle.symbolic.specs.Change.{without, column_of, columns_of}
use Rattle.symbolic.specs.Cases.{Cases}

pub instances : Cases
unfolding any among starting_with children_with counts_from first_above build_from pattern_from non_zero path_from size_sum touched_from label_from labels_of sum_of without column_of columns_of
instances = record {
  fresh = refl;
  state = refl;
  first_rows = refl;
  first-counts = refl;
  batch-touched = refl;
  batch-labels = refl;
  batch-entries = refl;
  removal-touched = refl;
  removal-entries = refl;
  removal-state = refl;
  twice = refl;
  again-touched = refl;
  again-entries = refl;
  exchange-entries = refl;
  alone = refl;
  batch-size = refl;
  grade-one = refl;
  grade-two = refl;
  limits-0 = refl;
  limits-1 = refl;
  limits-2 = refl;
  limits-3 = refl;
  limits-8 = refl;
  limits-9 = refl;
  limits-none = refl;
  limits-zeros = refl;
  limits-given = refl;
  limits-least = refl;
  limits-first = refl;
  limits-equal = refl;
  limits-last = refl;
  limits-zero = refl;
  path = refl;
}
