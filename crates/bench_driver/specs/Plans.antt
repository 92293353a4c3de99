-- The parts of the lists that a batch of a plan takes. Assumes nothing: these are definitions.
use Rattle.std.specs.Prelude.{◌≡◌, List, ℕ, ◌≤◌, ◌+◌, ◌-◌, length, take, drop, slice_index}
use Rattle.bench_driver.specs.declared.plan.Batch.{Batch}

-- a part of a list: from the place first up to, not including, the place end
pub record PartOf (list : List ℕ) (first end : ℕ) (part : List ℕ) : Type 0 where
  pub ordered : first ≤ end
  pub within : end ≤ length list
  pub part-is : part ≡ take (end - first) (drop first list)

-- each part of a batch lies in its own list, where the batch's six numbers say; there are as many row counts as ids
pub record PartsIn (numbers ids row_counts row_list : List ℕ) (b : Batch) : Type 0 where
  pub id-part : PartOf ids (slice_index numbers 1) (slice_index numbers 2) b.ids.now
  pub count-part : PartOf row_counts (slice_index numbers 3) (slice_index numbers 3 + (slice_index numbers 2 - slice_index numbers 1)) b.row_counts.now
  pub row-part : PartOf row_list (slice_index numbers 4) (slice_index numbers 5) b.row_list.now
