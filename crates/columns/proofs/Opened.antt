-- The lengths of the values of fresh columns. Assumes nothing.
use mathlib.Core.Path.{◌≡◌}
use Prim.Native.Nat.{ℕ, ◌≤◌}
use lib.ListN.{length, replicate, length-replicate}
use Rattle.lists.specs.Lists.{up_from}
use Rattle.lists.proofs.Place.{padded-length}
use Rattle.lists.proofs.Rising.{up-length}
use Rattle.columns.specs.Opened.{opened_rows, opened_counts}

module _ (m f : ℕ) where
  pub rows-length : m ≤ f → length (opened_rows m f) ≡ f
  rows-length h = padded-length (up_from 1 m) m f (up-length 1 m) h

  pub counts-length : m ≤ f → length (opened_counts m f) ≡ f
  counts-length h = padded-length (replicate m 1) m f (length-replicate m 1) h
