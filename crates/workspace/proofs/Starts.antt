-- The regions of specs/Layout.antt follow one another: each ends where the next starts, or before it, and the last ends at W, so two regions of one
-- table share no place and all lie within W. The starts unfold everywhere, so a user asks omega for the inequality at hand; these records state the
-- tables whole, and a wrong start or length breaks them. Assumes nothing.
use mathlib.Core.Path.{◌≡◌}
use Prim.Native.Nat.{ℕ, ◌+◌, ◌*◌, ◌≤◌}
use native.Mathlib.Omega.{arith}
use Rattle.workspace.specs.Layout.{
  work_need,
  difference,
  rows_at,
  buffer_at,
  marks_at,
  starts_at,
  children_at,
  lost_at,
  links_at,
  plan_at,
  spare,
  flags_at,
  saved_at,
  gather_at,
  read_through,
  counters,
  child_head,
  child_next,
  column_head,
  stash_start,
  lasts_at,
  names_at,
  row_stash,
  pieces_at,
  book_names,
  column_next,
}

-- a batch: field by field, the end of a region is the start of the next
pub record BatchRegions (m n f c : ℕ) : Type 0 where
  pub difference-end : difference + m ≡ rows_at m
  pub rows_end : rows_at m + m ≡ buffer_at m
  pub buffer-end : buffer_at m + m ≡ marks_at m
  pub marks-end : marks_at m + m ≡ starts_at m
  pub starts-end : starts_at m + m ≡ children_at m
  pub children-end : children_at m + m ≡ lost_at m
  pub lost-end : lost_at m + m ≡ links_at m
  pub links_end : links_at m + m ≡ plan_at m
  pub plan-end : plan_at m + f ≡ spare m f
  pub spare-end : spare m f + 3 * f ≡ flags_at m f
  pub flags-end : flags_at m f + 1024 ≡ read_through m f
  pub read-through-end : read_through m f + (c + n) ≡ work_need m n f c

pub batch-regions : (m n f c : ℕ) → BatchRegions m n f c
batch-regions m n f c =
    record {
      difference-end = omega arith;
      rows_end = omega arith;
      buffer-end = omega arith;
      marks-end = omega arith;
      starts-end = omega arith;
      children-end = omega arith;
      lost-end = omega arith;
      links_end = omega arith;
      plan-end = omega arith;
      spare-end = omega arith;
      flags-end = omega arith;
      read-through-end = omega arith;
    }

-- an exchange: likewise, in the places that its plans leave free, before the flags
pub record ExchangeRegions (m f : ℕ) : Type 0 where
  pub plan-end : plan_at m + f ≡ saved_at m f
  pub saved-end : saved_at m f + 2 * f ≡ gather_at m f
  pub gather-end : gather_at m f + m ≤ flags_at m f

pub exchange-regions : (m f : ℕ) → m ≤ f → ExchangeRegions m f
exchange-regions m f h = record { plan-end = omega arith; saved-end = omega arith; gather-end = omega arith }

-- the read-through: likewise; two regions leave places free behind them
pub record ReadRegions (m n f c : ℕ) : Type 0 where
  pub counters-end : counters + m ≡ child_head m
  pub child-head-end : child_head m + m ≡ child_next m
  pub child-next-end : child_next m + m ≡ column_head m
  pub column-head-end : column_head m + m ≡ stash_start m
  pub stash-start-end : stash_start m + (m + 1) ≤ lasts_at m
  pub lasts-end : lasts_at m + m ≤ names_at m
  pub names-end : names_at m + f ≡ row_stash m f
  pub row-stash-end : row_stash m f + f ≡ pieces_at m f
  pub pieces_end : pieces_at m f + 2 * f ≡ flags_at m f
  -- the flags of a batch, which the read-through leaves
  pub flags-left : flags_at m f + 1024 ≡ book_names m f
  pub book-names-end : book_names m f + c ≡ column_next m f c
  pub column-next-end : column_next m f c + n ≡ work_need m n f c

pub read-regions : (m n f c : ℕ) → 1 ≤ m → ReadRegions m n f c
read-regions m n f c h =
    record {
      counters-end = omega arith;
      child-head-end = omega arith;
      child-next-end = omega arith;
      column-head-end = omega arith;
      stash-start-end = omega arith;
      lasts-end = omega arith;
      names-end = omega arith;
      row-stash-end = omega arith;
      pieces_end = omega arith;
      flags-left = omega arith;
      book-names-end = omega arith;
      column-next-end = omega arith;
    }
