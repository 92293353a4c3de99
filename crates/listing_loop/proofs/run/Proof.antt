-- `run` meets its contract: no factor is open and nothing went through at first, and the tables have the listing's lengths. Assumes nothing.
use mathlib.Core.Logic.{inl}
use Prim.Native.Nat.{ℕ}
use native.Mathlib.Omega.{arith}
use borrow.Author.Rules.{rules}
use lib.ListN.{replicate, length-replicate}
use Rattle.tables.specs.Tables.{tables_of}
use Rattle.factor.specs.declared.Factor.{Factor}
use Rattle.listing_memory.specs.Memory.{Lengths, memory_of}
use Rattle.listing_loop.proofs.Running.{listed}
use Rattle.listing_loop.proofs.run.Statement.{statement}
use Rattle.listing_loop.proofs.run.Tie as tie

-- tables of zeros with the listing's lengths
zero-lengths : (x : Factor) → Lengths (memory_of x (tables_of (replicate 64 0) (replicate 64 0) (replicate 2048 0) (replicate 2048 0) (replicate 2048 0) (replicate 256 0) (replicate 2048 0) (replicate 2048 0) (replicate 512 0)) (replicate 12032 0) (replicate 64 0) (replicate 64 0))
zero-lengths x =
    record {
      heads = length-replicate {A = ℕ} 64 0;
      parents = length-replicate {A = ℕ} 64 0;
      rows = length-replicate {A = ℕ} 2048 0;
      counts = length-replicate {A = ℕ} 2048 0;
      next = length-replicate {A = ℕ} 2048 0;
      book-heads = length-replicate {A = ℕ} 256 0;
      book-rows = length-replicate {A = ℕ} 2048 0;
      book-next = length-replicate {A = ℕ} 2048 0;
      windows = length-replicate {A = ℕ} 512 0;
      work = length-replicate {A = ℕ} 12032 0;
      touched = length-replicate {A = ℕ} 64 0;
      labels = length-replicate {A = ℕ} 64 0;
    }

closed-requires : tie.Need-closed-factor-requires
closed-requires c κs = search rules

start-requires : tie.Need-start-streams-requires
start-requires c κs = search rules

slice-aggregate-serve : tie.Need-slice_bounds-serve-end
slice-aggregate-serve c = search rules

slice-aggregate-serve-2 : tie.Need-slice_bounds-serve-end-2
slice-aggregate-serve-2 c = search rules

slice-aggregate-serve-3 : tie.Need-slice_bounds-serve-end-3
slice-aggregate-serve-3 c = search rules

slice-aggregate-serve-4 : tie.Need-slice_bounds-serve-end-4
slice-aggregate-serve-4 c = search rules

slice-aggregate-serve-5 : tie.Need-slice_bounds-serve-end-5
slice-aggregate-serve-5 c = search rules

slice-aggregate-serve-6 : tie.Need-slice_bounds-serve-end-6
slice-aggregate-serve-6 c = search rules

slice-aggregate-serve-7 : tie.Need-slice_bounds-serve-end-7
slice-aggregate-serve-7 c = search rules

slice-aggregate-serve-8 : tie.Need-slice_bounds-serve-end-8
slice-aggregate-serve-8 c = search rules

slice-aggregate-serve-9 : tie.Need-slice_bounds-serve-end-9
slice-aggregate-serve-9 c = search rules

slice-aggregate-serve-10 : tie.Need-slice_bounds-serve-end-10
slice-aggregate-serve-10 c = search rules

slice-aggregate-serve-11 : tie.Need-slice_bounds-serve-end-11
slice-aggregate-serve-11 c = search rules

slice-aggregate-serve-12 : tie.Need-slice_bounds-serve-end-12
slice-aggregate-serve-12 c = search rules

slice-aggregate-serve-13 : tie.Need-slice_bounds-serve-end-13
slice-aggregate-serve-13 c = search rules

slice-aggregate-serve-14 : tie.Need-slice_bounds-serve-end-14
slice-aggregate-serve-14 c = search rules

slice-aggregate-serve-15 : tie.Need-slice_bounds-serve-end-15
slice-aggregate-serve-15 c = search rules

slice-aggregate-serve-16 : tie.Need-slice_bounds-serve-end-16
slice-aggregate-serve-16 c = search rules

serve-requires : tie.Need-serve-requires
serve-requires c κs = (
  omega (arith, length-replicate {A = ℕ} 1000 0),
  (
    omega (arith, length-replicate {A = ℕ} 131072 0),
    (
      record { lengths = zero-lengths _; usable = inl c.closed-factor.ensures },
      (length-replicate {A = ℕ} 2000 0, (length-replicate {A = ℕ} 4096 0, c.start-streams.ensures.passed)),
    ),
  ),
)

returns : tie.Need-returns
returns c = listed c.serve.ensures (zero-lengths _) c.closed-factor.ensures

pub run_spec : {M : Type 1} → statement M
run_spec =
    tie.close
    (tie.spec
    closed-requires
    start-requires
    slice-aggregate-serve
    slice-aggregate-serve-2
    slice-aggregate-serve-3
    slice-aggregate-serve-4
    slice-aggregate-serve-5
    slice-aggregate-serve-6
    slice-aggregate-serve-7
    slice-aggregate-serve-8
    slice-aggregate-serve-9
    slice-aggregate-serve-10
    slice-aggregate-serve-11
    slice-aggregate-serve-12
    slice-aggregate-serve-13
    slice-aggregate-serve-14
    slice-aggregate-serve-15
    slice-aggregate-serve-16
    serve-requires
    returns)
