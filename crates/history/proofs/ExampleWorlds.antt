-- The worlds of the listed example, on tables with one place more than the sizes ask: after the opening and after each accepted batch, and that each batch
-- may leave them so, all by computing. Which free records are taken is this example's choice.
-- Assumes nothing.
use mathlib.Core.Path.{refl}
use mathlib.Core.List.{List, [], ◌∷◌, ◌++◌, cons≢nil}
use Prim.Native.Nat.{ℕ}
use lib.ListN.{replicate}
use Rattle.lists.specs.Lists.{all, any, among, no_repeats, all_zero, same, values_at, rises, up_from}
use Rattle.symbolic.specs.Columns.{starting_with, counted_by, with_minutes, live_of}
use Rattle.symbolic.specs.Factor.{children_with, counts_from, first_above, build_from, pattern_from, non_zero, path_from}
use Rattle.symbolic.specs.Batch.{passing}
use Rattle.symbolic.specs.Change.{without, column_of, columns_of}
use Rattle.symbolic.specs.Grades.{Limits, limits_of, old_limits}
use Rattle.pool.specs.Chains.{chain_from, last_of}
use Rattle.pool.specs.Whole.{chains}
use Rattle.book.specs.Book.{columns_from}
use Rattle.windows.specs.Windowed.{windowed}
use Rattle.tables.specs.Stored.{holds_from}
use Rattle.tables.specs.Opening.{opened_state, opened_tables}
use Rattle.calls.specs.Refusals.{batch_of}
use Rattle.calls.specs.Calls.{removing}
use Rattle.calls.specs.Steps.{World, Exchanged}
use Rattle.calls.proofs.Exchanges.{exchange-passed}
use Rattle.history.specs.Example.{asked_sizes, add, last_sizes}

-- ---- the worlds

abbrev pub world_of : (free book_free : ℕ) → (heads parents rows counts next book_heads book_rows book_next windows : List ℕ) → World
world_of f g hs ps rs cs ns bh br bn ws =
    record {
      state = record { sizes = asked_sizes; limits = old_limits; free = f; book_free = g; clock = 0 };
      tables = record {
        heads = hs ++ (8 ∷ []);
        parents = ps ++ (8 ∷ []);
        rows = rs ++ (8 ∷ []);
        counts = cs ++ (8 ∷ []);
        next = ns ++ (8 ∷ []);
        book_heads = bh ++ (8 ∷ []);
        book_rows = br ++ (8 ∷ []);
        book_next = bn ++ (8 ∷ []);
        windows = ws ++ (8 ∷ []);
      };
    }

-- before the opening: any content
abbrev pub world0 : World
world0 = world_of 0 0 (replicate 5 8) (replicate 5 8) (replicate 9 8) (replicate 9 8) (replicate 9 8) (replicate 8 8) (replicate 16 8) (replicate 16 8) (replicate 16 8)

-- opened
abbrev pub world1 : World
world1 =
    world_of 6 1 (1 ∷ 2 ∷ 3 ∷ 4 ∷ 5 ∷ []) (0 ∷ 0 ∷ 0 ∷ 0 ∷ 0 ∷ [])
    (1 ∷ 2 ∷ 3 ∷ 4 ∷ 5 ∷ 0 ∷ 0 ∷ 0 ∷ 0 ∷ []) (1 ∷ 1 ∷ 1 ∷ 1 ∷ 1 ∷ 0 ∷ 0 ∷ 0 ∷ 0 ∷ []) (0 ∷ 0 ∷ 0 ∷ 0 ∷ 0 ∷ 7 ∷ 8 ∷ 9 ∷ 0 ∷ [])
    (0 ∷ 0 ∷ 0 ∷ 0 ∷ 0 ∷ 0 ∷ 0 ∷ 0 ∷ []) (0 ∷ 0 ∷ 0 ∷ 0 ∷ 0 ∷ 0 ∷ 0 ∷ 0 ∷ 0 ∷ 0 ∷ 0 ∷ 0 ∷ 0 ∷ 0 ∷ 0 ∷ 0 ∷ [])
    (2 ∷ 3 ∷ 4 ∷ 5 ∷ 6 ∷ 7 ∷ 8 ∷ 9 ∷ 10 ∷ 11 ∷ 12 ∷ 13 ∷ 14 ∷ 15 ∷ 16 ∷ 0 ∷ []) (replicate 16 0)

-- {1,3} under id 1: record 6 is taken
abbrev pub world2 : World
world2 =
    world_of 7 3 (1 ∷ 2 ∷ 3 ∷ 4 ∷ 5 ∷ []) (3 ∷ 0 ∷ 0 ∷ 0 ∷ 0 ∷ [])
    (1 ∷ 2 ∷ 3 ∷ 4 ∷ 5 ∷ 3 ∷ 0 ∷ 0 ∷ 0 ∷ []) (2 ∷ 1 ∷ 2 ∷ 1 ∷ 1 ∷ 1 ∷ 0 ∷ 0 ∷ 0 ∷ []) (6 ∷ 0 ∷ 0 ∷ 0 ∷ 0 ∷ 0 ∷ 8 ∷ 9 ∷ 0 ∷ [])
    (1 ∷ 0 ∷ 0 ∷ 0 ∷ 0 ∷ 0 ∷ 0 ∷ 0 ∷ []) (1 ∷ 3 ∷ 0 ∷ 0 ∷ 0 ∷ 0 ∷ 0 ∷ 0 ∷ 0 ∷ 0 ∷ 0 ∷ 0 ∷ 0 ∷ 0 ∷ 0 ∷ 0 ∷ [])
    (2 ∷ 0 ∷ 4 ∷ 5 ∷ 6 ∷ 7 ∷ 8 ∷ 9 ∷ 10 ∷ 11 ∷ 12 ∷ 13 ∷ 14 ∷ 15 ∷ 16 ∷ 0 ∷ []) (replicate 16 0)

-- {1,4} under id 2: records 7 and 8
abbrev pub world3 : World
world3 =
    world_of 9 5 (1 ∷ 2 ∷ 3 ∷ 4 ∷ 5 ∷ []) (3 ∷ 0 ∷ 4 ∷ 0 ∷ 0 ∷ [])
    (1 ∷ 2 ∷ 3 ∷ 4 ∷ 5 ∷ 3 ∷ 4 ∷ 4 ∷ 0 ∷ []) (3 ∷ 1 ∷ 2 ∷ 2 ∷ 1 ∷ 1 ∷ 1 ∷ 1 ∷ 0 ∷ []) (6 ∷ 0 ∷ 8 ∷ 0 ∷ 0 ∷ 7 ∷ 0 ∷ 0 ∷ 0 ∷ [])
    (1 ∷ 3 ∷ 0 ∷ 0 ∷ 0 ∷ 0 ∷ 0 ∷ 0 ∷ []) (1 ∷ 3 ∷ 1 ∷ 4 ∷ 0 ∷ 0 ∷ 0 ∷ 0 ∷ 0 ∷ 0 ∷ 0 ∷ 0 ∷ 0 ∷ 0 ∷ 0 ∷ 0 ∷ [])
    (2 ∷ 0 ∷ 4 ∷ 0 ∷ 6 ∷ 7 ∷ 8 ∷ 9 ∷ 10 ∷ 11 ∷ 12 ∷ 13 ∷ 14 ∷ 15 ∷ 16 ∷ 0 ∷ []) (replicate 16 0)

-- {2,3} under id 3: record 9, the last
abbrev pub world4 : World
world4 =
    world_of 0 7 (1 ∷ 2 ∷ 3 ∷ 4 ∷ 5 ∷ []) (3 ∷ 3 ∷ 4 ∷ 0 ∷ 0 ∷ [])
    (1 ∷ 2 ∷ 3 ∷ 4 ∷ 5 ∷ 3 ∷ 4 ∷ 4 ∷ 3 ∷ []) (3 ∷ 2 ∷ 3 ∷ 2 ∷ 1 ∷ 1 ∷ 1 ∷ 1 ∷ 1 ∷ []) (6 ∷ 9 ∷ 8 ∷ 0 ∷ 0 ∷ 7 ∷ 0 ∷ 0 ∷ 0 ∷ [])
    (1 ∷ 3 ∷ 5 ∷ 0 ∷ 0 ∷ 0 ∷ 0 ∷ 0 ∷ []) (1 ∷ 3 ∷ 1 ∷ 4 ∷ 2 ∷ 3 ∷ 0 ∷ 0 ∷ 0 ∷ 0 ∷ 0 ∷ 0 ∷ 0 ∷ 0 ∷ 0 ∷ 0 ∷ [])
    (2 ∷ 0 ∷ 4 ∷ 0 ∷ 6 ∷ 0 ∷ 8 ∷ 9 ∷ 10 ∷ 11 ∷ 12 ∷ 13 ∷ 14 ∷ 15 ∷ 16 ∷ 0 ∷ []) (replicate 16 0)

-- id 2 dropped: its records 7 and 8 of L, and 3 and 4 of the book, are free
abbrev pub world5 : World
world5 =
    world_of 7 3 (1 ∷ 2 ∷ 3 ∷ 4 ∷ 5 ∷ []) (3 ∷ 3 ∷ 0 ∷ 0 ∷ 0 ∷ [])
    (1 ∷ 2 ∷ 3 ∷ 4 ∷ 5 ∷ 3 ∷ 0 ∷ 0 ∷ 3 ∷ []) (2 ∷ 2 ∷ 3 ∷ 1 ∷ 1 ∷ 1 ∷ 0 ∷ 0 ∷ 1 ∷ []) (6 ∷ 9 ∷ 0 ∷ 0 ∷ 0 ∷ 0 ∷ 8 ∷ 0 ∷ 0 ∷ [])
    (1 ∷ 0 ∷ 5 ∷ 0 ∷ 0 ∷ 0 ∷ 0 ∷ 0 ∷ []) (1 ∷ 3 ∷ 0 ∷ 0 ∷ 2 ∷ 3 ∷ 0 ∷ 0 ∷ 0 ∷ 0 ∷ 0 ∷ 0 ∷ 0 ∷ 0 ∷ 0 ∷ 0 ∷ [])
    (2 ∷ 0 ∷ 4 ∷ 7 ∷ 6 ∷ 0 ∷ 8 ∷ 9 ∷ 10 ∷ 11 ∷ 12 ∷ 13 ∷ 14 ∷ 15 ∷ 16 ∷ 0 ∷ []) (replicate 16 0)

-- {1,4} under id 4: the records of id 2 are taken again
abbrev pub world6 : World
world6 =
    world_of 0 7 (1 ∷ 2 ∷ 3 ∷ 4 ∷ 5 ∷ []) (3 ∷ 3 ∷ 4 ∷ 0 ∷ 0 ∷ [])
    (1 ∷ 2 ∷ 3 ∷ 4 ∷ 5 ∷ 3 ∷ 4 ∷ 4 ∷ 3 ∷ []) (3 ∷ 2 ∷ 3 ∷ 2 ∷ 1 ∷ 1 ∷ 1 ∷ 1 ∷ 1 ∷ []) (6 ∷ 9 ∷ 8 ∷ 0 ∷ 0 ∷ 7 ∷ 0 ∷ 0 ∷ 0 ∷ [])
    (1 ∷ 0 ∷ 5 ∷ 3 ∷ 0 ∷ 0 ∷ 0 ∷ 0 ∷ []) (1 ∷ 3 ∷ 1 ∷ 4 ∷ 2 ∷ 3 ∷ 0 ∷ 0 ∷ 0 ∷ 0 ∷ 0 ∷ 0 ∷ 0 ∷ 0 ∷ 0 ∷ 0 ∷ [])
    (2 ∷ 0 ∷ 4 ∷ 0 ∷ 6 ∷ 0 ∷ 8 ∷ 9 ∷ 10 ∷ 11 ∷ 12 ∷ 13 ∷ 14 ∷ 15 ∷ 16 ∷ 0 ∷ []) (replicate 16 0)

-- tables opened anew for two rows, the places past them as they were
abbrev pub fresh : Limits → World
fresh g = record { state = opened_state last_sizes g; tables = opened_tables last_sizes world6.tables }

-- {1,2} under id 1: record 3, the last, and both records of the book
abbrev pub full : Limits → World
full g =
    record {
      state = record { sizes = last_sizes; limits = g; free = 0; book_free = 0; clock = 0 };
      tables = record {
        heads = 1 ∷ 2 ∷ 3 ∷ 4 ∷ 5 ∷ 8 ∷ [];
        parents = 2 ∷ 0 ∷ 4 ∷ 0 ∷ 0 ∷ 8 ∷ [];
        rows = 1 ∷ 2 ∷ 2 ∷ 4 ∷ 5 ∷ 3 ∷ 4 ∷ 4 ∷ 3 ∷ 8 ∷ [];
        counts = 2 ∷ 2 ∷ 1 ∷ 2 ∷ 1 ∷ 1 ∷ 1 ∷ 1 ∷ 1 ∷ 8 ∷ [];
        next = 3 ∷ 0 ∷ 0 ∷ 0 ∷ 0 ∷ 7 ∷ 0 ∷ 0 ∷ 0 ∷ 8 ∷ [];
        book_heads = 1 ∷ 0 ∷ 5 ∷ 3 ∷ 0 ∷ 0 ∷ 0 ∷ 0 ∷ 8 ∷ [];
        book_rows = 1 ∷ 2 ∷ 1 ∷ 4 ∷ 2 ∷ 3 ∷ 0 ∷ 0 ∷ 0 ∷ 0 ∷ 0 ∷ 0 ∷ 0 ∷ 0 ∷ 0 ∷ 0 ∷ 8 ∷ [];
        book_next = 2 ∷ 0 ∷ 4 ∷ 0 ∷ 6 ∷ 0 ∷ 8 ∷ 9 ∷ 10 ∷ 11 ∷ 12 ∷ 13 ∷ 14 ∷ 15 ∷ 16 ∷ 0 ∷ 8 ∷ [];
        windows = replicate 16 0 ++ (8 ∷ []);
      };
    }

-- ---- what each accepted batch leaves

pub first-exchanged : Exchanged world1 (add 1 (1 ∷ 3 ∷ [])) world2
unfolding all any among no_repeats all_zero same values_at rises up_from starting_with counted_by live_of children_with counts_from first_above build_from pattern_from non_zero path_from passing chain_from last_of chains columns_from windowed holds_from with_minutes batch_of
first-exchanged = exchange-passed world1 (add 1 (1 ∷ 3 ∷ [])) world2 refl refl refl refl (λ h. absurd (cons≢nil h)) refl

pub second-exchanged : Exchanged world2 (add 2 (1 ∷ 4 ∷ [])) world3
unfolding all any among no_repeats all_zero same values_at rises up_from starting_with counted_by live_of children_with counts_from first_above build_from pattern_from non_zero path_from passing chain_from last_of chains columns_from windowed holds_from with_minutes batch_of
second-exchanged = exchange-passed world2 (add 2 (1 ∷ 4 ∷ [])) world3 refl refl refl refl (λ h. absurd (cons≢nil h)) refl

pub third-exchanged : Exchanged world3 (add 3 (2 ∷ 3 ∷ [])) world4
unfolding all any among no_repeats all_zero same values_at rises up_from starting_with counted_by live_of children_with counts_from first_above build_from pattern_from non_zero path_from passing chain_from last_of chains columns_from windowed holds_from with_minutes batch_of
third-exchanged = exchange-passed world3 (add 3 (2 ∷ 3 ∷ [])) world4 refl refl refl refl (λ h. absurd (cons≢nil h)) refl

pub removal-exchanged : Exchanged world4 (removing (2 ∷ [])) world5
unfolding all any among no_repeats all_zero same values_at rises up_from starting_with counted_by live_of children_with counts_from first_above build_from pattern_from non_zero path_from passing chain_from last_of chains columns_from windowed holds_from without column_of columns_of
removal-exchanged = exchange-passed world4 (removing (2 ∷ [])) world5 refl refl refl refl (λ h. absurd (cons≢nil h)) refl

pub returned-exchanged : Exchanged world5 (add 4 (1 ∷ 4 ∷ [])) world6
unfolding all any among no_repeats all_zero same values_at rises up_from starting_with counted_by live_of children_with counts_from first_above build_from pattern_from non_zero path_from passing chain_from last_of chains columns_from windowed holds_from with_minutes batch_of
returned-exchanged = exchange-passed world5 (add 4 (1 ∷ 4 ∷ [])) world6 refl refl refl refl (λ h. absurd (cons≢nil h)) refl

pub filled-exchanged : Exchanged (fresh (limits_of 2 3 4)) (add 1 (1 ∷ 2 ∷ [])) (full (limits_of 2 3 4))
unfolding all any among no_repeats all_zero same values_at rises up_from starting_with counted_by live_of children_with counts_from first_above build_from pattern_from non_zero path_from passing chain_from last_of chains columns_from windowed holds_from with_minutes batch_of
filled-exchanged = exchange-passed (fresh (limits_of 2 3 4)) (add 1 (1 ∷ 2 ∷ [])) (full (limits_of 2 3 4)) refl refl refl refl (λ h. absurd (cons≢nil h)) refl

pub emptied-exchanged : Exchanged (full (limits_of 2 3 4)) (removing (1 ∷ [])) (fresh (limits_of 2 3 4))
unfolding all any among no_repeats all_zero same values_at rises up_from starting_with counted_by live_of children_with counts_from first_above build_from pattern_from non_zero path_from passing chain_from last_of chains columns_from windowed holds_from with_minutes batch_of without column_of columns_of
emptied-exchanged = exchange-passed (full (limits_of 2 3 4)) (removing (1 ∷ [])) (fresh (limits_of 2 3 4)) refl refl refl refl (λ h. absurd (cons≢nil h)) refl

pub refilled-exchanged : Exchanged (fresh old_limits) (add 1 (1 ∷ 2 ∷ [])) (full old_limits)
unfolding all any among no_repeats all_zero same values_at rises up_from starting_with counted_by live_of children_with counts_from first_above build_from pattern_from non_zero path_from passing chain_from last_of chains columns_from windowed holds_from with_minutes batch_of
refilled-exchanged = exchange-passed (fresh old_limits) (add 1 (1 ∷ 2 ∷ [])) (full old_limits) refl refl refl refl (λ h. absurd (cons≢nil h)) refl
