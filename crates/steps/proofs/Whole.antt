-- The step of a whole call from a change's: where 1 to 6 are passed and the change ran on a work table whose first W places are zero, its outcome is the
-- call's (`change-whole`); tables that are not lent for writing are put back by themselves (`heads-stay`, `stored-written`). Assumes nothing.
use mathlib.Core.Path.{◌≡◌, refl, sym, ap, ◌∙◌, subst}
use mathlib.Core.Bool.{Bool, true, false}
use mathlib.Core.List.{List, ◌++◌}
use Prim.Native.Nat.{ℕ, ◌*◌}
use lib.ListN.{take, drop}
use Rattle.lists.specs.Lists.{pick}
use Rattle.workspace.specs.Regions.{zero_first}
use Rattle.tables.specs.Tables.{Tables, Sizes, is_sound}
use Rattle.calls.specs.Refusals.{Refusal, is_accepted, work_for}
use Rattle.calls.specs.Calls.{Change, changing, Lent, with_work, Call, call_of}
use Rattle.calls.specs.Changes.{effect}
use Rattle.calls.specs.Numbers.{call_early, refusal_of}
use Rattle.calls.specs.Steps.{Answer, refused_by, lists_after, work_after, World, booked_in, OutcomeFor, Transition}
use Rattle.calls.proofs.Choices.{or-second}
use Rattle.calls.proofs.Numbers.{sound-number}
use Rattle.steps.specs.Outcome.{ChangeOutcome, ChangeStep}
use Rattle.steps.proofs.Lifting.{join_tables, put_back}

-- ---- heads that were only read

abbrev pub join_but : Sizes → (cut whole : Tables) → Tables
join_but l y t =
    record {
      heads = t.heads;
      parents = y.parents ++ drop l.m t.parents;
      rows = y.rows ++ drop l.f t.rows;
      counts = y.counts ++ drop l.f t.counts;
      next = y.next ++ drop l.f t.next;
      book_heads = y.book_heads ++ drop l.n t.book_heads;
      book_rows = y.book_rows ++ drop l.c t.book_rows;
      book_next = y.book_next ++ drop l.c t.book_next;
      windows = y.windows ++ drop (2 * l.n) t.windows;
    }

pub heads-stay : (l : Sizes) (y t : Tables) → y.heads ≡ take l.m t.heads → join_tables l y t ≡ join_but l y t
heads-stay l y t e = λ i.
    record {
      heads = put_back l.m t.heads e i;
      parents = y.parents ++ drop l.m t.parents;
      rows = y.rows ++ drop l.f t.rows;
      counts = y.counts ++ drop l.f t.counts;
      next = y.next ++ drop l.f t.next;
      book_heads = y.book_heads ++ drop l.n t.book_heads;
      book_rows = y.book_rows ++ drop l.c t.book_rows;
      book_next = y.book_next ++ drop l.c t.book_next;
      windows = y.windows ++ drop (2 * l.n) t.windows;
    }

-- ---- heads, a book and windows that were only read

abbrev pub join_stored : Sizes → (cut whole : Tables) → Tables
join_stored l y t =
    record {
      heads = t.heads;
      parents = y.parents ++ drop l.m t.parents;
      rows = y.rows ++ drop l.f t.rows;
      counts = y.counts ++ drop l.f t.counts;
      next = y.next ++ drop l.f t.next;
      book_heads = t.book_heads;
      book_rows = t.book_rows;
      book_next = t.book_next;
      windows = t.windows;
    }

-- the prefixes of these tables are as they were cut
pub record ReadOnly (l : Sizes) (y t : Tables) : Type 0 where
  pub heads : y.heads ≡ take l.m t.heads
  pub book_heads : y.book_heads ≡ take l.n t.book_heads
  pub book_rows : y.book_rows ≡ take l.c t.book_rows
  pub book_next : y.book_next ≡ take l.c t.book_next
  pub windows : y.windows ≡ take (2 * l.n) t.windows

pub stored-written : (l : Sizes) (y t : Tables) → ReadOnly l y t → join_tables l y t ≡ join_stored l y t
stored-written l y t e = λ i.
    record {
      heads = put_back l.m t.heads e.heads i;
      parents = y.parents ++ drop l.m t.parents;
      rows = y.rows ++ drop l.f t.rows;
      counts = y.counts ++ drop l.f t.counts;
      next = y.next ++ drop l.f t.next;
      book_heads = put_back l.n t.book_heads e.book_heads i;
      book_rows = put_back l.c t.book_rows e.book_rows i;
      book_next = put_back l.c t.book_next e.book_next i;
      windows = put_back (2 * l.n) t.windows e.windows i;
    }

-- ---- a whole call and the step that ran for it

module _ (u : World) (c : Change) (x : Lent) (early : is_accepted (call_early u.state.sizes u.tables (call_of (changing c) x)) ≡ true)
    (sound : is_sound u.state u.tables ≡ true) (a : Answer) (y : Lent) (v : World) where
  abbrev zeroed : List ℕ
  zeroed = zero_first (work_for u.state.sizes) x.work

  abbrev k : Call
  k = call_of (changing c) x

  own : refusal_of u.state u.tables (call_of (changing c) x) ≡ (effect (booked_in u) c).refusal u.state.sizes
  own =
      let n : Refusal = (effect (booked_in u) c).refusal u.state.sizes in
      sound-number u.state u.tables k sound ∙ or-second (call_early u.state.sizes u.tables k) n early

  work-zero : zero_first (work_for u.state.sizes) x.work ≡ work_after u.state.sizes u.tables (call_of (changing c) x)
  work-zero = sym (ap (λ (q : Bool). pick q zeroed x.work) early)

  by_number : (q : Bool) → is_accepted ((effect (booked_in u) c).refusal u.state.sizes) ≡ q → ChangeOutcome q u c (with_work x (zero_first (work_for u.state.sizes) x.work)) a y v →
      Transition u (call_of (changing c) x) a y v
  by_number true e o =
      subst (λ (q : Bool). OutcomeFor q u k a y v) (sym (ap is_accepted own ∙ e))
      (o.0, o.1 ∙ ap (λ (w : List ℕ). lists_after (booked_in u) k w) work-zero, o.2)
  by_number false e o =
      subst (λ (q : Bool). OutcomeFor q u k a y v) (sym (ap is_accepted own ∙ e))
      (o.0 ∙ ap refused_by (sym own), o.1 ∙ ap (λ (w : List ℕ). with_work x w) work-zero, o.2)

  -- where 1 to 6 are passed, the change that ran on a work table with its first W places zero is the whole call
  pub change-whole : ChangeStep u c (with_work x (zero_first (work_for u.state.sizes) x.work)) a y v → Transition u (call_of (changing c) x) a y v
  change-whole o = by_number (is_accepted ((effect (booked_in u) c).refusal u.state.sizes)) refl o
