-- The loop over the columns (ColumnsReading): a column that is not the definition's, one column more, the end. Then the state before the first
-- column (first-state). Assumes nothing.
use mathlib.Core.Path.{◌≡◌, sym, ap, subst}
use mathlib.Core.List.{List}
use Prim.Native.Nat.{ℕ, ◌+◌, ◌≤◌, ◌<◌}
use native.Mathlib.Omega.{arith}
use Rattle.std.specs.Prelude.{Option, Some, None}
use lib.ListN.{length}
use Rattle.lists.specs.Lists.{at}
use Rattle.workspace.specs.Layout.{child_head, child_next, lasts_at, names_at}
use Rattle.workspace.proofs.Regions.{only-trans}
use Rattle.pool.proofs.Whole.{chains-nil, all_nil}
use Rattle.pool.proofs.Apart.{lasts-nil}
use Rattle.ends.proofs.Naming.{named_start}
use Rattle.book.specs.Book as book
use Rattle.tables.specs.Stored.{Stored}
use Rattle.soundness.specs.State.{State, SomeState, WithinWork, CanReadColumn, ColumnsRead, Prepared, SomePrepared}
use Rattle.counting.proofs.Linking.{listed_start}

-- ---- the columns, one after another

-- the state after column i, for whatever windows and clock it was known before the first
pub record ColumnsReading (s : Stored) (b : book.Book) (w₀ w : List ℕ) (n i : ℕ) : Type 0 where
  pub inside : i ≤ length s.heads
  pub state : (windows : List ℕ) (clock : ℕ) → State s b windows clock w₀ 1 0 → State s b windows clock w (i + 1) n
  pub only : WithinWork s b w₀ w

module _ {s : Stored} {b : book.Book} {w₀ : List ℕ} where
  module _ {w : List ℕ} {n i : ℕ} (c : ColumnsReading s b w₀ w n i) where
    pub columns-can : SomeState s b w₀ 1 0 → i < length s.heads → CanReadColumn s b w (i + 1) n
    columns-can z h =
        record { some = record { windows = z.windows; clock = z.clock; state = c.state z.windows z.clock z.state }; inside = omega arith }

    module _ {x : List ℕ} {a : Option ℕ} (r : ColumnsRead s b w (i + 1) n x (i + 1 + 1) a) where
      pub columns-cut : a ≡ None → ColumnsRead s b w₀ 1 0 x (length s.heads + 1) None
      columns-cut e =
          record {
            only = only-trans c.only r.only;
            cut = λ _ windows clock st. r.cut e windows clock (c.state windows clock st);
            next = λ l t. absurd (let z : ◌≡◌ {A = ℕ} 0 1 = cc in omega arith);
          }

      pub columns-next : {k : ℕ} → i < length s.heads → a ≡ Some k → ColumnsReading s b w₀ x k (i + 1)
      columns-next {k} h e =
          record {
            inside = omega arith;
            state = λ windows clock st. r.next k e windows clock (c.state windows clock st);
            only = only-trans c.only r.only;
          }

    pub columns-end : length s.heads ≤ i → ColumnsRead s b w₀ 1 0 w (length s.heads + 1) (Some n)
    columns-end h =
        let q : i ≡ length s.heads = omega (arith, c.inside) in
        record {
          only = c.only;
          cut = λ e. absurd (let z : ◌≡◌ {A = ℕ} 0 1 = cc in omega arith);
          next = λ l e windows clock st.
              (let t : n ≡ l = cc in
              subst (State s b windows clock w (length s.heads + 1)) t (subst (λ (k : ℕ). State s b windows clock w (k + 1) n) q (c.state windows clock st)));
        }

-- ---- the state before the first column

pub first-state : {s : Stored} {b : book.Book} {windows : List ℕ} {clock : ℕ} {w : List ℕ} → Prepared s b windows clock w → State s b windows clock w 1 0
first-state {s} {b} {windows} {clock} {w} pre =
    record {
      sizes = pre.sizes;
      low = omega arith;
      high = omega arith;
      sound = pre.sound;
      chains-walked = record {
        linked = all_nil s.next;
        counted = sym (ap length (chains-nil s.next));
        within = omega arith;
        lasts_are = sym (lasts-nil s.next);
        named = named_start w (lasts_at (length s.heads)) (names_at (length s.heads)) (length s.next);
      };
      zero = pre.zero;
      children = listed_start w (child_head (length s.heads)) (length s.heads) (child_next (length s.heads)) (length s.heads) (at s.parents) (omega (arith, pre.sizes.long)) pre.heads-zero;
      columns = pre.columns;
      stash = record {
        here = pre.start-zero;
        start = λ c g h. absurd (omega arith);
        below = λ c g h. absurd (omega arith);
        rows_are = λ c g h. absurd (omega arith);
      };
      holds = λ c g h. absurd (omega arith);
    }

pub first_some : {s : Stored} {b : book.Book} {w : List ℕ} → SomePrepared s b w → SomeState s b w 1 0
first_some p = record { windows = p.windows; clock = p.clock; state = first-state p.prepared }
