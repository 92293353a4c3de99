-- An exchange from its parts: what leaving and entering ask of what an exchange asks (`can-leave-all`, `can-enter-all`), the two together (`swap-done`), what is
-- brought back where they do not fit (`can-undo`, `undone-same`). Assumes nothing.
use mathlib.Core.Path.{◌≡◌, refl, sym, ap, ◌∙◌, subst}
use mathlib.Core.Logic.{inl, inr}
use mathlib.Core.Bool.{Bool, true, false, true≢false}
use mathlib.Core.List.{List, [], ◌++◌, append-nil}
use Prim.Native.Nat.{ℕ, ◌≤◌, ◌<◌}
use native.Mathlib.Omega.{arith}
use lib.ListN.{length, get_or}
use Rattle.lists.specs.Lists.{sum_of}
use Rattle.lists.proofs.Member.{mem-left, mem-right, mem-either}
use Rattle.symbolic.specs.Columns.{Column}
use Rattle.symbolic.specs.Factor.{factor_of}
use Rattle.symbolic.specs.Batch.{is_touched}
use Rattle.workspace.specs.Regions.{cell, OnlyIn}
use Rattle.workspace.specs.Layout.{spare, gather_at}
use Rattle.workspace.specs.Parts.{lower_part}
use Rattle.workspace.proofs.Regions.{only-trans}
use Rattle.snapshot.specs.Snapshot.{count_bound, CanPair, RecordsKept, ParentsKept}
use Rattle.snapshot.proofs.Kept.{records-stay, parents-stay}
use Rattle.book.specs.Book as book
use Rattle.tables.specs.Stored.{Stored, stored_of}
use Rattle.windows.specs.Chosen.{CanCollect}
use Rattle.exchange.specs.Stages.{moving_ids, CanGo, CanLeaveAll, SomeLeaveAll, Moved, CanEnterAll, SomeEnterAll, EnteredAll, CanSwap, Swapped, CanUndo, SomeUndo, Undone}
use Rattle.exchange.proofs.Stages.{moved-joins}
use Rattle.exchange.proofs.Small.{rows-room, rows-small}
use Rattle.exchange.proofs.Going.{go_on, some_fit}

module _ {s : Stored} {b : book.Book} {leave enter work : List ℕ} {R A B : List Column} (c : CanSwap s b leave enter work R A B) where
  abbrev m : ℕ
  m = length s.heads

  abbrev f : ℕ
  f = length s.next

  -- ---- what the parts ask

  pub can-go : CanGo s b work
  can-go =
      record {
        sized = c.sized;
        book-sized = c.book-sized;
        book-free = c.book-free;
        book-sound = c.book-sound;
        some = c.some;
        m-bound = c.m-bound;
        f-bound = c.f-bound;
        long = c.long;
        zero = c.zero;
        flags-zero = c.flags-zero;
      }

  pub exchange-room : length s.heads ≤ length s.next
  exchange-room = rows-room c.columns s c.sound

  pub can-leave-all : CanLeaveAll s b leave work R A
  can-leave-all =
      record {
        go = can-go;
        columns = c.columns;
        sound = c.sound;
        same = c.same;
        fits = some_fit (R ++ (A ++ B)) (R ++ A) (λ x h. elim (mem-either R h) [ inl k ↦ mem-left (A ++ B) k | inr k ↦ mem-right R (mem-left B k) ]) refl c.fits;
        booked = c.leave-booked;
        few = omega (arith, c.few);
      }

  -- records that can be kept, if multiplicities have 16 bits
  pub can-pair : ((k : ℕ) → get_or s.counts k 0 < count_bound) → CanPair s.rows s.counts s.next
  can-pair small =
      record {
        rows_long = c.sized.rows_long;
        counts-long = c.sized.counts-long;
        rows-small = λ k. omega (arith, rows-small c.columns s c.sound c.sized.rows_long k, c.m-bound);
        counts-small = small;
      }

  module _ {mid : Stored} {work' : List ℕ} (v : Moved (length s.heads) (length s.next) R s (is_touched (factor_of (length s.heads) (R ++ A)) A) R mid work work') where
    pub can-enter-all : CanEnterAll mid b enter work' R B
    can-enter-all =
        record {
          go = go_on can-go exchange-room v;
          sound = v.sound;
          fits = some_fit (R ++ (A ++ B)) (R ++ B)
              (λ x h. elim (mem-either R h) [ inl k ↦ mem-left (A ++ B) k | inr k ↦ mem-right R (mem-right A k) ]) (ap length v.heads) c.fits;
          booked = c.enter-booked;
          few = omega (arith, c.few);
        }

    -- ---- both together

    module _ {after : Stored} {work'' : List ℕ} {fits : Bool} (x : EnteredAll (length s.heads) (length mid.next) R B mid after work' work'' fits) where
      entered : EnteredAll m f R B mid after work' work'' fits
      entered = subst (λ (n : ℕ). EnteredAll m n R B mid after work' work'' fits) v.long x

      pub swap-only : OnlyIn (gather_at (length s.heads) (length s.next)) (length s.heads) work work''
      swap-only = only-trans v.gathers.only entered.only

      pub swap-low : (i : ℕ) → i < length s.heads →
          lower_part (cell work'' (gather_at (length s.heads) (length s.next)) i) ≡ lower_part (cell work (gather_at (length s.heads) (length s.next)) i)
      swap-low i h = entered.low i h ∙ v.gathers.low i h

      pub swap-done : fits ≡ true → Swapped (length s.heads) (length s.next) R A B s after work work'' fits
      swap-done h =
          record {
            fits-is = entered.fits-is;
            done = λ k. moved-joins refl v [] (λ g. ap (sum_of g) (sym (append-nil R))) (entered.done k);
            undone = λ k. absurd (true≢false (sym h ∙ k));
            only = swap-only;
          }

      -- the tables that are kept, seen from those after
      pub can-undo : RecordsKept work (spare (length s.heads) (length s.next)) s.rows s.counts s.next →
          ParentsKept work (gather_at (length s.heads) (length s.next)) s.parents → ((k : ℕ) → get_or s.counts k 0 < 65536) →
          length after.parents ≡ length s.parents → length after.rows ≡ length s.rows → length after.counts ≡ length s.counts →
          length after.next ≡ length s.next →
          CanUndo (length s.heads) after.parents after.rows after.counts after.next work'' s.parents s.rows s.counts s.next
      can-undo r p small pl rl cl nl =
          record {
            records = record {
              can = can-pair small;
              kept = subst (λ (n : ℕ). RecordsKept work'' (spare m n) s.rows s.counts s.next) (sym nl) (records-stay r swap-only (inr (omega arith)));
              rows_long = rl;
              counts-long = cl;
              next-long = nl;
            };
            parents-kept = subst (λ (n : ℕ). ParentsKept work'' (gather_at m n) s.parents) (sym nl)
                (parents-stay p swap-only.same_length (λ i h. swap-low i (omega (arith, c.sized.parents-long))));
            parents-long = pl;
          }

      pub swap-undone : {parents rows counts next : List ℕ} → fits ≡ false → Undone s.parents s.rows s.counts s.next parents rows counts next →
          Swapped (length s.heads) (length s.next) R A B s (stored_of s.heads parents rows counts next s.free) work work'' false
      swap-undone h u =
          record {
            fits-is = sym h ∙ entered.fits-is;
            done = λ k. absurd (true≢false (sym k));
            undone = λ k i. record {
              heads = s.heads;
              parents = u.parents-are i;
              rows = u.records.rows_are i;
              counts = u.records.counts-are i;
              next = u.records.next-are i;
              free = s.free;
            };
            only = swap-only;
          }

-- what callers show
pub some-leave-all : {s : Stored} {b : book.Book} {windows : List ℕ} {minute other : ℕ} {work : List ℕ} {R A : List Column} →
    CanLeaveAll s b (moving_ids b.heads windows minute other) work R A → CanCollect b.heads windows 1 → SomeLeaveAll s b windows minute other work
some-leave-all {R = R} {A} c k = record { R = R; A = A; can = c; scan = k }

pub some-enter-all : {s : Stored} {b : book.Book} {windows : List ℕ} {minute other : ℕ} {work : List ℕ} {R B : List Column} →
    CanEnterAll s b (moving_ids b.heads windows minute other) work R B → CanCollect b.heads windows 1 → SomeEnterAll s b windows minute other work
some-enter-all {R = R} {B} c k = record { R = R; B = B; can = c; scan = k }

pub some-undo : {m : ℕ} {parents rows counts next work parents₀ rows₀ counts₀ next₀ : List ℕ} → CanUndo m parents rows counts next work parents₀ rows₀ counts₀ next₀ →
    SomeUndo m parents rows counts next work
some-undo {parents₀ = ps} {rows₀ = xs} {counts₀ = ns} {next₀ = ls} c = record { parents₀ = ps; rows₀ = xs; counts₀ = ns; next₀ = ls; can = c }

-- ---- as many columns, and the same stored columns

pub all-entered-heads : {n m f : ℕ} {R B : List Column} {s after : Stored} {work work' : List ℕ} {fits : Bool} → n ≡ m → EnteredAll n f R B s after work work' fits →
    EnteredAll m f R B s after work work' fits
all-entered-heads {f = f} {R} {B} {s} {after} {work} {work'} {fits} e = subst (λ (n : ℕ). EnteredAll n f R B s after work work' fits) e

pub undo-heads : {n m : ℕ} {parents rows counts next work parents₀ rows₀ counts₀ next₀ : List ℕ} → n ≡ m →
    CanUndo m parents rows counts next work parents₀ rows₀ counts₀ next₀ → CanUndo n parents rows counts next work parents₀ rows₀ counts₀ next₀
undo-heads {parents = ps} {rows} {counts} {next} {work} {parents₀} {rows₀} {counts₀} {next₀} e =
    subst (λ (m : ℕ). CanUndo m ps rows counts next work parents₀ rows₀ counts₀ next₀) (sym e)

pub swapped-same : {m f : ℕ} {R A B : List Column} {s after after' : Stored} {work work' : List ℕ} {fits : Bool} → after' ≡ after →
    Swapped m f R A B s after work work' fits → Swapped m f R A B s after' work work' fits
swapped-same {m} {f} {R} {A} {B} {s} {work = work} {work' = work'} {fits = fits} e = subst (λ (t : Stored). Swapped m f R A B s t work work' fits) (sym e)

pub swapped-known : {m f : ℕ} {R A B : List Column} {s after : Stored} {work work' : List ℕ} {fits known : Bool} → fits ≡ known →
    Swapped m f R A B s after work work' fits → Swapped m f R A B s after work work' known
swapped-known {m} {f} {R} {A} {B} {s} {after} {work} {work'} e = subst (λ (b : Bool). Swapped m f R A B s after work work' b) e
