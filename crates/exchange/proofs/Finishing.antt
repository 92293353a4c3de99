-- The whole exchange: what saving asks and leaves (`can-save`, `can-after`, `some-swap`), and the outcome from the groups' moves (`finished`, `finished-leaving`).
-- Assumes nothing.
use mathlib.Core.Path.{◌≡◌, refl, sym, ap, ◌∙◌, subst}
use mathlib.Core.Logic.{inl, inr}
use mathlib.Core.Bool.{Bool, true, false, false≢true}
use mathlib.Core.List.{List, [], ◌∷◌, ◌++◌, append-nil}
use Prim.Native.Nat.{ℕ, ◌+◌, ◌*◌, ◌-◌, ◌≤◌, ◌<◌}
use native.Mathlib.Omega.{arith}
use lib.ListN.{length, get_or}
use borrow.Author.Tests.{eq-eqb, le-leb}
use Rattle.lists.specs.Lists.{pick, any}
use Rattle.lists.proofs.Tests.{or-false}
use Rattle.symbolic.specs.Columns.{Column}
use Rattle.symbolic.specs.Factor.{FactorColumn, factor_of, column_at, size_of, size_sum}
use Rattle.symbolic.specs.Batch.{is_touched, is_exchanged}
use Rattle.symbolic.proofs.Theorems.{order-free}
use Rattle.workspace.specs.Regions.{cell, OnlyIn}
use Rattle.workspace.specs.Layout.{spare, flags_at, flag_count, gather_at}
use Rattle.workspace.specs.Parts.{upper_weight, lower_part}
use Rattle.workspace.proofs.Regions.{only-cell, only_zero, only-join, only_wider}
use Rattle.snapshot.specs.Snapshot.{ParentsKept, CanSaveParents, ParentsSaved, CanSaveRecords, RecordsSaved}
use Rattle.snapshot.proofs.Kept.{parents-stay}
use Rattle.book.specs.Book as book
use Rattle.tables.specs.Stored.{Stored, records_of}
use Rattle.tables.proofs.Stored.{sound-facts}
use Rattle.tables.proofs.Reading.{holds-size}
use Rattle.updown.proofs.Booking.{booked-length}
use Rattle.windows.specs.Chosen.{CanCollect}
use Rattle.exchange.specs.Exchange.{Gathered, Done, StoredExchanged}
use Rattle.exchange.specs.Stages.{gathered_in, moving_ids, Moved, CanSwap, SomeSwap, Swapped}
use Rattle.exchange.proofs.Stages.{moved_as}
use Rattle.exchange.proofs.Small.{sizes-fit, parents-small}
use Rattle.exchange.proofs.Swapping.{exchange-room, can-pair}

module _ {s : Stored} {b : book.Book} {leave enter work : List ℕ} {R A B : List Column} (c : CanSwap s b leave enter work R A B) where
  abbrev m : ℕ
  m = length s.heads

  abbrev f : ℕ
  f = length s.next

  -- ---- saving

  pub can-save-parents : CanSaveParents s.parents work (gather_at (length s.heads) (length s.next))
  can-save-parents =
      record {
        small = λ k. omega (arith, parents-small c.columns s c.sound c.sized.parents-long k, c.m-bound);
        inside = omega (arith, c.long, c.sized.parents-long, exchange-room c);
      }

  pub can-save-records : ((k : ℕ) → get_or s.counts k 0 < 65536) → CanSaveRecords s.rows s.counts s.next work (spare (length s.heads) (length s.next))
  can-save-records small = record { can = can-pair c small; inside = omega (arith, c.long) }

  -- an exchange that was possible still is, where only places that a plan does not use have changed
  pub can-after : {work' : List ℕ} → OnlyIn (spare (length s.heads) (length s.next)) (3 * length s.next) work work' → CanSwap s b leave enter work' R A B
  can-after {work'} o =
      record {
        columns = c.columns;
        sized = c.sized;
        sound = c.sound;
        same = c.same;
        fits = c.fits;
        leave-booked = c.leave-booked;
        enter-booked = c.enter-booked;
        book-sized = c.book-sized;
        book-free = c.book-free;
        book-sound = c.book-sound;
        some = c.some;
        m-bound = c.m-bound;
        f-bound = c.f-bound;
        few = c.few;
        long = omega (arith, c.long, o.same_length);
        zero = only_zero o 0 (spare m f) (inr (omega arith)) c.zero;
        flags-zero = only_zero o (flags_at m f) flag_count (inl (omega arith)) c.flags-zero;
      }

  module _ {work₁ : List ℕ} (p : ParentsSaved s.parents work work₁ (gather_at (length s.heads) (length s.next))) where
    pub parents-only : OnlyIn (spare (length s.heads) (length s.next)) (3 * length s.next) work work₁
    parents-only = only_wider (spare m f) (3 * f) (omega arith) (omega (arith, c.sized.parents-long, exchange-room c)) p.only

    module _ {work₂ : List ℕ} (r : RecordsSaved s.rows s.counts s.next work₁ work₂ (spare (length s.heads) (length s.next))) where
      both-only : OnlyIn (spare m f) (3 * f) work work₂
      both-only = only-join (spare m f) (3 * f) parents-only r.only (omega arith) (omega arith) (omega arith) (omega arith)

      pub can-after-both : CanSwap s b leave enter work₂ R A B
      can-after-both = can-after both-only

      pub parents-kept : ParentsKept work₂ (gather_at (length s.heads) (length s.next)) s.parents
      parents-kept =
          parents-stay p.kept r.only.same_length
          (λ i h. ap lower_part (only-cell r.only (gather_at m f) (length s.parents) (inl (omega arith)) i h))

      low-after : (i : ℕ) → i < m → cell work₂ (gather_at m f) i < upper_weight
      low-after i h =
          omega (arith, only-cell r.only (gather_at m f) m (inl (omega arith)) i h, p.low i (omega (arith, c.sized.parents-long)))

  -- ---- the outcome

  -- the size of a column before
  size_is : (j : ℕ) → 1 ≤ j → j ≤ m → length (records_of s j) ≡ size_of (column_at (factor_of m (R ++ A)) j)
  size_is j a e =
      holds-size ((sound-facts c.columns s c.sound).column j a e) ∙ ap (λ (fs : List FactorColumn). size_of (column_at fs j)) (order-free m c.columns (R ++ A) c.same)

  module _ {after : Stored} {work₁ work₂ : List ℕ} (v : Moved (length s.heads) (length s.next) R s (is_exchanged (factor_of (length s.heads) (R ++ A)) (factor_of (length s.heads) (R ++ B)) A B) (R ++ B) after work₁ work₂)
      (low : (i : ℕ) → i < length s.heads → cell work₁ (gather_at (length s.heads) (length s.next)) i < upper_weight) where
    gathered-all : Gathered m f R A B work₂
    gathered-all j a e =
        let z : gathered_in m f work₁ j ≡ 0 = omega (arith, low (j - 1) (omega arith)) in
        let t : Bool = is_exchanged (factor_of m (R ++ A)) (factor_of m (R ++ B)) A B j in
        v.gathers.counts j a e ∙
        ap (λ (x : Bool). pick x (pick t (1 + length (records_of s j)) 0) (gathered_in m f work₁ j)) (eq-eqb (gathered_in m f work₁ j) 0 z) ∙
        ap (λ (n : ℕ). pick t (1 + n) 0) (size_is j a e)

    pub finished : Done s R A B after work₂
    finished = record { sized = v.sized; heads = v.heads; sound = v.sound; others = v.others; entries = v.entries; gathered = gathered-all }

  -- none enters
  module _ {work₁ : List ℕ} (p : ParentsSaved s.parents work work₁ (gather_at (length s.heads) (length s.next))) {after : Stored} {work₂ : List ℕ}
      (none : length enter ≡ 0) (v : Moved (length s.heads) (length s.next) R s (is_touched (factor_of (length s.heads) (R ++ A)) A) R after work₁ work₂) where
    empty : B ≡ []
    empty = nothing B (booked-length b enter B c.enter-booked ∙ none)
      where
        nothing : (cs : List Column) → length cs ≡ 0 → cs ≡ []
        nothing [] e = refl
        nothing (x ∷ xs) e = absurd (omega arith)

    exchanged_same : (j : ℕ) → 1 ≤ j → j ≤ m → is_touched (factor_of m (R ++ A)) A j ≡ is_exchanged (factor_of m (R ++ A)) (factor_of m (R ++ [])) A [] j
    unfolding any
    exchanged_same j a e = sym (or-false (is_touched (factor_of m (R ++ A)) A j))

    moved-whole : Moved m f R s (is_exchanged (factor_of m (R ++ A)) (factor_of m (R ++ B)) A B) (R ++ B) after work₁ work₂
    moved-whole =
        subst (λ (cs : List Column). Moved m f R s (is_exchanged (factor_of m (R ++ A)) (factor_of m (R ++ cs)) A cs) (R ++ cs) after work₁ work₂) (sym empty)
        (subst (λ (l : List Column). Moved m f R s (is_exchanged (factor_of m (R ++ A)) (factor_of m (R ++ [])) A []) l after work₁ work₂) (sym (append-nil R))
        (moved_as exchanged_same (λ g. refl) v))

    pub finished-leaving : StoredExchanged s R A B work after work₂ true false
    finished-leaving =
        record {
          fits-is = sym (le-leb (size_sum (factor_of m (R ++ B))) f
              (omega (arith, sizes-fit (R ++ B) after moved-whole.sound, ap (λ (n : ℕ). size_sum (factor_of n (R ++ B))) (ap length v.heads), v.long)));
          done = λ k. finished moved-whole (λ i h. p.low i (omega (arith, c.sized.parents-long)));
          undone = λ k. absurd (false≢true (sym k));
          only = only-join (spare m f) (3 * f) (parents-only p) v.gathers.only (omega arith) (omega arith) (omega arith) (omega (arith, exchange-room c));
          only-gathered = λ k. only-join (gather_at m f) m p.only v.gathers.only (omega arith) (omega (arith, c.sized.parents-long)) (omega arith) (omega arith);
        }

  -- some enter
  module _ {work₁ : List ℕ} (p : ParentsSaved s.parents work work₁ (gather_at (length s.heads) (length s.next))) {work₂ : List ℕ}
      (r : RecordsSaved s.rows s.counts s.next work₁ work₂ (spare (length s.heads) (length s.next))) {after : Stored} {work₃ : List ℕ} {fits : Bool} where
    pub finished-both : ((R A B : List Column) → CanSwap s b leave enter work₂ R A B → Swapped (length s.heads) (length s.next) R A B s after work₂ work₃ fits) →
        StoredExchanged s R A B work after work₃ fits true
    finished-both d =
        let x : Swapped m f R A B s after work₂ work₃ fits = d R A B (can-after-both p r) in
        record {
          fits-is = x.fits-is;
          done = λ k. finished (x.done k) (low-after p r);
          undone = x.undone;
          only = only-join (spare m f) (3 * f) (both-only p r) x.only (omega arith) (omega arith) (omega arith) (omega (arith, exchange-room c));
          only-gathered = λ k. absurd (false≢true (sym k));
        }

-- what a caller of `swap` shows
pub some-swap : {s : Stored} {b : book.Book} {windows : List ℕ} {before after : ℕ} {work work₁ work₂ : List ℕ} {R A B : List Column} →
    CanSwap s b (moving_ids b.heads windows before after) (moving_ids b.heads windows after before) work R A B → CanCollect b.heads windows 1 →
    ((k : ℕ) → get_or s.counts k 0 < 65536) → ParentsSaved s.parents work work₁ (gather_at (length s.heads) (length s.next)) →
    RecordsSaved s.rows s.counts s.next work₁ work₂ (spare (length s.heads) (length s.next)) → SomeSwap s b windows before after work₂
some-swap {R = R} {A} {B} c k l p r =
    record { R = R; A = A; B = B; can = can-after-both c p r; scan = k; small = l; records = r.kept; parents = parents-kept c p r }

-- the exchange of stored columns that are the same
pub exchanged-same : {s after after' : Stored} {R A B : List Column} {work work' : List ℕ} {fits saved : Bool} → after ≡ after' →
    StoredExchanged s R A B work after work' fits saved → StoredExchanged s R A B work after' work' fits saved
exchanged-same {s} {R = R} {A} {B} {work} {work'} {fits} {saved} e = subst (λ (t : Stored). StoredExchanged s R A B work t work' fits saved) e
