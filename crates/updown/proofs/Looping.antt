-- A walk at its loop's test, of columns that enter or leave: its start, A at the next column, its end, and where it stops; then A over listed columns and over
-- booked ones. Assumes nothing.
use mathlib.Core.Path.{◌≡◌, sym, ◌∙◌}
use mathlib.Core.Logic.{◌≢◌}
use mathlib.Core.Bool.{Bool, true, false, true≢false}
use mathlib.Core.List.{List}
use Prim.Native.Nat.{ℕ, suc, ◌*◌, ◌%◌, ◌≤◌, ◌<◌}
use lib.ListN.{length}
use Rattle.lists.specs.Lists.{all}
use Rattle.symbolic.specs.Columns.{Column, fits_rows}
use Rattle.symbolic.specs.Factor.{size_sum}
use Rattle.pool.specs.Chains.{chain}
use Rattle.updown.specs.Entries.{Listed}
use Rattle.updown.specs.Marks.{mark_at, Taken}
use Rattle.updown.specs.Turns.{larger}
use Rattle.updown.specs.States.{start_of, Between, Halted}
use Rattle.updown.specs.Starts.{CanStart, Started, SomeStart, BookHolds, SomeStartBooked, CanWalk, Walked, CanWalkListed, CanWalkBooked}
use Rattle.updown.proofs.Turned.{Turning, Turned}
use Rattle.updown.proofs.Seeking.{between_start, taken_none, taken-begun, seeking-start, seeking-bits, turning-from}
use Rattle.updown.proofs.Exceeding.{stops-adding}

-- all columns so far have free records, or the walk stopped
pub record Looping (next work₀ work : List ℕ) (m flags free : ℕ) (R W : List Column) (adding fits : Bool) (first last count entries used avail : ℕ) : Type 0 where
  pub onward : fits ≡ true → Between next work₀ work m flags R W adding free (suc last) first last count entries used avail
  pub halted : fits ≡ false → (adding ≡ true) × Halted m (length next) flags work₀ work used × (length next < size_sum (larger m R W))

-- stopped
pub loop-stops : {next work₀ w : List ℕ} {m flags free : ℕ} {R W : List Column} {adding ok : Bool} {f l n k used avail : ℕ} →
    Looping next work₀ w m flags free R W adding ok f l n k used avail → ok ≡ false → Walked next work₀ w m flags free R W adding ok f l n k used avail
loop-stops h x = record { made = λ y. absurd (true≢false (sym y ∙ x)); halted = h.halted }

module _ {heads parents rows counts next : List ℕ} {m flags free : ℕ} {R W : List Column} {adding : Bool} {work₀ start : List ℕ}
    (c : CanWalk heads parents rows counts next work₀ start m flags free R W adding) where
  abbrev F : ℕ
  F = length (chain next free)

  pub loop-begins : {ok : Bool} {f l n k used avail : ℕ} → (ok ≡ true) × (f ≡ 0) × (l ≡ 0) × (n ≡ 0) × (k ≡ 0) × (used ≡ 0) × (avail ≡ free) →
      Looping next work₀ start m flags F R W adding ok f l n k used avail
  loop-begins e = record { onward = λ _. between_start free e c.walking c.linked; halted = λ x. absurd (true≢false (sym e.0 ∙ x)) }

  module _ {w : List ℕ} {ok : Bool} {f l n k used avail : ℕ} (g : Looping next work₀ w m flags F R W adding ok f l n k used avail) (y : ok ≡ true) {wb : List ℕ} {j : ℕ}
      (t : Taken m w wb l used j) where
    abbrev h : Between next work₀ w m flags R W adding F (suc l) f l n k used avail
    h = g.onward y

    -- no row is marked any more
    pub loop-ends : j ≡ 0 → Walked next work₀ wb m flags F R W adding ok f l n k used avail
    loop-ends z = record { made = λ _. taken_none h t z; halted = λ x. absurd (true≢false (sym y ∙ x)) }

    module _ (z : j ≢ 0) where
      -- what A asks
      loop-start : all (fits_rows m) W ≡ true → CanStart m R W adding wb j × (4 * m ≤ length wb)
      loop-start = seeking-start c.setting h t z

      loop-turning : {wa : List ℕ} {d : ℕ} →
          (((i : ℕ) → 1 ≤ i → i ≤ length W → start_of W i ≡ j → mark_at m wb j % 4 ≡ 2) → Started m R W adding wb wa d j) →
          Turning next work₀ wa m flags R W adding F d j f l n k used avail
      loop-turning a = turning-from c.setting h t z (a (seeking-bits c.setting h t z))

      pub loop-on : {wa w₂ : List ℕ} {d : ℕ} {ok' : Bool} {f' l' n' k' used' avail' : ℕ} → Turning next work₀ wa m flags R W adding F d j f l n k used avail →
          Turned next work₀ w₂ m flags R W adding F j avail ok' f' l' n' k' used' avail' → Looping next work₀ w₂ m flags F R W adding ok' f' l' n' k' used' avail'
      loop-on a d =
          let b = taken-begun c.setting h t z in
          record {
            onward = d.onward;
            halted = λ x.
                let u : (adding ≡ true) × (length next < size_sum (larger m R W)) =
                stops-adding adding c.size j b.low b.high c.setting.columns.narrow c.setting.columns.few b.touched a.numbers (sym d.fits-is ∙ x) in
                (u.0, d.halted x, u.1);
          }

-- ---- A over listed columns

module _ {heads parents rows counts next starts row_counts row_list : List ℕ} {m flags free : ℕ} {R W : List Column} {work₀ start : List ℕ}
    (c : CanWalkListed heads parents rows counts next work₀ start starts row_counts row_list m flags free R W) {w : List ℕ} {ok : Bool} {f l n k used avail : ℕ}
    (g : Looping next work₀ w m flags (length (chain next free)) R W true ok f l n k used avail) (y : ok ≡ true) {wb : List ℕ} {j : ℕ} (t : Taken m w wb l used j) (z : j ≢ 0) where
  pub listed_start : SomeStart starts row_counts row_list m wb j × (4 * m ≤ length wb)
  listed_start =
      let s : CanStart m R W true wb j × (4 * m ≤ length wb) = loop-start c.walk g y t z c.fits in
      (record { R = R; W = W; listed = c.listed; can = s.0 }, s.1)

  pub listed-turning : {wa : List ℕ} {d : ℕ} → ((R W : List Column) → Listed starts row_counts row_list W → CanStart m R W true wb j →
      ((i : ℕ) → 1 ≤ i → i ≤ length W → start_of W i ≡ j → mark_at m wb j % 4 ≡ 2) → Started m R W true wb wa d j) →
      Turning next work₀ wa m flags R W true (length (chain next free)) d j f l n k used avail
  listed-turning a = loop-turning c.walk g y t z (a R W c.listed (loop-start c.walk g y t z c.fits).0)

-- ---- A over booked columns

module _ {heads parents rows counts next book-heads book-rows book-next starts ids : List ℕ} {m flags free : ℕ} {R W : List Column} {adding : Bool} {work₀ start : List ℕ}
    (c : CanWalkBooked heads parents rows counts next book-heads book-rows book-next work₀ start starts ids m flags free R W adding) {w : List ℕ} {ok : Bool} {f l n k used avail : ℕ}
    (g : Looping next work₀ w m flags (length (chain next free)) R W adding ok f l n k used avail) (y : ok ≡ true) {wb : List ℕ} {j : ℕ} (t : Taken m w wb l used j) (z : j ≢ 0) where
  pub booked-start : SomeStartBooked book-heads book-rows book-next starts ids m wb j adding × (4 * m ≤ length wb)
  booked-start =
      let s : CanStart m R W adding wb j × (4 * m ≤ length wb) = loop-start c.walk g y t z c.holds.fits in
      (record { R = R; W = W; holds = c.holds; can = s.0 }, s.1)

  pub booked-turning : {wa : List ℕ} {d : ℕ} → ((R W : List Column) → BookHolds book-heads book-rows book-next starts ids m W → CanStart m R W adding wb j →
      ((i : ℕ) → 1 ≤ i → i ≤ length W → start_of W i ≡ j → mark_at m wb j % 4 ≡ 2) → Started m R W adding wb wa d j) →
      Turning next work₀ wa m flags R W adding (length (chain next free)) d j f l n k used avail
  booked-turning a = loop-turning c.walk g y t z (a R W c.holds (loop-start c.walk g y t z c.holds.fits).0)
