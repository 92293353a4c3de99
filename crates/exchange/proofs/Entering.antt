-- The loop in which all groups enter: the columns before place a have entered (`Entering`). Start, what a group asks, what it leaves, the end, and the end at a
-- group that does not fit. Assumes nothing.
use mathlib.Core.Path.{◌≡◌, refl, sym, ap, ◌∙◌, subst}
use mathlib.Core.Bool.{Bool, true, false, true≢false}
use mathlib.Core.List.{List, ◌++◌, append-nil, append_assoc}
use Prim.Native.Nat.{ℕ, ◌-◌, ◌≤◌, ◌<◌}
use native.Mathlib.Omega.{arith}
use lib.ListN.{length, take, drop, take-append-drop, length-append, length-take, length-drop}
use lib.Seq.{take_all}
use borrow.Author.Tests.{leb-false, le-leb, lt-leb}
use Rattle.lists.specs.Lists.{any}
use Rattle.lists.proofs.Member.{mem-right}
use Rattle.symbolic.specs.Columns.{Column}
use Rattle.symbolic.specs.Factor.{factor_of, size_sum}
use Rattle.symbolic.specs.Batch.{is_touched}
use Rattle.symbolic.proofs.Theorems.{sizes-grow}
use Rattle.workspace.specs.Regions.{cell, OnlyIn}
use Rattle.workspace.specs.Layout.{gather_at}
use Rattle.workspace.specs.Parts.{lower_part}
use Rattle.book.specs.Book as book
use Rattle.tables.specs.Stored.{Stored}
use Rattle.updown.specs.Entries.{CanAddBooked, SomeAddBooked}
use Rattle.updown.proofs.Booking.{booked-length}
use Rattle.exchange.specs.Stages.{group_touches, GroupDone, GroupEntered, CanGo, CanEnterAll, EnteredAll, Moved}
use Rattle.exchange.proofs.Stages.{moved_none, moved_as, moved-joins, group-moved}
use Rattle.exchange.proofs.Small.{rows-room, sizes-fit}
use Rattle.exchange.proofs.Parting.{GroupEnds, group, booked-part, front-more, entering-more}
use Rattle.exchange.proofs.Going.{go_on, some_fit}
use Rattle.exchange.proofs.Leaving.{mem-rest, mem-front}

-- the columns of B before place a have entered beside R
abbrev pub Entering : (R B : List Column) (s now : Stored) (work work' : List ℕ) (a : ℕ) → Type 0
Entering R B s now w w' a =
    Moved (length s.heads) (length s.next) R s (is_touched (factor_of (length s.heads) (R ++ take a B)) (take a B)) (R ++ take a B) now w w'

module _ {s : Stored} {b : book.Book} {ids work : List ℕ} {R B : List Column} (c : CanEnterAll s b ids work R B) where
  abbrev m : ℕ
  m = length s.heads

  entering-first : Entering R B s s work work 0
  unfolding any
  entering-first =
      subst (λ (l : List Column). Moved (length s.heads) (length s.next) R s (λ j. false) l s work work) (sym (append-nil R)) (moved_none c.go.sized c.sound refl)

  pub entering-start : {a : ℕ} → a ≡ 0 → Entering R B s s work work a
  entering-start e = subst (λ (a : ℕ). Entering R B s s work work a) (sym e) entering-first

  length-is : length B ≡ length ids
  length-is = booked-length b ids B c.booked

  module _ {now : Stored} {work' : List ℕ} {a : ℕ} (v : Entering R B s now work work' a) where
    module _ {e : ℕ} (g : GroupEnds a (length ids) e) where
      group-length : length (group B a e) ≡ e - a
      group-length = omega (arith, length-take (e - a) (drop a B), length-drop a B, length-is, g.low, g.high)

      entering-can : CanAddBooked now b (take (e - a) (drop a ids)) work' (R ++ take a B) (group B a e)
      entering-can =
          let o : CanGo now b work' = go_on c.go (rows-room R s c.sound) v in
          let wide : length now.heads ≡ length s.heads = ap length v.heads in
          record {
            can = record {
              sized = o.sized;
              sound = v.sound;
              batch-fits = some_fit (R ++ B) (group B a e) (λ x h. mem-right R (mem-rest a B (mem-front (e - a) (drop a B) h))) wide c.fits;
              some = o.some;
              m-bound = o.m-bound;
              f-bound = o.f-bound;
              few = omega (arith, c.few, length-append R (take a B), length-take a B, group-length, g.few);
              positions = (omega (arith, group-length, g.low), omega (arith, group-length, g.few));
              long = o.long;
              zero = o.zero;
              flags-zero = o.flags-zero;
            };
            booked = booked-part b a e ids B c.booked;
            book-sized = o.book-sized;
            book-free = o.book-free;
            book-sound = o.book-sound;
          }

      -- R, those that had entered, and the group
      more : (R ++ take a B) ++ group B a e ≡ R ++ take e B
      more = append_assoc R (take a B) (group B a e) ∙ ap (λ (l : List Column). R ++ l) (front-more B a e (omega (arith, g.low)))

      module _ {after : Stored} {work'' : List ℕ} {fits : Bool}
          (x : GroupEntered (length s.heads) (length now.next) now (R ++ take a B) (group B a e) after work' work'' fits) where
        entering-next : fits ≡ true → Entering R B s after work work'' e
        entering-next h =
            let d : GroupDone m (length s.next) now (group_touches m (R ++ take a B) (group B a e)) ((R ++ take a B) ++ group B a e) after work' work'' =
            subst (λ (f : ℕ). GroupDone m f now (group_touches m (R ++ take a B) (group B a e)) ((R ++ take a B) ++ group B a e) after work' work'') v.long (x.done h) in
            subst (λ (l : List Column). Moved m (length s.next) R s (is_touched (factor_of m (R ++ take e B)) (take e B)) l after work work'') more
            (moved_as (entering-more m R B a e (omega (arith, g.low))) (λ f. refl) (moved-joins refl v (take a B) (λ f. refl) (group-moved d)))

        -- where a group does not fit, all of B do not; what the stored columns are then is left open
        entering-halt : fits ≡ false → (left : Stored) → EnteredAll (length s.heads) (length s.next) R B s left work work'' fits
        entering-halt h left =
            let f : ℕ = length s.next in
            let over : f < size_sum (factor_of m (R ++ take e B)) =
            omega (
              arith,
              v.long,
              leb-false (size_sum (factor_of m ((R ++ take a B) ++ group B a e))) (length now.next) (sym x.fits-is ∙ h),
              ap (λ (l : List Column). size_sum (factor_of m l)) more,
            ) in
            let all_of : (R ++ take e B) ++ drop e B ≡ R ++ B = append_assoc R (take e B) (drop e B) ∙ ap (λ (l : List Column). R ++ l) (take-append-drop e B) in
            let grows : size_sum (factor_of m (R ++ take e B)) ≤ size_sum (factor_of m (R ++ B)) =
            subst (λ (l : List Column). size_sum (factor_of m (R ++ take e B)) ≤ size_sum (factor_of m l)) all_of (sizes-grow m (R ++ take e B) (drop e B)) in
            record {
              fits-is = h ∙ sym (lt-leb (size_sum (factor_of m (R ++ B))) f (omega arith));
              done = λ k. absurd (true≢false (sym k ∙ h));
              only = subst (λ (w : List ℕ). OnlyIn (gather_at m f) m work w) (sym (x.unchanged h)) v.gathers.only;
              low = λ i l. ap (λ (w : List ℕ). lower_part (cell w (gather_at m f) i)) (x.unchanged h) ∙ v.gathers.low i l;
            }

      -- the ids of the group, as they are lent
      module _ {part : List ℕ} (q : part ≡ take (e - a) (drop a ids)) where
        part-can : CanAddBooked now b part work' (R ++ take a B) (group B a e)
        part-can = subst (λ (l : List ℕ). CanAddBooked now b l work' (R ++ take a B) (group B a e)) (sym q) entering-can

        pub entering-some : SomeAddBooked now b part work'
        entering-some = record { R = R ++ take a B; W = group B a e; can = part-can }

        module _ {after : Stored} {work'' : List ℕ} {fits : Bool} (d : (N W : List Column) → CanAddBooked now b part work' N W →
            GroupEntered (length s.heads) (length now.next) now N W after work' work'' fits) where
          pub entering-turn : fits ≡ true → Entering R B s after work work'' e
          entering-turn = entering-next (d (R ++ take a B) (group B a e) part-can)

          pub entering-stop : fits ≡ false → (left : Stored) → EnteredAll (length s.heads) (length s.next) R B s left work work'' fits
          entering-stop = entering-halt (d (R ++ take a B) (group B a e) part-can)

    pub entering-end : length ids ≤ a → EnteredAll (length s.heads) (length s.next) R B s now work work' true
    entering-end h =
        let p : take a B ≡ B = take_all a B (omega (arith, length-is)) in
        let w : Moved m (length s.next) R s (is_touched (factor_of m (R ++ B)) B) (R ++ B) now work work' =
        subst (λ (l : List Column). Moved m (length s.next) R s (is_touched (factor_of m (R ++ l)) l) (R ++ l) now work work') p v in
        let fit : size_sum (factor_of m (R ++ B)) ≤ length s.next =
        omega (arith, sizes-fit (R ++ B) now w.sound, ap (λ (n : ℕ). size_sum (factor_of n (R ++ B))) (ap length w.heads), w.long) in
        record {
          fits-is = sym (le-leb (size_sum (factor_of m (R ++ B))) (length s.next) fit);
          done = λ k. w;
          only = w.gathers.only;
          low = w.gathers.low;
        }
