-- The loop in which all groups leave: the columns before place a have left (`Leaving`). Start, what a group asks, what it leaves, the end. Assumes nothing.
use mathlib.Core.Path.{◌≡◌, refl, sym, ap, ◌∙◌, subst}
use mathlib.Core.List.{List, ◌++◌, append-nil}
use Prim.Native.Nat.{ℕ, ◌-◌, ◌≤◌}
use native.Mathlib.Omega.{arith}
use lib.ListN.{length, take, drop, take-append-drop, length-append, length-take, length-drop, drop_of_length-le}
use lib.Seq.{take_all}
use Rattle.lists.specs.Lists.{Mem, any}
use Rattle.lists.proofs.Member.{mem-left, mem-right}
use Rattle.symbolic.specs.Columns.{Column}
use Rattle.symbolic.specs.Factor.{factor_of}
use Rattle.symbolic.specs.Batch.{is_touched}
use Rattle.book.specs.Book as book
use Rattle.tables.specs.Stored.{Stored}
use Rattle.updown.proofs.Booking.{booked-length}
use Rattle.exchange.specs.Stages.{group_touches, CanLeave, GroupDone, CanGo, CanLeaveAll, SomeLeave, Moved}
use Rattle.exchange.proofs.Stages.{moved_none, moved_as, moved-joins, group-moved}
use Rattle.exchange.proofs.Small.{rows-room}
use Rattle.exchange.proofs.Parting.{GroupEnds, group, booked-part, left-parts, leaving-more}
use Rattle.exchange.proofs.Going.{go_on, some_fit}

-- the columns of A before place a have left R and A
abbrev pub Leaving : (R A : List Column) (s now : Stored) (work work' : List ℕ) (a : ℕ) → Type 0
Leaving R A s now w w' a =
    Moved (length s.heads) (length s.next) R s (is_touched (factor_of (length s.heads) (R ++ A)) (take a A)) (R ++ drop a A) now w w'

-- what stands in a part stands in the whole
pub mem-rest : {c : Column} (a : ℕ) (cs : List Column) → Mem c (drop a cs) → Mem c cs
mem-rest {c} a cs h = subst (λ (l : List Column). Mem c l) (take-append-drop a cs) (mem-right (take a cs) h)

pub mem-front : {c : Column} (a : ℕ) (cs : List Column) → Mem c (take a cs) → Mem c cs
mem-front {c} a cs h = subst (λ (l : List Column). Mem c l) (take-append-drop a cs) (mem-left (drop a cs) h)

module _ {s : Stored} {b : book.Book} {ids work : List ℕ} {R A : List Column} (c : CanLeaveAll s b ids work R A) where
  leaving-first : Leaving R A s s work work 0
  unfolding any
  leaving-first = moved_as (λ j p q. refl) (λ f. sym (c.same f)) (moved_none c.go.sized c.sound refl)

  pub leaving-start : {a : ℕ} → a ≡ 0 → Leaving R A s s work work a
  leaving-start e = subst (λ (a : ℕ). Leaving R A s s work work a) (sym e) leaving-first

  length-is : length A ≡ length ids
  length-is = booked-length b ids A c.booked

  leave_room : length s.heads ≤ length s.next
  leave_room = rows-room c.columns s c.sound

  module _ {now : Stored} {work' : List ℕ} {a : ℕ} (v : Leaving R A s now work work' a) where
    module _ {e : ℕ} (g : GroupEnds a (length ids) e) where
      group-length : length (group A a e) ≡ e - a
      group-length = omega (arith, length-take (e - a) (drop a A), length-drop a A, length-is, g.low, g.high)

      leaving-can : CanLeave now b (take (e - a) (drop a ids)) work' (R ++ drop e A) (group A a e)
      leaving-can =
          let o : CanGo now b work' = go_on c.go leave_room v in
          let wide : length now.heads ≡ length s.heads = ap length v.heads in
          record {
            columns = R ++ drop a A;
            can = record {
              sized = o.sized;
              sound = v.sound;
              batch-fits = some_fit (R ++ A) (group A a e) (λ x h. mem-right R (mem-rest a A (mem-front (e - a) (drop a A) h))) wide c.fits;
              some = o.some;
              m-bound = o.m-bound;
              f-bound = o.f-bound;
              few = omega (arith, c.few, length-append R (drop a A), length-drop a A, group-length, g.few);
              positions = (omega (arith, group-length, g.low), omega (arith, group-length, g.few));
              long = o.long;
              zero = o.zero;
              flags-zero = o.flags-zero;
            };
            same = left-parts A a e (omega (arith, g.low)) R;
            booked = booked-part b a e ids A c.booked;
            book-sized = o.book-sized;
            book-free = o.book-free;
            book-sound = o.book-sound;
          }

      leaving-next : {after : Stored} {work'' : List ℕ} →
          GroupDone (length s.heads) (length now.next) now (group_touches (length s.heads) (R ++ drop e A) (group A a e)) (R ++ drop e A) after work' work'' →
          Leaving R A s after work work'' e
      leaving-next {after} {work''} d =
          let m : ℕ = length s.heads in
          let done : GroupDone m (length s.next) now (group_touches m (R ++ drop e A) (group A a e)) (R ++ drop e A) after work' work'' =
          subst (λ (f : ℕ). GroupDone m f now (group_touches m (R ++ drop e A) (group A a e)) (R ++ drop e A) after work' work'') v.long d in
          moved_as (leaving-more m R A a e (omega (arith, g.low))) (λ f. refl) (moved-joins refl v (drop a A) (λ f. refl) (group-moved done))

      -- the ids of the group, as they are lent
      module _ {part : List ℕ} (q : part ≡ take (e - a) (drop a ids)) where
        part-can : CanLeave now b part work' (R ++ drop e A) (group A a e)
        part-can = subst (λ (l : List ℕ). CanLeave now b l work' (R ++ drop e A) (group A a e)) (sym q) leaving-can

        pub leaving-some : SomeLeave now b part work'
        leaving-some = record { N = R ++ drop e A; W = group A a e; can = part-can }

        pub leaving-turn : {after : Stored} {work'' : List ℕ} → ((N W : List Column) → CanLeave now b part work' N W →
            GroupDone (length s.heads) (length now.next) now (group_touches (length s.heads) N W) N after work' work'') → Leaving R A s after work work'' e
        leaving-turn d = leaving-next (d (R ++ drop e A) (group A a e) part-can)

    pub leaving-end : length ids ≤ a → Moved (length s.heads) (length s.next) R s (is_touched (factor_of (length s.heads) (R ++ A)) A) R now work work'
    leaving-end h =
        let p : take a A ≡ A = take_all a A (omega (arith, length-is)) in
        let q : length A ≤ a = omega (arith, length-is) in
        let r : R ++ drop a A ≡ R = ap (λ (l : List Column). R ++ l) (drop_of_length-le A q) ∙ append-nil R in
        subst (λ (l : List Column). Moved (length s.heads) (length s.next) R s (is_touched (factor_of (length s.heads) (R ++ A)) A) l now work work') r
        (moved_as (λ j x y. ap (λ (l : List Column). is_touched (factor_of (length s.heads) (R ++ A)) l j) p) (λ f. refl) v)
