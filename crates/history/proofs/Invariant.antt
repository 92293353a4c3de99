-- What record, tables and plain register have in common between calls (`Inv`): sizes in range, the same limits and clock, tables long enough and sound, and the same
-- columns up to order, ids once. It gives `Consistent` (`inv-consistent`); an accepted opening sets it up (`inv-opened`), any accepted call has found it
-- (`inv-found`), and Steps.antt shows that every call keeps it.
-- Assumes nothing.
use mathlib.Core.Path.{◌≡◌, refl, sym, ap, ◌∙◌, subst}
use mathlib.Core.Bool.{true}
use mathlib.Core.List.{List, []}
use Prim.Native.Nat.{ℕ}
use lib.ListN.{length}
use Rattle.lists.specs.Lists.{all, no_repeats, sum_of}
use Rattle.symbolic.specs.Columns.{Column, live}
use Rattle.symbolic.specs.Factor.{FactorColumn, factor_of, factor_for}
use Rattle.symbolic.specs.Change.{ids_of, Bag}
use Rattle.symbolic.specs.Grades.{Limits, are_limits, limits_for}
use Rattle.symbolic.proofs.Bags.{bag-mem, bag-all}
use Rattle.symbolic.proofs.Live.{live-fits}
use Rattle.book.specs.Book.{Book, columns_in, column_fits}
use Rattle.book.proofs.Columns.{ids-distinct}
use Rattle.windows.proofs.Windowed.{windowed-ids}
use Rattle.tables.specs.Stored.{Stored, holds_from}
use Rattle.tables.specs.Tables.{Tables, Sizes, long_enough, stored_in, book_in, windows_in, is_sound}
use Rattle.tables.specs.Opening.{opened_state, opened_tables}
use Rattle.tables.proofs.Stored.{stands-chain}
use Rattle.tables.proofs.Tables.{sound-limits, sound-fits, sound-factor, fits-rows}
use Rattle.tables.proofs.Opening.{opened-columns, opened-sound, opened-long}
use Rattle.calls.specs.Refusals.{accepted, is_accepted, bounds, sizes_refusal}
use Rattle.calls.specs.Calls.{opening, Lent, call_of, with_default}
use Rattle.calls.specs.Steps.{World, booked_in}
use Rattle.calls.proofs.Refusals.{InRange, sizes-facts}
use Rattle.calls.proofs.Numbers.{Ready, Found}
use Rattle.calls.proofs.Order.{bag-factor}
use Rattle.history.specs.Runs.{Plain}
use Rattle.history.specs.Statements.{Consistent, plain_of}
use Rattle.history.proofs.Reports.{held-factor}

pub record Inv (p : Plain) (u : World) : Type 0 where
  pub in-range : sizes_refusal bounds p.sizes ≡ accepted
  pub sizes : u.state.sizes ≡ p.sizes
  pub limits : u.state.limits ≡ p.limits
  pub clock : u.state.clock ≡ p.register.clock
  pub rows : p.register.m ≡ p.sizes.m
  pub long : long_enough p.sizes u.tables ≡ true
  pub sound : is_sound u.state u.tables ≡ true
  pub bag : Bag (booked_in u).columns p.register.columns
  pub once : no_repeats (ids_of p.register.columns) ≡ true

-- the book's ids stand once, whatever the tables hold
pub book-once : (u : World) → no_repeats (ids_of (booked_in u).columns) ≡ true
book-once u =
    let b : Book = book_in u.state u.tables in
    ap no_repeats (windowed-ids (windows_in u.state u.tables) (length b.heads) (columns_in b)) ∙ ids-distinct b

-- what an accepted call has found in any world: the world holds it of itself
pub inv-found : (u : World) → Found u.state u.tables → Inv (plain_of u) u
inv-found u f =
    record { in-range = f.in-range; sizes = refl; limits = refl; clock = refl; rows = refl; long = f.long; sound = f.sound; bag = λ g. refl; once = book-once u }

-- ---- what it gives

module _ {p : Plain} {u : World} (i : Inv p u) where
  pub inv-rows : (booked_in u).m ≡ p.register.m
  inv-rows = ap (λ (l : Sizes). l.m) i.sizes ∙ sym i.rows

  pub inv-long : long_enough u.state.sizes u.tables ≡ true
  inv-long = ap (λ (l : Sizes). long_enough l u.tables) i.sizes ∙ i.long

  inv-numbers : holds_from (stored_in u.state u.tables) (factor_for p.register) 1 p.sizes.m ≡ true
  inv-numbers =
      let s : Stored = stored_in u.state u.tables in
      ap (λ (l : Sizes). holds_from s (factor_for p.register) 1 l.m) (sym i.sizes) ∙
      ap (λ (fs : List FactorColumn). holds_from s fs 1 u.state.sizes.m) (sym (bag-factor (booked_in u) p.register inv-rows i.clock i.bag)) ∙
      sound-factor u.state u.tables inv-long i.sound

  -- of the register's own m
  pub inv-holds : holds_from (stored_in u.state u.tables) (factor_for p.register) 1 p.register.m ≡ true
  inv-holds = subst (λ (n : ℕ). holds_from (stored_in u.state u.tables) (factor_for p.register) 1 n ≡ true) (sym i.rows) inv-numbers

  pub inv-fits : all (column_fits p.sizes.m) p.register.columns ≡ true
  inv-fits =
      subst (λ (l : Sizes). all (column_fits l.m) p.register.columns ≡ true) i.sizes
      (bag-all (column_fits u.state.sizes.m) (booked_in u).columns p.register.columns i.bag (sound-fits u.state u.tables i.sound))

  pub inv-consistent : Consistent p u
  inv-consistent =
      let m : ℕ = p.sizes.m in
      let s : Stored = stored_in u.state u.tables in
      let h : holds_from s (factor_of m (live p.register)) 1 m ≡ true =
      ap (λ (n : ℕ). holds_from s (factor_of n (live p.register)) 1 m) (sym i.rows) ∙ inv-numbers in
      record {
        in-range = i.in-range;
        sizes = i.sizes;
        in_order = ap are_limits (sym i.limits) ∙ sound-limits u.state u.tables i.sound;
        limits = i.limits;
        clock = i.clock;
        rows = i.rows;
        long = i.long;
        sound = i.sound;
        columns = λ c. (λ k. bag-mem p.register.columns (booked_in u).columns (λ f. sym (i.bag f)) k, λ k. bag-mem (booked_in u).columns p.register.columns i.bag k);
        book-once = book-once u;
        register-once = i.once;
        factor = held-factor p.register u inv-holds;
        stored = inv-numbers;
        chains = λ x j a b d. stands-chain m (live p.register) s h (live-fits p.register m p.register.columns (fits-rows m p.register.columns inv-fits)) x j a b d;
      }

-- ---- an accepted opening

abbrev pub opened_plain : Sizes → Limits → Plain
opened_plain l g = record { sizes = with_default l; limits = limits_for g; register = record { m = l.m; clock = 0; columns = [] } }

abbrev pub opened_world : Sizes → Limits → Tables → World
opened_world l g t = record { state = opened_state (with_default l) (limits_for g); tables = opened_tables (with_default l) t }

pub inv-opened : (l : Sizes) (g : Limits) (k : Sizes) (t : Tables) (w : Lent) → Ready k t (call_of (opening l g) w) → Inv (opened_plain l g) (opened_world l g t)
unfolding no_repeats ids_of
inv-opened l g k t w r =
    let f : InRange (with_default l) = sizes-facts (with_default l) (ap is_accepted r.sizes) in
    record {
      in-range = r.sizes;
      sizes = refl;
      limits = refl;
      clock = refl;
      rows = refl;
      long = opened-long (with_default l) t f.f-low r.room.tables;
      sound = opened-sound (with_default l) (limits_for g) t f.f-low r.limits;
      bag = λ h. ap (λ (cs : List Column). sum_of h cs) (opened-columns (with_default l) (limits_for g) t f.f-low);
      once = refl;
    }
