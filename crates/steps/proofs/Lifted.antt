-- The outcome of a change on cut tables, lifted: its number, answer and lists are those of the whole tables' register, an accepted world with the prefixes
-- written back is the whole one's (`exchanged-lifts`), a refused one is unchanged; so the step on the whole tables is whole (`step-lifts`).
-- Assumes nothing.
use mathlib.Core.Path.{◌≡◌, refl, sym, ap, ◌∙◌, subst}
use mathlib.Core.Bool.{Bool, true, false, ◌&&◌}
use mathlib.Core.List.{List}
use Prim.Native.Nat.{ℕ, ◌*◌, ◌≤◌}
use Rattle.lists.specs.Lists.{among, at}
use Rattle.symbolic.specs.Columns.{Register, live}
use Rattle.symbolic.specs.Factor.{factor_of, in_pattern}
use Rattle.symbolic.specs.Change.{Bag}
use Rattle.symbolic.specs.Grades.{Limits, are_limits}
use Rattle.book.specs.Book as book
use Rattle.windows.specs.Windowed.{register_in, are_sound}
use Rattle.tables.specs.Stored.{Stored, is_sound_for}
use Rattle.tables.specs.Stays.{ColumnStays, EntriesStay, MinutesStay, TailsStay}
use Rattle.tables.specs.Tables.{Tables, Sizes, stored_in, book_in, windows_in, register_of, is_sound}
use Rattle.tables.proofs.Tables.{Long}
use Rattle.calls.specs.Refusals.{Refusal, is_accepted}
use Rattle.calls.specs.Calls.{Change, changing, Lent, call_of}
use Rattle.calls.specs.Changes.{effect, touched_by}
use Rattle.calls.specs.Steps.{Answer, refused_by, accepted_by, lists_after, World, booked_in, SameBook, Exchanged}
use Rattle.steps.specs.Outcome.{cut_sizes, cut_world, ChangeOutcome, ChangeStep}
use Rattle.steps.proofs.Lifting.{cut_tables, join_tables, world_for, join-cut, put_back, Fits, cut_fits, cut-sizes-are, stored-fits, book-fits, windows-fits, stored-joins, book-joins, windows-joins, tails-join, stored-lifts, book-lifts, windows-lifts, register-lifts}

-- a fact of two things, moved along equations of both
moved : {A : Type 0} (P : A → A → Type 0) {a a' b b' : A} → a ≡ b → a' ≡ b' → P a a' → P b b'
moved P {a} {a'} {b} {b'} e e' h = subst (λ x. P x b') e (subst (λ x. P a x) e' h)

module _ {l : Sizes} {t : Tables} (long : Long l t) (lim : Limits) (o f g : ℕ) (y : Tables) (o' f' g' : ℕ) (k : Change) where
  abbrev u : World
  u = cut_world (cut_tables l t) lim o f g

  abbrev v : World
  v = cut_world y lim o' f' g'

  abbrev after : World
  after = world_for l lim o' f' g' (join_tables l y t)

  -- lengths stay, so the tables after it fit
  exchanged-fits : TailsStay (cut_sizes (cut_tables l t)) (cut_tables l t) y → Fits l y
  exchanged-fits h =
      let z : Fits l (cut_tables l t) = cut_fits l t long in
      record {
        heads = h.heads.same_length ∙ z.heads;
        parents = h.parents.same_length ∙ z.parents;
        rows = h.rows.same_length ∙ z.rows;
        counts = h.counts.same_length ∙ z.counts;
        next = h.next.same_length ∙ z.next;
        book-heads = h.book_heads.same_length ∙ z.book-heads;
        book-rows = h.book_rows.same_length ∙ z.book-rows;
        book-next = h.book_next.same_length ∙ z.book-next;
        windows = h.windows.same_length ∙ z.windows;
      }

  pub exchanged-lifts : Exchanged (cut_world (cut_tables l t) lim o f g) k (cut_world y lim o' f' g') → Exchanged (world_for l lim o f g t) k (world_for l lim o' f' g' (join_tables l y t))
  exchanged-lifts x =
      let c : Fits l (cut_tables l t) = cut_fits l t long in
      let z : Fits l y = exchanged-fits x.tails in
      let s : stored_in u.state u.tables ≡ stored_in (world_for l lim o f g t).state t = stored-lifts long lim o f g in
      let b : book_in u.state u.tables ≡ book_in (world_for l lim o f g t).state t = book-lifts long lim o f g in
      let r : register_of u.state u.tables ≡ register_of (world_for l lim o f g t).state t = register-lifts long lim o f g in
      let s' : stored_in v.state y ≡ stored_in after.state after.tables = stored-fits z lim o' f' g' ∙ sym (stored-joins z lim o' f' g' t) in
      let b' : book_in v.state y ≡ book_in after.state after.tables = book-fits z lim o' f' g' ∙ sym (book-joins z lim o' f' g' t) in
      let n : windows_in u.state u.tables ≡ windows_in (world_for l lim o f g t).state t = windows-lifts long lim o f g in
      let n' : windows_in v.state y ≡ windows_in after.state after.tables = windows-fits z lim o' f' g' ∙ sym (windows-joins z lim o' f' g' t) in
      let l' : ℕ = l.m in
      let stays : (i j : ℕ) → in_pattern (factor_of l.m (effect (register_of (world_for l lim o f g t).state t) k).stay) i j ≡ true →
      in_pattern (factor_of (cut_sizes (cut_tables l t)).m (effect (register_of u.state u.tables) k).stay) i j ≡ true =
      λ i j n. subst (λ (m : ℕ). in_pattern (factor_of m (effect (register_of u.state u.tables) k).stay) i j ≡ true) (sym c.heads)
      (subst (λ (o : Register). in_pattern (factor_of l.m (effect o k).stay) i j ≡ true) (sym r) n) in
      let sound : is_sound v.state y ≡ is_sound after.state after.tables =
      λ i. are_limits lim && (book.is_sound (z.heads i) (b' i) && are_sound (b' i).heads (n' i) && is_sound_for (live (register_in (z.heads i) o' (b' i) (n' i))) (s' i)) in
      let r' : register_of v.state y ≡ register_of after.state after.tables = λ i. register_in (z.heads i) o' (b' i) (n' i) in
      record {
        sizes = refl;
        limits = refl;
        clock = x.clock ∙ ap (λ (q : Register). (effect q k).register.clock) r;
        sound = sym sound ∙ x.sound;
        columns = subst (λ (q : Register). Bag (register_of after.state after.tables).columns (effect q k).register.columns) r
            (subst (λ (q : Register). Bag q.columns (effect (register_of u.state u.tables) k).register.columns) r' x.columns);
        others = λ j p q h. moved (λ (m n : Stored). ColumnStays m n j) s s'
            (x.others j p (subst (λ (n : ℕ). j ≤ n) (sym c.heads) q) (ap (λ (o : Register). among j (touched_by o k)) r ∙ h));
        entries = λ j p q. moved (λ (m n : Stored). EntriesStay (factor_of l' (effect (register_of (world_for l lim o f g t).state t) k).stay) m n j) s s'
            (λ i o d e h n. x.entries j p (subst (λ (n : ℕ). j ≤ n) (sym c.heads) q) i o d e h (stays (at (stored_in u.state u.tables).rows i) j n));
        book = λ i p q h. moved (λ (m n : book.Book). book.ColumnStays m n i) b b'
            (x.book i p (subst (λ (n : ℕ). i ≤ n) (sym c.book-heads) q) (ap (λ (o : Register). among i (effect o k).ids) r ∙ h));
        minutes = λ i p q h. moved (λ (m w : List ℕ). MinutesStay l.n m w i) n n'
            (subst (λ (d : ℕ). MinutesStay d (windows_in u.state u.tables) (windows_in v.state y) i) c.book-heads
            (x.minutes i p (subst (λ (n : ℕ). i ≤ n) (sym c.book-heads) q) (ap (λ (o : Register). among i (effect o k).ids) r ∙ h)));
        still = λ h.
            let w : SameBook u v = x.still (ap (λ (o : Register). (effect o k).ids) r ∙ h) in
            record {
              heads = put_back l.n t.book_heads w.heads;
              rows = put_back l.c t.book_rows w.rows;
              next = put_back l.c t.book_next w.next;
              windows = put_back (2 * l.n) t.windows w.windows;
              free = w.free;
            };
        tails = tails-join z lim o' f' g' t long;
      }

  -- ---- the whole step

  module _ (a : Answer) (x y' : Lent) where
    abbrev refusal_in : World → Refusal
    refusal_in w = (effect (booked_in w) k).refusal w.state.sizes

    by_number : (q : Bool) → is_accepted (refusal_in u) ≡ q → ChangeOutcome q u k x a y' v → refusal_in u ≡ refusal_in (world_for l lim o f g t) →
        ChangeStep (world_for l lim o f g t) k x a y' after
    by_number true e d n =
        subst (λ (q : Bool). ChangeOutcome q (world_for l lim o f g t) k x a y' after) (sym (ap is_accepted (sym n) ∙ e)) (
          d.0 ∙ ap (λ (r : Register). accepted_by lim r (changing k)) (register-lifts long lim o f g),
          d.1 ∙ ap (λ (r : Register). lists_after r (call_of (changing k) x) x.work) (register-lifts long lim o f g),
          exchanged-lifts d.2,
        )
    by_number false e d n =
        let w : join_tables l y t ≡ t = ap (λ (q : World). join_tables l q.tables t) d.2 ∙ join-cut l t in
        subst (λ (q : Bool). ChangeOutcome q (world_for l lim o f g t) k x a y' after) (sym (ap is_accepted (sym n) ∙ e)) (
          d.0 ∙ ap refused_by n,
          d.1,
          λ i. world_for l (d.2 i).state.limits (d.2 i).state.clock (d.2 i).state.free (d.2 i).state.book_free (w i),
        )

    pub step-lifts : ChangeStep (cut_world (cut_tables l t) lim o f g) k x a y' (cut_world y lim o' f' g') → ChangeStep (world_for l lim o f g t) k x a y' (world_for l lim o' f' g' (join_tables l y t))
    step-lifts step =
        by_number (is_accepted (refusal_in u)) refl step
        (λ i. (effect (register-lifts long lim o f g i) k).refusal (cut-sizes-are (cut_fits l t long) lim o f g i))
