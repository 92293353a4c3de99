-- The step of a clock change from its exchange: 16 is its number exactly if the exchange does not fit, and then all is as before (`clock-refused`); one that fits can be
-- reported (`clock-some`), and its report is the change's (`clock-taken`). First on tables within their sizes, then on those that they are cut from. Assumes nothing.
use mathlib.Core.Path.{◌≡◌, refl, sym, ap, ◌∙◌, subst}
use mathlib.Core.Bool.{Bool, true, false}
use mathlib.Core.List.{List, ◌++◌}
use Prim.Native.Nat.{ℕ, ◌*◌, ◌≤◌}
use native.Mathlib.Omega.{arith}
use lib.Dec.{leb}
use lib.ListN.{length, take, drop, length-append}
use lib.Seq.{take_at}
use Rattle.lists.specs.Lists.{over}
use Rattle.symbolic.specs.Columns.{Column, Register}
use Rattle.symbolic.specs.Factor.{FactorColumn, size_sum}
use Rattle.symbolic.specs.Grades.{Limits}
use Rattle.tables.specs.Stored.{Stored, stored_of}
use Rattle.tables.specs.Tables.{Tables}
use Rattle.calls.specs.Refusals.{refusal, unless, is_accepted}
use Rattle.calls.specs.Calls.{report_lists}
use Rattle.calls.specs.Calls.Change.{setting}
use Rattle.calls.specs.Changes.{effect, touched_by, labels_by, entries_by}
use Rattle.calls.specs.Steps.{refused_by, World, booked_in}
use Rattle.steps.specs.Outcome.{cut_sizes, cut_world, stored_whole, CanFind, CanStep, reported_by, with_heads, at_minute, ChangeOutcome, ChangeStep}
use Rattle.steps.proofs.Cut as cut
use Rattle.steps.proofs.Lifting.{cut_tables, Fits, cut_fits}
use Rattle.steps.proofs.Whole.{join_stored}
use Rattle.factor.specs.declared.Factor.{Factor}
use Rattle.factor.specs.Entries.{state_of}
use Rattle.answers.specs.declared.Changed.{Changed}
use Rattle.answers.specs.Answers.{CanChange, AnswerIs, UncheckedChange}
use Rattle.answers.proofs.Stepping.{change-long, change-can, whole-clock}
use Rattle.exchange.specs.Exchange.{staying, leaving, entering, Gathered, Done, StoredExchanged, CanReport, SomeReport, Reported}
use Rattle.clock.specs.Setting.{CanClear, Cleared}
use Rattle.clock.proofs.Moving.{Moves}
use Rattle.clock.proofs.Asking.{books_of, cut-moves}
use Rattle.clock.proofs.Clearing.{cleared-back}
use Rattle.clock.proofs.Exchanging.{written, SameLengths, clock-exchanged}

module _ {t : Tables} {lim : Limits} {o f g : ℕ} {w a b : List ℕ} (can : CanStep (cut_world t lim o f g) w a b) (minute : ℕ) {ps rs cs ns : List ℕ}
    (l : SameLengths t (written t ps rs cs ns)) {z : ℕ} {w' : List ℕ} {fits saved : Bool}
    (x : StoredExchanged (stored_whole t f) (staying (books_of t) t.windows o minute) (leaving (books_of t) t.windows o minute) (entering (books_of t) t.windows o minute) w
    (stored_of t.heads ps rs cs ns z) w' fits saved) where
  abbrev u : World
  u = cut_world t lim o f g

  abbrev find : CanFind u w
  find = can.find

  abbrev m : ℕ
  m = length t.heads

  abbrev r : Register
  r = booked_in u

  abbrev R : List Column
  R = staying (books_of t) t.windows o minute

  abbrev A : List Column
  A = leaving (books_of t) t.windows o minute

  abbrev B : List Column
  B = entering (books_of t) t.windows o minute

  abbrev moves : Moves r minute m R A B
  moves = cut-moves find minute

  -- ---- the work table

  can-clear : CanClear w' (length t.heads) (length t.next)
  can-clear =
      record {
        m-bound = (cut.sizes-are find).m-high;
        f-bound = (cut.sizes-are find).f-high;
        room = (cut.sizes-are find).f-low;
        long = omega (arith, cut.work-long find, x.only.same_length);
      }

  -- cleared, it is as before
  work-back : {w'' : List ℕ} → Cleared w' w'' (length t.heads) (length t.next) saved → w'' ≡ w
  work-back e =
      cleared-back saved (cut.sizes-are find).f-low (omega (arith, cut.work-long find)) (λ i h. find.zero i (omega arith)) x.only x.only-gathered e

  -- ---- its number

  number_is : (effect (booked_in (cut_world t lim o f g)) (setting minute)).refusal (cut_sizes t) ≡ unless fits 16 0
  number_is =
      ap (λ (fs : List FactorColumn). unless (leb (size_sum fs) (length t.next)) 16 0) moves.after ∙ ap (λ (q : Bool). unless q 16 0) (sym x.fits-is)

  -- ---- where it does not fit

  -- even the free head is the old one
  world-back : fits ≡ false → cut_world (written t ps rs cs ns) lim o f g ≡ cut_world t lim o f g
  world-back e = ap (λ (s : Stored). cut_world (written t s.parents s.rows s.counts s.next) lim o f g) (x.undone e)

  refused-step : fits ≡ false → {w'' : List ℕ} → Cleared w' w'' (length t.heads) (length t.next) saved →
      ChangeStep (cut_world t lim o f g) (setting minute) (report_lists w a b) (refused_by (refusal 16 0)) (report_lists w'' a b) (cut_world (written t ps rs cs ns) lim o f g)
  refused-step e {w''} d =
      let n : (effect r (setting minute)).refusal (cut_sizes t) ≡ unless false 16 0 = number_is ∙ ap (λ (z : Bool). unless z 16 0) e in
      subst (λ (k : Bool). ChangeOutcome k u (setting minute) (report_lists w a b) (refused_by (refusal 16 0)) (report_lists w'' a b) (cut_world (written t ps rs cs ns) lim o f g))
      (sym (ap is_accepted n)) (ap refused_by (sym n), ap (λ (v : List ℕ). report_lists v a b) (work-back d), world-back e)

  -- ---- where it fits

  can-report : fits ≡ true → CanReport (stored_of t.heads ps rs cs ns z) (staying (books_of t) t.windows o minute) (leaving (books_of t) t.windows o minute) (entering (books_of t) t.windows o minute) w' a b
  can-report e =
      let d : Done (stored_whole t f) R A B (stored_of t.heads ps rs cs ns z) w' = x.done e in
      let n : length ns ≡ length t.next = l.next in
      record {
        sized = d.sized;
        sound = d.sound;
        m-bound = can-clear.m-bound;
        f-bound = omega (arith, can-clear.f-bound);
        long = omega (arith, can-clear.long);
        room = omega (arith, can-clear.room);
        gathered = subst (λ (k : ℕ). Gathered m k R A B w') (sym n) d.gathered;
        touched-long = can.touched-long;
        labels-long = can.labels-long;
      }

  accepted-step : fits ≡ true → {w'' a' b' : List ℕ} {n k : ℕ} →
      Reported (length t.heads) (staying (books_of t) t.windows o minute) (leaving (books_of t) t.windows o minute) (entering (books_of t) t.windows o minute) a b a' b' n k →
      Cleared w' w'' (length t.heads) (length t.next) saved →
      ChangeStep (cut_world t lim o f g) (setting minute) (report_lists w a b) (reported_by lim n k) (report_lists w'' a' b') (cut_world (written t ps rs cs ns) lim minute z g)
  accepted-step e {w''} {a'} {b'} {n} {k} p c =
      let q : (effect r (setting minute)).refusal (cut_sizes t) ≡ unless true 16 0 = number_is ∙ ap (λ (z : Bool). unless z 16 0) e in
      let count : n ≡ length (touched_by r (setting minute)) = p.count-is ∙ ap length (sym moves.touched) in
      let entries : k ≡ entries_by r (setting minute) = p.entries-is ∙ sym moves.entries in
      let touched : a' ≡ over (touched_by r (setting minute)) a = p.touched-is ∙ ap (λ (js : List ℕ). over js a) (sym moves.touched) in
      let labels : b' ≡ over (labels_by r (setting minute)) b = p.labels-is ∙ ap (λ (js : List ℕ). over js b) (sym moves.labels) in
      subst (λ (j : Bool). ChangeOutcome j u (setting minute) (report_lists w a b) (reported_by lim n k) (report_lists w'' a' b') (cut_world (written t ps rs cs ns) lim minute z g))
      (sym (ap is_accepted q)) (
        (λ i. reported_by lim (count i) (entries i)),
        (λ i. report_lists (work-back c i) (touched i) (labels i)),
        clock-exchanged find minute l (x.done e),
      )

-- ---- of a factor, on the tables that are cut

module _ (s : Factor) (t : Tables) {w a b : List ℕ} (c : CanChange (state_of s) t w a b) (minute : ℕ) {ps rs cs ns : List ℕ}
    (l : SameLengths (cut_tables (state_of s).sizes t) (written (cut_tables (state_of s).sizes t) ps rs cs ns)) {z : ℕ} {w' : List ℕ} {fits saved : Bool}
    (x : StoredExchanged (stored_whole (cut_tables (state_of s).sizes t) s.free) (staying (books_of (cut_tables (state_of s).sizes t)) (take (2 * s.n) t.windows) s.clock minute)
    (leaving (books_of (cut_tables (state_of s).sizes t)) (take (2 * s.n) t.windows) s.clock minute) (entering (books_of (cut_tables (state_of s).sizes t)) (take (2 * s.n) t.windows) s.clock minute) w
    (stored_of (take s.m t.heads) ps rs cs ns z) w' fits saved) where
  abbrev d : Tables
  d = cut_tables (state_of s).sizes t

  abbrev sizes : Fits (state_of s).sizes d
  sizes = cut_fits (state_of s).sizes t (change-long s t c)

  -- the records written back, cut again
  next-back : take s.f (ns ++ drop s.f t.next) ≡ ns
  next-back = take_at ns (drop s.f t.next) s.f (l.next ∙ sizes.next)

  pub next-long : s.f ≤ length (ns ++ drop s.f t.next)
  next-long = omega (arith, length-append ns (drop s.f t.next), l.next, sizes.next)

  pub clock-clear : CanClear w' s.m s.f
  clock-clear =
      subst (λ (n : ℕ). CanClear w' s.m n) sizes.next
      (subst (λ (n : ℕ). CanClear w' n (length (take s.f t.next))) sizes.heads (can-clear (change-can s t c) minute l x))

  cleared-cut : {w'' : List ℕ} → Cleared w' w'' s.m s.f saved → Cleared w' w'' (length (take s.m t.heads)) (length (take s.f t.next)) saved
  cleared-cut {w''} e =
      subst (λ (n : ℕ). Cleared w' w'' (length (take s.m t.heads)) n saved) (sym sizes.next)
      (subst (λ (n : ℕ). Cleared w' w'' n s.f saved) (sym sizes.heads) e)

  pub clock-refused : fits ≡ false → {w'' : List ℕ} → Cleared w' w'' s.m s.f saved → {r : Changed} → AnswerIs (refused_by (refusal 16 0)) (state_of s) r →
      UncheckedChange s t (setting minute) (report_lists w a b) r (report_lists w'' a b) (join_stored (state_of s).sizes (written (cut_tables (state_of s).sizes t) ps rs cs ns) t)
  clock-refused e {w''} k q =
      whole-clock s t c (setting minute) (report_lists w a b) (refused_by (refusal 16 0)) (report_lists w'' a b) (written d ps rs cs ns) s.clock s.free s.book_free
      (refused-step (change-can s t c) minute l x e (cleared-cut k)) q (record { heads = refl; book_heads = refl; book_rows = refl; book_next = refl; windows = refl })

  pub clock-report : fits ≡ true → CanReport (stored_of (take s.m t.heads) ps rs cs (take s.f (ns ++ drop s.f t.next)) z)
      (staying (books_of (cut_tables (state_of s).sizes t)) (take (2 * s.n) t.windows) s.clock minute) (leaving (books_of (cut_tables (state_of s).sizes t)) (take (2 * s.n) t.windows) s.clock minute)
      (entering (books_of (cut_tables (state_of s).sizes t)) (take (2 * s.n) t.windows) s.clock minute) w' a b
  clock-report e =
      subst (λ (xs : List ℕ). CanReport (stored_of (take s.m t.heads) ps rs cs xs z) (staying (books_of d) (take (2 * s.n) t.windows) s.clock minute)
      (leaving (books_of d) (take (2 * s.n) t.windows) s.clock minute) (entering (books_of d) (take (2 * s.n) t.windows) s.clock minute) w' a b)
      (sym next-back) (can-report (change-can s t c) minute l x e)

  pub clock-some : fits ≡ true → SomeReport (take s.m t.heads) (take s.f (ns ++ drop s.f t.next)) w' a b
  clock-some e =
      record {
        parents = ps;
        rows = rs;
        counts = cs;
        free = z;
        R = staying (books_of d) (take (2 * s.n) t.windows) s.clock minute;
        A = leaving (books_of d) (take (2 * s.n) t.windows) s.clock minute;
        B = entering (books_of d) (take (2 * s.n) t.windows) s.clock minute;
        can = clock-report e;
      }

  pub clock-taken : fits ≡ true → {w'' a' b' : List ℕ} {n k : ℕ} →
      Reported (length (take s.m t.heads)) (staying (books_of (cut_tables (state_of s).sizes t)) (take (2 * s.n) t.windows) s.clock minute)
      (leaving (books_of (cut_tables (state_of s).sizes t)) (take (2 * s.n) t.windows) s.clock minute)
      (entering (books_of (cut_tables (state_of s).sizes t)) (take (2 * s.n) t.windows) s.clock minute) a b a' b' n k →
      Cleared w' w'' s.m s.f saved → {r : Changed} → AnswerIs (reported_by (state_of s).limits n k) (with_heads (at_minute (state_of s) minute) z s.book_free) r →
      UncheckedChange s t (setting minute) (report_lists w a b) r (report_lists w'' a' b') (join_stored (state_of s).sizes (written (cut_tables (state_of s).sizes t) ps rs cs ns) t)
  clock-taken e {w''} {a'} {b'} {n} {k} p v q =
      whole-clock s t c (setting minute) (report_lists w a b) (reported_by (state_of s).limits n k) (report_lists w'' a' b') (written d ps rs cs ns) minute z s.book_free
      (accepted-step (change-can s t c) minute l x e p (cleared-cut v)) q (record { heads = refl; book_heads = refl; book_rows = refl; book_next = refl; windows = refl })
