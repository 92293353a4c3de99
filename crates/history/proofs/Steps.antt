-- One call on what `Inv` describes: its number and every answer are those of the plain register (`inv-justified`), and `Inv` holds after it (`inv-step`),
-- so after a list of calls (`inv-run`). The tables are sound, so 6 is not given; the sizes are in range, so 1 to 4 are an opening's, as 20 is.
-- Assumes nothing.
use mathlib.Core.Path.{◌≡◌, refl, sym, ap, ◌∙◌, subst}
use mathlib.Core.Logic.{◌⊎◌, inl, inr, ◌≢◌, ◌↔◌}
use mathlib.Core.Bool.{Bool, true, false, not}
use mathlib.Core.List.{List, [], ◌∷◌}
use Prim.Native.Nat.{ℕ, ◌≤◌, ◌<◌}
use native.Mathlib.Omega.{arith}
use lib.Dec.{eqb}
use borrow.Author.Tests.{eq-eqb, ne_eqb}
use lib.ListN.{length, take, drop, replicate}
use lib.Seq.{take_at}
use Rattle.lists.specs.Lists.{pick, Mem, all, among, count, sum_of, rises, up_from, over}
use Rattle.lists.proofs.Tests.{cases, refute}
use Rattle.lists.proofs.Member.{among-mem}
use Rattle.symbolic.specs.Columns.{Register, live}
use Rattle.symbolic.specs.Factor.{FactorColumn, factor_of, factor_for, size_sum}
use Rattle.symbolic.specs.Batch.{entries_of}
use Rattle.symbolic.specs.Grades.{Limits, grade_of}
use Rattle.symbolic.proofs.Theorems.{sizes-are}
use Rattle.book.specs.Book.{column_fits}
use Rattle.tables.specs.Tables.{Sizes, stored_in, windows_in}
use Rattle.tables.specs.Stays.{EntriesStay, MinutesStay, TailsStay}
use Rattle.tables.proofs.Tables.{tails-long}
use Rattle.calls.specs.Refusals.{Refusal, is_accepted, or_else}
use Rattle.calls.specs.Calls.{Change, setting, Entry, opening, changing, checking, asking, Lent, Call, call_of, with_work, is_opening, sizes_after, limits_after}
use Rattle.calls.specs.Changes.{effect, touched_by, labels_by, register_after}
use Rattle.calls.specs.Numbers.{call_early, call_refusal, refusal_of}
use Rattle.calls.specs.Steps.{Answer, refused_by, result_of, accepted_by, lists_after, work_after, World, booked_in, Exchanged, AcceptedWorld, Transition}
use Rattle.calls.proofs.Choices.{or-both, or-first, or-second}
use Rattle.calls.proofs.Numbers.{early-facts, early-number, early-other, call-number, sixteen-full, sound-number}
use Rattle.calls.proofs.Order.{bag-clock, bag-after, bag-number, bag-ids, bag-touched, bag-labels, bag-entries, bag-answer, bag-lists, once_after}
use Rattle.calls.proofs.Steps.{Accepted, Refused, step-cases, taken-zero, refused-some, quiet-world, change-world}
use Rattle.calls.proofs.Changes.{rows_stay, touched-rise, effect-exchanges}
use Rattle.calls.proofs.Exchanges.{exchanged-keeps}
use Rattle.history.specs.Runs.{Event, Run, Plain, plain_next, plain_after}
use Rattle.history.specs.Statements.{value_for, held_count, held_parent, IsFactorOf, Consistent, plain_refusal, OnPathOf, reported, ReportsJust, reported_labels, IsLabel, LabelsJust, CountsJust, AltersJust, SetsJust, Justified}
use Rattle.history.proofs.Reports.{reports-exactly}
use Rattle.history.proofs.Labels.{labelled-length, label-beside, labels-largest}
use Rattle.history.proofs.Counts.{counts-held}
use Rattle.history.proofs.Clock.{batch-clock, stay-factor, path-only, only-path, zero-labels}
use Rattle.history.proofs.Invariant.{Inv, book-once, inv-rows, inv-long, inv-holds, inv-fits, inv-consistent, opened_plain, opened_world, inv-opened}

-- the plain register after an accepted call
abbrev taken : Plain → Entry → Plain
taken p e = record { sizes = sizes_after p.sizes e; limits = limits_after p.limits e; register = register_after p.register e }

-- a call that touches nothing has no entry
none-entries : (r : Register) (k : Entry) → length (result_of r k).touched ≡ 0 → (result_of r k).entries ≡ 0
unfolding sum_of
none-entries r (opening l g) h = refl
none-entries r (changing c) h = ap (entries_of (factor_for r) (factor_for (effect r c).register)) (empty (touched_by r c) h)
  where
    empty : (js : List ℕ) → length js ≡ 0 → js ≡ []
    empty [] h = refl
    empty (j ∷ js) h = absurd (omega arith)
none-entries r checking h = refl
none-entries r (asking q p) h = refl

module _ {p : Plain} {u : World} (i : Inv p u) where
  -- ---- the number

  pub number-plain : (k : Call) → refusal_of u.state u.tables k ≡ plain_refusal p u.tables k
  number-plain k =
      sound-number u.state u.tables k i.sound ∙
      ap (λ (l : Sizes). or_else (call_early l u.tables k) (call_refusal l (booked_in u) k)) i.sizes ∙
      ap (λ (y : Refusal). or_else (call_early p.sizes u.tables k) y) (bag-number (booked_in u) p.register (inv-rows i) i.clock i.bag p.sizes k)

  never-six : (k : Call) → (plain_refusal p u.tables k).number ≢ 6
  never-six k h =
      let x : Refusal = call_early p.sizes u.tables k in
      let y : Refusal = call_refusal p.sizes p.register k in
      elim (cases (is_accepted x)) [
        | inl e ↦
            let q : (or_else x y).number ≡ y.number = ap (λ (z : Refusal). z.number) (or-second x y e) in
            elim (call-number p.sizes p.register k) [ inl n ↦ omega arith | inr n ↦ omega arith ]
        | inr e ↦
            let q : (or_else x y).number ≡ x.number = ap (λ (z : Refusal). z.number) (or-first x y e) in
            early-other p.sizes u.tables k (sym q ∙ h)
      ]

  from-five : (k : Call) → is_opening k.entry ≡ false →
      ((plain_refusal p u.tables k).number ≡ 0) ⊎ ((5 ≤ (plain_refusal p u.tables k).number) × ((plain_refusal p u.tables k).number ≢ 20))
  from-five k o =
      let x : Refusal = call_early p.sizes u.tables k in
      let y : Refusal = call_refusal p.sizes p.register k in
      elim (cases (is_accepted x)) [
        | inl e ↦
            let q : (or_else x y).number ≡ y.number = ap (λ (z : Refusal). z.number) (or-second x y e) in
            elim (call-number p.sizes p.register k) [ inl n ↦ inl (q ∙ n) | inr n ↦ inr (omega arith, λ z. omega arith) ]
        | inr e ↦
            let q : (or_else x y).number ≡ x.number = ap (λ (z : Refusal). z.number) (or-first x y e) in
            elim (early-number p.sizes u.tables i.in-range k o) [ inl n ↦ inl (q ∙ n) | inr n ↦ inr (omega arith, λ z. omega arith) ]
      ]

  -- 16 is a change's own, and says that the definition's entries after it are more than F
  sixteen-plain : (k : Call) (c : Change) → k.entry ≡ changing c → (plain_refusal p u.tables k).number ≡ 16 → (M : ℕ → ℕ → ℕ) (P : ℕ → ℕ) →
      IsFactorOf (effect p.register c).register M P → p.sizes.f < sum_of (λ j. count (λ i. not (eqb (M i j) 0)) p.register.m) (up_from 1 p.register.m)
  sixteen-plain k c q h M P f =
      let x : Refusal = call_early p.sizes u.tables k in
      let y : Refusal = call_refusal p.sizes p.register k in
      let a : Register = (effect p.register c).register in
      let s : size_sum (factor_for a) ≡ sum_of (λ j. count (λ i. not (eqb (M i j) 0)) p.register.m) (up_from 1 p.register.m) =
      sizes-are a.m (live a) M P f ∙ ap (λ (n : ℕ). sum_of (λ j. count (λ i. not (eqb (M i j) 0)) n) (up_from 1 n)) (rows_stay p.register c) in
      elim (cases (is_accepted x)) [
        | inl e ↦
            let n : y.number ≡ 16 = ap (λ (z : Refusal). z.number) (sym (or-second x y e)) ∙ h in
            let o : ((effect p.register c).refusal p.sizes).number ≡ 16 =
            subst (λ (j : Entry). (call_refusal p.sizes p.register (call_of j k.lent)).number ≡ 16) q n in
            omega (arith, s, sixteen-full p.sizes p.register c o)
        | inr e ↦
            let n : x.number ≡ 16 = ap (λ (z : Refusal). z.number) (sym (or-first x y e)) ∙ h in
            elim (early-number p.sizes u.tables i.in-range k (ap is_opening q)) [ inl z ↦ absurd (omega arith) | inr z ↦ absurd (omega arith) ]
      ]

  -- ---- the answer and the lists

  work-plain : (k : Call) → work_after u.state.sizes u.tables k ≡ work_after p.sizes u.tables k
  work-plain k = ap (λ (l : Sizes). work_after l u.tables k) i.sizes

  -- the front of the lent list is the register's report
  report-is : (e : Event) (c : Change) → e.call.entry ≡ changing c → e.answer ≡ accepted_by u.state.limits (booked_in u) e.call.entry →
      e.left ≡ lists_after (booked_in u) e.call (work_after u.state.sizes u.tables e.call) → reported e ≡ touched_by p.register c
  report-is e c q a x =
      let js : List ℕ = touched_by (booked_in u) c in
      let n : e.answer.touched ≡ length js = ap (λ (y : Answer). y.touched) a ∙ ap (λ (k : Entry). length (result_of (booked_in u) k).touched) q in
      let l : e.left.touched ≡ over js e.call.lent.touched =
      ap (λ (y : Lent). y.touched) x ∙ ap (λ (k : Entry). over (result_of (booked_in u) k).touched e.call.lent.touched) q in
      ap (λ (k : ℕ). take k e.left.touched) n ∙ ap (λ (ys : List ℕ). take (length js) ys) l ∙
      take_at js (drop (length js) e.call.lent.touched) (length js) refl ∙
      bag-touched (booked_in u) p.register (inv-rows i) i.clock i.bag (book-once u) c

  change-reports : (e : Event) (c : Change) → e.call.entry ≡ changing c → e.answer ≡ accepted_by u.state.limits (booked_in u) e.call.entry →
      e.left ≡ lists_after (booked_in u) e.call (work_after u.state.sizes u.tables e.call) → ReportsJust p e c
  change-reports e c q a x =
      let r : reported e ≡ touched_by p.register c = report-is e c q a x in
      record {
        counted = ap length r ∙ ap length (sym (bag-touched (booked_in u) p.register (inv-rows i) i.clock i.bag (book-once u) c)) ∙
            sym (ap (λ (y : Answer). y.touched) a ∙ ap (λ (k : Entry). length (result_of (booked_in u) k).touched) q);
        ascending = ap (λ (js : List ℕ). rises 1 p.register.m js) r ∙ touched-rise p.register c;
        exactly = λ M N P Q f g j b d. subst (λ (js : List ℕ). Mem j js ↔ (OnPathOf p.register.m P (effect p.register c).leave j ⊎ OnPathOf p.register.m Q (effect p.register c).enter j)) (sym r)
            (reports-exactly p.register c M N P Q f g j b d);
      }

  -- the front of the lent list for labels
  labels-are : (e : Event) (c : Change) → e.call.entry ≡ changing c → e.answer ≡ accepted_by u.state.limits (booked_in u) e.call.entry →
      e.left ≡ lists_after (booked_in u) e.call (work_after u.state.sizes u.tables e.call) → reported_labels e ≡ labels_by p.register c
  labels-are e c q a x =
      let js : List ℕ = touched_by (booked_in u) c in
      let zs : List ℕ = labels_by (booked_in u) c in
      let n : e.answer.touched ≡ length js = ap (λ (y : Answer). y.touched) a ∙ ap (λ (k : Entry). length (result_of (booked_in u) k).touched) q in
      let l : e.left.labels ≡ over zs e.call.lent.labels =
      ap (λ (y : Lent). y.labels) x ∙ ap (λ (k : Entry). over (result_of (booked_in u) k).labels e.call.lent.labels) q in
      ap (λ (k : ℕ). take k e.left.labels) n ∙ ap (λ (ys : List ℕ). take (length js) ys) l ∙
      take_at zs (drop (length zs) e.call.lent.labels) (length js) (labelled-length (effect (booked_in u) c).label js) ∙
      bag-labels (booked_in u) p.register (inv-rows i) i.clock i.bag (book-once u) c

  change-labels : (e : Event) (c : Change) → reported e ≡ touched_by p.register c → length (reported e) ≡ e.answer.touched → reported_labels e ≡ labels_by p.register c →
      LabelsJust p e c
  change-labels e c t n l =
      let r : Register = p.register in
      let beside : (j : ℕ) → Mem j (touched_by r c) → (effect r c).label j ≡ value_for (reported e) (reported_labels e) j =
      λ j y. sym (label-beside (effect r c).label (touched_by r c) j y) ∙ sym (λ k. value_for (t k) (l k) j) in
      record {
        counted = ap length l ∙ labelled-length (effect r c).label (touched_by r c) ∙ ap length (sym t) ∙ n;
        largest = λ z M N P Q f g j y.
            let w : Mem j (touched_by r c) = subst (λ (js : List ℕ). Mem j js) t y in
            subst (λ (k : ℕ). IsLabel r.m P (effect r c).leave j k ⊎ IsLabel r.m Q (effect r c).enter j k) (beside j w) (labels-largest r c z M N P Q f g j w);
      }

  among-plain : (c : Change) (d : ℕ) → among d (effect (booked_in u) c).ids ≡ among d (effect p.register c).ids
  among-plain c d = ap (λ (ks : List ℕ). among d ks) (bag-ids (booked_in u) p.register (inv-rows i) i.clock i.bag (book-once u) c)

  -- the factor of the columns that stay
  stay-plain : (c : Change) → factor_of u.state.sizes.m (effect (booked_in u) c).stay ≡ factor_of p.sizes.m (effect p.register c).stay
  stay-plain c =
      ap (λ (l : Sizes). factor_of l.m (effect (booked_in u) c).stay) i.sizes ∙ stay-factor (booked_in u) p.register i.clock i.bag c p.sizes.m

  change-alters : {v : World} (e : Event) (c : Change) → reported e ≡ touched_by p.register c → is_accepted ((effect p.register c).refusal p.sizes) ≡ true →
      Exchanged u c v → AltersJust p u e c v
  change-alters {v} e c r z x =
      record {
        exchange = effect-exchanges p.sizes p.register i.once c z;
        others = λ j a b t. x.others j a (subst (λ (l : Sizes). j ≤ l.m) (sym i.sizes) b)
            (refute (among j (touched_by (booked_in u) c)) (λ h. t (subst (λ (js : List ℕ). Mem j js) (sym r)
            (subst (λ (js : List ℕ). Mem j js) (bag-touched (booked_in u) p.register (inv-rows i) i.clock i.bag (book-once u) c) (among-mem j (touched_by (booked_in u) c) h)))));
        entries = λ j a b. subst (λ (fs : List FactorColumn). EntriesStay fs (stored_in u.state u.tables) (stored_in v.state v.tables) j) (stay-plain c)
            (x.entries j a (subst (λ (l : Sizes). j ≤ l.m) (sym i.sizes) b));
        keeps = λ k j a b. exchanged-keeps x k (inv-long i) i.sound j a (subst (λ (l : Sizes). j ≤ l.m) (sym i.sizes) b);
        ids = λ d a b t. x.book d a (subst (λ (l : Sizes). d ≤ l.n) (sym i.sizes) b)
            (among-plain c d ∙ t);
        minutes = λ d a b t. subst (λ (l : Sizes). MinutesStay l.n (windows_in u.state u.tables) (windows_in v.state v.tables) d) i.sizes
            (x.minutes d a (subst (λ (l : Sizes). d ≤ l.n) (sym i.sizes) b) (among-plain c d ∙ t));
        tails = subst (λ (l : Sizes). TailsStay l u.tables v.tables) i.sizes x.tails;
        clock = λ k. x.clock ∙ batch-clock (booked_in u) c k;
      }

  -- `Inv` holds after an accepted change
  inv-change : {v : World} (c : Change) → is_accepted ((effect p.register c).refusal p.sizes) ≡ true → Exchanged u c v → Inv (taken p (changing c)) v
  inv-change {v} c h s =
      record {
        in-range = i.in-range;
        sizes = s.sizes ∙ i.sizes;
        limits = s.limits ∙ i.limits;
        clock = s.clock ∙ bag-clock (booked_in u) p.register (inv-rows i) i.clock i.bag c;
        rows = rows_stay p.register c ∙ i.rows;
        long = tails-long p.sizes u.tables v.tables (subst (λ (x : Sizes). TailsStay x u.tables v.tables) i.sizes s.tails) i.long;
        sound = s.sound;
        bag = λ g. s.columns g ∙ bag-after (booked_in u) p.register (inv-rows i) i.clock i.bag c g;
        once = once_after p.sizes p.register c i.once h;
      }

  change-counts : {v : World} (e : Event) (c : Change) → e.call.entry ≡ changing c → e.answer ≡ accepted_by u.state.limits (booked_in u) e.call.entry →
      reported e ≡ touched_by p.register c → is_accepted ((effect p.register c).refusal p.sizes) ≡ true → Exchanged u c v → CountsJust u e c v
  change-counts {v} e c q a t h s =
      counts-held p.sizes p.register c u v i.once h (inv-holds i) (inv-holds (inv-change c h s)) e t
      (ap (λ (y : Answer). y.entries) a ∙ ap (λ (k : Entry). (result_of (booked_in u) k).entries) q ∙
      bag-entries (booked_in u) p.register (inv-rows i) i.clock i.bag (book-once u) c)

  -- a clock change
  change-sets : {v : World} (e : Event) (t : ℕ) → e.call.entry ≡ changing (setting t) → e.answer ≡ accepted_by u.state.limits (booked_in u) e.call.entry →
      e.left ≡ lists_after (booked_in u) e.call (work_after u.state.sizes u.tables e.call) → is_accepted ((effect p.register (setting t)).refusal p.sizes) ≡ true →
      Exchanged u (setting t) v → SetsJust p u e t v
  change-sets {v} e t q a x z s =
      let r : Register = p.register in
      let fits : all (column_fits r.m) r.columns ≡ true = subst (λ (m : ℕ). all (column_fits m) r.columns ≡ true) (sym i.rows) (inv-fits i) in
      let old : Consistent p u = inv-consistent i in
      let new : Consistent (taken p (changing (setting t))) v = inv-consistent (inv-change (setting t) z s) in
      let exactly : (j : ℕ) → 1 ≤ j → j ≤ p.sizes.m → Mem j (reported e) ↔
      (OnPathOf r.m (held_parent u) (effect r (setting t)).leave j ⊎ OnPathOf r.m (held_parent v) (effect r (setting t)).enter j) =
      λ j b d. (change-reports e (setting t) q a x).exactly (held_count u) (held_count v) (held_parent u) (held_parent v) old.factor new.factor j b
      (subst (λ (m : ℕ). j ≤ m) (sym i.rows) d) in
      record {
        clock = s.clock;
        book = s.still refl;
        listed = λ j b d. (
          λ k. elim ((exactly j b d).0 k) [
            | inl y ↦ inl (path-only r.m (held_parent u) r.clock t r.columns j y)
            | inr y ↦ inr (path-only r.m (held_parent v) t r.clock r.columns j y)
          ],
          λ k. (exactly j b d).1 (elim k [
            | inl y ↦ inl (only-path r.m (held_parent u) r.clock t r.columns j fits y)
            | inr y ↦ inr (only-path r.m (held_parent v) t r.clock r.columns j fits y)
          ]),
        );
        labels = labels-are e (setting t) q a x ∙ zero-labels (touched_by p.register (setting t)) ∙
            ap (λ (k : ℕ). replicate k 0) (ap length (sym (report-is e (setting t) q a x)) ∙ (change-reports e (setting t) q a x).counted);
      }

  module _ {e : Event} {v : World} where
    accepted-justified : Accepted u e.call e.answer e.left v → Justified p u e v
    accepted-justified s =
        let k : Call = e.call in
        let z : is_accepted (plain_refusal p u.tables k) ≡ true = ap is_accepted (sym (number-plain k)) ∙ s.number in
        let n : e.answer.number ≡ 0 = taken-zero s in
        let own : (c : Change) → k.entry ≡ changing c → is_accepted ((effect p.register c).refusal p.sizes) ≡ true =
        λ c h. subst (λ (j : Entry). is_accepted (call_refusal p.sizes p.register (call_of j k.lent)) ≡ true) h
        (or-both (call_early p.sizes u.tables k) (call_refusal p.sizes p.register k) z).1 in
        record {
          answer = rw z (s.answer ∙ bag-answer (booked_in u) p.register (inv-rows i) i.clock i.bag (book-once u) u.state.limits k.entry ∙
              ap (λ (g : Limits). accepted_by g p.register k.entry) i.limits);
          never-unsound = λ h. omega arith;
          at-openings = λ o. inl n;
          left = rw z (s.lists ∙ bag-lists (booked_in u) p.register (inv-rows i) i.clock i.bag (book-once u) k (work_after u.state.sizes u.tables k) ∙
              ap (λ (w : List ℕ). lists_after p.register k w) (work-plain k));
          graded = ap (λ (y : Answer). y.grade) s.answer ∙
              (λ j. grade_of (i.limits j) (ap (λ (y : Answer). y.entries) (sym s.answer) j));
          ungraded = λ h. let d : e.answer.entries ≡ 0 = ap (λ (y : Answer). y.entries) s.answer ∙
              none-entries (booked_in u) k.entry (sym (ap (λ (y : Answer). y.touched) s.answer) ∙ h) in
              (d, ap (λ (y : Answer). y.grade) s.answer ∙ ap (grade_of u.state.limits) (ap (λ (y : Answer). y.entries) (sym s.answer) ∙ d));
          full = λ h. absurd (omega arith);
          unchanged = λ h. elim h [ inl q ↦ absurd (q n) | inr q ↦ quiet-world u k.entry v q s.world ];
          reports = λ q c h. change-reports e c h s.answer s.lists;
          labels = λ q c h. change-labels e c (report-is e c h s.answer s.lists) (change-reports e c h s.answer s.lists).counted (labels-are e c h s.answer s.lists);
          counts = λ q c h. change-counts e c h s.answer (report-is e c h s.answer s.lists) (own c h) (change-world h s.world);
          alters = λ q c h. change-alters e c (report-is e c h s.answer s.lists) (own c h) (change-world h s.world);
          sets = λ q t h. change-sets e t h s.answer s.lists (own (setting t) h) (change-world h s.world);
        }

    refused-justified : Refused u e.call e.answer e.left v → Justified p u e v
    refused-justified s =
        let k : Call = e.call in
        let z : is_accepted (plain_refusal p u.tables k) ≡ false = ap is_accepted (sym (number-plain k)) ∙ s.number in
        let n : e.answer.number ≢ 0 = refused-some s in
        let a : e.answer ≡ refused_by (plain_refusal p u.tables k) = s.answer ∙ ap refused_by (number-plain k) in
        let q : e.answer.number ≡ (plain_refusal p u.tables k).number = ap (λ (y : Answer). y.number) a in
        record {
          answer = rw z a;
          never-unsound = λ h. never-six k (sym q ∙ h);
          at-openings = λ o. elim (from-five k o) [ inl h ↦ inl (q ∙ h) | inr h ↦ inr (omega arith, λ z. omega arith) ];
          left = rw z (s.lists ∙ ap (λ (w : List ℕ). with_work k.lent w) (work-plain k));
          graded = ap (λ (y : Answer). y.grade) a ∙ sym (ap (λ (y : Answer). grade_of p.limits y.entries) a);
          ungraded = λ h. (ap (λ (y : Answer). y.entries) a, ap (λ (y : Answer). y.grade) a);
          full = λ h c r M P f. sixteen-plain k c r (sym q ∙ h) M P f;
          unchanged = λ h. s.world;
          reports = λ h c q. absurd (n h);
          labels = λ h c q. absurd (n h);
          counts = λ h c q. absurd (n h);
          alters = λ h c q. absurd (n h);
          sets = λ h t q. absurd (n h);
        }

  -- ONE CALL
  pub inv-justified : (e : Event) (v : World) → Transition u e.call e.answer e.left v → Justified p u e v
  inv-justified e v s = elim (step-cases u e.call e.answer e.left v s) [ inl t ↦ accepted-justified t | inr t ↦ refused-justified t ]

  -- ---- the invariant after it

  both-accepted : (k : Call) → is_accepted (refusal_of u.state u.tables k) ≡ true →
      (is_accepted (call_early p.sizes u.tables k) ≡ true) × (is_accepted (call_refusal p.sizes p.register k) ≡ true)
  both-accepted k h =
      or-both (call_early p.sizes u.tables k) (call_refusal p.sizes p.register k) (ap is_accepted (sym (number-plain k)) ∙ h)

  module _ {v : World} where
    inv-taken : (k : Call) (e : Entry) → k.entry ≡ e → is_accepted (refusal_of u.state u.tables k) ≡ true → AcceptedWorld u e v → Inv (taken p e) v
    inv-taken k (opening l g) q h s =
        let w : v ≡ opened_world l g u.tables = λ j. record { state = s.0 j; tables = s.1 j } in
        let r : is_accepted (call_early p.sizes u.tables (call_of (opening l g) k.lent)) ≡ true =
        subst (λ (e : Entry). is_accepted (call_early p.sizes u.tables (call_of e k.lent)) ≡ true) q (both-accepted k h).0 in
        subst (λ (x : World). Inv (opened_plain l g) x) (sym w)
        (inv-opened l g p.sizes u.tables k.lent (early-facts p.sizes u.tables (call_of (opening l g) k.lent) r))
    inv-taken k (changing c) q h s =
        inv-change c (subst (λ (e : Entry). is_accepted (call_refusal p.sizes p.register (call_of e k.lent)) ≡ true) q (both-accepted k h).1) s
    inv-taken k checking q h s = subst (λ (x : World). Inv p x) (sym s) i
    inv-taken k (asking a b) q h s = subst (λ (x : World). Inv p x) (sym s) i

  pub inv-step : (e : Event) (v : World) → Transition u e.call e.answer e.left v → Inv (plain_next p e) v
  inv-step e v s =
      elim (step-cases u e.call e.answer e.left v s) [
        | inl t ↦ subst (λ (z : Bool). Inv (pick z (taken p e.call.entry) p) v) (sym (eq-eqb e.answer.number 0 (taken-zero t)))
            (inv-taken e.call e.call.entry refl t.number t.world)
        | inr t ↦ subst (λ (z : Bool). Inv (pick z (taken p e.call.entry) p) v) (sym (ne_eqb e.answer.number 0 (refused-some t)))
            (subst (λ (x : World). Inv p x) (sym t.world) i)
      ]

-- A LIST OF CALLS
pub inv-run : (es : List Event) {p : Plain} {u : World} (v : World) → Inv p u → Run u es v → Inv (plain_after p es) v
unfolding Run plain_after
inv-run [] {p} v i r = subst (λ (w : World). Inv p w) (sym r) i
inv-run (e ∷ es) v i r = inv-run es v (inv-step i e r.0 r.1.0) r.1.1
