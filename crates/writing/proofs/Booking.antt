-- The change of book and windows in an accepted batch: what entering or leaving asks (`enter-can`, `enter-minutes`, `leave-can`, `leave-minutes`), and that it is the call's
-- (`entered-after`, `left_after`). Assumes nothing.
use mathlib.Core.Path.{◌≡◌, refl, sym, ap, ◌∙◌, subst}
use mathlib.Core.Logic.{inl, inr}
use mathlib.Core.Bool.{true, false, true≢false}
use mathlib.Core.List.{List, [], ◌∷◌, ◌++◌}
use Prim.Native.Nat.{ℕ, ◌≤◌, ◌<◌}
use native.Mathlib.Omega.{arith}
use lib.ListN.{length, get_or}
use borrow.Author.Tests.{ne_eqb}
use Rattle.lists.specs.Lists.{Mem, among, sum_of}
use Rattle.lists.proofs.Tests.{cases, eq-or-ne}
use Rattle.lists.proofs.Member.{mem-among, mem-right, place-mem}
use Rattle.symbolic.specs.Columns.{Column, Register}
use Rattle.symbolic.specs.Change.{ids_of, without, Bag}
use Rattle.symbolic.specs.Grades.{Limits}
use Rattle.symbolic.proofs.Bags.{id-mem}
use Rattle.book.specs.Book as book
use Rattle.book.proofs.Columns.{ids-booked}
use Rattle.windows.specs.Windowed.{lines_in, entered, left, HasIds}
use Rattle.windows.proofs.Written.{entered-length, entered-others, left-length, left-others}
use Rattle.windows.proofs.Lines.{entered-lines, left-lines}
use Rattle.windows.proofs.Sound.{entered-sound, left-sound}
use Rattle.tables.specs.Tables.{Tables}
use Rattle.calls.specs.Refusals.{is_accepted, batch_of, lines_of}
use Rattle.calls.specs.Calls.{adding, removing}
use Rattle.calls.specs.Changes.{effect}
use Rattle.calls.specs.Steps.{booked_in}
use Rattle.calls.proofs.Choices.{or-both}
use Rattle.calls.proofs.Order.{id-find, bag-among}
use Rattle.refusals.specs.Offsets.{offset_of}
use Rattle.refusals.specs.Found.{add_found}
use Rattle.refusals.proofs.Accepted.{AddReady, add-ready, ready-room, RemoveReady, remove-ready}
use Rattle.entering.specs.Entering.{total, CanEnter, Entered, CanLeave, Left}
use Rattle.steps.specs.Outcome.{cut_world, book_whole, number_for, CanFind}
use Rattle.steps.proofs.Cut.{sizes-are, register-cut, book-sound, windows-sound}
use Rattle.judging.proofs.Adding.{counts-sum, add-number, add-rest}
use Rattle.judging.proofs.Removing.{remove-number}
use Rattle.writing.proofs.Exchanging.{BookAfter}

-- ---- an addition

-- ids whose columns came in are booked
came-in : (before after : book.Book) (B : List Column) → Bag (book.columns_in after) (book.columns_in before ++ B) → (i : ℕ) → 1 ≤ i → among i (ids_of B) ≡ true →
    book.is_booked after.heads i ≡ true
came-in before after B bag i p h =
    let cs : List Column = book.columns_in before in
    let t : (c : Column) × Mem c B × (c.id ≡ i) = id-find i B h in
    sym (ids-booked after i p) ∙ bag-among (book.columns_in after) (cs ++ B) bag i ∙
    subst (λ (x : ℕ). among x (ids_of (cs ++ B)) ≡ true) t.2 (mem-among (id-mem (mem-right cs t.1)))

module _ {t : Tables} {lim : Limits} {o f g : ℕ} {w : List ℕ} (can : CanFind (cut_world t lim o f g) w) (is ns rs ps qs : List ℕ)
    (taken : is_accepted (number_for (cut_world t lim o f g) (adding is ns rs ps qs)) ≡ true) where
  abbrev d : book.Book
  d = book_whole t g

  ready : AddReady (length t.heads) (book_whole t g) is ns rs ps qs
  ready =
      let m : ℕ = length t.heads in
      add-ready m d is ns rs ps qs
      (or-both (add_found m d is ns rs ps qs) (add-rest can is ns rs ps qs) (ap is_accepted (sym (add-number can is ns rs ps qs)) ∙ taken)).0

  pub enter-can : CanEnter (length t.heads) (book_whole t g) is ns rs
  enter-can =
      let x = ready in
      let e : total ns ≡ length rs = counts-sum ns ∙ ap (λ (n : ℕ). offset_of ns n) x.counted ∙ x.used in
      record {
        sized = can.book-rows;
        sound = book-sound can;
        narrow = omega (arith, (sizes-are can).m-high);
        counted = x.counted;
        distinct = x.distinct;
        named = x.named;
        absent = x.absent;
        fits = x.batch-fits;
        long = omega arith;
        room = omega (arith, ready-room x (book-sound can));
      }

  enter-ids : HasIds t.windows (length t.book_heads) is
  enter-ids = record { few = (sizes-are can).n-high; long = omega (arith, can.windows); named = ready.named }

  -- what entering the windows asks
  pub enter-minutes : {n : ℕ} → n ≡ length t.book_heads → HasIds t.windows n is × (length ps ≡ length is) × (length qs ≡ length is)
  enter-minutes e = (subst (λ (n : ℕ). HasIds t.windows n is) (sym e) enter-ids, ready.firsts-length, ready.seconds-length)

  pub entered-after : {after : book.Book} {n : ℕ} {w' : List ℕ} → Entered (length t.heads) (book_whole t g) is ns rs after → n ≡ length t.book_heads →
      w' ≡ entered t.windows n is ps qs →
      BookAfter (length t.heads) (book_whole t g) t.windows (effect (booked_in (cut_world t lim o f g)) (adding is ns rs ps qs)).register.columns is after w'
  entered-after {after} {w' = w'} e same written =
      let x = ready in
      let n : ℕ = length t.book_heads in
      let v : List ℕ = t.windows in
      let z : w' ≡ entered v n is ps qs = written ∙ ap (λ (k : ℕ). entered v k is ps qs) same in
      let B : List Column = batch_of is ns rs in
      let booked : (k : ℕ) → k < length is → book.is_booked after.heads (get_or is k 0) ≡ true =
      λ k h. came-in d after B e.columns (get_or is k 0) (x.named k h).0 (ap (among (get_or is k 0)) x.batch-ids ∙ mem-among (place-mem is k 0 h)) in
      let lines : Bag (lines_in after (entered v n is ps qs)) ((booked_in (cut_world t lim o f g)).columns ++ lines_of is ns rs ps qs) =
      subst (λ (u : Register). Bag (lines_in after (entered v n is ps qs)) (u.columns ++ lines_of is ns rs ps qs)) (sym (register-cut can))
      (entered-lines d after v is ps qs B e.same-heads e.columns x.batch-ids x.distinct x.absent enter-ids) in
      record {
        some = x.some;
        sized = e.sized;
        sound = e.sound;
        same-heads = e.same-heads;
        same-records = e.same-records;
        same-windows = ap length z ∙ entered-length v n is ps qs;
        windows-sound = rw z
            (entered-sound t.book_heads after.heads v is e.same-heads (λ l p q h. (e.others l p q h).head) enter-ids (windows-sound can) ps qs x.distinct booked x.windows);
        columns = rw z lines;
        others = e.others;
        minutes = λ i p q h.
            let s = entered-others v n is ps qs enter-ids i p q h in
            rw z (record { first = s.0; second = s.1 });
      }

-- ---- a removal

-- ids that left are among those of no column
gone : (ids : List ℕ) (cs : List Column) (i : ℕ) → among i ids ≡ true → among i (ids_of (without ids cs)) ≡ false
unfolding without ids_of among
gone ids [] i h = refl
gone ids (c ∷ cs) i h =
    elim (cases (among c.id ids)) [
      | inl e ↦ rw e (gone ids cs i h)
      | inr e ↦
          elim (eq-or-ne i c.id) [
            | inl q ↦ absurd (true≢false (sym h ∙ ap (λ (x : ℕ). among x ids) q ∙ e))
            | inr q ↦ rw (e, ne_eqb i c.id q) (gone ids cs i h)
          ]
    ]

module _ {t : Tables} {lim : Limits} {o f g : ℕ} {w : List ℕ} (can : CanFind (cut_world t lim o f g) w) (is : List ℕ)
    (taken : is_accepted (number_for (cut_world t lim o f g) (removing is)) ≡ true) where
  leaving : RemoveReady (book_whole t g) is
  leaving = remove-ready (length t.heads) (book_whole t g) is (ap is_accepted (sym (remove-number can is)) ∙ taken)

  pub leave-can : CanLeave (length t.heads) (book_whole t g) is
  leave-can =
      let x = leaving in record { sized = can.book-rows; sound = book-sound can; distinct = x.distinct; named = x.named; booked = x.booked }

  leave-ids : HasIds t.windows (length t.book_heads) is
  leave-ids = record { few = (sizes-are can).n-high; long = omega (arith, can.windows); named = leaving.named }

  -- what leaving the windows asks
  pub leave-minutes : {n : ℕ} → n ≡ length t.book_heads → HasIds t.windows n is
  leave-minutes e = subst (λ (n : ℕ). HasIds t.windows n is) (sym e) leave-ids

  pub left_after : {after : book.Book} {n : ℕ} {w' : List ℕ} → Left (length t.heads) (book_whole t g) is after → n ≡ length t.book_heads → w' ≡ left t.windows n is →
      BookAfter (length t.heads) (book_whole t g) t.windows (effect (booked_in (cut_world t lim o f g)) (removing is)).register.columns is after w'
  left_after {after} {w' = w'} e same written =
      let x = leaving in
      let n : ℕ = length t.book_heads in
      let v : List ℕ = t.windows in
      let z : w' ≡ left v n is = written ∙ ap (λ (k : ℕ). left v k is) same in
      let b : book.Book = book_whole t g in
      let absent : (k : ℕ) → k < length is → book.is_booked after.heads (get_or is k 0) ≡ false =
      λ k h.
      let i : ℕ = get_or is k 0 in
      sym (ids-booked after i (x.named k h).0) ∙ ap (λ (cs : List Column). among i (ids_of cs)) e.columns ∙ gone is (book.columns_in b) i (mem-among (place-mem is k 0 h)) in
      let lines : lines_in after (left v n is) ≡ without is (booked_in (cut_world t lim o f g)).columns =
      left-lines b after v is e.same-heads e.columns leave-ids ∙ ap (λ (u : Register). without is u.columns) (sym (register-cut can)) in
      record {
        some = x.some;
        sized = e.sized;
        sound = e.sound;
        same-heads = e.same-heads;
        same-records = e.same-records;
        same-windows = ap length z ∙ left-length v n is;
        windows-sound = rw z (left-sound t.book_heads after.heads v is e.same-heads (λ l p q h. (e.others l p q h).head) leave-ids (windows-sound can) absent);
        columns = λ h. ap (λ (u : List ℕ). sum_of h (lines_in after u)) z ∙ ap (λ (cs : List Column). sum_of h cs) lines;
        others = e.others;
        minutes = λ i p q h.
            let s = left-others v n is leave-ids i p q h in
            rw z (record { first = s.0; second = s.1 });
      }
