-- A removal found and planned: the batch's columns are those that the book has under the ids, one outside its window with a start of 0 (`columns-inside`), a removal
-- that is not refused can be planned (`remove-can`), and search and plan together are the call's verdict (`remove-refused`, `remove-planned`). The
-- register's columns are, but for their order, those that stay and the batch's, so its factor is theirs. Assumes nothing.
use mathlib.Core.Path.{◌≡◌, refl, sym, ap, ◌∙◌, subst}
use mathlib.Core.Bool.{Bool, true, not}
use mathlib.Core.List.{List, [], ◌∷◌}
use Prim.Native.Nat.{ℕ, suc, ◌≤◌, ◌<◌}
use native.Mathlib.Omega.{arith}
use lib.ListN.{length, get_or}
use Rattle.lists.specs.Lists.{is_in, all, among, rises}
use Rattle.lists.proofs.Tests.{and_both}
use Rattle.symbolic.specs.Columns.{Column, fits_rows, in_window, counted_by, Register, live}
use Rattle.symbolic.specs.Factor.{FactorColumn, factor_of}
use Rattle.symbolic.specs.Batch.{label_of, touched}
use Rattle.symbolic.specs.Change.{ids_of, column_of, columns_of}
use Rattle.symbolic.specs.Grades.{Limits}
use Rattle.symbolic.proofs.Live.{live-length, live-fits, live-is}
use Rattle.book.specs.Book as book
use Rattle.book.specs.Entries.{HasHead}
use Rattle.book.proofs.Columns.{column-found}
use Rattle.windows.specs.Windows.{counts_at}
use Rattle.windows.specs.Windowed.{windowed, HasIds, booked_inside}
use Rattle.windows.proofs.Windowed.{windowed-ids, windowed-all, windowed-columns}
use Rattle.tables.specs.Tables.{Tables}
use Rattle.calls.specs.Refusals.{Refusal, accepted, is_accepted, or_else, unless, in_register, ids_refusal, remove_refusal}
use Rattle.calls.specs.Calls.{removing}
use Rattle.calls.specs.Changes.{effect}
use Rattle.calls.specs.Steps.{booked_in}
use Rattle.calls.proofs.Choices.{Whole, or-whole}
use Rattle.calls.proofs.Refusals.{RemoveFits, remove-facts}
use Rattle.calls.proofs.Changes.{touched-removing, removal-fits, removal-live, removal-factor}
use Rattle.refusals.specs.declared.Refused.{Refused}
use Rattle.refusals.specs.Found.{found, bare_in, remove_found}
use Rattle.updown.specs.declared.Plan.{Plan}
use Rattle.std.specs.Prelude.{Ok, Err}
use Rattle.refusals.proofs.Accepted.{RemoveReady, remove-ready, remove-refusal}
use Rattle.updown.specs.Plans.{PlanIs}
use Rattle.updown.specs.Entries.{Booked, BookedFrom, booked_starts, CanRemove, RemovePlanned}
use Rattle.updown.proofs.Filled.{whole-heads}
use Rattle.steps.specs.Outcome.{cut_sizes, cut_world, stored_whole, book_whole, number_for, CanFind}
use Rattle.steps.proofs.Cut.{sizes-are, register-cut, columns-rise, columns-distinct, book-sound}
use Rattle.judging.specs.Judging.{Judged}
use Rattle.judging.proofs.Planning.{inside-rows, inside-start, plan-can}
use Rattle.judging.proofs.Verdicts.{refused-judged, planned-judged}

-- ---- the columns of a batch, as the book has them

columns-booked : (b : book.Book) (is : List ℕ) → ((k : ℕ) → k < length is → (1 ≤ get_or is k 0) × (get_or is k 0 ≤ length b.heads)) →
    ((k : ℕ) → k < length is → book.is_booked b.heads (get_or is k 0) ≡ true) → Booked b is (columns_of is (book.columns_in b))
unfolding Booked columns_of
columns-booked b [] named present = tt
columns-booked b (i ∷ is) named present =
    let n : (1 ≤ i) × (i ≤ length b.heads) = named 0 (omega arith) in (
      ap (λ (c : Column). c.rows) (column-found b i n.0 (present 0 (omega arith))),
      n.0,
      n.1,
      columns-booked b is (λ k h. named (suc k) (omega arith)) (λ k h. present (suc k) (omega arith)),
    )

-- as they count: one outside its window starts nowhere. The book's free head is not read
columns-inside : (m t : ℕ) (hs rs ns : List ℕ) (g h : ℕ) (w is : List ℕ) → ((k : ℕ) → k < length is → (1 ≤ get_or is k 0) × (get_or is k 0 ≤ length hs)) →
    ((k : ℕ) → k < length is → book.is_booked hs (get_or is k 0) ≡ true) → all (fits_rows m) (columns_of is (book.columns_in (book.book_of hs rs ns g))) ≡ true →
    BookedFrom (book.book_of hs rs ns h) (booked_inside t w (length hs) is (booked_starts (book.book_of hs rs ns h) is)) is
    (counted_by (in_window t) (windowed w (length hs) (columns_of is (book.columns_in (book.book_of hs rs ns g)))))
unfolding BookedFrom booked_inside booked_starts counted_by windowed columns_of all
columns-inside m t hs rs ns g h w [] named present fits = tt
columns-inside m t hs rs ns g h w (i ∷ is) named present fits =
    let b : book.Book = book.book_of hs rs ns g in
    let n : (1 ≤ i) × (i ≤ length hs) = named 0 (omega arith) in
    let e : column_of i (book.columns_in b) ≡ book.column_for b i = column-found b i n.0 (present 0 (omega arith)) in
    let f : (fits_rows m (column_of i (book.columns_in b)) ≡ true) × (all (fits_rows m) (columns_of is (book.columns_in b)) ≡ true) =
    and_both (fits_rows m (column_of i (book.columns_in b))) (all (fits_rows m) (columns_of is (book.columns_in b))) fits in
    let xs : List ℕ = (book.column_for b i).rows in
    let z : Bool = counts_at w (length hs) t i in
    let rows : rises 1 m xs ≡ true = sym (ap (fits_rows m) e) ∙ f.0 in
    rw e (
      inside-rows m xs z rows,
      inside-start xs z,
      n.0,
      n.1,
      columns-inside m t hs rs ns g h w is (λ k l. named (suc k) (omega arith)) (λ k l. present (suc k) (omega arith)) f.1,
    )

columns-length : (is : List ℕ) (cs : List Column) → length (columns_of is cs) ≡ length is
unfolding columns_of
columns-length [] cs = refl
columns-length (i ∷ is) cs = ap suc (columns-length is cs)

-- ---- the verdict

-- an accepted search of the ids is number 0 at position 0
ids_whole : (r : Register) (n p : ℕ) (bs is : List ℕ) → Whole (ids_refusal r n p bs is)
unfolding ids_refusal
ids_whole r n p bs [] h = refl
ids_whole r n p bs (i ∷ is) h =
    let x : Refusal = unless (is_in 1 n i) 8 p in
    let y : Refusal = unless (not (among i bs)) 9 p in
    let z : Refusal = unless (in_register r i) 11 p in
    let q : Refusal = ids_refusal r n (suc p) (i ∷ bs) is in
    or-whole x (or_else y (or_else z q)) (or-whole y (or_else z q) (or-whole z q (ids_whole r n (suc p) (i ∷ bs) is))) h

module _ {t : Tables} {lim : Limits} {o f g : ℕ} {w : List ℕ} (can : CanFind (cut_world t lim o f g) w) (is : List ℕ) where
  abbrev r : Register
  r = booked_in (cut_world t lim o f g)

  abbrev m : ℕ
  m = length t.heads

  pub remove-number : number_for (cut_world t lim o f g) (removing is) ≡ remove_found m (book_whole t g) is
  remove-number =
      ap (λ (x : Register). remove_refusal (cut_sizes t) x is) (register-cut can) ∙
      remove-refusal (cut_sizes t) m o (book_whole t g) t.windows is refl

  pub remove-refused : (x : Refused) → found x ≡ remove_found (length t.heads) (book_whole t g) is → Judged (cut_world t lim o f g) (removing is) w w (Err x)
  remove-refused x e = refused-judged x (e ∙ sym remove-number) refl

  -- ---- not refused

  module _ (found : is_accepted (remove_found (length t.heads) (book_whole t g) is) ≡ true) where
    abbrev R : List Column
    R = (effect (booked_in (cut_world t lim o f g)) (removing is)).stay

    abbrev W : List Column
    W = (effect (booked_in (cut_world t lim o f g)) (removing is)).leave

    facts : RemoveFits (cut_sizes t) (booked_in (cut_world t lim o f g)) is
    facts = remove-facts (cut_sizes t) r is (ap is_accepted remove-number ∙ found)

    found-whole : remove_found (length t.heads) (book_whole t g) is ≡ accepted
    found-whole =
        let y : Refusal = ids_refusal (bare_in m (book_whole t g)) (length t.book_heads) 1 [] is in
        or-whole (unless (is_in 1 64 (length is)) 7 0) y (ids_whole (bare_in m (book_whole t g)) (length t.book_heads) 1 [] is) found

    ready : RemoveReady (book_whole t g) is
    ready = remove-ready m (book_whole t g) is found

    abbrev named : List Column
    named = columns_of is (booked_in (cut_world t lim o f g)).columns

    -- those columns without their windows
    abbrev bare : List Column
    bare = columns_of is (book.columns_in (book_whole t g))

    ids-there : all (λ (i : ℕ). among i (ids_of (book.columns_in (book_whole t g)))) is ≡ true
    ids-there =
        let ids : ids_of (booked_in (cut_world t lim o f g)).columns ≡ ids_of (book.columns_in (book_whole t g)) =
        ap (λ (x : Register). ids_of x.columns) (register-cut can) ∙ windowed-ids t.windows (length t.book_heads) (book.columns_in (book_whole t g)) in
        ap (λ (xs : List ℕ). all (λ (i : ℕ). among i xs) is) (sym ids) ∙ facts.live

    named-is : columns_of is (booked_in (cut_world t lim o f g)).columns ≡ windowed t.windows (length t.book_heads) bare
    named-is =
        ap (λ (x : Register). columns_of is x.columns) (register-cut can) ∙
        windowed-columns t.windows (length t.book_heads) is (book.columns_in (book_whole t g)) ids-there

    batch-fits : all (fits_rows (length t.heads)) named ≡ true
    batch-fits = (removal-fits (fits_rows m) (cut_sizes t) r is (columns-distinct can) facts (columns-rise can)).1

    bare-fits : all (fits_rows (length t.heads)) bare ≡ true
    bare-fits =
        sym (windowed-all t.windows (length t.book_heads) (fits_rows m) (λ c x y. refl) bare) ∙ sym (ap (all (fits_rows m)) named-is) ∙ batch-fits

    -- its positions are few, and their columns stand in the book, with two minutes each
    pub remove-few : (length is ≤ 64) × ((k : ℕ) → k < length is → HasHead t.book_heads t.book_rows (get_or is k 0)) × HasIds t.windows (length t.book_heads) is
    remove-few = (
      ready.few,
      whole-heads m (book_whole t g) g is bare (columns-booked (book_whole t g) is ready.named ready.booked) can.book-rows (book-sound can),
      record { few = (sizes-are can).n-high; long = omega (arith, can.windows); named = ready.named },
    )

    pub remove-can : (h i : ℕ) {starts : List ℕ} → starts ≡ booked_inside o t.windows (length t.book_heads) is (booked_starts (book_whole t i) is) →
        CanRemove (stored_whole t h) (book_whole t i) starts is w (effect (booked_in (cut_world t lim o f g)) (removing is)).stay (effect (booked_in (cut_world t lim o f g)) (removing is)).leave
    remove-can h i e =
        let long : length W ≡ length is = live-length r named ∙ columns-length is r.columns in
        let ss : List ℕ = booked_inside o t.windows (length t.book_heads) is (booked_starts (book_whole t i) is) in
        record {
          columns = live r;
          free = f;
          book-free = g;
          can = plan-can can W (live-fits r m named batch-fits) (omega (arith, ready.some)) (omega (arith, ready.few));
          same = removal-live (cut_sizes t) r is (columns-distinct can) facts;
          booked = subst (λ (xs : List ℕ). BookedFrom (book_whole t i) xs is W) (sym e)
              (subst (λ (ws : List Column). BookedFrom (book_whole t i) ss is ws) (sym (live-is r named ∙ ap (counted_by (in_window o)) named-is))
              (columns-inside m o t.book_heads t.book_rows t.book_next g i t.windows is ready.named ready.booked bare-fits));
          book-sized = can.book-rows;
          book-sound = book-sound can;
        }

    pub remove-planned : {h : ℕ} {w' : List ℕ} (x : Plan) →
        RemovePlanned (stored_whole t h) (effect (booked_in (cut_world t lim o f g)) (removing is)).stay (effect (booked_in (cut_world t lim o f g)) (removing is)).leave w w' x.fits x.first.0 x.count x.entries x.used →
        Judged (cut_world t lim o f g) (removing is) w w' (Ok x)
    remove-planned {h} {w'} x p =
        planned-judged x (sym (remove-number ∙ found-whole))
        (record {
          room = 0;
          room_fits = omega arith;
          plan = rw (touched-removing r is)
              (subst (λ (F : List FactorColumn). PlanIs m (length t.next) 0 F (factor_of m R) (label_of F W) (touched F W) w w' x.first.0 x.count x.entries x.used)
              (sym (removal-factor (cut_sizes t) r is (columns-distinct can) facts)) p.plan);
        })
