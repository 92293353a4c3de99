-- What reads a register only up to the order of its columns, given distinct ids: the columns of some ids, every number, every report, every answer and
-- list, and the register after a change (`bag-after`); an accepted change keeps ids distinct (`once_after`). The book lists its columns by rising id and a
-- register by time, so every theorem about the two passes here. Assumes nothing.
use mathlib.Core.Path.{◌≡◌, refl, sym, ap, ◌∙◌, subst}
use mathlib.Core.Logic.{inl, inr}
use mathlib.Core.Bool.{Bool, true, false, ◌||◌, true≢false}
use mathlib.Core.List.{List, [], ◌∷◌, ◌++◌}
use Prim.Native.Nat.{ℕ, suc, ◌+◌, ◌≤◌}
use native.Mathlib.Omega.{arith}
use lib.ListN.{length, drop}
use borrow.Author.Tests.{eq-eqb, ne_eqb}
use Rattle.lists.specs.Lists.{one, Mem, first, later, among, no_repeats, times, over, written_at}
use Rattle.lists.proofs.Tests.{cases, eq-or-ne, zero-or-pos, both_ways, or_right}
use Rattle.lists.proofs.Member.{among-mem, any-find, any-has}
use Rattle.lists.proofs.Sum.{sum-append}
use Rattle.lists.proofs.Times.{among-some, mem-times, once-of, of-once}
use Rattle.symbolic.specs.Columns.{Column, column_with, only_at, counted_by, Register, live_of, live}
use Rattle.symbolic.specs.Factor.{FactorColumn, factor_of, factor_for}
use Rattle.symbolic.specs.Batch.{passes, is_touched, is_exchanged, exchanged, label_of, entries_of}
use Rattle.symbolic.specs.Grades.{Limits, grade_of}
use Rattle.symbolic.specs.Change.{ids_of, without, column_of, columns_of, added, clocked, Bag}
use Rattle.symbolic.proofs.Bags.{bag-append, bag-mem, bag-without, without-le, ids-times, has_id, column-of}
use Rattle.symbolic.proofs.Bags as bags
use Rattle.symbolic.proofs.Theorems.{order-free}
use Rattle.symbolic.proofs.Live.{counted-bag, live_same, live-order}
use Rattle.symbolic.proofs.Passing.{passing-same}
use Rattle.tables.specs.Tables.{Sizes}
use Rattle.calls.specs.Refusals.{is_accepted, or_else, lines_of, in_register, columns_refusal, room_refusal, ids_refusal, room_for}
use Rattle.calls.specs.Calls.{Change, adding, removing, setting, Question, ask_next_row, ask_parent, ask_path, ask_column, ask_meets, ask_common, Entry, opening, changing, checking, asking, Call}
use Rattle.calls.specs.Changes.{Effect, effect, touched_by, labelled, labels_by, entries_by}
use Rattle.calls.specs.Questions.{Response, response}
use Rattle.calls.specs.Numbers.{own_refusal, call_refusal}
use Rattle.calls.specs.Steps.{Result, result_of, accepted_by, lists_after}
use Rattle.calls.proofs.Refusals.{ColumnsFit, lines-ids, add-facts}
use Rattle.calls.proofs.Changes.{rows_stay}

-- ---- the column of an id

-- an id that stands among the columns' ids has a column
pub id-find : (i : ℕ) (cs : List Column) → among i (ids_of cs) ≡ true → (c : Column) × Mem c cs × (c.id ≡ i)
unfolding ids_of among
id-find i [] h = absurd (true≢false (sym h))
id-find i (c ∷ cs) h =
    elim (eq-or-ne i c.id) [
      | inl q ↦ (c, first, sym q)
      | inr q ↦ let t : (d : Column) × Mem d cs × (d.id ≡ i) = id-find i cs (rw (ne_eqb i c.id q) at h) in (t.0, later t.1, t.2)
    ]

-- one that does not has the column with no row
pub column-none : (i : ℕ) (cs : List Column) → among i (ids_of cs) ≡ false → column_of i cs ≡ column_with i []
unfolding ids_of among column_of
column-none i [] h = refl
column-none i (c ∷ cs) h =
    elim (eq-or-ne c.id i) [
      | inl q ↦ absurd (true≢false (sym (rw (eq-eqb i c.id (sym q)) refl) ∙ h))
      | inr q ↦ rw (ne_eqb c.id i q) (column-none i cs (rw (ne_eqb i c.id (λ e. q (sym e))) at h))
    ]

module _ (cs ds : List Column) (b : Bag cs ds) where
  pub bag-among : (i : ℕ) → among i (ids_of cs) ≡ among i (ids_of ds)
  bag-among i =
      both_ways (among i (ids_of cs)) (among i (ids_of ds))
      (λ h. among-some i (ids_of ds) (omega (arith, bags.bag-ids cs ds b i, mem-times (among-mem i (ids_of cs) h))))
      (λ h. among-some i (ids_of cs) (omega (arith, bags.bag-ids cs ds b i, mem-times (among-mem i (ids_of ds) h))))

  pub bag-once : no_repeats (ids_of cs) ≡ true → no_repeats (ids_of ds) ≡ true
  bag-once u = of-once (ids_of ds) (λ i. omega (arith, once-of (ids_of cs) u i, bags.bag-ids cs ds b i))

  pub bag-column : no_repeats (ids_of cs) ≡ true → (i : ℕ) → column_of i cs ≡ column_of i ds
  bag-column u i =
      elim (cases (among i (ids_of ds))) [
        | inr e ↦ column-none i cs (bag-among i ∙ e) ∙ sym (column-none i ds e)
        | inl e ↦
            let t : (d : Column) × Mem d ds × (d.id ≡ i) = id-find i ds e in
            let p : column_of t.0.id cs ≡ t.0 = column-of cs u (bag-mem cs ds b t.1) in
            let q : column_of t.0.id ds ≡ t.0 = column-of ds (bag-once u) t.1 in
            subst (λ (x : ℕ). column_of x cs ≡ column_of x ds) t.2 (p ∙ sym q)
      ]

  pub bag-columns : no_repeats (ids_of cs) ≡ true → (is : List ℕ) → columns_of is cs ≡ columns_of is ds
  unfolding columns_of
  bag-columns u [] = refl
  bag-columns u (i ∷ is) = rw (bag-column u i, bag-columns u is)

-- ---- two registers with the same columns

module _ (r s : Register) (e : r.m ≡ s.m) (k : r.clock ≡ s.clock) (b : Bag r.columns s.columns) where
  pub bag-booked : (i : ℕ) → in_register r i ≡ in_register s i
  bag-booked i = bag-among r.columns s.columns b i

  pub bag-factor : factor_for r ≡ factor_for s
  bag-factor = ap (λ (m : ℕ). factor_of m (live r)) e ∙ order-free s.m (live r) (live s) (live-order r s k b)

  -- ---- the register after a change

  pub bag-rows : (c : Change) → (effect r c).register.m ≡ (effect s c).register.m
  bag-rows c = rows_stay r c ∙ e ∙ sym (rows_stay s c)

  pub bag-clock : (c : Change) → (effect r c).register.clock ≡ (effect s c).register.clock
  bag-clock (adding is ns rs ps qs) = k
  bag-clock (removing is) = k
  bag-clock (setting t) = refl

  pub bag-after : (c : Change) → Bag (effect r c).register.columns (effect s c).register.columns
  bag-after (adding is ns rs ps qs) f = bag-append r.columns s.columns (lines_of is ns rs ps qs) b f
  bag-after (removing is) f = bag-without is r.columns s.columns b f
  bag-after (setting t) f = b f

  -- ---- numbers

  columns-number : (n p : ℕ) (bs is ns rs ps qs : List ℕ) → columns_refusal r n p bs is ns rs ps qs ≡ columns_refusal s n p bs is ns rs ps qs
  unfolding columns_refusal
  columns-number n p bs [] ns rs ps qs = refl
  columns-number n p bs (i ∷ is) [] rs ps qs = refl
  columns-number n p bs (i ∷ is) (k ∷ ns) rs ps qs = rw (columns-number n (suc p) (i ∷ bs) is ns (drop k rs) (drop 1 ps) (drop 1 qs), bag-booked i, e)

  ids-number : (n p : ℕ) (bs is : List ℕ) → ids_refusal r n p bs is ≡ ids_refusal s n p bs is
  unfolding ids_refusal
  ids-number n p bs [] = refl
  ids-number n p bs (i ∷ is) = rw (ids-number n (suc p) (i ∷ bs) is, bag-booked i)

-- 15 and 16
pub bag-room : (l : Sizes) (r s : Register) → r.m ≡ s.m → r.clock ≡ s.clock → Bag r.columns s.columns → room_refusal l r ≡ room_refusal l s
bag-room l r s e k b = rw (b (λ c. length c.rows), bag-factor r s e k b)

-- columns in another order touch the same
bag-touch : (fs : List FactorColumn) (cs ds : List Column) → Bag cs ds → (j : ℕ) → is_touched fs cs j ≡ is_touched fs ds j
bag-touch fs cs ds b j =
    both_ways (is_touched fs cs j) (is_touched fs ds j) (λ h. found ds cs (λ f. sym (b f)) h) (λ h. found cs ds b h)
  where
    found : (xs ys : List Column) → Bag xs ys → is_touched fs ys j ≡ true → is_touched fs xs j ≡ true
    found xs ys d h =
        let t : (c : Column) × Mem c ys × (passes fs j c ≡ true) = any-find (passes fs j) ys h in any-has (passes fs j) (bag-mem xs ys d t.1) t.2

module _ (r s : Register) (e : r.m ≡ s.m) (k : r.clock ≡ s.clock) (b : Bag r.columns s.columns) where
  pub bag-factor-after : (c : Change) → factor_for (effect r c).register ≡ factor_for (effect s c).register
  bag-factor-after c = bag-factor (effect r c).register (effect s c).register (bag-rows r s e k b c) (bag-clock r s e k b c) (bag-after r s e k b c)

  -- 7 to 16 and 21
  change-refusal : (l : Sizes) (c : Change) → (effect r c).refusal l ≡ (effect s c).refusal l
  change-refusal l (adding is ns rs ps qs) =
      let B : List Column = lines_of is ns rs ps qs in
      rw (columns-number r s e k b l.n 1 [] is ns rs ps qs, bag-room l (added r B) (added s B) e k (bag-append r.columns s.columns B b))
  change-refusal l (removing is) = rw (ids-number r s e k b l.n 1 [] is)
  change-refusal l (setting t) = rw (bag-factor (clocked r t) (clocked s t) e refl b)

  -- a question's whole response
  pub bag-response : (q : Question) → response r q ≡ response s q
  bag-response (ask_next_row i j) = rw (bag-factor r s e k b, e)
  bag-response (ask_parent j) = rw (bag-factor r s e k b, e)
  bag-response (ask_path j) = rw (bag-factor r s e k b, e)
  bag-response (ask_column j) = rw (bag-factor r s e k b, e)
  bag-response (ask_meets i) = rw (bag-factor r s e k b, e)
  bag-response (ask_common is) = rw (bag-factor r s e k b, e)

  -- 7 to 18 and 21
  pub bag-number : (l : Sizes) (c : Call) → call_refusal l r c ≡ call_refusal l s c
  bag-number l c = own c.entry c.lent.list
    where
      own : (i : Entry) (xs : List ℕ) → own_refusal l r i xs ≡ own_refusal l s i xs
      own (opening j g) xs = refl
      own (changing c) xs = change-refusal l c
      own checking xs = refl
      own (asking q p) xs = ap (λ (x : Response). or_else x.refusal (room_for xs p (length x.list))) (bag-response q)

  -- ---- reports, of registers with distinct ids

  module _ (u : no_repeats (ids_of r.columns) ≡ true) where
    -- what leaves and enters touches the same, under the same labels and ids
    record SameEffect (x y : Effect) : Type 0 where
      touches : (fs gs : List FactorColumn) (j : ℕ) → is_exchanged fs gs x.leave x.enter j ≡ is_exchanged fs gs y.leave y.enter j
      label : x.label ≡ y.label
      ids : x.ids ≡ y.ids

    bag-effect : (c : Change) → SameEffect (effect r c) (effect s c)
    bag-effect (adding is ns rs ps qs) =
        let W : List Column = lines_of is ns rs ps qs in
        let q : live_of (added r W) W ≡ live_of (added s W) W = live_same (added r W) (added s W) k W in
        record {
          touches = λ fs gs j. ap (λ (cs : List Column). is_exchanged fs gs [] cs j) q;
          label = ap (λ (fs : List FactorColumn). label_of fs (effect r (adding is ns rs ps qs)).enter) (bag-factor-after (adding is ns rs ps qs)) ∙
              ap (λ (cs : List Column). label_of (factor_for (added s W)) cs) q;
          ids = refl;
        }
    bag-effect (removing is) =
        let q : live_of r (columns_of is r.columns) ≡ live_of s (columns_of is s.columns) =
        ap (live_of r) (bag-columns r.columns s.columns b u is) ∙ live_same r s k (columns_of is s.columns) in
        record {
          touches = λ fs gs j. ap (λ (cs : List Column). is_exchanged fs gs cs [] j) q;
          label = ap (λ (fs : List FactorColumn). label_of fs (effect r (removing is)).leave) (bag-factor r s e k b) ∙ ap (λ (cs : List Column). label_of (factor_for s) cs) q;
          ids = refl;
        }
    bag-effect (setting t) =
        let L : ℕ → List Column → List Column = λ o cs. counted_by (only_at o t) cs in
        let E : ℕ → List Column → List Column = λ o cs. counted_by (only_at t o) cs in
        record {
          touches = λ fs gs j.
              ap (λ (z : Bool). z || is_touched gs (E r.clock r.columns) j)
              (bag-touch fs (L r.clock r.columns) (L r.clock s.columns) (counted-bag (only_at r.clock t) r.columns s.columns b) j ∙
              ap (λ (o : ℕ). is_touched fs (L o s.columns) j) k) ∙
              ap (λ (z : Bool). is_touched fs (L s.clock s.columns) j || z)
              (bag-touch gs (E r.clock r.columns) (E r.clock s.columns) (counted-bag (only_at t r.clock) r.columns s.columns b) j ∙
              ap (λ (o : ℕ). is_touched gs (E o s.columns) j) k);
          label = refl;
          ids = refl;
        }

    pub bag-ids : (c : Change) → (effect r c).ids ≡ (effect s c).ids
    bag-ids c = (bag-effect c).ids

    pub bag-touched : (c : Change) → touched_by r c ≡ touched_by s c
    bag-touched c =
        let x : Effect = effect r c in
        let y : Effect = effect s c in
        ap (λ (fs : List FactorColumn). exchanged fs (factor_for x.register) x.leave x.enter) (bag-factor r s e k b) ∙
        ap (λ (fs : List FactorColumn). exchanged (factor_for s) fs x.leave x.enter) (bag-factor-after c) ∙
        passing-same (is_exchanged (factor_for s) (factor_for y.register) x.leave x.enter) (is_exchanged (factor_for s) (factor_for y.register) y.leave y.enter)
        (λ j. (bag-effect c).touches (factor_for s) (factor_for y.register) j) 1 (length (factor_for y.register))

    pub bag-labels : (c : Change) → labels_by r c ≡ labels_by s c
    bag-labels c = ap (λ (f : ℕ → ℕ). labelled f (touched_by r c)) (bag-effect c).label ∙ ap (λ (js : List ℕ). labelled (effect s c).label js) (bag-touched c)

    pub bag-entries : (c : Change) → entries_by r c ≡ entries_by s c
    bag-entries c =
        ap (λ (fs : List FactorColumn). entries_of fs (factor_for (effect r c).register) (touched_by r c)) (bag-factor r s e k b) ∙
        ap (λ (fs : List FactorColumn). entries_of (factor_for s) fs (touched_by r c)) (bag-factor-after c) ∙
        ap (λ (js : List ℕ). entries_of (factor_for s) (factor_for (effect s c).register) js) (bag-touched c)

    -- ---- answers and lists

    pub bag-result : (i : Entry) → result_of r i ≡ result_of s i
    bag-result (opening l g) = refl
    bag-result (changing c) =
        λ i. record { touched = bag-touched c i; labels = bag-labels c i; entries = bag-entries c i; row = 0; value = 0; list = []; place = 0 }
    bag-result checking = refl
    bag-result (asking q p) =
        ap (λ (x : Response). record { touched = []; labels = []; entries = 0; row = x.row; value = x.value; list = x.list; place = p }) (bag-response q)

    pub bag-answer : (g : Limits) (i : Entry) → accepted_by g r i ≡ accepted_by g s i
    bag-answer g i =
        ap (λ (x : Result). record { number = 0; position = 0; touched = length x.touched; entries = x.entries; grade = grade_of g x.entries; row = x.row; value = x.value }) (bag-result i)

    pub bag-lists : (d : Call) (v : List ℕ) → lists_after r d v ≡ lists_after s d v
    bag-lists d v =
        ap (λ (x : Result). record { work = v; touched = over x.touched d.lent.touched; labels = over x.labels d.lent.labels; list = written_at x.place x.list d.lent.list })
        (bag-result d.entry)

-- ---- ids stay distinct

pub once_after : (l : Sizes) (r : Register) (c : Change) → no_repeats (ids_of r.columns) ≡ true → is_accepted ((effect r c).refusal l) ≡ true →
    no_repeats (ids_of (effect r c).register.columns) ≡ true
unfolding ids_of no_repeats
once_after l r (adding is ns rs ps qs) u h =
    let f : ColumnsFit r l.n [] is ns rs ps qs = (add-facts l r is ns rs ps qs h).columns in
    let B : List Column = lines_of is ns rs ps qs in
    of-once (ids_of (r.columns ++ B)) (λ i. fewer r is B i (lines-ids f) (f.apart i) (once-of (ids_of r.columns) u i))
  where
    fewer : (r : Register) (is : List ℕ) (B : List Column) (i : ℕ) → ids_of B ≡ is → times i is + one (among i [] || in_register r i) ≤ 1 → times i (ids_of r.columns) ≤ 1 →
        times i (ids_of (r.columns ++ B)) ≤ 1
    fewer r is B i q h k =
        let sum : times i (ids_of (r.columns ++ B)) ≡ times i (ids_of r.columns) + times i (ids_of B) =
        omega (arith, ids-times i (r.columns ++ B), ids-times i r.columns, ids-times i B, sum-append (λ c. one (has_id i c)) r.columns B) in
        let new : times i (ids_of B) ≡ times i is = ap (times i) q in
        elim (zero-or-pos (times i (ids_of r.columns))) [
          | inl z ↦ omega arith
          | inr p ↦
              let t : one (among i [] || in_register r i) ≡ 1 = ap one (or_right (among i []) (in_register r i) (among-some i (ids_of r.columns) p)) in
              omega arith
        ]
once_after l r (removing is) u h =
    of-once (ids_of (without is r.columns)) (λ i.
    omega (arith, once-of (ids_of r.columns) u i, ids-times i (without is r.columns), ids-times i r.columns, without-le is r.columns (λ c. one (has_id i c))))
once_after l r (setting t) u h = u
