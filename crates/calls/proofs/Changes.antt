-- What a change does to a register: what an addition and a removal touch (`touched-adding`, `touched-removing`), that touched columns rise, and, where the
-- change is accepted and the columns fit and have distinct ids: a removal's batch and what stays are what there was (`removal-live`), the columns after it fit,
-- a column that is not touched is the same before and after (`untouched-same`), and the entries of an addition are the sizes after it, those of a removal
-- the sizes before it (`adding-entries`, `removing-entries`). Assumes nothing.
use mathlib.Core.Path.{◌≡◌, refl, sym, ap, ◌∙◌, subst}
use mathlib.Core.Bool.{Bool, true, false, ◌||◌, true≢false}
use mathlib.Core.List.{List, ◌++◌, append-nil}
use Prim.Native.Nat.{ℕ, ◌≤◌}
use Rattle.lists.specs.Lists.{all, among, no_repeats, sum_of, rises}
use Rattle.lists.proofs.Tests.{refute}
use Rattle.lists.proofs.Member.{mem-left, mem-right, all-at, all-make}
use Rattle.symbolic.specs.Columns.{Column, with_rows, Register, live}
use Rattle.symbolic.specs.Factor.{FactorColumn, factor_of, factor_for, column_at}
use Rattle.symbolic.specs.Batch.{is_touched, touched, is_exchanged, exchanged, size_sum_of, entries_of}
use Rattle.symbolic.specs.Change.{ids_of, without, columns_of, added, removed, Bag}
use Rattle.symbolic.proofs.Build.{factor-length}
use Rattle.symbolic.proofs.Bags.{bag-mem}
use Rattle.symbolic.proofs.Live.{rows-bag, live-adding, live-removing, live-leaving, live-entering}
use Rattle.symbolic.proofs.Exchange.{exchanged-entering, exchanged-leaving, exchanged-is, exchanged-rises}
use Rattle.symbolic.proofs.Theorems.{locality, order-free, removal-splits, rowless-factor, addition-entries, removal-entries}
use Rattle.tables.specs.Tables.{Sizes}
use Rattle.calls.specs.Refusals.{is_accepted, lines_of}
use Rattle.calls.specs.Calls.{Change, adding, removing, setting}
use Rattle.calls.specs.Changes.{Effect, effect, IsExchange, touched_by, entries_by}
use Rattle.calls.proofs.Refusals.{RemoveFits, remove-facts}

-- ---- what a change touches

module _ (r : Register) where
  -- "in the tree after the call when adding"
  pub touched-adding : (is ns rs ps qs : List ℕ) → touched_by r (adding is ns rs ps qs) ≡ touched (factor_for (added r (lines_of is ns rs ps qs))) (effect r (adding is ns rs ps qs)).enter
  touched-adding is ns rs ps qs = exchanged-entering (factor_for r) (factor_for (added r (lines_of is ns rs ps qs))) (effect r (adding is ns rs ps qs)).enter

  -- "before it when removing"
  pub touched-removing : (is : List ℕ) → touched_by r (removing is) ≡ touched (factor_for r) (effect r (removing is)).leave
  touched-removing is =
      exchanged-leaving (factor_for r) (factor_for (removed r is)) (effect r (removing is)).leave
      (factor-length r.m (live r) ∙ sym (factor-length r.m (live (removed r is))))

  -- no change alters m
  pub rows_stay : (c : Change) → (effect r c).register.m ≡ r.m
  rows_stay (adding is ns rs ps qs) = refl
  rows_stay (removing is) = refl
  rows_stay (setting t) = refl

  pub touched-rise : (c : Change) → rises 1 r.m (touched_by r c) ≡ true
  touched-rise c =
      let x : Effect = effect r c in
      subst (λ (n : ℕ). rises 1 r.m (exchanged (factor_for r) (factor_of n (live x.register)) x.leave x.enter) ≡ true) (sym (rows_stay c))
      (exchanged-rises r.m (live r) (live x.register) x.leave x.enter)

-- ---- lists of columns that pass a test

module _ {A : Type 0} (f : A → Bool) where
  pub append-all : (xs ys : List A) → all f (xs ++ ys) ≡ true → (all f xs ≡ true) × (all f ys ≡ true)
  append-all xs ys h = (all-make f xs (λ x m. all-at f (mem-left ys m) h), all-make f ys (λ x m. all-at f (mem-right xs m) h))

-- ---- a removal

-- the columns that stay, and the batch
removal-bag : (l : Sizes) (r : Register) (is : List ℕ) → no_repeats (ids_of r.columns) ≡ true → RemoveFits l r is →
    Bag r.columns (without is r.columns ++ columns_of is r.columns)
removal-bag l r is u f = removal-splits r.columns is u f.once f.live

-- both are columns that there were
pub removal-fits : (f : Column → Bool) (l : Sizes) (r : Register) (is : List ℕ) → no_repeats (ids_of r.columns) ≡ true → RemoveFits l r is →
    all f r.columns ≡ true → (all f (without is r.columns) ≡ true) × (all f (columns_of is r.columns) ≡ true)
removal-fits f l r is u g h =
    let R : List Column = without is r.columns in
    let W : List Column = columns_of is r.columns in
    append-all f R W (all-make f (R ++ W) (λ c m. all-at f (bag-mem r.columns (R ++ W) (removal-bag l r is u g) m) h))

-- of those that count
pub removal-live : (l : Sizes) (r : Register) (is : List ℕ) → no_repeats (ids_of r.columns) ≡ true → RemoveFits l r is →
    Bag (live r) ((effect r (removing is)).stay ++ (effect r (removing is)).leave)
removal-live l r is u f = live-removing r is (columns_of is r.columns) (removal-bag l r is u f)

-- ---- lists of columns that are the same

same-bag : {cs ds : List Column} → cs ≡ ds → Bag cs ds
same-bag e f = ap (λ (cs : List Column). sum_of f cs) e

-- but for their order and for columns with no row: the factor is the same
pub but-rows : (m : ℕ) (cs ds : List Column) → Bag (with_rows cs) (with_rows ds) → factor_of m cs ≡ factor_of m ds
but-rows m cs ds b = rowless-factor m cs ∙ order-free m (with_rows cs) (with_rows ds) b ∙ sym (rowless-factor m ds)

-- ---- an accepted change

-- it is an exchange
pub effect-exchanges : (l : Sizes) (r : Register) → no_repeats (ids_of r.columns) ≡ true → (c : Change) → is_accepted ((effect r c).refusal l) ≡ true →
    IsExchange r (effect r c)
effect-exchanges l r u (adding is ns rs ps qs) h =
    let B : List Column = lines_of is ns rs ps qs in
    record {
      before = same-bag (ap with_rows (sym (append-nil (live r))));
      after = same-bag (ap with_rows (live-adding r B));
    }
effect-exchanges l r u (removing is) h =
    let S : List Column = (effect r (removing is)).stay in
    let L : List Column = (effect r (removing is)).leave in
    record {
      before = rows-bag (live r) (S ++ L) (removal-live l r is u (remove-facts l r is h));
      after = same-bag (ap with_rows (sym (append-nil S)));
    }
effect-exchanges l r u (setting t) h = record { before = live-leaving r t; after = live-entering r t }

-- the factors before and after an exchange
module _ {r : Register} {x : Effect} (e : IsExchange r x) where
  pub exchange-before : factor_for r ≡ factor_of r.m (x.stay ++ x.leave)
  exchange-before = but-rows r.m (live r) (x.stay ++ x.leave) e.before

  pub exchange-after : factor_for x.register ≡ factor_of x.register.m (x.stay ++ x.enter)
  exchange-after = but-rows x.register.m (live x.register) (x.stay ++ x.enter) e.after

-- the factor of the register after an addition, and of the one before a removal, with the batch at its end
pub addition-factor : (r : Register) (is ns rs ps qs : List ℕ) →
    factor_for (added r (lines_of is ns rs ps qs)) ≡ factor_of r.m ((effect r (adding is ns rs ps qs)).stay ++ (effect r (adding is ns rs ps qs)).enter)
addition-factor r is ns rs ps qs = ap (λ (cs : List Column). factor_of r.m cs) (live-adding r (lines_of is ns rs ps qs))

pub removal-factor : (l : Sizes) (r : Register) (is : List ℕ) → no_repeats (ids_of r.columns) ≡ true → RemoveFits l r is →
    factor_for r ≡ factor_of r.m ((effect r (removing is)).stay ++ (effect r (removing is)).leave)
removal-factor l r is u f = order-free r.m (live r) ((effect r (removing is)).stay ++ (effect r (removing is)).leave) (removal-live l r is u f)

or-neither : (x y : Bool) → (x || y) ≡ false → (x ≡ false) × (y ≡ false)
or-neither true y h = absurd (true≢false h)
or-neither false y h = (refl, h)

-- "alters no column off its paths", of the definition itself
module _ (l : Sizes) (r : Register) (u : no_repeats (ids_of r.columns) ≡ true) (j : ℕ) (a : 1 ≤ j) (b : j ≤ r.m) where
  pub untouched-same : (c : Change) → is_accepted ((effect r c).refusal l) ≡ true → among j (touched_by r c) ≡ false →
      column_at (factor_for (effect r c).register) j ≡ column_at (factor_for r) j
  untouched-same c h t =
      let x : Effect = effect r c in
      let e : IsExchange r x = effect-exchanges l r u c h in
      let S : List Column = x.stay in
      let F : factor_for r ≡ factor_of r.m (S ++ x.leave) = exchange-before e in
      let G : factor_for x.register ≡ factor_of r.m (S ++ x.enter) = exchange-after e ∙ ap (λ (m : ℕ). factor_of m (S ++ x.enter)) (rows_stay r c) in
      let off : is_exchanged (factor_of r.m (S ++ x.leave)) (factor_of r.m (S ++ x.enter)) x.leave x.enter j ≡ false =
      refute (is_exchanged (factor_of r.m (S ++ x.leave)) (factor_of r.m (S ++ x.enter)) x.leave x.enter j) (λ z.
      true≢false (sym ((exchanged-is r.m (S ++ x.leave) (S ++ x.enter) x.leave x.enter j).1 (a, b, z)) ∙
      ap (λ (fs : List FactorColumn). among j (exchanged fs (factor_of r.m (S ++ x.enter)) x.leave x.enter)) (sym F) ∙
      ap (λ (fs : List FactorColumn). among j (exchanged (factor_for r) fs x.leave x.enter)) (sym G) ∙ t)) in
      let q : (is_touched (factor_of r.m (S ++ x.leave)) x.leave j ≡ false) × (is_touched (factor_of r.m (S ++ x.enter)) x.enter j ≡ false) =
      or-neither (is_touched (factor_of r.m (S ++ x.leave)) x.leave j) (is_touched (factor_of r.m (S ++ x.enter)) x.enter j) off in
      ap (λ (fs : List FactorColumn). column_at fs j) G ∙ sym (locality r.m S x.enter j a b q.1) ∙ locality r.m S x.leave j a b q.0 ∙
      ap (λ (fs : List FactorColumn). column_at fs j) (sym F)

-- ---- entries

pub adding-entries : (r : Register) (is ns rs ps qs : List ℕ) →
    entries_by r (adding is ns rs ps qs) ≡ size_sum_of (factor_for (effect r (adding is ns rs ps qs)).register) (touched_by r (adding is ns rs ps qs))
adding-entries r is ns rs ps qs =
    let js : List ℕ = touched_by r (adding is ns rs ps qs) in
    subst (λ (fs : List FactorColumn). entries_of (factor_for r) fs js ≡ size_sum_of fs js) (sym (addition-factor r is ns rs ps qs))
    (addition-entries r.m (live r) (effect r (adding is ns rs ps qs)).enter js)

pub removing-entries : (l : Sizes) (r : Register) (is : List ℕ) → no_repeats (ids_of r.columns) ≡ true → is_accepted ((effect r (removing is)).refusal l) ≡ true →
    entries_by r (removing is) ≡ size_sum_of (factor_for r) (touched_by r (removing is))
removing-entries l r is u h =
    let R : List Column = (effect r (removing is)).stay in
    let W : List Column = (effect r (removing is)).leave in
    let e : factor_for r ≡ factor_of r.m (R ++ W) = removal-factor l r is u (remove-facts l r is h) in
    let js : List ℕ = touched_by r (removing is) in
    ap (λ (fs : List FactorColumn). entries_of fs (factor_for (removed r is)) js) e ∙ removal-entries r.m R W js ∙
    ap (λ (fs : List FactorColumn). size_sum_of fs js) (sym e)
