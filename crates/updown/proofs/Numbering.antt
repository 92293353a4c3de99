-- The numbers of a walk, one touched column more (`numbers-next`): first and last column, count, entries, the free records taken, and the room that is left;
-- bounds of them, so that they fit their types; and the plan of one column: adding, the column grows by its new rows (`column-grows`); removing,
-- there are none, so that it always fits (`removing-fits`). Assumes nothing.
use mathlib.Core.Path.{◌≡◌, refl, sym, ap, ◌∙◌}
use mathlib.Core.Bool.{Bool, true, false, false≢true}
use mathlib.Core.List.{List, [], ◌∷◌, ◌++◌}
use Prim.Native.Nat.{ℕ, suc, ◌+◌, ◌-◌, ◌*◌, ◌≤◌, ◌<◌, max}
use native.Mathlib.Nat.{max-le}
use native.Mathlib.Omega.{arith}
use lib.Dec.{eqb, leb}
use lib.ListN.{length, get_or, length-append}
use borrow.Author.Tests.{ne_eqb, le-leb}
use Rattle.lists.specs.Lists.{pick, Mem, first, later, sum_of}
use Rattle.lists.proofs.Count.{count-le}
use Rattle.lists.proofs.Rising.{rises-length}
use Rattle.symbolic.specs.Columns.{Column}
use Rattle.symbolic.specs.Factor.{factor_of, column_at, in_pattern, size_of}
use Rattle.symbolic.specs.Batch.{is_touched, size_sum_of, entries_of}
use Rattle.symbolic.proofs.Sizes.{size_is}
use Rattle.workspace.specs.Regions.{region}
use Rattle.workspace.proofs.Regions.{region-join, region-length}
use Rattle.pool.specs.Chains.{chain, last_of}
use Rattle.columns.specs.Plan.{of_kind}
use Rattle.columns.proofs.Plan.{kind-append}
use Rattle.differences.specs.Gather.{plan_part}
use Rattle.emission.specs.Plans.{plan_from}
use Rattle.updown.proofs.Brought.{Counts}
use Rattle.emission.specs.Emit as emit
use Rattle.emission.specs.declared.Emission.{Emission}
use Rattle.updown.specs.Plans.{first_of}
use Rattle.updown.specs.Turns.{larger, smaller, before, after, done}
use Rattle.updown.specs.States.{Numbers}
use Rattle.updown.proofs.Planning.{is_kind, none-new, none-gone, none-of-kind, plan-length, plan-sizes}
use Rattle.updown.proofs.Plans.{touched-rising, region-same, last-append, sizes-append, entries-append}
use Rattle.updown.proofs.Turning.{column-counts, grows_at}
use Rattle.updown.proofs.Stepping.{done_next, done-in}

-- ---- bounds

size-bound : (m : ℕ) (cs : List Column) (j : ℕ) → 1 ≤ j → j ≤ m → size_of (column_at (factor_of m cs) j) ≤ m
size-bound m cs j a b = omega (arith, size_is m cs j a b, count-le (λ i. in_pattern (factor_of m cs) i j) m)

larger-bound : (m : ℕ) (cs ds : List Column) (j : ℕ) → 1 ≤ j → j ≤ m → max (size_of (column_at (factor_of m cs) j)) (size_of (column_at (factor_of m ds) j)) ≤ m
larger-bound m cs ds j a b = max-le (size-bound m cs j a b) (size-bound m ds j a b)

entries-bound : (m : ℕ) (cs ds : List Column) (js : List ℕ) → m ≤ 4096 → ((c : ℕ) → Mem c js → (1 ≤ c) × (c ≤ m)) →
    entries_of (factor_of m cs) (factor_of m ds) js ≤ 4096 * length js
unfolding sum_of
entries-bound m cs ds [] n h = omega arith
entries-bound m cs ds (j ∷ js) n h = omega (arith, larger-bound m cs ds j (h j first).0 (h j first).1, entries-bound m cs ds js n (λ c x. h c (later x)))

module _ (m : ℕ) (R W : List Column) (adding : Bool) (j : ℕ) (a : 1 ≤ j) (b : j ≤ m) (n : m ≤ 4096) where
  pub count-bound : length (done m R W j) < j
  count-bound = omega (arith, rises-length 1 (j - 1) (done m R W j) (omega arith) (touched-rising (larger m R W) W 1 (j - 1) (j - 1) (omega arith)))

  pub entries-small : entries_of (before adding m R W) (after adding m R W) (done m R W j) ≤ 16777216
  entries-small = go adding
    where
      low : (c : ℕ) → Mem c (done m R W j) → (1 ≤ c) × (c ≤ m)
      low c x = let v : (1 ≤ c) × (c < j) = done-in m R W j a x in omega arith

      go : (z : Bool) → entries_of (before z m R W) (after z m R W) (done m R W j) ≤ 16777216
      go true = omega (arith, entries-bound m R (R ++ W) (done m R W j) n low, count-bound)
      go false = omega (arith, entries-bound m (R ++ W) R (done m R W j) n low, count-bound)

  pub larger-small : max (size_of (column_at (before adding m R W) j)) (size_of (column_at (after adding m R W) j)) ≤ 4096
  larger-small = go adding
    where
      go : (z : Bool) → max (size_of (column_at (before z m R W) j)) (size_of (column_at (after z m R W) j)) ≤ 4096
      go true = omega (arith, larger-bound m R (R ++ W) j a b)
      go false = omega (arith, larger-bound m (R ++ W) R j a b)

-- ---- a column with the batch has its rows without it, and the new ones

module _ (m : ℕ) (R W : List Column) (j : ℕ) (a : 1 ≤ j) (b : j ≤ m) (narrow : m ≤ 4096) (few : length R + length W ≤ 60000) where
  abbrev more : List ℕ
  more = (column_at (larger m R W) j).counts

  abbrev less : List ℕ
  less = (column_at (smaller m R) j).counts

  -- adding, no row is gone
  pub column-grows : size_of (column_at (larger m R W) j) ≡ size_of (column_at (smaller m R) j) + of_kind 1 (plan_from 1 less more)
  column-grows =
      let k : Counts m j more less = column-counts m R W j a b narrow few in
      let gone : (i : ℕ) → is_kind 2 (get_or less i 0) (get_or more i 0) ≡ false = λ i. none-gone (get_or less i 0) (get_or more i 0) (grows_at k i) in
      omega (
        arith,
        none-of-kind 2 1 less more (omega arith) (omega (arith, k.less-long)) k.more-small gone,
        plan-sizes 1 less more (omega arith) (omega (arith, k.less-long)) (k.less-long ∙ sym k.more-long) k.more-small,
      )

  -- removing, no row is new: it needs no record
  pub removing-fits : (n : ℕ) → leb (of_kind 1 (plan_from 1 more less)) n ≡ true
  removing-fits n =
      let k : Counts m j more less = column-counts m R W j a b narrow few in
      let new : (i : ℕ) → is_kind 1 (get_or more i 0) (get_or less i 0) ≡ false = λ i. none-new (get_or more i 0) (get_or less i 0) (grows_at k i) in
      le-leb (of_kind 1 (plan_from 1 more less)) n (omega (arith, none-of-kind 1 1 more less (omega arith) (omega (arith, k.more-long)) k.less-small new))

-- ---- one column more

pub first_more : (xs : List ℕ) (j : ℕ) → ((c : ℕ) → Mem c xs → 1 ≤ c) → first_of (xs ++ (j ∷ [])) ≡ pick (eqb (first_of xs) 0) j (first_of xs)
first_more [] j h = refl
first_more (x ∷ xs) j h = rw (ne_eqb x 0 (omega (arith, h x first))) refl

module _ {next work work' : List ℕ} {m : ℕ} {R W : List Column} {adding : Bool} {free j f l c n used avail : ℕ} {e : Emission} (h : Numbers next work m R W adding free j f l c n used avail)
    (a : 1 ≤ j) (b : j ≤ m) (narrow : m ≤ 4096) (few : length R + length W ≤ 60000) (touched : is_touched (larger m R W) W j ≡ true) (low : used ≤ e.used)
    (p : emit.Plan next m j used avail (column_at (before adding m R W) j).counts (column_at (after adding m R W) j).counts work' e)
    (same : length work' ≡ length work) (long : 8 * m + e.used ≤ length work') (frame : (k : ℕ) → 8 * m ≤ k → k < 8 * m + used → get_or work' k 0 ≡ get_or work k 0) where
  -- any table with the same plan
  pub numbers-next : {work'' : List ℕ} {f' l' c' n' : ℕ} → length work'' ≡ length work' → ((k : ℕ) → 8 * m ≤ k → k < 8 * m + e.used → get_or work'' k 0 ≡ get_or work' k 0) →
      f' ≡ pick (eqb f 0) j f → l' ≡ j → c' ≡ c + 1 → n' ≡ n + e.larger → Numbers next work'' m R W adding free (suc j) f' l' c' n' e.used e.avail.0
  unfolding sum_of
  numbers-next {work''} {f'} {l'} {c'} {n'} same'' frame'' ef el ec en =
      let d : done m R W (suc j) ≡ done m R W j ++ (j ∷ []) = done_next m R W j a touched in
      let old : List ℕ = (column_at (before adding m R W) j).counts in
      let new : List ℕ = (column_at (after adding m R W) j).counts in
      let ks : length (chain next avail) ≡ length p.taken + length (chain next e.avail.0) = ap length p.free-parts ∙ length-append p.taken (chain next e.avail.0) in
      let q : used + (e.used - used) ≡ e.used = omega arith in
      let r : region work'' (8 * m) e.used ≡ region work (8 * m) used ++ plan_part m work' used e.used =
      ap (region work'' (8 * m)) (sym q) ∙ region-join work'' (8 * m) used (e.used - used) ∙
      ap (λ (x : List ℕ). x ++ region work'' (8 * m + used) (e.used - used))
      (region-same work work'' (8 * m) used (same'' ∙ same) (λ i x. frame'' (8 * m + i) (omega arith) (omega arith) ∙ frame (8 * m + i) (omega arith) (omega arith))) ∙
      ap (λ (x : List ℕ). region work (8 * m) used ++ x)
      (region-same work' work'' (8 * m + used) (e.used - used) same'' (λ i x. frame'' (8 * m + used + i) (omega arith) (omega arith))) in
      let kinds : of_kind 1 (region work'' (8 * m) e.used) ≡ of_kind 1 (region work (8 * m) used) + of_kind 1 (plan_part m work' used e.used) =
      ap (of_kind 1) r ∙ kind-append 1 (region work (8 * m) used) (plan_part m work' used e.used) in
      record {
        first-is = ef ∙ ap (λ (x : ℕ). pick (eqb x 0) j x) h.first-is ∙ sym (ap first_of d ∙ first_more (done m R W j) j (λ x y. (done-in m R W j a y).0));
        last-is = el ∙ sym (ap (last_of 0) d ∙ last-append 0 (done m R W j) j);
        count-is = ec ∙ omega (arith, h.count-is, ap length d, length-append (done m R W j) (j ∷ []));
        entries-is = en ∙ omega (
          arith,
          h.entries-is,
          p.larger,
          ap (entries_of (before adding m R W) (after adding m R W)) d,
          entries-append (before adding m R W) (after adding m R W) (done m R W j) (j ∷ []),
        );
        linked = p.free;
        taken = omega (arith, h.taken, kinds, ks, p.taken-size);
        room = omega (
          arith,
          h.room,
          ks,
          p.taken-size,
          plan-size adding,
          ap length p.entries,
          part_length,
          ap (of_kind 1) p.entries,
          ap (size_sum_of (before adding m R W)) d,
          sizes-append (before adding m R W) (done m R W j) (j ∷ []),
        );
        grown = λ z. omega (
          arith,
          h.grown z,
          kinds,
          ap (of_kind 1) p.entries,
          plan-grows adding z,
          ap (size_sum_of (before adding m R W)) d,
          sizes-append (before adding m R W) (done m R W j) (j ∷ []),
          ap (size_sum_of (after adding m R W)) d,
          sizes-append (after adding m R W) (done m R W j) (j ∷ []),
        );
      }
    where
      plan-grows : (z : Bool) → z ≡ true → size_of (column_at (after z m R W) j) ≡
          size_of (column_at (before z m R W) j) + of_kind 1 (plan_from 1 (column_at (before z m R W) j).counts (column_at (after z m R W) j).counts)
      plan-grows true e = column-grows m R W j a b narrow few
      plan-grows false e = absurd (false≢true e)

      plan-size : (z : Bool) → length (plan_from 1 (column_at (before z m R W) j).counts (column_at (after z m R W) j).counts) ≤
          size_of (column_at (before z m R W) j) + of_kind 1 (plan_from 1 (column_at (before z m R W) j).counts (column_at (after z m R W) j).counts)
      plan-size true =
          let k = column-counts m R W j a b narrow few in
          plan-length 1 (column_at (smaller m R) j).counts (column_at (larger m R W) j).counts (omega arith) (omega (arith, k.less-long)) k.more-small
      plan-size false =
          let k = column-counts m R W j a b narrow few in
          plan-length 1 (column_at (larger m R W) j).counts (column_at (smaller m R) j).counts (omega arith) (omega (arith, k.more-long)) k.less-small

      part_length : e.used - used ≤ length (plan_part m work' used e.used)
      part_length = omega (arith, region-length work' (8 * m + used) (e.used - used) (omega arith))
