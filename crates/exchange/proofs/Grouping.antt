-- One group, planned, gathered and written: what gathering asks (`can-gather`), what writing asks of the gathered plan (`can_write`), and that the group is done
-- (`group-done`). The table before the plan is taken with the gathered places (`spliced`). Assumes nothing.
use mathlib.Core.Path.{◌≡◌, sym, ap, ◌∙◌, subst}
use mathlib.Core.Logic.{inl, inr}
use mathlib.Core.Bool.{Bool, true, false}
use mathlib.Core.List.{List, ◌++◌}
use Prim.Native.Nat.{ℕ, suc, ◌+◌, ◌*◌, ◌-◌, ◌≤◌, ◌<◌}
use native.Mathlib.Omega.{arith}
use lib.Dec.{eqb}
use lib.ListN.{length, get_or, take, drop, length-append, length-take, length-drop, get_or-append}
use lib.Seq.{get_or-take, get_or-drop, get_or-append-add, length-take-le}
use borrow.Author.Tests.{eq-eqb, ne_eqb}
use Rattle.lists.specs.Lists.{pick, Mem, at, among, times, rises}
use Rattle.lists.proofs.Tests.{cases, lt-or-le, zero-or-pos}
use Rattle.lists.proofs.Rising.{rises-in, rises-length}
use Rattle.lists.proofs.Times.{mem-times, none-among}
use Rattle.lists.proofs.Member.{among-mem}
use Rattle.symbolic.specs.Columns.{Column}
use Rattle.symbolic.specs.Factor.{factor_of, column_at, pattern_of, size_of}
use Rattle.symbolic.proofs.Patterns.{pattern-within-rows}
use Rattle.workspace.specs.Regions.{cell, region, IsZero, OnlyIn}
use Rattle.workspace.specs.Layout.{spare, gather_at}
use Rattle.workspace.specs.Parts.{upper_weight, lower_part, upper_part}
use Rattle.workspace.proofs.Regions.{region-length, region-cell, only_zero}
use Rattle.pool.specs.Chains.{chain}
use Rattle.pool.proofs.Whole.{all-at}
use Rattle.tables.specs.Stored.{Stored, Sized, records_of, is_sound_for}
use Rattle.tables.proofs.Stored.{sound-facts}
use Rattle.tables.proofs.Reading.{holds-size}
use Rattle.updown.specs.Plans.{InPlan, PlanIs}
use Rattle.updown.specs.Entries.{plan_need}
use Rattle.commit.specs.Gather as commit
use Rattle.commit.specs.Writes.{CanWrite, SomeWrite, PlanWritten, WrittenAll}
use Rattle.commit.proofs.Beside.{plan-beside}
use Rattle.exchange.specs.Stages.{gathered_in, Gathers, GroupDone}
use Rattle.exchange.proofs.Small.{rows-room}

-- ---- a table with the places of another in a region

abbrev pub spliced : (w x : List ℕ) (a n : ℕ) → List ℕ
spliced w x a n = take a w ++ (region x a n ++ drop (a + n) w)

module _ (w x : List ℕ) (a n : ℕ) (same : length x ≡ length w) (fits : a + n ≤ length w) where
  front : length (take a w) ≡ a
  front = length-take-le a w (omega arith)

  middle : length (region x a n) ≡ n
  middle = region-length x a n (omega arith)

  past-front : (k : ℕ) → get_or (spliced w x a n) (a + k) 0 ≡ get_or (region x a n ++ drop (a + n) w) k 0
  past-front k =
      subst (λ (p : ℕ). get_or (spliced w x a n) (p + k) 0 ≡ get_or (region x a n ++ drop (a + n) w) k 0) front
      (get_or-append-add (take a w) (region x a n ++ drop (a + n) w) k 0)

  pub spliced-cell : (i : ℕ) → i < n → cell (spliced w x a n) a i ≡ cell x a i
  spliced-cell i h = past-front i ∙ get_or-append (region x a n) (drop (a + n) w) 0 i (omega (arith, middle)) ∙ region-cell x a n i h

  pub spliced-only : OnlyIn a n w (spliced w x a n)
  spliced-only =
      record {
        same_length = simp (length-append, length-take, length-drop) (omega (arith, middle));
        outside = λ k s. elim s [
          | inl h ↦ get_or-append (take a w) (region x a n ++ drop (a + n) w) 0 k (omega (arith, front)) ∙ get_or-take a w k 0 h
          | inr h ↦
              let j : ℕ = k - (a + n) in
              let p : a + (n + j) ≡ k = omega arith in
              let q : a + n + j ≡ k = omega arith in
              let past : get_or (region x a n ++ drop (a + n) w) (n + j) 0 ≡ get_or w (a + n + j) 0 =
              subst (λ (l : ℕ). get_or (region x a n ++ drop (a + n) w) (l + j) 0 ≡ get_or w (a + n + j) 0) middle
              (get_or-append-add (region x a n) (drop (a + n) w) j 0 ∙ get_or-drop (a + n) w j 0) in
              subst (λ (t : ℕ). get_or (spliced w x a n) t 0 ≡ get_or w k 0) p (past-front (n + j) ∙ past ∙ ap (λ (t : ℕ). get_or w t 0) q)
        ];
      }

-- ---- a place of gathering, before and after

-- a column that is planned
gathered-one : (x y n : ℕ) → (x < upper_weight → y ≡ x + upper_weight * (1 + n)) → (upper_weight ≤ x → y ≡ x) →
    (lower_part y ≡ lower_part x) × (upper_part y ≡ pick (eqb (upper_part x) 0) (1 + n) (upper_part x))
gathered-one x y n g h =
    elim (lt-or-le x upper_weight) [
      | inl l ↦ let e : y ≡ x + upper_weight * (1 + n) = g l in
          let z : upper_part x ≡ 0 = omega arith in
          (omega arith, rw (eq-eqb (upper_part x) 0 z) (omega arith))
      | inr l ↦ let e : y ≡ x = h l in
          let z : upper_part x ≡ 0 → ⊥ = λ q. omega arith in
          (omega arith, rw (ne_eqb (upper_part x) 0 z) (omega arith))
    ]

-- one that is not
gathered_none : (x y n : ℕ) → y ≡ x → (lower_part y ≡ lower_part x) × (upper_part y ≡ pick (eqb (upper_part x) 0) 0 (upper_part x))
gathered_none x y n e =
    elim (zero-or-pos (upper_part x)) [
      | inl z ↦ (omega arith, rw (eq-eqb (upper_part x) 0 z) (omega arith))
      | inr l ↦ let z : upper_part x ≡ 0 → ⊥ = λ q. omega arith in (omega arith, rw (ne_eqb (upper_part x) 0 z) (omega arith))
    ]

-- ---- one group

-- a group planned from columns cs to ds: it touches the planned columns, and the others are the same
pub record Planned (s : Stored) (cs ds : List Column) (label : ℕ → ℕ) (touches : ℕ → Bool) (columns work planned : List ℕ) (first count entries used : ℕ) : Type 0 where
  pub sized : Sized s
  pub sound : is_sound_for cs s ≡ true
  pub m-bound : length s.heads ≤ 4096
  pub long : plan_need (length s.heads) (length s.next) ≤ length work
  pub zero : IsZero work 0 (spare (length s.heads) (length s.next))
  pub free : ℕ
  pub free-enough : free ≤ length (chain s.next s.free)
  pub plan : PlanIs (length s.heads) (length s.next) free (factor_of (length s.heads) cs) (factor_of (length s.heads) ds) label columns work planned first count entries used
  pub rising : rises 1 (length s.heads) columns ≡ true
  pub touched-is : (j : ℕ) → 1 ≤ j → j ≤ length s.heads → among j columns ≡ touches j
  pub off : (j : ℕ) → 1 ≤ j → j ≤ length s.heads → touches j ≡ false → column_at (factor_of (length s.heads) cs) j ≡ column_at (factor_of (length s.heads) ds) j

module _ {s : Stored} {cs ds : List Column} {label : ℕ → ℕ} {touches : ℕ → Bool} {columns work planned : List ℕ} {first count entries used : ℕ}
    (g : Planned s cs ds label touches columns work planned first count entries used) where
  abbrev m : ℕ
  m = length s.heads

  abbrev f : ℕ
  f = length s.next

  abbrev start : ℕ
  start = gather_at (length s.heads) (length s.next)

  room : m ≤ f
  room = rows-room cs s g.sound

  inside : start + m ≤ length work
  inside = omega (arith, g.long, room)

  -- ---- gathering

  can-count : (j : ℕ) → 1 ≤ j → j ≤ m → commit.CanCount s.next (at s.heads j)
  can-count j a b =
      let k = sound-facts cs s g.sound in
      let n : length (records_of s j) ≡ size_of (column_at (factor_of m cs) j) = holds-size (k.column j a b) in
      record {
        linked = all-at s.next s.heads j a b k.pool.linked;
        short = omega (arith, rises-length 1 m (pattern_of (column_at (factor_of m cs) j)) (omega arith) (pattern-within-rows m cs j a b), g.m-bound);
      }

  pub can-gather : commit.CanGatherColumns s.heads s.next (factor_of (length s.heads) cs) (factor_of (length s.heads) ds) label columns planned (gather_at (length s.heads) (length s.next)) first used
  can-gather =
      record {
        m-bound = g.m-bound;
        counts = can-count;
        rising = g.rising;
        first-is = g.plan.first-is;
        plans = g.plan.plans;
        apart = omega arith;
        long = omega (arith, inside, g.plan.same_length);
      }

  pub some-gather : commit.SomeGatherColumns s.heads s.next planned (gather_at (length s.heads) (length s.next)) first
  some-gather = record { L = factor_of m cs; L' = factor_of m ds; label = label; columns = columns; used = used; can = can-gather }

  -- the places of gathering are none of the plan's
  within : (j : ℕ) → Mem j columns → (1 ≤ j) × (j ≤ m)
  within j h = rises-in {x = j} 1 m h g.rising

  not-planned : (i : ℕ) → InPlan m used columns (start + i) → ⊥
  not-planned i (inl (j, (h, inl e))) = let b : (1 ≤ j) × (j ≤ m) = within j h in omega arith
  not-planned i (inl (j, (h, inr (inl e)))) = let b : (1 ≤ j) × (j ≤ m) = within j h in omega arith
  not-planned i (inl (j, (h, inr (inr e)))) = let b : (1 ≤ j) × (j ≤ m) = within j h in omega arith
  not-planned i (inr h) = omega (arith, g.plan.room)

  planned-same : (i : ℕ) → cell planned start i ≡ cell work start i
  planned-same i = g.plan.clean (start + i) (not-planned i)

  -- ---- writing

  module _ {gathered : List ℕ} (x : commit.ColumnsGathered s.heads s.next columns (gather_at (length s.heads) (length s.next)) planned gathered) where
    abbrev before : List ℕ
    before = spliced work gathered start m

    same-long : length gathered ≡ length work
    same-long = x.only.same_length ∙ g.plan.same_length

    before-only : OnlyIn start m work before
    before-only = spliced-only work gathered start m same-long inside

    before-cell : (i : ℕ) → i < m → cell before start i ≡ cell gathered start i
    before-cell = spliced-cell work gathered start m same-long inside

    pub can_write : CanWrite s cs ds label columns (spliced work gathered (gather_at (length s.heads) (length s.next)) (length s.heads)) gathered first count entries used
    can_write =
        record {
          sized = g.sized;
          sound = g.sound;
          m-bound = g.m-bound;
          free = g.free;
          free-enough = g.free-enough;
          plan = plan-beside g.plan g.rising (omega (arith, g.plan.room)) x.only before-only (λ i h. sym (before-cell i h));
          zero = only_zero before-only 0 (spare m f) (inr (omega arith)) g.zero;
          long = omega (arith, g.long, before-only.same_length);
          rising = g.rising;
          off = λ j a b h. g.off j a b (sym (g.touched-is j a b) ∙ h);
        }

    pub some-write : SomeWrite s gathered first used
    some-write = record { cs = cs; ds = ds; label = label; columns = columns; before = before; count = count; entries = entries; can = can_write }

    -- what was gathered, place by place
    place_after : (j : ℕ) → 1 ≤ j → j ≤ m →
        (lower_part (cell gathered start (j - 1)) ≡ lower_part (cell work start (j - 1))) ×
        (upper_part (cell gathered start (j - 1)) ≡ pick (eqb (gathered_in m f work j) 0) (pick (touches j) (1 + length (records_of s j)) 0) (gathered_in m f work j))
    place_after j a b =
        let o : ℕ = cell work start (j - 1) in
        let n : ℕ = cell gathered start (j - 1) in
        let e : cell planned start (j - 1) ≡ o = planned-same (j - 1) in
        elim (cases (among j columns)) [
          | inl t ↦
              let k : 1 ≤ times j columns = mem-times (among-mem j columns t) in
              let q : touches j ≡ true = sym (g.touched-is j a b) ∙ t in
              let r : (lower_part n ≡ lower_part o) × (upper_part n ≡ pick (eqb (upper_part o) 0) (1 + length (records_of s j)) (upper_part o)) =
              gathered-one o n (length (records_of s j)) (λ l. x.fresh j k (omega arith) ∙ ap (λ (z : ℕ). z + upper_weight * (1 + length (records_of s j))) e)
              (λ l. x.kept j k (omega arith) ∙ e) in
              (r.0, r.1 ∙ ap (λ (z : Bool). pick (eqb (upper_part o) 0) (pick z (1 + length (records_of s j)) 0) (upper_part o)) (sym q))
          | inr t ↦
              let q : touches j ≡ false = sym (g.touched-is j a b) ∙ t in
              let r : (lower_part n ≡ lower_part o) × (upper_part n ≡ pick (eqb (upper_part o) 0) 0 (upper_part o)) =
              gathered_none o n 0 (x.others j a b (none-among j columns t) ∙ e) in
              (r.0, r.1 ∙ ap (λ (z : Bool). pick (eqb (upper_part o) 0) (pick z (1 + length (records_of s j)) 0) (upper_part o)) (sym q))
        ]

    before-gathers : Gathers m f touches (λ j. length (records_of s j)) work before
    before-gathers =
        record {
          only = before-only;
          low = λ i h.
              let q : suc i - 1 ≡ i = omega arith in
              ap lower_part (before-cell i h) ∙
              subst (λ (k : ℕ). lower_part (cell gathered start k) ≡ lower_part (cell work start k)) q (place_after (suc i) (omega arith) (omega arith)).0;
          counts = λ j a b. ap upper_part (before-cell (j - 1) (omega arith)) ∙ (place_after j a b).1;
        }

    pub group-done : {after : Stored} {work' : List ℕ} → WrittenAll s gathered first used after work' → length after.next ≡ length s.next →
        GroupDone (length s.heads) (length s.next) s touches ds after work work'
    group-done {after} {work'} y l =
        let w : PlanWritten s ds columns before after work' = y cs ds label columns before count entries can_write in
        record {
          sized = w.sized;
          heads = w.heads;
          long = l;
          sound = w.sound;
          others = λ j a b h. w.others j a b (g.touched-is j a b ∙ h);
          keep = w.keep;
          gathers = subst (λ (v : List ℕ). Gathers m f touches (λ j. length (records_of s j)) work v) (sym w.work-is) before-gathers;
        }
