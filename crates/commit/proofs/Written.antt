-- From what the two passes and the last clearing leave to `PlanWritten`: what they ask of a plan that can be written (`can-commits`, `can-parents`), the work
-- table as it was before the plan, and each column, planned or not, as the new factor has it (`written`). Assumes nothing.
use mathlib.Core.Path.{◌≡◌, refl, sym, ap, ◌∙◌, subst}
use mathlib.Core.Logic.{◌⊎◌, inl, inr}
use mathlib.Core.Bool.{true}
use mathlib.Core.List.{List}
use Prim.Native.Nat.{ℕ, ◌+◌, ◌-◌, ◌*◌, ◌≤◌, ◌<◌}
use native.Mathlib.Omega.{arith}
use lib.ListN.{length, get_or}
use Rattle.lists.specs.Lists.{Mem, among, at, times, rises, values_at, all_zero}
use Rattle.lists.proofs.Tests.{cases, and_both, both-and}
use Rattle.lists.proofs.Member.{among-mem}
use Rattle.lists.proofs.Times.{times-mem, mem-times, none-among}
use Rattle.lists.proofs.Rising.{rises-in}
use Rattle.symbolic.specs.Columns.{Column}
use Rattle.symbolic.specs.Factor.{FactorColumn, factor_of, column_at, parent_of}
use Rattle.symbolic.proofs.Build.{laws}
use Rattle.symbolic.proofs.Laws.{diagonal-in}
use Rattle.workspace.specs.Regions.{cleared}
use Rattle.workspace.proofs.Regions.{table-ext, place-cases, zero-at, cleared-length, cleared-zero, cleared-outside}
use Rattle.pool.specs.Chains.{chain}
use Rattle.tables.specs.Stored.{Stored, Sized, is_sound_for, stored_of}
use Rattle.tables.proofs.Stored as stored
use Rattle.tables.proofs.Revised.{revised-sound}
use Rattle.columns.specs.Commit.{Holds, Ready, ChainStays}
use Rattle.columns.proofs.Stored.{stays-holds, held-keep}
use Rattle.updown.specs.Plans.{PlansFrom}
use Rattle.workspace.specs.Layout.{plan_at}
use Rattle.commit.specs.Writes.{CanWrite, PlanWritten}
use Rattle.commit.specs.Passes.{put_all, wiped, CanCommitPlans, PlansCommitted, CanWriteParents, ParentsWritten}
use Rattle.commit.proofs.Wiped.{PlaceOf, all-length, all-other, all-at, wiped-length, wiped-cases}

-- sound stored columns are ready for commits
pub sound-ready : (cs : List Column) (s : Stored) → Sized s → is_sound_for cs s ≡ true → Ready s
sound-ready cs s z h =
    let f : stored.SoundFor cs s = stored.sound-facts cs s h in record { sized = z; pool = f.pool; zero = both-and f.zero-rows f.zero-counts }

module _ {s : Stored} {cs ds : List Column} {label : ℕ → ℕ} {columns before work : List ℕ} {first count entries used : ℕ}
    (can : CanWrite s cs ds label columns before work first count entries used) where
  abbrev m : ℕ
  m = length s.heads

  abbrev L : List FactorColumn
  L = factor_of m cs

  abbrev L' : List FactorColumn
  L' = factor_of m ds

  held : (j : ℕ) → 1 ≤ j → j ≤ m → stored.Holds s j (column_at L j)
  held j a b = (stored.sound-facts cs s can.sound).column j a b

  holds-before : (j : ℕ) → 1 ≤ j → j ≤ m → Holds s j (column_at L j).counts
  holds-before j a b = record { rows = (held j a b).rows; counts = (held j a b).counts }

  -- ---- what the passes ask

  pub can-commits : CanCommitPlans s L L' label columns work first used
  can-commits =
      record {
        ready = sound-ready cs s can.sized can.sound;
        m-bound = can.m-bound;
        rising = can.rising;
        first-is = can.plan.first-is;
        plans = can.plan.plans;
        long = omega (arith, can.long, can.plan.same_length, can.plan.room);
        room = omega (arith, can.plan.new-fit, can.free-enough);
        holds = holds-before;
        below = λ i j a b c. (laws m cs).below i j a b c;
        diagonal = λ j a b. (diagonal-in (laws m cs) j a b, diagonal-in (laws m ds) j a b);
      }

  pub can-parents : CanWriteParents L L' label columns s.parents work first used
  can-parents =
      let e : length s.parents ≡ m = can.sized.parents-long in
      record {
        m-bound = omega (arith, can.m-bound);
        rising = subst (λ (n : ℕ). rises 1 n columns ≡ true) (sym e) can.rising;
        first-is = can.plan.first-is;
        plans = subst (λ (n : ℕ). PlansFrom n L L' label work columns 0 used) (sym e) can.plan.plans;
        long = omega (arith, can.long, can.plan.same_length);
      }

  -- ---- the work table

  within : (j : ℕ) → Mem j columns → (1 ≤ j) × (j ≤ m)
  within j h = rises-in {x = j} 1 m h can.rising

  place-low : (k : ℕ) → PlaceOf m columns k → k < plan_at m
  place-low k p = low p.0 (within p.0 p.1.0) p.1.1
    where
      low : (j : ℕ) → (1 ≤ j) × (j ≤ m) → (k ≡ 3 * m + (j - 1)) ⊎ ((k ≡ 4 * m + (j - 1)) ⊎ (k ≡ 5 * m + (j - 1))) → k < plan_at m
      low j b (inl e) = omega arith
      low j b (inr (inl e)) = omega arith
      low j b (inr (inr e)) = omega arith

  pub clear-fits : plan_at m + used ≤ length work
  clear-fits = can-commits.long

  work-back : cleared (wiped m columns work) (plan_at m) used ≡ before
  work-back =
      let w : List ℕ = wiped m columns work in
      let n : length w ≡ length work = wiped-length m columns work in
      let fits : plan_at m + used ≤ length w = omega (arith, clear-fits) in
      let zero : (k : ℕ) → k < plan_at m + used → get_or before k 0 ≡ 0 =
      λ k l. zero-at before 0 (8 * m + length s.next) k can.zero (omega arith) (omega (arith, can.plan.room)) in
      table-ext before (cleared w (plan_at m) used) (cleared-length w (plan_at m) used fits ∙ n ∙ can.plan.same_length) (λ k.
      elim (place-cases (plan_at m) used k) [
        | inr t ↦ subst (λ (p : ℕ). get_or (cleared w (plan_at m) used) p 0 ≡ get_or before p 0) (sym t.2)
            (cleared-zero w (plan_at m) used fits t.0 t.1 ∙ sym (zero (plan_at m + t.0) (omega (arith, t.1))))
        | inl o ↦ cleared-outside w (plan_at m) used fits k o ∙
            elim (wiped-cases m columns work k within (omega (arith, clear-fits))) [
              | inl t ↦ t.1 ∙ sym (zero k (omega (arith, place-low k t.0)))
              | inr t ↦ t.1 ∙ can.plan.clean k (λ p. elim p [
                | inl q ↦ t.0 q
                | inr q ↦ elim o [ inl l ↦ omega arith | inr l ↦ omega arith ]
              ])
            ]
      ])

  -- ---- the stored columns

  module _ {rows counts next parents : List ℕ} {free : ℕ} (c : PlansCommitted s L' columns (stored_of s.heads s.parents rows counts next free))
      (p : parents ≡ put_all (parent_of L') columns s.parents) where
    abbrev after : Stored
    after = stored_of s.heads parents rows counts next free

    abbrev between : Stored
    between = stored_of s.heads s.parents rows counts next free

    parent_in : (j : ℕ) → 1 ≤ times j columns → at parents j ≡ parent_of L' j
    parent_in j h =
        ap (λ (l : List ℕ). at l j) p ∙
        all-at (parent_of L') columns s.parents j (λ x k.
        let b : (1 ≤ x) × (x ≤ m) = within x (times-mem x columns k) in (b.0, omega (arith, b.1, can.sized.parents-long))) h

    parent-off : (j : ℕ) → 1 ≤ j → times j columns ≡ 0 → at parents j ≡ at s.parents j
    parent-off j a z =
        ap (λ (l : List ℕ). at l j) p ∙ all-other (parent_of L') columns s.parents j (λ x k. (within x (times-mem x columns k)).0) a z

    column-after : (j : ℕ) → 1 ≤ j → j ≤ m → stored.Holds after j (column_at L' j)
    column-after j a b =
        elim (cases (among j columns)) [
          | inl t ↦
              let h : 1 ≤ times j columns = mem-times (among-mem j columns t) in
              record { rows = (c.holds j h).rows; counts = (c.holds j h).counts; parent = parent_in j h }
          | inr t ↦
              let z : times j columns ≡ 0 = none-among j columns t in
              let h : Holds between j (column_at L j).counts = stays-holds (c.others j a b z) (holds-before j a b) in
              subst (λ (f : FactorColumn). stored.Holds after j f) (can.off j a b t)
              (record { rows = h.rows; counts = h.counts; parent = parent-off j a z ∙ (held j a b).parent })
        ]

    pub written : {work' work'' : List ℕ} → ParentsWritten L' columns s.parents work parents work' → work'' ≡ cleared work' (plan_at m) used →
        PlanWritten s ds columns before after work''
    written {work'} {work''} r e =
        let z : (all_zero (values_at rows (chain next free)) ≡ true) × (all_zero (values_at counts (chain next free)) ≡ true) =
        and_both (all_zero (values_at rows (chain next free))) (all_zero (values_at counts (chain next free))) c.ready.zero in
        record {
          sized = record {
            parents-long = ap length p ∙ all-length (parent_of L') columns s.parents ∙ can.sized.parents-long;
            rows_long = c.ready.sized.rows_long;
            counts-long = c.ready.sized.counts-long;
          };
          heads = refl;
          sound = revised-sound ds after m refl c.ready.pool z.0 z.1 column-after;
          others = λ j a b t.
              let n : times j columns ≡ 0 = none-among j columns t in
              let d : ChainStays s between j = c.others j a b n in
              record { head = refl; parent = parent-off j a n; records = d.records; row = d.row; count = d.count; next = d.next };
          keep = λ j a b. elim (cases (among j columns)) [
            | inl t ↦ c.keep j (mem-times (among-mem j columns t))
            | inr t ↦ held-keep (c.others j a b (none-among j columns t)) (holds-before j a b)
          ];
          work-is = e ∙ ap (λ (w : List ℕ). cleared w (plan_at m) used)
              (r.work-is ∙ ap (λ (n : ℕ). wiped n columns work) can.sized.parents-long) ∙ work-back;
        }
