-- The factor records of a call: F = 0 at an opening is the default named (`default-same`), which is in range (`default-in`), any other F is kept
-- (`named-same`); openings that get the same sizes do the same in all (`same-opening`); tables too short for them are 5 (`short-early`), 0 in a record is 3
-- (`zero-early`), and nothing lent changes (`early-refused`).
-- Assumes nothing.
use mathlib.Core.Path.{◌≡◌, refl, sym, ap, ◌∙◌}
use mathlib.Core.Logic.{inl, inr, ◌≢◌}
use mathlib.Core.Bool.{Bool, true, false, ◌&&◌, true≢false}
use mathlib.Core.List.{List}
use Prim.Native.Nat.{ℕ}
use native.Mathlib.Omega.{arith}
use lib.Dec.{leb, eqb}
use lib.ListN.{length}
use borrow.Author.Tests.{ne_eqb}
use Rattle.lists.specs.Lists.{pick, is_in}
use Rattle.lists.proofs.Tests.{refute, in-range, range-in}
use Rattle.symbolic.specs.Grades.{Limits, limits_for, are_limits}
use Rattle.workspace.specs.Regions.{zero_first}
use Rattle.tables.specs.Tables.{Tables, Sizes, State, sizes_of, long_enough}
use Rattle.tables.specs.Opening.{opened_state, opened_tables}
use Rattle.calls.specs.Refusals.{Refusal, refusal, accepted, is_accepted, or_else, unless, bounds, sizes_refusal, limits_refusal, work_for, short_refusal, early_refusal}
use Rattle.calls.specs.Calls.{opening, Lent, with_work, Call, call_of, is_opening, default_records, with_default, sizes_after}
use Rattle.calls.specs.Numbers.{call_early, refusal_of}
use Rattle.calls.specs.Steps.{Answer, refused_by, lists_after, work_after, World, booked_in, Transition}
use Rattle.calls.proofs.Choices.{or-first, or-second}
use Rattle.calls.proofs.Numbers.{sizes-stay}
use Rattle.calls.proofs.Steps.{step-cases, accepted-step, refused-step}

-- ---- the sizes that an opening gets

pub default-same : (m n c : ℕ) → with_default (sizes_of m n 0 c) ≡ with_default (sizes_of m n (default_records m) c)
default-same m n c = ap (λ (f : ℕ). sizes_of m n f c) (sym (either (eqb (default_records m) 0)))
  where
    either : (b : Bool) → pick b (default_records m) (default_records m) ≡ default_records m
    either true = refl
    either false = refl

pub named-same : (l : Sizes) → l.f ≢ 0 → with_default l ≡ l
named-same l d = ap (λ (b : Bool). sizes_of l.m l.n (pick b (default_records l.m) l.f) l.c) (ne_eqb l.f 0 d)

-- the default is in range for every m that is
pub default-in : (m : ℕ) → is_in 1 bounds.m m ≡ true → is_in m bounds.f (default_records m) ≡ true
default-in m h = range-in m 1048576 (default_records m) (omega (arith, in-range 1 4096 m h)) (omega (arith, in-range 1 4096 m h))

-- ---- two openings that get the same sizes

module _ (u : World) (l k : Sizes) (g : Limits) (w : Lent) (e : with_default l ≡ with_default k) where
  number_same : refusal_of u.state u.tables (call_of (opening l g) w) ≡ refusal_of u.state u.tables (call_of (opening k g) w)
  number_same = ap (λ (d : Sizes). or_else (early_refusal d (are_limits (limits_for g)) u.tables w.work true) accepted) e

  work-same : work_after u.state.sizes u.tables (call_of (opening l g) w) ≡ work_after u.state.sizes u.tables (call_of (opening k g) w)
  work-same =
      ap (λ (d : Sizes). pick (is_accepted (early_refusal d (are_limits (limits_for g)) u.tables w.work true)) (zero_first (work_for d) w.work) w.work) e

  pub same-opening : (a : Answer) (x : Lent) (v : World) → Transition u (call_of (opening l g) w) a x v → Transition u (call_of (opening k g) w) a x v
  same-opening a x v s =
      elim (step-cases u (call_of (opening l g) w) a x v s) [
        | inl t ↦
            accepted-step u (call_of (opening k g) w) a x v
            (record {
              number = ap is_accepted (sym number_same) ∙ t.number;
              answer = t.answer;
              lists = t.lists ∙ ap (λ (z : List ℕ). lists_after (booked_in u) (call_of (opening k g) w) z) work-same;
              world = (t.world.0 ∙ ap (λ (d : Sizes). opened_state d (limits_for g)) e, t.world.1 ∙ ap (λ (d : Sizes). opened_tables d u.tables) e);
            })
        | inr t ↦
            refused-step u (call_of (opening k g) w) a x v
            (record {
              number = ap is_accepted (sym number_same) ∙ t.number;
              answer = t.answer ∙ ap refused_by number_same;
              lists = t.lists ∙ ap (λ (z : List ℕ). with_work w z) work-same;
              world = t.world;
            })
      ]

-- ---- refused by 1 to 5 or 20

-- such a call leaves everything lent as it was, the work table too
pub early-refused : (u : World) (k : Call) (a : Answer) (x : Lent) (v : World) → Transition u k a x v → (r : Refusal) →
    call_early u.state.sizes u.tables k ≡ r → is_accepted r ≡ false → (a ≡ refused_by r) × (x ≡ k.lent) × (v ≡ u)
early-refused u k a x v s r e d =
    let y : Refusal = call_early u.state.sizes u.tables k in
    let n : is_accepted y ≡ false = ap is_accepted e ∙ d in
    let q : refusal_of u.state u.tables k ≡ r = or-first y _ n ∙ e in
    let w : List ℕ = k.lent.work in
    elim (step-cases u k a x v s) [
      | inl t ↦ absurd (true≢false (sym t.number ∙ ap is_accepted q ∙ d))
      | inr t ↦ (
        t.answer ∙ ap refused_by q,
        t.lists ∙ ap (λ (z : Bool). with_work k.lent (pick z (zero_first (work_for (sizes_after u.state.sizes k.entry)) w) w)) n,
        t.world,
      )
    ]

-- 5 of an opening whose sizes and limits pass
pub short-early : (l : Sizes) (t : Tables) (g : Limits) (w : Lent) (h : Sizes) → sizes_refusal bounds (with_default l) ≡ accepted → are_limits (limits_for g) ≡ true →
    is_accepted (short_refusal (with_default l) t w.work) ≡ false → call_early h t (call_of (opening l g) w) ≡ refusal 5 0
short-early l t g w h sizes rule short =
    let y : Refusal = short_refusal (with_default l) t w.work in
    or-second (sizes_refusal bounds (with_default l)) _ (ap is_accepted sizes) ∙ ap (λ (z : Bool). or_else (limits_refusal z) (or_else y accepted)) rule ∙
    or-first y accepted short ∙ five (long_enough (with_default l) t && leb (work_for (with_default l)) (length w.work)) short
  where
    five : (b : Bool) → is_accepted (unless b 5 0) ≡ false → unless b 5 0 ≡ refusal 5 0
    five true e = absurd (true≢false e)
    five false e = refl

-- an opening whose F is in range where its m is has another number than 3
pub no-three : (s : State) (t : Tables) (l : Sizes) (g : Limits) (w : Lent) → (is_in 1 bounds.m l.m ≡ true → is_in l.m bounds.f (with_default l).f ≡ true) →
    (refusal_of s t (call_of (opening l g) w)).number ≢ 3
no-three s t l g w =
    let d : Sizes = with_default l in
    tests (is_in 1 4096 d.m) (is_in 1 16384 d.n) (is_in d.m 1048576 d.f) (is_in 1 262144 d.c) (are_limits (limits_for g))
    (long_enough d t && leb (work_for d) (length w.work))
  where
    tests : (m n f c r s : Bool) → (m ≡ true → f ≡ true) →
        (or_else (or_else (or_else (unless m 1 0) (or_else (unless n 2 0) (or_else (unless f 3 0) (unless c 4 0)))) (or_else (unless r 20 0) (or_else (unless s 5 0) accepted))) accepted).number ≢ 3
    tests false n f c r s h e = omega (arith, e)
    tests true false f c r s h e = omega (arith, e)
    tests true true false c r s h e = true≢false (sym (h refl))
    tests true true true false r s h e = omega (arith, e)
    tests true true true true false s h e = omega (arith, e)
    tests true true true true true false h e = omega (arith, e)
    tests true true true true true true h e = omega (arith, e)

-- 3 of any other call where the record's F is 0
pub zero-early : (l : Sizes) (t : Tables) (k : Call) → is_opening k.entry ≡ false → is_in 1 bounds.m l.m ≡ true → is_in 1 bounds.n l.n ≡ true →
    l.f ≡ 0 → call_early l t k ≡ refusal 3 0
zero-early l t k o m-in n-in e =
    let j : Sizes = sizes_after l k.entry in
    let f-out : is_in l.m 1048576 l.f ≡ false =
    refute (is_in l.m 1048576 l.f) (λ z. omega (arith, e, in-range 1 4096 l.m m-in, in-range l.m 1048576 l.f z)) in
    let r : sizes_refusal bounds l ≡ refusal 3 0 = rw (m-in, n-in, f-out) refl in
    let sizes : sizes_refusal bounds j ≡ refusal 3 0 = ap (sizes_refusal bounds) (sizes-stay l k.entry o) ∙ r in
    or-first (sizes_refusal bounds j) _ (ap is_accepted sizes) ∙ sizes
