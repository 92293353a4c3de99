-- The theorems about calls: a term of each statement of specs/Statements.antt but the example's. What is shown stands in Invariant.antt (what holds
-- between calls), Steps.antt (that each call keeps it, and answers by the register), Clock.antt (windows and the clock), Openings.antt (the factor records of an opening), Asking.antt and
-- Walking.antt (what an accepted question answers on any tables).
-- Assumes nothing.
use mathlib.Core.Path.{◌≡◌, refl, sym, subst}
use mathlib.Core.Bool.{false}
use mathlib.Core.List.{[], ◌∷◌}
use Rattle.symbolic.specs.Grades.{Limits}
use Rattle.tables.specs.Tables.{Sizes}
use Rattle.calls.specs.Refusals.{accepted}
use Rattle.calls.specs.Calls.{Entry, opening, Lent, call_of, is_opening}
use Rattle.calls.specs.Numbers.{call_early}
use Rattle.calls.specs.Steps.{Answer, World, Transition}
use Rattle.calls.proofs.Choices.{or-both}
use Rattle.calls.proofs.Numbers.{Ready, early-facts, Found, accepted-found}
use Rattle.calls.proofs.Steps.{Accepted, step-taken, change-of}
use Rattle.history.specs.Runs.{Run, Plain, plain_after, Begun}
use Rattle.history.specs.Statements.{Demand3, RunSplits, plain_of, AnySound, LiveIs, OpeningSound, DefaultNamed, DefaultInRange, DefaultShort, LeftAtZero, NamedKept, ZeroRefused, MeetsStand, CommonLies}
use Rattle.history.proofs.Invariant.{Inv, inv-found, inv-consistent, opened_plain, opened_world, inv-opened}
use Rattle.history.proofs.Steps.{inv-justified, inv-step, inv-run}
use Rattle.history.specs.NextRow.{NextTaken, NextStands, NextIsParent, WalkIsColumn, WalkStays, WalkEnds}
use Rattle.history.proofs.Openings.{default-named as named, default-in-range as in-range, default-short as short, left-at-zero as left, named-kept as kept, zero-refused as refused}
use Rattle.history.proofs.Clock.{live-means}
use Rattle.history.proofs.Asking.{meets-filled, common-answered}
use Rattle.history.proofs.Walking.{next-taken as taken, next-answered, parent-answered, walk-answered, walk-stays as stays, walk_ends as ends}

-- ---- an accepted opening

module _ (u : World) (l : Sizes) (g : Limits) (w : Lent) (a : Answer) (x : Lent) (v : World) (s : Transition u (call_of (opening l g) w) a x v) (n : a.number ≡ 0) where
  opened-inv : Inv (opened_plain l g) v
  opened-inv =
      let t : Accepted u (call_of (opening l g) w) a x v = step-taken u (call_of (opening l g) w) a x v s n in
      let q : v ≡ opened_world l g u.tables = λ j. record { state = t.world.0 j; tables = t.world.1 j } in
      let r : Ready u.state.sizes u.tables (call_of (opening l g) w) =
      early-facts u.state.sizes u.tables (call_of (opening l g) w) (or-both (call_early u.state.sizes u.tables (call_of (opening l g) w)) accepted t.number).0 in
      subst (λ (y : World). Inv (opened_plain l g) y) (sym q) (inv-opened l g u.state.sizes u.tables w r)

pub opening-sound : OpeningSound
opening-sound u l g w a x v s n = (opened-inv u l g w a x v s n).sound

-- ---- the factor records of an opening

pub default-named : DefaultNamed
default-named = named

pub default-in-range : DefaultInRange
default-in-range = in-range

pub default-short : DefaultShort
default-short = short

pub left-at-zero : LeftAtZero
left-at-zero = left

pub named-kept : NamedKept
named-kept = kept

pub zero-refused : ZeroRefused
zero-refused = refused

-- ---- a list of calls

pub begun-inv : (u : World) (p : Plain) → Begun u p → Inv p u
begun-inv u p b = subst (λ (q : Plain). Inv q u) (sym b.plain) (opened-inv b.before b.asked b.limits b.lent b.answer b.left u b.step b.taken)

pub demand3 : Demand3
demand3 u p es v b r = (
  inv-consistent (inv-run es v (begun-inv u p b) r),
  λ before after e x y q s t z. inv-justified (inv-run before x (begun-inv u p b) s) e y t,
)

pub run-splits : RunSplits
unfolding Run
run-splits u v [] after e r = (u, r.0, (refl, r.1.0, r.1.1))
run-splits u v (d ∷ before) after e r =
    let t : (x : World) × (y : World) × (Run r.0 before x × Transition x e.call e.answer e.left y × Run y after v) =
    run-splits r.0 v before after e r.1.1 in
    (t.0, t.1, ((r.0, (r.1.0, t.2.0)), t.2.1, t.2.2))

-- ---- any sound tables

pub any-sound : AnySound
unfolding plain_after
any-sound u e v s n b =
    let t : Accepted u e.call e.answer e.left v = step-taken u e.call e.answer e.left v s n in
    let f : Found u.state u.tables = accepted-found u.state u.tables e.call (subst (λ (i : Entry). is_opening i ≡ false) (sym (change-of e.call.entry b).1) refl) t.number in
    let i : Inv (plain_of u) u = inv-found u f in
    (inv-consistent i, inv-justified i e v s, inv-consistent (inv-step i e v s))

-- ---- windows

pub live-is : LiveIs
live-is = live-means

-- ---- the questions of a delivery run

pub meets-stand : MeetsStand
meets-stand u e v i p s q n = meets-filled u e v i p s q n

pub common-lies : CommonLies
common-lies u e v is p s q n = common-answered u e v is p s q n

-- ---- the question for the next row

pub next-taken : NextTaken
next-taken = taken

pub next-stands : NextStands
next-stands = next-answered

pub next-is-parent : NextIsParent
next-is-parent = parent-answered

pub walk-is-column : WalkIsColumn
walk-is-column = walk-answered

pub walk-stays : WalkStays
walk-stays = stays

pub walk_ends : WalkEnds
walk_ends = ends
