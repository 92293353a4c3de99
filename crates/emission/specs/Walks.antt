-- The walk of one column's chain against its touched rows, step by step, as the code takes it: records passed over and counted, one row planned. What the
-- whole walk is for: specs/Emit.antt. Assumes nothing: these are definitions.
use Rattle.std.specs.Prelude.{◌≡◌, ◌≢◌, true, false, ◌&&◌, not, List, [], ◌∷◌, ◌++◌, ℕ, ◌+◌, ◌≤◌, ◌<◌, ltb, eqb, length, set}
use Rattle.lists.specs.Lists.{pick, among, at, values_at}
use Rattle.workspace.specs.Layout.{plan_at}
use Rattle.workspace.specs.Planned.{packed}
use Rattle.pool.specs.Chains.{chain, Linked}
use Rattle.emission.specs.Plans.{kind_for}
use Rattle.emission.specs.declared.Walk.{Walk}

-- ---- the first row above j

-- the first row above j so far, or 0, with one row more, larger than those before
abbrev pub first_over : (j first row : ℕ) → ℕ
first_over j p i = pick (eqb p 0 && ltb j i) i p

-- the same with the rows of a rising list, one after another
unfoldable pub first_of : (j first : ℕ) → (rows : List ℕ) → ℕ
first_of j p [] = p
first_of j p (i ∷ is) = first_of j (first_over j p i) is

-- ---- changes of a walk

-- a row that stays is counted
abbrev pub stays : (j row : ℕ) → Walk → Walk
stays j i w = record { at = w.at; behind = w.behind; used = w.used; size = w.size + 1; parent = record { 0 = first_over j w.parent.0 i }; avail = w.avail; fits = w.fits }

-- the record at hand is left behind, for another
abbrev pub on_to : (record₁ : ℕ) → Walk → Walk
on_to r w = record { at = record { 0 = r }; behind = w.behind + 1; used = w.used; size = w.size; parent = w.parent; avail = w.avail; fits = w.fits }

-- an entry is written
abbrev pub longer : Walk → Walk
longer w = record { at = w.at; behind = w.behind; used = w.used + 1; size = w.size; parent = w.parent; avail = w.avail; fits = w.fits }

-- a free record is taken
abbrev pub taking : (next : List ℕ) → Walk → Walk
taking ns w = record { at = w.at; behind = w.behind; used = w.used; size = w.size; parent = w.parent; avail = record { 0 = at ns w.avail.0 }; fits = w.fits }

-- a free record was needed, and there was none
abbrev pub full : Walk → Walk
full w = record { at = w.at; behind = w.behind; used = w.used; size = w.size; parent = w.parent; avail = w.avail; fits = false }

-- ---- records passed over

-- a chain that ends, with a row for each record, and sizes that stay small
pub record CanPass (rows next : List ℕ) (w : Walk) : Type 0 where
  pub linked : Linked next w.at.0 (chain next w.at.0)
  pub rows_long : length rows ≡ length next
  pub small : w.size + length (chain next w.at.0) < 4294967296
  pub behind-small : w.behind + length (chain next w.at.0) < 4294967296

-- records with rows below a bound are passed over and counted
pub record Passed (rows next : List ℕ) (j bound : ℕ) (before after : Walk) : Type 0 where
  pub records : List ℕ
  pub parts : chain next before.at.0 ≡ records ++ chain next after.at.0
  pub linked : Linked next after.at.0 (chain next after.at.0)
  pub below : (i : ℕ) → among i (values_at rows records) ≡ true → i < bound
  pub above : after.at.0 ≢ 0 → bound ≤ at rows after.at.0
  pub size : after.size ≡ before.size + length records
  pub behind : after.behind ≡ before.behind + length records
  pub parent : after.parent.0 ≡ first_of j before.parent.0 (values_at rows records)
  pub used : after.used ≡ before.used
  pub avail : after.avail.0 ≡ before.avail.0
  pub fits : after.fits ≡ before.fits

-- ---- one row

-- the multiplicity of a row in the record at hand, 0 if that is of another row
abbrev pub stored_at : (rows counts : List ℕ) → (record₁ row : ℕ) → ℕ
stored_at xs ns r i = pick (not (eqb r 0) && eqb (at xs r) i) (at ns r) 0

-- the walk with a row counted if it stays: the new multiplicity is not 0
abbrev pub counting : (j row new : ℕ) → Walk → Walk
counting j i n w = pick (eqb n 0) w (stays j i w)

-- the walk with the record at hand left behind if it is the row's: the old multiplicity is not 0
abbrev pub advanced : (next : List ℕ) → (old : ℕ) → Walk → Walk
advanced ns n w = pick (eqb n 0) w (on_to (at ns w.at.0) w)

-- an entry fits, and has a place if it has a record or a free one is left
pub record CanPlan (next work : List ℕ) (m row old new : ℕ) (w : Walk) : Type 0 where
  pub row_low : 1 ≤ row
  pub row-high : row ≤ 4096
  pub new-small : new < 65536
  pub size_small : w.size < 4294967295
  pub free : w.avail.0 ≤ length next
  pub place : (old ≡ 0 → w.avail.0 ≢ 0) → plan_at m + w.used < length work

-- what planning one row does: nothing more if it does not change, one entry if it does and has or gets a record; a new row for which no free record is
-- left ends the plan
pub data Planned (next work : List ℕ) (m row old new : ℕ) (w : Walk) (work' : List ℕ) (after : Walk) : Type 0 where
  same : old ≡ new → work' ≡ work → after ≡ w → Planned next work m row old new w work' after
  stored : old ≢ 0 → old ≢ new → work' ≡ set work (plan_at m + w.used) (packed row new (kind_for old new)) → after ≡ longer w →
      Planned next work m row old new w work' after
  fresh : old ≡ 0 → old ≢ new → w.avail.0 ≢ 0 → work' ≡ set work (plan_at m + w.used) (packed row new (kind_for old new)) → after ≡ longer (taking next w) →
      Planned next work m row old new w work' after
  spent : old ≡ 0 → old ≢ new → w.avail.0 ≡ 0 → work' ≡ work → after ≡ full w → Planned next work m row old new w work' after
