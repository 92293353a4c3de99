-- Last records kept by the chains' numbers and named by them, in the work table: lasts from place a on, names from place b on, that of record e at place
-- e − 1 of them. Assumes nothing: these are definitions.
use Rattle.std.specs.Prelude.{◌≡◌, ◌⊎◌, ◌≢◌, List, ℕ, suc, ◌+◌, ◌-◌, ◌≤◌, ◌<◌, eqb, length, set}
use Rattle.lists.specs.Lists.{pick}
use Rattle.workspace.specs.Regions.{cell}

-- chain k has a place for its last record, and that record one for its name
pub record CanName (work : List ℕ) (a b k last : ℕ) : Type 0 where
  pub low : 1 ≤ k
  pub last-in : a + (k - 1) < length work
  pub name_in : 1 ≤ last → b + (last - 1) < length work

-- the last record of chain k kept and, where there is one, named
abbrev pub named_in : (work : List ℕ) → (a b k last : ℕ) → List ℕ
named_in w a b k e = pick (eqb e 0) (set w (a + (k - 1)) e) (set (set w (a + (k - 1)) e) (b + (e - 1)) k)

-- of n chains, each with its last record kept: that record has the chain's number, or a later chain with the same last record took its place
pub record Named (work : List ℕ) (a n b f : ℕ) : Type 0 where
  pub within : (i : ℕ) → i < n → cell work a i ≤ f
  pub names : (i : ℕ) → i < n → cell work a i ≢ 0 →
      (cell work b (cell work a i - 1) ≡ suc i) ⊎ ((k : ℕ) × (i < k) × (k < n) × (cell work a k ≡ cell work a i))

-- chains that were named, in a table that has both regions
pub record CanCompare (work : List ℕ) (a b n : ℕ) : Type 0 where
  pub f : ℕ
  pub named : Named work a n b f
  pub lasts-in : a + n ≤ length work
  pub names_in : b + f ≤ length work
  pub few : n < 4294967295
