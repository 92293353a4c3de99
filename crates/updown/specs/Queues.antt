-- The queues of children that wait for their parents: 2 m queues, heads from place 5 m of the work table on, one link for each column from 7 m on. Queue x
-- of 1 to m is that of the tree parent x, queue m + q that of the other parent q. A column waits in one queue at most: place says which, 0 for none.
-- Assumes nothing: these are definitions.
use Rattle.std.specs.Prelude.{◌≡◌, ◌≢◌, Bool, List, ℕ, ◌-◌, ◌*◌, ◌≤◌, eqb, length}
use Rattle.lists.specs.Lists.{one, times}
use Rattle.workspace.specs.Regions.{cell, region}
use Rattle.workspace.specs.Layout.{children_at, links_at}
use Rattle.pool.specs.Chains.{Linked}

-- for each column the next one in its queue
abbrev pub links : (m : ℕ) (work : List ℕ) → List ℕ
links m w = region w (links_at m) m

-- just the columns that pass a test wait, each once
pub record Queue (next : List ℕ) (head : ℕ) (waits : ℕ → Bool) : Type 0 where
  pub members : List ℕ
  pub linked : Linked next head members
  pub holds : (c : ℕ) → 1 ≤ c → c ≤ length next → times c members ≡ one (waits c)

-- the queues from one on, but for one that is being emptied
pub record Queues (m : ℕ) (work : List ℕ) (from except : ℕ) (place : ℕ → ℕ) : Type 0 where
  pub queue : (x : ℕ) → from ≤ x → x ≤ 2 * m → x ≢ except → Queue (links m work) (cell work (children_at m) (x - 1)) (λ c. eqb (place c) x)
  pub idle : (c : ℕ) → 1 ≤ c → c ≤ m → place c ≡ 0 → cell work (links_at m) (c - 1) ≡ 0
