-- What a question asks and answers, by the definitions of calls/: when stored columns, or stored parents, are those of a register; the reply and the
-- list for every such register. A question reads the tables it is given and no others, so each premise is on these alone.
-- Assumes nothing: these are definitions.
use Rattle.std.specs.Prelude.{◌≡◌, List, [], ℕ, ◌≤◌, length}
use Rattle.lists.specs.Lists.{pick, at, written_at}
use Rattle.symbolic.specs.Columns.{Register}
use Rattle.symbolic.specs.Factor.{factor_for, column_at, parent_of}
use Rattle.pool.specs.Chains.{chain, Linked}
use Rattle.columns.specs.Commit.{HoldsFrom}
use Rattle.calls.specs.Refusals.{is_accepted}
use Rattle.calls.specs.Calls.{Question}
use Rattle.calls.specs.Questions.{Response, response}
use Rattle.calls.specs.Numbers.{ask_refusal}
use Rattle.calls.specs.Steps.{Answer, refused_by}
use Rattle.questions.specs.declared.Reply.{Reply}
use Rattle.questions.specs.declared.Found.{Found}

-- a reply as an answer: what a question does not have is 0
abbrev pub reply_of : Reply → Answer
reply_of x = record { number = x.number; position = 0; touched = 0; entries = 0; grade = 0; row = 0; value = x.value }

-- the same of a reply with a row
abbrev pub found_of : Found → Answer
found_of x = record { number = x.number; position = 0; touched = 0; entries = 0; grade = 0; row = x.row; value = x.multiplicity }

-- ---- the tables are those of a register

-- chain j holds the rows and multiplicities of the register's factor column j
pub record ColumnsFor (heads rows counts next : List ℕ) (r : Register) : Type 0 where
  pub size : r.m ≡ length heads
  pub column : (j : ℕ) → 1 ≤ j → j ≤ length heads → HoldsFrom rows counts 1 (column_at (factor_for r) j).counts (chain next (at heads j))

-- parent j is that of the register's factor column j
pub record ParentsFor (parents : List ℕ) (r : Register) : Type 0 where
  pub size : r.m ≡ length parents
  pub parent : (j : ℕ) → 1 ≤ j → j ≤ length parents → at parents j ≡ parent_of (factor_for r) j

-- stored columns that can be read: chains that end, a row and a multiplicity for each record
pub record CanAsk (heads rows counts next : List ℕ) : Type 0 where
  pub register : Register
  pub held : ColumnsFor heads rows counts next register
  pub linked : (j : ℕ) → 1 ≤ j → j ≤ length heads → Linked next (at heads j) (chain next (at heads j))
  pub rows_long : length rows ≡ length next
  pub counts-long : length counts ≡ length next
  pub narrow : length heads ≤ 4096

-- stored parents that can be followed
pub record CanFollow (parents : List ℕ) : Type 0 where
  pub register : Register
  pub followed : ParentsFor parents register
  pub narrow : length parents ≤ 4096

-- ---- the reply, and the list afterwards

-- the answer of an accepted question
abbrev pub answered_by : Response → Answer
answered_by x = record { number = 0; position = 0; touched = 0; entries = 0; grade = 0; row = x.row; value = x.value }

-- the answer that a register gives to a question whose list is written from a place on, accepted or refused; it has no entries, so no limits play a part
abbrev pub replied_to : Register → Question → (place : ℕ) → (list : List ℕ) → Answer
replied_to r q p xs = pick (is_accepted (ask_refusal r q p xs)) (answered_by (response r q)) (refused_by (ask_refusal r q p xs))

-- the same of a question that has no list
abbrev pub replied : Register → Question → Answer
replied r q = replied_to r q 0 []

-- the question's list afterwards: with the answer written if it is accepted, otherwise as lent
abbrev pub list_left : Register → Question → (place : ℕ) → (list : List ℕ) → List ℕ
list_left r q p xs = pick (is_accepted (ask_refusal r q p xs)) (written_at p (response r q).list xs) xs

-- the reply is what each register whose tables these are says
abbrev pub RepliesAt : (Register → Type 0) → Question → (place : ℕ) → (list : List ℕ) → Reply → Type 0
RepliesAt Fits q p xs a = (r : Register) → Fits r → reply_of a ≡ replied_to r q p xs

-- the same of a question that has no list
abbrev pub Replies : (Register → Type 0) → Question → Reply → Type 0
Replies Fits q a = (r : Register) → Fits r → reply_of a ≡ replied r q

-- the same of a reply with a row
abbrev pub Finds : (Register → Type 0) → Question → Found → Type 0
Finds Fits q a = (r : Register) → Fits r → found_of a ≡ replied r q

-- the list is left as each register whose tables these are says
abbrev pub Leaves : (Register → Type 0) → Question → (place : ℕ) → (list after : List ℕ) → Type 0
Leaves Fits q p xs ys = (r : Register) → Fits r → ys ≡ list_left r q p xs
