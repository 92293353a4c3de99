-- What the listing program answers to a line, and what it keeps between lines: "The listing program" of document 01. A line is answered by the command that
-- it is (listing_text); a command that calls the factor prints the answer of that call's `Transition`. Assumes nothing: these are definitions.
use Rattle.std.specs.Prelude.{◌≡◌, ◌⊎◌, List, [], ◌∷◌, ℕ}
use Rattle.tables.specs.Tables.{Tables, Sizes, sizes_of}
use Rattle.symbolic.specs.Grades.{limits_of}
use Rattle.calls.specs.Calls.{Change, adding, removing, opening, changing, work_only, report_lists, call_of}
use Rattle.calls.specs.Steps.{Answer, Transition}
use Rattle.factor.specs.Entries.{Opening, OpenStep}
use Rattle.factor.specs.declared.Factor.{Factor}
use Rattle.answers.specs.Answers.{CanChange}
use Rattle.listing_text.specs.Command.{command_of, rows_of}
use Rattle.listing_text.specs.Text.{no_line, Written}
use Rattle.listing_text.specs.declared.command.Command.{Command}
use Rattle.listing_text.specs.declared.command.Command.TheVariants.{Open, Add, Drop, Show, Unknown}
use Rattle.listing_show.specs.Showing.{no_state, answer_line, shown_by}
use Rattle.listing_memory.specs.Memory.{Memory, Lengths, numbered, OpeningPrinted}
use Rattle.listing_memory.specs.declared.Printed.{Printed}

-- ---- what the program keeps

-- no factor is open, or one that a batch may change
abbrev pub IsReady : Memory → Type 0
IsReady u = (u.world.state ≡ no_state) ⊎ CanChange u.world.state u.world.tables u.work u.touched u.labels

-- between lines
pub record Ready (u : Memory) : Type 0 where
  pub lengths : Lengths u
  pub usable : IsReady u

-- ---- what it answers

-- an opening, which hands over no limits: the lists of a batch stay
pub record OpenAnswered (u : Memory) (asked : Sizes) (bytes : List ℕ) (v : Memory) : Type 0 where
  pub answer : Answer
  pub step : Transition u.world (call_of (opening asked (limits_of 0 0 0)) (work_only u.work)) answer (work_only v.work) v.world
  pub printed : bytes ≡ answer_line answer
  pub touched : v.touched ≡ u.touched
  pub labels : v.labels ≡ u.labels

-- an addition or a removal
pub record BatchAnswered (u : Memory) (c : Change) (bytes : List ℕ) (v : Memory) : Type 0 where
  pub answer : Answer
  pub step :
      Transition u.world (call_of (changing c) (report_lists u.work u.touched u.labels)) answer (report_lists v.work v.touched v.labels) v.world
  pub printed : bytes ≡ answer_line answer

-- a command, with the rows of an add line, whose column has no window
abbrev pub CommandAnswered : Command → (rows : List ℕ) → Memory → (bytes : List ℕ) → Memory → Type 0
CommandAnswered (Open m n f c) rs u bs v = OpenAnswered u (sizes_of m n f c) bs v
CommandAnswered (Add i n) rs u bs v = BatchAnswered u (adding (i ∷ []) (n ∷ []) rs (0 ∷ []) (0 ∷ [])) bs v
CommandAnswered (Drop i) rs u bs v = BatchAnswered u (removing (i ∷ [])) bs v
CommandAnswered Show rs u bs v = (bs ≡ shown_by u.world) × (v ≡ u)
CommandAnswered Unknown rs u bs v = (bs ≡ no_line 19 0) × (v ≡ u)

-- THE ANSWER TO A LINE
abbrev pub Answered : Memory → (line bytes : List ℕ) → Memory → Type 0
Answered u line bs v = CommandAnswered (command_of line) (rows_of line) u bs v

-- ---- what the functions promise

-- bytes with the property `Says` stand at the front of the list, and another line may follow
pub record Answers (Says : (bytes : List ℕ) → Memory → Type 0) (out₀ out : List ℕ) (x : Printed) (v : Memory) : Type 0 where
  pub bytes : List ℕ
  pub says : Says bytes v
  pub written : Written out₀ 0 bytes out x.end
  pub usable : IsReady v

-- an opening, whatever factor there was, with the line of its answer
pub record OpenPrinted (asked : Sizes) (t : Tables) (work : List ℕ) (x₀ : Factor) (out₀ : List ℕ) (t' : Tables) (work' out : List ℕ) (x : Printed) : Type 0 where
  pub opened : Opening
  pub step : OpenStep asked (limits_of 0 0 0) t work opened t' work'
  pub printed : OpeningPrinted x₀ (numbered opened) out₀ out x
