-- What a run of changes leaves, and a run of questions. Assumes nothing: these are definitions.
use Rattle.std.specs.Prelude.{◌≡◌, List, ℕ}
use Rattle.tables.specs.Tables.{Tables, State}
use Rattle.factor.specs.Entries.{state_of}
use Rattle.admission.specs.Admission.{CanUse}
use Rattle.answers.specs.Answers.{CanChange}
use Rattle.bench_driver.specs.declared.Ran.{Ran}
use Rattle.bench_driver.specs.declared.asking.Asked.{Asked}

-- where nothing was refused another change may follow
abbrev pub Continues : Ran → Tables → (work touched labels : List ℕ) → Type 0
Continues r t w a b = r.number ≡ 0 → CanChange (state_of r.factor) t w a b

-- where nothing was refused a question of any kind may follow
abbrev pub AsksOn : Asked → State → Tables → (work : List ℕ) → Type 0
AsksOn r s t w = r.number ≡ 0 → CanUse s t w
