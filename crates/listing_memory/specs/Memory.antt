-- What the listing program keeps between lines, with the lengths of document 01, and what it keeps of an opening. Laws: proofs/Serving.antt. Assumes nothing: these are
-- definitions.
use Rattle.std.specs.Prelude.{◌≡◌, Result, Ok, Err, List, ℕ, length}
use Rattle.tables.specs.Tables.{Tables}
use Rattle.calls.specs.Steps.{World}
use Rattle.factor.specs.Entries.{world_of, Opening}
use Rattle.factor.specs.declared.Factor.{Factor}
use Rattle.early_refusals.specs.Refusal.{number_of}
use Rattle.listing_text.specs.Text.{ok_line, no_line, Written}
use Rattle.listing_memory.specs.declared.Printed.{Printed}

-- ---- what the program keeps

-- record and tables, the work table, the lists for touched columns and labels
pub record Memory : Type 0 where
  pub world : World
  pub work : List ℕ
  pub touched : List ℕ
  pub labels : List ℕ

-- a factor with its tables and lists as one record
abbrev pub memory_of : Factor → Tables → (work touched labels : List ℕ) → Memory
memory_of x t w a b = record { world = world_of x t; work = w; touched = a; labels = b }

-- "Its tables serve m 64, n 256, F 2,048, C 2,048": a table for just these, and W for them
pub record Lengths (u : Memory) : Type 0 where
  pub heads : length u.world.tables.heads ≡ 64
  pub parents : length u.world.tables.parents ≡ 64
  pub rows : length u.world.tables.rows ≡ 2048
  pub counts : length u.world.tables.counts ≡ 2048
  pub next : length u.world.tables.next ≡ 2048
  pub book-heads : length u.world.tables.book_heads ≡ 256
  pub book-rows : length u.world.tables.book_rows ≡ 2048
  pub book-next : length u.world.tables.book_next ≡ 2048
  pub windows : length u.world.tables.windows ≡ 512
  pub work : length u.work ≡ 12032
  pub touched : length u.touched ≡ 64
  pub labels : length u.labels ≡ 64

-- ---- an opening

-- the factor after an opening: "A refused open keeps the factor there was"
abbrev pub factor_after : Result Factor ℕ → Factor → Factor
factor_after (Ok y) x = y
factor_after (Err n) x = x

-- `ok 0 0 0`, or the number
abbrev pub opening_line : Result Factor ℕ → List ℕ
opening_line (Ok y) = ok_line 0 0 0
opening_line (Err n) = no_line n 0

-- an opening's answer with the number of its refusal
abbrev pub numbered : Opening → Result Factor ℕ
numbered (Ok y) = Ok y
numbered (Err e) = Err (number_of e)

-- the factor and the line after an opening
pub record OpeningPrinted (x₀ : Factor) (opened : Result Factor ℕ) (out₀ out : List ℕ) (x : Printed) : Type 0 where
  pub factor-is : x.factor ≡ factor_after opened x₀
  pub line : Written out₀ 0 (opening_line opened) out x.end
