-- A line that is longer than its list has places is kept up to them: cut at 2,000 bytes it is still no command, and is answered as the whole line is.
-- Assumes nothing.
use mathlib.Core.Path.{◌≡◌, refl, sym, ap, ◌∙◌}
use mathlib.Core.Logic.{inl, inr}
use mathlib.Core.List.{List, []}
use Prim.Native.Nat.{ℕ, ◌≤◌, ◌<◌}
use native.Mathlib.Omega.{arith}
use lib.ListN.{length, take}
use lib.Seq.{take_all, length-take-le}
use borrow.Author.Tests.{lt-ltb, lt-leb}
use Rattle.lists.proofs.Tests.{lt-or-le}
use Rattle.listing_text.specs.Command.{command_of, rows_of}
use Rattle.listing_text.specs.declared.command.Command.{Command}
use Rattle.listing_text.specs.declared.command.Command.TheVariants.{Unknown}
use Rattle.listing_memory.specs.Memory.{Memory}
use Rattle.listing_answers.specs.Listing.{CommandAnswered, Answered}

long-command : (line : List ℕ) → 1999 < length line → command_of line ≡ Unknown
unfolding command_of
long-command line h = rw (lt-ltb 1999 (length line) h) refl

long-rows : (line : List ℕ) → 1999 < length line → rows_of line ≡ []
unfolding rows_of
long-rows line h = rw (lt-leb (length line) 1999 h) refl

-- a line of 2,000 bytes or more, cut
cut-long : (line : List ℕ) → 2000 ≤ length line → 1999 < length (take 2000 line)
cut-long line h = omega (arith, length-take-le 2000 line h)

pub cut-command : (line : List ℕ) → command_of (take 2000 line) ≡ command_of line
cut-command line =
    elim (lt-or-le (length line) 2000) [
      | inl h ↦ ap command_of (take_all 2000 line (omega arith))
      | inr h ↦ long-command (take 2000 line) (cut-long line h) ∙ sym (long-command line (omega arith))
    ]

pub cut-rows : (line : List ℕ) → rows_of (take 2000 line) ≡ rows_of line
cut-rows line =
    elim (lt-or-le (length line) 2000) [
      | inl h ↦ ap rows_of (take_all 2000 line (omega arith))
      | inr h ↦ long-rows (take 2000 line) (cut-long line h) ∙ sym (long-rows line (omega arith))
    ]

-- what is answered to the cut line is what is answered to the whole one
pub cut-answered : (u : Memory) (line bytes : List ℕ) (v : Memory) → Answered u (take 2000 line) bytes v ≡ Answered u line bytes v
cut-answered u line bs v =
    ap (λ (k : Command). CommandAnswered k (rows_of (take 2000 line)) u bs v) (cut-command line) ∙
    ap (λ (rs : List ℕ). CommandAnswered (command_of line) rs u bs v) (cut-rows line)
