-- For callers: the default F changes no number.
-- Assumes nothing.
use mathlib.Core.Path.{◌≡◌, refl, sym, ap, ◌∙◌}
use mathlib.Core.Logic.{inl, inr}
use mathlib.Core.Bool.{false}
use Prim.Native.Nat.{ℕ, ◌≤◌}
use native.Mathlib.Omega.{arith}
use borrow.Author.Tests.{le-leb}
use Rattle.lists.specs.Lists.{is_in}
use Rattle.lists.proofs.Tests.{lt-or-le, refute, in-range}
use Rattle.tables.specs.Tables.{sizes_of}
use Rattle.calls.specs.Refusals.{unless, bounds, sizes_refusal}
use Rattle.calls.specs.Calls.{with_default, default_records}
use Rattle.calls.proofs.Choices.{or-first}
use Rattle.early_refusals.specs.Early.{records_for}
use Rattle.early_refusals.proofs.Tests.{unless-accepted}

-- an m that is allowed gets the default
pub default-allowed : (m n f c : ℕ) → m ≤ 4096 → sizes_of m n (records_for m f) c ≡ with_default (sizes_of m n f c)
default-allowed m n f c h = rw (le-leb (default_records m) 4294967295 (omega arith)) refl

-- the default changes no number: any other m is refused by 1
pub default-refusal : (m n f c : ℕ) → sizes_refusal bounds (sizes_of m n (records_for m f) c) ≡ sizes_refusal bounds (with_default (sizes_of m n f c))
default-refusal m n f c =
    elim (lt-or-le 4096 m) [
      | inl h ↦
          let e : is_in 1 4096 m ≡ false = refute (is_in 1 4096 m) (λ t. omega (arith, in-range 1 4096 m t)) in
          or-first (unless (is_in 1 4096 m) 1 0) _ (unless-accepted (is_in 1 4096 m) 1 0 refl ∙ e) ∙
          sym (or-first (unless (is_in 1 4096 m) 1 0) _ (unless-accepted (is_in 1 4096 m) 1 0 refl ∙ e))
      | inr h ↦ ap (sizes_refusal bounds) (default-allowed m n f c h)
    ]
