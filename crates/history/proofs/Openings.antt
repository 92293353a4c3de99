-- The factor records of an opening, on any tables: what F = 0 means, what it needs, and that an F that is named is kept; 0 in a record.
-- Assumes nothing.
use mathlib.Core.Path.{◌≡◌, refl, sym, ap, ◌∙◌}
use mathlib.Core.Logic.{inl, inr}
use mathlib.Core.Bool.{Bool, false, ◌&&◌}
use native.Mathlib.Omega.{arith}
use lib.Dec.{leb}
use lib.ListN.{length}
use Rattle.lists.proofs.Tests.{refute, in-range}
use Rattle.tables.specs.Tables.{Sizes, State, sizes_of, long_enough}
use Rattle.tables.proofs.Tables.{long-facts}
use Rattle.calls.specs.Refusals.{refusal, accepted, is_accepted, unless, bounds, sizes_refusal, work_for}
use Rattle.calls.specs.Calls.{opening, call_of, default_records, with_default}
use Rattle.calls.specs.Steps.{Answer}
use Rattle.calls.proofs.Steps.{step-cases, step-taken, taken-zero}
use Rattle.calls.proofs.Openings.{default-same, named-same, default-in, same-opening, early-refused, short-early, no-three, zero-early}
use Rattle.history.specs.Statements.{DefaultNamed, DefaultInRange, DefaultShort, LeftAtZero, NamedKept, ZeroRefused}

pub default-named : DefaultNamed
default-named u m n c g w a x v =
    let e : with_default (sizes_of m n 0 c) ≡ with_default (sizes_of m n (default_records m) c) = default-same m n c in
    (same-opening u (sizes_of m n 0 c) (sizes_of m n (default_records m) c) g w e a x v, same-opening u (sizes_of m n (default_records m) c) (sizes_of m n 0 c) g w (sym e) a x v)

pub default-in-range : DefaultInRange
default-in-range u m n c g w a x v s e =
    elim (step-cases u (call_of (opening (sizes_of m n 0 c) g) w) a x v s) [
      | inl t ↦ omega (arith, e, taken-zero t)
      | inr t ↦ no-three u.state u.tables (sizes_of m n 0 c) g w (default-in m) (sym (ap (λ (y : Answer). y.number) t.answer) ∙ e)
    ]

pub default-short : DefaultShort
default-short u m n c g w a x v s o short =
    let sizes : sizes_refusal bounds (sizes_of m n (default_records m) c) ≡ accepted = rw (o.rows, o.ids, default-in m o.rows, o.booked) refl in
    early-refused u (call_of (opening (sizes_of m n 0 c) g) w) a x v s (refusal 5 0)
    (short-early (sizes_of m n 0 c) u.tables g w u.state.sizes sizes o.limits short) refl

pub left-at-zero : LeftAtZero
left-at-zero u m n c g w a x v s o h =
    let l : Sizes = sizes_of m n (default_records m) c in
    let short : long_enough l u.tables ≡ false =
    refute (long_enough l u.tables) (λ z. omega (arith, h, (long-facts l u.tables z).rows, in-range 1 4096 m o.rows)) in
    default-short u m n c g w a x v s o (ap (λ (b : Bool). is_accepted (unless (b && leb (work_for l) (length w.work)) 5 0)) short)

pub named-kept : NamedKept
named-kept u l g w a x v s n d = ap (λ (y : State). y.sizes) (step-taken u (call_of (opening l g) w) a x v s n).world.0 ∙ named-same l d

pub zero-refused : ZeroRefused
zero-refused u k a x v s o m-in n-in e = early-refused u k a x v s (refusal 3 0) (zero-early u.state.sizes u.tables k o m-in n-in e) refl
