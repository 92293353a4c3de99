-- `emission::emit`, its loop: `Emitting`, for whatever multiplicities the call was ready: the first i listed rows are cleared and, while the plan fits, planned.
use Rattle.std.proofs.Common.{List, ℕ}
use Rattle.emission.specs.Emit.{CanEmit}
use Rattle.emission.proofs.Emitting.{Emitting}
use Rattle.emission.proofs.emit.Given as goal

abbrev pub invariant-loop-i : goal.invariant-loop-i
invariant-loop-i l =
    (old new : List ℕ) → CanEmit l.rows l.counts l.next l.initial.work l.m l.n l.j.0 l.initial.walk.at.0 l.used l.initial.walk.avail.0 old new →
    Emitting l.rows l.counts l.next l.initial.work l.m l.n l.j.0 l.used l.initial.walk.avail.0 old new l.work l.walk l.i
