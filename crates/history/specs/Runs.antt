-- Lists of calls and the plain register: document 01's "What demand 3 is about". Each step of a run is the definition that the entry's contract cites.
-- The register is computed from arguments and numbers alone; a run's worlds do not enter.
-- Assumes nothing: these are definitions.
use Rattle.std.specs.Prelude.{◌≡◌, List, [], ◌∷◌, eqb}
use Rattle.lists.specs.Lists.{pick}
use Rattle.symbolic.specs.Columns.{Register}
use Rattle.symbolic.specs.Grades.{Limits, limits_for}
use Rattle.tables.specs.Tables.{Sizes}
use Rattle.calls.specs.Calls.{opening, Lent, Call, call_of, with_default, sizes_after, limits_after}
use Rattle.calls.specs.Changes.{register_after}
use Rattle.calls.specs.Steps.{Answer, World, Transition}

-- a call with everything lent to it, the numbers it answered and the lists it left
pub record Event : Type 0 where
  pub call : Call
  pub answer : Answer
  pub left : Lent

-- "Each call gets the tables, and all but an opening get the record, as the calls before it left them: .. Nobody else writes these meanwhile."
unfoldable pub Run : World → List Event → World → Type 0
Run u [] v = v ≡ u
Run u (e ∷ es) v = (x : World) × (Transition u e.call e.answer e.left x × Run x es v)

-- the plain register with the sizes and limits of the last accepted opening: "It sees each call's arguments and number, never the tables."
pub record Plain : Type 0 where
  pub sizes : Sizes
  pub limits : Limits
  pub register : Register

-- the register after one more call: "A refused call, a check or a question: nothing changes."
abbrev pub plain_next : Plain → Event → Plain
plain_next p e =
    pick (eqb e.answer.number 0)
    (record { sizes = sizes_after p.sizes e.call.entry; limits = limits_after p.limits e.call.entry; register = register_after p.register e.call.entry }) p

-- the register after a list of calls
unfoldable pub plain_after : Plain → List Event → Plain
plain_after p [] = p
plain_after p (e ∷ es) = plain_after (plain_next p e) es

-- "It starts just after an accepted opening of any sizes", and limits: u is what it left, "at first the opening's m and no column"; document 02: "An opened factor
-- stands at minute 0"
pub record Begun (u : World) (p : Plain) : Type 0 where
  pub before : World
  pub asked : Sizes
  pub limits : Limits
  pub lent : Lent
  pub answer : Answer
  pub left : Lent
  pub step : Transition before (call_of (opening asked limits) lent) answer left u
  pub taken : answer.number ≡ 0
  pub plain : p ≡ record { sizes = with_default asked; limits = limits_for limits; register = record { m = asked.m; clock = 0; columns = [] } }
