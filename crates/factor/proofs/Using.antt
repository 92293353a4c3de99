-- Usable tables within their sizes can be asked and followed, and are those of the register that the book holds. Assumes nothing.
use mathlib.Core.Path.{◌≡◌, sym}
use mathlib.Core.Bool.{true}
use mathlib.Core.List.{List}
use Prim.Native.Nat.{ℕ, ◌≤◌}
use native.Mathlib.Omega.{arith}
use lib.ListN.{length}
use Rattle.symbolic.specs.Columns.{live}
use Rattle.workspace.specs.Regions.{IsZero}
use Rattle.workspace.proofs.Regions.{zero-part}
use Rattle.tables.specs.Stored.{is_sound_for}
use Rattle.tables.specs.Tables.{Tables, State, stored_in, register_of}
use Rattle.tables.proofs.Tables.{sound-stored}
use Rattle.calls.specs.Refusals.{work_for}
use Rattle.admission.specs.Admission.{Usable}
use Rattle.admission.proofs.Cutting.{Cut, cut, cut-sized, in-range}
use Rattle.questions.specs.Asked.{ColumnsFor, ParentsFor, CanAsk, CanFollow}
use Rattle.questions.specs.Meeting.{TreeFor, CanMeet}
use Rattle.questions.proofs.Reading.{stored-columns, stored-parents, can-ask, can-follow, can-climb}

module _ {s : State} {t : Tables} (u : Usable s t) where
  sizes : Cut s t
  sizes = cut s t u.long

  stored : is_sound_for (live (register_of s t)) (stored_in s t) ≡ true
  stored = sound-stored s t u.sound

  rows_are : (register_of s t).m ≡ length (stored_in s t).heads
  rows_are = sym sizes.heads

  narrow : length (stored_in s t).heads ≤ 4096
  narrow = omega (arith, sizes.heads, (in-range s.sizes u.sizes).m-high)

  pub usable-columns : ColumnsFor (stored_in s t).heads (stored_in s t).rows (stored_in s t).counts (stored_in s t).next (register_of s t)
  usable-columns = stored-columns (stored_in s t) (register_of s t) rows_are stored

  pub usable-parents : ParentsFor (stored_in s t).parents (register_of s t)
  usable-parents = stored-parents (stored_in s t) (register_of s t) rows_are stored (cut-sized sizes).parents-long

  pub usable-ask : CanAsk (stored_in s t).heads (stored_in s t).rows (stored_in s t).counts (stored_in s t).next
  usable-ask = can-ask (stored_in s t) (register_of s t) rows_are stored (cut-sized sizes) narrow

  pub usable-follow : CanFollow (stored_in s t).parents
  usable-follow = can-follow (stored_in s t) (register_of s t) rows_are stored (cut-sized sizes) narrow

  pub usable-tree : TreeFor (stored_in s t).heads (stored_in s t).parents (stored_in s t).rows (stored_in s t).counts (stored_in s t).next (register_of s t)
  usable-tree = record { columns-are = usable-columns; parents-are = usable-parents }

  -- with a zero work table: columns can be marked in it
  pub usable-meet : {w : List ℕ} → work_for s.sizes ≤ length w → IsZero w 0 (work_for s.sizes) →
      CanMeet (stored_in s t).heads (stored_in s t).parents (stored_in s t).rows (stored_in s t).counts (stored_in s t).next w
  usable-meet {w} p z =
      record {
        climb = can-climb (stored_in s t) (register_of s t) rows_are stored (cut-sized sizes) narrow;
        room = omega (arith, p, sizes.heads);
        zero = zero-part w 0 (work_for s.sizes) 0 (length (stored_in s t).heads) z (omega arith) (omega (arith, sizes.heads));
      }
