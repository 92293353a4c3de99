-- The record in code as the definitions of tables/ have it. Assumes nothing: this is a definition.
use Rattle.symbolic.specs.Grades.{limits_of}
use Rattle.tables.specs.Tables.{State, sizes_of}
use Rattle.state.specs.declared.State.{State as Record}

-- sizes, limits, free heads and clock
abbrev pub state_of : Record → State
state_of x =
    record {
      sizes = sizes_of x.m x.n x.f x.c;
      limits = limits_of x.grade2 x.grade3 x.grade4;
      free = x.free.0;
      book_free = x.book_free.0;
      clock = x.clock;
    }
