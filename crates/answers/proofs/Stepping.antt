-- An unchecked change from its step on tables within their sizes: what a caller lends can be changed (`change-can`), and a step on prefixes is one on the whole tables:
-- refused (`whole-refused`), of a batch (`whole-batch`), and of the clock, which leaves the book and the windows (`whole-clock`). Assumes nothing.
use mathlib.Core.Path.{◌≡◌, sym, ap, ◌∙◌, subst}
use mathlib.Core.List.{List, ◌++◌}
use Prim.Native.Nat.{ℕ, ◌+◌}
use lib.ListN.{length, take, drop, take-append-drop, length-append}
use Rattle.tables.specs.Tables.{Tables, Sizes, State}
use Rattle.tables.proofs.Tables.{Long, long-facts}
use Rattle.calls.specs.Calls.{Change, Lent}
use Rattle.calls.specs.Steps.{Answer, World}
use Rattle.steps.specs.Outcome.{cut_world, CanStep, ChangeStep}
use Rattle.steps.proofs.Lifting.{cut_tables, join_tables, world_for, join-cut, lift-can}
use Rattle.steps.proofs.Lifted.{step-lifts}
use Rattle.steps.proofs.Whole.{join_but, heads-stay, join_stored, ReadOnly, stored-written}
use Rattle.factor.specs.declared.Factor.{Factor}
use Rattle.factor.specs.Entries.{state_of, world_of}
use Rattle.answers.specs.Answers.{CanChange, AnswerIs, UncheckedChange}
use Rattle.answers.specs.declared.Changed.{Changed}

-- the world of a factor whose tables are cut to its sizes
abbrev pub world_cut : Factor → Tables → World
world_cut s t = cut_world (cut_tables (state_of s).sizes t) (state_of s).limits s.clock s.free s.book_free

module _ (s : Factor) (t : Tables) {w a b : List ℕ} (c : CanChange (state_of s) t w a b) where
  abbrev l : Sizes
  l = (state_of s).sizes

  pub change-long : Long (state_of s).sizes t
  change-long = long-facts l t c.can-use.usable.long

  pub change-can : CanStep (world_cut s t) w a b
  change-can =
      lift-can change-long (state_of s).limits s.clock s.free s.book_free c.can-use.usable.sizes c.can-use.usable.sound c.can-use.room c.can-use.zero c.touched-long c.labels-long

  module _ (k : Change) (lent : Lent) (x : Answer) (lists : Lent) (y : Tables) (o f g : ℕ)
      (step : ChangeStep (world_cut s t) k lent x lists (cut_world y (state_of s).limits o f g)) {r : Changed}
      (q : AnswerIs x (record { sizes = (state_of s).sizes; limits = (state_of s).limits; free = f; book_free = g; clock = o }) r) where
    -- the prefixes written back, as whole tables
    lifted : {v : Tables} → join_tables (state_of s).sizes y t ≡ v → UncheckedChange s t k lent r lists v
    lifted {v} e =
        subst (λ (n : Answer). ChangeStep (world_of s t) k lent n lists (world_of r.factor v)) (sym q.numbers-are)
        (subst (λ (z : State). ChangeStep (world_of s t) k lent x lists (record { state = z; tables = v })) (sym q.record_is)
        (subst (λ (z : Tables). ChangeStep (world_of s t) k lent x lists (world_for l (state_of s).limits o f g z)) e
        (step-lifts change-long (state_of s).limits s.clock s.free s.book_free y o f g k x lent lists step)))

    -- nothing was written
    pub whole-refused : y ≡ cut_tables (state_of s).sizes t → UncheckedChange s t k lent r lists t
    whole-refused e = lifted (ap (λ (z : Tables). join_tables l z t) e ∙ join-cut l t)

    -- heads were only read
    pub whole-batch : y.heads ≡ take s.m t.heads → UncheckedChange s t k lent r lists (join_but (state_of s).sizes y t)
    whole-batch e = lifted (heads-stay l y t e)

    -- nor were the book and the windows written
    pub whole-clock : ReadOnly (state_of s).sizes y t → UncheckedChange s t k lent r lists (join_stored (state_of s).sizes y t)
    whole-clock e = lifted (stored-written l y t e)

-- a prefix of the same length, written back
pub joined_length : (n : ℕ) (xs ys : List ℕ) → length ys ≡ length (take n xs) → length (ys ++ drop n xs) ≡ length xs
joined_length n xs ys e =
    length-append ys (drop n xs) ∙ ap (λ (k : ℕ). k + length (drop n xs)) e ∙ sym (length-append (take n xs) (drop n xs)) ∙ ap length (take-append-drop n xs)
