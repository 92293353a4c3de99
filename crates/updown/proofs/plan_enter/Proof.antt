-- `updown::plan_enter` meets its contract: the starts are marked, the walk goes, and it is ended. Assumes nothing.
use borrow.Author.Rules.{rules}
use Rattle.updown.proofs.Preparing.{walk_end}
use Rattle.updown.proofs.Adding.{enter-mark, enter-walk, add-made}
use Rattle.updown.proofs.plan_enter.Statement.{statement}
use Rattle.updown.proofs.plan_enter.Tie as tie

-- ---- places: the start, the starts marked, the walk gone

abbrev start : tie.After-mark_starts-arg-1 → tie.Start
start c = c.before.before.before.before

abbrev marked : tie.After-walk_booked-arg-1 → tie.After-mark_starts
marked c = c.before.before.before

mul-flags : tie.Need-overflow_mul-flags
mul-flags c = search rules

mul-flags-2 : tie.Need-overflow_mul-flags-2
mul-flags-2 c = search rules

add-flags : tie.Need-overflow_add-flags
add-flags c = search rules

mark-starts-requires : tie.Need-mark_starts-requires
mark-starts-requires c κs = record { W = c.requires.W; can = enter-mark c.requires.can }

walk-booked-requires : tie.Need-walk_booked-walk-requires
walk-booked-requires c κs =
    record {
      R = c.requires.R;
      W = c.requires.W;
      work₀ = c.args.work.now;
      can = enter-walk c.requires.can (c.mark_starts.ensures c.requires.W (enter-mark c.requires.can));
    }

plan-of-requires : tie.Need-plan_of-requires
plan-of-requires c κs =
    let can = enter-walk c.requires.can (c.mark_starts.ensures c.requires.W (enter-mark c.requires.can)) in
    walk_end can.walk (c.walk_booked-walk.ensures c.requires.R c.requires.W c.args.work.now can)

same_length : tie.Need-shape_of-work
same_length c = search rules

returns : tie.Need-returns
returns c = λ R W can.
    add-made can.can (c.walk_booked-walk.ensures R W c.args.work.now (enter-walk can (c.mark_starts.ensures W (enter-mark can))))
    c.plan_of.ensures

pub plan_enter_spec : {M : Type 1} → statement M
plan_enter_spec =
    tie.close
    (tie.spec
    mul-flags
    mul-flags-2
    add-flags
    mark-starts-requires
    walk-booked-requires
    plan-of-requires
    same_length
    returns)
