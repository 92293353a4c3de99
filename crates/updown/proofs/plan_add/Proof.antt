-- `updown::plan_add` meets its contract: the starts are marked, the walk goes, and it is ended. Assumes nothing.
use borrow.Author.Rules.{rules}
use Rattle.updown.proofs.Preparing.{walk_end}
use Rattle.updown.proofs.Adding.{add-mark, add-listed, add-made}
use Rattle.updown.proofs.plan_add.Statement.{statement}
use Rattle.updown.proofs.plan_add.Tie as tie

-- ---- places: the start, the starts marked, the walk gone

abbrev start : tie.After-mark_starts-arg-1 → tie.Start
start c = c.before.before.before.before.before

abbrev marked : tie.After-walk_add-arg-1 → tie.After-mark_starts
marked c = c.before.before.before

mul-flags : tie.Need-overflow_mul-flags
mul-flags c = search rules

mul-flags-2 : tie.Need-overflow_mul-flags-2
mul-flags-2 c = search rules

add-flags : tie.Need-overflow_add-flags
add-flags c = search rules

mark-starts-requires : tie.Need-mark_starts-requires
mark-starts-requires c κs = let s = c.requires in record { W = s.W; can = add-mark s.can }

walk-add-requires : tie.Need-walk_add-walk-requires
walk-add-requires c κs =
    record { R = c.requires.R; W = c.requires.W; work₀ = c.args.work.now; can = add-listed c.requires.can (c.mark_starts.ensures c.requires.W (add-mark c.requires.can)) }

plan-of-requires : tie.Need-plan_of-requires
plan-of-requires c κs =
    let can = add-listed c.requires.can (c.mark_starts.ensures c.requires.W (add-mark c.requires.can)) in walk_end can.walk (c.walk_add-walk.ensures c.requires.R c.requires.W c.args.work.now can)

same_length : tie.Need-shape_of-work
same_length c = search rules

returns : tie.Need-returns
returns c = λ R W can.
    add-made can.can (c.walk_add-walk.ensures R W c.args.work.now (add-listed can (c.mark_starts.ensures W (add-mark can)))) c.plan_of.ensures

pub plan_add_spec : {M : Type 1} → statement M
plan_add_spec =
    tie.close
    (tie.spec
    mul-flags
    mul-flags-2
    add-flags
    mark-starts-requires
    walk-add-requires
    plan-of-requires
    same_length
    returns)
