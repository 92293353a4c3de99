-- `updown::turns::step_up` meets its contract: by the test whether the plan of the column fits. Assumes nothing.
use mathlib.Core.Bool.{true≢false}
use mathlib.Core.Path.{refl, sym, ap, ◌∙◌}
use native.Mathlib.Omega.{arith}
use Rattle.updown.specs.Marks.{stepped_up}
use borrow.Author.Rules.{rules}
use Rattle.updown.proofs.turns.step_up.Statement.{statement}
use Rattle.updown.proofs.turns.step_up.Tie as tie

tree-parent-requires : tie.Need-tree_parent-up-requires
tree-parent-requires c κs =
    let p = c.before.before.before.before.requires c.before.if-e.true in
    (p.low, omega (arith, p.high, p.parents-long))

place-marker-requires : tie.Need-place_marker-requires
place-marker-requires c κs =
    let p = c.before.before.before.before.before.before.requires c.before.before.before.if-e.true in
    (p.room, p.low, p.high, p.parent-high, omega (arith, p.up-high, c.before.tree_parent-up.ensures), p.mark-small)

advance-requires : tie.Need-advance-requires
advance-requires c κs =
    let p = c.before.before.before.before.before.before.before.before.before.requires c.before.before.before.before.before.before.if-e.true in
    (p.count_small, p.entries-small, p.larger-small)

same_length : tie.Need-shape_of-work-then-e
same_length c = search rules

returns : tie.Need-returns-then-e
returns c =
    let s = c.before.before.before.before.before.before.before.before.before.before.args in
    let e = c.advance.ensures in
    let up = c.before.before.before.before.before.tree_parent-up.ensures in
    record {
      fits-is = e.0;
      used-is = e.5;
      stored = λ _. c.before.before.before.place_marker.ensures ∙ ap (stepped_up s.m s.flags s.work.now s.j.0 s.e.parent.0) up;
      first-is = λ _. e.1;
      last-is = λ _. e.2;
      count-is = λ _. e.3;
      entries-is = λ _. e.4;
      avail-is = λ _. e.6;
      stays = λ x. absurd (true≢false (sym c.before.before.before.before.before.before.before.if-e.true ∙ x));
    }

stopped-requires : tie.Need-stopped-requires
stopped-requires c κs = search rules

returns-2 : tie.Need-returns
returns-2 c =
    let e = c.stopped.ensures in
    let no = c.before.if-e.false in
    record {
      fits-is = e.0;
      used-is = e.1;
      stored = λ x. absurd (true≢false (sym x ∙ no));
      first-is = λ x. absurd (true≢false (sym x ∙ no));
      last-is = λ x. absurd (true≢false (sym x ∙ no));
      count-is = λ x. absurd (true≢false (sym x ∙ no));
      entries-is = λ x. absurd (true≢false (sym x ∙ no));
      avail-is = λ x. absurd (true≢false (sym x ∙ no));
      stays = λ _. refl;
    }

pub step_up_spec : {M : Type 1} → statement M
step_up_spec =
    tie.close
    (tie.spec
    tree-parent-requires
    place-marker-requires
    advance-requires
    same_length
    returns
    stopped-requires
    returns-2)
