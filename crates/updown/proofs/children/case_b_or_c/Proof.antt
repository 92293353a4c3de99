-- `updown::children::case_b_or_c` meets its contract: by the test whether the child is kept. Assumes nothing.
use mathlib.Core.Path.{sym, ◌∙◌}
use borrow.Author.Tests.{eqb-true, eqb-false}
use borrow.Author.Rules.{rules}
use Rattle.updown.proofs.children.case_b_or_c.Statement.{statement}
use Rattle.updown.proofs.children.case_b_or_c.Tie as tie

case-b-requires : tie.Need-case_b-requires
case-b-requires c κs = search rules

same_length : tie.Need-shape_of-work-then-kept
same_length c = search rules

returns : tie.Need-returns-then-kept
returns c = λ R W j used H k a e. c.case_b.ensures R W j used H a (eqb-true _ _ (sym e ∙ c.if-kept.true))

case-c-requires : tie.Need-case_c-requires
case-c-requires c κs = search rules

same-length-2 : tie.Need-shape_of-work
same-length-2 c = search rules

returns-2 : tie.Need-returns
returns-2 c = λ R W j used H k a e. c.case_c.ensures R W j used H k a (eqb-false _ _ (sym e ∙ c.if-kept.false))

pub case_b_or_c_spec : {M : Type 1} → statement M
case_b_or_c_spec =
    tie.close
    (tie.spec case-b-requires same_length returns case-c-requires same-length-2 returns-2)
