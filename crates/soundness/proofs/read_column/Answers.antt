-- What column j is given is counted, its chain is walked against the counters, its parent compared with the second row; a test that fails means that the
-- tables are not sound, and after all of them the state is that of one column more (proofs/Ready.antt, proofs/Column.antt, proofs/Closing.antt,
-- proofs/Storing.antt).
use Rattle.std.proofs.Common.{refl, sym, ◌∙◌, ◌+◌, arith}
use Rattle.soundness.proofs.Ready.{ready-tally, ready-check}
use Rattle.soundness.proofs.Column.{column-cut, column-ended}
use Rattle.soundness.proofs.Closing.{closing-cut, closing-differs, closing-facts, closing-second, closing-link}
use Rattle.soundness.proofs.Storing.{closing-name, closing-only, closing-state, closing_end}
use Rattle.soundness.proofs.read_column.Goals as goal

pub tally_all-size-requires : goal.tally_all-size-requires
tally_all-size-requires c = ready-tally c.requires.some.state c.requires.inside

pub check_chain-requires : goal.check_chain-requires
check_chain-requires c = ready-check c.requires.some.state c.requires.inside c.tally_all-size.ensures

pub returns-in_err-n : goal.returns-in_err-n
returns-in_err-n c =
    let p = c.requires in
    rw c.from_residual.ensures
    (closing-cut p.some c.tally_all-size.ensures c.check_chain.ensures (c.args.j.0 + 1)
    (λ windows clock st. column-cut st p.inside c.tally_all-size.ensures c.in_err-n.ensures refl))

pub returns-then-columns-i : goal.returns-then-columns-i
returns-then-columns-i c =
    let p = c.requires in
    closing-cut p.some c.tally_all-size.ensures c.check_chain.ensures (c.args.j.0 + 1)
    (λ windows clock st.
    (let f = column-ended st p.inside c.tally_all-size.ensures c.in_ok-n.ensures refl in
    let q = closing-second st p.inside f c.tally_all-size.ensures c.check_chain.ensures _ _ refl refl in
    closing-differs st p.inside f (λ e. c.if-columns-i.true (e ∙ sym (c.second-up.ensures ∙ q)))))

pub link-requires : goal.link-requires
link-requires c =
    let p = c.requires in
    let st = p.some.state in
    let f = column-ended st p.inside c.tally_all-size.ensures c.in_ok-n.ensures refl in
    closing-link st p.inside f c.tally_all-size.ensures c.check_chain.ensures c.second-up.result.0
    (c.second-up.ensures ∙ closing-second st p.inside f c.tally_all-size.ensures c.check_chain.ensures _ _ refl refl)

pub name-requires : goal.name-requires
name-requires c =
    let p = c.requires in
    let st = p.some.state in
    let f = column-ended st p.inside c.tally_all-size.ensures c.in_ok-n.ensures refl in
    let y = closing-facts st p.inside f c.tally_all-size.ensures c.check_chain.ensures in
    closing-name st p.inside f c.tally_all-size.ensures c.check_chain.ensures c.second-up.result.0
    (c.second-up.ensures ∙ closing-second st p.inside f c.tally_all-size.ensures c.check_chain.ensures _ _ refl refl)
    c.if-columns-i.false c.link.ensures refl (omega arith)

pub returns : goal.returns
returns c =
    let p = c.requires in
    let s = p.some.state in
    let f = column-ended s p.inside c.tally_all-size.ensures c.in_ok-n.ensures refl in
    closing_end
    (closing-only s p.inside f c.tally_all-size.ensures c.check_chain.ensures c.second-up.result.0
    (c.second-up.ensures ∙ closing-second s p.inside f c.tally_all-size.ensures c.check_chain.ensures _ _ refl refl)
    c.if-columns-i.false c.link.ensures refl c.name.ensures)
    (λ windows clock st.
    (let g = column-ended st p.inside c.tally_all-size.ensures c.in_ok-n.ensures refl in
    closing-state st p.inside g c.tally_all-size.ensures c.check_chain.ensures c.second-up.result.0
    (c.second-up.ensures ∙ closing-second st p.inside g c.tally_all-size.ensures c.check_chain.ensures _ _ refl refl)
    c.if-columns-i.false c.link.ensures refl c.name.ensures))
