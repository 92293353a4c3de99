-- `changed_line` meets its contract: the number chooses the line, and 40 bytes are room for either. Assumes nothing.
use mathlib.Core.Path.{subst}
use mathlib.Core.List.{List}
use Prim.Native.Nat.{ℕ, ◌^◌, ◌<◌}
use native.Mathlib.Omega.{arith}
use Rattle.answers.specs.Answers.{changed_answer}
use Rattle.listing_text.specs.Text.{Written}
use Rattle.listing_text.proofs.Printing.{ok-room, no_room}
use Rattle.listing_answers.proofs.Changes.{ok-answer, no_answer}
use Rattle.listing_answers.proofs.changing.changed_line.Statement.{statement}
use Rattle.listing_answers.proofs.changing.changed_line.Tie as tie

record Facts (c : tie.After-struct_known-1) : Type 0 where
  pub number : c.before.before.args.x.number < 2 ^ 32
  pub position : c.before.before.args.x.position < 2 ^ 32
  pub touched : c.before.before.args.x.touched < 2 ^ 32
  pub entries : c.before.before.args.x.entries < 2 ^ 32
  pub grade : c.before.before.args.x.grade < 2 ^ 32

facts : (c : tie.After-struct_known-1) → Facts c
facts c =
    let g = c.struct_known-1.given in
    record { number = omega arith; position = omega arith; touched = omega arith; entries = omega arith; grade = omega arith }

ok-line-requires : tie.Need-ok_line-requires
ok-line-requires c κs =
    let k = c.before.before in
    let f = facts k in
    let x = k.before.before.args.x in
    record { room = omega (arith, k.before.before.requires, ok-room x.touched x.entries x.grade f.touched f.entries f.grade) }

same_length : tie.Need-shape_of-out-then-x-eq0
same_length c = c.before.before.ok_line.auto.out

returns : tie.Need-returns-then-x-eq0
returns c =
    let o = c.before.before in
    let t = o.before.before in
    let s = t.before.before.before in
    subst (λ (bs : List ℕ). Written s.args.out.now 0 bs o.ok_line.new.out o.ok_line.result) (ok-answer (changed_answer s.args.x) t.if-x-eq0.true) o.ok_line.ensures

no-line-requires : tie.Need-no_line-requires
no-line-requires c κs =
    let k = c.before.before in
    let f = facts k in
    let x = k.before.before.args.x in
    record { room = omega (arith, k.before.before.requires, no_room x.number x.position f.number f.position) }

same-length-2 : tie.Need-shape_of-out
same-length-2 c = c.before.before.no_line.auto.out

returns-2 : tie.Need-returns
returns-2 c =
    let o = c.before.before in
    let t = o.before.before in
    let s = t.before.before.before in
    subst (λ (bs : List ℕ). Written s.args.out.now 0 bs o.no_line.new.out o.no_line.result) (no_answer (changed_answer s.args.x) t.if-x-eq0.false) o.no_line.ensures

pub changed_line_spec : {M : Type 1} → statement M
changed_line_spec =
    tie.close
    (tie.spec ok-line-requires same_length returns no-line-requires same-length-2 returns-2)
