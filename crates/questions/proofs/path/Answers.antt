-- `questions::path` meets its contract: a path has no more rows than there are. Assumes nothing.
use native.Mathlib.Omega.{arith}
use lib.ListN.{length}
use Rattle.questions.proofs.Replies.{row_in}
use Rattle.questions.proofs.Following.{path-short}
use Rattle.questions.proofs.path.Goals as goal

pub overflow_cast-n : goal.overflow_cast-n
overflow_cast-n c =
    let t = row_in (length c.args.parents.now) c.args.j.0 c.row_outside.ensures c.if-row_outside.false in
    let f = c.requires.followed in
    omega (arith, c.path_length-n.ensures c.requires.register f, path-short f c.args.j.0 t.1 t.2, c.requires.narrow)
