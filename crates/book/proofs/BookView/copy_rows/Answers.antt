use Rattle.std.proofs.Common.{arith}
use Rattle.lists.proofs.Place.{values_length}
use Rattle.lists.specs.Lists.{at}
use Rattle.pool.specs.Chains.{chain}
use Rattle.book.proofs.Copying.{id-linked, id-few, copying-start, copying-long, copying-turn, copying-end}
use Rattle.book.proofs.BookView.copy_rows.Goals as goal

pub loop-r-init : goal.loop-r-init
loop-r-init c = copying-start _ _ (id-linked c.requires.has)

pub bounds-self-i : goal.bounds-self-i
bounds-self-i c = let t = copying-turn c.requires.fits c.loop-r.invariant c.loop-r-test.true in omega (arith, c.requires.has.sized)

pub bounds-list-n : goal.bounds-list-n
bounds-list-n c =
    let q = c.requires.fits in
    let t = copying-turn q c.loop-r.invariant c.loop-r-test.true in
    omega (arith, copying-long q c.loop-r.invariant, values_length c.args.self.rows.now (chain c.args.self.next.now (at c.args.self.heads.now c.args.id.0)))

pub bounds-self-i-in-loop-r : goal.bounds-self-i-in-loop-r
bounds-self-i-in-loop-r c = let t = copying-turn c.requires.fits c.loop-r.invariant c.loop-r-test.true in omega arith

pub overflow_add-n : goal.overflow_add-n
overflow_add-n c = let t = copying-turn c.requires.fits c.loop-r.invariant c.loop-r-test.true in omega (arith, id-few c.requires.has)

pub loop-r-smaller : goal.loop-r-smaller
loop-r-smaller c = let t = copying-turn c.requires.fits c.loop-r.invariant c.loop-r-test.true in omega arith

pub loop-r-preserved : goal.loop-r-preserved
loop-r-preserved c = (copying-turn c.requires.fits c.loop-r.invariant c.loop-r-test.true).again

pub returns : goal.returns
returns c =
    let e = copying-end c.requires.fits c.loop-r.invariant c.loop-r-test.false in record { number = e.0; written = e.1 }
