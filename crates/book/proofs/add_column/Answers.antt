use Rattle.book.proofs.Adding.{add-write, add-has, added}
use Rattle.book.proofs.add_column.Goals as goal

pub write_rows-last-requires : goal.write_rows-last-requires
write_rows-last-requires c = add-write c.requires

pub cut_after-rest-requires : goal.cut_after-rest-requires
cut_after-rest-requires c = add-has c.requires c.write_rows-last.ensures

pub returns : goal.returns
returns c = added c.requires c.write_rows-last.ensures c.cut_after-rest.ensures.next c.cut_after-rest.ensures.after
