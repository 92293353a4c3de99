use Rattle.book.proofs.Removing.{remove-clear, remove-has, removed}
use Rattle.book.proofs.remove_column.Goals as goal

pub clear_rows-last-requires : goal.clear_rows-last-requires
clear_rows-last-requires c = rw c.replace.ensures.value (remove-clear c.requires)

pub join_after-requires : goal.join_after-requires
join_after-requires c =
    let d = rw c.replace.ensures.value at c.clear_rows-last.ensures in
    remove-has c.requires d

pub returns : goal.returns
returns c =
    let d = rw c.replace.ensures.value at c.clear_rows-last.ensures in
    rw (c.replace.ensures.value, c.replace.ensures.after) (removed c.requires d c.join_after.ensures)
