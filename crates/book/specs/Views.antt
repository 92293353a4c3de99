-- What a contract says of the book's tables that go together in a view. Assumes nothing: these are definitions.
use Rattle.std.specs.Prelude.{ℕ}
use Rattle.book.specs.Book.{Book, book_of}
use Rattle.book.specs.declared.BookView.{BookView}

-- the book's tables that a view lends, with a free head; 0 for what does not depend on it
abbrev pub book_viewed : BookView → (free : ℕ) → Book
book_viewed v f = book_of v.heads.now v.rows.now v.next.now f
