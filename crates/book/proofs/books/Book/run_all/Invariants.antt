use Rattle.book.specs.Books.{book_of}
use Rattle.book.proofs.Runs.{Ran}
use Rattle.book.proofs.books.Book.run_all.Given as goal

abbrev pub invariant-loop-i : goal.invariant-loop-i
invariant-loop-i g l =
    Ran g.K.Kind.coding (book_of g.L.Ledger.means g.B.Bank.means l.initial.self) l.calls l.initial.answers
    (book_of g.L.Ledger.means g.B.Bank.means l.self) l.answers l.i
