use Rattle.std.proofs.Common.{Err, refl, ap, ◌∙◌}
use Rattle.std.proofs.lemmas.Result.{err_from_is_err_and}
use Rattle.law.specs.Books.{slot_at}
use Rattle.law.specs.Calls.{file_on}
use Rattle.book.specs.Answers.{answer_of}
use Rattle.book.specs.Books.{book_of}
use Rattle.book.proofs.Calls.{refused}
use Rattle.book.proofs.Entries.{open-admitted, file-by}
use Rattle.book.proofs.Filings.{filed-open}
use Rattle.book.proofs.books.Book.try_file.Goals as goal

pub returns-in_err-snapshot : goal.returns-in_err-snapshot
returns-in_err-snapshot g c =
    let k = g.K.Kind.coding in
    let b = book_of g.L.Ledger.means g.B.Bank.means c.args.self.now in
    let s = c.args.at.site in
    let j = c.args.at.slot in
    let p = err_from_is_err_and c.from_residual.result c.from_residual.ensures.1 in
    refused k b (book_of g.L.Ledger.means g.B.Bank.means c.enter.new.self) 70 s j _ (λ _ _. file_on k b s j (slot_at b s j)) (file-by k b s j) _ _ c.in_err-snapshot.ensures
    (ap (answer_of k) (p.1 ∙ ap Err p.2))

pub returns : goal.returns
returns g c =
    let k = g.K.Kind.coding in
    let b = book_of g.L.Ledger.means g.B.Bank.means c.args.self.now in
    let s = c.args.at.site in
    let j = c.args.at.slot in
    let b' = book_of g.L.Ledger.means g.B.Bank.means c.enter.new.self in
    let n = c.in_ok-snapshot.snapshot in
    c.file_open.ensures ∙ filed-open k b b' s j n (open-admitted k b s j 70 b' n refl refl refl c.in_ok-snapshot.ensures)
