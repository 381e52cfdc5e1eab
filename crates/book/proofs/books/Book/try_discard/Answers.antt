use Rattle.std.proofs.Common.{Err, ap, ◌∙◌}
use Rattle.std.proofs.lemmas.Result.{err_from_is_err_and}
use Rattle.law.specs.declared.codes.Code.TheVariants.{Accepted}
use Rattle.law.specs.Books.{settled}
use Rattle.law.specs.Calls.{plain, accept}
use Rattle.book.specs.Answers.{answer_of}
use Rattle.book.specs.Books.{book_of}
use Rattle.book.proofs.Calls.{same_outcome, gone-on, refused}
use Rattle.book.proofs.Entries.{drop-by}
use Rattle.book.proofs.books.Book.try_discard.Goals as goal

pub returns-in_err-snapshot : goal.returns-in_err-snapshot
returns-in_err-snapshot g c =
    let k = g.K.Kind.coding in
    let b = book_of g.L.Ledger.means g.B.Bank.means c.args.self.now in
    let s = c.args.at.site in
    let j = c.args.at.slot in
    let p = err_from_is_err_and c.from_residual.result c.from_residual.ensures.1 in
    refused k b (book_of g.L.Ledger.means g.B.Bank.means c.enter.new.self) 88 s j _ (λ x n. accept k (settled x s) n) (drop-by k b s j) _ _ c.in_err-snapshot.ensures (ap (answer_of k) (p.1 ∙ ap Err p.2))

pub returns : goal.returns
returns g c =
    let k = g.K.Kind.coding in
    let b = book_of g.L.Ledger.means g.B.Bank.means c.args.self.now in
    let s = c.args.at.site in
    let j = c.args.at.slot in
    gone-on k b (book_of g.L.Ledger.means g.B.Bank.means c.enter.new.self) 88 s j _ (λ x n. accept k (settled x s) n) (drop-by k b s j) c.in_ok-snapshot.snapshot _ c.in_ok-snapshot.ensures
    (same_outcome _ _ _ _ c.settle.ensures (ap (plain k Accepted) c.from.ensures))
