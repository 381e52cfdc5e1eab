use Rattle.std.proofs.Common.{Err, ap, ◌∙◌}
use Rattle.std.proofs.lemmas.Result.{err_from_is_err_and}
use Rattle.law.specs.declared.codes.Code.TheVariants.{Accepted}
use Rattle.law.specs.Calls.{plain}
use Rattle.book.specs.Books.{book_of}
use Rattle.book.proofs.Calls.{site-found, restart-nowhere}
use Rattle.book.proofs.Rows.{book}
use Rattle.book.proofs.Sites.{restart-told}
use Rattle.book.proofs.books.Book.try_restart.Goals as goal

pub returns-in_err-known_version : goal.returns-in_err-known_version
returns-in_err-known_version g c =
    let p = err_from_is_err_and c.from_residual.result c.from_residual.ensures.1 in
    restart-nowhere g.K.Kind.coding (book_of g.L.Ledger.means g.B.Bank.means c.args.self.now) c.args.site _ _ c.in_err-known_version.ensures (p.1 ∙ ap Err p.2)

pub returns : goal.returns
returns g c =
    let k = g.K.Kind.coding in
    let x = c.args.self.now in
    let l = g.L.Ledger.means x.ledger in
    let rs = g.B.Bank.means x.bank in
    let rows = x.slots in
    let s = c.args.site in
    let v = c.in_ok-known_version.field-0 in
    let there = site-found (book l rs rows x.refusals) s v c.in_ok-known_version.ensures in
    restart-told k l rs rows x.refusals s _ _ _ _ there.0 c.restart-lost.ensures.after c.restart-lost.ensures.answer c.settle.ensures (ap (plain k Accepted) c.from.ensures)
