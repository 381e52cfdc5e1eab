use Rattle.std.proofs.Common.{◌≡◌, ap, ◌∙◌, arith, rules}
use Rattle.book.specs.Entering.{by_slot, entry}
use Rattle.book.proofs.Calls.{site-found}
use Rattle.book.proofs.Rows.{book, enters}
use Rattle.book.proofs.books.Book.enter.Goals as goal

pub returns : goal.returns
returns g c =
    let x = c.args.self.now in
    let l = g.L.Ledger.means x.ledger in
    let rs = g.B.Bank.means x.bank in
    let rows = x.slots in
    let s = c.args.at.site in
    let v = c.in_ok-version.version in
    let there = site-found (book l rs rows x.refusals) s v c.in_ok-version.ensures in
    let told : c.map_err.result ≡ by_slot c.admit.result = search rules in
    ap (entry _) told ∙ enters l rs rows x.refusals s c.args.letter c.args.at.slot v _ there (omega arith) c.admit.ensures.after _ c.admit.ensures.answer
