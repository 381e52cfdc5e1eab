use Rattle.std.proofs.Common.{◌≡◌, ◌∙◌, rules}
use Rattle.book.specs.Books.{book_of}
use Rattle.book.proofs.Calls.{told, version-told}
use Rattle.book.proofs.Laws.{version-law}
use Rattle.book.proofs.books.Book.version.Goals as goal

pub returns : goal.returns
returns g c =
    let k = g.K.Kind.coding in
    let b = book_of g.L.Ledger.means g.B.Bank.means c.args.self.now in
    let same : c.map.result ≡ c.known_version.result = search rules in
    let e = told k b c.map.result _ _ (version-told k b c.args.site _ (same ∙ c.known_version.ensures)) c.answered.ensures in
    record { is = e; law = version-law k g.met.K.Kind.faithful b b _ c.args.site e }
