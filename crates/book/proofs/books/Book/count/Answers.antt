use Rattle.std.proofs.Common.{ap, ◌∙◌}
use Rattle.law.specs.declared.codes.Code.TheVariants.{Accepted}
use Rattle.law.specs.Calls.{plain}
use Rattle.book.specs.Books.{book_of}
use Rattle.book.proofs.Calls.{count-told}
use Rattle.book.proofs.Laws.{count_law}
use Rattle.book.proofs.books.Book.count.Goals as goal

pub returns : goal.returns
returns g c =
    let k = g.K.Kind.coding in
    let b = book_of g.L.Ledger.means g.B.Bank.means c.args.self.now in
    let e = count-told k b _ (c.answered.ensures ∙ ap (plain k Accepted) c.from.ensures) in
    record { is = e; law = count_law k g.met.K.Kind.faithful _ _ _ e }
