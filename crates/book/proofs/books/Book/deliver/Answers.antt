use Rattle.book.proofs.Calls.{told}
use Rattle.book.proofs.Laws.{deliver-law}
use Rattle.book.proofs.books.Book.deliver.Goals as goal

pub returns : goal.returns
returns g c =
    let k = g.K.Kind.coding in
    let s = c.args.site in
    let e = told k _ c.try_deliver.result _ _ c.try_deliver.ensures c.answered.ensures in
    record { is = e; law = deliver-law k g.met.K.Kind.faithful _ _ _ s e }
