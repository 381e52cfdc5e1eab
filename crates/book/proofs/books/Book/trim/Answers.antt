use Rattle.book.proofs.Calls.{told}
use Rattle.book.proofs.Laws.{trim-law}
use Rattle.book.proofs.books.Book.trim.Goals as goal

pub returns : goal.returns
returns g c =
    let k = g.K.Kind.coding in
    let e = told k _ c.try_trim.result _ _ c.try_trim.ensures c.answered.ensures in
    record { is = e; law = trim-law k g.met.K.Kind.faithful _ _ _ c.args.to e }
