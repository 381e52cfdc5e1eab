use Rattle.book.proofs.Layouts.{laid_on}
use Rattle.book.proofs.books.Layout.lay.Goals as goal

pub returns-in-Ok-clause-laid : goal.returns-in-Ok-clause-laid
returns-in-Ok-clause-laid g c =
    let x = c.args.self.now in
    let l = g.L.Ledger.means x.ledger in
    let rs = g.B.Bank.means x.bank in
    λ p h. laid_on g.K.Kind.coding l rs _ c.args.item _ c.args.value p c.open_word.ensures.after c.encode-word.ensures h

pub returns-in-Err-clause-laid : goal.returns-in-Err-clause-laid
returns-in-Err-clause-laid g c =
    let x = c.args.self.now in
    let l = g.L.Ledger.means x.ledger in
    let rs = g.B.Bank.means x.bank in
    λ p h. laid_on g.K.Kind.coding l rs _ c.args.item _ c.args.value p c.open_word.ensures.after c.encode-word.ensures h
