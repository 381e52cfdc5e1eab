use Rattle.std.proofs.Common.{ap, ◌∙◌}
use Rattle.law.specs.Slots.SlotModel.{idle}
use Rattle.law.specs.Books.{settled}
use Rattle.book.proofs.Rows.{slot-replaced}
use Rattle.book.proofs.books.Book.end.Goals as goal

pub returns : goal.returns
returns g c =
    let x = c.args.self.now in
    c.settle.ensures
    ∙ ap (λ z. settled z c.args.at.site)
    (slot-replaced (g.L.Ledger.means x.ledger) (g.B.Bank.means x.bank) x.slots x.refusals c.args.at.site c.args.at.slot _ idle c.end.ensures)
