use Rattle.std.proofs.Common.{ap, ◌∙◌}
use Rattle.book.specs.Books.{book_of}
use Rattle.book.proofs.Calls.{told}
use Rattle.law.specs.Calls.{close_call}
use Rattle.slots.specs.declared.places.Place.{Place}
use Rattle.book.proofs.Laws.{close-law}
use Rattle.book.proofs.books.Book.close.Goals as goal

pub returns : goal.returns
returns g c =
    let k = g.K.Kind.coding in
    let b = book_of g.L.Ledger.means g.B.Bank.means c.args.self.now in
    let s = c.args.site in
    let j = c.args.slot in
    let e = told k _ c.try_close.result _ _ (c.try_close.ensures ∙ ap (λ (z : Place). close_call k b z.site z.slot) c.new.ensures) c.answered.ensures in
    record { is = e; law = close-law k g.met.K.Kind.faithful _ _ _ s j e }
