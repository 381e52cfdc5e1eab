use Rattle.std.proofs.Common.{ap, ◌∙◌}
use Rattle.book.specs.Books.{book_of}
use Rattle.book.proofs.Calls.{told}
use Rattle.law.specs.Calls.{write_call}
use Rattle.slots.specs.declared.places.Place.{Place}
use Rattle.book.proofs.Laws.{write-law}
use Rattle.book.proofs.books.Book.write.Goals as goal

pub returns : goal.returns
returns g c =
    let k = g.K.Kind.coding in
    let b = book_of g.L.Ledger.means g.B.Bank.means c.args.self.now in
    let s = c.args.site in
    let j = c.args.slot in
    let e = told k _ c.try_write.result _ _ (c.try_write.ensures ∙ ap (λ (z : Place). write_call k b z.site z.slot c.args.item c.args.value) c.new.ensures) c.answered.ensures in
    record { is = e; law = write-law k g.met.K.Kind.faithful _ _ _ s j c.args.item c.args.value e }
