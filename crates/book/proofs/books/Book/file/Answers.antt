use Rattle.std.proofs.Common.{ap, ◌∙◌}
use Rattle.book.specs.Books.{book_of}
use Rattle.book.proofs.Calls.{told}
use Rattle.law.specs.Calls.{file_call}
use Rattle.slots.specs.declared.places.Place.{Place}
use Rattle.book.proofs.Laws.{file-law}
use Rattle.book.proofs.books.Book.file.Goals as goal

pub returns : goal.returns
returns g c =
    let k = g.K.Kind.coding in
    let b = book_of g.L.Ledger.means g.B.Bank.means c.args.self.now in
    let s = c.args.site in
    let j = c.args.slot in
    let e = told k _ c.try_file.result _ _ (c.try_file.ensures ∙ ap (λ (z : Place). file_call k b z.site z.slot) c.new.ensures) c.answered.ensures in
    record { is = e; law = file-law k g.met.K.Kind.faithful _ _ _ s j e }
