use Rattle.std.proofs.Common.{ap, ◌∙◌}
use Rattle.book.specs.Books.{book_of, outcome}
use Rattle.law.specs.Calls.{read_call}
use Rattle.slots.specs.declared.places.Place.{Place}
use Rattle.book.proofs.Laws.{read-law}
use Rattle.book.proofs.books.Book.read.Goals as goal

pub returns-in-Ok : goal.returns-in-Ok
returns-in-Ok g c =
    let k = g.K.Kind.coding in
    let b = book_of g.L.Ledger.means g.B.Bank.means c.args.self.now in
    let e = c.in-Ok.ensures
    ∙ ap (λ (z : Place). read_call k b z.site z.slot c.args.item) c.new.ensures in
    record { is = e; law = read-law k g.met.K.Kind.faithful _ _ _ c.args.site c.args.slot c.args.item e }

pub returns-in-Err : goal.returns-in-Err
returns-in-Err g c =
    let k = g.K.Kind.coding in
    let b = book_of g.L.Ledger.means g.B.Bank.means c.args.self.now in
    let e = ap (outcome (book_of g.L.Ledger.means g.B.Bank.means c.try_read.new.self)) c.answer.ensures ∙ c.in-Err.ensures
    ∙ ap (λ (z : Place). read_call k b z.site z.slot c.args.item) c.new.ensures in
    record { is = e; law = read-law k g.met.K.Kind.faithful _ _ _ c.args.site c.args.slot c.args.item e }
