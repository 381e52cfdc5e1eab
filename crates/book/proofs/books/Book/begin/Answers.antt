use Rattle.std.proofs.Common.{◌≡◌, ap, ◌∙◌, rules}
use Rattle.book.specs.Answers.{answer_of}
use Rattle.book.specs.Books.{book_of, outcome}
use Rattle.book.proofs.Calls.{told}
use Rattle.book.proofs.Entries.{begin-told}
use Rattle.law.specs.Calls.{begin_call}
use Rattle.slots.specs.declared.places.Place.{Place}
use Rattle.book.proofs.Laws.{begin-law}
use Rattle.book.proofs.books.Book.begin.Goals as goal

pub returns : goal.returns
returns g c =
    let k = g.K.Kind.coding in
    let b = book_of g.L.Ledger.means g.B.Bank.means c.args.self.now in
    let b' = book_of g.L.Ledger.means g.B.Bank.means c.enter.new.self in
    let s = c.args.site in
    let j = c.args.slot in
    let same : c.map.result ≡ c.enter.result = search rules in
    let e = told k b' c.map.result _ _ (ap (λ z. outcome b' (answer_of k z)) same ∙ begin-told k b _ _ b' c.enter.result c.enter.ensures
    ∙ ap (λ (z : Place). begin_call k b z.site z.slot) c.new.ensures) c.answered.ensures in
    record { is = e; law = begin-law k g.met.K.Kind.faithful b b' _ s j e }
