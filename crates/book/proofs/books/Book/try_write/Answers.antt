use Rattle.std.proofs.Common.{◌≡◌, Err, refl, ap, ◌∙◌, rules}
use Rattle.std.proofs.lemmas.Result.{err_from_is_err_and}
use Rattle.law.specs.Books.{slot_at}
use Rattle.law.specs.Calls.{write_on}
use Rattle.book.specs.Answers.{answer_of, by_list}
use Rattle.book.specs.Books.{book_of}
use Rattle.book.proofs.Calls.{refused}
use Rattle.book.proofs.Entries.{open-admitted, write-by}
use Rattle.book.proofs.Rows.{book}
use Rattle.book.proofs.Transactions.{entered_here, write-past, write-done}
use Rattle.book.proofs.books.Book.try_write.Goals as goal

pub returns-in_err-enter : goal.returns-in_err-enter
returns-in_err-enter g c =
    let k = g.K.Kind.coding in
    let b = book_of g.L.Ledger.means g.B.Bank.means c.args.self.now in
    let s = c.args.at.site in
    let j = c.args.at.slot in
    let p = err_from_is_err_and c.from_residual.result c.from_residual.ensures.1 in
    refused k b (book_of g.L.Ledger.means g.B.Bank.means c.enter.new.self) 87 s j _ (λ _ _. write_on k b s j c.args.item c.args.value (slot_at b s j)) (write-by k b s j c.args.item c.args.value) _ _ c.in_err-enter.ensures
    (ap (answer_of k) (p.1 ∙ ap Err p.2))

pub returns-in_err-item : goal.returns-in_err-item
returns-in_err-item g c =
    let k = g.K.Kind.coding in
    let b = book_of g.L.Ledger.means g.B.Bank.means c.args.self.now in
    let s = c.args.at.site in
    let j = c.args.at.slot in
    let b' = book_of g.L.Ledger.means g.B.Bank.means c.enter.new.self in
    let n = c.in_ok-enter.field-0 in
    let o = open-admitted k b s j 87 b' n refl refl refl c.in_ok-enter.ensures in
    let p = err_from_is_err_and c.from_residual-in_err-item.result c.from_residual-in_err-item.ensures.1 in
    write-past k b b' s j n c.args.item o c.args.value _ _ c.in_err-item.ensures (ap (answer_of k) (p.1 ∙ ap Err p.2))

pub returns : goal.returns
returns g c =
    let k = g.K.Kind.coding in
    let b = book_of g.L.Ledger.means g.B.Bank.means c.args.self.now in
    let s = c.args.at.site in
    let j = c.args.at.slot in
    let y = c.enter.new.self in
    let l = g.L.Ledger.means y.ledger in
    let rs = g.B.Bank.means y.bank in
    let rows = y.slots in
    let b' = book l rs rows y.refusals in
    let n = c.in_ok-enter.field-0 in
    let o = open-admitted k b s j 87 b' n refl refl refl c.in_ok-enter.ensures in
    let h = entered_here k b s j 87 l rs rows y.refusals n c.in_ok-enter.ensures o in
    let i = c.in_ok-item.item in
    let told : c.map_err.result ≡ by_list c.put.result = search rules in
    write-done k b l rs rows y.refusals s j n c.args.item i h o c.in_ok-item.ensures c.args.value c.encode-word.result c.encode-word.ensures c.put.result _ c.put.new.self
    c.put.ensures.answer c.put.ensures.after told
