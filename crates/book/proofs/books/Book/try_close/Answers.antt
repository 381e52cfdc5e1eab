use Rattle.std.proofs.Common.{◌≡◌, Err, ap, ◌∙◌, arith}
use Rattle.std.proofs.lemmas.Result.{err_from_is_err_and}
use Rattle.law.specs.declared.codes.Code.TheVariants.{Accepted, NotDelivered}
use Rattle.law.specs.Slots.SlotModel.{idle}
use Rattle.law.specs.Books.{with_slot}
use Rattle.law.specs.Calls.{plain}
use Rattle.book.specs.Answers.{answer_of}
use Rattle.book.specs.Books.{book_of, outcome}
use Rattle.book.proofs.Calls.{gone-on, refused}
use Rattle.book.proofs.Entries.{closing, close-by}
use Rattle.book.proofs.Rows.{book, slot-replaced}
use Rattle.book.proofs.Transactions.{close-early, close-due}
use Rattle.book.proofs.books.Book.try_close.Goals as goal

pub returns-in_err-number : goal.returns-in_err-number
returns-in_err-number g c =
    let k = g.K.Kind.coding in
    let b = book_of g.L.Ledger.means g.B.Bank.means c.args.self.now in
    let s = c.args.at.site in
    let j = c.args.at.slot in
    let p = err_from_is_err_and c.from_residual.result c.from_residual.ensures.1 in
    refused k b (book_of g.L.Ledger.means g.B.Bank.means c.enter.new.self) 67 s j _ (closing k b s j) (close-by k b s j) _ _ c.in_err-number.ensures (ap (answer_of k) (p.1 ∙ ap Err p.2))

pub returns-then-number-version : goal.returns-then-number-version
returns-then-number-version g c =
    let k = g.K.Kind.coding in
    let b = book_of g.L.Ledger.means g.B.Bank.means c.args.self.now in
    let b' = book_of g.L.Ledger.means g.B.Bank.means c.enter.new.self in
    let s = c.args.at.site in
    let j = c.args.at.slot in
    let n = c.in_ok-number.number in
    gone-on k b b' 67 s j _ (closing k b s j) (close-by k b s j) n _ c.in_ok-number.ensures
    (ap (λ z. outcome b' (plain k NotDelivered z)) c.from.ensures ∙ close-early k s j b' n _ c.version_at-version.ensures (omega arith))

pub returns : goal.returns
returns g c =
    let k = g.K.Kind.coding in
    let b = book_of g.L.Ledger.means g.B.Bank.means c.args.self.now in
    let b' = book_of g.L.Ledger.means g.B.Bank.means c.enter.new.self in
    let y = c.enter.new.self in
    let s = c.args.at.site in
    let j = c.args.at.slot in
    let n = c.in_ok-number.number in
    let l = g.L.Ledger.means y.ledger in
    let rs = g.B.Bank.means y.bank in
    let b'' = book l rs c.end.new.self y.refusals in
    let moved : b'' ≡ with_slot b' s j idle = slot-replaced l rs y.slots y.refusals s j _ idle c.end.ensures in
    gone-on k b b' 67 s j _ (closing k b s j) (close-by k b s j) n _ c.in_ok-number.ensures
    (ap (λ z. outcome b'' (plain k Accepted z)) c.from-2.ensures ∙ close-due k s j b' b'' n _ c.version_at-version.ensures (omega arith) moved)
