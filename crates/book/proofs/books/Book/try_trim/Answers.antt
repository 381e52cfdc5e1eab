use Rattle.std.proofs.Common.{ap, ◌∙◌, arith}
use Rattle.law.specs.declared.codes.Code.TheVariants.{Accepted, AboveHead}
use Rattle.law.specs.Books.{with_ledger}
use Rattle.law.specs.Calls.{plain}
use Rattle.book.specs.Books.{book_of, outcome}
use Rattle.book.proofs.Sites.{trim-above, trim-behind, trim-told}
use Rattle.book.proofs.books.Book.try_trim.Goals as goal

pub returns-then-to-head : goal.returns-then-to-head
returns-then-to-head g c =
    let k = g.K.Kind.coding in
    let b = book_of g.L.Ledger.means g.B.Bank.means c.args.self.now in
    ap (λ z. outcome b (plain k AboveHead z)) c.from.ensures ∙ trim-above k b c.args.to _ c.head-head.ensures c.if-to-head.true

pub returns-in-Some : goal.returns-in-Some
returns-in-Some g c =
    trim-behind g.K.Kind.coding (book_of g.L.Ledger.means g.B.Bank.means c.args.self.now) c.args.to _ (omega arith) c.in-Some.ensures

pub returns : goal.returns
returns g c =
    let k = g.K.Kind.coding in
    let b = book_of g.L.Ledger.means g.B.Bank.means c.args.self.now in
    let l' = g.L.Ledger.means c.trim.new.self in
    ap (λ z. outcome (with_ledger b l') (plain k Accepted z)) c.from-2.ensures
    ∙ trim-told k b c.args.to l' _ (omega arith) c.in_default.ensures c.trim.ensures c.floor.ensures
