use Rattle.std.proofs.Common.{Err, ap, ◌∙◌, arith}
use Rattle.std.proofs.lemmas.Result.{err_from_is_err_and}
use Rattle.entries.specs.Lists.{writes}
use Rattle.law.specs.declared.codes.Code.TheVariants.{Accepted, NothingToDeliver}
use Rattle.law.specs.Calls.{plain}
use Rattle.book.specs.Books.{book_of, outcome}
use Rattle.book.proofs.Calls.{site-found, deliver-nowhere}
use Rattle.book.proofs.Rows.{book}
use Rattle.book.proofs.Sites.{deliver-none, delivered, deliver-refused}
use Rattle.book.proofs.books.Book.try_deliver.Goals as goal

pub returns-in_err-version : goal.returns-in_err-version
returns-in_err-version g c =
    let p = err_from_is_err_and c.from_residual.result c.from_residual.ensures.1 in
    deliver-nowhere g.K.Kind.coding (book_of g.L.Ledger.means g.B.Bank.means c.args.self.now) c.args.site _ _ c.in_err-version.ensures (p.1 ∙ ap Err p.2)

pub returns-then-version-head : goal.returns-then-version-head
returns-then-version-head g c =
    let k = g.K.Kind.coding in
    let b = book_of g.L.Ledger.means g.B.Bank.means c.args.self.now in
    let s = c.args.site in
    ap (λ z. outcome b (plain k NothingToDeliver z)) c.from.ensures ∙ deliver-none k b s _ (site-found b s c.in_ok-version.version c.in_ok-version.ensures) (omega arith)

pub returns-in-Ok : goal.returns-in-Ok
returns-in-Ok g c =
    let k = g.K.Kind.coding in
    let x = c.args.self.now in
    let l = g.L.Ledger.means x.ledger in
    let rs = g.B.Bank.means x.bank in
    let rows = x.slots in
    let s = c.args.site in
    let v = c.in_ok-version.version in
    let there = site-found (book l rs rows x.refusals) s v c.in_ok-version.ensures in
    delivered k l rs rows x.refusals s v there (writes c.fetch-set.result) (g.B.Bank.means c.take.new.self) (omega arith) c.fetch-set.ensures c.take.ensures.after
    c.in-Ok.version _ _ c.in-Ok.ensures.answer c.settle.ensures (ap (plain k Accepted) c.from-in-Ok.ensures)

pub returns-in-Err : goal.returns-in-Err
returns-in-Err g c =
    let k = g.K.Kind.coding in
    let x = c.args.self.now in
    let l = g.L.Ledger.means x.ledger in
    let rs = g.B.Bank.means x.bank in
    let rows = x.slots in
    let s = c.args.site in
    let v = c.in_ok-version.version in
    let there = site-found (book l rs rows x.refusals) s v c.in_ok-version.ensures in
    deliver-refused k l rs rows x.refusals s v there (writes c.fetch-set.result) (g.B.Bank.means c.take.new.self) (omega arith) c.fetch-set.ensures c.take.ensures.after
    _ c.used_at.result c.in-Err.ensures.answer c.used_at.ensures
