use Rattle.std.proofs.Common.{◌<◌, length, ap, arith}
use Rattle.entries.specs.Lists.{writes}
use Rattle.entries.specs.Items.{flags_of}
use Rattle.law.specs.declared.codes.Code.TheVariants.{Accepted}
use Rattle.law.specs.Calls.{plain}
use Rattle.book.proofs.Filings.{filing-added, filing-refused}
use Rattle.book.proofs.books.Book.file_open.Goals as goal

pub returns-in-Ok : goal.returns-in-Ok
returns-in-Ok g c =
    let k = g.K.Kind.coding in
    let x = c.args.self.now in
    let l = g.L.Ledger.means x.ledger in
    let rs = g.B.Bank.means x.bank in
    let rows = x.slots in
    let s = c.args.at.site in
    let j = c.args.at.slot in
    let n = c.args.snapshot in
    let ws = writes c.list-list.result in
    let flags = flags_of c.touched-items.result in
    let l' = g.L.Ledger.means c.file.new.ledger in
    let some : 0 < length ws = (let e = c.len.ensures in let z = c.if-len-eq0.false in omega arith) in
    filing-added k l l' rs rows x.refusals s j n c.requires ws flags c.list-list.ensures c.touched-items.ensures c.in-Ok.number _ _ _ some c.in-Ok.ensures.answer c.file.ensures.after
    c.filed.ensures c.settle.ensures (ap (plain k Accepted) c.from-in-Ok.ensures)

pub returns-in-Err : goal.returns-in-Err
returns-in-Err g c =
    let k = g.K.Kind.coding in
    let x = c.args.self.now in
    let l = g.L.Ledger.means x.ledger in
    let rs = g.B.Bank.means x.bank in
    let rows = x.slots in
    let s = c.args.at.site in
    let j = c.args.at.slot in
    let n = c.args.snapshot in
    let ws = writes c.list-list.result in
    let flags = flags_of c.touched-items.result in
    let l' = g.L.Ledger.means c.file.new.ledger in
    let some : 0 < length ws = (let e = c.len.ensures in let z = c.if-len-eq0.false in omega arith) in
    filing-refused k l l' rs rows x.refusals s j n c.requires ws flags c.list-list.ensures c.touched-items.ensures c.in-Err.refusal _ some c.in-Err.ensures.answer c.file.ensures.after
    c.refuse_filing.ensures
