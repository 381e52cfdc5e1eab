use Rattle.std.proofs.Common.{ap}
use Rattle.ledgers.specs.declared.ledger.LedgerRefusal.TheVariants.{BelowFloor, Conflict, NoWrites, LastVersion, Full}
use Rattle.law.specs.declared.codes.Code.TheVariants.{Accepted, NumbersUsedUp, LedgerFull}
use Rattle.law.specs.Calls.{plain, file_by}
use Rattle.book.specs.Books.{book_of, outcome}
use Rattle.book.proofs.Calls.{same_outcome}
use Rattle.book.proofs.Filings.{refused_as}
use Rattle.book.proofs.books.Book.refuse_filing.Goals as goal

pub returns-in-BelowFloor : goal.returns-in-BelowFloor
unfolding file_by
returns-in-BelowFloor g c =
    let k = g.K.Kind.coding in
    let b = book_of g.L.Ledger.means g.B.Bank.means c.args.self.now in
    let s = c.args.at.site in
    let j = c.args.at.slot in
    let n = c.args.snapshot in
    refused_as k b s j n c.args.refusal (BelowFloor c.in-BelowFloor.floor) _ c.in-BelowFloor.is c.turn_away.ensures

pub returns-in-Conflict : goal.returns-in-Conflict
unfolding file_by
returns-in-Conflict g c =
    let k = g.K.Kind.coding in
    let b = book_of g.L.Ledger.means g.B.Bank.means c.args.self.now in
    let s = c.args.at.site in
    let j = c.args.at.slot in
    let n = c.args.snapshot in
    refused_as k b s j n c.args.refusal (Conflict c.in-Conflict.version) _ c.in-Conflict.is c.turn_away-in-Conflict.ensures

pub returns-in-NoWrites : goal.returns-in-NoWrites
unfolding file_by
returns-in-NoWrites g c =
    let k = g.K.Kind.coding in
    let b = book_of g.L.Ledger.means g.B.Bank.means c.args.self.now in
    let s = c.args.at.site in
    let j = c.args.at.slot in
    let n = c.args.snapshot in
    refused_as k b s j n c.args.refusal NoWrites _ c.in-NoWrites.is (same_outcome _ _ _ _ c.end.ensures (ap (plain k Accepted) c.from.ensures))

pub returns-in-LastVersion : goal.returns-in-LastVersion
unfolding file_by
returns-in-LastVersion g c =
    let k = g.K.Kind.coding in
    let b = book_of g.L.Ledger.means g.B.Bank.means c.args.self.now in
    let s = c.args.at.site in
    let j = c.args.at.slot in
    let n = c.args.snapshot in
    refused_as k b s j n c.args.refusal LastVersion _ c.in-LastVersion.is (ap (λ z. outcome b (plain k NumbersUsedUp z)) c.from-in-LastVersion.ensures)

pub returns-in-Full : goal.returns-in-Full
unfolding file_by
returns-in-Full g c =
    let k = g.K.Kind.coding in
    let b = book_of g.L.Ledger.means g.B.Bank.means c.args.self.now in
    let s = c.args.at.site in
    let j = c.args.at.slot in
    let n = c.args.snapshot in
    refused_as k b s j n c.args.refusal Full _ c.in-Full.is
    (ap (λ z. outcome b (plain k LedgerFull z)) c.capacity.ensures)
