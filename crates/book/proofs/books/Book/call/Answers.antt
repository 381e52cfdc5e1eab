use Rattle.std.proofs.Common.{arith}
use Rattle.book.specs.Books.{book_of, outcome}
use Rattle.book.proofs.Runs.{by-begin, by_read, by-write, by-file, by-close, by-drop, by-deliver, by-trim, by-restart, by-version, by_count, by-none, call-law}
use Rattle.book.proofs.books.Book.call.Goals as goal

pub returns-in-B : goal.returns-in-B
returns-in-B g c =
    let k = g.K.Kind.coding in
    let b = book_of g.L.Ledger.means g.B.Bank.means c.args.self.now in
    let b' = book_of g.L.Ledger.means g.B.Bank.means c.begin.new.self in
    let e = by-begin k b c.args.call c.args.letter (outcome b' c.begin.result) (omega arith) c.begin.ensures.is in
    record { is = e; law = call-law k b c.args.call g.met.K.Kind.faithful b' c.begin.result c.args.letter e }

pub returns-in-R : goal.returns-in-R
returns-in-R g c =
    let k = g.K.Kind.coding in
    let b = book_of g.L.Ledger.means g.B.Bank.means c.args.self.now in
    let b' = book_of g.L.Ledger.means g.B.Bank.means c.read.new.self in
    let e = by_read k b c.args.call c.args.letter (outcome b' c.read.result) (omega arith) c.read.ensures.is in
    record { is = e; law = call-law k b c.args.call g.met.K.Kind.faithful b' c.read.result c.args.letter e }

pub returns-in-W : goal.returns-in-W
returns-in-W g c =
    let k = g.K.Kind.coding in
    let b = book_of g.L.Ledger.means g.B.Bank.means c.args.self.now in
    let b' = book_of g.L.Ledger.means g.B.Bank.means c.write.new.self in
    let e = by-write k b c.args.call c.args.letter (outcome b' c.write.result) (omega arith) c.write.ensures.is in
    record { is = e; law = call-law k b c.args.call g.met.K.Kind.faithful b' c.write.result c.args.letter e }

pub returns-in-F : goal.returns-in-F
returns-in-F g c =
    let k = g.K.Kind.coding in
    let b = book_of g.L.Ledger.means g.B.Bank.means c.args.self.now in
    let b' = book_of g.L.Ledger.means g.B.Bank.means c.file.new.self in
    let e = by-file k b c.args.call c.args.letter (outcome b' c.file.result) (omega arith) c.file.ensures.is in
    record { is = e; law = call-law k b c.args.call g.met.K.Kind.faithful b' c.file.result c.args.letter e }

pub returns-in-C : goal.returns-in-C
returns-in-C g c =
    let k = g.K.Kind.coding in
    let b = book_of g.L.Ledger.means g.B.Bank.means c.args.self.now in
    let b' = book_of g.L.Ledger.means g.B.Bank.means c.close.new.self in
    let e = by-close k b c.args.call c.args.letter (outcome b' c.close.result) (omega arith) c.close.ensures.is in
    record { is = e; law = call-law k b c.args.call g.met.K.Kind.faithful b' c.close.result c.args.letter e }

pub returns-in-X : goal.returns-in-X
returns-in-X g c =
    let k = g.K.Kind.coding in
    let b = book_of g.L.Ledger.means g.B.Bank.means c.args.self.now in
    let b' = book_of g.L.Ledger.means g.B.Bank.means c.discard.new.self in
    let e = by-drop k b c.args.call c.args.letter (outcome b' c.discard.result) (omega arith) c.discard.ensures.is in
    record { is = e; law = call-law k b c.args.call g.met.K.Kind.faithful b' c.discard.result c.args.letter e }

pub returns-in-D : goal.returns-in-D
returns-in-D g c =
    let k = g.K.Kind.coding in
    let b = book_of g.L.Ledger.means g.B.Bank.means c.args.self.now in
    let b' = book_of g.L.Ledger.means g.B.Bank.means c.deliver.new.self in
    let e = by-deliver k b c.args.call c.args.letter (outcome b' c.deliver.result) (omega arith) c.deliver.ensures.is in
    record { is = e; law = call-law k b c.args.call g.met.K.Kind.faithful b' c.deliver.result c.args.letter e }

pub returns-in-T : goal.returns-in-T
returns-in-T g c =
    let k = g.K.Kind.coding in
    let b = book_of g.L.Ledger.means g.B.Bank.means c.args.self.now in
    let b' = book_of g.L.Ledger.means g.B.Bank.means c.trim.new.self in
    let e = by-trim k b c.args.call c.args.letter (outcome b' c.trim.result) (omega arith) c.trim.ensures.is in
    record { is = e; law = call-law k b c.args.call g.met.K.Kind.faithful b' c.trim.result c.args.letter e }

pub returns-in-U : goal.returns-in-U
returns-in-U g c =
    let k = g.K.Kind.coding in
    let b = book_of g.L.Ledger.means g.B.Bank.means c.args.self.now in
    let b' = book_of g.L.Ledger.means g.B.Bank.means c.restart.new.self in
    let e = by-restart k b c.args.call c.args.letter (outcome b' c.restart.result) (omega arith) c.restart.ensures.is in
    record { is = e; law = call-law k b c.args.call g.met.K.Kind.faithful b' c.restart.result c.args.letter e }

pub returns-in-V : goal.returns-in-V
returns-in-V g c =
    let k = g.K.Kind.coding in
    let b = book_of g.L.Ledger.means g.B.Bank.means c.args.self.now in
    let e = by-version k b c.args.call c.args.letter (outcome b c.version.result) (omega arith) c.version.ensures.is in
    record { is = e; law = call-law k b c.args.call g.met.K.Kind.faithful b c.version.result c.args.letter e }

pub returns-in-N : goal.returns-in-N
returns-in-N g c =
    let k = g.K.Kind.coding in
    let b = book_of g.L.Ledger.means g.B.Bank.means c.args.self.now in
    let e = by_count k b c.args.call c.args.letter (outcome b c.count.result) (omega arith) c.count.ensures.is in
    record { is = e; law = call-law k b c.args.call g.met.K.Kind.faithful b c.count.result c.args.letter e }

pub returns-in_default : goal.returns-in_default
returns-in_default g c =
    let k = g.K.Kind.coding in
    let b = book_of g.L.Ledger.means g.B.Bank.means c.args.self.now in
    let e = by-none k b c.args.call c.args.letter c.answer.result (omega arith) (omega arith) (omega arith) (omega arith) (omega arith) (omega arith) (omega arith) (omega arith) (omega arith) (omega arith) (omega arith) c.answer.ensures in
    record { is = e; law = call-law k b c.args.call g.met.K.Kind.faithful b c.answer.result c.args.letter e }
