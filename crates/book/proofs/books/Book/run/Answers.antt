use Rattle.std.proofs.Common.{arith}
use Rattle.book.specs.Books.{book_of}
use Rattle.book.proofs.Runs.{refused-answer, refused-book, refused-answers, done-answer, done-book, done-answers, run-keeps}
use Rattle.book.proofs.books.Book.run.Goals as goal

pub returns-then-answers-count : goal.returns-then-answers-count
returns-then-answers-count g c =
    let k = g.K.Kind.coding in
    let b = book_of g.L.Ledger.means g.B.Bank.means c.args.self.now in
    let calls = c.args.calls.now in
    let old = c.args.answers.now in
    let eb = refused-book k b calls old (omega arith) in
    let ea = refused-answers k b calls old (omega arith) in
    record {
      answer = refused-answer k b calls old (omega arith) c.answer.result c.answer.ensures;
      after = eb;
      answers = ea;
      law = run-keeps k b calls old g.met.K.Kind.faithful b old eb ea;
    }

pub returns : goal.returns
returns g c =
    let k = g.K.Kind.coding in
    let b = book_of g.L.Ledger.means g.B.Bank.means c.args.self.now in
    let b' = book_of g.L.Ledger.means g.B.Bank.means c.run_all.new.self in
    let calls = c.args.calls.now in
    let old = c.args.answers.now in
    let new = c.run_all.new.answers in
    let eb = done-book k b calls old (omega arith) b' c.run_all.ensures.after in
    let ea = done-answers k b calls old (omega arith) new c.run_all.ensures.answers in
    record {
      answer = done-answer k b calls old (omega arith) c.answer-2.result c.answer-2.ensures;
      after = eb;
      answers = ea;
      law = run-keeps k b calls old g.met.K.Kind.faithful b' new eb ea;
    }
