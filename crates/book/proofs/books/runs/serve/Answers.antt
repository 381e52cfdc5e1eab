use Rattle.book.specs.Books.{book_of, layout_of}
use Rattle.book.proofs.Runs.{served-answers, served-book, served-ledger, served-bank, served-law}
use Rattle.book.proofs.books.runs.serve.Goals as goal

pub returns : goal.returns
returns g c =
    let k = g.K.Kind.coding in
    let y = layout_of g.L.Ledger.means g.B.Bank.means c.args.layout in
    let b = book_of g.L.Ledger.means g.B.Bank.means c.open-book.result in
    let b' = book_of g.L.Ledger.means g.B.Bank.means c.run-answer.new.self in
    let calls = c.args.calls.now in
    let old = c.args.answers.now in
    let new = c.run-answer.new.answers in
    let l = g.L.Ledger.means c.wind_up.result.ledger in
    let rs = g.B.Bank.means c.wind_up.result.bank in
    let e = served-book k y b calls old new c.open-book.ensures.is b' c.run-answer.ensures.after in
    record {
      answer = c.run-answer.ensures.answer;
      answers = served-answers k y b calls old new c.open-book.ensures.is c.run-answer.ensures.answers;
      ledger = served-ledger k y b calls old new b' l rs c.wind_up.ensures.ledger c.wind_up.ensures.bank e;
      bank = served-bank k y b calls old new b' l rs c.wind_up.ensures.ledger c.wind_up.ensures.bank e;
      law =
          served-law k y b calls old new b' l rs c.wind_up.ensures.ledger c.wind_up.ensures.bank c.open-book.ensures.starts c.run-answer.ensures.law;
    }
