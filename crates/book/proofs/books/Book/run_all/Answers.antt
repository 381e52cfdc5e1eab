use Rattle.std.proofs.Common.{refl, ap, ◌∙◌, arith}
use Rattle.law.specs.Letters.{letter_of}
use Rattle.law.specs.Calls.{step_by}
use Rattle.book.specs.Books.{book_of}
use Rattle.book.proofs.Runs.{ran-none, ran-more, ran-book, ran-answers}
use Rattle.book.proofs.books.Book.run_all.Goals as goal

pub loop-i-init : goal.loop-i-init
loop-i-init g c =
    ran-none g.K.Kind.coding (book_of g.L.Ledger.means g.B.Bank.means c.args.self.now) c.args.calls.now c.args.answers.now

pub loop-i-preserved : goal.loop-i-preserved
loop-i-preserved g c =
    let b = book_of g.L.Ledger.means g.B.Bank.means in
    ran-more g.K.Kind.coding (b c.args.self.now) c.args.calls.now c.args.answers.now (b c.loop-i.self) c.loop-i.answers c.loop-i.i c.loop-i.invariant
    (b c.call.new.self) c.call.result c.index-calls-i.result _ (omega arith) (omega arith) c.index-calls-i.is
    (c.call.ensures.is ∙ ap (λ z. step_by g.K.Kind.coding (letter_of z) (b c.loop-i.self) c.index-calls-i.result) c.from.ensures) refl

pub returns : goal.returns
returns g c =
    let k = g.K.Kind.coding in
    let b = book_of g.L.Ledger.means g.B.Bank.means in
    record {
      after =
          ran-book k (b c.args.self.now) c.args.calls.now c.args.answers.now (b c.loop-i.self) c.loop-i.answers c.loop-i.i c.loop-i.invariant (omega arith);
      answers =
          ran-answers k (b c.args.self.now) c.args.calls.now c.args.answers.now (b c.loop-i.self) c.loop-i.answers c.loop-i.i c.loop-i.invariant
          (omega arith) (omega arith);
    }
