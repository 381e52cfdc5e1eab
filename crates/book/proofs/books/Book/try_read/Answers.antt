use Rattle.std.proofs.Common.{Err, refl, ap, ◌∙◌}
use Rattle.std.proofs.lemmas.Result.{err_from_is_err_and}
use Rattle.replicas.specs.declared.replica.Refusal.TheVariants.{NoSuchSite}
use Rattle.replicas.specs.Model.{read_answer}
use Rattle.banks.specs.Sites.{at_site}
use Rattle.law.specs.Books.{slot_at}
use Rattle.law.specs.Calls.{read_on, show}
use Rattle.book.specs.Answers.{answer_or_why}
use Rattle.book.specs.Books.{book_of}
use Rattle.book.proofs.Calls.{refused}
use Rattle.book.proofs.Entries.{open-admitted, read_by}
use Rattle.book.proofs.Rows.{book}
use Rattle.book.proofs.Transactions.{entered_here, read-past, read-own, read-else}
use Rattle.book.proofs.books.Book.try_read.Goals as goal

pub returns-in_err-snapshot : goal.returns-in_err-snapshot
returns-in_err-snapshot g c =
    let k = g.K.Kind.coding in
    let b = book_of g.L.Ledger.means g.B.Bank.means c.args.self.now in
    let s = c.args.at.site in
    let j = c.args.at.slot in
    let p = err_from_is_err_and c.from_residual.result c.from_residual.ensures.1 in
    refused k b (book_of g.L.Ledger.means g.B.Bank.means c.enter.new.self) 82 s j _ (λ _ _. read_on k b s j c.args.item (slot_at b s j)) (read_by k b s j c.args.item) _ _ c.in_err-snapshot.ensures
    (ap (answer_or_why k) (p.1 ∙ ap Err p.2))

pub returns-in_err-item : goal.returns-in_err-item
returns-in_err-item g c =
    let k = g.K.Kind.coding in
    let b = book_of g.L.Ledger.means g.B.Bank.means c.args.self.now in
    let s = c.args.at.site in
    let j = c.args.at.slot in
    let b' = book_of g.L.Ledger.means g.B.Bank.means c.enter.new.self in
    let n = c.in_ok-snapshot.snapshot in
    let o = open-admitted k b s j 82 b' n refl refl refl c.in_ok-snapshot.ensures in
    let p = err_from_is_err_and c.from_residual-in_err-item.result c.from_residual-in_err-item.ensures.1 in
    read-past k b b' s j n c.args.item o _ _ c.in_err-item.ensures (ap (answer_or_why k) (p.1 ∙ ap Err p.2))

pub returns-in-Some : goal.returns-in-Some
returns-in-Some g c =
    let k = g.K.Kind.coding in
    let b = book_of g.L.Ledger.means g.B.Bank.means c.args.self.now in
    let s = c.args.at.site in
    let j = c.args.at.slot in
    let y = c.enter.new.self in
    let l = g.L.Ledger.means y.ledger in
    let rs = g.B.Bank.means y.bank in
    let rows = y.slots in
    let b' = book l rs rows y.refusals in
    let n = c.in_ok-snapshot.snapshot in
    let o = open-admitted k b s j 82 b' n refl refl refl c.in_ok-snapshot.ensures in
    let h = entered_here k b s j 82 l rs rows y.refusals n c.in_ok-snapshot.ensures o in
    let i = c.in_ok-item.item in
    ap (λ z. show k b' z c.decode.result) c.from.ensures
    ∙ read-own k b l rs rows y.refusals s j n c.args.item i h o c.in_ok-item.ensures c.in-Some.word _ c.in-Some.ensures c.decode.ensures

pub returns : goal.returns
returns g c =
    let k = g.K.Kind.coding in
    let b = book_of g.L.Ledger.means g.B.Bank.means c.args.self.now in
    let s = c.args.at.site in
    let j = c.args.at.slot in
    let y = c.enter.new.self in
    let l = g.L.Ledger.means y.ledger in
    let rs = g.B.Bank.means y.bank in
    let rows = y.slots in
    let b' = book l rs rows y.refusals in
    let n = c.in_ok-snapshot.snapshot in
    let o = open-admitted k b s j 82 b' n refl refl refl c.in_ok-snapshot.ensures in
    let h = entered_here k b s j 82 l rs rows y.refusals n c.in_ok-snapshot.ensures o in
    let i = c.in_ok-item.item in
    ap (λ z. show k (book l rs c.note.new.self y.refusals) z c.shown.result) c.from-3.ensures
    ∙ read-else k b l rs rows y.refusals s j n c.args.item i h o c.in_ok-item.ensures _ c.note.new.self c.read-word.result c.in_default.ensures c.note.ensures
    (c.read-word.ensures ∙ ap (λ z. at_site rs s (λ m. read_answer m n z) (Err NoSuchSite)) c.from-2.ensures) c.shown.ensures
