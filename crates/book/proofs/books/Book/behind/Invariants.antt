use Rattle.std.proofs.Common.{◌≡◌, length, drop}
use Rattle.law.specs.Calls.{behind}
use Rattle.book.proofs.books.Book.behind.Given as goal

-- no site below this one is behind
abbrev pub invariant-loop-site : goal.invariant-loop-site
invariant-loop-site g l =
    let rs = g.B.Bank.means l.self.bank in
    (l.site-end ≡ length rs) × (behind l.to l.site (drop l.site rs) ≡ behind l.to 0 rs)
