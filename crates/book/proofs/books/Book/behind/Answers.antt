use Rattle.std.proofs.Common.{arith}
use Rattle.book.proofs.Sites.{behind-here, behind-on, behind-none}
use Rattle.book.proofs.books.Book.behind.Goals as goal

pub returns-then-version_at-to : goal.returns-then-version_at-to
returns-then-version_at-to g c = behind-here (g.B.Bank.means c.args.self.now.bank) c.args.to c.loop-site.site c.loop-site.invariant.1 (omega arith) (omega arith)

pub loop-site-preserved : goal.loop-site-preserved
loop-site-preserved g c =
    (c.loop-site.invariant.0, behind-on (g.B.Bank.means c.args.self.now.bank) c.args.to c.loop-site.site c.loop-site.invariant.1 (omega arith) (omega arith))

pub returns : goal.returns
returns g c = behind-none (g.B.Bank.means c.args.self.now.bank) c.args.to c.loop-site.site c.loop-site.invariant.1 (omega arith)
