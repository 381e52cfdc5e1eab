use Rattle.std.proofs.Common.{[], sym, subst}
use Rattle.law.specs.Law.{Led}
use Rattle.law.proofs.Main.{opening-law}
use Rattle.book.proofs.Layouts.{pair, opened-idle}
use Rattle.book.proofs.books.Layout.open.Goals as goal

pub returns : goal.returns
returns g c =
    let k = g.K.Kind.coding in
    let l = g.L.Ledger.means c.args.self.ledger in
    let rs = g.B.Bank.means c.args.self.bank in
    let e = opened-idle k l rs _ (g.met.B.Bank.few c.args.self.bank) c.idle.ensures in
    record { is = e; starts = λ p h. subst (Led k p []) (sym e) ((opening-law k).2 p (pair l rs) h) }
