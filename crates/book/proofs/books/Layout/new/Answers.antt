use Rattle.std.proofs.Common.{sym, subst}
use Rattle.law.specs.Layouts.{blanks}
use Rattle.law.specs.Law.{Laid}
use Rattle.law.proofs.Main.{opening-law}
use Rattle.book.proofs.Layouts.{made-new}
use Rattle.book.proofs.books.Layout.new.Goals as goal

pub returns-clause-laid : goal.returns-clause-laid
returns-clause-laid g c =
    let k = g.K.Kind.coding in
    let l = g.L.Ledger.means c.args.parts.ledger in
    let rs = g.B.Bank.means c.args.parts.bank in
    let e = made-new k l rs _ _ _ _ c.clear.ensures c.clear-2.ensures c.encode.ensures c.empty.ensures in
    subst (Laid k (blanks k rs)) (sym e) ((opening-law k).0 l rs)
