use Rattle.std.proofs.Common.{rules}
use Rattle.banks.proofs.Turns.{least-most}
use Rattle.banks.proofs.bank.Bank.items.Goals as goal

pub loop-site-init : goal.loop-site-init
loop-site-init g c =
    let most = least-most (g.Self.Bank.means c.args.self.now) in search rules
