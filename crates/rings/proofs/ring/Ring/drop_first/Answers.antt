use Rattle.std.proofs.Common.{◌≡◌, ◌-◌, min, arith}
use Rattle.rings.specs.Held.{size}
use Rattle.rings.proofs.Held.{held-length}
use Rattle.rings.proofs.Turned.{turned-drop}
use Rattle.rings.proofs.ring.Ring.drop_first.Goals as goal

pub returns-clause-holds : goal.returns-clause-holds
returns-clause-holds g c =
    let e = held-length c.args.self.now in
    let rest : c.saturating_sub-self.result ≡ min c.args.self.now.len (size c.args.self.now) - c.args.n = omega arith in
    let d = turned-drop c.args.self.now.first c.args.self.now.cells.now c.args.self.now.len c.args.n in
    cc
