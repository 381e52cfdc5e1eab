use Rattle.std.proofs.Common.{◌≡◌, true, ltb, length, arith}
use Rattle.std.proofs.lemmas.Bool.{lt-ltb}
use Rattle.rings.specs.Held.{held, size}
use Rattle.rings.proofs.Held.{held-length}
use Rattle.rings.proofs.Turned.{turned-push}
use Rattle.rings.proofs.ring.Ring.push.Goals as goal

pub returns-clause-holds : goal.returns-clause-holds
returns-clause-holds g c =
    let n = held-length c.args.self.now in
    let len : c.len-len.result ≡ c.args.self.now.len = omega arith in
    let room : ltb (length (held c.args.self.now)) (size c.args.self.now) ≡ true = lt-ltb _ _ (omega arith) in
    let p = turned-push c.args.self.now.first c.args.self.now.cells.now c.args.self.now.len c.args.item (omega arith) in
    simp room (cc)
