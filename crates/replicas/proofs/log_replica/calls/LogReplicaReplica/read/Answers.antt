use Rattle.std.proofs.Common.{arith, rules}
use Rattle.std.proofs.lemmas.Bool.Decides.{nat_tests}
use Rattle.replicas.proofs.Backed.{keeps-is}
use Rattle.replicas.proofs.log_replica.calls.LogReplicaReplica.read.Goals as goal

pub returns-then-not-keeps : goal.returns-then-not-keeps
returns-then-not-keeps g c =
    let k = keeps-is _ _ _ (g.met.K.Keeping.backs c.args.self.now) c.args.at in search rules

pub returns-then-item-self : goal.returns-then-item-self
returns-then-item-self g c =
    let b = g.met.K.Keeping.backs c.args.self.now in
    let k = keeps-is _ _ _ b c.args.at in
    let n = b.items in grind (arith, nat_tests)

pub returns : goal.returns
returns g c =
    let b = g.met.K.Keeping.backs c.args.self.now in
    let k = keeps-is _ _ _ b c.args.at in
    let n = b.items in grind (arith, nat_tests)
