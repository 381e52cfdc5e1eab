use Rattle.std.proofs.Common.{arith}
use Rattle.replicas.proofs.Backed.{used-is}
use Rattle.replicas.proofs.log_replica.calls.LogReplicaReplica.used.Goals as goal

pub returns : goal.returns
returns g c = omega (arith, used-is _ _ _ (g.met.K.Keeping.backs c.args.self.now))
