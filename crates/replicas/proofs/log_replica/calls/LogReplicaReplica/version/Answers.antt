use Rattle.std.proofs.Common.{sym}
use Rattle.replicas.proofs.Backed.{version-is}
use Rattle.replicas.proofs.log_replica.calls.LogReplicaReplica.version.Goals as goal

pub returns : goal.returns
returns g c = sym (version-is _ _ _ (g.met.K.Keeping.backs c.args.self.now))
