use Rattle.std.proofs.Common.{rules}
use Rattle.replicas.proofs.Backed.{keeps-is}
use Rattle.replicas.proofs.log_replica.calls.LogReplicaReplica.forget.Goals as goal

pub returns-then-not-keeps : goal.returns-then-not-keeps
returns-then-not-keeps g c = let k = keeps-is _ _ _ (g.met.K.Keeping.backs c.args.self.now) c.args.to in search rules

pub returns : goal.returns
returns g c = let k = keeps-is _ _ _ (g.met.K.Keeping.backs c.args.self.now) c.args.to in search rules
