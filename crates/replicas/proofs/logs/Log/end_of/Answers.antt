use Rattle.replicas.specs.Logs.{records}
use Rattle.replicas.proofs.Logged.{log-rises}
use Rattle.replicas.proofs.logs.Log.end_of.Goals as goal

pub end_of-requires : goal.end_of-requires
end_of-requires c = let l = c.args.self.now in log-rises l.base l.version (records l) l.kept
