use Rattle.replicas.proofs.History.{forget-keeps-history}
use Rattle.replicas.proofs.laws.forget_keeps_history.Goals as goal

pub returns : goal.returns
returns c = forget-keeps-history
