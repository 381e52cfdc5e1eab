use Rattle.replicas.proofs.History.{take-keeps-history}
use Rattle.replicas.proofs.laws.take_keeps_history.Goals as goal

pub returns : goal.returns
returns c = take-keeps-history
