use Rattle.ledgers.proofs.Fetches.{add-keeps-sets}
use Rattle.ledgers.proofs.laws.add_keeps_sets.Goals as goal

pub returns : goal.returns
returns c = add-keeps-sets
