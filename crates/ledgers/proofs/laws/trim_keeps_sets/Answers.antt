use Rattle.ledgers.proofs.Fetches.{trim-keeps-sets}
use Rattle.ledgers.proofs.laws.trim_keeps_sets.Goals as goal

pub returns : goal.returns
returns c = trim-keeps-sets
