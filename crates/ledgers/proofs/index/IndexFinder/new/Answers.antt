use Rattle.ledgers.proofs.Indexed.{tells-fresh}
use Rattle.ledgers.proofs.index.IndexFinder.new.Goals as goal

pub returns : goal.returns
returns c = tells-fresh
