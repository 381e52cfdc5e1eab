use Rattle.ledgers.proofs.Newest.{newest-is-newest}
use Rattle.ledgers.proofs.laws.newest_is_newest.Goals as goal

pub returns : goal.returns
returns c = newest-is-newest
