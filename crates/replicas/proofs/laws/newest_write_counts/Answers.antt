use Rattle.replicas.proofs.History.{newest-write-counts}
use Rattle.replicas.proofs.laws.newest_write_counts.Goals as goal

pub returns : goal.returns
returns c = newest-write-counts
