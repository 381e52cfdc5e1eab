use Rattle.std.proofs.Common.{leb, rules}
use Rattle.std.proofs.lemmas.List.Sorted.{IsPartitionPoint-from_clause, IsPartitionedBy-leb}
use Rattle.replicas.proofs.Scans.{point-is}
use Rattle.replicas.proofs.logs.scans.end_in.Goals as goal

pub returns : goal.returns
returns c =
    point-is (λ r. leb r.version c.args.to) c.args.records.now c.partition_point.result c.partition_point.ensures.bound
    (IsPartitionPoint-from_clause (λ r. leb r.version c.args.to) c.args.records.now c.partition_point.result c.partition_point.ensures.partitioned
    (IsPartitionedBy-leb (λ r. r.version) c.args.records.now c.args.to c.requires) (λ a r f h. search rules))
