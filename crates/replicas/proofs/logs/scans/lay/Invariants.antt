use Rattle.std.proofs.Common.{◌≡◌, map, take}
use Rattle.replicas.specs.Overlay.{laid}
use Rattle.replicas.specs.Records.{plain}
use Rattle.replicas.proofs.logs.scans.lay.Given as goal

abbrev pub invariant-loop-record : goal.invariant-loop-record
invariant-loop-record l = l.page ≡ laid l.initial.page (map plain (take l.record-index l.records))
