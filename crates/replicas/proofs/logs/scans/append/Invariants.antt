use Rattle.std.proofs.Common.{◌≡◌, ◌++◌, take}
use Rattle.rings.specs.Held.{held, size}
use Rattle.replicas.specs.Records.{marked}
use Rattle.replicas.proofs.logs.scans.append.Given as goal

abbrev pub invariant-loop-w : goal.invariant-loop-w
invariant-loop-w l = (held l.ring ≡ held l.initial.ring ++ marked l.version (take l.w-index l.set)) × (size l.ring ≡ size l.initial.ring)
