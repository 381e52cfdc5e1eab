use Rattle.std.proofs.Common.{◌≡◌, ◌++◌, take}
use Rattle.rings.specs.Held.{held, size}
use Rattle.replicas.specs.Overlay.{laid, replaced}
use Rattle.replicas.specs.Records.{marked}
use Rattle.replicas.proofs.logs.scans.exchange.Given as goal

abbrev pub invariant-loop-w : goal.invariant-loop-w
invariant-loop-w l =
    (l.page ≡ laid l.initial.page (take l.w-index l.set))
    × (held l.ring ≡ held l.initial.ring ++ marked l.version (replaced l.initial.page (take l.w-index l.set)))
    × (size l.ring ≡ size l.initial.ring)
