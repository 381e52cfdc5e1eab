use Rattle.std.proofs.Common.{take, drop}
use Rattle.std.proofs.lemmas.List.{take_min, drop_min}
use Rattle.rings.specs.Held.{turned}
use Rattle.rings.proofs.Between.{between-append, between-take}
use Rattle.rings.proofs.ring.Ring.range.Goals as goal

pub returns : goal.returns
returns g c =
    let r = c.args.self.now in
    let older = drop_min r.first r.cells.now in
    let newer = take_min r.first r.cells.now in
    let parts = between-append (drop r.first r.cells.now) (take r.first r.cells.now) c.args.from c.min-to.result in
    let all = between-take (turned r.first r.cells.now) r.len c.args.from c.args.to in
    cc
