use Rattle.rings.proofs.Between.{between-clipped}
use Rattle.rings.proofs.ring.calls.within.Goals as goal

pub returns : goal.returns
returns g c =
    let clipped = between-clipped c.args.items.now c.args.from c.args.to in
    cc
