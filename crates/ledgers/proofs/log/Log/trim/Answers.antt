use Rattle.std.proofs.Common.{arith}
use Rattle.std.proofs.lemmas.Grind.{common_steps}
use Rattle.std.proofs.lemmas.List.{drop-map}
use Rattle.ledgers.proofs.log.Log.trim.Goals as goal

pub returns-then-floor-self : goal.returns-then-floor-self
returns-then-floor-self c = grind (arith, common_steps, drop-map)
