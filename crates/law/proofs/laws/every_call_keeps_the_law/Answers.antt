use Rattle.law.proofs.Main.{step-law}
use Rattle.law.proofs.laws.every_call_keeps_the_law.Goals as goal

pub returns : goal.returns
returns g c = step-law
