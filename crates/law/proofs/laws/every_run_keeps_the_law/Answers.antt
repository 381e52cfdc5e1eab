use Rattle.law.proofs.Main.{run-law}
use Rattle.law.proofs.laws.every_run_keeps_the_law.Goals as goal

pub returns : goal.returns
returns g c = run-law
