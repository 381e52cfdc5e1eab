use Rattle.law.proofs.Main.{law}
use Rattle.law.proofs.laws.law_on_runs.Goals as goal

pub returns : goal.returns
returns g c = law
