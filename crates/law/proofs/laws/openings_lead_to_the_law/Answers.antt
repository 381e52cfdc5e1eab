use Rattle.law.proofs.Main.{opening-law}
use Rattle.law.proofs.laws.openings_lead_to_the_law.Goals as goal

pub returns : goal.returns
returns g c = opening-law
