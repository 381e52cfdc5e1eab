use Rattle.law.proofs.Cases.{worked-cases}
use Rattle.law.proofs.laws.worked_cases.Goals as goal

pub returns : goal.returns
returns c = worked-cases
