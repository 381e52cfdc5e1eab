use Rattle.law.proofs.Counterexamples.{broken-rules-break-the-law}
use Rattle.law.proofs.laws.broken_rules_break_the_law.Goals as goal

pub returns : goal.returns
returns c = broken-rules-break-the-law
