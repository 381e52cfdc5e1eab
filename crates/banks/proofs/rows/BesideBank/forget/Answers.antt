use Rattle.std.proofs.Common.{rules}
use Rattle.banks.proofs.Offered.{rest-answer, rest-change}
use Rattle.banks.proofs.rows.BesideBank.forget.Goals as goal

pub returns-in_default : goal.returns-in_default
returns-in_default g c = search (rules, rest-answer, rest-change)
