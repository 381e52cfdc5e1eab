use Rattle.std.proofs.Common.{rules}
use Rattle.banks.proofs.Offered.{rest-change}
use Rattle.banks.proofs.rows.BesideBank.clear_at.Goals as goal

pub returns-in_default : goal.returns-in_default
returns-in_default g c = search (rules, rest-change)
