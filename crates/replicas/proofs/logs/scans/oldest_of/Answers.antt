use Rattle.std.proofs.Common.{rules}
use Rattle.std.proofs.lemmas.List.Folds.{find-append}
use Rattle.replicas.proofs.logs.scans.oldest_of.Goals as goal

pub returns-in-Some : goal.returns-in-Some
returns-in-Some c = search (rules, find-append)

pub returns-in-None : goal.returns-in-None
returns-in-None c = search (rules, find-append)
