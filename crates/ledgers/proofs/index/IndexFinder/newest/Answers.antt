use Rattle.std.proofs.Common.{◌∙◌}
use Rattle.entries.specs.Items.{flags_of}
use Rattle.ledgers.specs.Logs.{log_model}
use Rattle.ledgers.proofs.Indexed.{latest-told}
use Rattle.ledgers.proofs.index.IndexFinder.newest.Goals as goal

pub returns : goal.returns
returns c =
    λ tells low.
    c.then_some.ensures
    ∙ latest-told (log_model c.args._log.now) c.args.snapshot (flags_of c.args.items.now) c.args.self.now.last c.latest-latest.result low c.args.items.now.whole tells c.latest-latest.ensures
