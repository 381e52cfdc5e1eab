use Rattle.ledgers.specs.Logs.{log_model}
use Rattle.ledgers.proofs.Fetches.{trim-lets-go}
use Rattle.ledgers.proofs.log_ledger.calls.LogLedgerLedger.trim.Goals as goal

pub invariant_of-self : goal.invariant_of-self
invariant_of-self g c =
    let l = c.args.self.now in
    record { fits = g.met.F.Finder.trims (log_model l.log) (log_model c.trim.new.self) l.finder (trim-lets-go _ _ c.args.to c.trim.ensures) l.fits }
