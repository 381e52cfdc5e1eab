use Rattle.entries.specs.Items.{flags_of}
use Rattle.ledgers.specs.Index.{Latest}
use Rattle.ledgers.proofs.index.Index.latest.Given as goal

abbrev pub invariant-loop-item : goal.invariant-loop-item
invariant-loop-item l = Latest (flags_of l.items) l.self.last l.item l.latest
