use Rattle.std.proofs.Common.{◌≡◌, drop}
use Rattle.ledgers.specs.Index.{raised}
use Rattle.ledgers.proofs.index.IndexFinder.note.Given as goal

-- raising what is left gives what raising all gives
abbrev pub invariant-loop-w : goal.invariant-loop-w
invariant-loop-w l = raised l.self.last (drop l.w-index l.w-items) l.version ≡ raised l.initial.self.last l.w-items l.version
