use Rattle.std.proofs.Common.{◌≡◌, ◌≤◌, drop, None}
use Rattle.entries.specs.Items.{flags_of}
use Rattle.ledgers.specs.Model.{head_of, meets, fetched}
use Rattle.ledgers.specs.Logs.{log_model}
use Rattle.ledgers.proofs.Newest.{NoneAbove}
use Rattle.ledgers.proofs.scan.ScanFinder.newest.Given as goal

-- no version above this one has a set that meets the items
abbrev pub invariant-search : goal.invariant-search
invariant-search l =
    (l.version ≤ head_of (log_model l.log)) × (l.found ≡ None) × NoneAbove (log_model l.log) (flags_of l.items) l.version

-- and what is left of its own set decides
abbrev pub invariant-loop-w : goal.invariant-loop-w
invariant-loop-w l =
    (l.found ≡ None)
    × (meets (flags_of l.items) (drop l.w-index (fetched (log_model l.log) l.version))
    ≡ meets (flags_of l.items) (fetched (log_model l.log) l.version))
