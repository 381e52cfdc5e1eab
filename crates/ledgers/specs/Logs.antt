-- What a log means: a ledger.
use Rattle.std.specs.Prelude.{ℕ, List, [], map}
use Rattle.rings.specs.Held.{held, size}
use Rattle.entries.specs.declared.lists.WriteList.{WriteList}
use Rattle.entries.specs.Lists.{writes}
use Rattle.ledgers.specs.declared.log.Log.{Log}
use Rattle.ledgers.specs.Model.{LedgerModel}

-- the sets are those of the lists that the ring holds
abbrev pub log_model : Log → LedgerModel
log_model l = record { floor = l.floor; sets = map writes (held l.ring); capacity = size l.ring }

-- the lists as they lie in the lent memory
abbrev pub cells_of : Log → List WriteList
cells_of l = l.ring.cells.now

-- a ledger without sets, at floor 0, with room for so many
abbrev pub fresh : ℕ → LedgerModel
fresh n = record { floor = 0; sets = []; capacity = n }
