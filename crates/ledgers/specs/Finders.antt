-- What a finder promises, by what it says that makes one fit a ledger.
use Rattle.std.specs.Prelude.{◌≡◌, ℕ, ◌<◌, ◌≤◌, Bool, List, Ok, Option}
use Rattle.entries.specs.declared.writes.Write.{Write}
use Rattle.ledgers.specs.Model.{LedgerModel, newest, add_answer, after_add, fetched}
use Rattle.ledgers.specs.Logs.{fresh}

-- it fits every ledger without sets
abbrev pub FitsFresh : {F : Type 0} → (LedgerModel → F → Type 0) → F → Type 0
FitsFresh fits f = (n : ℕ) → fits (fresh n) f

-- where the first fits a ledger that takes the set as this version, the second fits that ledger afterwards
abbrev pub FitsAdded : {F : Type 0} → (LedgerModel → F → Type 0) → F → List Write → ℕ → F → Type 0
FitsAdded fits f ws v f' = (m : LedgerModel) → fits m f → add_answer m ws ≡ Ok v → fits (after_add ws m) f'

-- the second ledger has let sets of the first go, if any: its floor is not lower, and the versions above it have the sets that they had
abbrev pub LetsGo : LedgerModel → LedgerModel → Type 0
LetsGo m m' = (m.floor ≤ m'.floor) × ((v : ℕ) → m'.floor < v → fetched m' v ≡ fetched m v)

-- what fits a ledger fits it also when sets are let go
abbrev pub FitsTrimmed : {F : Type 0} → (LedgerModel → F → Type 0) → Type 0
FitsTrimmed {F} fits = (m m' : LedgerModel) (f : F) → LetsGo m m' → fits m f → fits m' f

-- where it fits the ledger, and the snapshot is not below the floor, it answers the newest conflict
abbrev pub Finds : {F : Type 0} → (LedgerModel → F → Type 0) → F → LedgerModel → ℕ → List Bool → Option ℕ → Type 0
Finds fits f m snapshot items r = fits m f → m.floor ≤ snapshot → r ≡ newest m snapshot items
