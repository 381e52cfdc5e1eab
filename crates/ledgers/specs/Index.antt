-- The version that wrote each item last.
use Rattle.std.specs.Prelude.{◌≡◌, ℕ, ◌<◌, ◌≤◌, Bool, true, false, List, [], ◌∷◌, slice_index, slice_set}
use Rattle.entries.specs.declared.writes.Write.{Write}
use Rattle.entries.specs.Items.{has}
use Rattle.entries.specs.Writes.{names}
use Rattle.ledgers.specs.Model.{LedgerModel, fetched}

-- an item's version, if above the floor, wrote the item
abbrev pub There : LedgerModel → List ℕ → Type 0
There m last = (item : ℕ) → item < 256 → m.floor < slice_index last item → names (fetched m (slice_index last item)) item ≡ true

-- no later version that the ledger has wrote it
abbrev pub Last : LedgerModel → List ℕ → Type 0
Last m last = (item v : ℕ) → (item < 256) × (slice_index last item < v) → names (fetched m v) item ≡ false

-- the index tells the truth above the floor
abbrev pub Tells : LedgerModel → List ℕ → Type 0
Tells m last = There m last × Last m last

-- the index with the version for each item of a set
abbrev pub raised : List ℕ → List Write → ℕ → List ℕ
raised last [] version = last
raised last (w ∷ ws) version = raised (slice_set last w.item version) ws version

-- n is the greatest version of the items below `bound` whose flags are set, or 0
abbrev pub Latest : List Bool → List ℕ → ℕ → ℕ → Type 0
Latest items last bound n =
    ((k : ℕ) → k < bound → has items k ≡ true → slice_index last k ≤ n)
    × (0 < n → (k : ℕ) × (k < 256) × (has items k ≡ true) × (slice_index last k ≡ n))
