-- Laws of ledgers, told of every ledger.
use Rattle.std.specs.Prelude.{◌≡◌, ℕ, ◌+◌, ◌<◌, ◌≤◌, Bool, true, false, List, Some, None, Ok, Option}
use Rattle.entries.specs.declared.writes.Write.{Write}
use Rattle.ledgers.specs.Model.{LedgerModel, head_of, meets, newest_answer, add_answer, after_add, fetched, trimmed}

-- the greatest number above `low` and up to `top` that passes the test; none where none passes
abbrev pub Greatest : (ℕ → Bool) → ℕ → ℕ → Option ℕ → Type 0
Greatest test low top None = (u : ℕ) → low < u → u ≤ top → test u ≡ false
Greatest test low top (Some v) = (low < v) × (v ≤ top) × (test v ≡ true) × ((u : ℕ) → v < u → u ≤ top → test u ≡ false)

-- newest answers the greatest version above the snapshot and up to the head whose set meets the items
abbrev pub NewestIsNewest : Type 0
NewestIsNewest = (m : LedgerModel) (snapshot : ℕ) (items : List Bool) (r : Option ℕ) → m.floor ≤ snapshot
    → newest_answer m snapshot items ≡ Ok r → Greatest (λ v. meets items (fetched m v)) snapshot (head_of m) r

-- a list that is added is the set of the new head, one above the old, and the versions before it have the sets that they had
abbrev pub AddKeepsSets : Type 0
AddKeepsSets = (m : LedgerModel) (ws : List Write) (v : ℕ) → add_answer m ws ≡ Ok v
    → (v ≡ head_of m + 1)
    × (head_of (after_add ws m) ≡ v)
    × (fetched (after_add ws m) v ≡ ws)
    × ((u : ℕ) → u < v → fetched (after_add ws m) u ≡ fetched m u)

-- trimming never lowers the floor nor lifts it past the head, which stays, and the versions above it have the sets that they had
abbrev pub TrimKeepsSets : Type 0
TrimKeepsSets = (m : LedgerModel) (to : ℕ)
    → (m.floor ≤ (trimmed to m).floor)
    × ((trimmed to m).floor ≤ head_of m)
    × (head_of (trimmed to m) ≡ head_of m)
    × ((v : ℕ) → (trimmed to m).floor < v → fetched (trimmed to m) v ≡ fetched m v)
