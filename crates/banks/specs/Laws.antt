-- What every call by site keeps, in words that say nothing of how a bank is built.
use Rattle.std.specs.Prelude.{◌≡◌, ℕ, List, length, ◌≢◌}
use Rattle.replicas.specs.Model.{ReplicaModel}
use Rattle.banks.specs.Sites.{replica_at, changed_at}

-- whatever a call does to the replica of one site, every other site has the replica that it had, and there are as many sites
abbrev pub OthersStay : Type 0
OthersStay = (rs : List ReplicaModel) (site : ℕ) (change : ReplicaModel → ReplicaModel) →
    ((other : ℕ) → (other ≢ site) → replica_at (changed_at rs site change) other ≡ replica_at rs other)
    × (length (changed_at rs site change) ≡ length rs)
