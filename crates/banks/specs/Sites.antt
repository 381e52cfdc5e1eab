-- What a bank means: the list of the replicas that it offers, and what each call on it answers and leaves.
use Rattle.std.specs.Prelude.{ℕ, min, Bool, false, cond, ◌||◌, List, [], ◌∷◌, map, length, is_ok, Ok, Err, Result, nat_le, nat_lt, slice_index_or, slice_set}
use Rattle.replicas.specs.declared.replica.Refusal.{Refusal}
use Rattle.replicas.specs.declared.replica.Refusal.TheVariants.{InUse, NoSuchItem}
use Rattle.replicas.specs.Model.{ReplicaModel, version_of, items_of, after_open}

-- a bank offers at most so many replicas
abbrev pub most_sites : ℕ
most_sites = 8

-- stands where there is no replica
abbrev pub no_replica : ReplicaModel
no_replica = record { base = 0; contents = []; sets = []; capacity = 0 }

-- the replica of a site
abbrev pub replica_at : List ReplicaModel → ℕ → ReplicaModel
replica_at rs site = slice_index_or rs site no_replica

-- what the replica of a site answers, or `refused` where there is no such site
abbrev pub at_site : {X : Type 0} → List ReplicaModel → ℕ → (ReplicaModel → X) → X → X
at_site rs site answer refused = cond (nat_lt site (length rs)) (answer (replica_at rs site)) refused

-- the replicas after a call on the one of a site; the others stay, and so do all where there is no such site
abbrev pub changed_at : List ReplicaModel → ℕ → (ReplicaModel → ReplicaModel) → List ReplicaModel
changed_at rs site change = slice_set rs site (change (replica_at rs site))

-- the number of items: the smaller of 256 and the least that a replica has
abbrev pub least_items : List ReplicaModel → ℕ
least_items [] = 256
least_items (r ∷ rs) = min (items_of r) (least_items rs)

-- some replica is past version 0
abbrev pub is_in_use : List ReplicaModel → Bool
is_in_use [] = false
is_in_use (r ∷ rs) = nat_lt 0 (version_of r) || is_in_use rs

-- an opening word is taken by all replicas or by none
abbrev pub open_all_answer : List ReplicaModel → ℕ → Result (Unit {0}) Refusal
open_all_answer rs item =
    cond (is_in_use rs) (Err InUse)
    (cond (nat_le (least_items rs) item) (Err NoSuchItem)
    (Ok tt))

abbrev pub after_open_all : ℕ → ℕ → List ReplicaModel → List ReplicaModel
after_open_all item word rs = cond (is_ok (open_all_answer rs item)) (map (after_open item word) rs) rs
