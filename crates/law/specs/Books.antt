-- What a book in use means, and books with one part changed.
use Rattle.std.specs.Prelude.{ℕ, ◌+◌, cond, List, [], length, nat_lt, slice_index_or, slice_set}
use Rattle.replicas.specs.Model.{ReplicaModel, version_of, after_forget, last_version}
use Rattle.banks.specs.Sites.{replica_at, least_items}
use Rattle.ledgers.specs.Model.{LedgerModel}
use Rattle.law.specs.Slots.{SlotModel, horizon}
use Rattle.law.specs.Slots.SlotModel.{idle}

-- the ledger, the replicas that the bank offers, the slots of each site, and how many filings were turned away
pub record BookModel : Type 0 where
  pub ledger : LedgerModel
  pub replicas : List ReplicaModel
  pub slots : List (List SlotModel)
  pub refusals : ℕ

-- how many sites the book has
abbrev pub site_count : BookModel → ℕ
site_count b = length b.replicas

-- how many items
abbrev pub item_count : BookModel → ℕ
item_count b = least_items b.replicas

-- the replica of a site
abbrev pub replica_of : BookModel → ℕ → ReplicaModel
replica_of b site = replica_at b.replicas site

-- the version of a site: that of its replica
abbrev pub site_version : BookModel → ℕ → ℕ
site_version b site = version_of (replica_of b site)

-- the slots of a site
abbrev pub row_at : BookModel → ℕ → List SlotModel
row_at b site = slice_index_or b.slots site []

-- one slot of a site
abbrev pub slot_at : BookModel → ℕ → ℕ → SlotModel
slot_at b site slot = slice_index_or (row_at b site) slot idle

-- the horizon of a site
abbrev pub horizon_at : BookModel → ℕ → ℕ
horizon_at b site = horizon (row_at b site) (site_version b site)

-- with another ledger
abbrev pub with_ledger : BookModel → LedgerModel → BookModel
with_ledger b l = record { ledger = l; replicas = b.replicas; slots = b.slots; refusals = b.refusals }

-- with another replica at a site
abbrev pub with_replica : BookModel → ℕ → ReplicaModel → BookModel
with_replica b site r = record { ledger = b.ledger; replicas = slice_set b.replicas site r; slots = b.slots; refusals = b.refusals }

-- with other slots at a site
abbrev pub with_row : BookModel → ℕ → List SlotModel → BookModel
with_row b site row = record { ledger = b.ledger; replicas = b.replicas; slots = slice_set b.slots site row; refusals = b.refusals }

-- with one slot changed
abbrev pub with_slot : BookModel → ℕ → ℕ → SlotModel → BookModel
with_slot b site slot x = with_row b site (slice_set (row_at b site) slot x)

-- one more filing turned away; the count stops at 999,999
abbrev pub counted : BookModel → BookModel
counted b =
    record {
      ledger = b.ledger;
      replicas = b.replicas;
      slots = b.slots;
      refusals = cond (nat_lt b.refusals last_version) (b.refusals + 1) b.refusals;
    }

-- the site's replica has forgotten what lies below the site's horizon
abbrev pub settled : BookModel → ℕ → BookModel
settled b site = with_replica b site (after_forget (horizon_at b site) (replica_of b site))
