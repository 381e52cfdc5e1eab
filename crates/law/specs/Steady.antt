-- What else holds of every book that calls lead to: no guard of the definitions ever bites.
use Rattle.std.specs.Prelude.{◌≡◌, ℕ, ◌+◌, ◌<◌, ◌≤◌, Bool, true, List, length, is_ok, nat_le}
use Rattle.entries.specs.declared.writes.Write.{Write}
use Rattle.entries.specs.Codings.{Coding, Faithful}
use Rattle.replicas.specs.Model.{used_of, keeps, take_answer}
use Rattle.ledgers.specs.Model.{head_of, fetched}
use Rattle.law.specs.Slots.SlotModel.{opened}
use Rattle.law.specs.Books.{BookModel, site_count, replica_of, site_version, slot_at, horizon_at}
use Rattle.law.specs.History.{History}
use Rattle.law.specs.Law.{Led}

-- a book between two calls
pub record Steady (b : BookModel) : Type 0 where
  -- each replica keeps what lies above its site's horizon, and nothing below
  pub bases : (site : ℕ) → site < site_count b → (replica_of b site).base ≡ horizon_at b site
  -- each replica keeps every open snapshot of its site, so that no read at one is refused
  pub snapshots :
      (site slot s : ℕ) (ws : List Write) (items : List Bool) → site < site_count b → slot_at b site slot ≡ opened s ws items
      → keeps (replica_of b site) s ≡ true
  -- the horizon is not above the version
  pub horizons : (site : ℕ) → site < site_count b → horizon_at b site ≤ site_version b site
  -- the ledger has every set that a site has yet to take
  pub floors : (site : ℕ) → site < site_count b → b.ledger.floor ≤ site_version b site
  -- no site is past the head
  pub heads : (site : ℕ) → site < site_count b → site_version b site ≤ head_of b.ledger
  -- a delivery below the head is refused for want of room alone
  pub room :
      (site : ℕ) → site < site_count b → site_version b site < head_of b.ledger
      → is_ok (take_answer (replica_of b site) (fetched b.ledger (site_version b site + 1)))
      ≡ nat_le (used_of (replica_of b site) + length (fetched b.ledger (site_version b site + 1))) (replica_of b site).capacity

-- calls leave every book steady
abbrev pub StaysSteady : Type 0 → Type 0
StaysSteady V = (k : Coding V) → Faithful k → (p : List V) (h : History V) (b : BookModel) → Led k p h b → Steady b
