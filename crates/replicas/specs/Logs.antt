-- What a log means: the sets of the versions above its base.
use Rattle.std.specs.Prelude.{◌≡◌, ℕ, ◌-◌, Bool, ◌&&◌, List, length, [], Result, nat_le}
use Rattle.rings.specs.Held.{held, size}
use Rattle.entries.specs.declared.writes.Write.{Write}
use Rattle.replicas.specs.declared.records.Record.{Record}
use Rattle.replicas.specs.declared.replica.Refusal.{Refusal}
use Rattle.replicas.specs.declared.logs.Log.{Log}
use Rattle.replicas.specs.Records.{cut}
use Rattle.replicas.specs.Overlay.{sizes}
use Rattle.replicas.specs.Model.{ReplicaModel, used_of, items_of, admission}

-- the records, oldest first
abbrev pub records : Log → List Record
records l = held l.ring

-- the sets that they stand for
abbrev pub sets_of : Log → List (List Write)
sets_of l = cut l.base (l.version - l.base) (records l)

-- the cells in which they lie
abbrev pub cells_of : Log → List Record
cells_of l = l.ring.cells.now

-- a version from the base up to the version
abbrev pub has_version : Log → ℕ → Bool
has_version l at = nat_le l.base at && nat_le at l.version

-- whether it takes a set where there are so many items, and the version that it becomes
abbrev pub set_answer : Log → ℕ → List Write → Result ℕ Refusal
set_answer l items ws = admission (length (records l)) l.version (size l.ring) items ws

-- a log with this base, these sets above it, and room for so many records
pub record Holds (l : Log) (base : ℕ) (sets : List (List Write)) (capacity : ℕ) : Type 0 where
  pub at : l.base ≡ base
  pub with : sets_of l ≡ sets
  pub room : size l.ring ≡ capacity

-- a replica over a page and a log: its base and its room are the log's, it has the items of the page and as many
-- sets and writes as the log, and where there are no sets the page is its contents
pub record Backs (m : ReplicaModel) (page : List ℕ) (l : Log) : Type 0 where
  pub base : m.base ≡ l.base
  pub items : items_of m ≡ length page
  pub sets : length m.sets ≡ length (sets_of l)
  pub writes : used_of m ≡ sizes (sets_of l)
  pub room : m.capacity ≡ size l.ring
  pub bare : sets_of l ≡ [] → m.contents ≡ page
