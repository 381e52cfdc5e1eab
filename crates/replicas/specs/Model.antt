-- What a replica means, and what each call on it answers and leaves.
use Rattle.std.specs.Prelude.{ℕ, ◌+◌, ◌-◌, Bool, cond, ◌&&◌, List, [], ◌∷◌, ◌++◌, length, take, drop, replicate, is_ok, Ok, Err, Result, ◌==◌, nat_le, nat_lt, slice_index, slice_set}
use Rattle.entries.specs.declared.writes.Write.{Write}
use Rattle.replicas.specs.declared.replica.Refusal.{Refusal}
use Rattle.replicas.specs.declared.replica.Refusal.TheVariants.{InUse, NotKept, NoSuchItem, NoWrites, NoRoom, LastVersion}
use Rattle.replicas.specs.Overlay.{overs, sizes, names_beyond}

-- the contents at the base version, the sets of the versions above it in order, and how many writes can be kept
pub record ReplicaModel : Type 0 where
  pub base : ℕ
  pub contents : List ℕ
  pub sets : List (List Write)
  pub capacity : ℕ

-- no version comes after this one
abbrev pub last_version : ℕ
last_version = 999999

-- the newest version
abbrev pub version_of : ReplicaModel → ℕ
version_of m = m.base + length m.sets

-- how many writes are kept
abbrev pub used_of : ReplicaModel → ℕ
used_of m = sizes m.sets

-- how many items there are
abbrev pub items_of : ReplicaModel → ℕ
items_of m = length m.contents

-- the contents at a version: those at the base with the sets up to it laid over them in order
abbrev pub contents_at : ReplicaModel → ℕ → List ℕ
contents_at m at = overs m.contents (take (at - m.base) m.sets)

-- a version from the base up to the newest
abbrev pub keeps : ReplicaModel → ℕ → Bool
keeps m at = nat_le m.base at && nat_le at (version_of m)

-- a replica at version 0 with these contents
abbrev pub opened : List ℕ → ℕ → ReplicaModel
opened contents capacity = record { base = 0; contents = contents; sets = []; capacity = capacity }

-- clear: version 0, with the word everywhere
abbrev pub cleared : ℕ → ReplicaModel → ReplicaModel
cleared word m = opened (replicate (items_of m) word) m.capacity

-- an opening word is taken at version 0, for an item that is there
abbrev pub open_answer : ReplicaModel → ℕ → Result (Unit {0}) Refusal
open_answer m item =
    cond (nat_lt 0 (version_of m)) (Err InUse)
    (cond (nat_le (items_of m) item) (Err NoSuchItem)
    (Ok tt))

abbrev pub after_open : ℕ → ℕ → ReplicaModel → ReplicaModel
after_open item word m = cond (is_ok (open_answer m item))
    (record { base = m.base; contents = slice_set m.contents item word; sets = m.sets; capacity = m.capacity }) m

-- a read answers the item's word in the contents at the version
abbrev pub read_answer : ReplicaModel → ℕ → ℕ → Result ℕ Refusal
read_answer m at item =
    cond (keeps m at)
    (cond (nat_le (items_of m) item) (Err NoSuchItem) (Ok (slice_index (contents_at m at) item)))
    (Err NotKept)

-- whether a set is taken, after so many writes and at this version, and the version that it becomes
abbrev pub admission : ℕ → ℕ → ℕ → ℕ → List Write → Result ℕ Refusal
admission used version capacity items ws =
    cond (length ws == 0) (Err NoWrites)
    (cond (names_beyond items ws) (Err NoSuchItem)
    (cond (nat_lt capacity (used + length ws)) (Err NoRoom)
    (cond (nat_le last_version version) (Err LastVersion)
    (Ok (version + 1)))))

abbrev pub take_answer : ReplicaModel → List Write → Result ℕ Refusal
take_answer m ws = admission (used_of m) (version_of m) m.capacity (items_of m) ws

-- a set that is taken is that of the next version
abbrev pub after_take : List Write → ReplicaModel → ReplicaModel
after_take ws m = cond (is_ok (take_answer m ws))
    (record { base = m.base; contents = m.contents; sets = m.sets ++ (ws ∷ []); capacity = m.capacity }) m

abbrev pub forget_answer : ReplicaModel → ℕ → Result (Unit {0}) Refusal
forget_answer m to = cond (keeps m to) (Ok tt) (Err NotKept)

-- the version becomes the base: its contents stay, and so do the sets above it
abbrev pub after_forget : ℕ → ReplicaModel → ReplicaModel
after_forget to m = cond (keeps m to)
    (record { base = to; contents = contents_at m to; sets = drop (to - m.base) m.sets; capacity = m.capacity }) m
