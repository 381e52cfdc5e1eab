-- What a ledger means, and what each call on it answers and leaves.
use Rattle.std.specs.Prelude.{ℕ, ◌+◌, ◌-◌, min, max, Bool, false, cond, ◌&&◌, ◌||◌, List, [], ◌∷◌, ◌++◌, length, drop, is_ok, Some, None, Ok, Err, Option, Result, ◌==◌, nat_le, nat_lt, slice_get, slice_index_or}
use Rattle.entries.specs.declared.writes.Write.{Write}
use Rattle.entries.specs.Items.{has}
use Rattle.ledgers.specs.declared.ledger.LedgerRefusal.{LedgerRefusal}
use Rattle.ledgers.specs.declared.ledger.LedgerRefusal.TheVariants.{BelowFloor, NoWrites, LastVersion, Full}

-- the floor, the sets of the versions above it in order, and how many sets there is room for
pub record LedgerModel : Type 0 where
  pub floor : ℕ
  pub sets : List (List Write)
  pub capacity : ℕ

-- no version comes after this one
abbrev pub last_version : ℕ
last_version = 999999

-- the newest version
abbrev pub head_of : LedgerModel → ℕ
head_of m = m.floor + length m.sets

-- clear: floor and head 0
abbrev pub cleared : LedgerModel → LedgerModel
cleared m = record { floor = 0; sets = []; capacity = m.capacity }

-- the list writes one of the items whose flags are set
abbrev pub meets : List Bool → List Write → Bool
meets items [] = false
meets items (w ∷ ws) = has items w.item || meets items ws

-- the greatest version whose set writes one of the items, where the first of the sets is that of version v
abbrev pub newest_in : ℕ → List (List Write) → List Bool → Option ℕ
newest_in v [] items = None
newest_in v (s ∷ ss) items = elim (newest_in (v + 1) ss items) [ Some n ↦ Some n | None ↦ cond (meets items s) (Some v) None ]

-- the greatest version above the snapshot whose set writes one of the items
abbrev pub newest : LedgerModel → ℕ → List Bool → Option ℕ
newest m snapshot items = newest_in (snapshot + 1) (drop (snapshot - m.floor) m.sets) items

-- refused with the floor where the snapshot is below it: what was let go cannot be searched
abbrev pub newest_answer : LedgerModel → ℕ → List Bool → Result (Option ℕ) LedgerRefusal
newest_answer m snapshot items = cond (nat_lt snapshot m.floor) (Err (BelowFloor m.floor)) (Ok (newest m snapshot items))

abbrev pub add_answer : LedgerModel → List Write → Result ℕ LedgerRefusal
add_answer m ws =
    cond (length ws == 0) (Err NoWrites)
    (cond (nat_le last_version (head_of m)) (Err LastVersion)
    (cond (nat_le m.capacity (length m.sets)) (Err Full)
    (Ok (head_of m + 1))))

-- a list that is added is the set of the next version
abbrev pub after_add : List Write → LedgerModel → LedgerModel
after_add ws m = cond (is_ok (add_answer m ws)) (record { floor = m.floor; sets = m.sets ++ (ws ∷ []); capacity = m.capacity }) m

-- the set of a version above the floor and up to the head; no other has one
abbrev pub entry_of : LedgerModel → ℕ → Option (List Write)
entry_of m v = cond (nat_lt m.floor v) (slice_get m.sets (v - m.floor - 1)) None

-- the set of a version above the floor and up to the head, or else the empty list
abbrev pub fetched : LedgerModel → ℕ → List Write
fetched m v = cond (nat_lt m.floor v && nat_le v (head_of m)) (slice_index_or m.sets (v - m.floor - 1) []) []

-- the floor rises to the version, to the head at most, and the sets up to it are let go
abbrev pub trimmed : ℕ → LedgerModel → LedgerModel
trimmed v m =
    record { floor = max m.floor (min v (head_of m)); sets = drop (min v (head_of m) - m.floor) m.sets; capacity = m.capacity }
