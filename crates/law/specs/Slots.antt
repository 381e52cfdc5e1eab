-- What a slot means: a place at a site that runs one transaction.
use Rattle.std.specs.Prelude.{ℕ, ◌+◌, min, Bool, List, [], ◌∷◌, Some, None, Option}
use Rattle.std.specs.Option.{unwrap_or}
use Rattle.entries.specs.declared.writes.Write.{Write}

-- idle; open at a snapshot, with what was written and the flags of the items read; or filed with a number
pub data SlotModel : Type 0 where
  idle : SlotModel
  opened : ℕ → List Write → List Bool → SlotModel
  filed : ℕ → SlotModel

-- a site has so many slots
abbrev pub slot_count : ℕ
slot_count = 8

-- the number of a slot's state, as a refusal tells it
abbrev pub state_number : SlotModel → ℕ
state_number idle = 0
state_number (opened s ws items) = 1
state_number (filed n) = 2

-- the smallest snapshot among the open slots
abbrev pub smallest_open_of : List SlotModel → Option ℕ
smallest_open_of [] = None
smallest_open_of (idle ∷ xs) = smallest_open_of xs
smallest_open_of (opened s ws items ∷ xs) = Some (min s (unwrap_or (smallest_open_of xs) s))
smallest_open_of (filed n ∷ xs) = smallest_open_of xs

-- the horizon of a site at this version: its smallest open snapshot, or the version where no slot is open
abbrev pub horizon : List SlotModel → ℕ → ℕ
horizon xs version = unwrap_or (smallest_open_of xs) version

-- a slot after its site is started anew: an open transaction is lost, a filed one stays
abbrev pub restarted : SlotModel → SlotModel
restarted idle = idle
restarted (opened s ws items) = idle
restarted (filed n) = filed n

-- how many slots are open
abbrev pub open_count : List SlotModel → ℕ
open_count [] = 0
open_count (idle ∷ xs) = open_count xs
open_count (opened s ws items ∷ xs) = open_count xs + 1
open_count (filed n ∷ xs) = open_count xs
