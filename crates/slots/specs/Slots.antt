-- What a slot means, and what each call on it answers and leaves.
use Rattle.std.specs.Prelude.{ℕ, Bool, true, false, cond, ◌||◌, List, [], length, replicate, Some, None, Ok, Err, Option, Result, ◌==◌, slice_set}
use Rattle.entries.specs.declared.writes.Write.{Write}
use Rattle.entries.specs.declared.lists.ListFull.{ListFull}
use Rattle.entries.specs.Writes.{word_of, put_in}
use Rattle.entries.specs.Lists.{writes, may_put}
use Rattle.entries.specs.Items.{flags_of, with_items}
use Rattle.law.specs.Slots.{SlotModel, state_number}
use Rattle.law.specs.Slots.SlotModel.{idle, opened, filed}
use Rattle.slots.specs.declared.slots.State.{State}
use Rattle.slots.specs.declared.slots.State.TheVariants.{Idle, Open, Filed}
use Rattle.slots.specs.declared.slots.Slot.{Slot}

-- a state with the writes and the flags beside it: only an open one has either
abbrev pub model_by : State → List Write → List Bool → SlotModel
model_by Idle ws items = idle
model_by (Open s) ws items = opened s ws items
model_by (Filed n) ws items = filed n

-- the model of a slot
abbrev pub slot_model : Slot → SlotModel
slot_model s = model_by s.state (writes s.writes) (flags_of s.reads)

-- the number of a state, as a refusal tells it
abbrev pub number_of : State → ℕ
number_of s = state_number (model_by s [] [])

-- no item is flagged
abbrev pub no_items : List Bool
no_items = replicate 256 false

-- what a slot answers to a call's letter: the number that it goes by, or its state.
-- B is 66, R 82, W 87, F 70, X 88, C 67
abbrev pub admit_answer : ℕ → ℕ → SlotModel → Result ℕ State
admit_answer letter version idle = cond (letter == 66) (Ok version) (Err Idle)
admit_answer letter version (opened s ws items) =
    cond (letter == 82 || (letter == 87 || (letter == 70 || letter == 88))) (Ok s) (Err (Open s))
admit_answer letter version (filed n) = cond (letter == 67) (Ok n) (Err (Filed n))

-- the slot that a call's letter leaves: B opens an idle one at the version, X ends an open one
abbrev pub after_admit : ℕ → ℕ → SlotModel → SlotModel
after_admit letter version idle = cond (letter == 66) (opened version [] no_items) idle
after_admit letter version (opened s ws items) = cond (letter == 88) idle (opened s ws items)
after_admit letter version (filed n) = filed n

-- the word that an open transaction wrote to the item
abbrev pub own_word : ℕ → SlotModel → Option ℕ
own_word item idle = None
own_word item (opened s ws items) = word_of ws item
own_word item (filed n) = None

-- the item joins those that an open transaction read
abbrev pub noted : ℕ → SlotModel → SlotModel
noted item idle = idle
noted item (opened s ws items) = opened s ws (slice_set items item true)
noted item (filed n) = filed n

-- an open transaction takes a write while its list may, and answers the list's new length
abbrev pub put_answer : ℕ → ℕ → SlotModel → Result ℕ ListFull
put_answer item word idle = Err (record {})
put_answer item word (opened s ws items) = cond (may_put ws item) (Ok (length (put_in ws item word))) (Err (record {}))
put_answer item word (filed n) = Err (record {})

-- the slot after that: a refusal leaves it
abbrev pub after_put : ℕ → ℕ → SlotModel → SlotModel
after_put item word idle = idle
after_put item word (opened s ws items) = cond (may_put ws item) (opened s (put_in ws item word) items) (opened s ws items)
after_put item word (filed n) = filed n

-- what an open transaction wrote
abbrev pub writes_of : SlotModel → List Write
writes_of idle = []
writes_of (opened s ws items) = ws
writes_of (filed n) = []

-- the flags of the items that an open transaction read or wrote
abbrev pub touched_by : SlotModel → List Bool
touched_by idle = no_items
touched_by (opened s ws items) = with_items items ws
touched_by (filed n) = no_items

-- the snapshot of an open transaction
abbrev pub snapshot_of : SlotModel → Option ℕ
snapshot_of idle = None
snapshot_of (opened s ws items) = Some s
snapshot_of (filed n) = None

-- 1 for an open slot, else 0
abbrev pub opens : SlotModel → ℕ
opens idle = 0
opens (opened s ws items) = 1
opens (filed n) = 0
