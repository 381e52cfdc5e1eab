-- What a table of slots means: a row of slot models for each site.
use Rattle.std.specs.Borrow.{Bor}
use Rattle.std.specs.Prelude.{◌≡◌, ℕ, Bool, false, List, [], map, length, Some, None, Option, nat_lt, slice_index_or, slice_set}
use Rattle.law.specs.Slots.{SlotModel}
use Rattle.law.specs.Slots.SlotModel.{idle}
use Rattle.slots.specs.declared.slots.Slot.{Slot}
use Rattle.slots.specs.declared.sites.Site.{Site}
use Rattle.slots.specs.Slots.{slot_model}

-- the slots of a site
abbrev pub row_model : Site → List SlotModel
row_model s = map slot_model s.slots

-- the site has such a slot
abbrev pub has_slot : List (List SlotModel) → ℕ → ℕ → Bool
has_slot rows site slot = nat_lt slot (length (slice_index_or rows site []))

-- a slot of a row: idle where there is none
abbrev pub in_row : List SlotModel → ℕ → SlotModel
in_row row slot = slice_index_or row slot idle

-- a row after a change of one slot: the others stay, and so do all where there is no such slot
abbrev pub changed_in : List SlotModel → ℕ → (SlotModel → SlotModel) → List SlotModel
changed_in row slot change = slice_set row slot (change (in_row row slot))

-- a slot of a site: idle where there is none
abbrev pub slot_in : List (List SlotModel) → ℕ → ℕ → SlotModel
slot_in rows site slot = in_row (slice_index_or rows site []) slot

-- the rows after a change of one slot of a site: the others stay, and so do all where there is no such slot
abbrev pub changed_slot : List (List SlotModel) → ℕ → ℕ → (SlotModel → SlotModel) → List (List SlotModel)
changed_slot rows site slot change = slice_set rows site (changed_in (slice_index_or rows site []) slot change)

-- what is lent is a slot with this model, or nothing where that is idle
abbrev pub Lends : Option (Bor Slot) → SlotModel → Type 0
Lends None m = idle ≡ m
Lends (Some x) m = slot_model x.now ≡ m

-- a call that answers and leaves what Q says was made on a slot; or there is no such slot, and nothing changed
abbrev pub Changes : {R : Type 0} → (Slot → R → Slot → Type 0) → List (List SlotModel) → ℕ → ℕ → Option R → List (List SlotModel) → Type 0
Changes Q rows site slot None rows' = (has_slot rows site slot ≡ false) × (rows' ≡ rows)
Changes Q rows site slot (Some r) rows' =
    (x : Slot) × (y : Slot) × (slot_model x ≡ slot_in rows site slot) × Q x r y × (rows' ≡ changed_slot rows site slot (λ _. slot_model y))
