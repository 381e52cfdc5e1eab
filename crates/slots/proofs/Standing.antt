-- The slots of a table, as its rows have them.
use Rattle.std.proofs.Common.{◌≡◌, ℕ, ◌<◌, List, [], map, length, get_or, set, sym, ap, ◌∙◌}
use Rattle.std.proofs.lemmas.List.{get_or-map, map-set}
use Rattle.law.specs.Slots.{SlotModel}
use Rattle.law.specs.Slots.SlotModel.{idle}
use Rattle.slots.specs.declared.slots.Slot.{Slot}
use Rattle.slots.specs.declared.sites.Site.{Site}
use Rattle.slots.specs.Slots.{slot_model}
use Rattle.slots.specs.Tables.{row_model, slot_in, changed_slot}

-- d and e are what would stand where there is no such site or slot
module _ (sites : List Site) (site : ℕ) (d : Site) (at_site : site < length sites) where
  -- the row of a site
  row-seen : row_model (get_or sites site d) ≡ get_or (map row_model sites) site []
  row-seen = sym (get_or-map row_model sites site d [] at_site)

  -- a site's row is changed
  pub row-changed : (row : Site) (change : List SlotModel → List SlotModel) → row_model row ≡ change (row_model (get_or sites site d)) →
      map row_model (set sites site row) ≡ set (map row_model sites) site (change (get_or (map row_model sites) site []))
  row-changed row change e = map-set row_model sites site row ∙ ap (set (map row_model sites) site) (e ∙ ap change row-seen)

  -- a slot of it
  pub slot-seen : (slot : ℕ) (e : Slot) → slot < length (get_or sites site d).slots →
      slot_model (get_or (get_or sites site d).slots slot e) ≡ slot_in (map row_model sites) site slot
  slot-seen slot e at_slot = sym (get_or-map slot_model (get_or sites site d).slots slot e idle at_slot) ∙ ap (λ row. get_or row slot idle) row-seen

  -- a slot is changed to y
  pub slot-changed : (slot : ℕ) (y : Slot) →
      map row_model (set sites site (record { slots = set (get_or sites site d).slots slot y })) ≡ changed_slot (map row_model sites) site slot (λ _. slot_model y)
  slot-changed slot y = row-changed _ (λ row. set row slot (slot_model y)) (map-set slot_model (get_or sites site d).slots slot y)
