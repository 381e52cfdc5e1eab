use Rattle.std.proofs.Common.{◌≡◌, map, take}
use Rattle.law.specs.Slots.{smallest_open_of}
use Rattle.slots.specs.Slots.{slot_model}
use Rattle.slots.proofs.sites.Site.horizon.Given as goal

abbrev pub invariant-loop-slot : goal.invariant-loop-slot
invariant-loop-slot l = l.smallest ≡ smallest_open_of (take l.slot-index (map slot_model l.self.slots))
