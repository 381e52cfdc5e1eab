use Rattle.std.proofs.Common.{◌≡◌, ◌+◌, ◌≤◌, ◌++◌, map, take, drop}
use Rattle.law.specs.Slots.{restarted, open_count}
use Rattle.slots.specs.Slots.{slot_model}
use Rattle.slots.proofs.sites.Site.restart.Given as goal

-- the slots before this one are counted and started anew, and the others are as they were
abbrev pub invariant-loop-slot : goal.invariant-loop-slot
invariant-loop-slot l =
    record {
      few : l.lost ≤ l.slot-index;
      counted : l.lost + open_count (drop l.slot-index (map slot_model l.slot-items)) ≡ open_count (map slot_model l.initial.slot-items);
      so_far :
          map slot_model l.slot-items
          ≡ map restarted (take l.slot-index (map slot_model l.initial.slot-items)) ++ drop l.slot-index (map slot_model l.initial.slot-items);
    }
