use Rattle.std.proofs.Common.{◌<◌, length, get_or, refl, ◌∙◌, ap, arith}
use Rattle.slots.specs.Slots.{slot_model}
use Rattle.slots.specs.Tables.{slot_in, changed_slot}
use Rattle.slots.proofs.Standing.{slot-seen, slot-changed}
use Rattle.slots.proofs.tables.SlotTable.change.Goals as goal

pub returns : goal.returns
returns g c =
    let sites = c.self.inside.sites in
    let site = c.args.at.site in
    let slot = c.args.at.slot in
    let d = c.index-self-at.result in
    let e = c.index-row-at.result in
    let y = c.call.new.arg2 in
    let inside = c.in_ok-slot.ensures.within tt in
    let at_site : site < length sites = omega (arith, inside.0) in
    let at_slot : slot < length (get_or sites site d).slots = omega (arith, inside.1) in (
      _,
      y,
      slot-seen sites site d at_site slot e at_slot ∙ ap (λ rows. slot_in rows site slot) c.self.view_is,
      record { shown = _; shows = refl; left = _; met = c.call.ensures; leaves = refl },
      slot-changed sites site d at_site slot y ∙ ap (λ rows. changed_slot rows site slot (λ _. slot_model y)) c.self.view_is,
    )
