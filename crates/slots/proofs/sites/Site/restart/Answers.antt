use Rattle.std.proofs.Common.{◌≡◌, map, length, arith}
use Rattle.std.proofs.lemmas.List.{length-map}
use Rattle.slots.specs.Slots.{slot_model}
use Rattle.slots.proofs.Rows.{count-more, restart-more}
use Rattle.slots.proofs.sites.Site.restart.Goals as goal

pub loop-slot-preserved : goal.loop-slot-preserved
loop-slot-preserved c =
    let xs = c.loop-slot.slot-items in
    let i = c.loop-slot.slot-index in
    let d = c.slot-item.result in
    let y = c.restart-lost.new.self in
    let ms = map slot_model c.args.self.now.slots in
    let same : length xs ≡ length ms = omega (arith, length-map c.args.self.now.slots slot_model) in
    record {
      few = omega arith;
      counted = omega (arith, count-more xs i d (omega arith) y);
      so_far = restart-more xs i d (omega arith) ms y same c.loop-slot.invariant.so_far c.restart-lost.ensures.after;
    }
