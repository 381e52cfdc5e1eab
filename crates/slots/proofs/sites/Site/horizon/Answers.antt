use Rattle.std.proofs.Common.{◌≡◌, min, Some, unwrap_or, sym, ap, ◌∙◌, arith}
use Rattle.slots.proofs.Rows.{smaller, smallest-more}
use Rattle.slots.proofs.sites.Site.horizon.Goals as goal
use Rattle.slots.proofs.sites.Site.horizon.Goals.{in-Some, in_default}

pub loop-slot-preserved : goal.loop-slot-preserved
loop-slot-preserved c =
    let o = c.loop-slot.smallest in
    let more = smallest-more c.args.self.now.slots c.loop-slot.slot-index c.slot-item.result (omega arith) o c.snapshot.result
    c.loop-slot.invariant c.snapshot.ensures in
    elim c.match-snapshot.branch [
      | in-Some w ↦
          let s = w.in-Some.snapshot in
          let taken : c.match-snapshot.smallest ≡ Some (min (unwrap_or o s) s) = cc in
          taken ∙ ap (smaller o) (sym w.in-Some.is) ∙ more
      | in_default w ↦ w.smallest-is ∙ ap (smaller o) (sym w.in_default.is) ∙ more
    ]
