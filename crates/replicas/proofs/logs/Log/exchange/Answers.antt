use Rattle.std.proofs.Common.{length, refl, ◌∙◌}
use Rattle.entries.specs.Lists.{writes}
use Rattle.replicas.specs.Overlay.{replaced}
use Rattle.replicas.proofs.Logged.{log-grown}
use Rattle.replicas.proofs.Undone.{rising-replaced}
use Rattle.replicas.proofs.logs.Log.exchange.Goals as goal

pub invariant_of-self : goal.invariant_of-self
invariant_of-self c =
    let page = c.args.page.now in
    let ws = writes c.args.set.now in
    let rises = rising-replaced page ws ∙ c.args.set.now.sorted in
    let g = log-grown c.args.self.now (length page) _ ws (replaced page ws) _ c.in_ok-version.ensures (rw c.as_slice.ensures at c.exchange.ensures.after) rises in
    record { kept = g.0; rising = g.1 }

pub returns-clause-taken : goal.returns-clause-taken
returns-clause-taken c =
    let page = c.args.page.now in
    let ws = writes c.args.set.now in
    let rises = rising-replaced page ws ∙ c.args.set.now.sorted in
    let g = log-grown c.args.self.now (length page) _ ws (replaced page ws) _ c.in_ok-version.ensures (rw c.as_slice.ensures at c.exchange.ensures.after) rises in
    record { at = refl; with = g.2; room = c.exchange.ensures.room }
