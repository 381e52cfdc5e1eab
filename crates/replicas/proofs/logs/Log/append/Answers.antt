use Rattle.std.proofs.Common.{refl}
use Rattle.entries.specs.Lists.{writes}
use Rattle.replicas.proofs.Logged.{log-grown}
use Rattle.replicas.proofs.logs.Log.append.Goals as goal

pub invariant_of-self : goal.invariant_of-self
invariant_of-self c =
    let ws = writes c.args.set.now in
    let g = log-grown c.args.self.now c.args.items _ ws ws _ c.in_ok-version.ensures (rw c.as_slice.ensures at c.append.ensures.after) c.args.set.now.sorted in
    record { kept = g.0; rising = g.1 }

pub returns-clause-taken : goal.returns-clause-taken
returns-clause-taken c =
    let ws = writes c.args.set.now in
    let g = log-grown c.args.self.now c.args.items _ ws ws _ c.in_ok-version.ensures (rw c.as_slice.ensures at c.append.ensures.after) c.args.set.now.sorted in
    record { at = refl; with = g.2; room = c.append.ensures.room }
