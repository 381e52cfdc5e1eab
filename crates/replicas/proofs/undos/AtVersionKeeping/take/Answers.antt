use Rattle.std.proofs.Common.{rules}
use Rattle.entries.specs.Lists.{writes}
use Rattle.replicas.specs.Undone.{undo-backs}
use Rattle.replicas.proofs.Backed.{take-is}
use Rattle.replicas.proofs.UndoLaws.{undo-taken}
use Rattle.replicas.proofs.undos.AtVersionKeeping.take.Goals as goal

pub returns-clause-answer : goal.returns-clause-answer
returns-clause-answer c =
    let r = c.args.replica.now in
    let e = take-is _ _ _ (undo-backs r.page.now r.log) (writes c.args.set.now) in cc

pub returns-clause-after : goal.returns-clause-after
returns-clause-after c =
    let r = c.args.replica.now in
    search (rules, undo-taken r.page.now r.log (writes c.args.set.now), c.args.set.now.sorted)
