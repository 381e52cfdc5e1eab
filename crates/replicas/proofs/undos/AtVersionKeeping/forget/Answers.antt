use Rattle.replicas.proofs.UndoLaws.{undo-forgotten}
use Rattle.replicas.proofs.undos.AtVersionKeeping.forget.Goals as goal

pub returns : goal.returns
returns c = let r = c.args.replica.now in undo-forgotten r.page.now r.log c.args.to _ c.forget.ensures c.requires
