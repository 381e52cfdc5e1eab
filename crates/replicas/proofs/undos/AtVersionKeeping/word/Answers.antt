use Rattle.std.proofs.Common.{◌∙◌}
use Rattle.replicas.proofs.UndoLaws.{undo-word}
use Rattle.replicas.proofs.undos.AtVersionKeeping.word.Goals as goal

pub returns : goal.returns
returns c = c.oldest_word.ensures ∙ undo-word c.args.replica.now.page.now c.args.replica.now.log c.args.at c.args.item c.requires
