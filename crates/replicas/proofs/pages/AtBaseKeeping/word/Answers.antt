use Rattle.std.proofs.Common.{◌∙◌}
use Rattle.replicas.proofs.PageLaws.{page-word}
use Rattle.replicas.proofs.pages.AtBaseKeeping.word.Goals as goal

pub returns : goal.returns
returns c = c.newest_word.ensures ∙ page-word c.args.replica.now.page.now c.args.replica.now.log c.args.at c.args.item c.requires
