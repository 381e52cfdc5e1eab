use Rattle.replicas.proofs.PageLaws.{page-forgotten}
use Rattle.replicas.proofs.pages.AtBaseKeeping.forget.Goals as goal

pub returns : goal.returns
returns c = let r = c.args.replica.now in page-forgotten r.page.now r.log c.args.to _ _ c.lay-end.ensures.page c.rebase.ensures c.requires
