use Rattle.std.proofs.Common.{sym, ◌∙◌}
use Rattle.entries.specs.Lists.{writes}
use Rattle.replicas.specs.Pages.{page-backs}
use Rattle.replicas.proofs.Backed.{take-is}
use Rattle.replicas.proofs.PageLaws.{page-taken}
use Rattle.replicas.proofs.pages.AtBaseKeeping.take.Goals as goal

pub returns : goal.returns
returns c =
    let r = c.args.replica.now in
    let ws = writes c.args.set.now in
    let e = c.append.ensures in
    record {
      answer = e.answer ∙ sym (take-is _ _ _ (page-backs r.page.now r.log) ws);
      after = page-taken r.page.now r.log ws _ _ e.answer e.taken e.refused;
    }
