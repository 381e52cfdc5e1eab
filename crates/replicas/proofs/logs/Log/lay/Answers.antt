use Rattle.std.proofs.Common.{take, map, ap, ◌∙◌}
use Rattle.replicas.specs.Overlay.{laid}
use Rattle.replicas.specs.Records.{plain}
use Rattle.replicas.specs.Logs.{records}
use Rattle.replicas.proofs.Logged.{front-writes}
use Rattle.replicas.proofs.logs.Log.lay.Goals as goal

pub returns-clause-page : goal.returns-clause-page
returns-clause-page c =
    let l = c.args.self.now in
    c.lay_over.ensures ∙ ap (λ n. laid c.args.page.now (map plain (take n (records l)))) c.end_of-end.ensures
    ∙ ap (laid c.args.page.now) (front-writes l.base l.version (records l) l.kept c.args.to)
