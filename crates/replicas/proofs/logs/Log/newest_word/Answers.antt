use Rattle.std.proofs.Common.{take, map, ap, ◌∙◌}
use Rattle.replicas.specs.Overlay.{newest_word_of}
use Rattle.replicas.specs.Records.{plain}
use Rattle.replicas.specs.Logs.{records}
use Rattle.replicas.proofs.Logged.{front-writes}
use Rattle.replicas.proofs.logs.Log.newest_word.Goals as goal

pub returns : goal.returns
returns c =
    let l = c.args.self.now in
    c.newest_word.ensures ∙ ap (λ n. newest_word_of (map plain (take n (records l))) c.args.item c.args.word) c.end_of-end.ensures
    ∙ ap (λ ws. newest_word_of ws c.args.item c.args.word) (front-writes l.base l.version (records l) l.kept c.args.at)
