use Rattle.std.proofs.Common.{drop, map, ap, ◌∙◌}
use Rattle.replicas.specs.Overlay.{oldest_word_of}
use Rattle.replicas.specs.Records.{plain}
use Rattle.replicas.specs.Logs.{records}
use Rattle.replicas.proofs.Logged.{rest-writes}
use Rattle.replicas.proofs.logs.Log.oldest_word.Goals as goal

pub returns : goal.returns
returns c =
    let l = c.args.self.now in
    c.oldest_word.ensures ∙ ap (λ n. oldest_word_of (map plain (drop n (records l))) c.args.item c.args.word) c.end_of-end.ensures
    ∙ ap (λ ws. oldest_word_of ws c.args.item c.args.word) (rest-writes l.base l.version (records l) l.kept c.args.at)
