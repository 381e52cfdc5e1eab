use Rattle.std.proofs.Common.{◌≡◌, eqb, ◌++◌, drop, map, arith, ap, rules, ◌∙◌}
use Rattle.std.specs.List.{find}
use Rattle.std.proofs.lemmas.List.{take_all}
use Rattle.rings.specs.Held.{held}
use Rattle.replicas.specs.Overlay.{oldest_word_of}
use Rattle.replicas.specs.Records.{plain}
use Rattle.replicas.proofs.Scans.{found, oldest-found}
use Rattle.replicas.proofs.logs.scans.oldest_word.Goals as goal

pub returns : goal.returns
returns c =
    let is : c.map_or.result ≡ found (find (λ r. eqb r.item c.args.item) (c.range.result.0.now ++ c.range.result.1.now)) c.args.word = search rules in
    is ∙ oldest-found (c.range.result.0.now ++ c.range.result.1.now) c.args.item c.args.word
    ∙ ap (λ rs. oldest_word_of (map plain rs) c.args.item c.args.word) (c.range.ensures ∙ ap (drop c.args.start) (take_all _ (held c.args.ring.now) (omega arith)))
