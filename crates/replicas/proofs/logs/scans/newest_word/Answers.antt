use Rattle.std.proofs.Common.{◌≡◌, eqb, ◌++◌, reverse, map, sym, ap, rules, ◌∙◌}
use Rattle.std.specs.List.{find}
use Rattle.std.proofs.lemmas.List.{reverse-append}
use Rattle.replicas.specs.Overlay.{newest_word_of}
use Rattle.replicas.specs.Records.{plain}
use Rattle.replicas.proofs.Scans.{found, newest-found}
use Rattle.replicas.proofs.logs.scans.newest_word.Goals as goal

pub returns : goal.returns
returns c =
    let is : c.map_or.result ≡ found (find (λ r. eqb r.item c.args.item) (reverse c.range.result.1.now ++ reverse c.range.result.0.now)) c.args.word = search rules in
    is ∙ ap (λ rs. found (find (λ r. eqb r.item c.args.item) rs) c.args.word) (sym (reverse-append c.range.result.0.now c.range.result.1.now))
    ∙ newest-found (c.range.result.0.now ++ c.range.result.1.now) c.args.item c.args.word
    ∙ ap (λ rs. newest_word_of (map plain rs) c.args.item c.args.word) c.range.ensures
