use Rattle.std.proofs.Common.{◌≡◌, ap, rules, ◌∙◌}
use Rattle.std.specs.Option.{option_map}
use Rattle.entries.specs.Lists.{writes}
use Rattle.entries.proofs.Found.{word-found}
use Rattle.entries.proofs.lists.WriteList.get.Goals as goal

pub returns : goal.returns
returns c =
    let is : c.map.result ≡ option_map (λ w. w.word) (option_map (λ r. r.now) c.write_of.result) = search rules in
    is ∙ ap (option_map (λ w. w.word)) c.write_of.ensures ∙ word-found (writes c.args.self.now) c.args.item
