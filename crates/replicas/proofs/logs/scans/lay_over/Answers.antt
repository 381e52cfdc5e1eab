use Rattle.std.proofs.Common.{map, sym, ap, ◌∙◌}
use Rattle.std.proofs.lemmas.List.{map-append}
use Rattle.replicas.specs.Overlay.{laid}
use Rattle.replicas.specs.Records.{plain}
use Rattle.replicas.proofs.Overlays.{laid-append}
use Rattle.replicas.proofs.logs.scans.lay_over.Goals as goal

pub returns : goal.returns
returns c =
    c.lay-2.ensures ∙ ap (λ p. laid p (map plain c.range.result.1.now)) c.lay.ensures
    ∙ sym (laid-append c.args.page.now (map plain c.range.result.0.now) (map plain c.range.result.1.now))
    ∙ ap (laid c.args.page.now) (sym (map-append plain c.range.result.0.now c.range.result.1.now) ∙ ap (map plain) c.range.ensures)
