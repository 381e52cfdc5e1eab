use Rattle.std.proofs.Common.{[], map, length, get_or, set, sym, ap, ◌∙◌}
use Rattle.std.proofs.lemmas.Bool.{ltb-true}
use Rattle.law.specs.Slots.{restarted}
use Rattle.slots.proofs.Standing.{row-changed}
use Rattle.slots.proofs.tables.SlotTable.restart.Goals as goal

pub returns-clause-after : goal.returns-clause-after
returns-clause-after c =
    let sites = c.self.inside.sites in
    let site = c.args.site in
    let inside = ltb-true site (length sites) (sym c.get.ensures.lookup.0 ∙ c.if-is_none.ensures) in
    row-changed sites site c.index-self-site.result inside c.restart.new.self (map restarted) c.restart.ensures.after
    ∙ ap (λ rows. set rows site (map restarted (get_or rows site []))) c.self.view_is
