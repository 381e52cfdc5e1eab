use Rattle.std.proofs.Common.{◌≡◌, ◌-◌, true, false, ◌∙◌, arith}
use Rattle.std.proofs.lemmas.List.{length-map}
use Rattle.std.proofs.lemmas.Grind.{common_steps}
use Rattle.rings.specs.Held.{held}
use Rattle.entries.specs.Lists.{writes}
use Rattle.entries.specs.Items.{flags_of}
use Rattle.ledgers.specs.Model.{fetched, meets}
use Rattle.ledgers.specs.Logs.{log_model}
use Rattle.ledgers.proofs.Newest.{search-hit, search-miss, search-end}
use Rattle.ledgers.proofs.scan.ScanFinder.newest.Goals as goal

pub returns : goal.returns
returns c =
    λ fits low.
    c.search.invariant.1
    ∙ search-end (log_model c.args.log.now) (flags_of c.args.items.now) c.search.version c.search.invariant.2 c.args.snapshot low (omega arith)

pub returns-then-contains : goal.returns-then-contains
returns-then-contains c =
    λ fits low.
    let m = log_model c.args.log.now in
    let here : meets (flags_of c.args.items.now) (fetched m c.search.version) ≡ true = grind (arith, common_steps) in
    search-hit m (flags_of c.args.items.now) c.search.version c.search.invariant.2 c.args.snapshot low c.search.invariant.0
    (omega (arith, length-map (held c.args.log.now.ring) writes, c.search.invariant.0)) here

pub returns-2 : goal.returns-2
returns-2 c =
    λ fits low.
    let m = log_model c.args.log.now in
    let here : meets (flags_of c.args.items.now) (fetched m c.search.version) ≡ false = grind (arith, common_steps) in
    let past = search-miss m (flags_of c.args.items.now) c.search.version c.search.invariant.2 here in
    c.loop-w.invariant.0 ∙ search-end m (flags_of c.args.items.now) (c.search.version - 1) past c.args.snapshot low (omega arith)
