use Rattle.std.proofs.Common.{◌≡◌, ◌≤◌, min, length, drop}
use Rattle.banks.specs.Sites.{least_items}
use Rattle.banks.proofs.bank.Bank.items.Given as goal

-- the least so far, with those of the sites that are left
abbrev pub invariant-loop-site : goal.invariant-loop-site
invariant-loop-site g l =
    (l.site-end ≡ length (g.Self.Bank.means l.self))
    × (l.least ≤ 256)
    × (min l.least (least_items (drop l.site (g.Self.Bank.means l.self))) ≡ least_items (g.Self.Bank.means l.self))
