use Rattle.std.proofs.Common.{◌≡◌, ◌++◌, map, length, take, drop}
use Rattle.replicas.specs.Model.{cleared}
use Rattle.banks.proofs.bank.Bank.clear.Given as goal

-- the sites below this one are changed, the others not
abbrev pub invariant-loop-site : goal.invariant-loop-site
invariant-loop-site g l =
    let before = g.Self.Bank.means l.initial.self in
    (l.site-end ≡ length before)
    × (g.Self.Bank.means l.self ≡ map (cleared l.word) (take l.site before) ++ drop l.site before)
