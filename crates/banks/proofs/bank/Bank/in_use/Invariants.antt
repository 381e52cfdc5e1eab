use Rattle.std.proofs.Common.{◌≡◌, length, drop}
use Rattle.banks.specs.Sites.{is_in_use}
use Rattle.banks.proofs.bank.Bank.in_use.Given as goal

-- what is left decides
abbrev pub invariant-loop-site : goal.invariant-loop-site
invariant-loop-site g l =
    (l.site-end ≡ length (g.Self.Bank.means l.self))
    × (is_in_use (drop l.site (g.Self.Bank.means l.self)) ≡ is_in_use (g.Self.Bank.means l.self))
