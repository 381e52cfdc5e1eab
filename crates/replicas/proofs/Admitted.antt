-- What a set that is taken has.
use Rattle.std.proofs.Common.{◌≡◌, ℕ, ◌+◌, ◌<◌, ◌≤◌, false, List, length, Ok, arith}
use Rattle.std.proofs.lemmas.Bool.Decides.{nat_tests}
use Rattle.entries.specs.declared.writes.Write.{Write}
use Rattle.replicas.specs.Overlay.{names_beyond}
use Rattle.replicas.specs.Model.{last_version, admission}

-- its items are there, there is a next version, which it becomes, and room for its writes
pub admitted : (used version capacity items : ℕ) (ws : List Write) (v : ℕ) → Ok v ≡ admission used version capacity items ws
    → (names_beyond items ws ≡ false) × (version < last_version) × (v ≡ version + 1) × (used + length ws ≤ capacity)
admitted used version capacity items ws v e =
    (grind (arith, nat_tests), grind (arith, nat_tests), grind (arith, nat_tests), grind (arith, nat_tests))
