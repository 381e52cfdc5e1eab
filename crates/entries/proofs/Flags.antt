-- Flags of items, and those of a list's items set.
use Rattle.std.proofs.Common.{◌≡◌, ℕ, ◌<◌, Bool, true, ◌||◌, eqb, List, [], ◌∷◌, length, set, arith}
use Rattle.std.proofs.lemmas.List.{length-set, get_or-set_same, get_or-set_other}
use Rattle.std.proofs.lemmas.Bool.{cases_eq}
use Rattle.std.proofs.lemmas.Bool.Decides.{nat_tests}
use Rattle.entries.specs.declared.writes.Write.{Write}
use Rattle.entries.specs.Writes.{names}
use Rattle.entries.specs.Items.{has, with_items}

has-set : (flags : List Bool) (k i : ℕ) → i < length flags → has (set flags k true) i ≡ (has flags i || eqb k i)
has-set flags k i h = grind (arith, nat_tests, get_or-set_same, get_or-set_other, cases_eq k i)

-- an item is in the union if it is in the set or in the list
pub has-union : (flags : List Bool) (ws : List Write) (i : ℕ) → i < length flags → has (with_items flags ws) i ≡ (has flags i || names ws i)
has-union flags [] i h = grind (arith, nat_tests)
has-union flags (w ∷ ws) i h = grind (arith, nat_tests, has-union (set flags w.item true) ws i (rw length-set h), has-set flags w.item i h)
