-- Lists of writes that meet a set of items.
use Rattle.std.proofs.Common.{◌≡◌, ℕ, ◌<◌, Bool, true, false, List, [], ◌∷◌, length, refl, arith}
use Rattle.std.proofs.lemmas.List.{get_or_past}
use Rattle.std.proofs.lemmas.Bool.Decides.{nat_tests}
use Rattle.entries.specs.declared.writes.Write.{Write}
use Rattle.entries.specs.Writes.{names}
use Rattle.entries.specs.Items.{has}
use Rattle.ledgers.specs.Model.{meets}

-- one of the items is named
pub meets-by : (items : List Bool) (k : ℕ) → has items k ≡ true → (ws : List Write) → names ws k ≡ true → meets items ws ≡ true
meets-by items k at [] named = named
meets-by items k at (w ∷ ws) named = grind (arith, nat_tests, meets-by items k at ws)

-- none of them is
pub meets-none : (items : List Bool) (ws : List Write) → ((k : ℕ) → has items k ≡ true → names ws k ≡ false) → meets items ws ≡ false
meets-none items [] none = refl
meets-none items (w ∷ ws) none =
    grind (arith, nat_tests, none w.item, meets-none items ws (λ k at. let n = none k at in grind (arith, nat_tests)))

-- items with set flags are among the flags
pub has-below : (items : List Bool) (k : ℕ) → has items k ≡ true → k < length items
has-below items k at = grind (arith, get_or_past items k false)
