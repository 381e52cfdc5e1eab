-- How many items a ring holds, and where they lie.
use Rattle.std.proofs.Common.{◌≡◌, ℕ, ◌<◌, ◌≤◌, min, length, get_or, arith, rules}
use Rattle.std.proofs.lemmas.List.{places}
use Rattle.std.proofs.lemmas.Bool.Decides.{nat_tests}
use Rattle.rings.specs.declared.ring.Ring.{Ring}
use Rattle.rings.specs.Held.{placed, held, size}

pub held-length : {T : Type 0} (r : Ring T) → length (held r) ≡ min r.len (size r)
held-length r = search (rules, places)

pub held-room : {T : Type 0} (r : Ring T) → length (held r) ≤ size r
held-room r = search (rules, places)

-- the item at a place, by the cell where it lies
pub held_at : {T : Type 0} (r : Ring T) (i : ℕ) (d : T) → i < length (held r) → get_or (held r) i d ≡ get_or r.cells.now (placed r.first (size r) i) d
held_at r i d h = grind (arith, nat_tests, places)

-- that cell is one of the cells
pub held_below : {T : Type 0} (r : Ring T) (i : ℕ) → i < length (held r) → placed r.first (size r) i < size r
held_below r i h = grind (arith, nat_tests, places)
