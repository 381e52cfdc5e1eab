-- Lists of writes in rising order of their items.
use Rattle.std.specs.Prelude.{ℕ, Bool, true, ◌&&◌, List, [], ◌∷◌, nat_lt}
use Rattle.entries.specs.declared.writes.Write.{Write}

-- the items rise strictly, and all are above `low`
abbrev pub rises_above : ℕ → List Write → Bool
rises_above low [] = true
rises_above low (w ∷ ws) = nat_lt low w.item && rises_above w.item ws

-- the items rise strictly: each is there once
abbrev pub rising : List Write → Bool
rising [] = true
rising (w ∷ ws) = rises_above w.item ws
