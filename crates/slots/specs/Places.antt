-- Where a slot is.
use Rattle.std.specs.Prelude.{ℕ}
use Rattle.slots.specs.declared.places.Place.{Place}

-- the slot with this number at the site with this number
abbrev pub place : ℕ → ℕ → Place
place site slot = record { site = site; slot = slot }
