-- What an item set means.
use Rattle.std.specs.Prelude.{ℕ, Bool, true, false, List, [], ◌∷◌, slice_index_or, slice_set}
use Rattle.entries.specs.declared.writes.Write.{Write}
use Rattle.entries.specs.declared.items.ItemSet.{ItemSet}

-- the flags of a set, one for each item
abbrev pub flags_of : ItemSet → List Bool
flags_of s = s.flags

-- the flag of the item is set
abbrev pub has : List Bool → ℕ → Bool
has flags i = slice_index_or flags i false

-- the flags with those of the items of a list set
abbrev pub with_items : List Bool → List Write → List Bool
with_items flags [] = flags
with_items flags (w ∷ ws) = with_items (slice_set flags w.item true) ws
