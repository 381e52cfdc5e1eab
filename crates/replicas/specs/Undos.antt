-- What an undo replica means: the page is the contents at the version, and the log has the words that were replaced.
use Rattle.std.specs.Prelude.{ℕ, List, [], ◌∷◌, slice_index}
use Rattle.rings.specs.Held.{size}
use Rattle.entries.specs.declared.writes.Write.{Write}
use Rattle.replicas.specs.declared.logs.Log.{Log}
use Rattle.replicas.specs.Overlay.{over, joined}
use Rattle.replicas.specs.Model.{ReplicaModel}
use Rattle.replicas.specs.Logs.{sets_of}

-- the same items with the words that the contents have
abbrev pub reworded : List ℕ → List Write → List Write
reworded c [] = []
reworded c (w ∷ ws) = record { item = w.item; word = slice_index c w.item } ∷ reworded c ws

-- the sets as they were written, from the contents after them and the words that they replaced:
-- laying the replaced words of all later sets over those contents, oldest last, gives the contents after a set
abbrev pub redone : List ℕ → List (List Write) → List (List Write)
redone c [] = []
redone c (s ∷ ss) = reworded (over c (joined ss)) s ∷ redone c ss

-- the contents at the base are the page with every replaced word laid over it, the oldest last
abbrev pub undo_model : List ℕ → Log → ReplicaModel
undo_model page l =
    record { base = l.base; contents = over page (joined (sets_of l)); sets = redone page (sets_of l); capacity = size l.ring }
