-- Contents with writes laid over them.
use Rattle.std.specs.Prelude.{ℕ, ◌+◌, Bool, cond, List, [], ◌∷◌, ◌++◌, length, ◌==◌, nat_le, slice_index, slice_set}
use Rattle.std.specs.List.{list_any}
use Rattle.entries.specs.declared.writes.Write.{Write}

-- the contents with the writes laid over them; of two writes of one item the first counts
abbrev pub over : List ℕ → List Write → List ℕ
over c [] = c
over c (w ∷ ws) = slice_set (over c ws) w.item w.word

-- the contents with the sets laid over them, one after another
abbrev pub overs : List ℕ → List (List Write) → List ℕ
overs c [] = c
overs c (s ∷ ss) = overs (over c s) ss

-- how many writes the sets have
abbrev pub sizes : List (List Write) → ℕ
sizes [] = 0
sizes (s ∷ ss) = length s + sizes ss

-- all writes of the sets, in order
abbrev pub joined : List (List Write) → List Write
joined [] = []
joined (s ∷ ss) = s ++ joined ss

-- some write is of an item that is not below the limit
abbrev pub names_beyond : ℕ → List Write → Bool
names_beyond limit ws = list_any (λ w. nat_le limit w.item) ws

-- the contents with the writes laid over them one by one; of two writes of one item the last counts
abbrev pub laid : List ℕ → List Write → List ℕ
laid c [] = c
laid c (w ∷ ws) = laid (slice_set c w.item w.word) ws

-- the word of the last write of the item, or `word` where there is none
abbrev pub newest_word_of : List Write → ℕ → ℕ → ℕ
newest_word_of [] item word = word
newest_word_of (w ∷ ws) item word = newest_word_of ws item (cond (w.item == item) w.word word)

-- the word of the first write of the item, or `word` where there is none
abbrev pub oldest_word_of : List Write → ℕ → ℕ → ℕ
oldest_word_of [] item word = word
oldest_word_of (w ∷ ws) item word = cond (w.item == item) w.word (oldest_word_of ws item word)

-- the words that the writes replace, each with its item, as they are laid one by one
abbrev pub replaced : List ℕ → List Write → List Write
replaced c [] = []
replaced c (w ∷ ws) = record { item = w.item; word = slice_index c w.item } ∷ replaced (slice_set c w.item w.word) ws
