-- Lists of writes by their items.
use Rattle.std.specs.Prelude.{◌≡◌, ℕ, ◌<◌, ◌≤◌, Bool, true, false, cond, ◌||◌, ltb, List, [], ◌∷◌, length, Some, None, Ok, Err, Option, Result, ◌==◌, nat_lt}
use Rattle.std.specs.List.{prefix_len}
use Rattle.entries.specs.declared.writes.Write.{Write}

-- some write is of the item
abbrev pub names : List Write → ℕ → Bool
names [] i = false
names (w ∷ ws) i = w.item == i || names ws i

-- the word that the first write of the item gives it
abbrev pub word_of : List Write → ℕ → Option ℕ
word_of [] i = None
word_of (w ∷ ws) i = cond (w.item == i) (Some w.word) (word_of ws i)

-- a list in rising order with one write put in at its place, or in place of the one of the same item
abbrev pub put_in : List Write → ℕ → ℕ → List Write
put_in [] i x = record { item = i; word = x } ∷ []
put_in (w ∷ ws) i x =
    cond (nat_lt w.item i) (w ∷ put_in ws i x)
    (cond (w.item == i) (record { item = i; word = x } ∷ ws) (record { item = i; word = x } ∷ w ∷ ws))

-- how many writes, from the first on, are of items below this one
abbrev pub place : List Write → ℕ → ℕ
place ws i = prefix_len (λ w. ltb w.item i) ws

-- a search answers the item's place: where its write stands, or where it would stand
abbrev pub Searched : List Write → ℕ → Result ℕ ℕ → Type 0
Searched ws i (Ok at) = (names ws i ≡ true) × (at ≡ place ws i) × (at < length ws)
Searched ws i (Err at) = (names ws i ≡ false) × (at ≡ place ws i) × (at ≤ length ws)
