-- What a ring means: the list of its items, oldest first.
use Rattle.std.specs.Prelude.{ℕ, ◌+◌, ◌-◌, cond, List, [], ◌∷◌, ◌++◌, length, take, drop, Ok, Err, Result, nat_lt}
use Rattle.rings.specs.declared.ring.Ring.{Ring}

-- a list read from a place on, and then from its front
abbrev pub turned : {T : Type 0} → ℕ → List T → List T
turned first cells = drop first cells ++ take first cells

-- the cell of the item at place i, where the first item lies in the cell `first`
abbrev pub placed : ℕ → ℕ → ℕ → ℕ
placed first size i = cond (nat_lt i (size - first)) (first + i) (i - (size - first))

-- the items at the places from `from` up to `to`, fewer where the list has fewer
abbrev pub between : {T : Type 0} → ℕ → ℕ → List T → List T
between from to xs = drop from (take to xs)

-- how many items there is room for
abbrev pub size : {T : Type 0} → Ring T → ℕ
size r = length r.cells.now

-- the items, oldest first
abbrev pub held : {T : Type 0} → Ring T → List T
held r = take r.len (turned r.first r.cells.now)

-- the items after one more is pushed: it is the newest where there is room
abbrev pub pushed : {T : Type 0} → Ring T → T → List T
pushed r x = cond (nat_lt (length (held r)) (size r)) (held r ++ (x ∷ [])) (held r)

-- what a push answers: the item comes back where there is no room
abbrev pub push_answer : {T : Type 0} → Ring T → T → Result (Unit {0}) T
push_answer r x = cond (nat_lt (length (held r)) (size r)) (Ok tt) (Err x)
