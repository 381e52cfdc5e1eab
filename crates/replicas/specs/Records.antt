-- The sets that a list of records stands for.
use Rattle.std.specs.Prelude.{ℕ, zero, suc, ◌+◌, Bool, true, ◌&&◌, leb, List, [], ◌∷◌, ◌++◌, map, take, drop, nat_le}
use Rattle.std.specs.List.{prefix_len}
use Rattle.entries.specs.declared.writes.Write.{Write}
use Rattle.replicas.specs.declared.records.Record.{Record}

abbrev pub no_record : Record
no_record = record { item = 0; version = 0; word = 0 }

-- the write of a record
abbrev pub plain : Record → Write
plain r = record { item = r.item; word = r.word }

-- the records of the set of a version
abbrev pub marked : ℕ → List Write → List Record
marked version [] = []
marked version (w ∷ ws) = record { item = w.item; version = version; word = w.word } ∷ marked version ws

-- the records of the sets of the versions above a base
abbrev pub stamped : ℕ → List (List Write) → List Record
stamped base [] = []
stamped base (s ∷ ss) = marked (base + 1) s ++ stamped (base + 1) ss

-- how many records come before the first of a version above `to`
abbrev pub upto : ℕ → List Record → ℕ
upto to rs = prefix_len (λ r. leb r.version to) rs

-- the sets of the n versions above a base
abbrev pub cut : ℕ → ℕ → List Record → List (List Write)
cut base zero rs = []
cut base (suc n) rs = map plain (take (upto (base + 1) rs) rs) ∷ cut (base + 1) n (drop (upto (base + 1) rs) rs)

-- the versions never fall, from `low` up to `high`
abbrev pub ordered : ℕ → ℕ → List Record → Bool
ordered low high [] = true
ordered low high (r ∷ rs) = nat_le low r.version && (nat_le r.version high && ordered r.version high rs)
