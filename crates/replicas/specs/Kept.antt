-- What holds of the records of every log.
use Rattle.std.specs.Prelude.{◌≡◌, ℕ, ◌+◌, ◌≤◌, Bool, true, ◌&&◌, List, [], ◌∷◌}
use Rattle.entries.specs.declared.writes.Write.{Write}
use Rattle.entries.specs.Rising.{rising}
use Rattle.replicas.specs.declared.records.Record.{Record}
use Rattle.replicas.specs.Records.{ordered}
use Rattle.replicas.specs.Model.{last_version}

-- the versions of the records never fall, and all are above the base and up to the version
abbrev pub Kept : ℕ → ℕ → List Record → Type 0
Kept base version rs = (base ≤ version) × (version ≤ last_version) × (ordered (base + 1) version rs ≡ true)

-- in each set the items rise
abbrev pub all_rising : List (List Write) → Bool
all_rising [] = true
all_rising (s ∷ ss) = rising s && all_rising ss
