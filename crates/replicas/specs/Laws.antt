-- Laws of replicas, told of every replica and every list of writes.
use Rattle.std.specs.Prelude.{◌≡◌, ℕ, ◌+◌, ◌-◌, ◌<◌, ◌≤◌, true, List, [], ◌∷◌, length, take, is_ok, Some, None, Ok, Option, slice_index}
use Rattle.std.specs.Option.{unwrap_or}
use Rattle.entries.specs.declared.writes.Write.{Write}
use Rattle.entries.specs.Writes.{word_of}
use Rattle.replicas.specs.Overlay.{over, laid, oldest_word_of, replaced}
use Rattle.replicas.specs.Model.{ReplicaModel, version_of, items_of, contents_at, keeps, read_answer, take_answer, after_take, after_forget}

-- contents take writes, and the word that each replaced is kept: then an item had, before them, the oldest of its
-- replaced words, or its word now where none of them wrote it
abbrev pub OldestReplacedWord : Type 0
OldestReplacedWord = (c : List ℕ) (ws : List Write) (item : ℕ) → item < length c
    → oldest_word_of (replaced c ws) item (slice_index (laid c ws) item) ≡ slice_index c item

-- after a set is taken, every earlier version has the contents that it had, and the new one has the set laid over the last
abbrev pub TakeKeepsHistory : Type 0
TakeKeepsHistory = (m : ReplicaModel) (ws : List Write) → is_ok (take_answer m ws) ≡ true
    → (version_of (after_take ws m) ≡ version_of m + 1)
    × ((at : ℕ) → at ≤ version_of m → contents_at (after_take ws m) at ≡ contents_at m at)
    × (contents_at (after_take ws m) (version_of m + 1) ≡ over (contents_at m (version_of m)) ws)

-- after forgetting to a version that is kept, the versions from there on have the contents that they had
abbrev pub ForgetKeepsHistory : Type 0
ForgetKeepsHistory = (m : ReplicaModel) (to : ℕ) → keeps m to ≡ true
    → (version_of (after_forget to m) ≡ version_of m)
    × ((at : ℕ) → to ≤ at → contents_at (after_forget to m) at ≡ contents_at m at)

-- the word of the newest of the sets that writes the item
abbrev pub newest_of : List (List Write) → ℕ → Option ℕ
newest_of [] item = None
newest_of (s ∷ ss) item = elim (newest_of ss item) [ Some x ↦ Some x | None ↦ word_of s item ]

-- a read that is answered shows the newest write of the item up to the version, or else the word at the base
abbrev pub NewestWriteCounts : Type 0
NewestWriteCounts = (m : ReplicaModel) (at item : ℕ) → keeps m at ≡ true → item < items_of m
    → read_answer m at item ≡ Ok (unwrap_or (newest_of (take (at - m.base) m.sets) item) (slice_index m.contents item))
