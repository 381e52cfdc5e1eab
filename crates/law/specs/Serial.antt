-- The serial book: one list of values, on which accepted transactions run one after another.
use Rattle.std.specs.Prelude.{◌≡◌, ℕ, zero, suc, Bool, cond, ◌&&◌, List, [], ◌∷◌, ◌==◌, nat_le, nat_lt, slice_index_or, slice_set}
use Rattle.law.specs.History.{Operation, Accepted, History, accepted, is_update}
use Rattle.law.specs.History.Operation.{shown, put}

module _ {V : Type 0} where
  -- the version after which an accepted transaction stands: an update's own, any other's snapshot
  abbrev pub place : Accepted V → ℕ
  place t = cond (is_update t) t.number t.ran.snapshot

  -- t stands before u, which was filed earlier: updates stand in the order of their numbers; any other stands after the
  -- updates up to its snapshot and before the next, and several of one snapshot in the order of filing
  abbrev pub stands_before : Accepted V → Accepted V → Bool
  stands_before t u = cond (is_update t) (nat_le (place t) (place u)) (nat_lt (place t) (place u))

  -- the transaction that was filed last put into the serial order of the others
  abbrev pub placed : Accepted V → List (Accepted V) → List (Accepted V)
  placed t [] = t ∷ []
  placed t (u ∷ us) = cond (stands_before t u) (t ∷ u ∷ us) (u ∷ placed t us)

  -- the serial order of transactions, which are given the last filed first
  abbrev pub ordered : List (Accepted V) → List (Accepted V)
  ordered [] = []
  ordered (t ∷ ts) = placed t (ordered ts)

  -- the serial order of a history's accepted transactions
  abbrev pub serial_order : History V → List (Accepted V)
  serial_order h = ordered (accepted h)

  -- what operations leave of a serial book: writes replace values
  abbrev pub after : List V → List (Operation V) → List V
  after p [] = p
  after p (shown i v ∷ ops) = after p ops
  after p (put i v ∷ ops) = after (slice_set p i v) ops

  -- each read shows there the value that it was answered
  abbrev pub Shows : V → List V → List (Operation V) → Type 0
  Shows blank p [] = Unit {0}
  Shows blank p (shown i v ∷ ops) = (slice_index_or p i blank ≡ v) × Shows blank p ops
  Shows blank p (put i v ∷ ops) = Shows blank (slice_set p i v) ops

  -- what transactions leave, run one after another
  abbrev pub after_all : List V → List (Accepted V) → List V
  after_all p [] = p
  after_all p (t ∷ ts) = after_all (after p t.ran.operations) ts

  -- run one after another, their reads show there the values that they were answered
  abbrev pub Replays : V → List V → List (Accepted V) → Type 0
  Replays blank p [] = Unit {0}
  Replays blank p (t ∷ ts) = Shows blank p t.ran.operations × Replays blank (after p t.ran.operations) ts

  -- the updates with numbers up to a version
  abbrev pub updates_to : ℕ → List (Accepted V) → List (Accepted V)
  updates_to v [] = []
  updates_to v (t ∷ ts) = cond (is_update t && nat_le t.number v) (t ∷ updates_to v ts) (updates_to v ts)

  -- the serial book after the updates up to a version
  abbrev pub serial_at : List V → History V → ℕ → List V
  serial_at opening h v = after_all opening (updates_to v (serial_order h))

  -- the last value that operations wrote to an item, or d
  abbrev pub last_put : List (Operation V) → ℕ → V → V
  last_put [] i d = d
  last_put (shown j v ∷ ops) i d = last_put ops i d
  last_put (put j v ∷ ops) i d = last_put ops i (cond (j == i) v d)

-- x stands at this place of a list
abbrev pub At : {X : Type 0} → List X → ℕ → X → Type 0
At [] i x = ⊥
At (y ∷ ys) zero x = y ≡ x
At (y ∷ ys) (suc i) x = At ys i x
