-- What a filing is due, told over the history: over all updates ever numbered, not over what a trim left in the ledger.
use Rattle.std.specs.Prelude.{ℕ, ◌+◌, ◌-◌, max, Bool, true, false, cond, ◌&&◌, ◌||◌, List, [], ◌∷◌, Some, None, Option, ◌==◌, nat_le, nat_lt}
use Rattle.std.specs.Option.{unwrap_or}
use Rattle.replicas.specs.Model.{last_version}
use Rattle.law.specs.declared.codes.Code.{Code}
use Rattle.law.specs.declared.codes.Code.TheVariants.{Accepted as accept, SnapshotTrimmed, Conflicting, NumbersUsedUp, LedgerFull}
use Rattle.law.specs.History.{Operation, Accepted, Verdict, Filing, is_update}
use Rattle.law.specs.History.Operation.{shown, put}

module _ {V : Type 0} where
  -- the operations read or write the item
  abbrev pub touches : List (Operation V) → ℕ → Bool
  touches [] i = false
  touches (shown j v ∷ ops) i = j == i || touches ops i
  touches (put j v ∷ ops) i = j == i || touches ops i

  -- they write one of some items
  abbrev pub writes_one_of : (ℕ → Bool) → List (Operation V) → Bool
  writes_one_of items [] = false
  writes_one_of items (shown j v ∷ ops) = writes_one_of items ops
  writes_one_of items (put j v ∷ ops) = items j || writes_one_of items ops

  -- they write
  abbrev pub has_writes : List (Operation V) → Bool
  has_writes ops = writes_one_of (λ i. true) ops

  -- how many updates were accepted
  abbrev pub update_count : List (Accepted V) → ℕ
  update_count [] = 0
  update_count (t ∷ ts) = cond (is_update t) (update_count ts + 1) (update_count ts)

  -- an update numbered after the snapshot that wrote one of the items
  abbrev pub conflicts : (ℕ → Bool) → ℕ → Accepted V → Bool
  conflicts items snapshot t = is_update t && nat_lt snapshot t.number && writes_one_of items t.ran.operations

  -- the greatest number of such an update
  abbrev pub newest_conflict : (ℕ → Bool) → ℕ → List (Accepted V) → Option ℕ
  newest_conflict items snapshot [] = None
  newest_conflict items snapshot (t ∷ ts) =
      cond (conflicts items snapshot t)
      (Some (max t.number (unwrap_or (newest_conflict items snapshot ts) 0)))
      (newest_conflict items snapshot ts)

-- what a code and a number say
abbrev pub verdict : Code → ℕ → Verdict
verdict code number = record { code = code; number = number }

-- without a conflict: the numbers or the room in the ledger may be used up; else the filing has the next number
abbrev pub due_room : ℕ → ℕ → ℕ → Verdict
due_room floor updates capacity =
    cond (nat_le last_version updates) (verdict NumbersUsedUp last_version)
    (cond (nat_le capacity (updates - floor)) (verdict LedgerFull capacity)
    (verdict accept (updates + 1)))

-- by the newest conflict
abbrev pub due_conflict : Option ℕ → Verdict → Verdict
due_conflict (Some v) free = verdict Conflicting v
due_conflict None free = free

-- the first reason to refuse, or acceptance: without writes at the snapshot, with writes as the next version
abbrev pub due_by : Bool → ℕ → ℕ → Option ℕ → ℕ → ℕ → Verdict
due_by writing snapshot floor newest updates capacity =
    cond writing
    (cond (nat_lt snapshot floor) (verdict SnapshotTrimmed floor) (due_conflict newest (due_room floor updates capacity)))
    (verdict accept snapshot)

-- the verdict that a filing is due, with a ledger of this capacity
abbrev pub due : {V : Type 0} → ℕ → Filing V → Verdict
due capacity f =
    due_by (has_writes f.ran.operations) f.ran.snapshot f.floor
    (newest_conflict (touches f.ran.operations) f.ran.snapshot f.earlier) (update_count f.earlier) capacity
