-- What becomes of the transaction of a slot when it is over, and when it is filed.
use Rattle.std.specs.Prelude.{ℕ, List, [], ◌∷◌}
use Rattle.entries.specs.declared.writes.Write.{Write}
use Rattle.entries.specs.Codings.{Coding}
use Rattle.ledgers.specs.Filing.{file_answer, after_file}
use Rattle.law.specs.Slots.SlotModel.{idle}
use Rattle.law.specs.Books.{BookModel, slot_at, with_slot, settled}
use Rattle.law.specs.Calls.{Outcome, accept, file_by}
use Rattle.slots.specs.Slots.{writes_of, touched_by}

-- the slot is idle, and the site's replica has forgotten what lies below the horizon
abbrev pub ended : BookModel → ℕ → ℕ → BookModel
ended b site slot = settled (with_slot b site slot idle) site

module _ {V : Type 0} (k : Coding V) where
  -- a list without writes ends its transaction, and the ledger answers one with writes
  abbrev pub filing_of : BookModel → ℕ → ℕ → ℕ → List Write → Outcome V
  filing_of b site slot snapshot [] = accept k (ended b site slot) snapshot
  filing_of b site slot snapshot (w ∷ ws) =
      file_by k b site slot snapshot (after_file snapshot (touched_by (slot_at b site slot)) (w ∷ ws) b.ledger)
      (file_answer b.ledger snapshot (touched_by (slot_at b site slot)) (w ∷ ws))

  -- the transaction of a slot is filed at its snapshot
  abbrev pub filing : BookModel → ℕ → ℕ → ℕ → Outcome V
  filing b site slot snapshot = filing_of b site slot snapshot (writes_of (slot_at b site slot))
