-- A layout: ledger and replicas before use, and the opening values laid into them.
use Rattle.std.specs.Prelude.{ℕ, cond, List, [], ◌∷◌, map, length, replicate, is_ok, slice_set}
use Rattle.entries.specs.Codings.{Coding}
use Rattle.replicas.specs.Model.{ReplicaModel, cleared}
use Rattle.banks.specs.Sites.{least_items, open_all_answer, after_open_all}
use Rattle.ledgers.specs.Model.{LedgerModel, cleared as emptied}
use Rattle.law.specs.declared.calls.Answer.{Answer}
use Rattle.law.specs.declared.codes.Code.TheVariants.{NoSuchItem, Accepted}
use Rattle.law.specs.Slots.{slot_count}
use Rattle.law.specs.Slots.SlotModel.{idle}
use Rattle.law.specs.Books.{BookModel}
use Rattle.law.specs.Calls.{plain}

-- the ledger, and the replicas that the bank offers
pub record LayoutModel : Type 0 where
  pub ledger : LedgerModel
  pub replicas : List ReplicaModel

-- an opening value of an item
pub record OpeningValue (V : Type 0) : Type 0 where
  pub item : ℕ
  pub value : V

module _ {V : Type 0} (k : Coding V) where
  -- making a layout empties the ledger and clears the replicas with the blank
  abbrev pub laid_out : LedgerModel → List ReplicaModel → LayoutModel
  laid_out l rs = record { ledger = emptied l; replicas = map (cleared (k.word k.blank)) rs }

  -- laying in an opening value answers the item, or refuses an item that not every replica has
  abbrev pub lay_answer : LayoutModel → ℕ → Answer V
  lay_answer y item =
      cond (is_ok (open_all_answer y.replicas item)) (plain k Accepted item) (plain k NoSuchItem (least_items y.replicas))

  -- an accepted opening value is in every replica
  abbrev pub after_lay : LayoutModel → ℕ → V → LayoutModel
  after_lay y item value = record { ledger = y.ledger; replicas = after_open_all item (k.word value) y.replicas }

  -- a layout with opening values laid in one after another
  abbrev pub lay_all : LayoutModel → List (OpeningValue V) → LayoutModel
  lay_all y [] = y
  lay_all y (o ∷ os) = lay_all (after_lay y o.item o.value) os

  -- the book in use: every slot idle, nothing counted
  abbrev pub book_in_use : LayoutModel → BookModel
  book_in_use y =
      record {
        ledger = y.ledger;
        replicas = y.replicas;
        slots = replicate (length y.replicas) (replicate slot_count idle);
        refusals = 0;
      }

  -- one value for each item: the last opening value laid in for it, and else what it was
  abbrev pub opening_values : List V → List (OpeningValue V) → List V
  opening_values p [] = p
  opening_values p (o ∷ os) = opening_values (slice_set p o.item o.value) os

  -- the blank for every item
  abbrev pub blanks : List ReplicaModel → List V
  blanks rs = replicate (least_items rs) k.blank
