-- What a layout and a book in use mean, by what their ledger and their bank mean.
use Rattle.std.specs.Prelude.{ℕ, List, length, take}
use Rattle.replicas.specs.Model.{ReplicaModel}
use Rattle.ledgers.specs.Model.{LedgerModel}
use Rattle.law.specs.declared.calls.Call.{Call}
use Rattle.law.specs.declared.calls.Answer.{Answer}
use Rattle.law.specs.Letters.{Letter, byte_of}
use Rattle.law.specs.Books.{BookModel}
use Rattle.law.specs.Calls.{Outcome}
use Rattle.law.specs.Layouts.{LayoutModel, OpeningValue}
use Rattle.book.specs.declared.books.Book.{Book}
use Rattle.book.specs.declared.books.Layout.{Layout}

-- the ledger and the offered replicas of a layout
abbrev pub layout_of : {K L B : Type 0} → (L → LedgerModel) → (B → List ReplicaModel) → Layout K L B → LayoutModel
layout_of ledger bank y = record { ledger = ledger y.ledger; replicas = bank y.bank }

-- a book: of its table of slots, a row for each site that the bank offers
abbrev pub book_of : {K L B : Type 0} → (L → LedgerModel) → (B → List ReplicaModel) → Book K L B → BookModel
book_of ledger bank b =
    record {
      ledger = ledger b.ledger;
      replicas = bank b.bank;
      slots = take (length (bank b.bank)) b.slots;
      refusals = b.refusals;
    }

-- a book that a call left, with its answer
abbrev pub outcome : {V : Type 0} → BookModel → Answer V → Outcome V
outcome b r = record { book = b; answer = r }

-- an opening value of an item
abbrev pub opening : {V : Type 0} → ℕ → V → OpeningValue V
opening item value = record { item = item; value = value }

-- a call with this letter
abbrev pub call_of : {V : Type 0} → Letter → ℕ → ℕ → ℕ → V → Call V
call_of letter site slot arg value = record { letter = byte_of letter; site = site; slot = slot; arg = arg; value = value }
