-- Layouts in code.
use Rattle.std.proofs.Common.{◌≡◌, ℕ, ◌≤◌, List, [], ◌∷◌, map, length, take, replicate, sym, ap, ◌∙◌, subst}
use Rattle.std.proofs.lemmas.List.{take-replicate}
use Rattle.entries.specs.Codings.{Coding}
use Rattle.replicas.specs.Model.{ReplicaModel, cleared}
use Rattle.banks.specs.Sites.{after_open_all}
use Rattle.ledgers.specs.Model.{LedgerModel, cleared as emptied}
use Rattle.law.specs.Slots.{SlotModel}
use Rattle.law.specs.Slots.SlotModel.{idle}
use Rattle.law.specs.Layouts.{LayoutModel, laid_out, after_lay, book_in_use, opening_values}
use Rattle.law.specs.Law.{Laid}
use Rattle.law.proofs.Main.{opening-law}
use Rattle.book.specs.Books.{opening}
use Rattle.book.proofs.Rows.{book}

-- a ledger and replicas as a layout
abbrev pub pair : LedgerModel → List ReplicaModel → LayoutModel
pair l rs = record { ledger = l; replicas = rs }

module _ {V : Type 0} (k : Coding V) (l : LedgerModel) (rs : List ReplicaModel) where
  -- cleared parts are a new layout
  pub made-new : (l' : LedgerModel) (rs' : List ReplicaModel) (blank : V) (word : ℕ) → l' ≡ emptied l → rs' ≡ map (cleared word) rs → word ≡ k.word blank → blank ≡ k.blank
      → pair l' rs' ≡ laid_out k l rs
  made-new l' rs' blank word el er ew eb = ap (λ z. pair z rs') el ∙ ap (pair (emptied l)) (er ∙ ap (λ z. map (cleared z) rs) (ew ∙ ap k.word eb))

  -- an opening word that the bank takes or refuses
  pub laid_in : (rs' : List ReplicaModel) (item word : ℕ) (value : V) → rs' ≡ after_open_all item word rs → word ≡ k.word value → pair l rs' ≡ after_lay k (pair l rs) item value
  laid_in rs' item word value er ew = ap (pair l) (er ∙ ap (λ z. after_open_all item z rs) ew)

  -- and the value joins those that were laid in before
  pub laid_on : (rs' : List ReplicaModel) (item word : ℕ) (value : V) (p : List V) → rs' ≡ after_open_all item word rs → word ≡ k.word value
      → Laid k p (pair l rs) → Laid k (opening_values k p (opening item value ∷ [])) (pair l rs')
  laid_on rs' item word value p er ew h =
      subst (Laid k (opening_values k p (opening item value ∷ []))) (sym (laid_in rs' item word value er ew)) ((opening-law k).1 p (pair l rs) item value h)

  -- an idle table has a row of idle slots for each site
  pub opened-idle : (rows : List (List SlotModel)) → length rs ≤ 8 → rows ≡ replicate 8 (replicate 8 idle)
      → book l rs rows 0 ≡ book_in_use k (pair l rs)
  opened-idle rows few e =
      ap (λ z. record { ledger = l; replicas = rs; slots = z; refusals = 0 }) (ap (take (length rs)) e ∙ take-replicate (length rs) 8 (replicate 8 idle) few)
