-- A book by its ledger, its replicas, all rows of its table, and its count: what calls on the parts make of it.
use Rattle.std.proofs.Common.{◌≡◌, ℕ, zero, suc, ◌<◌, ◌≤◌, ◌||◌, eqb, ltb, List, [], ◌∷◌, length, get_or, take, set, Ok, Err, Result, sym, refl, ap, ◌∙◌, ⊎_elim, arith}
use Rattle.std.proofs.lemmas.List.{length-set, length-take, get_or-take, set_past}
use Rattle.std.proofs.lemmas.Bool.{cond_both, cond-true, cond-false, cases_lt, lt-ltb, or_parts}
use Rattle.replicas.specs.Model.{ReplicaModel}
use Rattle.ledgers.specs.Model.{LedgerModel}
use Rattle.law.specs.Slots.{SlotModel, slot_count}
use Rattle.law.specs.Slots.SlotModel.{idle, opened, filed}
use Rattle.law.specs.Books.{BookModel, site_version, row_at, slot_at, with_row, with_slot}
use Rattle.slots.specs.declared.slots.State.{State}
use Rattle.slots.specs.declared.slots.State.TheVariants.{Idle, Open}
use Rattle.slots.specs.Slots.{admit_answer, after_admit}
use Rattle.slots.specs.Tables.{slot_in, changed_slot}
use Rattle.book.specs.Entering.{by_slot, entry, admitted_by, entered}
use Rattle.book.proofs.Entries.{put_back}

-- the book of these parts
abbrev pub book : LedgerModel → List ReplicaModel → List (List SlotModel) → ℕ → BookModel
book l rs rows a = record { ledger = l; replicas = rs; slots = take (length rs) rows; refusals = a }

take-set : {X : Type 0} (n : ℕ) (xs : List X) (i : ℕ) (x : X) → take n (set xs i x) ≡ set (take n xs) i x
take-set zero xs i x = refl
take-set (suc n) [] i x = refl
take-set (suc n) (y ∷ ys) zero x = refl
take-set (suc n) (y ∷ ys) (suc i) x = ap (λ z. y ∷ z) (take-set n ys i x)

module _ (l : LedgerModel) (rs : List ReplicaModel) (rows : List (List SlotModel)) (a s : ℕ) where
  abbrev b : BookModel
  b = book l rs rows a

  pub row_seen : s < length rs → row_at b s ≡ get_or rows s []
  row_seen h = get_or-take (length rs) rows s [] h

  pub slot_seen : (j : ℕ) → s < length rs → slot_at b s j ≡ slot_in rows s j
  slot_seen j h = ap (λ z. get_or z j idle) (row_seen h)

  -- the row of a site changes
  pub row_moved : (row : List SlotModel) → book l rs (set rows s row) a ≡ with_row b s row
  row_moved row = ap (λ z. record { ledger = l; replicas = rs; slots = z; refusals = a }) (take-set (length rs) rows s row)

  -- a slot of the site changes
  pub slot-moved : (j : ℕ) (rows' : List (List SlotModel)) (f : SlotModel → SlotModel) → s < length rs → rows' ≡ changed_slot rows s j f
      → book l rs rows' a ≡ with_slot b s j (f (slot_at b s j))
  slot-moved j rows' f h e =
      ap (λ z. book l rs z a) e ∙ row_moved _
      ∙ ap (with_row b s) (ap (λ z. set z j (f (get_or z j idle))) (sym (row_seen h)))

  -- a slot gets a new state; where there is no such site, nothing changes
  pub slot-replaced : (j : ℕ) (rows' : List (List SlotModel)) (y : SlotModel) → rows' ≡ changed_slot rows s j (λ _. y) → book l rs rows' a ≡ with_slot b s j y
  slot-replaced j rows' y e =
      ⊎_elim (λ (h : s < length rs). slot-moved j rows' (λ _. y) h e)
      (λ (h : length rs ≤ s).
      let few : length (take (length rs) rows) ≤ s = (let t = length-take (length rs) rows in omega arith) in
      ap (λ z. book l rs z a) e ∙ row_moved _
      ∙ ap (λ z. record { ledger = l; replicas = rs; slots = z; refusals = a }) (set_past (take (length rs) rows) s _ few ∙ sym (set_past (take (length rs) rows) s _ few)))
      (cases_lt s (length rs))

  -- the replica of a site changes
  pub replica-moved : (rs' : List ReplicaModel) (r : ReplicaModel) → rs' ≡ set rs s r
      → book l rs' rows a ≡ record { ledger = l; replicas = set rs s r; slots = take (length rs) rows; refusals = a }
  replica-moved rs' r e =
      ap (λ z. book l z rows a) e ∙ ap (λ z. record { ledger = l; replicas = set rs s r; slots = take z rows; refusals = a }) (length-set rs s r)

  -- a call comes to its slot
  module _ (letter j v : ℕ) (rows' : List (List SlotModel)) (here : (s < length rs) × (v ≡ site_version b s)) (small : j < slot_count)
      (moved : rows' ≡ changed_slot rows s j (after_admit letter v)) where
    abbrev x : SlotModel
    x = slot_at b s j

    admitted-is : (r : Result ℕ State) → r ≡ admit_answer letter v (slot_in rows s j) → entered b letter s j ≡ admitted_by b letter s j r
    admitted-is r e =
        cond-true (ltb s (length rs)) _ _ (lt-ltb s (length rs) here.0) ∙ cond-true (ltb j slot_count) _ _ (lt-ltb j slot_count small)
        ∙ ap (admitted_by b letter s j) (ap (λ z. admit_answer letter z x) (sym here.1) ∙ ap (admit_answer letter v) (slot_seen j here.0) ∙ sym e)

    book-is : book l rs rows' a ≡ with_slot b s j (after_admit letter (site_version b s) x)
    book-is =
        slot-moved j rows' (after_admit letter v) here.0 moved ∙ ap (λ z. with_slot b s j (after_admit letter z x)) here.1

    -- a slot that refuses stays as it is
    refused-stays : (y : SlotModel) (state : State) (w : ℕ) → Err state ≡ admit_answer letter w y → after_admit letter w y ≡ y
    refused-stays idle state w =
        cond_both (eqb letter 66) (Ok w) (Err Idle) (λ (z : Result ℕ State). Err state ≡ z → after_admit letter w idle ≡ idle)
        (λ _ e. let z : ◌≡◌ {A = ℕ} 0 1 = cc in absurd (omega arith)) (λ q _. cond-false (eqb letter 66) _ _ q)
    refused-stays (opened t ws items) state w =
        cond_both (eqb letter 82 || (eqb letter 87 || (eqb letter 70 || eqb letter 88))) (Ok t) (Err (Open t))
        (λ (z : Result ℕ State). Err state ≡ z → after_admit letter w (opened t ws items) ≡ opened t ws items)
        (λ _ e. let z : ◌≡◌ {A = ℕ} 0 1 = cc in absurd (omega arith))
        (λ q _.
        let no = (or_parts (eqb letter 70) (eqb letter 88) (or_parts (eqb letter 87) _ (or_parts (eqb letter 82) _ q).1).1).1 in
        cond-false (eqb letter 88) _ _ no)
    refused-stays (filed m) state w = λ _. refl

    -- what the slot answers decides
    pub enters : (r : Result ℕ State) → r ≡ admit_answer letter v (slot_in rows s j) → entry (book l rs rows' a) (by_slot r) ≡ entered b letter s j
    enters (Ok n) e = ap (λ z. entry z (Ok n)) book-is ∙ sym (admitted-is (Ok n) e)
    enters (Err state) e =
        let e' : Err state ≡ admit_answer letter (site_version b s) x =
        e ∙ ap (admit_answer letter v) (sym (slot_seen j here.0)) ∙ ap (λ z. admit_answer letter z x) here.1 in
        ap (λ z. entry z (by_slot (Err state)))
        (book-is ∙ put_back b s j (after_admit letter (site_version b s) x) (sym (refused-stays x state (site_version b s) e')))
        ∙ sym (admitted-is (Err state) e)
