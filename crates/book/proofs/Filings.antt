-- File, once it has entered.
use Rattle.std.proofs.Common.{◌≡◌, ℕ, ◌<◌, Bool, List, [], ◌∷◌, length, is_ok, Ok, Err, Result, sym, refl, ap, ◌∙◌, arith}
use Rattle.std.proofs.lemmas.Bool.{cond-false}
use Rattle.entries.specs.declared.writes.Write.{Write}
use Rattle.entries.specs.Codings.{Coding}
use Rattle.entries.specs.Items.{with_items}
use Rattle.replicas.specs.Model.{ReplicaModel}
use Rattle.ledgers.specs.declared.ledger.LedgerRefusal.{LedgerRefusal}
use Rattle.ledgers.specs.Model.{LedgerModel}
use Rattle.ledgers.specs.Filing.{file_answer, after_file}
use Rattle.law.specs.declared.calls.Answer.{Answer}
use Rattle.law.specs.declared.codes.Code.TheVariants.{Accepted}
use Rattle.law.specs.Slots.{SlotModel}
use Rattle.law.specs.Slots.SlotModel.{opened, filed}
use Rattle.law.specs.Books.{BookModel, slot_at, settled}
use Rattle.law.specs.Calls.{Outcome, plain, accept, file_by, file_on, file_call}
use Rattle.slots.specs.Slots.{writes_of, touched_by}
use Rattle.slots.specs.Tables.{slot_in, changed_slot}
use Rattle.book.specs.Books.{outcome}
use Rattle.book.specs.Filing.{ended, filing_of, filing}
use Rattle.book.proofs.Entries.{Opened}
use Rattle.book.proofs.Rows.{book, slot_seen, slot-replaced}
use Rattle.book.proofs.Calls.{same_outcome}

-- a list is filed as the slot that has it
filed-list : {V : Type 0} (k : Coding V) (b : BookModel) (site slot n : ℕ) (items : List Bool) (ws : List Write) → touched_by (slot_at b site slot) ≡ with_items items ws
    → filing_of k b site slot n ws ≡ file_on k b site slot (opened n ws items)
unfolding file_on
filed-list k b site slot n items [] t = refl
filed-list k b site slot n items (w ∷ ws) t =
    ap (λ z. file_by k b site slot n (after_file n z (w ∷ ws) b.ledger) (file_answer b.ledger n z (w ∷ ws))) t

-- filing the open transaction that a call found is the call
pub filed-open : {V : Type 0} (k : Coding V) (b b' : BookModel) (site slot n : ℕ) → Opened k b site slot b' n → filing k b' site slot n ≡ file_call k b site slot
unfolding file_call
filed-open k b b' site slot n o =
    let e : slot_at b site slot ≡ opened n o.writes o.reads = ap (λ z. slot_at z site slot) (sym o.same) ∙ o.slot_is in
    ap (λ z. filing k z site slot n) o.same ∙ ap (filing_of k b site slot n) (ap writes_of e)
    ∙ filed-list k b site slot n o.reads o.writes (ap touched_by e) ∙ sym (o.does (file_on k b site slot))

module _ {V : Type 0} (k : Coding V) (l l' : LedgerModel) (rs : List ReplicaModel) (rows : List (List SlotModel)) (a s j n : ℕ) (h : s < length rs)
    (ws : List Write) (flags : List Bool) (ew : ws ≡ writes_of (slot_in rows s j)) (ef : flags ≡ touched_by (slot_in rows s j)) where
  abbrev b : BookModel
  b = book l rs rows a

  -- the list that is filed is the slot's
  list-here : writes_of (slot_at b s j) ≡ ws
  list-here = ap writes_of (slot_seen l rs rows a s j h) ∙ sym ew

  flags-here : flags ≡ touched_by (slot_at b s j)
  flags-here = ef ∙ ap touched_by (sym (slot_seen l rs rows a s j h))

  pub filing-none : (b' : BookModel) (r : Answer V) → length ws ≡ 0 → b' ≡ ended b s j → r ≡ plain k Accepted n → outcome b' r ≡ filing k b s j n
  filing-none b' r e eb er = same_outcome _ _ _ _ eb er ∙ by ws e ∙ ap (filing_of k b s j n) (sym list-here)
    where
      by : (us : List Write) → length us ≡ 0 → accept k (ended b s j) n ≡ filing_of k b s j n us
      by [] e = refl
      by (u ∷ us) e = absurd (omega arith)

  -- by what the ledger answers
  filing-by : (r : Result ℕ LedgerRefusal) → 0 < length ws → r ≡ file_answer l n flags ws → l' ≡ after_file n flags ws l → file_by k b s j n l' r ≡ filing k b s j n
  filing-by r some er el = by ws some er el ∙ ap (filing_of k b s j n) (sym list-here)
    where
      by : (us : List Write) → 0 < length us → r ≡ file_answer l n flags us → l' ≡ after_file n flags us l → file_by k b s j n l' r ≡ filing_of k b s j n us
      by [] some er el = absurd (omega arith)
      by (u ∷ us) some er el =
          ap (λ z. file_by k b s j n z r) el ∙ ap (file_by k b s j n (after_file n flags (u ∷ us) l)) er
          ∙ ap (λ z. file_by k b s j n (after_file n z (u ∷ us) l) (file_answer l n z (u ∷ us))) flags-here

  -- a refusal leaves the ledger
  ledger-stays : (x : LedgerRefusal) → Err x ≡ file_answer l n flags ws → l' ≡ after_file n flags ws l → l' ≡ l
  ledger-stays x er el = el ∙ cond-false (is_ok (file_answer l n flags ws)) _ _ (ap is_ok (sym er))

  pub filing-added : (m : ℕ) (b' : BookModel) (r : Answer V) (rows' : List (List SlotModel)) → 0 < length ws → Ok m ≡ file_answer l n flags ws → l' ≡ after_file n flags ws l
      → rows' ≡ changed_slot rows s j (λ _. filed m) → b' ≡ settled (book l' rs rows' a) s → r ≡ plain k Accepted m → outcome b' r ≡ filing k b s j n
  unfolding file_by
  filing-added m b' r rows' some e el er eb ea =
      same_outcome _ _ _ _ (eb ∙ ap (λ z. settled z s) (slot-replaced l' rs rows a s j rows' (filed m) er)) ea ∙ filing-by (Ok m) some e el

  pub filing-refused : (x : LedgerRefusal) (o : Outcome V) → 0 < length ws → Err x ≡ file_answer l n flags ws → l' ≡ after_file n flags ws l
      → o ≡ file_by k (book l' rs rows a) s j n l' (Err x) → o ≡ filing k b s j n
  filing-refused x o some e el eo = eo ∙ ap (λ z. file_by k (book z rs rows a) s j n l' (Err x)) (ledger-stays x e el) ∙ filing-by (Err x) some e el

-- a refusal of the ledger by its case
pub refused_as : {V : Type 0} (k : Coding V) (b : BookModel) (s j n : ℕ) (x y : LedgerRefusal) (o : Outcome V) → x ≡ y
    → o ≡ file_by k b s j n b.ledger (Err y) → o ≡ file_by k b s j n b.ledger (Err x)
refused_as k b s j n x y o e h = h ∙ ap (λ z. file_by k b s j n b.ledger (Err z)) (sym e)
