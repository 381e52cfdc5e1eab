-- The law on runs.
use Rattle.std.specs.Prelude.{◌≡◌, ℕ, ◌-◌, ◌<◌, true, ◌≢◌, List, [], ◌∷◌, ◌++◌, map, length, replicate, slice_index_or}
use Rattle.std.specs.List.{AllByRecursion}
use Rattle.entries.specs.Codings.{Coding, Faithful}
use Rattle.replicas.specs.Model.{ReplicaModel, version_of, contents_at, items_of}
use Rattle.banks.specs.Sites.{replica_at}
use Rattle.ledgers.specs.Model.{LedgerModel}
use Rattle.law.specs.declared.calls.Call.{Call}
use Rattle.law.specs.declared.calls.Answer.{Answer}
use Rattle.law.specs.Books.{BookModel}
use Rattle.law.specs.Calls.{step}
use Rattle.law.specs.Layouts.{LayoutModel, OpeningValue, laid_out, after_lay, lay_all, book_in_use, opening_values, blanks}
use Rattle.law.specs.Runs.{book_after, answers_to, calls_made, after_run, answers_after_run}
use Rattle.law.specs.History.{History, Accepted, Reading, Filing, told, whole, readings, filings, version_seen, ended_at}
use Rattle.law.specs.Serial.{serial_order, serial_at, Replays, last_put, At}
use Rattle.law.specs.Certification.{due}

module _ {V : Type 0} (k : Coding V) where
  -- a replica holds, at version v, the words of the values p, and the blank's word from there up
  pub record Holds (r : ReplicaModel) (v : ℕ) (p : List V) : Type 0 where
    pub version : version_of r ≡ v
    pub words : contents_at r v ≡ map k.word p ++ replicate (items_of r - length p) (k.word k.blank)

  -- a read showed its transaction's last write of the item before it, else the item's value on the serial book after the
  -- updates up to the snapshot
  abbrev pub ShownRight : List V → History V → Reading V → Type 0
  ShownRight opening h r =
      r.value ≡ last_put r.before.operations r.item (slice_index_or (serial_at opening h r.before.snapshot) r.item k.blank)

  -- if the end of t was answered at a site before u began there, t stands before u in the serial order
  abbrev pub SameSiteOrder : History V → Type 0
  SameSiteOrder h =
      (i j time : ℕ) (t u : Accepted V) → At (serial_order h) i t → At (serial_order h) j u → i ≢ j
      → t.site ≡ u.site → ended_at h t time ≡ true → time < u.ran.began → i < j

  -- what holds where a history ends, with the ledger and the replicas there
  pub record Lawful (opening : List V) (h : History V) (l : LedgerModel) (rs : List ReplicaModel) : Type 0 where
    -- no accepted call of a transaction is lost
    pub wholly : whole h ≡ true
    -- the accepted transactions, run one after another on one serial book in the serial order, show every value that their reads were answered
    pub replay : Replays k.blank opening (serial_order h)
    -- each replica equals the serial book after the updates up to its site's version
    pub prefixes : (site : ℕ) → site < length rs → Holds (replica_at rs site) (version_seen h site) (serial_at opening h (version_seen h site))
    -- every accepted read showed the right value, also in transactions that were dropped, refused or are still open
    pub shown_right : AllByRecursion (ShownRight opening h) (readings h)
    -- what ended at a site before another began there stands earlier
    pub same_site : SameSiteOrder h
    -- every filing of an open transaction was answered as it was due
    pub decided : AllByRecursion (λ (f : Filing V). f.verdict ≡ due l.capacity f) (filings h)

  -- a layout that was made and had opening values laid in; p has the last of them for each item, else the blank
  pub record Laid (p : List V) (y : LayoutModel) : Type 0 where
    pub ledger : LedgerModel
    pub replicas : List ReplicaModel
    pub openings : List (OpeningValue V)
    pub made : y ≡ lay_all k (laid_out k ledger replicas) openings
    pub values : p ≡ opening_values k (blanks k replicas) openings

  -- from a layout with the opening values p, calls with their answers, together the history h, led to the book
  pub record Led (p : List V) (h : History V) (b : BookModel) : Type 0 where
    pub layout : LayoutModel
    pub laid : Laid p layout
    pub calls : List (Call V)
    pub history : h ≡ told [] calls (answers_to k (book_in_use k layout) calls)
    pub here : b ≡ book_after k (book_in_use k layout) calls

  -- calls with these answers lead from book b to book b' by the law: from whatever opening values and earlier history b
  -- came, the longer history leads to b' and is lawful there
  abbrev pub KeepsLaw : BookModel → List (Call V) → List (Answer V) → BookModel → Type 0
  KeepsLaw b calls answers b' =
      (p : List V) (h : History V) → Led p h b
      → Led p (told h calls answers) b' × Lawful p (told h calls answers) b'.ledger b'.replicas

-- THE LAW: for every kind, every ledger and list of replicas, every list of opening values and every list of calls
abbrev pub Law : Type 0 → Type 0
Law V =
    (k : Coding V) → Faithful k → (l : LedgerModel) (rs : List ReplicaModel) (os : List (OpeningValue V)) (calls : List (Call V))
    → Lawful k (opening_values k (blanks k rs) os)
    (told [] calls (answers_to k (book_in_use k (lay_all k (laid_out k l rs) os)) calls))
    (book_after k (book_in_use k (lay_all k (laid_out k l rs) os)) calls).ledger
    (book_after k (book_in_use k (lay_all k (laid_out k l rs) os)) calls).replicas

-- making a layout lays in the blanks, laying in a value changes that value, and opening starts an empty history
abbrev pub OpeningLaw : Type 0 → Type 0
OpeningLaw V =
    (k : Coding V)
    → ((l : LedgerModel) (rs : List ReplicaModel) → Laid k (blanks k rs) (laid_out k l rs))
    × ((p : List V) (y : LayoutModel) (item : ℕ) (value : V) → Laid k p y → Laid k (opening_values k p (record { item = item; value = value } ∷ [])) (after_lay k y item value))
    × ((p : List V) (y : LayoutModel) → Laid k p y → Led k p [] (book_in_use k y))

-- one call keeps the law
abbrev pub StepLaw : Type 0 → Type 0
StepLaw V = (k : Coding V) → Faithful k → (b : BookModel) (c : Call V) → KeepsLaw k b (c ∷ []) ((step k b c).answer ∷ []) (step k b c).book

-- a run keeps the law
abbrev pub RunLaw : Type 0 → Type 0
RunLaw V =
    (k : Coding V) → Faithful k → (b : BookModel) (calls : List (Call V)) (answers : List (Answer V))
    → KeepsLaw k b (calls_made calls answers) (answers_after_run k b calls answers) (after_run k b calls answers)
