-- Close, read and write, once they have entered.
use Rattle.std.proofs.Common.{◌≡◌, ℕ, ◌<◌, ◌≤◌, true, false, cond, ltb, leb, List, length, set, Some, None, Ok, Err, Result, sym, ap, ◌∙◌, subst, arith}
use Rattle.std.proofs.lemmas.Bool.{cond_both, cond-true, cond-false, le-leb, lt-leb, lt-ltb, le-ltb}
use Rattle.entries.specs.declared.lists.ListFull.{ListFull as full}
use Rattle.entries.specs.Codings.{Coding}
use Rattle.entries.specs.Writes.{put_in}
use Rattle.entries.specs.Lists.{may_put}
use Rattle.replicas.specs.declared.replica.Refusal.{Refusal}
use Rattle.replicas.specs.declared.replica.Refusal.TheVariants.{NoSuchSite}
use Rattle.replicas.specs.Model.{ReplicaModel, read_answer}
use Rattle.banks.specs.Sites.{at_site}
use Rattle.ledgers.specs.Model.{LedgerModel}
use Rattle.law.specs.declared.calls.Answer.{Answer}
use Rattle.law.specs.declared.codes.Code.TheVariants.{Accepted, NoSuchItem, ListFull, NotDelivered}
use Rattle.law.specs.Slots.{SlotModel}
use Rattle.law.specs.Slots.SlotModel.{idle, opened}
use Rattle.law.specs.Books.{BookModel, site_count, item_count, replica_of, site_version, with_slot}
use Rattle.law.specs.Calls.{Outcome, plain, refuse, accept, show, shown_as, at_known_item, word_read, read_on, read_call, write_on, write_call}
use Rattle.slots.specs.Slots.{own_word, noted, put_answer, after_put}
use Rattle.slots.specs.Tables.{slot_in, changed_slot}
use Rattle.book.specs.Books.{outcome}
use Rattle.book.specs.declared.answers.Refused.{Refused}
use Rattle.book.specs.Answers.{refusal, answer_of, by_list}
use Rattle.book.specs.Entering.{item_in, entry, entered}
use Rattle.book.proofs.Entries.{Opened, entered-site, put_back}
use Rattle.book.proofs.Rows.{book, slot_seen, slot-moved}
use Rattle.book.proofs.Calls.{same_outcome, item-found, item-missing}

module _ {V : Type 0} (k : Coding V) (site slot : ℕ) where
  -- a close before the delivery, and after it
  pub close-early : (b' : BookModel) (n v : ℕ) → v ≡ site_version b' site → v < n
      → outcome b' (plain k NotDelivered v) ≡ cond (leb n (site_version b' site)) (accept k (with_slot b' site slot idle) n) (refuse k b' NotDelivered (site_version b' site))
  close-early b' n v e h =
      ap (λ z. outcome b' (plain k NotDelivered z)) e ∙ sym (cond-false (leb n (site_version b' site)) _ _ (lt-leb n (site_version b' site) (omega arith)))

  pub close-due : (b' b'' : BookModel) (n v : ℕ) → v ≡ site_version b' site → n ≤ v → b'' ≡ with_slot b' site slot idle
      → outcome b'' (plain k Accepted n) ≡ cond (leb n (site_version b' site)) (accept k (with_slot b' site slot idle) n) (refuse k b' NotDelivered (site_version b' site))
  close-due b' b'' n v e h q =
      ap (λ z. outcome z (plain k Accepted n)) q ∙ sym (cond-true (leb n (site_version b' site)) _ _ (le-leb n (site_version b' site) (omega arith)))

-- a call that has entered has found its site in the book of these parts
pub entered_here : {V : Type 0} (k : Coding V) (b : BookModel) (site slot letter : ℕ) (l : LedgerModel) (rs : List ReplicaModel) (rows : List (List SlotModel)) (a n : ℕ)
    → entry (book l rs rows a) (Ok n) ≡ entered b letter site slot → Opened k b site slot (book l rs rows a) n → site < length rs
entered_here k b site slot letter l rs rows a n e o =
    let h = entered-site k b site slot letter (book l rs rows a) n e in
    subst (λ (z : BookModel). site < site_count z) (sym o.same) h

-- a call on an item, at a slot whose transaction is open
module _ {V : Type 0} (k : Coding V) (b b' : BookModel) (site slot n item : ℕ) (o : Opened k b site slot b' n) where
  -- the book does not have the item
  past : (x : Refused) (on : Outcome V) → Err x ≡ item_in b' item → outcome b' (refusal k x) ≡ at_known_item k b item on
  unfolding at_known_item
  past x on h =
      let p = item-missing b' item x h in
      ap (λ z. outcome b' (refusal k z)) p.1 ∙ ap (λ z. refuse k z NoSuchItem (item_count z)) o.same
      ∙ sym (cond-false (ltb item (item_count b)) _ _ (subst (λ z. ltb item (item_count z) ≡ false) o.same (le-ltb item (item_count b') p.0)))

  pub read-past : (x : Refused) (r : Answer V) → Err x ≡ item_in b' item → r ≡ refusal k x → outcome b' r ≡ read_call k b site slot item
  unfolding read_call read_on
  read-past x r h e = ap (outcome b') e ∙ past x _ h ∙ sym (o.does (read_on k b site slot item))

  pub write-past : (value : V) (x : Refused) (r : Answer V) → Err x ≡ item_in b' item → r ≡ refusal k x → outcome b' r ≡ write_call k b site slot item value
  unfolding write_call write_on
  write-past value x r h e = ap (outcome b') e ∙ past x _ h ∙ sym (o.does (write_on k b site slot item value))

-- a transaction that is open at a slot of the book of these parts, and an item that the book has
module _ {V : Type 0} (k : Coding V) (b : BookModel) (l : LedgerModel) (rs : List ReplicaModel) (rows : List (List SlotModel)) (a site slot n item i : ℕ)
    (h : site < length rs) (o : Opened k b site slot (book l rs rows a) n) (found : Ok i ≡ item_in (book l rs rows a) item) where
  abbrev b' : BookModel
  b' = book l rs rows a

  abbrev x : SlotModel
  x = opened n o.writes o.reads

  slot-here : slot_in rows site slot ≡ x
  slot-here = sym (slot_seen l rs rows a site slot h) ∙ o.slot_is

  within : (on : Outcome V) → on ≡ at_known_item k b item on
  unfolding at_known_item
  within on = sym (cond-true (ltb item (item_count b)) _ _ (subst (λ z. ltb item (item_count z) ≡ true) o.same (lt-ltb item (item_count b') (item-found b' item i found).0)))

  here : i ≡ item
  here = (item-found b' item i found).1

  pub read-own : (w : ℕ) (v : V) → Some w ≡ own_word i (slot_in rows site slot) → v ≡ k.value w → show k b' n v ≡ read_call k b site slot item
  unfolding read_call read_on word_read
  read-own w v q f =
      ap (λ z. show k b' n z) f ∙ ap (λ z. show k z n (k.value w)) o.same
      ∙ ap (word_read k b site slot item n o.writes o.reads) (q ∙ ap (own_word i) slot-here ∙ ap (λ z. own_word z x) here)
      ∙ within _ ∙ sym (o.does (read_on k b site slot item))

  pub read-else : (v : V) (rows' : List (List SlotModel)) (w : Result ℕ Refusal) → None ≡ own_word i (slot_in rows site slot)
      → rows' ≡ changed_slot rows site slot (noted i) → w ≡ at_site rs site (λ z. read_answer z n i) (Err NoSuchSite) → v ≡ shown_as k w
      → show k (book l rs rows' a) n v ≡ read_call k b site slot item
  unfolding read_call read_on word_read
  read-else v rows' w q er ew ev =
      let word : w ≡ read_answer (replica_of b' site) n item = ew ∙ cond-true (ltb site (length rs)) _ _ (lt-ltb site (length rs) h) ∙ ap (read_answer (replica_of b' site) n) here in
      ap (λ z. show k z n v) (slot-moved l rs rows a site slot rows' (noted i) h er ∙ ap (λ z. with_slot b' site slot (noted i z)) o.slot_is ∙ ap (λ z. with_slot b' site slot (noted z x)) here)
      ∙ ap (show k (with_slot b' site slot (opened n o.writes (set o.reads item true))) n) (ev ∙ ap (shown_as k) word)
      ∙ ap (λ z. show k (with_slot z site slot (opened n o.writes (set o.reads item true))) n (shown_as k (read_answer (replica_of z site) n item))) o.same
      ∙ ap (word_read k b site slot item n o.writes o.reads) (q ∙ ap (own_word i) slot-here ∙ ap (λ z. own_word z x) here)
      ∙ within _ ∙ sym (o.does (read_on k b site slot item))

  module _ (value : V) (word : ℕ) (ew : word ≡ k.word value) where
    -- whether the list takes the write
    took : (len : ℕ) → Ok len ≡ put_answer item word x → (may_put o.writes item ≡ true) × (len ≡ length (put_in o.writes item word))
    took len =
        cond_both (may_put o.writes item) (Ok (length (put_in o.writes item word))) (Err (record {}))
        (λ (z : Result ℕ full). Ok len ≡ z → (may_put o.writes item ≡ true) × (len ≡ length (put_in o.writes item word)))
        (λ yes e. let same : len ≡ length (put_in o.writes item word) = cc in (yes, same))
        (λ _ e. let z : ◌≡◌ {A = ℕ} 0 1 = cc in absurd (omega arith))

    took-none : (f : full) → Err f ≡ put_answer item word x → may_put o.writes item ≡ false
    took-none f =
        cond_both (may_put o.writes item) (Ok (length (put_in o.writes item word))) (Err (record {}))
        (λ (z : Result ℕ full). Err f ≡ z → may_put o.writes item ≡ false)
        (λ _ e. let z : ◌≡◌ {A = ℕ} 0 1 = cc in absurd (omega arith))
        (λ no _. no)

    moved_to : (rows' : List (List SlotModel)) → rows' ≡ changed_slot rows site slot (after_put item word) → book l rs rows' a ≡ with_slot b' site slot (after_put item word x)
    moved_to rows' er = slot-moved l rs rows a site slot rows' (after_put item word) h er ∙ ap (λ z. with_slot b' site slot (after_put item word z)) o.slot_is

    pub write-put : (len : ℕ) (rows' : List (List SlotModel)) → Ok len ≡ put_answer item word (slot_in rows site slot)
        → rows' ≡ changed_slot rows site slot (after_put item word) → outcome (book l rs rows' a) (plain k Accepted len) ≡ write_call k b site slot item value
    unfolding write_call write_on
    write-put len rows' q er =
        let yes = took len (q ∙ ap (put_answer item word) slot-here) in
        same_outcome _ _ _ _ (moved_to rows' er ∙ ap (with_slot b' site slot) (cond-true (may_put o.writes item) _ _ yes.0)) (ap (plain k Accepted) yes.1)
        ∙ ap (λ z. accept k (with_slot b' site slot (opened n (put_in o.writes item z) o.reads)) (length (put_in o.writes item z))) ew
        ∙ ap (λ z. accept k (with_slot z site slot (opened n (put_in o.writes item (k.word value)) o.reads)) (length (put_in o.writes item (k.word value)))) o.same
        ∙ sym (cond-true (may_put o.writes item) _ (refuse k b ListFull 8) yes.0)
        ∙ within _ ∙ sym (o.does (write_on k b site slot item value))

    pub write-full : (f : full) (rows' : List (List SlotModel)) → Err f ≡ put_answer item word (slot_in rows site slot)
        → rows' ≡ changed_slot rows site slot (after_put item word) → outcome (book l rs rows' a) (plain k ListFull 8) ≡ write_call k b site slot item value
    unfolding write_call write_on
    write-full f rows' q er =
        let no = took-none f (q ∙ ap (put_answer item word) slot-here) in
        ap (λ z. outcome z (plain k ListFull 8))
        (moved_to rows' er ∙ ap (with_slot b' site slot) (cond-false (may_put o.writes item) _ _ no) ∙ put_back b' site slot x o.slot_is ∙ o.same)
        ∙ sym (cond-false (may_put o.writes item) _ (refuse k b ListFull 8) no)
        ∙ within _ ∙ sym (o.does (write_on k b site slot item value))

    -- a write is taken or the list is full; the item is known by either of its names
    pub write-done : (r : Result ℕ full) (v : Result ℕ Refused) (rows' : List (List SlotModel)) → r ≡ put_answer i word (slot_in rows site slot)
        → rows' ≡ changed_slot rows site slot (after_put i word) → v ≡ by_list r → outcome (book l rs rows' a) (answer_of k v) ≡ write_call k b site slot item value
    write-done (Ok len) v rows' q er ev =
        ap (λ z. outcome (book l rs rows' a) (answer_of k z)) ev
        ∙ write-put len rows' (q ∙ ap (λ z. put_answer z word (slot_in rows site slot)) here) (er ∙ ap (λ z. changed_slot rows site slot (after_put z word)) here)
    write-done (Err f) v rows' q er ev =
        ap (λ z. outcome (book l rs rows' a) (answer_of k z)) ev
        ∙ write-full f rows' (q ∙ ap (λ z. put_answer z word (slot_in rows site slot)) here) (er ∙ ap (λ z. changed_slot rows site slot (after_put z word)) here)
