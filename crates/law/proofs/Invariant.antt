-- What holds of a book and of the history that led to it, between any two calls.
use Rattle.std.proofs.Common.{◌≡◌, ℕ, zero, suc, ◌+◌, ◌<◌, ◌≤◌, min, Bool, true, false, cond, leb, ◌≢◌, List, [], ◌∷◌, map, length, get_or, set, is_ok, Ok, Option, sym, refl, ap, ◌∙◌, subst, inl, ⊎_elim, arith}
use Rattle.std.specs.List.{AllByRecursion}
use Rattle.std.proofs.lemmas.List.{length-set, get_or-set_same, get_or-set_other}
use Rattle.std.proofs.lemmas.Bool.{cond_both, cond-true, cond-false, cases_eq, le-leb, lt-leb}
use Rattle.entries.specs.declared.writes.Write.{Write}
use Rattle.entries.specs.Codings.{Coding, Faithful}
use Rattle.entries.specs.Items.{has}
use Rattle.replicas.specs.Overlay.{over}
use Rattle.replicas.specs.Model.{ReplicaModel, version_of, items_of, after_forget}
use Rattle.banks.specs.Sites.{replica_at, no_replica, least_items}
use Rattle.ledgers.specs.Model.{LedgerModel, head_of, newest, add_answer, after_add, trimmed}
use Rattle.ledgers.proofs.Fetches.{add-keeps-sets, trim-keeps-sets}
use Rattle.law.specs.Books.{BookModel, site_count, replica_of, row_at, horizon_at, counted, settled}
use Rattle.law.specs.History.{History, Operation, Transaction, Accepted, Reading, Filing, open_at, closed_at, version_seen, floor_seen, accepted, readings, filings, whole, is_update}
use Rattle.law.specs.Serial.{place, ordered, after, Shows, last_put}
use Rattle.law.specs.Certification.{writes_one_of, update_count, newest_conflict, due}
use Rattle.law.proofs.Overlay.{Within}
use Rattle.law.proofs.Touching.{names_by}
use Rattle.law.proofs.Tracking.{length-after}
use Rattle.law.proofs.Elements.{all-each}
use Rattle.law.proofs.Order.{Chain, chain-carry, chain-reader, chain-update}
use Rattle.law.proofs.States.{Sound, Leads, leads-add, leads-trim, SameTo, Mirrors, mirrors-same, mirrors-forgotten, forgotten-version, forgotten-items, forgotten-low}
use Rattle.law.proofs.Conflicts.{newest-trimmed, conflict-reader, conflict-update, count-reader, count-update}
use Rattle.law.proofs.Horizons.{horizon-open}
use Rattle.law.proofs.SameSite.{SameSite, same-site-moves}
use Rattle.law.proofs.OpenSlots.{OpenSlots, slots-replica}

-- what can be told from a history
pub record View (V : Type 0) : Type 0 where
  pub clock : ℕ
  pub opens : ℕ → ℕ → Option (Transaction V)
  pub closed : Accepted V → ℕ → Bool
  pub versions : ℕ → ℕ
  pub floor : ℕ
  pub accepts : List (Accepted V)
  pub reads : List (Reading V)
  pub files : List (Filing V)
  pub wholly : Bool

abbrev pub view : {V : Type 0} → History V → View V
view h =
    record {
      clock = length h;
      opens = open_at h;
      closed = closed_at h;
      versions = version_seen h;
      floor = floor_seen h;
      accepts = accepted h;
      reads = readings h;
      files = filings h;
      wholly = whole h;
    }

-- after a call that tells nothing
abbrev pub ticked : {V : Type 0} → View V → View V
ticked v =
    record {
      clock = suc v.clock;
      opens = v.opens;
      closed = v.closed;
      versions = v.versions;
      floor = v.floor;
      accepts = v.accepts;
      reads = v.reads;
      files = v.files;
      wholly = v.wholly;
    }

-- the number of items where one replica is replaced by one of the same size
least-set : (rs : List ReplicaModel) (s : ℕ) (r : ReplicaModel) → items_of r ≡ items_of (replica_at rs s) → least_items (set rs s r) ≡ least_items rs
least-set [] s r e = refl
least-set (x ∷ xs) zero r e = ap (λ z. min z (least_items xs)) e
least-set (x ∷ xs) (suc s) r e = ap (min (items_of x)) (least-set xs s r e)

pub least-256 : (rs : List ReplicaModel) → least_items rs ≤ 256
least-256 [] = omega arith
least-256 (r ∷ rs) = omega (arith, least-256 rs)

pub least_at : (rs : List ReplicaModel) (s : ℕ) → s < length rs → least_items rs ≤ items_of (replica_at rs s)
least_at [] s h = absurd (omega arith)
least_at (r ∷ rs) zero h = omega arith
least_at (r ∷ rs) (suc s) h = let l = least_at rs s (omega arith) in omega arith

-- what holds of the replicas of all sites after one is replaced
pub sites-set : (P : ReplicaModel → Type 0) (rs : List ReplicaModel) (s : ℕ) (r : ReplicaModel) → P r
    → ((s' : ℕ) → s' < length rs → P (replica_at rs s')) → (s' : ℕ) → s' < length (set rs s r) → P (replica_at (set rs s r) s')
sites-set P rs s r here h s' l =
    let l' : s' < length rs = subst (λ z. s' < z) (length-set rs s r) l in
    ⊎_elim
    (λ (e : s' ≡ s).
    subst P (sym (ap (replica_at (set rs s r)) e ∙ get_or-set_same rs s r no_replica (subst (λ z. z < length rs) e l'))) here)
    (λ (e : s' ≢ s). subst P (sym (get_or-set_other rs s s' r no_replica e)) (h s' l'))
    (cases_eq s' s)

module _ {V : Type 0} (k : Coding V) (back : Faithful k) (opening : List V) where
  abbrev m : ℕ
  m = length opening

  -- S has the state of the serial book at each version, and ledger and replicas show these states
  pub record States (S : ℕ → List V) (l : LedgerModel) (rs : List ReplicaModel) : Type 0 where
    pub start : S 0 ≡ opening
    pub sound : Sound k m S
    pub items : least_items rs ≡ m
    pub leads : Leads k m S l
    pub mirrors : (s : ℕ) → s < length rs → Mirrors k m S (replica_at rs s)
    pub reached : (s : ℕ) → s < length rs → version_of (replica_at rs s) ≤ head_of l

  -- floor and versions are those that the history tells
  pub record Heard (l : LedgerModel) (rs : List ReplicaModel) (floor : ℕ) (versions : ℕ → ℕ) : Type 0 where
    pub floors : floor ≡ l.floor
    pub reaches : (s : ℕ) → s < length rs → versions s ≡ version_of (replica_at rs s)

  -- the accepted transactions lead from state to state, and their writes are those of the ledger
  pub record Serial (S : ℕ → List V) (l : LedgerModel) (ts : List (Accepted V)) : Type 0 where
    pub chain : Chain k.blank S 0 (ordered ts) (head_of l)
    pub updates : update_count ts ≡ head_of l
    pub conflicts : (s : ℕ) → l.floor ≤ s → (items : List Bool) → newest_conflict (has items) s ts ≡ newest l s items

  -- a read showed what its snapshot and its transaction's writes give
  abbrev pub ReadRight : (ℕ → List V) → ℕ → Reading V → Type 0
  ReadRight S head r =
      (r.before.snapshot ≤ head) × (r.value ≡ last_put r.before.operations r.item (get_or (S r.before.snapshot) r.item k.blank))

  -- no call is lost, and reads and filings were answered as they should
  pub record Answered (S : ℕ → List V) (l : LedgerModel) (reads : List (Reading V)) (files : List (Filing V)) (wholly : Bool) : Type 0 where
    pub lossless : wholly ≡ true
    pub shown : AllByRecursion (ReadRight S (head_of l)) reads
    pub decided : AllByRecursion (λ (f : Filing V). f.verdict ≡ due l.capacity f) files

  -- the invariant
  pub record Inv (S : ℕ → List V) (b : BookModel) (v : View V) : Type 0 where
    pub states : States S b.ledger b.replicas
    pub slots : OpenSlots k back m S b.replicas b.slots v.opens
    pub heard : Heard b.ledger b.replicas v.floor v.versions
    pub serial : Serial S b.ledger v.accepts
    pub same_site : SameSite v.clock v.opens v.closed v.versions (head_of b.ledger) (ordered v.accepts)
    pub answered : Answered S b.ledger v.reads v.files v.wholly

  -- the replica of a site changes
  pub states-replica : (S : ℕ → List V) (l : LedgerModel) (rs : List ReplicaModel) → States S l rs → (s : ℕ) (r : ReplicaModel)
      → items_of r ≡ items_of (replica_at rs s) → Mirrors k m S r → version_of r ≤ head_of l → States S l (set rs s r)
  states-replica S l rs i s r e mi top =
      record {
        start = i.start;
        sound = i.sound;
        items = least-set rs s r e ∙ i.items;
        leads = i.leads;
        mirrors = sites-set (Mirrors k m S) rs s r mi i.mirrors;
        reached = sites-set (λ z. version_of z ≤ head_of l) rs s r top i.reached;
      }

  pub heard-replica : (l : LedgerModel) (rs : List ReplicaModel) (floor : ℕ) (versions versions' : ℕ → ℕ) → Heard l rs floor versions → (s : ℕ) (r : ReplicaModel)
      → versions' s ≡ version_of r → ((s' : ℕ) → s' ≢ s → versions' s' ≡ versions s') → Heard l (set rs s r) floor versions'
  heard-replica l rs floor versions versions' i s r here there =
      record {
        floors = i.floors;
        reaches =
            λ s' h.
            let h' : s' < length rs = subst (λ z. s' < z) (length-set rs s r) h in
            ⊎_elim
            (λ (e : s' ≡ s).
            ap versions' e ∙ here
            ∙ ap version_of (sym (ap (replica_at (set rs s r)) e ∙ get_or-set_same rs s r no_replica (subst (λ z. z < length rs) e h'))))
            (λ (e : s' ≢ s). there s' e ∙ i.reaches s' h' ∙ ap version_of (sym (get_or-set_other rs s s' r no_replica e)))
            (cases_eq s' s);
      }

  -- the site's replica forgets what lies below the horizon
  pub inv-settled : (S : ℕ → List V) (b : BookModel) (v : View V) → Inv S b v → (s : ℕ) → s < site_count b → Inv S (settled b s) v
  inv-settled S b v i s hs =
      let r : ReplicaModel = replica_of b s in
      let to : ℕ = horizon_at b s in
      let ve = forgotten-version k m r to in
      let re = i.states.reached s hs in
      record {
        states =
            states-replica S b.ledger b.replicas i.states s (after_forget to r) (forgotten-items k m r to)
            (mirrors-forgotten k m r to S (i.states.mirrors s hs)) (omega arith);
        slots =
            slots-replica k back m S b.replicas b.slots v.opens i.slots s (after_forget to r) (omega arith)
            (λ j x ws items _ e low. forgotten-low k m r to x low (horizon-open (row_at b s) (version_of r) j x ws items e));
        heard =
            heard-replica b.ledger b.replicas v.floor v.versions v.versions i.heard s (after_forget to r)
            (i.heard.reaches s hs ∙ sym ve) (λ s' _. refl);
        serial = i.serial;
        same_site = i.same_site;
        answered = i.answered;
      }

  -- the count of filings turned away is no part of it
  pub inv-counted : (S : ℕ → List V) (b : BookModel) (v : View V) → Inv S b v → Inv S (counted b) v
  inv-counted S b v i =
      record { states = i.states; slots = i.slots; heard = i.heard; serial = i.serial; same_site = i.same_site; answered = i.answered }

  -- a call that tells nothing and changes nothing
  pub inv-ticked : (S : ℕ → List V) (b : BookModel) (v : View V) → Inv S b v → Inv S b (ticked v)
  inv-ticked S b v i =
      record {
        states = i.states;
        slots = i.slots;
        heard = i.heard;
        serial = i.serial;
        same_site =
            same-site-moves v.clock v.opens v.closed v.versions (head_of b.ledger) (ordered v.accepts) i.same_site v.opens
            (λ s j t e. inl (t, e, refl, refl));
        answered = i.answered;
      }

  -- the ledger is trimmed
  module _ (S : ℕ → List V) (l : LedgerModel) (to : ℕ) where
    trim-head : head_of (trimmed to l) ≡ head_of l
    trim-head = (trim-keeps-sets l to).2

    pub states-trim : (rs : List ReplicaModel) → States S l rs → States S (trimmed to l) rs
    states-trim rs i =
        record {
          start = i.start;
          sound = i.sound;
          items = i.items;
          leads = leads-trim k m S l to i.leads;
          mirrors = i.mirrors;
          reached = λ s h. subst (λ z. version_of (replica_at rs s) ≤ z) (sym trim-head) (i.reached s h);
        }

    pub serial-trim : (ts : List (Accepted V)) → Serial S l ts → Serial S (trimmed to l) ts
    serial-trim ts i =
        record {
          chain = subst (Chain k.blank S 0 (ordered ts)) (sym trim-head) i.chain;
          updates = i.updates ∙ sym trim-head;
          conflicts =
              λ s h items.
              let low : l.floor ≤ s = (let t = (trim-keeps-sets l to).0 in omega arith) in
              i.conflicts s low items ∙ sym (newest-trimmed l s items low to h);
        }

    pub answered-trim : (reads : List (Reading V)) (files : List (Filing V)) (wholly : Bool) → Answered S l reads files wholly → Answered S (trimmed to l) reads files wholly
    answered-trim reads files wholly i =
        record { lossless = i.lossless; shown = subst (λ z. AllByRecursion (ReadRight S z) reads) (sym trim-head) i.shown; decided = i.decided }

  -- a transaction without writes is accepted
  pub serial-reader : (S : ℕ → List V) (l : LedgerModel) (ts : List (Accepted V)) (t : Accepted V) → Serial S l ts → is_update t ≡ false → place t ≤ head_of l
      → Shows k.blank (S (place t)) t.ran.operations → after (S (place t)) t.ran.operations ≡ S (place t) → Serial S l (t ∷ ts)
  serial-reader S l ts t i q top sh af =
      record {
        chain = chain-reader k.blank S t q sh af 0 (head_of l) (ordered ts) (omega arith) top i.chain;
        updates = count-reader t ts q ∙ i.updates;
        conflicts = λ s low items. conflict-reader (has items) t ts s q ∙ i.conflicts s low items;
      }

  -- a transaction with writes is accepted, as the next version
  module _ (S : ℕ → List V) (l : LedgerModel) (ops : List (Operation V)) where
    -- the states with the one that it makes
    pub next : ℕ → List V
    next v = cond (leb v (head_of l)) (S v) (after (S (head_of l)) ops)

    pub next-same : SameTo k m (head_of l) S next
    unfolding next
    next-same v h = sym (cond-true (leb v (head_of l)) _ _ (le-leb v (head_of l) h))

    pub next-new : next (head_of l + 1) ≡ after (S (head_of l)) ops
    unfolding next
    next-new = cond-false (leb (head_of l + 1) (head_of l)) _ _ (lt-leb (head_of l + 1) (head_of l) (omega arith))

    next-sound : Sound k m S → Sound k m next
    unfolding next
    next-sound so v =
        cond_both (leb v (head_of l)) (S v) (after (S (head_of l)) ops) (λ z. length z ≡ m)
        (λ _. so v) (λ _. length-after (S (head_of l)) ops ∙ so (head_of l))

    module _ (ws : List Write) (n : ℕ) (ok : add_answer l ws ≡ Ok n) where
      pub add-head : head_of (after_add ws l) ≡ head_of l + 1
      add-head = let a = add-keeps-sets l ws n ok in a.1 ∙ a.0

      pub add-floor : ((after_add ws l).floor ≡ l.floor) × ((after_add ws l).capacity ≡ l.capacity)
      add-floor =
          let e = cond-true (is_ok (add_answer l ws)) _ l (ap is_ok ok) in
          (ap (λ (z : LedgerModel). z.floor) e, ap (λ (z : LedgerModel). z.capacity) e)

      pub states-add : (rs : List ReplicaModel) → States S l rs
          → map k.word (after (S (head_of l)) ops) ≡ over (map k.word (S (head_of l))) ws → Within m ws → States next (after_add ws l) rs
      states-add rs i lays within =
          record {
            start = sym (next-same 0 (omega arith)) ∙ i.start;
            sound = next-sound i.sound;
            items = i.items;
            leads =
                leads-add k m S next l ws n ok next-same
                (record { words = ap (map k.word) next-new ∙ lays; within = within }) i.leads;
            mirrors = λ s h. mirrors-same k m S next (head_of l) (replica_at rs s) next-same (i.reached s h) (i.mirrors s h);
            reached = λ s h. let r = i.reached s h in let a = add-head in omega arith;
          }

      pub serial-update : (ts : List (Accepted V)) (t : Accepted V) → Serial S l ts → t.ran.operations ≡ ops → is_update t ≡ true → t.number ≡ head_of l + 1
          → Shows k.blank (S (head_of l)) ops → ((P : ℕ → Bool) → names_by P ws ≡ writes_one_of P ops) → Serial next (after_add ws l) (t ∷ ts)
      serial-update ts t i eo q nu sh wr =
          let H : ℕ = head_of l in
          let pl : place t ≡ H + 1 = cond-true (is_update t) t.number _ q ∙ nu in
          let same = next-same H (omega arith) in
          record {
            chain =
                subst (Chain k.blank next 0 (ordered (t ∷ ts))) (sym add-head)
                (chain-update k.blank next t H q pl
                (subst (λ z. Shows k.blank (next H) z) (sym eo) (subst (λ z. Shows k.blank z ops) same sh))
                (ap (after (next H)) eo ∙ ap (λ z. after z ops) (sym same) ∙ sym next-new ∙ ap next (sym pl)) 0 (ordered ts)
                (chain-carry k.blank S next 0 H (ordered ts) next-same i.chain));
            updates = count-update t ts q ∙ ap (λ z. z + 1) i.updates ∙ sym add-head;
            conflicts =
                λ s low items.
                let low' : l.floor ≤ s = subst (λ z. z ≤ s) add-floor.0 low in
                conflict-update l t ws ts s items n ok q nu (λ P. wr P ∙ ap (writes_one_of P) (sym eo)) low' (i.conflicts s low' items);
          }

      pub answered-add : (reads : List (Reading V)) (files : List (Filing V)) (wholly : Bool) → Answered S l reads files wholly → Answered next (after_add ws l) reads files wholly
      answered-add reads files wholly i =
          record {
            lossless = i.lossless;
            shown =
                all-each
                (λ r h. (
                  (let h0 = h.0 in let a = add-head in omega arith),
                  h.1 ∙ ap (λ z. last_put r.before.operations r.item (get_or z r.item k.blank)) (next-same r.before.snapshot h.0),
                ))
                reads i.shown;
            decided = subst (λ z. AllByRecursion (λ (f : Filing V). f.verdict ≡ due z f) files) (sym add-floor.1) i.decided;
          }

      pub heard-add : (rs : List ReplicaModel) (floor : ℕ) (versions : ℕ → ℕ) → Heard l rs floor versions → Heard (after_add ws l) rs floor versions
      heard-add rs floor versions i = record { floors = i.floors ∙ sym add-floor.0; reaches = i.reaches }
