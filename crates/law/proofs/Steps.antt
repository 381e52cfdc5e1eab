-- What the calls have in common: the tests of site and slot, calls that change nothing, and calls that change one slot.
use Rattle.std.proofs.Common.{◌≡◌, ℕ, suc, ◌<◌, ◌≤◌, Bool, true, false, cond, ◌&&◌, eqb, ltb, ◌⊎◌, List, [], ◌∷◌, length, get_or, set, Some, None, Option, sym, refl, ap, ◌∙◌, subst, inl, inr, arith}
use Rattle.std.proofs.lemmas.List.{set-get_or, get_or-set_same}
use Rattle.std.proofs.lemmas.Bool.{cond_both, ltb-true, ltb-false}
use Rattle.entries.specs.declared.writes.Write.{Write}
use Rattle.entries.specs.Codings.{Coding, Faithful}
use Rattle.replicas.specs.Model.{ReplicaModel, version_of}
use Rattle.ledgers.specs.Model.{head_of}
use Rattle.law.specs.declared.calls.Call.{Call}
use Rattle.law.specs.declared.codes.Code.TheVariants.{NoSuchSite, NoSuchSlot, NoSuchItem}
use Rattle.law.specs.Letters.{Letter}
use Rattle.law.specs.Slots.{SlotModel, slot_count}
use Rattle.law.specs.Slots.SlotModel.{idle, opened, filed}
use Rattle.law.specs.Books.{BookModel, site_count, item_count, replica_of, site_version, row_at, slot_at, with_row, with_slot, settled}
use Rattle.law.specs.Calls.{Outcome, refuse, at_site, at_known_slot, at_known_item}
use Rattle.law.specs.History.{History, Transaction, Reading, Filing, event, open_at, closed_at, version_seen, floor_seen, accepted, readings, filings, whole}
use Rattle.law.specs.Serial.{ordered}
use Rattle.law.proofs.Horizons.{held, Between}
use Rattle.law.proofs.SameSite.{From, from-slot, same-site-moves}
use Rattle.law.proofs.OpenSlots.{Matches, OpenSlot, OpenSlots, open-between, slots-slot}
use Rattle.law.proofs.Invariant.{View, view, ticked, Inv, Answered, inv-ticked, inv-settled}
use Rattle.law.proofs.Tidy.{Tidy, tidy-slot, tidy-settled, loose-row}
pub mod Begins
pub mod Reads
pub mod Writes
pub mod Files
pub mod Closes
pub mod Drops
pub mod Delivers
pub mod Trims
pub mod Restarts
pub mod Every

module _ {V : Type 0} (k : Coding V) where
  -- a call at a site is refused, or the site is there
  pub at-site : (P : Outcome V → Type 0) (b : BookModel) (site : ℕ) (r : Outcome V)
      → P (refuse k b NoSuchSite (site_count b)) → (site < site_count b → P r) → P (at_site k b site r)
  unfolding at_site
  at-site P b site r none here = cond_both (ltb site (site_count b)) _ _ P (λ e. here (ltb-true site (site_count b) e)) (λ _. none)

  -- a call at a slot is refused, or site and slot are there
  pub at_slot : (P : Outcome V → Type 0) (b : BookModel) (site slot : ℕ) (r : Outcome V)
      → (site_count b ≤ site → P (refuse k b NoSuchSite (site_count b))) → (slot_count ≤ slot → P (refuse k b NoSuchSlot slot_count))
      → (site < site_count b → slot < slot_count → P r) → P (at_known_slot k b site slot r)
  unfolding at_known_slot at_site
  at_slot P b site slot r no-site no_slot here =
      cond_both (ltb site (site_count b)) _ _ P
      (λ e.
      cond_both (ltb slot slot_count) _ _ P
      (λ q. here (ltb-true site (site_count b) e) (ltb-true slot slot_count q)) (λ q. no_slot (ltb-false slot slot_count q)))
      (λ e. no-site (ltb-false site (site_count b) e))

  -- a call on an item is refused, or the book has the item
  pub at_item : (P : Outcome V → Type 0) (b : BookModel) (item : ℕ) (r : Outcome V)
      → P (refuse k b NoSuchItem (item_count b)) → (item < item_count b → P r) → P (at_known_item k b item r)
  unfolding at_known_item
  at_item P b item r none here = cond_both (ltb item (item_count b)) _ _ P (λ e. here (ltb-true item (item_count b) e)) (λ _. none)

module _ {V : Type 0} (k : Coding V) (back : Faithful k) (opening : List V) where
  -- the invariant holds for some states of the serial book, and the book is tidy
  pub record Good (b : BookModel) (v : View V) : Type 0 where
    pub states : ℕ → List V
    pub inv : Inv k back opening states b v
    pub tidy : Tidy b

  -- so it is again after a call and its answer
  abbrev pub Kept : History V → Letter → Call V → Outcome V → Type 0
  Kept h l c r = Good r.book (view (event l c r.answer ∷ h))

  module _ (b : BookModel) (h : History V) (g : Good b (view h)) where
    abbrev S : ℕ → List V
    S = g.states

    -- a call that changes nothing
    pub still : Good b (ticked (view h))
    still = record { states = S; inv = inv-ticked k back opening S b (view h) g.inv; tidy = g.tidy }

    -- a call at a slot that is there
    module _ (site slot : ℕ) (hs : site < site_count b) (hj : slot < slot_count) where
      -- the slot and its transaction
      abbrev pub OpenHere : ℕ → List Write → List Bool → Transaction V → Type 0
      OpenHere = OpenSlot k back (length opening) S (replica_of b site)

      pub here-matches : Matches OpenHere (slot_at b site slot) (open_at h site slot)
      here-matches = g.inv.slots.matches site slot hs hj

      -- what is told after a call that leaves o open at the slot
      abbrev pub slot_view : Option (Transaction V) → List (Reading V) → List (Filing V) → Bool → View V
      slot_view o reads files wholly =
          record {
            clock = suc (length h);
            opens = λ s j. cond (eqb site s && eqb slot j) o (open_at h s j);
            closed = closed_at h;
            versions = version_seen h;
            floor = floor_seen h;
            accepts = accepted h;
            reads = reads;
            files = files;
            wholly = wholly;
          }

      -- the slots after the slot has changed
      pub moved-slots : (x : SlotModel) (o : Option (Transaction V)) → Matches OpenHere x o
          → OpenSlots k back (length opening) S b.replicas (set b.slots site (set (row_at b site) slot x)) (λ s j. cond (eqb site s && eqb slot j) o (open_at h s j))
      moved-slots x o m = slots-slot k back (length opening) S b.replicas b.slots (open_at h) g.inv.slots site slot x o hs hj m

      -- the slot changes, and with it what is open there; nothing is accepted
      pub inv-moved : (x : SlotModel) (o : Option (Transaction V)) (reads : List (Reading V)) (files : List (Filing V)) (wholly : Bool)
          → Matches OpenHere x o → ((t : Transaction V) → o ≡ Some t → From (length h) (open_at h) (version_seen h) site slot t)
          → Answered k back opening S b.ledger reads files wholly
          → Inv k back opening S (with_slot b site slot x) (slot_view o reads files wholly)
      inv-moved x o reads files wholly m from a =
          record {
            states = g.inv.states;
            slots = moved-slots x o m;
            heard = g.inv.heard;
            serial = g.inv.serial;
            same_site =
                same-site-moves (length h) (open_at h) (closed_at h) (version_seen h) (head_of b.ledger) (ordered (accepted h)) g.inv.same_site _
                (from-slot (length h) (open_at h) (version_seen h) site slot o from);
            answered = a;
          }

      -- the book stays tidy where the slot holds back the same
      pub moved-tidy : (x : SlotModel) (o : Option (Transaction V)) → Matches OpenHere x o → held (site_version b site) x ≡ held (site_version b site) (slot_at b site slot)
          → Tidy (with_slot b site slot x)
      moved-tidy x o m e =
          let row : List SlotModel = set (row_at b site) slot x in
          let si = g.inv.slots.sites in
          let same : get_or (set b.slots site row) site [] ≡ row = get_or-set_same b.slots site row [] (omega arith) in
          let between = open-between k back (length opening) S b.replicas _ _ (moved-slots x o m) site hs in
          tidy-slot k back opening S b (view h) g.inv g.tidy site slot x hs e
          (λ j s ws items q. (omega arith, (between j s ws items (ap (λ z. get_or z j idle) same ∙ q)).1))

      -- a slot put back as it was
      pub same-slot : (x : SlotModel) → slot_at b site slot ≡ x → with_slot b site slot x ≡ b
      same-slot x e =
          let with : List (List SlotModel) → BookModel =
          λ z. record { ledger = b.ledger; replicas = b.replicas; slots = z; refusals = b.refusals } in
          ap (λ z. with (set b.slots site (set (row_at b site) slot z))) (sym e)
          ∙ ap (λ z. with (set b.slots site z)) (set-get_or (row_at b site) slot idle)
          ∙ ap with (set-get_or b.slots site [])

      -- the transaction ends without being accepted: the slot is idle and the horizon moves
      pub inv-ended : (files : List (Filing V)) (wholly : Bool) → Answered k back opening S b.ledger (readings h) files wholly
          → Inv k back opening S (settled (with_slot b site slot idle) site) (slot_view None (readings h) files wholly)
      inv-ended files wholly a =
          inv-settled k back opening S _ _
          (inv-moved idle None (readings h) files wholly tt (λ t e. let z : ◌≡◌ {A = ℕ} 0 1 = cc in absurd (omega arith)) a) site hs

      pub ended-tidy : (x : SlotModel) → Matches OpenHere x None → Tidy (settled (with_slot b site slot x) site)
      ended-tidy x m =
          tidy-settled k back opening S (with_slot b site slot x) _
          (inv-moved x None (readings h) (filings h) (whole h) m (λ t e. let z : ◌≡◌ {A = ℕ} 0 1 = cc in absurd (omega arith)) g.inv.answered) site hs
          (loose-row b site (set (row_at b site) slot x) g.tidy)
