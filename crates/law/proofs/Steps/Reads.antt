-- Read keeps the invariant.
use Rattle.std.proofs.Common.{◌≡◌, ℕ, ◌<◌, ◌≤◌, Bool, true, ◌&&◌, leb, List, [], ◌∷◌, ◌++◌, map, length, get_or, set, is_some, Some, None, Option, sym, refl, ap, ◌∙◌, subst, inl, arith}
use Rattle.std.proofs.lemmas.List.{length-map, get_or-map, get_or_append_left}
use Rattle.std.proofs.lemmas.Bool.{cond-true, cond-false, and_from, le-leb, lt-leb}
use Rattle.entries.specs.declared.writes.Write.{Write}
use Rattle.entries.specs.Codings.{Coding, Faithful}
use Rattle.entries.specs.Writes.{word_of}
use Rattle.replicas.specs.Model.{ReplicaModel, version_of, items_of, keeps, read_answer}
use Rattle.law.specs.declared.calls.Call.{Call}
use Rattle.law.specs.declared.calls.Answer.{Answer}
use Rattle.law.specs.declared.codes.Code.TheVariants.{Accepted}
use Rattle.law.specs.Letters.Letter.{reads}
use Rattle.law.specs.Slots.{SlotModel, slot_count}
use Rattle.law.specs.Slots.SlotModel.{idle, opened, filed}
use Rattle.law.specs.Books.{BookModel, site_count, replica_of, site_version, slot_at, with_slot}
use Rattle.law.specs.Calls.{shown_as, word_read, read_on, read_call}
use Rattle.law.specs.History.{History, Transaction, event, grown, grow, noted, reading, open_at, readings, filings, whole}
use Rattle.law.specs.History.Operation.{shown}
use Rattle.law.specs.Serial.{after, last_put}
use Rattle.law.proofs.Tracking.{Tracks, after-last_put, value-own, value-else, tracks-own, tracks-read}
use Rattle.law.proofs.Horizons.{held}
use Rattle.law.proofs.OpenSlots.{Matches}
use Rattle.law.proofs.Invariant.{view, Inv, least-256, least_at}
use Rattle.law.proofs.Steps.{at_slot, at_item, Good, Kept, still, OpenHere, here-matches, slot_view, inv-moved, moved-tidy, same-slot}

module _ {V : Type 0} (k : Coding V) (back : Faithful k) (opening : List V) (b : BookModel) (h : History V) (g : Good k back opening b (view h)) (c : Call V) where
  abbrev S : ℕ → List V
  S = g.states

  -- what the replica shows of an item at a snapshot that it keeps is its value then
  word_at : (s : ℕ) → c.site < site_count b → (replica_of b c.site).base ≤ s → s ≤ site_version b c.site → c.arg < length opening
      → shown_as k (read_answer (replica_of b c.site) s c.arg) ≡ get_or (S s) c.arg k.blank
  word_at s hs lo hi ha =
      let r : ReplicaModel = replica_of b c.site in
      let so = g.inv.states.sound s in
      let it = g.inv.states.items in
      let q = least_at b.replicas c.site hs in
      let l : c.arg < length (S s) = omega arith in
      let kept : keeps r s ≡ true = and_from (leb r.base s) (leb s (version_of r)) (le-leb r.base s lo) (le-leb s (version_of r) hi) in
      ap (shown_as k) (cond-true (keeps r s) _ _ kept ∙ cond-false (leb (items_of r) c.arg) _ _ (lt-leb (items_of r) c.arg (omega arith)))
      ∙ ap (λ z. k.value (get_or z c.arg 0)) (g.inv.states.mirrors c.site hs s lo hi)
      ∙ ap k.value (get_or_append_left (map k.word (S s)) _ 0 c.arg (rw length-map l) ∙ get_or-map k.word (S s) c.arg k.blank 0 l)
      ∙ back (get_or (S s) c.arg k.blank)

  module _ (hs : c.site < site_count b) (hj : c.slot < slot_count) where
    abbrev answer : ℕ → V → Answer V
    answer s x = record { code = Accepted; number = s; value = x }

    module _ (s : ℕ) (ws : List Write) (items : List Bool) (t : Transaction V) (eo : open_at h c.site c.slot ≡ Some t)
        (o : OpenHere k back opening b h g c.site c.slot hs hj s ws items t) (ha : c.arg < length opening) where
      -- an open slot whose transaction has shown one more value
      opened-more : (x : V) (items' : List Bool) → Tracks k back (length opening) (S s) ws items' (t.operations ++ (shown c.arg x ∷ []))
          → OpenHere k back opening b h g c.site c.slot hs hj s ws items' (grown (shown c.arg x) t)
      opened-more x items' tr = record { snapshot = o.snapshot; kept = o.kept; known = o.known; tracks = tr }

      -- a value that the operations leave on the state of the snapshot is shown
      shown-more : (x : V) (items' : List Bool) → x ≡ get_or (after (S s) t.operations) c.arg k.blank
          → Tracks k back (length opening) (S s) ws items' (t.operations ++ (shown c.arg x ∷ []))
          → Inv k back opening S (with_slot b c.site c.slot (opened s ws items')) (view (event reads c (answer s x) ∷ h))
      shown-more x items' e tr =
          let so = g.inv.states.sound s in
          let kn = o.known in
          let sn = o.snapshot in
          let re = g.inv.states.reached c.site hs in
          subst
          (λ z.
          Inv k back opening S (with_slot b c.site c.slot (opened s ws items'))
          (slot_view k back opening b h g c.site c.slot hs hj (grow (shown c.arg x) z) (noted (reading (event reads c (answer s x))) z (readings h)) (filings h) (is_some z && whole h)))
          (sym eo)
          (inv-moved k back opening b h g c.site c.slot hs hj (opened s ws items') (Some (grown (shown c.arg x) t)) _ (filings h) (whole h)
          (opened-more x items' tr)
          (λ u q.
          let z : grown (shown c.arg x) t ≡ u = cc in
          inl (t, eo, ap (λ (w : Transaction V). w.began) (sym z), ap (λ (w : Transaction V). w.snapshot) (sym z)))
          (record {
            lossless = g.inv.answered.lossless;
            shown = (
              (
                omega arith,
                e ∙ after-last_put (S s) t.operations c.arg k.blank (omega arith)
                    ∙ ap (λ z. last_put t.operations c.arg (get_or (S z) c.arg k.blank)) (sym o.snapshot),
              ),
              g.inv.answered.shown,
            );
            decided = g.inv.answered.decided;
          }))

      read_word : slot_at b c.site c.slot ≡ opened s ws items → (w : Option ℕ) → word_of ws c.arg ≡ w
          → Kept k back opening h reads c (word_read k b c.site c.slot c.arg s ws items w)
      unfolding word_read
      read_word ex (Some x) e =
          let so = g.inv.states.sound s in
          let m256 : length opening ≤ 256 = subst (λ z. z ≤ 256) g.inv.states.items (least-256 b.replicas) in
          record {
            states = S;
            inv =
                subst (λ z. Inv k back opening S z (view (event reads c (answer s (k.value x)) ∷ h))) (same-slot k back opening b h g c.site c.slot hs hj _ ex)
                (shown-more (k.value x) items
                (sym (value-own k back (length opening) (S s) ws items t.operations o.tracks c.arg ha m256 x e (S s) so (λ j z. refl)))
                (tracks-own k back (length opening) (S s) ws items t.operations o.tracks c.arg ha m256 x e));
            tidy = g.tidy;
          }
      read_word ex None e =
          let so = g.inv.states.sound s in
          let m256 : length opening ≤ 256 = subst (λ z. z ≤ 256) g.inv.states.items (least-256 b.replicas) in
          let x : V = shown_as k (read_answer (replica_of b c.site) s c.arg) in
          let wa = word_at s hs o.kept o.known ha in
          let items' : List Bool = set items c.arg true in
          let tr : Tracks k back (length opening) (S s) ws items' (t.operations ++ (shown c.arg x ∷ [])) =
          subst (λ z. Tracks k back (length opening) (S s) ws items' (t.operations ++ (shown c.arg z ∷ []))) (sym wa)
          (tracks-read k back (length opening) (S s) ws items t.operations o.tracks c.arg ha m256 e) in
          record {
            states = S;
            inv =
                shown-more x items'
                (wa ∙ sym (value-else k back (length opening) (S s) ws items t.operations o.tracks c.arg ha m256 e (S s) so (λ j z. refl))) tr;
            tidy =
                moved-tidy k back opening b h g c.site c.slot hs hj (opened s ws items') (Some (grown (shown c.arg x) t)) (opened-more x items' tr)
                (ap (held (site_version b c.site)) (sym ex));
          }

    read-on : (x : SlotModel) (o : Option (Transaction V)) → slot_at b c.site c.slot ≡ x → open_at h c.site c.slot ≡ o
        → Matches (OpenHere k back opening b h g c.site c.slot hs hj) x o → Kept k back opening h reads c (read_on k b c.site c.slot c.arg x)
    unfolding read_on
    read-on idle o ex eo m = still k back opening b h g
    read-on (filed n) o ex eo m = still k back opening b h g
    read-on (opened s ws items) None ex eo m = absurd m
    read-on (opened s ws items) (Some t) ex eo m =
        at_item k (Kept k back opening h reads c) b c.arg _ (still k back opening b h g)
        (λ ha. read_word s ws items t eo m (subst (λ z. c.arg < z) g.inv.states.items ha) ex _ refl)

  pub kept-reads : Kept k back opening h reads c (read_call k b c.site c.slot c.arg)
  unfolding read_call
  kept-reads =
      at_slot k (Kept k back opening h reads c) b c.site c.slot _
      (λ _. still k back opening b h g) (λ _. still k back opening b h g)
      (λ hs hj. read-on hs hj _ _ refl refl (here-matches k back opening b h g c.site c.slot hs hj))
