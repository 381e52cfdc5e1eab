-- Close keeps the invariant.
use Rattle.std.proofs.Common.{◌≡◌, ℕ, ◌<◌, true, ◌&&◌, ◌||◌, eqb, leb, ◌⊎◌, List, length, Some, None, Option, sym, refl, ap, subst, inl, inr, ⊎_elim, arith}
use Rattle.std.proofs.lemmas.Bool.{cond_both, leb-true, eqb-true, and_parts, or_cases}
use Rattle.entries.specs.Codings.{Coding, Faithful}
use Rattle.ledgers.specs.Model.{head_of}
use Rattle.law.specs.declared.calls.Call.{Call}
use Rattle.law.specs.declared.codes.Code.TheVariants.{Accepted}
use Rattle.law.specs.Letters.Letter.{closes}
use Rattle.law.specs.Slots.{SlotModel, slot_count}
use Rattle.law.specs.Slots.SlotModel.{idle, opened, filed}
use Rattle.law.specs.Books.{BookModel, site_count, site_version, slot_at}
use Rattle.law.specs.Calls.{plain, close_on, close_call}
use Rattle.law.specs.History.{History, Transaction, event, closing, at, open_at, closed_at, version_seen, accepted}
use Rattle.law.specs.History.{Accepted as AcceptedTransaction}
use Rattle.law.specs.Serial.{ordered}
use Rattle.law.proofs.Horizons.{held}
use Rattle.law.proofs.SameSite.{Closes, same-site-moves, same-site-closes}
use Rattle.law.proofs.OpenSlots.{Matches, slots-closed}
use Rattle.law.proofs.Invariant.{view}
use Rattle.law.proofs.Steps.{at_slot, Good, Kept, still, OpenHere, here-matches, moved-tidy}

module _ {V : Type 0} (k : Coding V) (back : Faithful k) (opening : List V) (b : BookModel) (h : History V) (g : Good k back opening b (view h)) (c : Call V) where
  module _ (hs : c.site < site_count b) (hj : c.slot < slot_count) where
    -- what is closed now, and what was closed before
    closed-more : (n : ℕ) (t : AcceptedTransaction V) (time : ℕ) → (closing (event closes c (plain k Accepted n)) (length h) t time || closed_at h t time) ≡ true
        → Closes (length h) (open_at h) (closed_at h) (version_seen h) (head_of b.ledger) (ordered (accepted h)) g.inv.same_site (λ t time. closing (event closes c (plain k Accepted n)) (length h) t time || closed_at h t time) c.site n t time
        ⊎ (closed_at h t time ≡ true)
    closed-more n t time e =
        ⊎_elim
        (λ q.
        let parts = and_parts (eqb (length h) time && at (event closes c (plain k Accepted n)) t.site t.slot) (eqb n t.number) q in
        let first = and_parts (eqb (length h) time) (at (event closes c (plain k Accepted n)) t.site t.slot) parts.0 in
        let where' = and_parts (eqb c.site t.site) (eqb c.slot t.slot) first.1 in
        inl (sym (eqb-true (length h) time first.0), sym (eqb-true c.site t.site where'.0), sym (eqb-true n t.number parts.1)))
        (λ q. inr q)
        (or_cases (closing (event closes c (plain k Accepted n)) (length h) t time) (closed_at h t time) e)

    close-on : (x : SlotModel) (o : Option (Transaction V)) → slot_at b c.site c.slot ≡ x → open_at h c.site c.slot ≡ o
        → Matches (OpenHere k back opening b h g c.site c.slot hs hj) x o → Kept k back opening h closes c (close_on k b c.site c.slot x)
    unfolding close_on
    close-on idle o ex eo m = still k back opening b h g
    close-on (opened s ws items) o ex eo m = still k back opening b h g
    close-on (filed n) (Some t) ex eo m = absurd m
    close-on (filed n) None ex eo m =
        cond_both (leb n (site_version b c.site)) _ _ (Kept k back opening h closes c)
        (λ q.
        let le = leb-true n (site_version b c.site) q in
        let re = g.inv.states.reached c.site hs in
        let hr = g.inv.heard.reaches c.site hs in
        record {
          states = g.states;
          inv =
              record {
                states = g.inv.states;
                slots =
                    slots-closed k back (length opening) g.states b.replicas b.slots (open_at h) g.inv.slots c.site c.slot idle hs hj
                    (subst (Matches (OpenHere k back opening b h g c.site c.slot hs hj) idle) (sym eo) tt);
                heard = g.inv.heard;
                serial = g.inv.serial;
                same_site =
                    same-site-moves (length h) (open_at h) _ (version_seen h) (head_of b.ledger) (ordered (accepted h))
                    (same-site-closes (length h) (open_at h) (closed_at h) (version_seen h) (head_of b.ledger) (ordered (accepted h)) g.inv.same_site _ c.site n
                    (closed-more n) (omega arith) (omega arith))
                    (open_at h) (λ s j t e. inl (t, e, refl, refl));
                answered = g.inv.answered;
              };
          tidy = moved-tidy k back opening b h g c.site c.slot hs hj idle None tt (ap (held (site_version b c.site)) (sym ex));
        })
        (λ _. still k back opening b h g)

  pub kept-closes : Kept k back opening h closes c (close_call k b c.site c.slot)
  unfolding close_call
  kept-closes =
      at_slot k (Kept k back opening h closes c) b c.site c.slot _
      (λ _. still k back opening b h g) (λ _. still k back opening b h g)
      (λ hs hj. close-on hs hj _ _ refl refl (here-matches k back opening b h g c.site c.slot hs hj))
