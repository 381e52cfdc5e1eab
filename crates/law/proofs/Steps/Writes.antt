-- Write keeps the invariant.
use Rattle.std.proofs.Common.{◌≡◌, ◌<◌, ◌≤◌, ◌&&◌, List, length, is_some, Some, None, Option, sym, refl, ap, subst, inl}
use Rattle.std.proofs.lemmas.Bool.{cond_both}
use Rattle.entries.specs.declared.writes.Write.{Write}
use Rattle.entries.specs.Codings.{Coding, Faithful}
use Rattle.entries.specs.Writes.{put_in}
use Rattle.entries.specs.Lists.{may_put}
use Rattle.law.specs.declared.calls.Call.{Call}
use Rattle.law.specs.Letters.Letter.{writes}
use Rattle.law.specs.Slots.{SlotModel, slot_count}
use Rattle.law.specs.Slots.SlotModel.{idle, opened, filed}
use Rattle.law.specs.Books.{BookModel, site_count, site_version, slot_at, with_slot}
use Rattle.law.specs.Calls.{write_on, write_call}
use Rattle.law.specs.History.{History, Transaction, grown, grow, open_at, readings, filings, whole}
use Rattle.law.specs.History.Operation.{put}
use Rattle.law.proofs.Tracking.{tracks-put}
use Rattle.law.proofs.Horizons.{held}
use Rattle.law.proofs.OpenSlots.{Matches}
use Rattle.law.proofs.Invariant.{view, Inv, least-256}
use Rattle.law.proofs.Steps.{at_slot, at_item, Good, Kept, still, OpenHere, here-matches, slot_view, inv-moved, moved-tidy}

module _ {V : Type 0} (k : Coding V) (back : Faithful k) (opening : List V) (b : BookModel) (h : History V) (g : Good k back opening b (view h)) (c : Call V) where
  module _ (hs : c.site < site_count b) (hj : c.slot < slot_count) where
    write-on : (x : SlotModel) (o : Option (Transaction V)) → slot_at b c.site c.slot ≡ x → open_at h c.site c.slot ≡ o
        → Matches (OpenHere k back opening b h g c.site c.slot hs hj) x o → Kept k back opening h writes c (write_on k b c.site c.slot c.arg c.value x)
    unfolding write_on
    write-on idle o ex eo m = still k back opening b h g
    write-on (filed n) o ex eo m = still k back opening b h g
    write-on (opened s ws items) None ex eo m = absurd m
    write-on (opened s ws items) (Some t) ex eo m =
        at_item k (Kept k back opening h writes c) b c.arg _ (still k back opening b h g)
        (λ ha.
        cond_both (may_put ws c.arg) _ _ (Kept k back opening h writes c)
        (λ _.
        let m256 : length opening ≤ 256 = subst (λ z. z ≤ 256) g.inv.states.items (least-256 b.replicas) in
        let ha' : c.arg < length opening = subst (λ z. c.arg < z) g.inv.states.items ha in
        let ws' : List Write = put_in ws c.arg (k.word c.value) in
        let t' : Transaction V = grown (put c.arg c.value) t in
        let here : OpenHere k back opening b h g c.site c.slot hs hj s ws' items t' =
        record {
          snapshot = m.snapshot;
          kept = m.kept;
          known = m.known;
          tracks = tracks-put k back (length opening) (g.states s) ws items t.operations m.tracks c.arg ha' m256 c.value;
        } in
        record {
          states = g.states;
          inv =
              subst
              (λ z.
              Inv k back opening g.states (with_slot b c.site c.slot (opened s ws' items))
              (slot_view k back opening b h g c.site c.slot hs hj (grow (put c.arg c.value) z) (readings h) (filings h) (is_some z && whole h)))
              (sym eo)
              (inv-moved k back opening b h g c.site c.slot hs hj (opened s ws' items) (Some t') (readings h) (filings h) (whole h) here
              (λ u q.
              let z : t' ≡ u = cc in
              inl (t, eo, ap (λ (w : Transaction V). w.began) (sym z), ap (λ (w : Transaction V). w.snapshot) (sym z)))
              g.inv.answered);
          tidy = moved-tidy k back opening b h g c.site c.slot hs hj (opened s ws' items) (Some t') here (ap (held (site_version b c.site)) (sym ex));
        })
        (λ _. still k back opening b h g))

  pub kept-writes : Kept k back opening h writes c (write_call k b c.site c.slot c.arg c.value)
  unfolding write_call
  kept-writes =
      at_slot k (Kept k back opening h writes c) b c.site c.slot _
      (λ _. still k back opening b h g) (λ _. still k back opening b h g)
      (λ hs hj. write-on hs hj _ _ refl refl (here-matches k back opening b h g c.site c.slot hs hj))
