-- Begin keeps the invariant.
use Rattle.std.proofs.Common.{◌≡◌, ℕ, ◌<◌, false, not, ◌&&◌, List, [], length, replicate, is_some, Some, None, Option, sym, refl, ap, ◌∙◌, inr, arith}
use Rattle.entries.specs.Codings.{Coding, Faithful}
use Rattle.law.specs.declared.calls.Call.{Call}
use Rattle.law.specs.declared.codes.Code.TheVariants.{Accepted}
use Rattle.law.specs.Letters.Letter.{begins}
use Rattle.law.specs.Slots.{SlotModel, slot_count}
use Rattle.law.specs.Slots.SlotModel.{idle, opened, filed}
use Rattle.law.specs.Books.{BookModel, site_count, site_version, slot_at}
use Rattle.law.specs.Calls.{plain, begin_on, begin_call}
use Rattle.law.specs.History.{History, Transaction, event, begun, open_at, readings, filings, whole}
use Rattle.law.proofs.Tracking.{tracks-none}
use Rattle.law.proofs.Horizons.{held}
use Rattle.law.proofs.OpenSlots.{Matches}
use Rattle.law.proofs.Invariant.{view}
use Rattle.law.proofs.Steps.{at_slot, Good, Kept, still, OpenHere, here-matches, inv-moved, moved-tidy}

module _ {V : Type 0} (k : Coding V) (back : Faithful k) (opening : List V) (b : BookModel) (h : History V) (g : Good k back opening b (view h)) (c : Call V) where
  module _ (hs : c.site < site_count b) (hj : c.slot < slot_count) where
    begin-on : (x : SlotModel) (o : Option (Transaction V)) → slot_at b c.site c.slot ≡ x → open_at h c.site c.slot ≡ o
        → Matches (OpenHere k back opening b h g c.site c.slot hs hj) x o → Kept k back opening h begins c (begin_on k b c.site c.slot x)
    unfolding begin_on
    begin-on (opened s ws items) o ex eo m = still k back opening b h g
    begin-on (filed n) o ex eo m = still k back opening b h g
    begin-on idle (Some t) ex eo m = absurd m
    begin-on idle None ex eo m =
        let v : ℕ = site_version b c.site in
        let x : SlotModel = opened v [] (replicate 256 false) in
        let t : Transaction V = begun (event begins c (plain k Accepted v)) (length h) in
        let here : OpenHere k back opening b h g c.site c.slot hs hj v [] (replicate 256 false) t =
        record { snapshot = refl; kept = omega arith; known = omega arith; tracks = tracks-none k back (length opening) (g.states v) } in
        record {
          states = g.states;
          inv =
              inv-moved k back opening b h g c.site c.slot hs hj x (Some t) (readings h) (filings h) (not (is_some (open_at h c.site c.slot)) && whole h) here
              (λ u e.
              let q : t ≡ u = cc in
              inr (ap (λ (z : Transaction V). z.began) (sym q), ap (λ (z : Transaction V). z.snapshot) (sym q) ∙ sym (g.inv.heard.reaches c.site hs)))
              (record {
                lossless = ap (λ z. not (is_some z) && whole h) eo ∙ g.inv.answered.lossless;
                shown = g.inv.answered.shown;
                decided = g.inv.answered.decided;
              });
          tidy = moved-tidy k back opening b h g c.site c.slot hs hj x (Some t) here (ap (held v) (sym ex));
        }

  pub kept-begins : Kept k back opening h begins c (begin_call k b c.site c.slot)
  unfolding begin_call
  kept-begins =
      at_slot k (Kept k back opening h begins c) b c.site c.slot _
      (λ _. still k back opening b h g) (λ _. still k back opening b h g)
      (λ hs hj. begin-on hs hj _ _ refl refl (here-matches k back opening b h g c.site c.slot hs hj))
