-- Drop keeps the invariant.
use Rattle.std.proofs.Common.{◌≡◌, ◌<◌, ◌&&◌, List, is_some, Some, None, Option, sym, refl, subst}
use Rattle.entries.specs.Codings.{Coding, Faithful}
use Rattle.law.specs.declared.calls.Call.{Call}
use Rattle.law.specs.Letters.Letter.{drops}
use Rattle.law.specs.Slots.{SlotModel, slot_count}
use Rattle.law.specs.Slots.SlotModel.{idle, opened, filed}
use Rattle.law.specs.Books.{BookModel, site_count, with_slot, settled}
use Rattle.law.specs.Calls.{drop_on, drop_call}
use Rattle.law.specs.History.{History, Transaction, open_at, readings, filings, whole}
use Rattle.law.proofs.OpenSlots.{Matches}
use Rattle.law.proofs.Invariant.{view, Inv}
use Rattle.law.proofs.Steps.{at_slot, Good, Kept, still, OpenHere, here-matches, slot_view, inv-ended, ended-tidy}

module _ {V : Type 0} (k : Coding V) (back : Faithful k) (opening : List V) (b : BookModel) (h : History V) (g : Good k back opening b (view h)) (c : Call V) where
  module _ (hs : c.site < site_count b) (hj : c.slot < slot_count) where
    drop-on : (x : SlotModel) (o : Option (Transaction V)) → open_at h c.site c.slot ≡ o
        → Matches (OpenHere k back opening b h g c.site c.slot hs hj) x o → Kept k back opening h drops c (drop_on k b c.site c.slot x)
    unfolding drop_on
    drop-on idle o eo m = still k back opening b h g
    drop-on (filed n) o eo m = still k back opening b h g
    drop-on (opened s ws items) None eo m = absurd m
    drop-on (opened s ws items) (Some t) eo m =
        record {
          states = g.states;
          inv =
              subst
              (λ z.
              Inv k back opening g.states (settled (with_slot b c.site c.slot idle) c.site)
              (slot_view k back opening b h g c.site c.slot hs hj None (readings h) (filings h) (is_some z && whole h)))
              (sym eo) (inv-ended k back opening b h g c.site c.slot hs hj (filings h) (whole h) g.inv.answered);
          tidy = ended-tidy k back opening b h g c.site c.slot hs hj idle tt;
        }

  pub kept-drops : Kept k back opening h drops c (drop_call k b c.site c.slot)
  unfolding drop_call
  kept-drops =
      at_slot k (Kept k back opening h drops c) b c.site c.slot _
      (λ _. still k back opening b h g) (λ _. still k back opening b h g)
      (λ hs hj. drop-on hs hj _ _ refl (here-matches k back opening b h g c.site c.slot hs hj))
