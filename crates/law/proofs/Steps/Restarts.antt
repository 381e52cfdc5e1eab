-- Restart keeps the invariant.
use Rattle.std.proofs.Common.{◌≡◌, ℕ, ◌<◌, cond, eqb, List, ◌∷◌, map, length, get_or, Some, None, Option, sym, refl, ◌∙◌, subst₂, inl, arith}
use lib.ListN.{get_or-map}
use Rattle.std.proofs.lemmas.List.{length-map}
use Rattle.std.proofs.lemmas.Bool.{cond_both, cond-true, cond-false, eq-eqb, ne_eqb}
use Rattle.entries.specs.Codings.{Coding, Faithful}
use Rattle.ledgers.specs.Model.{head_of}
use Rattle.law.specs.declared.calls.Call.{Call}
use Rattle.law.specs.declared.codes.Code.TheVariants.{Accepted}
use Rattle.law.specs.Letters.Letter.{restarts}
use Rattle.law.specs.Slots.{SlotModel, restarted, open_count}
use Rattle.law.specs.Slots.SlotModel.{idle, opened, filed}
use Rattle.law.specs.Books.{BookModel, site_count, replica_of, row_at, with_row, settled}
use Rattle.law.specs.Calls.{plain, restart_call}
use Rattle.law.specs.History.{History, Transaction, event, open_at, closed_at, version_seen, accepted}
use Rattle.law.specs.Serial.{ordered}
use Rattle.law.proofs.SameSite.{From, same-site-moves}
use Rattle.law.proofs.OpenSlots.{Matches, OpenSlot, slots-row}
use Rattle.law.proofs.Invariant.{view, Inv, inv-settled}
use Rattle.law.proofs.Tidy.{tidy-settled, loose-row}
use Rattle.law.proofs.Steps.{at-site, Good, Kept, still}

module _ {V : Type 0} (k : Coding V) (back : Faithful k) (opening : List V) (b : BookModel) (h : History V) (g : Good k back opening b (view h)) (c : Call V) where
  -- what is open after the restart
  abbrev opens : ℕ → ℕ → Option (Transaction V)
  opens s j = cond (eqb c.site s) None (open_at h s j)

  opens-none : (j : ℕ) → opens c.site j ≡ None
  opens-none j = cond-true (eqb c.site c.site) _ _ (eq-eqb c.site c.site refl)

  opens-old : (s j : ℕ) (t : Transaction V) → opens s j ≡ Some t → From (length h) (open_at h) (version_seen h) s j t
  opens-old s j t =
      cond_both (eqb c.site s) None (open_at h s j) (λ z. z ≡ Some t → From (length h) (open_at h) (version_seen h) s j t)
      (λ _ e. let z : ◌≡◌ {A = ℕ} 0 1 = cc in absurd (omega arith)) (λ _ e. inl (t, e, refl, refl))

  none_open : (x : SlotModel) → Matches (OpenSlot k back (length opening) g.states (replica_of b c.site)) (restarted x) None
  none_open idle = tt
  none_open (opened s ws items) = tt
  none_open (filed n) = tt

  module _ (hs : c.site < site_count b) where
    abbrev row : List SlotModel
    row = row_at b c.site

    cleared : Inv k back opening g.states (with_row b c.site (map restarted row)) (view (event restarts c (plain k Accepted (open_count row)) ∷ h))
    cleared =
        record {
          states = g.inv.states;
          slots =
              slots-row k back (length opening) g.states b.replicas b.slots (open_at h) g.inv.slots c.site (map restarted row) opens hs
              (length-map row restarted ∙ g.inv.slots.rows c.site hs)
              (λ j hj.
              subst₂ (Matches (OpenSlot k back (length opening) g.states (replica_of b c.site))) (sym (get_or-map restarted row j idle)) (sym (opens-none j)) (none_open (get_or row j idle)))
              (λ s j e. cond-false (eqb c.site s) _ _ (ne_eqb c.site s (λ z. e (sym z))))
              (λ j _. opens-none j);
          heard = g.inv.heard;
          serial = g.inv.serial;
          same_site =
              same-site-moves (length h) (open_at h) (closed_at h) (version_seen h) (head_of b.ledger) (ordered (accepted h)) g.inv.same_site opens opens-old;
          answered = g.inv.answered;
        }

    restart_on : Good k back opening (settled (with_row b c.site (map restarted row)) c.site) (view (event restarts c (plain k Accepted (open_count row)) ∷ h))
    restart_on =
        record {
          states = g.states;
          inv = inv-settled k back opening g.states _ _ cleared c.site hs;
          tidy = tidy-settled k back opening g.states _ _ cleared c.site hs (loose-row b c.site (map restarted row) g.tidy);
        }

  pub kept-restarts : Kept k back opening h restarts c (restart_call k b c.site)
  unfolding restart_call
  kept-restarts = at-site k (Kept k back opening h restarts c) b c.site _ (still k back opening b h g) (λ hs. restart_on hs)
