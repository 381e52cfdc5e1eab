-- Trim keeps the invariant.
use Rattle.std.proofs.Common.{◌≡◌, ℕ, suc, ◌≤◌, ltb, List, length, Some, None, Option, sym, refl, subst, inl}
use Rattle.std.proofs.lemmas.Bool.{cond_both, ltb-false}
use Rattle.entries.specs.Codings.{Coding, Faithful}
use Rattle.ledgers.specs.Model.{LedgerModel, head_of}
use Rattle.ledgers.proofs.Fetches.{trim-keeps-sets}
use Rattle.law.specs.declared.calls.Call.{Call}
use Rattle.law.specs.Letters.Letter.{trims}
use Rattle.law.specs.Books.{BookModel}
use Rattle.law.specs.Calls.{behind, trim_by, trim_call}
use Rattle.law.specs.History.{History, open_at, closed_at, version_seen, accepted, readings, filings, whole}
use Rattle.law.specs.Serial.{ordered}
use Rattle.law.proofs.SameSite.{SameSite, same-site-moves}
use Rattle.law.proofs.Invariant.{view, states-trim, serial-trim, answered-trim}
use Rattle.law.proofs.Tidy.{tidy-trim}
use Rattle.law.proofs.Steps.{Good, Kept, still}

module _ {V : Type 0} (k : Coding V) (back : Faithful k) (opening : List V) (b : BookModel) (h : History V) (g : Good k back opening b (view h)) (c : Call V) where
  abbrev l : LedgerModel
  l = b.ledger

  trim-by : c.arg ≤ head_of l → (o : Option ℕ) → behind c.arg 0 b.replicas ≡ o → Kept k back opening h trims c (trim_by k b c.arg o)
  unfolding trim_by
  trim-by top (Some site) e = still k back opening b h g
  trim-by top None e =
      record {
        states = g.states;
        inv =
            record {
              states = states-trim k back opening g.states l c.arg b.replicas g.inv.states;
              slots = g.inv.slots;
              heard = record { floors = refl; reaches = g.inv.heard.reaches };
              serial = serial-trim k back opening g.states l c.arg (accepted h) g.inv.serial;
              same_site =
                  subst (λ z. SameSite (suc (length h)) (open_at h) (closed_at h) (version_seen h) z (ordered (accepted h))) (sym (trim-keeps-sets l c.arg).2)
                  (same-site-moves (length h) (open_at h) (closed_at h) (version_seen h) (head_of l) (ordered (accepted h)) g.inv.same_site (open_at h) (λ s j t e. inl (t, e, refl, refl)));
              answered = answered-trim k back opening g.states l c.arg (readings h) (filings h) (whole h) g.inv.answered;
            };
        tidy = tidy-trim b c.arg top e g.tidy;
      }

  pub kept-trims : Kept k back opening h trims c (trim_call k b c.arg)
  unfolding trim_call
  kept-trims =
      cond_both (ltb (head_of l) c.arg) _ _ (Kept k back opening h trims c) (λ _. still k back opening b h g)
      (λ q. trim-by (ltb-false (head_of l) c.arg q) _ refl)
