-- Deliver keeps the invariant.
use Rattle.std.proofs.Common.{◌≡◌, ℕ, ◌+◌, ◌<◌, ◌≤◌, cond, eqb, ltb, List, ◌∷◌, length, is_ok, Ok, Err, Result, sym, refl, ap, ◌∙◌, subst, inl, ⊎_elim, arith}
use Rattle.std.proofs.lemmas.List.{length-set}
use Rattle.std.proofs.lemmas.Bool.{cond_both, cond-true, cond-false, cases_eq, eq-eqb, ne_eqb, ltb-true}
use Rattle.std.proofs.lemmas.Bool.Decides.{nat_tests}
use Rattle.entries.specs.declared.writes.Write.{Write}
use Rattle.entries.specs.Codings.{Coding, Faithful}
use Rattle.replicas.specs.declared.replica.Refusal.{Refusal}
use Rattle.replicas.specs.Model.{ReplicaModel, version_of, take_answer, after_take}
use Rattle.replicas.proofs.History.{take-keeps-history}
use Rattle.ledgers.specs.Model.{head_of, fetched}
use Rattle.law.specs.declared.calls.Call.{Call}
use Rattle.law.specs.declared.codes.Code.TheVariants.{Accepted}
use Rattle.law.specs.Letters.Letter.{delivers}
use Rattle.law.specs.Books.{BookModel, site_count, replica_of, site_version, with_replica}
use Rattle.law.specs.Calls.{plain, deliver_by, deliver_on, deliver_call}
use Rattle.law.specs.History.{History, event, open_at, closed_at, version_seen, floor_seen, accepted}
use Rattle.law.specs.Serial.{ordered}
use Rattle.law.proofs.States.{mirrors-taken, taken-parts}
use Rattle.law.proofs.SameSite.{same-site-moves, same-site-delivers}
use Rattle.law.proofs.OpenSlots.{slots-replica}
use Rattle.law.proofs.Invariant.{view, Inv, states-replica, heard-replica, inv-settled}
use Rattle.law.proofs.Tidy.{tidy-settled, loose-replica}
use Rattle.law.proofs.Steps.{at-site, Good, Kept, still}

-- a replica that takes a set answers the next version
taken-number : (r : ReplicaModel) (ws : List Write) (n : ℕ) → take_answer r ws ≡ Ok n → n ≡ version_of r + 1
taken-number r ws n e = grind (arith, nat_tests)

module _ {V : Type 0} (k : Coding V) (back : Faithful k) (opening : List V) (b : BookModel) (h : History V) (g : Good k back opening b (view h)) (c : Call V)
    (hs : c.site < site_count b) where
  abbrev r : ReplicaModel
  r = replica_of b c.site

  abbrev ws : List Write
  ws = fetched b.ledger (site_version b c.site + 1)

  module _ (lt : site_version b c.site < head_of b.ledger) (n : ℕ) (ok : take_answer r ws ≡ Ok n) where
    -- the versions that the history tells afterwards
    abbrev versions : ℕ → ℕ
    versions s = cond (eqb c.site s) n (version_seen h s)

    new-version : version_of (after_take ws r) ≡ version_of r + 1
    new-version = (take-keeps-history r ws (ap is_ok ok)).0

    version-here : versions c.site ≡ version_of (after_take ws r)
    version-here = cond-true (eqb c.site c.site) _ _ (eq-eqb c.site c.site refl) ∙ taken-number r ws n ok ∙ sym new-version

    versions-rise : (s : ℕ) → version_seen h s ≤ versions s
    versions-rise s =
        ⊎_elim
        (λ (e : s ≡ c.site).
        let here = version-here in
        let new = new-version in
        let hr = g.inv.heard.reaches c.site hs in
        subst (λ z. version_seen h z ≤ versions z) (sym e) (omega arith))
        (λ e. let q : versions s ≡ version_seen h s = cond-false (eqb c.site s) _ _ (ne_eqb c.site s (λ z. e (sym z))) in omega arith)
        (cases_eq s c.site)

    taken : Inv k back opening g.states (with_replica b c.site (after_take ws r)) (view (event delivers c (plain k Accepted n) ∷ h))
    taken =
        let parts = taken-parts k (length opening) r ws in
        let new = new-version in
        let lays = g.inv.states.leads (site_version b c.site) (g.tidy.floors c.site hs) lt in
        record {
          states =
              states-replica k back opening g.states b.ledger b.replicas g.inv.states c.site (after_take ws r) parts.1
              (mirrors-taken k (length opening) g.states g.inv.states.sound r ws (ap is_ok ok) lays (g.inv.states.mirrors c.site hs)) (omega arith);
          slots =
              slots-replica k back (length opening) g.states b.replicas b.slots (open_at h) g.inv.slots c.site (after_take ws r) (omega arith)
              (λ j x us items _ e low. subst (λ z. z ≤ x) (sym parts.0) low);
          heard =
              heard-replica k back opening b.ledger b.replicas (floor_seen h) (version_seen h) versions g.inv.heard c.site (after_take ws r)
              version-here (λ s e. cond-false (eqb c.site s) _ _ (ne_eqb c.site s (λ z. e (sym z))));
          serial = g.inv.serial;
          same_site =
              same-site-moves (length h) (open_at h) (closed_at h) versions (head_of b.ledger) (ordered (accepted h))
              (same-site-delivers (length h) (open_at h) (closed_at h) (version_seen h) (head_of b.ledger) (ordered (accepted h)) g.inv.same_site versions versions-rise)
              (open_at h) (λ s j t e. inl (t, e, refl, refl));
          answered = g.inv.answered;
        }

  deliver-by : site_version b c.site < head_of b.ledger → (a : Result ℕ Refusal) → take_answer r ws ≡ a → Kept k back opening h delivers c (deliver_by k b c.site ws a)
  unfolding deliver_by
  deliver-by lt (Err x) e = still k back opening b h g
  deliver-by lt (Ok n) e =
      let new = new-version lt n e in
      let hs' : c.site < site_count (with_replica b c.site (after_take ws r)) = subst (λ z. c.site < z) (sym (length-set b.replicas c.site (after_take ws r))) hs in
      record {
        states = g.states;
        inv = inv-settled k back opening g.states _ _ (taken lt n e) c.site hs';
        tidy = tidy-settled k back opening g.states _ _ (taken lt n e) c.site hs' (loose-replica b c.site (after_take ws r) (omega arith) hs g.tidy);
      }

  pub deliver-on : Kept k back opening h delivers c (deliver_on k b c.site)
  unfolding deliver_on
  deliver-on =
      cond_both (ltb (site_version b c.site) (head_of b.ledger)) _ _ (Kept k back opening h delivers c)
      (λ q. deliver-by (ltb-true (site_version b c.site) (head_of b.ledger) q) _ refl)
      (λ _. still k back opening b h g)

pub kept-delivers : {V : Type 0} (k : Coding V) (back : Faithful k) (opening : List V) (b : BookModel) (h : History V) (g : Good k back opening b (view h)) (c : Call V)
    → Kept k back opening h delivers c (deliver_call k b c.site)
unfolding deliver_call
kept-delivers k back opening b h g c =
    at-site k (Kept k back opening h delivers c) b c.site _ (still k back opening b h g) (λ hs. deliver-on k back opening b h g c hs)
