-- The calls that look at no slot, by what the parts of the book answer and leave.
use Rattle.std.proofs.Common.{◌≡◌, ℕ, ◌+◌, ◌<◌, ◌≤◌, ltb, List, [], map, length, get_or, drop, set, is_ok, Some, None, Ok, Err, Option, Result, sym, ap, ◌∙◌}
use Rattle.std.proofs.lemmas.List.{at_drop_more, at_drop_all, set-get_or}
use Rattle.std.proofs.lemmas.Bool.{cond-true, cond-false, lt-ltb, le-ltb}
use Rattle.entries.specs.declared.writes.Write.{Write}
use Rattle.entries.specs.Codings.{Coding}
use Rattle.replicas.specs.declared.replica.Refusal.{Refusal}
use Rattle.replicas.specs.declared.replica.Refusal.TheVariants.{NoSuchSite as NoReplica}
use Rattle.replicas.specs.Model.{ReplicaModel, version_of, used_of, take_answer, after_take}
use Rattle.banks.specs.Sites.{no_replica, replica_at, at_site as asked, changed_at}
use Rattle.ledgers.specs.Model.{LedgerModel, head_of, fetched, trimmed}
use Rattle.law.specs.declared.calls.Answer.{Answer}
use Rattle.law.specs.declared.codes.Code.TheVariants.{Accepted, NothingToDeliver, ReplicaFull, AboveHead, SiteBehind}
use Rattle.law.specs.Slots.{SlotModel, restarted, open_count}
use Rattle.law.specs.Books.{BookModel, site_count, site_version, replica_of, with_ledger, with_row, settled}
use Rattle.law.specs.Calls.{Outcome, plain, behind, at_site, deliver_by, deliver_on, trim_by, deliver_call, trim_call, restart_call}
use Rattle.book.specs.Books.{outcome}
use Rattle.book.proofs.Rows.{book, row_seen, row_moved, replica-moved}
use Rattle.book.proofs.Calls.{same_outcome}

-- what a bank answers of a site that there is
pub asked-there : {X : Type 0} (rs : List ReplicaModel) (s : ℕ) (f : ReplicaModel → X) (x none : X) → s < length rs → x ≡ asked rs s f none → x ≡ f (replica_at rs s)
asked-there rs s f x none h e = e ∙ cond-true (ltb s (length rs)) _ _ (lt-ltb s (length rs) h)

-- a refused set leaves the replicas
refused-stay : (rs : List ReplicaModel) (s : ℕ) (ws : List Write) (x : Refusal) → Err x ≡ take_answer (replica_at rs s) ws → changed_at rs s (after_take ws) ≡ rs
refused-stay rs s ws x e =
    ap (set rs s) (cond-false (is_ok (take_answer (replica_at rs s) ws)) _ _ (ap is_ok (sym e))) ∙ set-get_or rs s no_replica

-- the lowest site behind a version, where the sites below this one are not
module _ (rs : List ReplicaModel) (to s : ℕ) (so_far : behind to s (drop s rs) ≡ behind to 0 rs) where
  pub behind-here : s < length rs → version_of (replica_at rs s) < to → Some s ≡ behind to 0 rs
  behind-here h low =
      sym (cond-true (ltb (version_of (replica_at rs s)) to) _ _ (lt-ltb _ to low)) ∙ sym (at_drop_more (behind to s) rs s no_replica h) ∙ so_far

  pub behind-on : s < length rs → to ≤ version_of (replica_at rs s) → behind to (s + 1) (drop (s + 1) rs) ≡ behind to 0 rs
  behind-on h high =
      sym (cond-false (ltb (version_of (replica_at rs s)) to) _ _ (le-ltb _ to high)) ∙ sym (at_drop_more (behind to s) rs s no_replica h) ∙ so_far

  pub behind-none : length rs ≤ s → None ≡ behind to 0 rs
  behind-none h = sym (at_drop_all (behind to s) rs s h) ∙ so_far

-- a delivery where the site has every version
pub deliver-none : {V : Type 0} (k : Coding V) (b : BookModel) (site v : ℕ) → (site < site_count b) × (v ≡ site_version b site) → head_of b.ledger ≤ v
    → outcome b (plain k NothingToDeliver v) ≡ deliver_call k b site
unfolding deliver_call deliver_on at_site
deliver-none k b site v there h =
    ap (λ z. outcome b (plain k NothingToDeliver z)) there.1
    ∙ sym (cond-false (ltb (site_version b site) (head_of b.ledger)) _ _ (ap (λ z. ltb z (head_of b.ledger)) (sym there.1) ∙ le-ltb v (head_of b.ledger) h))
    ∙ sym (cond-true (ltb site (site_count b)) _ _ (lt-ltb site (site_count b) there.0))

module _ {V : Type 0} (k : Coding V) (l : LedgerModel) (rs : List ReplicaModel) (rows : List (List SlotModel)) (a : ℕ) where
  abbrev b : BookModel
  b = book l rs rows a

  module _ (s : ℕ) where
    -- at a site that there is, a call is what it does there
    here : (o : Outcome V) → s < length rs → o ≡ at_site k b s o
    unfolding at_site
    here o h = sym (cond-true (ltb s (length rs)) _ _ (lt-ltb s (length rs) h))

    pub restart-told : (rows' : List (List SlotModel)) (b' : BookModel) (n : ℕ) (r : Answer V) → s < length rs
        → rows' ≡ set rows s (map restarted (get_or rows s [])) → n ≡ open_count (get_or rows s []) → b' ≡ settled (book l rs rows' a) s → r ≡ plain k Accepted n
        → outcome b' r ≡ restart_call k b s
    unfolding restart_call
    restart-told rows' b' n r h moved lost eb e =
        let row = sym (row_seen l rs rows a s h) in
        same_outcome b' _ r _
        (eb ∙ ap (λ z. settled z s) (ap (λ z. book l rs z a) moved ∙ row_moved l rs rows a s _ ∙ ap (λ z. with_row b s (map restarted z)) row))
        (e ∙ ap (plain k Accepted) (lost ∙ ap open_count row))
        ∙ here _ h

    module _ (v : ℕ) (there : (s < length rs) × (v ≡ site_version b s)) where
      -- the set of the next version comes to the replica
      module _ (ws : List Write) (rs' : List ReplicaModel) (below : v < head_of l) (set_is : ws ≡ fetched l (v + 1)) (moved : rs' ≡ changed_at rs s (after_take ws)) where
        -- the answer of the replica decides
        decided : (x : Result ℕ Refusal) → x ≡ asked rs s (λ m. take_answer m ws) (Err NoReplica) → deliver_by k b s ws x ≡ deliver_call k b s
        unfolding deliver_call deliver_on
        decided x e =
            let is : ws ≡ fetched l (site_version b s + 1) = set_is ∙ ap (λ z. fetched l (z + 1)) there.1 in
            ap (deliver_by k b s ws) (asked-there rs s (λ m. take_answer m ws) x (Err NoReplica) there.0 e)
            ∙ ap (λ z. deliver_by k b s z (take_answer (replica_of b s) z)) is
            ∙ sym (cond-true (ltb (site_version b s) (head_of l)) _ _ (ap (λ z. ltb z (head_of l)) (sym there.1) ∙ lt-ltb v (head_of l) below))
            ∙ here _ there.0

        pub delivered : (n : ℕ) (b' : BookModel) (r : Answer V) → Ok n ≡ asked rs s (λ m. take_answer m ws) (Err NoReplica)
            → b' ≡ settled (book l rs' rows a) s → r ≡ plain k Accepted n → outcome b' r ≡ deliver_call k b s
        unfolding deliver_by
        delivered n b' r en eb e =
            same_outcome b' _ r _ (eb ∙ ap (λ z. settled z s) (replica-moved l rs rows a s rs' (after_take ws (replica_at rs s)) moved)) e ∙ decided (Ok n) en

        pub deliver-refused : (x : Refusal) (u : ℕ) → Err x ≡ asked rs s (λ m. take_answer m ws) (Err NoReplica)
            → u ≡ used_of (replica_at rs' s) → outcome (book l rs' rows a) (plain k ReplicaFull u) ≡ deliver_call k b s
        unfolding deliver_by
        deliver-refused x u ex eu =
            let same = moved ∙ refused-stay rs s ws x (asked-there rs s (λ m. take_answer m ws) (Err x) (Err NoReplica) there.0 ex) in
            same_outcome (book l rs' rows a) b _ _ (ap (λ z. book l z rows a) same)
            (ap (plain k ReplicaFull) (eu ∙ ap (λ z. used_of (replica_at z s)) same))
            ∙ decided (Err x) ex

-- a trim, by the head and by the sites
module _ {V : Type 0} (k : Coding V) (b : BookModel) (to : ℕ) where
  pub trim-above : (h : ℕ) → h ≡ head_of b.ledger → h < to → outcome b (plain k AboveHead h) ≡ trim_call k b to
  unfolding trim_call
  trim-above h eh above =
      ap (λ z. outcome b (plain k AboveHead z)) eh ∙ sym (cond-true (ltb (head_of b.ledger) to) _ _ (ap (λ z. ltb z to) (sym eh) ∙ lt-ltb h to above))

  -- the lowest site behind decides
  trim-by : (x : Option ℕ) → to ≤ head_of b.ledger → x ≡ behind to 0 b.replicas → trim_by k b to x ≡ trim_call k b to
  unfolding trim_call
  trim-by x h e = ap (trim_by k b to) e ∙ sym (cond-false (ltb (head_of b.ledger) to) _ _ (le-ltb (head_of b.ledger) to h))

  pub trim-behind : (site : ℕ) → to ≤ head_of b.ledger → Some site ≡ behind to 0 b.replicas → outcome b (plain k SiteBehind site) ≡ trim_call k b to
  unfolding trim_by
  trim-behind site h e = trim-by (Some site) h e

  pub trim-told : (l' : LedgerModel) (f : ℕ) → to ≤ head_of b.ledger → None ≡ behind to 0 b.replicas → l' ≡ trimmed to b.ledger → f ≡ l'.floor
      → outcome (with_ledger b l') (plain k Accepted f) ≡ trim_call k b to
  unfolding trim_by
  trim-told l' f h e el ef =
      ap (λ z. outcome (with_ledger b l') (plain k Accepted z)) ef ∙ ap (λ (z : LedgerModel). outcome (with_ledger b z) (plain k Accepted z.floor)) el ∙ trim-by None h e
