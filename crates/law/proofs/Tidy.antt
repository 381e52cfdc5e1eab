-- What else holds between any two calls: each base is its site's horizon, and the ledger has what the sites need.
use Rattle.std.proofs.Common.{◌≡◌, ℕ, ◌+◌, ◌<◌, ◌≤◌, true, false, eqb, ltb, leb, ◌≢◌, List, [], ◌∷◌, length, get_or, set, is_ok, Some, None, Ok, sym, refl, ap, ◌∙◌, subst, ⊎_elim, arith}
use Rattle.std.specs.List.{AllByRecursion}
use Rattle.std.proofs.lemmas.List.{length-set, get_or-set_same, get_or-set_other}
use Rattle.std.proofs.ByRecursion.{All-get_or}
use Rattle.std.proofs.lemmas.Bool.{cond_both, cond-true, cond-false, cases_eq, cases_lt, le-leb, lt-leb, lt-ltb, le-ltb, ltb-false, ne_eqb, and_from, or_from}
use Rattle.entries.specs.declared.writes.Write.{Write}
use Rattle.entries.specs.Codings.{Coding, Faithful}
use Rattle.replicas.specs.Overlay.{names_beyond}
use Rattle.replicas.specs.Model.{ReplicaModel, version_of, used_of, items_of, keeps, admission, after_forget, last_version}
use Rattle.banks.specs.Sites.{no_replica}
use Rattle.ledgers.specs.Model.{LedgerModel, head_of, add_answer, after_add, fetched, trimmed}
use Rattle.ledgers.proofs.Fetches.{add-keeps-sets, trim-keeps-sets}
use Rattle.law.specs.Slots.{SlotModel, horizon}
use Rattle.law.specs.Books.{BookModel, site_count, replica_of, site_version, row_at, slot_at, horizon_at, with_ledger, with_replica, with_row, with_slot, counted, settled}
use Rattle.law.specs.Calls.{behind}
use Rattle.law.specs.Steady.{Steady}
use Rattle.law.proofs.Overlay.{Within}
use Rattle.law.proofs.States.{forgotten-version, forgotten-base}
use Rattle.law.proofs.Horizons.{held, Between, horizon-between, horizon-set}
use Rattle.law.proofs.OpenSlots.{open-between}
use Rattle.law.proofs.Invariant.{View, Inv, least_at, sites-set}

-- the ledger gives no number past the last, and none of its sets is empty
pub record Numbered (l : LedgerModel) : Type 0 where
  pub few : head_of l ≤ last_version
  pub full : (v : ℕ) → l.floor < v → v ≤ head_of l → 0 < length (fetched l v)

pub record Tidy (b : BookModel) : Type 0 where
  pub bases : (s : ℕ) → s < site_count b → (replica_of b s).base ≡ horizon_at b s
  pub floors : (s : ℕ) → s < site_count b → b.ledger.floor ≤ site_version b s
  pub numbered : Numbered b.ledger

-- a book about to be settled at a site
pub record Loose (s : ℕ) (b : BookModel) : Type 0 where
  pub bases : (s' : ℕ) → s' < site_count b → s' ≢ s → (replica_of b s').base ≡ horizon_at b s'
  pub floors : (s : ℕ) → s < site_count b → b.ledger.floor ≤ site_version b s
  pub numbered : Numbered b.ledger

pub tidy-counted : (b : BookModel) → Tidy b → Tidy (counted b)
tidy-counted b y = record { bases = y.bases; floors = y.floors; numbered = y.numbered }

-- the slots of a site change
pub loose-row : (b : BookModel) (s : ℕ) (row : List SlotModel) → Tidy b → Loose s (with_row b s row)
loose-row b s row y =
    record {
      bases = λ s' h q. y.bases s' h ∙ ap (λ z. horizon z (site_version b s')) (sym (get_or-set_other b.slots s s' row [] q));
      floors = y.floors;
      numbered = y.numbered;
    }

-- the replica of a site comes further
pub loose-replica : (b : BookModel) (s : ℕ) (r : ReplicaModel) → site_version b s ≤ version_of r → s < site_count b → Tidy b → Loose s (with_replica b s r)
loose-replica b s r l hs y =
    record {
      bases =
          λ s' h q.
          subst (λ (z : ReplicaModel). z.base ≡ horizon (row_at b s') (version_of z)) (sym (get_or-set_other b.replicas s s' r no_replica q))
          (y.bases s' (subst (λ z. s' < z) (length-set b.replicas s r) h));
      floors = sites-set (λ z. b.ledger.floor ≤ version_of z) b.replicas s r (let f = y.floors s hs in omega arith) y.floors;
      numbered = y.numbered;
    }

-- one more set in the ledger
numbered-add : (l : LedgerModel) (w : Write) (ws : List Write) (n : ℕ) → add_answer l (w ∷ ws) ≡ Ok n → head_of l < last_version → Numbered l → Numbered (after_add (w ∷ ws) l)
numbered-add l w ws n ok room y =
    let a = add-keeps-sets l (w ∷ ws) n ok in
    let a0 = a.0 in
    let a1 = a.1 in
    let fl : (after_add (w ∷ ws) l).floor ≡ l.floor = ap (λ (z : LedgerModel). z.floor) (cond-true (is_ok (add_answer l (w ∷ ws))) _ l (ap is_ok ok)) in
    record {
      few = omega arith;
      full =
          λ v lo hi.
          ⊎_elim (λ (e : v ≡ n). subst (λ z. 0 < length z) (sym (ap (fetched (after_add (w ∷ ws) l)) e ∙ a.2)) (omega arith))
          (λ (e : v ≢ n). subst (λ z. 0 < length z) (sym (a.3 v (omega arith))) (y.full v (omega arith) (omega arith)))
          (cases_eq v n);
    }

pub loose-add : (b : BookModel) (s : ℕ) (w : Write) (ws : List Write) (n : ℕ) → add_answer b.ledger (w ∷ ws) ≡ Ok n → head_of b.ledger < last_version
    → Loose s b → Loose s (with_ledger b (after_add (w ∷ ws) b.ledger))
loose-add b s w ws n ok room y =
    let fl : (after_add (w ∷ ws) b.ledger).floor ≡ b.ledger.floor =
    ap (λ (z : LedgerModel). z.floor) (cond-true (is_ok (add_answer b.ledger (w ∷ ws))) _ b.ledger (ap is_ok ok)) in
    record {
      bases = y.bases;
      floors = λ s' h. subst (λ z. z ≤ site_version b s') (sym fl) (y.floors s' h);
      numbered = numbered-add b.ledger w ws n ok room y.numbered;
    }

-- no site is behind the version
none-behind : (v site : ℕ) (rs : List ReplicaModel) → behind v site rs ≡ None → AllByRecursion (λ (r : ReplicaModel). v ≤ version_of r) rs
none-behind v site [] = λ e. tt
none-behind v site (r ∷ rs) =
    cond_both (ltb (version_of r) v) (Some site) (behind v (site + 1) rs) (λ z. z ≡ None → AllByRecursion (λ (r : ReplicaModel). v ≤ version_of r) (r ∷ rs))
    (λ q e. let z : ◌≡◌ {A = ℕ} 0 1 = cc in absurd (omega arith))
    (λ q e. (ltb-false (version_of r) v q, none-behind v (site + 1) rs e))

-- the ledger is trimmed to a version that every site has
pub tidy-trim : (b : BookModel) (to : ℕ) → to ≤ head_of b.ledger → behind to 0 b.replicas ≡ None → Tidy b → Tidy (with_ledger b (trimmed to b.ledger))
tidy-trim b to top e y =
    let t = trim-keeps-sets b.ledger to in
    let t0 = t.0 in
    let t2 = t.2 in
    let fe = y.numbered.few in
    record {
      bases = y.bases;
      floors =
          λ s h.
          let a = All-get_or (λ (r : ReplicaModel). to ≤ version_of r) b.replicas s no_replica h (none-behind to 0 b.replicas e) in
          let f = y.floors s h in
          omega arith;
      numbered =
          record {
            few = omega arith;
            full = λ v lo hi. subst (λ z. 0 < length z) (sym (t.3 v lo)) (y.numbered.full v (omega arith) (omega arith));
          };
    }

-- a set that is no empty one, names no item past the replica and comes before the last version is refused for want of room alone
admitted : (used version capacity items : ℕ) (ws : List Write) → 0 < length ws → names_beyond items ws ≡ false → version < last_version
    → is_ok (admission used version capacity items ws) ≡ leb (used + length ws) capacity
admitted used version capacity items ws some past early =
    ap is_ok (cond-false (eqb (length ws) 0) _ _ (ne_eqb (length ws) 0 (λ e. omega arith)) ∙ cond-false (names_beyond items ws) _ _ past)
    ∙ ⊎_elim
    (λ (q : capacity < used + length ws).
    ap is_ok (cond-true (ltb capacity (used + length ws)) _ _ (lt-ltb capacity (used + length ws) q)) ∙ sym (lt-leb (used + length ws) capacity q))
    (λ (q : used + length ws ≤ capacity).
    ap is_ok
    (cond-false (ltb capacity (used + length ws)) _ _ (le-ltb capacity (used + length ws) q)
    ∙ cond-false (leb last_version version) _ _ (lt-leb last_version version early))
    ∙ sym (le-leb (used + length ws) capacity q))
    (cases_lt capacity (used + length ws))

module _ {V : Type 0} (k : Coding V) (back : Faithful k) (opening : List V) (S : ℕ → List V) (b : BookModel) (v : View V) (i : Inv k back opening S b v) where
  -- an open snapshot is not above the version of its site
  open-below : (s : ℕ) → s < site_count b → Between 0 (site_version b s) (row_at b s)
  open-below s hs j x ws items e =
      (omega arith, (open-between k back (length opening) S b.replicas b.slots v.opens i.slots s hs j x ws items e).1)

  -- a slot changes to one that holds back the same
  pub tidy-slot : Tidy b → (s j : ℕ) (x : SlotModel) → s < site_count b → held (site_version b s) x ≡ held (site_version b s) (slot_at b s j)
      → Between 0 (site_version b s) (set (row_at b s) j x) → Tidy (with_slot b s j x)
  tidy-slot y s j x hs e below =
      let si = i.slots.sites in
      let row : List SlotModel = set (row_at b s) j x in
      record {
        bases =
            λ s' h.
            ⊎_elim
            (λ (q : s' ≡ s).
            subst (λ z. (replica_of b z).base ≡ horizon (get_or (set b.slots s row) z []) (site_version b z)) (sym q)
            (y.bases s hs ∙ sym (horizon-set (row_at b s) j x (site_version b s) (open-below s hs) below e)
            ∙ ap (λ z. horizon z (site_version b s)) (sym (get_or-set_same b.slots s row [] (omega arith)))))
            (λ (q : s' ≢ s). y.bases s' h ∙ ap (λ z. horizon z (site_version b s')) (sym (get_or-set_other b.slots s s' row [] q)))
            (cases_eq s' s);
        floors = y.floors;
        numbered = y.numbered;
      }

  -- the horizon of a site lies between base and version
  pub horizon-kept : (s : ℕ) → s < site_count b → ((replica_of b s).base ≤ horizon_at b s) × (horizon_at b s ≤ site_version b s)
  horizon-kept s hs =
      horizon-between (replica_of b s).base (site_version b s) (row_at b s) (omega arith)
      (open-between k back (length opening) S b.replicas b.slots v.opens i.slots s hs)

  -- settling makes the horizon the base
  pub tidy-settled : (s : ℕ) → s < site_count b → Loose s b → Tidy (settled b s)
  tidy-settled s hs y =
      let r : ReplicaModel = replica_of b s in
      let to : ℕ = horizon_at b s in
      let h = horizon-kept s hs in
      let ok : keeps r to ≡ true = and_from (leb r.base to) (leb to (version_of r)) (le-leb r.base to h.0) (le-leb to (version_of r) h.1) in
      let ve = forgotten-version k (length opening) r to in
      let same : replica_of (settled b s) s ≡ after_forget to r = get_or-set_same b.replicas s (after_forget to r) no_replica hs in
      record {
        bases =
            λ s' hs'.
            ⊎_elim
            (λ (q : s' ≡ s).
            subst (λ z. (replica_of (settled b s) z).base ≡ horizon (row_at b z) (version_of (replica_of (settled b s) z))) (sym q)
            (subst (λ (z : ReplicaModel). z.base ≡ horizon (row_at b s) (version_of z)) (sym same)
            (forgotten-base k (length opening) r to ok ∙ ap (horizon (row_at b s)) (sym ve))))
            (λ (q : s' ≢ s).
            subst (λ (z : ReplicaModel). z.base ≡ horizon (row_at b s') (version_of z)) (sym (get_or-set_other b.replicas s s' (after_forget to r) no_replica q))
            (y.bases s' (subst (λ z. s' < z) (length-set b.replicas s (after_forget to r)) hs') q))
            (cases_eq s' s);
        floors =
            sites-set (λ z. b.ledger.floor ≤ version_of z) b.replicas s (after_forget to r) (let f = y.floors s hs in omega arith) y.floors;
        numbered = y.numbered;
      }

  within-past : (q : ℕ) (ws : List Write) → length opening ≤ q → Within (length opening) ws → names_beyond q ws ≡ false
  within-past q [] l h = refl
  within-past q (x ∷ ws) l h = let a = h.0 in or_from (leb q x.item) (names_beyond q ws) (lt-leb q x.item (omega arith)) (within-past q ws l h.1)

  -- between two calls a book is steady
  pub steady : Tidy b → Steady b
  steady y =
      record {
        bases = y.bases;
        snapshots =
            λ s j x ws items hs e.
            let o = open-between k back (length opening) S b.replicas b.slots v.opens i.slots s hs j x ws items e in
            let r : ReplicaModel = replica_of b s in
            and_from (leb r.base x) (leb x (version_of r)) (le-leb r.base x o.0) (le-leb x (version_of r) o.1);
        horizons = λ s hs. (horizon-kept s hs).1;
        floors = y.floors;
        heads = i.states.reached;
        room =
            λ s hs lt.
            let fl = y.floors s hs in
            let fe = y.numbered.few in
            let it = i.states.items in
            let size = least_at b.replicas s hs in
            let lays = i.states.leads (site_version b s) fl lt in
            let r : ReplicaModel = replica_of b s in
            admitted (used_of r) (version_of r) r.capacity (items_of r) (fetched b.ledger (site_version b s + 1))
            (y.numbered.full (site_version b s + 1) (omega arith) (omega arith))
            (within-past (items_of r) _ (omega arith) lays.within) (omega arith);
      }
