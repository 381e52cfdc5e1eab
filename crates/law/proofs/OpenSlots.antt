-- The slots of a book beside the transactions that a history shows open.
use Rattle.std.proofs.Common.{◌≡◌, ℕ, ◌<◌, ◌≤◌, Bool, cond, ◌&&◌, eqb, ◌≢◌, List, [], length, get_or, set, Some, None, Option, sym, refl, ap, ◌∙◌, subst, subst₂, ⊎_elim, arith}
use Rattle.std.proofs.lemmas.List.{length-set, get_or-set_same, get_or-set_other, get_or_past}
use Rattle.std.proofs.lemmas.Bool.{cond-true, cond-false, cases_eq, cases_lt, eq-eqb, ne_eqb, and_from, and_left, and_right}
use Rattle.entries.specs.declared.writes.Write.{Write}
use Rattle.entries.specs.Codings.{Coding, Faithful}
use Rattle.replicas.specs.Model.{ReplicaModel, version_of}
use Rattle.banks.specs.Sites.{replica_at, no_replica}
use Rattle.law.specs.Slots.{SlotModel, slot_count}
use Rattle.law.specs.Slots.SlotModel.{idle, opened, filed}
use Rattle.law.specs.History.{Transaction}
use Rattle.law.proofs.Tracking.{Tracks}
use Rattle.law.proofs.States.{SameTo}
use Rattle.law.proofs.Horizons.{Between}

module _ {V : Type 0} where
  -- a slot is open exactly where a transaction is, and then A holds of the two
  abbrev pub Matches : (ℕ → List Write → List Bool → Transaction V → Type 0) → SlotModel → Option (Transaction V) → Type 0
  Matches A idle None = Unit {0}
  Matches A idle (Some t) = ⊥
  Matches A (opened s ws items) None = ⊥
  Matches A (opened s ws items) (Some t) = A s ws items t
  Matches A (filed n) None = Unit {0}
  Matches A (filed n) (Some t) = ⊥

  pub matches-each : (A B : ℕ → List Write → List Bool → Transaction V → Type 0) (x : SlotModel) (o : Option (Transaction V))
      → ((s : ℕ) (ws : List Write) (items : List Bool) (t : Transaction V) → x ≡ opened s ws items → A s ws items t → B s ws items t)
      → Matches A x o → Matches B x o
  matches-each A B idle None f h = tt
  matches-each A B idle (Some t) f h = h
  matches-each A B (opened s ws items) None f h = h
  matches-each A B (opened s ws items) (Some t) f h = f s ws items t refl h
  matches-each A B (filed n) None f h = tt
  matches-each A B (filed n) (Some t) f h = h

  -- what every open slot has
  pub matches-open : (A : ℕ → List Write → List Bool → Transaction V → Type 0) (P : ℕ → Type 0) (x : SlotModel) (o : Option (Transaction V))
      → ((s : ℕ) (ws : List Write) (items : List Bool) (t : Transaction V) → A s ws items t → P s)
      → Matches A x o → (s : ℕ) (ws : List Write) (items : List Bool) → x ≡ opened s ws items → P s
  matches-open A P idle o f h s ws items e = let z : ◌≡◌ {A = ℕ} 0 1 = cc in absurd (omega arith)
  matches-open A P (filed n) o f h s ws items e = let z : ◌≡◌ {A = ℕ} 0 1 = cc in absurd (omega arith)
  matches-open A P (opened t us is) None f h s ws items e = absurd h
  matches-open A P (opened t us is) (Some d) f h s ws items e = let q : t ≡ s = cc in subst P q (f t us is d h)

-- one slot of one site is changed
pub here-same : {X : Type 0} (a b : ℕ) (x y : X) → cond (eqb a a && eqb b b) x y ≡ x
here-same a b x y = cond-true (eqb a a && eqb b b) x y (and_from (eqb a a) (eqb b b) (eq-eqb a a refl) (eq-eqb b b refl))

pub here-site : {X : Type 0} (a b s j : ℕ) (x y : X) → s ≢ a → cond (eqb a s && eqb b j) x y ≡ y
here-site a b s j x y e = cond-false (eqb a s && eqb b j) x y (and_left (eqb a s) (eqb b j) (ne_eqb a s (λ q. e (sym q))))

pub here-slot : {X : Type 0} (a b s j : ℕ) (x y : X) → j ≢ b → cond (eqb a s && eqb b j) x y ≡ y
here-slot a b s j x y e = cond-false (eqb a s && eqb b j) x y (and_right (eqb a s) (eqb b j) (ne_eqb b j (λ q. e (sym q))))

module _ {V : Type 0} (k : Coding V) (back : Faithful k) (m : ℕ) where
  -- an open slot at a replica, and its transaction
  pub record OpenSlot (S : ℕ → List V) (r : ReplicaModel) (s : ℕ) (ws : List Write) (items : List Bool) (t : Transaction V) : Type 0 where
    pub snapshot : t.snapshot ≡ s
    pub kept : r.base ≤ s
    pub known : s ≤ version_of r
    pub tracks : Tracks k back m (S s) ws items t.operations

  -- the slots of all sites
  pub record OpenSlots (S : ℕ → List V) (rs : List ReplicaModel) (slots : List (List SlotModel)) (opens : ℕ → ℕ → Option (Transaction V)) : Type 0 where
    -- each site has a row of slots
    pub sites : length slots ≡ length rs
    pub rows : (s : ℕ) → s < length rs → length (get_or slots s []) ≡ slot_count
    -- the open slots are those with an open transaction
    pub matches : (s j : ℕ) → s < length rs → j < slot_count → Matches (OpenSlot S (replica_at rs s)) (get_or (get_or slots s []) j idle) (opens s j)
    -- no transaction is open anywhere else
    pub outside : (s j : ℕ) → (s < length rs → j < slot_count → ⊥) → opens s j ≡ None

  module _ (S : ℕ → List V) (rs : List ReplicaModel) (slots : List (List SlotModel)) (opens : ℕ → ℕ → Option (Transaction V)) (i : OpenSlots S rs slots opens) where
    -- a snapshot of an open slot lies between the base and the version of its replica
    pub open-between : (s : ℕ) → s < length rs → Between (replica_at rs s).base (version_of (replica_at rs s)) (get_or slots s [])
    open-between s hs j x ws items e =
        let rl = i.rows s hs in
        ⊎_elim
        (λ (hj : j < slot_count).
        matches-open (OpenSlot S (replica_at rs s)) (λ y. ((replica_at rs s).base ≤ y) × (y ≤ version_of (replica_at rs s))) _ (opens s j)
        (λ y us is t o. (o.kept, o.known)) (i.matches s j hs hj) x ws items e)
        (λ (hj : slot_count ≤ j).
        let past = get_or_past (get_or slots s []) j idle (omega arith) in
        let z : ◌≡◌ {A = ℕ} 0 1 = cc in absurd (omega arith))
        (cases_lt j slot_count)

    -- the slots of a site change
    pub slots-row : (s : ℕ) (xs : List SlotModel) (opens' : ℕ → ℕ → Option (Transaction V)) → s < length rs → length xs ≡ slot_count
        → ((j : ℕ) → j < slot_count → Matches (OpenSlot S (replica_at rs s)) (get_or xs j idle) (opens' s j))
        → ((s' j : ℕ) → s' ≢ s → opens' s' j ≡ opens s' j) → ((j : ℕ) → (j < slot_count → ⊥) → opens' s j ≡ None) → OpenSlots S rs (set slots s xs) opens'
    slots-row s xs opens' hs l here there past =
        let si = i.sites in
        let sl : s < length slots = omega arith in
        record {
          sites = length-set slots s xs ∙ i.sites;
          rows =
              λ s' h.
              ⊎_elim
              (λ (e : s' ≡ s). ap (λ z. length (get_or (set slots s xs) z [])) e ∙ ap length (get_or-set_same slots s xs [] sl) ∙ l)
              (λ (e : s' ≢ s). ap length (get_or-set_other slots s s' xs [] e) ∙ i.rows s' h)
              (cases_eq s' s);
          matches =
              λ s' j hs' hj.
              ⊎_elim
              (λ (e : s' ≡ s).
              subst (λ z. Matches (OpenSlot S (replica_at rs z)) (get_or (get_or (set slots s xs) z []) j idle) (opens' z j)) (sym e)
              (subst (λ z. Matches (OpenSlot S (replica_at rs s)) (get_or z j idle) (opens' s j)) (sym (get_or-set_same slots s xs [] sl)) (here j hj)))
              (λ (e : s' ≢ s).
              subst₂ (λ y z. Matches (OpenSlot S (replica_at rs s')) (get_or y j idle) z) (sym (get_or-set_other slots s s' xs [] e)) (sym (there s' j e)) (i.matches s' j hs' hj))
              (cases_eq s' s);
          outside =
              λ s' j h.
              ⊎_elim (λ (e : s' ≡ s). ap (λ z. opens' z j) e ∙ past j (λ q. h (subst (λ z. z < length rs) (sym e) hs) q))
              (λ (e : s' ≢ s). there s' j e ∙ i.outside s' j h) (cases_eq s' s);
        }

    -- one slot changes, and the transaction there
    pub slots-slot : (s j : ℕ) (x : SlotModel) (o : Option (Transaction V)) → s < length rs → j < slot_count
        → Matches (OpenSlot S (replica_at rs s)) x o
        → OpenSlots S rs (set slots s (set (get_or slots s []) j x)) (λ s' j'. cond (eqb s s' && eqb j j') o (opens s' j'))
    slots-slot s j x o hs hj h =
        let row : List SlotModel = get_or slots s [] in
        let rl = i.rows s hs in
        slots-row s (set row j x) _ hs (length-set row j x ∙ rl)
        (λ j' hj'.
        ⊎_elim
        (λ (e : j' ≡ j).
        subst (λ z. Matches (OpenSlot S (replica_at rs s)) (get_or (set row j x) z idle) (cond (eqb s s && eqb j z) o (opens s z))) (sym e)
        (subst₂ (Matches (OpenSlot S (replica_at rs s))) (sym (get_or-set_same row j x idle (omega arith))) (sym (here-same s j o (opens s j))) h))
        (λ (e : j' ≢ j).
        subst₂ (Matches (OpenSlot S (replica_at rs s))) (sym (get_or-set_other row j j' x idle e)) (sym (here-slot s j s j' o (opens s j') e)) (i.matches s j' hs hj'))
        (cases_eq j' j))
        (λ s' j' e. here-site s j s' j' o (opens s' j') e)
        (λ j' n. here-slot s j s j' o (opens s j') (λ e. n (subst (λ z. z < slot_count) (sym e) hj)) ∙ i.outside s j' (λ _ q. n q))

    -- a slot changes where no transaction was or is open
    pub slots-closed : (s j : ℕ) (x : SlotModel) → s < length rs → j < slot_count → Matches (OpenSlot S (replica_at rs s)) x (opens s j)
        → OpenSlots S rs (set slots s (set (get_or slots s []) j x)) opens
    slots-closed s j x hs hj h =
        let row : List SlotModel = get_or slots s [] in
        let rl = i.rows s hs in
        slots-row s (set row j x) opens hs (length-set row j x ∙ rl)
        (λ j' hj'.
        ⊎_elim
        (λ (e : j' ≡ j).
        subst (λ z. Matches (OpenSlot S (replica_at rs s)) (get_or (set row j x) z idle) (opens s z)) (sym e)
        (subst (λ z. Matches (OpenSlot S (replica_at rs s)) z (opens s j)) (sym (get_or-set_same row j x idle (omega arith))) h))
        (λ (e : j' ≢ j).
        subst (λ z. Matches (OpenSlot S (replica_at rs s)) z (opens s j')) (sym (get_or-set_other row j j' x idle e)) (i.matches s j' hs hj'))
        (cases_eq j' j))
        (λ s' j' e. refl)
        (λ j' n. i.outside s j' (λ _ q. n q))

    -- the replica of a site changes: it has come no less far, and keeps every open snapshot
    pub slots-replica : (s : ℕ) (r : ReplicaModel) → version_of (replica_at rs s) ≤ version_of r
        → ((j x : ℕ) (ws : List Write) (items : List Bool) → s < length rs → get_or (get_or slots s []) j idle ≡ opened x ws items → (replica_at rs s).base ≤ x → r.base ≤ x)
        → OpenSlots S (set rs s r) slots opens
    slots-replica s r up low =
        let ls = length-set rs s r in
        record {
          sites = i.sites ∙ sym ls;
          rows = λ s' h. i.rows s' (subst (λ z. s' < z) ls h);
          matches =
              λ s' j h hj.
              let hs : s' < length rs = subst (λ z. s' < z) ls h in
              ⊎_elim
              (λ (e : s' ≡ s).
              let same : replica_at (set rs s r) s' ≡ r = ap (replica_at (set rs s r)) e ∙ get_or-set_same rs s r no_replica (subst (λ z. z < length rs) e hs) in
              let old : replica_at rs s' ≡ replica_at rs s = ap (replica_at rs) e in
              matches-each _ _ (get_or (get_or slots s' []) j idle) (opens s' j)
              (λ x ws items t q o.
              record {
                snapshot = o.snapshot;
                kept =
                    subst (λ (z : ReplicaModel). z.base ≤ x) (sym same)
                    (low j x ws items (subst (λ z. z < length rs) e hs) (ap (λ z. get_or (get_or slots z []) j idle) (sym e) ∙ q)
                    (subst (λ (z : ReplicaModel). z.base ≤ x) old o.kept));
                known =
                    subst (λ (z : ReplicaModel). x ≤ version_of z) (sym same)
                    (let kn = subst (λ (z : ReplicaModel). x ≤ version_of z) old o.known in omega arith);
                tracks = o.tracks;
              })
              (i.matches s' j hs hj))
              (λ (e : s' ≢ s).
              subst (λ z. Matches (OpenSlot S z) (get_or (get_or slots s' []) j idle) (opens s' j)) (sym (get_or-set_other rs s s' r no_replica e)) (i.matches s' j hs hj))
              (cases_eq s' s);
          outside = λ s' j h. i.outside s' j (λ a b. h (subst (λ z. s' < z) (sym ls) a) b);
        }

    -- the states are others past what the replicas have
    pub slots-states : (S' : ℕ → List V) (h : ℕ) → SameTo k m h S S' → ((s : ℕ) → s < length rs → version_of (replica_at rs s) ≤ h) → OpenSlots S' rs slots opens
    slots-states S' h f top =
        record {
          sites = i.sites;
          rows = i.rows;
          matches =
              λ s j hs hj.
              matches-each _ _ (get_or (get_or slots s []) j idle) (opens s j)
              (λ x ws items t e o.
              let tp = top s hs in
              let kn = o.known in
              record {
                snapshot = o.snapshot;
                kept = o.kept;
                known = o.known;
                tracks = subst (λ z. Tracks k back m z ws items t.operations) (f x (omega arith)) o.tracks;
              })
              (i.matches s j hs hj);
          outside = i.outside;
        }
