-- The states of the serial book by version: the ledger's sets lead from one to the next, and a replica shows those from its
-- base to its version.
use Rattle.std.proofs.Common.{◌≡◌, ℕ, zero, suc, ◌+◌, ◌-◌, ◌<◌, ◌≤◌, Bool, true, false, leb, List, ◌++◌, map, length, get_or, take, replicate, is_ok, Ok, unwrap_or, sym, refl, ap, ◌∙◌, subst, ⊎_elim, arith}
use Rattle.std.proofs.lemmas.List.{length-map, get_or-map, get_or_past}
use Rattle.std.proofs.lemmas.Bool.{cond-true, cond-false, cond_both, cases_lt, cases_Bool, and_parts, leb-true}
use Rattle.entries.specs.declared.writes.Write.{Write}
use Rattle.entries.specs.Codings.{Coding, Faithful}
use Rattle.entries.specs.Items.{has}
use Rattle.replicas.specs.Overlay.{over}
use Rattle.replicas.specs.Model.{ReplicaModel, version_of, items_of, contents_at, keeps, take_answer, after_take, after_forget}
use Rattle.replicas.proofs.History.{take-keeps-history, forget-keeps-history, over_word}
use Rattle.ledgers.specs.Model.{LedgerModel, head_of, meets, add_answer, after_add, fetched, trimmed}
use Rattle.ledgers.proofs.Fetches.{add-keeps-sets, trim-keeps-sets}
use Rattle.law.proofs.Overlay.{Within, length-overs, over-front}
use Rattle.law.proofs.Touching.{unmet-word}
use Rattle.law.proofs.Tracking.{same-by-word}

module _ {V : Type 0} (k : Coding V) (m : ℕ) where
  -- a write set leads from one state to another
  pub record Lays (p : List V) (ws : List Write) (q : List V) : Type 0 where
    pub words : map k.word q ≡ over (map k.word p) ws
    pub within : Within m ws

  -- every state has a value for each item
  abbrev pub Sound : (ℕ → List V) → Type 0
  Sound S = (v : ℕ) → length (S v) ≡ m

  -- the ledger's sets lead from each state to the next
  abbrev pub Leads : (ℕ → List V) → LedgerModel → Type 0
  Leads S l = (v : ℕ) → l.floor ≤ v → v < head_of l → Lays (S v) (fetched l (v + 1)) (S (v + 1))

  -- the states are the same up to h
  abbrev pub SameTo : ℕ → (ℕ → List V) → (ℕ → List V) → Type 0
  SameTo h S S' = (v : ℕ) → v ≤ h → S v ≡ S' v

  lays-same : (p q p' q' : List V) (ws : List Write) → p ≡ p' → q ≡ q' → Lays p ws q → Lays p' ws q'
  lays-same p q p' q' ws e f l =
      record { words = ap (map k.word) (sym f) ∙ l.words ∙ ap (λ z. over (map k.word z) ws) e; within = l.within }

  -- one more set, which leads to a new state
  pub leads-add : (S S' : ℕ → List V) (l : LedgerModel) (ws : List Write) (n : ℕ) → add_answer l ws ≡ Ok n → SameTo (head_of l) S S'
      → Lays (S (head_of l)) ws (S' (head_of l + 1)) → Leads S l → Leads S' (after_add ws l)
  leads-add S S' l ws n ok f new a v lo hi =
      let kept = add-keeps-sets l ws n ok in
      let fl : (after_add ws l).floor ≡ l.floor = ap (λ (z : LedgerModel). z.floor) (cond-true (is_ok (add_answer l ws)) _ l (ap is_ok ok)) in
      let k0 = kept.0 in
      let k1 = kept.1 in
      ⊎_elim
      (λ (b : v < head_of l).
      subst (λ z. Lays (S' v) z (S' (v + 1))) (sym (kept.3 (v + 1) (omega arith)))
      (lays-same (S v) (S (v + 1)) (S' v) (S' (v + 1)) _ (f v (omega arith)) (f (v + 1) (omega arith)) (a v (omega arith) b)))
      (λ (b : head_of l ≤ v).
      let e : head_of l ≡ v = omega arith in
      let e' : n ≡ v + 1 = omega arith in
      subst (λ z. Lays (S' v) z (S' (v + 1))) (sym (ap (fetched (after_add ws l)) (sym e') ∙ kept.2))
      (subst (λ z. Lays (S' z) ws (S' (z + 1))) e (lays-same _ _ (S' (head_of l)) _ ws (f (head_of l) (omega arith)) refl new)))
      (cases_lt v (head_of l))

  pub leads-trim : (S : ℕ → List V) (l : LedgerModel) (to : ℕ) → Leads S l → Leads S (trimmed to l)
  leads-trim S l to a v lo hi =
      let kept = trim-keeps-sets l to in
      let k0 = kept.0 in
      let k2 = kept.2 in
      subst (λ z. Lays (S v) z (S (v + 1))) (sym (kept.3 (v + 1) (omega arith))) (a v (omega arith) (omega arith))

  -- an item of which no set says anything keeps its value from version to version
  module _ (back : Faithful k) (S : ℕ → List V) (so : Sound S) where
    kept-once : (v i : ℕ) (items : List Bool) (ws : List Write) → Lays (S v) ws (S (v + 1)) → meets items ws ≡ false → has items i ≡ true
        → get_or (S (v + 1)) i k.blank ≡ get_or (S v) i k.blank
    kept-once v i items ws l un h =
        let s0 = so v in
        let s1 = so (v + 1) in
        ⊎_elim
        (λ (b : i < m).
        let i0 : i < length (S v) = omega arith in
        let i1 : i < length (S (v + 1)) = omega arith in
        same-by-word k back _ _
        (sym (get_or-map k.word (S (v + 1)) i k.blank 0 i1)
        ∙ ap (λ (z : List ℕ). get_or z i 0) l.words
        ∙ over_word (map k.word (S v)) ws i (rw length-map i0)
        ∙ ap (λ z. unwrap_or z (get_or (map k.word (S v)) i 0)) (unmet-word items ws i un h)
        ∙ get_or-map k.word (S v) i k.blank 0 i0))
        (λ (b : m ≤ i). get_or_past (S (v + 1)) i k.blank (omega arith) ∙ sym (get_or_past (S v) i k.blank (omega arith)))
        (cases_lt i m)

    -- so where no set after the snapshot meets the items, the newest state agrees with the snapshot's on them
    pub certified : (l : LedgerModel) (s : ℕ) (items : List Bool) → Leads S l → l.floor ≤ s
        → ((u : ℕ) → s < u → u ≤ head_of l → meets items (fetched l u) ≡ false)
        → (d : ℕ) → s + d ≤ head_of l → (i : ℕ) → has items i ≡ true → get_or (S (s + d)) i k.blank ≡ get_or (S s) i k.blank
    certified l s items a fl un zero hi i h = ap (λ z. get_or (S z) i k.blank) (omega arith)
    certified l s items a fl un (suc d) hi i h =
        let e : s + suc d ≡ (s + d) + 1 = omega arith in
        ap (λ z. get_or (S z) i k.blank) e
        ∙ kept-once (s + d) i items (fetched l (s + d + 1)) (a (s + d) (omega arith) (omega arith)) (un (s + d + 1) (omega arith) (omega arith)) h
        ∙ certified l s items a fl un d (omega arith) i h

  -- the words of a state in a replica of q items
  abbrev pub words : ℕ → List V → List ℕ
  words q p = map k.word p ++ replicate (q - m) (k.word k.blank)

  -- a replica shows the states from its base to its version
  abbrev pub Mirrors : (ℕ → List V) → ReplicaModel → Type 0
  Mirrors S r = (w : ℕ) → r.base ≤ w → w ≤ version_of r → contents_at r w ≡ words (items_of r) (S w)

  pub mirrors-same : (S S' : ℕ → List V) (h : ℕ) (r : ReplicaModel) → SameTo h S S' → version_of r ≤ h → Mirrors S r → Mirrors S' r
  mirrors-same S S' h r f l a w lo hi = a w lo hi ∙ ap (words (items_of r)) (f w (omega arith))

  -- what taking a set leaves of base and size
  pub taken-parts : (r : ReplicaModel) (ws : List Write) → ((after_take ws r).base ≡ r.base) × (items_of (after_take ws r) ≡ items_of r)
  taken-parts r ws = cond_both (is_ok (take_answer r ws)) _ r (λ (z : ReplicaModel). (z.base ≡ r.base) × (items_of z ≡ items_of r)) (λ _. (refl, refl)) (λ _. (refl, refl))

  pub mirrors-taken : (S : ℕ → List V) → Sound S → (r : ReplicaModel) (ws : List Write) → is_ok (take_answer r ws) ≡ true
      → Lays (S (version_of r)) ws (S (version_of r + 1)) → Mirrors S r → Mirrors S (after_take ws r)
  mirrors-taken S so r ws ok l a w lo hi =
      let kept = take-keeps-history r ws ok in
      let parts = taken-parts r ws in
      let k0 = kept.0 in
      let p0 = parts.0 in
      let size = ap (λ z. words z (S w)) (sym parts.1) in
      ⊎_elim
      (λ (b : w < version_of r + 1). kept.1 w (omega arith) ∙ a w (omega arith) (omega arith) ∙ size)
      (λ (b : version_of r + 1 ≤ w).
      let e : w ≡ version_of r + 1 = omega arith in
      let below : Within (length (map k.word (S (version_of r)))) ws =
      subst (λ z. Within z ws) (sym (length-map (S (version_of r)) k.word ∙ so (version_of r))) l.within in
      ap (contents_at (after_take ws r)) e ∙ kept.2
      ∙ ap (λ z. over z ws) (a (version_of r) (omega arith) (omega arith))
      ∙ over-front (map k.word (S (version_of r))) _ ws below
      ∙ ap (λ z. z ++ replicate (items_of r - m) (k.word k.blank)) (sym l.words)
      ∙ ap (λ z. words (items_of r) (S z)) (sym e) ∙ size)
      (cases_lt w (version_of r + 1))

  module _ (r : ReplicaModel) (to : ℕ) where
    -- forgetting to a version that is not kept leaves the replica
    not-forgotten : keeps r to ≡ false → after_forget to r ≡ r
    not-forgotten e = cond-false (keeps r to) _ r e

    pub forgotten-base : keeps r to ≡ true → (after_forget to r).base ≡ to
    forgotten-base e = ap (λ (z : ReplicaModel). z.base) (cond-true (keeps r to) _ r e)

    -- forgetting keeps version and size
    pub forgotten-version : version_of (after_forget to r) ≡ version_of r
    forgotten-version = ⊎_elim (λ e. (forget-keeps-history r to e).0) (λ e. ap version_of (not-forgotten e)) (cases_Bool (keeps r to))

    pub forgotten-items : items_of (after_forget to r) ≡ items_of r
    forgotten-items =
        ⊎_elim (λ e. ap items_of (cond-true (keeps r to) _ r e) ∙ length-overs r.contents (take (to - r.base) r.sets))
        (λ e. ap items_of (not-forgotten e)) (cases_Bool (keeps r to))

    -- what lies at or above both the base and the new base is still kept
    pub forgotten-low : (s : ℕ) → r.base ≤ s → to ≤ s → (after_forget to r).base ≤ s
    forgotten-low s low l =
        ⊎_elim (λ e. subst (λ z. z ≤ s) (sym (forgotten-base e)) l) (λ e. subst (λ (z : ReplicaModel). z.base ≤ s) (sym (not-forgotten e)) low)
        (cases_Bool (keeps r to))

    pub mirrors-forgotten : (S : ℕ → List V) → Mirrors S r → Mirrors S (after_forget to r)
    mirrors-forgotten S a =
        ⊎_elim
        (λ e w lo hi.
        let v = forgotten-version in
        let base = forgotten-base e in
        let low = leb-true r.base to (and_parts (leb r.base to) (leb to (version_of r)) e).0 in
        (forget-keeps-history r to e).1 w (omega arith) ∙ a w (omega arith) (omega arith) ∙ ap (λ z. words z (S w)) (sym forgotten-items))
        (λ e. subst (Mirrors S) (sym (not-forgotten e)) a)
        (cases_Bool (keeps r to))
