-- The serial order: each update makes the next state, and every other transaction leaves the state of its snapshot.
use Rattle.std.proofs.Common.{◌≡◌, ℕ, ◌+◌, ◌<◌, ◌≤◌, Bool, true, false, cond, ◌&&◌, leb, List, [], ◌∷◌, sym, refl, ap, ◌∙◌, subst, ⊎_elim, arith}
use Rattle.std.specs.List.{AllByRecursion}
use Rattle.std.proofs.lemmas.Bool.{cond_both, cond-true, cond-false, cases_Bool, leb-true, leb-false, ltb-true, ltb-false, le-leb, lt-ltb, and_parts, and_cases}
use Rattle.law.specs.History.{Accepted, is_update}
use Rattle.law.specs.Serial.{place, stands_before, placed, after, Shows, after_all, Replays, updates_to}
use Rattle.law.proofs.Elements.{all_both, Pairs}

near : (b : Bool) (n v : ℕ) → n ≡ cond b (v + 1) v → (v ≤ n) × (n ≤ v + 1)
near true n v e = (omega arith, omega arith)
near false n v e = (omega arith, omega arith)

module _ {V : Type 0} where
  pub all_placed : (P : Accepted V → Type 0) (t : Accepted V) (ts : List (Accepted V)) → P t → AllByRecursion P ts → AllByRecursion P (placed t ts)
  all_placed P t [] p h = (p, tt)
  all_placed P t (u ∷ us) p h = cond_both (stands_before t u) _ _ (AllByRecursion P) (λ _. (p, h)) (λ _. (h.0, all_placed P t us p h.1))

  -- the places of a serial order never fall
  abbrev pub Rising : List (Accepted V) → Type 0
  Rising ts = Pairs (λ (x y : Accepted V). place x ≤ place y) ts

  module _ (t : Accepted V) where
    -- what standing before another says, by whether t is an update
    pub update-before : (u : Accepted V) → is_update t ≡ true → stands_before t u ≡ true → place t ≤ place u
    update-before u q s = leb-true (place t) (place u) (sym (cond-true (is_update t) _ _ q) ∙ s)

    pub other-before : (u : Accepted V) → is_update t ≡ false → stands_before t u ≡ true → place t < place u
    other-before u q s = ltb-true (place t) (place u) (sym (cond-false (is_update t) _ _ q) ∙ s)

    other_after : (u : Accepted V) → is_update t ≡ false → stands_before t u ≡ false → place u ≤ place t
    other_after u q s = ltb-false (place t) (place u) (sym (cond-false (is_update t) _ _ q) ∙ s)

    before-later : (u y : Accepted V) → stands_before t u ≡ true → place u ≤ place y → stands_before t y ≡ true
    before-later u y s l =
        ⊎_elim
        (λ q. cond-true (is_update t) _ _ q ∙ le-leb (place t) (place y) (omega (arith, update-before u q s)))
        (λ q. cond-false (is_update t) _ _ q ∙ lt-ltb (place t) (place y) (omega (arith, other-before u q s)))
        (cases_Bool (is_update t))

    -- what holds between each two and between t and the others holds when t is put in
    pub pairs-placed : (R : Accepted V → Accepted V → Type 0) (ts : List (Accepted V))
        → AllByRecursion (λ (y : Accepted V). stands_before t y ≡ true → R t y) ts → AllByRecursion (λ (x : Accepted V). R x t) ts → Rising ts → Pairs R ts → Pairs R (placed t ts)
    pairs-placed R [] f g r p = (tt, tt)
    pairs-placed R (u ∷ us) f g r p =
        cond_both (stands_before t u) _ _ (Pairs R)
        (λ s. ((f.0 s, all_both (λ y w l. w (before-later u y s l)) us f.1 r.0), p))
        (λ s. (all_placed (R u) t us g.0 p.0, pairs-placed R us f.1 g.1 r.1 p.1))

module _ {V : Type 0} (blank : V) where
  -- transactions in order lead from state v to state h
  abbrev pub Chain : (ℕ → List V) → ℕ → List (Accepted V) → ℕ → Type 0
  Chain S v [] h = v ≡ h
  Chain S v (t ∷ ts) h =
      (place t ≡ cond (is_update t) (v + 1) v) × Shows blank (S v) t.ran.operations × (after (S v) t.ran.operations ≡ S (place t))
      × Chain S (place t) ts h

  chain-le : (S : ℕ → List V) (v h : ℕ) (ts : List (Accepted V)) → Chain S v ts h → v ≤ h
  chain-le S v h [] c = omega arith
  chain-le S v h (t ∷ ts) c = omega (arith, near (is_update t) (place t) v c.0, chain-le S (place t) h ts c.3)

  pub chain-below : (S : ℕ → List V) (v h : ℕ) (ts : List (Accepted V)) → Chain S v ts h → AllByRecursion (λ (t : Accepted V). place t ≤ h) ts
  chain-below S v h [] c = tt
  chain-below S v h (t ∷ ts) c = (chain-le S (place t) h ts c.3, chain-below S (place t) h ts c.3)

  chain-above : (S : ℕ → List V) (x v h : ℕ) (ts : List (Accepted V)) → x ≤ v → Chain S v ts h → AllByRecursion (λ (t : Accepted V). x ≤ place t) ts
  chain-above S x v h [] l c = tt
  chain-above S x v h (t ∷ ts) l c =
      let n = near (is_update t) (place t) v c.0 in
      let g : x ≤ place t = omega arith in
      (g, chain-above S x (place t) h ts g c.3)

  pub chain-rising : (S : ℕ → List V) (v h : ℕ) (ts : List (Accepted V)) → Chain S v ts h → Rising ts
  chain-rising S v h [] c = tt
  chain-rising S v h (t ∷ ts) c = (chain-above S (place t) (place t) h ts (omega arith) c.3, chain-rising S (place t) h ts c.3)

  -- states that are the same up to h
  pub chain-carry : (S S' : ℕ → List V) (v h : ℕ) (ts : List (Accepted V)) → ((x : ℕ) → x ≤ h → S x ≡ S' x) → Chain S v ts h → Chain S' v ts h
  chain-carry S S' v h [] f c = c
  chain-carry S S' v h (t ∷ ts) f c =
      let l = chain-le S (place t) h ts c.3 in
      let n = near (is_update t) (place t) v c.0 in
      let e = f v (omega arith) in (
        c.0,
        subst (λ z. Shows blank z t.ran.operations) e c.1,
        ap (λ z. after z t.ran.operations) (sym e) ∙ c.2 ∙ f (place t) l,
        chain-carry S S' (place t) h ts f c.3,
      )

  -- a transaction that is no update goes in after the updates up to its snapshot
  module _ (S : ℕ → List V) (t : Accepted V) (q : is_update t ≡ false) (sh : Shows blank (S (place t)) t.ran.operations)
      (af : after (S (place t)) t.ran.operations ≡ S (place t)) where
    -- in front of what starts from its state
    reader-first : (v h : ℕ) (ts : List (Accepted V)) → place t ≡ v → Chain S v ts h → Chain S v (t ∷ ts) h
    reader-first v h ts e c = (
      e ∙ sym (cond-false (is_update t) (v + 1) v q),
      subst (λ z. Shows blank (S z) t.ran.operations) e sh,
      ap (λ z. after (S z) t.ran.operations) (sym e) ∙ af,
      subst (λ z. Chain S z ts h) (sym e) c,
    )

    pub chain-reader : (v h : ℕ) (ts : List (Accepted V)) → v ≤ place t → place t ≤ h → Chain S v ts h → Chain S v (placed t ts) h
    chain-reader v h [] lo hi c = reader-first v h [] (omega arith) c
    chain-reader v h (u ∷ us) lo hi c =
        let n = near (is_update u) (place u) v c.0 in
        cond_both (stands_before t u) _ _ (λ z. Chain S v z h)
        (λ s. let l = other-before t u q s in reader-first v h (u ∷ us) (omega arith) c)
        (λ s. (c.0, c.1, c.2, chain-reader (place u) h us (other_after t u q s) hi c.3))

  -- a new update goes in at the end
  pub chain-update : (S : ℕ → List V) (t : Accepted V) (h : ℕ) → is_update t ≡ true → place t ≡ h + 1 → Shows blank (S h) t.ran.operations
      → after (S h) t.ran.operations ≡ S (place t) → (v : ℕ) (ts : List (Accepted V)) → Chain S v ts h → Chain S v (placed t ts) (h + 1)
  chain-update S t h q nu sh af v [] c = (
    nu ∙ ap (λ z. z + 1) (sym c) ∙ sym (cond-true (is_update t) (v + 1) v q),
    subst (λ z. Shows blank (S z) t.ran.operations) (sym c) sh,
    ap (λ z. after (S z) t.ran.operations) c ∙ af,
    nu,
  )
  chain-update S t h q nu sh af v (u ∷ us) c =
      cond_both (stands_before t u) _ _ (λ z. Chain S v z (h + 1))
      (λ s. let l = update-before t u q s in let g = chain-le S (place u) h us c.3 in absurd (omega arith))
      (λ s. (c.0, c.1, c.2, chain-update S t h q nu sh af (place u) us c.3))

  -- transactions in order replay
  pub chain-replays : (S : ℕ → List V) (v h : ℕ) (ts : List (Accepted V)) → Chain S v ts h → Replays blank (S v) ts
  chain-replays S v h [] c = tt
  chain-replays S v h (t ∷ ts) c = (c.1, subst (λ z. Replays blank z ts) (sym c.2) (chain-replays S (place t) h ts c.3))

  update-place : (t : Accepted V) (x : ℕ) → (is_update t && leb t.number x) ≡ true → place t ≤ x
  update-place t x e =
      let es = and_parts (is_update t) (leb t.number x) e in
      let l = leb-true t.number x es.1 in
      let p : place t ≡ t.number = cond-true (is_update t) _ _ es.0 in
      omega arith

  updates-none : (S : ℕ → List V) (x v h : ℕ) (ts : List (Accepted V)) → x < v → Chain S v ts h → updates_to x ts ≡ []
  updates-none S x v h [] l c = refl
  updates-none S x v h (t ∷ ts) l c =
      let n = near (is_update t) (place t) v c.0 in
      cond_both (is_update t && leb t.number x) _ _ (λ z. z ≡ [])
      (λ e. let k = update-place t x e in absurd (omega arith))
      (λ e. updates-none S x (place t) h ts (omega arith) c.3)

  -- the updates up to a version lead to its state
  pub chain-serial : (S : ℕ → List V) (x v h : ℕ) (ts : List (Accepted V)) → v ≤ x → x ≤ h → Chain S v ts h → after_all (S v) (updates_to x ts) ≡ S x
  chain-serial S x v h [] lo hi c = ap S (omega arith)
  chain-serial S x v h (t ∷ ts) lo hi c =
      let n = near (is_update t) (place t) v c.0 in
      let reader : is_update t ≡ false → after_all (S v) (updates_to x ts) ≡ S x =
      λ q.
      let e : place t ≡ v = c.0 ∙ cond-false (is_update t) (v + 1) v q in
      ap (λ z. after_all (S z) (updates_to x ts)) (sym e) ∙ chain-serial S x (place t) h ts (omega arith) hi c.3 in
      cond_both (is_update t && leb t.number x) _ _ (λ z. after_all (S v) z ≡ S x)
      (λ e.
      let l = update-place t x e in
      ap (λ z. after_all z (updates_to x ts)) c.2 ∙ chain-serial S x (place t) h ts l hi c.3)
      (λ e.
      ⊎_elim reader
      (λ q.
      let l = leb-false t.number x q in
      ⊎_elim
      (λ u.
      let p : place t ≡ t.number = cond-true (is_update t) _ _ u in
      let e' : v ≡ x = omega arith in
      ap (λ z. after_all (S v) z) (updates-none S x (place t) h ts (omega arith) c.3) ∙ ap S e')
      reader (cases_Bool (is_update t)))
      (and_cases (is_update t) (leb t.number x) e))
