-- The order of transactions at one site.
use Rattle.std.proofs.Common.{◌≡◌, ℕ, suc, ◌+◌, ◌<◌, ◌≤◌, Bool, true, false, cond, ◌&&◌, eqb, ◌≢◌, ◌⊎◌, List, Some, None, Option, sym, refl, ap, ◌∙◌, subst, subst₂, inl, inr, ⊎_elim, arith}
use Rattle.std.specs.List.{AllByRecursion}
use Rattle.std.proofs.lemmas.Bool.{cond_both, cond-true, cond-false, cases_order, eqb-true, and_parts}
use Rattle.law.specs.History.{Transaction, Accepted, is_update}
use Rattle.law.specs.Serial.{place, placed, At}
use Rattle.law.proofs.Elements.{all-each, Pairs, pairs-at, pairs-each}
use Rattle.law.proofs.Order.{Rising, all_placed, pairs-placed, update-before, other-before}

-- which transactions were closed at which times
abbrev pub Closed : Type 0 → Type 0
Closed V = Accepted V → ℕ → Bool

module _ {V : Type 0} where
  -- the end of the transaction was answered at this time
  abbrev pub ended_by : Closed V → Accepted V → ℕ → Bool
  ended_by closed t time = cond (is_update t) (closed t time) (eqb t.filed time)

  -- y did not end at the site of x before x began there
  abbrev pub Unhindered : Closed V → Accepted V → Accepted V → Type 0
  Unhindered closed x y = (time : ℕ) → ended_by closed y time ≡ true → y.site ≡ x.site → time < x.ran.began → ⊥

  -- if y ended at the site before this time, it stands no later than version s
  abbrev pub Earlier : Closed V → ℕ → ℕ → ℕ → Accepted V → Type 0
  Earlier closed site began s y = (time : ℕ) → ended_by closed y time ≡ true → y.site ≡ site → time < began → place y ≤ s

  -- what is known of the ends of transactions, with those still open
  pub record SameSite (clock : ℕ) (opens : ℕ → ℕ → Option (Transaction V)) (closed : Closed V) (versions : ℕ → ℕ) (head : ℕ) (order : List (Accepted V)) : Type 0 where
    -- all have begun by now
    pub times : AllByRecursion (λ (t : Accepted V). t.ran.began ≤ clock) order
    -- what has ended at a site stands no later than the site's version
    pub ended : AllByRecursion (λ (t : Accepted V). (time : ℕ) → ended_by closed t time ≡ true → place t ≤ versions t.site) order
    -- only numbers that were given are closed
    pub closings : (t : Accepted V) (time : ℕ) → closed t time ≡ true → t.number ≤ head
    -- no transaction stands before one that ended at its site before it began
    pub pairs : Pairs (Unhindered closed) order
    -- what had ended at a site when an open transaction began there stands no later than its snapshot
    pub waiting : (site slot : ℕ) (t : Transaction V) → opens site slot ≡ Some t
        → (t.began ≤ clock) × AllByRecursion (Earlier closed site t.began t.snapshot) order

  -- an open transaction was open before, or began now at the site's version
  abbrev pub From : ℕ → (ℕ → ℕ → Option (Transaction V)) → (ℕ → ℕ) → ℕ → ℕ → Transaction V → Type 0
  From clock opens versions site slot t' =
      ((t : Transaction V) × (opens site slot ≡ Some t) × (t'.began ≡ t.began) × (t'.snapshot ≡ t.snapshot))
      ⊎ ((t'.began ≡ clock) × (t'.snapshot ≡ versions site))

  -- where one slot changes
  pub from-slot : (clock : ℕ) (opens : ℕ → ℕ → Option (Transaction V)) (versions : ℕ → ℕ) (a b : ℕ) (x : Option (Transaction V))
      → ((t : Transaction V) → x ≡ Some t → From clock opens versions a b t)
      → (site slot : ℕ) (t : Transaction V) → cond (eqb a site && eqb b slot) x (opens site slot) ≡ Some t → From clock opens versions site slot t
  from-slot clock opens versions a b x here site slot t =
      cond_both (eqb a site && eqb b slot) x (opens site slot) (λ z. z ≡ Some t → From clock opens versions site slot t)
      (λ e q.
      let es = and_parts (eqb a site) (eqb b slot) e in
      subst₂ (λ y z. From clock opens versions y z t) (eqb-true a site es.0) (eqb-true b slot es.1) (here t q))
      (λ _ q. inl (t, q, refl, refl))

  -- where nothing is left open
  pub from-none : (clock : ℕ) (opens : ℕ → ℕ → Option (Transaction V)) (versions : ℕ → ℕ) (a b : ℕ)
      → (t : Transaction V) → None ≡ Some t → From clock opens versions a b t
  from-none clock opens versions a b t e = let z : ◌≡◌ {A = ℕ} 0 1 = cc in absurd (omega arith)

  module _ (clock : ℕ) (opens : ℕ → ℕ → Option (Transaction V)) (closed : Closed V) (versions : ℕ → ℕ) (head : ℕ) (order : List (Accepted V))
      (i : SameSite clock opens closed versions head order) where
    -- time passes; transactions begin, go on or end
    pub same-site-moves : (opens' : ℕ → ℕ → Option (Transaction V))
        → ((site slot : ℕ) (t : Transaction V) → opens' site slot ≡ Some t → From clock opens versions site slot t)
        → SameSite (suc clock) opens' closed versions head order
    same-site-moves opens' from =
        record {
          times = all-each (λ t h. omega arith) order i.times;
          ended = i.ended;
          closings = i.closings;
          pairs = i.pairs;
          waiting =
              λ site slot t' e.
              ⊎_elim
              (λ (o : (t : Transaction V) × (opens site slot ≡ Some t) × (t'.began ≡ t.began) × (t'.snapshot ≡ t.snapshot)).
              let w = i.waiting site slot o.0 o.1 in
              let b = o.2 in
              let w0 = w.0 in
              (omega arith, subst₂ (λ x y. AllByRecursion (Earlier closed site x y) order) (sym o.2) (sym o.3) w.1))
              (λ (n : (t'.began ≡ clock) × (t'.snapshot ≡ versions site)).
              let b = n.0 in (
                omega arith,
                all-each
                    (λ y h time en si lt. subst (λ z. place y ≤ z) (ap versions si ∙ sym n.1) (h time en)) order i.ended,
              ))
              (from site slot t' e);
        }

    -- versions rise
    pub same-site-delivers : (versions' : ℕ → ℕ) → ((site : ℕ) → versions site ≤ versions' site) → SameSite clock opens closed versions' head order
    same-site-delivers versions' up =
        record {
          times = i.times;
          ended = all-each (λ t h time en. let u = up t.site in let l = h time en in omega arith) order i.ended;
          closings = i.closings;
          pairs = i.pairs;
          waiting = i.waiting;
        }

    -- a number at a site is closed now
    module _ (closed' : Closed V) (site number : ℕ) where
      -- it is this transaction's
      abbrev pub Closes : Accepted V → ℕ → Type 0
      Closes t time = (time ≡ clock) × (t.site ≡ site) × (t.number ≡ number)

      module _ (more : (t : Accepted V) (time : ℕ) → closed' t time ≡ true → Closes t time ⊎ (closed t time ≡ true))
          (up : number ≤ versions site) (top : number ≤ head) where
        ended-more : (t : Accepted V) (time : ℕ) → ended_by closed' t time ≡ true → (Closes t time × (place t ≡ t.number)) ⊎ (ended_by closed t time ≡ true)
        ended-more t time =
            cond_both (is_update t) (closed' t time) (eqb t.filed time) (λ z. z ≡ true → (Closes t time × (place t ≡ t.number)) ⊎ (ended_by closed t time ≡ true))
            (λ q e.
            ⊎_elim (λ (c : Closes t time). inl (c, cond-true (is_update t) _ _ q)) (λ (c : closed t time ≡ true). inr (cond-true (is_update t) _ _ q ∙ c)) (more t time e))
            (λ q e. inr (cond-false (is_update t) _ _ q ∙ e))

        -- what ends now does not end before what has begun
        not-before : (t : Accepted V) (time began : ℕ) → began ≤ clock → ended_by closed' t time ≡ true → time < began → ended_by closed t time ≡ true
        not-before t time began le e lt =
            ⊎_elim (λ (c : Closes t time × (place t ≡ t.number)). let c0 = c.0.0 in absurd (omega arith)) (λ (c : ended_by closed t time ≡ true). c) (ended-more t time e)

        pub same-site-closes : SameSite clock opens closed' versions head order
        same-site-closes =
            record {
              times = i.times;
              ended =
                  all-each
                  (λ t h time e.
                  ⊎_elim
                  (λ (c : Closes t time × (place t ≡ t.number)).
                  let n = c.0.2 in let p = c.1 in
                  subst (λ z. place t ≤ versions z) (sym c.0.1) (omega arith))
                  (λ (c : ended_by closed t time ≡ true). h time c) (ended-more t time e))
                  order i.ended;
              closings =
                  λ t time e.
                  ⊎_elim (λ (c : Closes t time). let n = c.2 in omega arith) (λ (c : closed t time ≡ true). i.closings t time c) (more t time e);
              pairs = pairs-each (λ x y be h time e si lt. h time (not-before y time x.ran.began be e lt) si lt) order i.times i.pairs;
              waiting =
                  λ s j t e.
                  let w = i.waiting s j t e in
                  (w.0, all-each (λ y h time en si lt. h time (not-before y time t.began w.0 en lt) si lt) order w.1);
            }

    -- a transaction without writes is accepted now
    pub same-site-reader : (t : Accepted V) → is_update t ≡ false → t.filed ≡ clock → t.ran.began ≤ clock → place t ≤ versions t.site
        → AllByRecursion (Earlier closed t.site t.ran.began (place t)) order → Rising order → SameSite clock opens closed versions head (placed t order)
    same-site-reader t q fi be up ea ri =
        let at : (time : ℕ) → ended_by closed t time ≡ true → time ≡ clock =
        λ time e. sym (eqb-true t.filed time (sym (cond-false (is_update t) _ _ q) ∙ e)) ∙ fi in
        record {
          times = all_placed _ t order be i.times;
          ended = all_placed _ t order (λ time e. up) i.ended;
          closings = i.closings;
          pairs =
              pairs-placed t (Unhindered closed) order
              (all-each (λ y h s time e si lt. let l = other-before t y q s in let g = h time e si lt in omega arith) order ea)
              (all-each (λ x h time e si lt. let a = at time e in omega arith) order i.times)
              ri i.pairs;
          waiting =
              λ s j u e.
              let w = i.waiting s j u e in
              let w0 = w.0 in
              (w.0, all_placed _ t order (λ time en si lt. let a = at time en in absurd (omega arith)) w.1);
        }

    -- an update is accepted, as the next version
    pub same-site-update : (t : Accepted V) → is_update t ≡ true → t.number ≡ head + 1 → t.ran.began ≤ clock
        → AllByRecursion (λ (y : Accepted V). place y ≤ head) order → Rising order → SameSite clock opens closed versions (head + 1) (placed t order)
    same-site-update t q nu be top ri =
        let none : (time : ℕ) → ended_by closed t time ≡ true → ⊥ =
        λ time e. let l = i.closings t time (sym (cond-true (is_update t) _ _ q) ∙ e) in omega arith in
        let pl : place t ≡ head + 1 = cond-true (is_update t) _ _ q ∙ nu in
        record {
          times = all_placed _ t order be i.times;
          ended = all_placed _ t order (λ time e. absurd (none time e)) i.ended;
          closings = λ u time e. let l = i.closings u time e in omega arith;
          pairs =
              pairs-placed t (Unhindered closed) order
              (all-each (λ y l s time e si lt. let g = update-before t y q s in omega arith) order top)
              (all-each (λ x h time e si lt. none time e) order i.times)
              ri i.pairs;
          waiting =
              λ s j u e.
              let w = i.waiting s j u e in
              (w.0, all_placed _ t order (λ time en si lt. absurd (none time en)) w.1);
        }

    -- what ended at a site before another began there stands earlier
    pub same-site-order : (x y time : ℕ) (t u : Accepted V) → At order x t → At order y u → x ≢ y → t.site ≡ u.site
        → ended_by closed t time ≡ true → time < u.ran.began → x < y
    same-site-order x y time t u at au ne si en lt =
        ⊎_elim (λ (q : x ≡ y). absurd (ne q))
        (⊎_elim (λ (q : x < y). q)
        (λ (q : y < x). absurd (pairs-at (Unhindered closed) order y x u t i.pairs au at q time en si lt)))
        (cases_order x y)
