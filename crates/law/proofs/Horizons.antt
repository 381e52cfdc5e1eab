-- The horizon of a site.
use Rattle.std.proofs.Common.{◌≡◌, ℕ, zero, suc, ◌≤◌, min, Bool, List, [], ◌∷◌, get_or, set, Some, None, Option, unwrap_or, sym, refl, ap, ◌∙◌, arith}
use Rattle.entries.specs.declared.writes.Write.{Write}
use Rattle.law.specs.Slots.{SlotModel, smallest_open_of, horizon}
use Rattle.law.specs.Slots.SlotModel.{idle, opened, filed}

-- what a slot holds back: its snapshot where it is open, else nothing below the version
abbrev pub held : ℕ → SlotModel → ℕ
held v idle = v
held v (opened s ws items) = s
held v (filed n) = v

-- every open slot has a snapshot from `low` to `high`
abbrev pub Between : ℕ → ℕ → List SlotModel → Type 0
Between low high xs = (j s : ℕ) (ws : List Write) (items : List Bool) → get_or xs j idle ≡ opened s ws items → (low ≤ s) × (s ≤ high)

between-rest : (low high : ℕ) (x : SlotModel) (xs : List SlotModel) → Between low high (x ∷ xs) → Between low high xs
between-rest low high x xs h j s ws items e = h (suc j) s ws items e

-- the smallest open snapshot, where there is one, is one of them; so is the horizon, or else the version
smallest-between : (low high : ℕ) (xs : List SlotModel) → Between low high xs → (d : ℕ) → low ≤ d → d ≤ high
    → (low ≤ unwrap_or (smallest_open_of xs) d) × (unwrap_or (smallest_open_of xs) d ≤ high)
smallest-between low high [] h d lo hi = (lo, hi)
smallest-between low high (idle ∷ xs) h d lo hi = smallest-between low high xs (between-rest low high idle xs h) d lo hi
smallest-between low high (filed n ∷ xs) h d lo hi = smallest-between low high xs (between-rest low high (filed n) xs h) d lo hi
smallest-between low high (opened s ws items ∷ xs) h d lo hi =
    let here = h 0 s ws items refl in
    let rest = smallest-between low high xs (between-rest low high (opened s ws items) xs h) s here.0 here.1 in
    (omega arith, omega arith)

pub horizon-between : (low high : ℕ) (xs : List SlotModel) → low ≤ high → Between low high xs → (low ≤ horizon xs high) × (horizon xs high ≤ high)
horizon-between low high xs l h = smallest-between low high xs h high l (omega arith)

-- no open snapshot is below the horizon
smallest-open : (xs : List SlotModel) (d j s : ℕ) (ws : List Write) (items : List Bool) → get_or xs j idle ≡ opened s ws items → unwrap_or (smallest_open_of xs) d ≤ s
smallest-open [] d j s ws items e = let z : ◌≡◌ {A = ℕ} 0 1 = cc in absurd (omega arith)
smallest-open (idle ∷ xs) d zero s ws items e = let z : ◌≡◌ {A = ℕ} 0 1 = cc in absurd (omega arith)
smallest-open (idle ∷ xs) d (suc j) s ws items e = smallest-open xs d j s ws items e
smallest-open (filed n ∷ xs) d zero s ws items e = let z : ◌≡◌ {A = ℕ} 0 1 = cc in absurd (omega arith)
smallest-open (filed n ∷ xs) d (suc j) s ws items e = smallest-open xs d j s ws items e
smallest-open (opened t us is ∷ xs) d zero s ws items e = let z : t ≡ s = cc in omega arith
smallest-open (opened t us is ∷ xs) d (suc j) s ws items e = let rest = smallest-open xs t j s ws items e in omega arith

pub horizon-open : (xs : List SlotModel) (v j s : ℕ) (ws : List Write) (items : List Bool) → get_or xs j idle ≡ opened s ws items → horizon xs v ≤ s
horizon-open xs v j s ws items e = smallest-open xs v j s ws items e

-- where no open snapshot is above the version, the horizon is the smallest of what the slots hold back
horizon-more : (x : SlotModel) (xs : List SlotModel) (v : ℕ) → Between 0 v (x ∷ xs) → horizon (x ∷ xs) v ≡ min (held v x) (horizon xs v)
horizon-more idle xs v h = let b = horizon-between 0 v xs (omega arith) (between-rest 0 v idle xs h) in omega arith
horizon-more (filed n) xs v h = let b = horizon-between 0 v xs (omega arith) (between-rest 0 v (filed n) xs h) in omega arith
horizon-more (opened s ws items) xs v h = go (smallest_open_of xs)
  where
    go : (o : Option ℕ) → min s (unwrap_or o s) ≡ min s (unwrap_or o v)
    go (Some t) = refl
    go None = let here = h 0 s ws items refl in omega arith

-- so a slot that changes to one that holds back the same leaves the horizon
pub horizon-set : (xs : List SlotModel) (j : ℕ) (x : SlotModel) (v : ℕ) → Between 0 v xs → Between 0 v (set xs j x)
    → held v x ≡ held v (get_or xs j idle) → horizon (set xs j x) v ≡ horizon xs v
horizon-set [] j x v h h' e = refl
horizon-set (y ∷ ys) zero x v h h' e = horizon-more x ys v h' ∙ ap (λ z. min z (horizon ys v)) e ∙ sym (horizon-more y ys v h)
horizon-set (y ∷ ys) (suc j) x v h h' e =
    horizon-more y (set ys j x) v h'
    ∙ ap (min (held v y)) (horizon-set ys j x v (between-rest 0 v y ys h) (between-rest 0 v y (set ys j x) h') e)
    ∙ sym (horizon-more y ys v h)
