-- What holds of the elements of a list, and of each two of them.
use Rattle.std.proofs.Common.{ℕ, zero, suc, ◌<◌, List, [], ◌∷◌, subst, le_of_suc-le-suc, arith}
use Rattle.std.specs.List.{AllByRecursion}
use Rattle.law.specs.Serial.{At}

module _ {X : Type 0} where
  pub all-each : {P W : X → Type 0} → ((x : X) → P x → W x) → (xs : List X) → AllByRecursion P xs → AllByRecursion W xs
  all-each f [] p = tt
  all-each f (x ∷ xs) p = (f x p.0, all-each f xs p.1)

  pub all_both : {P Q W : X → Type 0} → ((x : X) → P x → Q x → W x) → (xs : List X) → AllByRecursion P xs → AllByRecursion Q xs → AllByRecursion W xs
  all_both f [] p q = tt
  all_both f (x ∷ xs) p q = (f x p.0 q.0, all_both f xs p.1 q.1)

  pub all-at : (P : X → Type 0) (xs : List X) (i : ℕ) (x : X) → AllByRecursion P xs → At xs i x → P x
  all-at P [] i x h a = absurd a
  all-at P (y ∷ ys) zero x h a = subst P a h.0
  all-at P (y ∷ ys) (suc i) x h a = all-at P ys i x h.1 a

  -- R holds of each two elements, the earlier one first
  abbrev pub Pairs : (X → X → Type 0) → List X → Type 0
  Pairs R [] = Unit {0}
  Pairs R (x ∷ xs) = AllByRecursion (R x) xs × Pairs R xs

  pub pairs-at : (R : X → X → Type 0) (xs : List X) (i j : ℕ) (x y : X) → Pairs R xs → At xs i x → At xs j y → i < j → R x y
  pairs-at R [] i j x y h a b l = absurd a
  pairs-at R (z ∷ zs) zero zero x y h a b l = absurd (omega arith)
  pairs-at R (z ∷ zs) zero (suc j) x y h a b l = subst (λ u. R u y) a (all-at (R z) zs j y h.0 b)
  pairs-at R (z ∷ zs) (suc i) zero x y h a b l = absurd (omega arith)
  pairs-at R (z ∷ zs) (suc i) (suc j) x y h a b l = pairs-at R zs i j x y h.1 a b (le_of_suc-le-suc l)

  -- what holds of each two follows from what holds of the earlier one and what held of the two
  pub pairs-each : {P : X → Type 0} {R W : X → X → Type 0} → ((x y : X) → P x → R x y → W x y) → (xs : List X) → AllByRecursion P xs → Pairs R xs → Pairs W xs
  pairs-each f [] p h = tt
  pairs-each f (x ∷ xs) p h = (all-each (λ y r. f x y p.0 r) xs h.0, pairs-each f xs p.1 h.1)
