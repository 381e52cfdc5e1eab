-- The greatest number that passes a test.
use Rattle.std.proofs.Common.{◌≡◌, ℕ, ◌<◌, ◌≤◌, Bool, Some, None, Option, refl, ◌∙◌, arith}
use Rattle.ledgers.specs.Laws.{Greatest}

-- there is one answer
pub one-greatest : (test : ℕ → Bool) (low top : ℕ) (r s : Option ℕ) → Greatest test low top r → Greatest test low top s → r ≡ s
one-greatest test low top None None h k = refl
one-greatest test low top None (Some w) h k = grind (arith, h w)
one-greatest test low top (Some v) None h k = grind (arith, k v)
one-greatest test low top (Some v) (Some w) h k = grind (arith, h.3 w, k.3 v)

-- two tests that agree on the same numbers
pub greatest-like : (p q : ℕ → Bool) (low top top' : ℕ) (r : Option ℕ) → ((u : ℕ) → low < u → u ≤ top → u ≤ top')
    → ((u : ℕ) → low < u → u ≤ top' → (u ≤ top) × (q u ≡ p u)) → Greatest p low top r → Greatest q low top' r
greatest-like p q low top top' None f g h = λ u lo hi. (g u lo hi).1 ∙ h u lo (g u lo hi).0
greatest-like p q low top top' (Some v) f g h =
    let t = f v h.0 h.1 in (
      h.0,
      t,
      (g v h.0 t).1 ∙ h.2,
      λ u lo hi. let l : low < u = omega (arith, h.0) in (g u l hi).1 ∙ h.3 u lo (g u l hi).0,
    )
