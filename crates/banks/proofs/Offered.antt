-- The sites of a replica and the bank beside it, of which the first eight are offered.
use Rattle.std.proofs.Common.{◌≡◌, ℕ, zero, suc, ◌-◌, ◌<◌, List, ◌∷◌, get_or, take, set, sym, refl, ap, ◌∙◌, sub-one, arith}
use Rattle.std.proofs.Math.Seq.{take-set-lt}
use Rattle.std.proofs.lemmas.List.{places, get_or-take}
use Rattle.std.proofs.lemmas.Bool.Decides.{nat_tests}
use Rattle.replicas.specs.Model.{ReplicaModel}
use Rattle.banks.specs.Sites.{most_sites, no_replica, at_site, changed_at}

-- a site past the first is one of the rest
module _ (r : ReplicaModel) (rs : List ReplicaModel) where
  pub rest-answer : {X : Type 0} (site : ℕ) (answer : ReplicaModel → X) (refused x : X) → site < most_sites → (site ≡ 0 → ⊥) →
      x ≡ at_site rs (site - 1) answer refused → x ≡ at_site (take most_sites (r ∷ rs)) site answer refused
  rest-answer zero answer refused x below later e = absurd (later refl)
  rest-answer (suc site) answer refused x below later e = e ∙ rw sub-one (grind (arith, nat_tests, places))

  pub rest-change : (site : ℕ) (change : ReplicaModel → ReplicaModel) (ms : List ReplicaModel) → site < most_sites → (site ≡ 0 → ⊥) →
      ms ≡ changed_at rs (site - 1) change → take most_sites (r ∷ ms) ≡ changed_at (take most_sites (r ∷ rs)) site change
  rest-change zero change ms below later e = absurd (later refl)
  rest-change (suc site) change ms below later e =
      ap (λ l. take most_sites (r ∷ l)) e ∙ rw sub-one (ap (λ l. r ∷ l) (
      take-set-lt 7 rs site (change (get_or rs site no_replica)) (omega arith)
      ∙ ap (λ m. set (take 7 rs) site (change m)) (sym (get_or-take 7 rs site no_replica (omega arith)))))
