-- One turn of a loop over all sites, and its end.
use Rattle.std.proofs.Common.{◌≡◌, ℕ, ◌+◌, ◌<◌, ◌≤◌, List, [], ◌∷◌, ◌++◌, map, length, take, drop, ap, ◌∙◌, arith}
use Rattle.std.proofs.lemmas.List.Edits.{map_over_more}
use Rattle.std.proofs.lemmas.List.{get_or_default, length-append, length-map, length-take, length-drop}
use Rattle.replicas.specs.Model.{ReplicaModel}
use Rattle.banks.specs.Sites.{no_replica, replica_at, changed_at, least_items}

pub least-most : (rs : List ReplicaModel) → least_items rs ≤ 256
least-most [] = omega arith
least-most (r ∷ rs) = omega (arith, least-most rs)

-- the same change at each site in turn
module _ (change : ReplicaModel → ReplicaModel) (rs ms : List ReplicaModel) (site : ℕ)
    (so_far : ms ≡ map change (take site rs) ++ drop site rs) where
  pub change-more : site < length rs → changed_at ms site change ≡ map change (take (site + 1) rs) ++ drop (site + 1) rs
  change-more below =
      let long : length ms ≡ length rs = ap length so_far ∙ simp (length-append, length-map, length-take, length-drop) (omega arith) in
      map_over_more change rs ms site (replica_at ms site) below so_far
      (get_or_default ms site no_replica (replica_at ms site) (omega arith))
