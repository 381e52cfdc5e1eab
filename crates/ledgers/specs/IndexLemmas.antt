-- Facts on the index that its impl names.
use Rattle.std.proofs.Common.{ℕ, List, get_or, arith}
use Rattle.std.proofs.Props.{props}
use Rattle.std.proofs.lemmas.Bool.Decides.{nat_tests}
use Rattle.ledgers.specs.Model.{LedgerModel}
use Rattle.ledgers.specs.Index.{Tells}
use Rattle.ledgers.specs.Finders.{LetsGo}

-- that it tells the truth has one proof at most
pub tells-single : (m : LedgerModel) (last : List ℕ) → IsProp (Tells m last)
tells-single m last = Prim.hlevel props

-- what it has at or below the floor counts no more, so it stays true when sets are let go
pub tells-trimmed : (m m' : LedgerModel) (last : List ℕ) → LetsGo m m' → Tells m last → Tells m' last
tells-trimmed m m' last less tells = (
  (λ i l above. let t = tells.0 i l in let k = less.1 (get_or last i 0) above in grind arith),
  (λ i v h. let t = tells.1 i v h in grind (arith, nat_tests, less.1 v)),
)
