-- The set of a version, in any ledger, and after an add or a trim.
use Rattle.std.proofs.Common.{◌≡◌, ℕ, ◌+◌, ◌-◌, ◌<◌, ◌≤◌, min, List, [], ◌∷◌, ◌++◌, get_or, Ok, ap, ◌∙◌, subst, sym, arith}
use Rattle.std.proofs.lemmas.List.{length_push, length-drop, get_or_append_left, get_or_push, get_or-drop}
use Rattle.std.proofs.lemmas.Bool.Decides.{nat_tests}
use Rattle.entries.specs.declared.writes.Write.{Write}
use Rattle.ledgers.specs.Model.{LedgerModel, head_of, add_answer, after_add, fetched, trimmed}
use Rattle.ledgers.specs.Laws.{AddKeepsSets, TrimKeepsSets}
use Rattle.ledgers.specs.Finders.{LetsGo}

module _ (m : LedgerModel) (v : ℕ) where
  pub fetched-in : m.floor < v → v ≤ head_of m → fetched m v ≡ get_or m.sets (v - m.floor - 1) []
  fetched-in lo hi = grind (arith, nat_tests)

  pub fetched-low : v ≤ m.floor → fetched m v ≡ []
  fetched-low h = grind (arith, nat_tests)

  pub fetched-past : head_of m < v → fetched m v ≡ []
  fetched-past h = grind (arith, nat_tests)

-- the ledger with one more set
abbrev pub appended : LedgerModel → List Write → LedgerModel
appended m ws = record { floor = m.floor; sets = m.sets ++ (ws ∷ []); capacity = m.capacity }

module _ (m : LedgerModel) (ws : List Write) where
  appended-head : head_of (appended m ws) ≡ head_of m + 1
  appended-head = omega (arith, length_push m.sets ws)

  appended-new : fetched (appended m ws) (head_of m + 1) ≡ ws
  appended-new = grind (arith, nat_tests, appended-head, get_or_push m.sets ws [])

  appended-old : (u : ℕ) → u ≤ head_of m → fetched (appended m ws) u ≡ fetched m u
  appended-old u hi = grind (arith, nat_tests, appended-head, get_or_append_left m.sets (ws ∷ []) [] (u - m.floor - 1))

  added-version : (v : ℕ) → add_answer m ws ≡ Ok v → v ≡ head_of m + 1
  added-version v e = grind (arith, nat_tests)

  pub added_is : (v : ℕ) → add_answer m ws ≡ Ok v → after_add ws m ≡ appended m ws
  added_is v e = grind (arith, nat_tests)

pub add-keeps-sets : AddKeepsSets
add-keeps-sets m ws v e =
    let n = added-version m ws v e in
    let is = added_is m ws v e in (
      n,
      ap head_of is ∙ appended-head m ws ∙ sym n,
      ap (λ x. fetched x v) is ∙ ap (fetched (appended m ws)) n ∙ appended-new m ws,
      λ u l. ap (λ x. fetched x u) is ∙ appended-old m ws u (omega arith),
    )

module _ (m : LedgerModel) (to : ℕ) where
  trimmed-head : head_of (trimmed to m) ≡ head_of m
  trimmed-head = omega (arith, length-drop (min to (head_of m) - m.floor) m.sets)

  trimmed-set : (v : ℕ) → (trimmed to m).floor < v → fetched (trimmed to m) v ≡ fetched m v
  trimmed-set v lo =
      grind (arith, nat_tests, trimmed-head, get_or-drop (min to (head_of m) - m.floor) m.sets (v - (trimmed to m).floor - 1) [])

pub trim-keeps-sets : TrimKeepsSets
trim-keeps-sets m to = (omega arith, omega arith, trimmed-head m to, trimmed-set m to)

-- a trim lets sets go and nothing else
pub trim-lets-go : (m m' : LedgerModel) (to : ℕ) → m' ≡ trimmed to m → LetsGo m m'
trim-lets-go m m' to is = let k = trim-keeps-sets m to in subst (λ (x : LedgerModel). LetsGo m x) (sym is) (k.0, k.3)
