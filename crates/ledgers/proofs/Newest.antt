-- The newest version whose set meets the items.
use Rattle.std.proofs.Common.{◌≡◌, ℕ, suc, ◌+◌, ◌-◌, ◌<◌, ◌≤◌, Bool, true, false, cond, List, [], ◌∷◌, length, get_or, drop, Some, None, Option, ◌∙◌, subst, arith}
use Rattle.std.proofs.lemmas.List.{length-drop, get_or-drop}
use Rattle.std.proofs.lemmas.Bool.{cond_both}
use Rattle.std.proofs.lemmas.Bool.Decides.{nat_tests}
use Rattle.entries.specs.declared.writes.Write.{Write}
use Rattle.ledgers.specs.Model.{LedgerModel, head_of, meets, newest_in, newest, fetched}
use Rattle.ledgers.specs.Laws.{Greatest, NewestIsNewest}
use Rattle.ledgers.proofs.Greatest.{one-greatest, greatest-like}
use Rattle.ledgers.proofs.Fetches.{fetched-in}

-- the set of version u meets the items, where the first of the sets is that of the version after `low`
abbrev met : List Bool → ℕ → List (List Write) → ℕ → Bool
met items low ss u = meets items (get_or ss (u - (low + 1)) [])

newest-in : (items : List Bool) (low : ℕ) (ss : List (List Write)) → Greatest (met items low ss) low (low + length ss) (newest_in (low + 1) ss items)
newest-in items low [] = λ u lo hi. absurd (omega arith)
newest-in items low (s ∷ ss) = go (newest_in (low + 1 + 1) ss items) (newest-in items (low + 1) ss)
  where
    first : met items low (s ∷ ss) (low + 1) ≡ meets items s
    first = let e : low + 1 - (low + 1) ≡ 0 = omega arith in grind arith

    rest : (u : ℕ) → low + 1 < u → met items low (s ∷ ss) u ≡ met items (low + 1) ss u
    rest u lo = let e : u - (low + 1) ≡ suc (u - (low + 1 + 1)) = omega arith in grind arith

    go : (r : Option ℕ) → Greatest (met items (low + 1) ss) (low + 1) (low + 1 + length ss) r
        → Greatest (met items low (s ∷ ss)) low (low + length (s ∷ ss)) (elim r [ Some n ↦ Some n | None ↦ cond (meets items s) (Some (low + 1)) None ])
    go (Some n) h = (omega (arith, h.0), omega (arith, h.1), rest n h.0 ∙ h.2, λ u lo hi. grind (arith, rest u, h.3 u))
    go None h =
        cond_both (meets items s) (Some (low + 1)) None (Greatest (met items low (s ∷ ss)) low (low + length (s ∷ ss)))
        (λ here. (omega arith, omega arith, first ∙ here, λ u lo hi. grind (arith, rest u, h u)))
        (λ none. λ u lo hi. grind (arith, first, rest u, h u))

module _ (m : LedgerModel) (snapshot : ℕ) (items : List Bool) (low : m.floor ≤ snapshot) where
  newest-is : Greatest (λ u. meets items (fetched m u)) snapshot (head_of m) (newest m snapshot items)
  newest-is =
      let n = length-drop (snapshot - m.floor) m.sets in
      greatest-like (met items snapshot (drop (snapshot - m.floor) m.sets)) (λ u. meets items (fetched m u)) snapshot
      (snapshot + length (drop (snapshot - m.floor) m.sets)) (head_of m) (newest m snapshot items)
      (λ u lo hi. omega arith)
      (λ u lo hi. (omega arith, grind (arith, fetched-in m u, get_or-drop (snapshot - m.floor) m.sets (u - (snapshot + 1)) [])))
      (newest-in items snapshot (drop (snapshot - m.floor) m.sets))

  -- what is found to be the greatest is the answer
  pub newest-told : (r : Option ℕ) → Greatest (λ u. meets items (fetched m u)) snapshot (head_of m) r → r ≡ newest m snapshot items
  newest-told r h = one-greatest _ _ _ _ _ h newest-is

-- no set of a version above v meets the items
abbrev pub NoneAbove : LedgerModel → List Bool → ℕ → Type 0
NoneAbove m items v = (u : ℕ) → v < u → u ≤ head_of m → meets items (fetched m u) ≡ false

-- a search from the head down, at version v
module _ (m : LedgerModel) (items : List Bool) (v : ℕ) (none : NoneAbove m items v) where
  pub search-miss : meets items (fetched m v) ≡ false → NoneAbove m items (v - 1)
  search-miss here u lo hi = grind (arith, none u)

  module _ (snapshot : ℕ) (low : m.floor ≤ snapshot) where
    pub search-hit : v ≤ head_of m → snapshot < v → meets items (fetched m v) ≡ true → Some v ≡ newest m snapshot items
    search-hit top lo here = newest-told m snapshot items low (Some v) (lo, top, here, none)

    pub search-end : v ≤ snapshot → None ≡ newest m snapshot items
    search-end h = newest-told m snapshot items low None (λ u lo hi. none u (omega arith) hi)

pub newest-is-newest : NewestIsNewest
newest-is-newest m snapshot items r low e =
    let same : newest m snapshot items ≡ r = grind (arith, nat_tests) in
    subst (λ (o : Option ℕ). Greatest (λ u. meets items (fetched m u)) snapshot (head_of m) o) same (newest-is m snapshot items low)
