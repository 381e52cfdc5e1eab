-- What stands at an item's place in a list of rising items.
use Rattle.std.proofs.Common.{◌≡◌, ◌≢◌, ℕ, zero, suc, ◌<◌, ◌≤◌, true, false, eqb, ltb, List, [], ◌∷◌, length, get_or, inl, inr, refl, arith}
use Rattle.std.proofs.lemmas.List.Recursion.{or_at, or_from_places}
use Rattle.std.proofs.lemmas.List.Sums.{prefix_len_passes, prefix_len_stops}
use Rattle.std.proofs.lemmas.Bool.{cases_eq, cases_lt, eq-eqb, ne_eqb, ltb-true, ltb-false}
use Rattle.std.proofs.lemmas.Bool.Decides.{nat_tests}
use Rattle.entries.specs.declared.writes.Write.{Write}
use Rattle.entries.specs.Rising.{rising, rises_above}
use Rattle.entries.specs.Writes.{names, place}
use Rattle.entries.proofs.Blanks.{no_write}
use Rattle.entries.proofs.Puts.{rising-rest}

-- the item of the write at a place
abbrev item_at : List Write → ℕ → ℕ
item_at ws k = (get_or ws k no_write).item

-- every item is above a bound that the items rise above
above-at : (low : ℕ) (ws : List Write) (k : ℕ) → rises_above low ws ≡ true → k < length ws → low < item_at ws k
above-at low [] k r h = absurd (omega arith)
above-at low (w ∷ ws) zero r h = grind (arith, nat_tests)
above-at low (w ∷ ws) (suc k) r h = grind (arith, nat_tests, above-at w.item ws k)

-- a later item is greater
later-above : (ws : List Write) (j k : ℕ) → rising ws ≡ true → j < k → k < length ws → item_at ws j < item_at ws k
later-above [] j k r h l = absurd (omega arith)
later-above (w ∷ ws) j zero r h l = absurd (omega arith)
later-above (w ∷ ws) zero (suc k) r h l = above-at w.item ws k r (omega arith)
later-above (w ∷ ws) (suc j) (suc k) r h l = later-above ws j k (rising-rest w ws r) (omega arith) (omega arith)

-- a write of the item stands in the list
pub item-there : (ws : List Write) (i at : ℕ) → at < length ws → item_at ws at ≡ i → names ws i ≡ true
item-there ws i at h is = or_at (λ vs. names vs i) (λ w. eqb w.item i) refl (λ _ _. refl) ws at no_write h (eq-eqb _ _ is)

-- where no write of the item stands at its place, none stands anywhere
module _ (ws : List Write) (r : rising ws ≡ true) (i at : ℕ) (is : at ≡ place ws i) (past : at < length ws → item_at ws at ≢ i) where
  -- its place is past all lesser items
  least : at < length ws → i ≤ item_at ws at
  least l = rw is (ltb-false _ _ (prefix_len_stops (λ w. ltb w.item i) ws no_write (omega arith)))

  -- the writes before its place are of lesser items, and those after it of greater ones
  another : (k : ℕ) → k < length ws → item_at ws k ≢ i
  another k l e =
      elim (cases_lt k at) [
        | inl lt ↦ omega (arith, ltb-true _ _ (prefix_len_passes (λ w. ltb w.item i) ws k no_write (omega arith)))
        | inr ge ↦ elim (cases_eq k at) [
          | inl same ↦ past (omega arith) (rw (← same) e)
          | inr differs ↦ omega (arith, later-above ws at k r (omega arith) l, least (omega arith))
        ]
      ]

  pub item-nowhere : names ws i ≡ false
  item-nowhere = or_from_places (λ vs. names vs i) (λ w. eqb w.item i) refl (λ _ _. refl) ws no_write (λ k l. ne_eqb _ _ (another k l))
