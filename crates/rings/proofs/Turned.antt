-- Lists that are read from a place on, and then from their front.
use Rattle.std.proofs.Common.{◌≡◌, ℕ, ◌+◌, ◌-◌, ◌<◌, min, List, [], ◌∷◌, ◌++◌, length, take, drop, set, arith, rules}
use Rattle.std.proofs.lemmas.List.{places, length-set, get_or-set_same, get_or-set_other, same_lists}
use Rattle.std.proofs.lemmas.Bool.{cases_eq}
use Rattle.std.proofs.lemmas.Bool.Decides.{nat_tests}
use Rattle.rings.specs.Held.{turned, placed}

-- a write right after the first len items
pub turned-push : {T : Type 0} (first : ℕ) (cells : List T) (len : ℕ) (x : T) → len < length cells
    → take (len + 1) (turned first (set cells (placed first (length cells) len) x)) ≡ take len (turned first cells) ++ (x ∷ [])
turned-push first cells len x h =
    same_lists _ _ (grind (arith, places, length-set))
    (λ k d l. grind (arith, nat_tests, places, length-set, get_or-set_same, get_or-set_other, cases_eq k len))

-- the first len items without the n in front, none where there are fewer
pub turned-drop : {T : Type 0} (first : ℕ) (cells : List T) (len n : ℕ)
    → take (min len (length cells) - n) (turned (placed first (length cells) (min n (min len (length cells)))) cells) ≡ drop n (take len (turned first cells))
turned-drop first cells len n = same_lists _ _ (search (rules, places)) (λ k d l. grind (arith, nat_tests, places))
