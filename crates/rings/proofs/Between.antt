-- The items of a list from a place up to another.
use Rattle.std.proofs.Common.{◌≡◌, ℕ, ◌-◌, min, List, ◌++◌, length, take, drop, arith, rules}
use Rattle.std.proofs.lemmas.List.{places, same_lists}
use Rattle.std.proofs.lemmas.Bool.Decides.{nat_tests}
use Rattle.rings.specs.Held.{between}

-- both places may be clipped by the length
pub between-clipped : {T : Type 0} (xs : List T) (from to : ℕ)
    → take (min to (length xs) - min from (min to (length xs))) (drop (min from (min to (length xs))) xs) ≡ between from to xs
between-clipped xs from to = same_lists _ _ (search (rules, places)) (λ k d l. grind (arith, nat_tests, places))

-- of two lists end to end: the part in the first, and then the part in the second
pub between-append : {T : Type 0} (xs ys : List T) (from to : ℕ)
    → between from to xs ++ between (from - length xs) (to - length xs) ys ≡ between from to (xs ++ ys)
between-append xs ys from to = same_lists _ _ (search (rules, places)) (λ k d l. grind (arith, nat_tests, places))

-- of the first `len`
pub between-take : {T : Type 0} (xs : List T) (len from to : ℕ) → between from (min to len) xs ≡ between from to (take len xs)
between-take xs len from to = same_lists _ _ (search (rules, places)) (λ k d l. grind (arith, nat_tests, places))
