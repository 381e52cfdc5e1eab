-- One write put at the end of the first ones, and then turned into its place.
use Rattle.std.proofs.Common.{◌≡◌, ℕ, ◌+◌, ◌-◌, ◌<◌, ◌≤◌, List, ◌++◌, length, take, drop, set, arith}
use borrow.Rule.Slice.PartMut.{mid_of, put_mid}
use Rattle.std.specs.List.{insert}
use Rattle.std.proofs.lemmas.List.{places, same_lists, length-set, get_or-set_same, get_or-set_other}
use Rattle.std.proofs.lemmas.Bool.{cases_eq}
use Rattle.std.proofs.lemmas.Bool.Decides.{nat_tests}

module _ {X : Type 0} (xs : List X) (len at : ℕ) (w : X) (ys : List X) (le : at ≤ len) (room : len < length xs) where
  -- the part that is turned
  abbrev mid : List X
  mid = mid_of at (len + 1 - at) (set xs len w)

  pub inserted-by-turning : ys ≡ drop (length mid - 1) mid ++ take (length mid - 1) mid
      → take (len + 1) (put_mid at (len + 1 - at) (set xs len w) ys) ≡ insert (take len xs) at w
  inserted-by-turning e = same_lists _ _ (rw e (grind (arith, nat_tests, places, length-set))) (λ k d l. rw e (grind (arith, nat_tests, places, length-set, get_or-set_same, get_or-set_other, cases_eq k len)))
