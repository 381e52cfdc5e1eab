-- Records whose versions never fall are those of the sets that are cut from them.
use Rattle.std.proofs.Common.{◌≡◌, ℕ, zero, suc, ◌+◌, ◌<◌, ◌≤◌, true, false, ◌&&◌, leb, List, [], ◌∷◌, ◌++◌, map, length, get_or, take, drop, sym, refl, ap, ◌∙◌, ⊎_elim, one-add, arith}
use Rattle.std.specs.List.Sorted.{IsNonDecreasingBy}
use Rattle.std.proofs.lemmas.Bool.{cond-true, cond-false, le-leb, leb-true, leb-false, and_parts, and_from, cases_Bool}
use Rattle.std.proofs.lemmas.List.{take-append-drop}
use Rattle.entries.specs.declared.writes.Write.{Write}
use Rattle.replicas.specs.declared.records.Record.{Record}
use Rattle.replicas.specs.Records.{plain, marked, stamped, upto, cut, ordered}

-- the parts of the test at the first record
module _ (low high : ℕ) (r : Record) (rs : List Record) (o : ordered low high (r ∷ rs) ≡ true) where
  first-low : low ≤ r.version
  first-low = leb-true _ _ (and_parts (leb low r.version) (leb r.version high && ordered r.version high rs) o).0

  first-high : r.version ≤ high
  first-high = leb-true _ _ (and_parts (leb r.version high) _ (and_parts (leb low r.version) (leb r.version high && ordered r.version high rs) o).1).0

  rest-ordered : ordered r.version high rs ≡ true
  rest-ordered = (and_parts (leb r.version high) _ (and_parts (leb low r.version) (leb r.version high && ordered r.version high rs) o).1).1

ordered-lower : (low less high : ℕ) (rs : List Record) → less ≤ low → ordered low high rs ≡ true → ordered less high rs ≡ true
ordered-lower low less high [] h o = refl
ordered-lower low less high (r ∷ rs) h o =
    let l = first-low low high r rs o in
    and_from _ _ (le-leb less r.version (omega arith)) (and_from _ _ (le-leb _ _ (first-high low high r rs o)) (rest-ordered low high r rs o))

-- the records of the lowest version
module _ (low high : ℕ) where
  at-lowest : (r : Record) (rs : List Record) → ordered low high (r ∷ rs) ≡ true → leb r.version low ≡ true → r.version ≡ low
  at-lowest r rs o y = let l = first-low low high r rs o in let m = leb-true r.version low y in omega arith

  rest-lowest : (r : Record) (rs : List Record) → ordered low high (r ∷ rs) ≡ true → leb r.version low ≡ true → ordered low high rs ≡ true
  rest-lowest r rs o y = ap (λ v. ordered v high rs) (sym (at-lowest r rs o y)) ∙ rest-ordered low high r rs o

  lowest-marked : (rs : List Record) → ordered low high rs ≡ true → marked low (map plain (take (upto low rs) rs)) ≡ take (upto low rs) rs
  lowest-marked [] o = refl
  lowest-marked (r ∷ rs) o =
      ⊎_elim
      (λ (y : leb r.version low ≡ true).
      let u : upto low (r ∷ rs) ≡ suc (upto low rs) = cond-true _ _ _ y ∙ one-add (upto low rs) in
      let m = lowest-marked rs (rest-lowest r rs o y) in
      let e : r.version ≡ low = at-lowest r rs o y in
      rw u (ap (λ v. record { item = r.item; version = v; word = r.word } ∷ marked low (map plain (take (upto low rs) rs))) (sym e) ∙ ap (λ ts. r ∷ ts) m))
      (λ n. rw (cond-false (leb r.version low) (1 + upto low rs) 0 n))
      (cases_Bool (leb r.version low))

  above-lowest : (rs : List Record) → ordered low high rs ≡ true → ordered (low + 1) high (drop (upto low rs) rs) ≡ true
  above-lowest [] o = refl
  above-lowest (r ∷ rs) o =
      ⊎_elim
      (λ (y : leb r.version low ≡ true).
      let u : upto low (r ∷ rs) ≡ suc (upto low rs) = cond-true _ _ _ y ∙ one-add (upto low rs) in
      rw u (above-lowest rs (rest-lowest r rs o y)))
      (λ (n : leb r.version low ≡ false).
      let h = leb-false r.version low n in
      rw (cond-false (leb r.version low) (1 + upto low rs) 0 n)
      (and_from _ _ (le-leb (low + 1) r.version (omega arith)) (and_from _ _ (le-leb _ _ (first-high low high r rs o)) (rest-ordered low high r rs o))))
      (cases_Bool (leb r.version low))

none_between : (low high : ℕ) (rs : List Record) → high < low → ordered low high rs ≡ true → rs ≡ []
none_between low high [] h o = refl
none_between low high (r ∷ rs) h o = let l = first-low low high r rs o in let m = first-high low high r rs o in absurd (omega arith)

pub stamped-cut : (b n : ℕ) (rs : List Record) → ordered (b + 1) (b + n) rs ≡ true → stamped b (cut b n rs) ≡ rs
stamped-cut b zero rs o = sym (none_between (b + 1) (b + 0) rs (omega arith) o)
stamped-cut b (suc n) rs o =
    let e : (b + 1) + n ≡ b + suc n = omega arith in
    let rest = above-lowest (b + 1) (b + suc n) rs o in
    ap (λ ts. marked (b + 1) (map plain (take (upto (b + 1) rs) rs)) ++ ts) (stamped-cut (b + 1) n (drop (upto (b + 1) rs) rs) (rw e rest))
    ∙ ap (λ ts. ts ++ drop (upto (b + 1) rs) rs) (lowest-marked (b + 1) (b + suc n) rs o)
    ∙ take-append-drop (upto (b + 1) rs) rs

ordered-marked : (low v high : ℕ) (ws : List Write) (rs : List Record) → low ≤ v → v ≤ high → ordered v high rs ≡ true → ordered low high (marked v ws ++ rs) ≡ true
ordered-marked low v high [] rs l h o = ordered-lower v low high rs l o
ordered-marked low v high (w ∷ ws) rs l h o = and_from _ _ (le-leb low v l) (and_from _ _ (le-leb v high h) (ordered-marked v v high ws rs (omega arith) h o))

pub ordered-stamped : (b high : ℕ) (ss : List (List Write)) → b + length ss ≤ high → ordered (b + 1) high (stamped b ss) ≡ true
ordered-stamped b high [] h = refl
ordered-stamped b high (s ∷ ss) h =
    ordered-marked (b + 1) (b + 1) high s (stamped (b + 1) ss) (omega arith) (omega arith)
    (ordered-lower (b + 1 + 1) (b + 1) high (stamped (b + 1) ss) (omega arith) (ordered-stamped (b + 1) high ss (omega arith)))

-- no record is of a version below
ordered-above : (low high : ℕ) (rs : List Record) (k : ℕ) (d : Record) → ordered low high rs ≡ true → k < length rs → low ≤ (get_or rs k d).version
ordered-above low high [] k d o h = absurd (omega arith)
ordered-above low high (r ∷ rs) zero d o h = first-low low high r rs o
ordered-above low high (r ∷ rs) (suc k) d o h =
    let l = first-low low high r rs o in
    let m = ordered-above r.version high rs k d (rest-ordered low high r rs o) (omega arith) in omega arith

pub versions-rise : (low high : ℕ) (rs : List Record) → ordered low high rs ≡ true → IsNonDecreasingBy (λ r. r.version) rs
versions-rise low high [] o i j d l h = absurd (omega arith)
versions-rise low high (r ∷ rs) o zero zero d l h = omega arith
versions-rise low high (r ∷ rs) o zero (suc j) d l h = ordered-above r.version high rs j d (rest-ordered low high r rs o) (omega arith)
versions-rise low high (r ∷ rs) o (suc i) zero d l h = absurd (omega arith)
versions-rise low high (r ∷ rs) o (suc i) (suc j) d l h = versions-rise r.version high rs (rest-ordered low high r rs o) i j d (omega arith) (omega arith)
