-- What the passes over the records of a ring and the writes of a set find.
use Rattle.std.proofs.Common.{◌≡◌, ℕ, zero, suc, ◌+◌, ◌≤◌, ◌<◌, Bool, true, false, cond, eqb, leb, List, [], ◌∷◌, ◌++◌, map, length, take, drop, reverse, Some, None, Option, sym, refl, ap, ◌∙◌, subst, ⊎_elim, one-add, arith}
use Rattle.std.specs.List.{find, prefix_len}
use Rattle.std.specs.List.Sorted.{IsNonDecreasingBy, IsPartitionPoint}
use Rattle.std.specs.Option.{option_map_or, option_or}
use Rattle.std.proofs.lemmas.List.{reverse-append, drop_at, length-append, get_or_append_left, get_or-append-add}
use Rattle.std.proofs.lemmas.List.Folds.{find-append, prefix_len-append}
use Rattle.std.proofs.lemmas.List.Sums.{prefix_len-le-length, prefix_len_passes, prefix_len_stops}
use Rattle.std.proofs.Math.Seq.{take-append_seam}
use Rattle.std.proofs.lemmas.List.Sorted.{IsNonDecreasingBy-drop, IsNonDecreasingBy-take}
use Rattle.std.proofs.lemmas.Bool.{cases_lt, cond-true, cond-false, eq-eqb, leb-true, leb-false}
use Rattle.std.proofs.lemmas.Bool.Decides.{nat_tests}
use Rattle.replicas.specs.declared.records.Record.{Record}
use Rattle.replicas.specs.Overlay.{newest_word_of, oldest_word_of}
use Rattle.replicas.specs.Records.{plain, upto, no_record}

-- the word of a record that is found, or else another
abbrev pub found : Option Record → ℕ → ℕ
found o word = option_map_or (λ r. r.word) o word

found-or : (a b : Option Record) (word : ℕ) → found (option_or a b) word ≡ found a (found b word)
found-or (Some r) b word = refl
found-or None b word = refl

found-cond : (b : Bool) (r : Record) (o : Option Record) (word : ℕ) → found (cond b (Some r) o) word ≡ cond b r.word (found o word)
found-cond true r o word = refl
found-cond false r o word = refl

found-one : (r : Record) (item word : ℕ) → found (find (λ s. eqb s.item item) (r ∷ [])) word ≡ cond (eqb r.item item) r.word word
found-one r item word = found-cond (eqb r.item item) r None word

pub newest-found : (rs : List Record) (item word : ℕ) → found (find (λ s. eqb s.item item) (reverse rs)) word ≡ newest_word_of (map plain rs) item word
newest-found [] item word = refl
newest-found (r ∷ rs) item word =
    ap (λ xs. found (find (λ s. eqb s.item item) xs) word) (reverse-append (r ∷ []) rs)
    ∙ ap (λ o. found o word) (find-append (λ s. eqb s.item item) (reverse rs) (r ∷ []))
    ∙ found-or (find (λ s. eqb s.item item) (reverse rs)) (find (λ s. eqb s.item item) (r ∷ [])) word
    ∙ ap (found (find (λ s. eqb s.item item) (reverse rs))) (found-one r item word)
    ∙ newest-found rs item (cond (eqb r.item item) r.word word)

pub oldest-found : (rs : List Record) (item word : ℕ) → found (find (λ s. eqb s.item item) rs) word ≡ oldest_word_of (map plain rs) item word
oldest-found [] item word = refl
oldest-found (r ∷ rs) item word = found-cond (eqb r.item item) r (find (λ s. eqb s.item item) rs) word ∙ ap (cond (eqb r.item item) r.word) (oldest-found rs item word)

-- an index that parts a list by a test is how many elements come before the first that fails it
pub point-is : {X : Type 0} (p : X → Bool) (xs : List X) (i : ℕ) → i ≤ length xs → IsPartitionPoint (λ y. p y ≡ true) (λ y. p y ≡ false) xs i → i ≡ prefix_len p xs
point-is p [] i h q = omega arith
point-is p (x ∷ xs) zero h q = sym (cond-false _ _ _ (q.1 0 x (omega arith) (omega arith)))
point-is p (x ∷ xs) (suc i) h q =
    let rest = point-is p xs i (omega arith) (λ k d l m. q.0 (suc k) d (omega arith) (omega arith), λ k d l m. q.1 (suc k) d (omega arith) (omega arith)) in
    ap suc rest ∙ sym (cond-true _ _ _ (q.0 0 x (omega arith) (omega arith)) ∙ one-add (prefix_len p xs))

-- a list whose numbers do not fall, in two parts: nor do those of the second
pub rises-right : {X : Type 0} (n : X → ℕ) (xs ys zs : List X) → xs ++ ys ≡ zs → IsNonDecreasingBy n zs → IsNonDecreasingBy n ys
rises-right n xs ys zs is r =
    subst (IsNonDecreasingBy n) (ap (drop (length xs)) (sym is) ∙ drop_at xs ys (length xs) refl) (IsNonDecreasingBy-drop n (length xs) zs r)

-- a list whose numbers do not fall, in two parts: nor do those of the first
pub rises-left : {X : Type 0} (n : X → ℕ) (xs ys zs : List X) → xs ++ ys ≡ zs → IsNonDecreasingBy n zs → IsNonDecreasingBy n xs
rises-left n xs ys zs is r =
    subst (IsNonDecreasingBy n) (ap (take (length xs)) (sym is) ∙ take-append_seam xs ys) (IsNonDecreasingBy-take n (length xs) zs r)

-- where the second part begins with no record up to a version, all that are lie in the first
pub upto-first : (to : ℕ) (xs ys zs : List Record) → xs ++ ys ≡ zs → upto to ys ≡ 0 → upto to zs ≡ upto to xs
upto-first to xs ys zs is none =
    let a = prefix_len-append (λ r. leb r.version to) xs ys in
    let b = prefix_len-le-length (λ r. leb r.version to) xs in
    ap (upto to) (sym is) ∙ grind (arith, nat_tests)

-- where it begins with one, all of the first part come before it
pub upto-second : (to : ℕ) (xs ys zs : List Record) → xs ++ ys ≡ zs → IsNonDecreasingBy (λ r. r.version) zs → 0 < upto to ys → upto to zs ≡ length xs + upto to ys
upto-second to xs ys zs is r some =
    let b = prefix_len-le-length (λ r. leb r.version to) xs in
    let full : upto to xs ≡ length xs =
    ⊎_elim
    (λ (less : upto to xs < length xs).
    let m = length-append xs ys in
    let n = prefix_len-le-length (λ r. leb r.version to) ys in
    let low = leb-false _ _ (prefix_len_stops (λ r. leb r.version to) xs no_record less) in
    let high = leb-true _ _ (prefix_len_passes (λ r. leb r.version to) ys 0 no_record some) in
    let up = subst (IsNonDecreasingBy (λ r. r.version)) (sym is) r (upto to xs) (length xs + 0) no_record (omega arith) (omega arith) in
    absurd (omega (arith, ap (λ x. x.version) (get_or_append_left xs ys no_record (upto to xs) less), ap (λ x. x.version) (get_or-append-add xs ys 0 no_record))))
    (λ (more : length xs ≤ upto to xs). omega arith) (cases_lt (upto to xs) (length xs)) in
    ap (upto to) (sym is) ∙ prefix_len-append (λ r. leb r.version to) xs ys ∙ cond-true _ _ _ (eq-eqb _ _ full)
