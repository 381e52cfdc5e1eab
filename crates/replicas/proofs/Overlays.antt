-- Contents with writes laid over them.
use Rattle.std.proofs.Common.{◌≡◌, ℕ, ◌<◌, true, false, cond, eqb, List, [], ◌∷◌, ◌++◌, length, get_or, set, sym, refl, ap, ◌∙◌, arith}
use Rattle.std.proofs.lemmas.List.{length-set, get_or-set_same, get_or-set_other, set_comm, append_assoc, append-nil}
use Rattle.std.proofs.lemmas.Bool.{cond_both, eqb-true, eqb-false, and_parts, or_parts}
use Rattle.entries.specs.declared.writes.Write.{Write}
use Rattle.entries.specs.Rising.{rising}
use Rattle.entries.specs.Writes.{names}
use Rattle.entries.proofs.Puts.{names-above, rising-rest}
use Rattle.replicas.specs.Overlay.{over, overs, joined, laid, newest_word_of, oldest_word_of}
use Rattle.replicas.specs.Kept.{all_rising}
pub use Rattle.replicas.specs.Undone.{length_over, over-append}

pub laid-append : (c : List ℕ) (xs ys : List Write) → laid c (xs ++ ys) ≡ laid (laid c xs) ys
laid-append c [] ys = refl
laid-append c (x ∷ xs) ys = laid-append (set c x.item x.word) xs ys

pub joined-push : (ss : List (List Write)) (s : List Write) → joined (ss ++ (s ∷ [])) ≡ joined ss ++ s
joined-push [] s = append-nil s
joined-push (t ∷ ss) s = ap (λ x. t ++ x) (joined-push ss s) ∙ sym (append_assoc t (joined ss) s)

-- one element after a write
pub get_or-set : {T : Type 0} → (xs : List T) (i k : ℕ) (v d : T) → k < length xs → get_or (set xs i v) k d ≡ cond (eqb i k) v (get_or xs k d)
get_or-set xs i k v d h =
    cond_both (eqb i k) v (get_or xs k d) (λ z. get_or (set xs i v) k d ≡ z)
    (λ e. let q : i ≡ k = eqb-true i k e in rw q (get_or-set_same xs k v d h))
    (λ e. get_or-set_other xs i k v d (λ q. eqb-false i k e (sym q)))

-- an item has the word of its first write, or else what it had
pub get_or-over : (c : List ℕ) (ws : List Write) (k : ℕ) → k < length c → get_or (over c ws) k 0 ≡ oldest_word_of ws k (get_or c k 0)
get_or-over c [] k h = refl
get_or-over c (w ∷ ws) k h =
    get_or-set (over c ws) w.item k w.word 0 (rw length_over h) ∙ ap (cond (eqb w.item k) w.word) (get_or-over c ws k h)

-- laid one by one, that of its last write
get_or-laid : (c : List ℕ) (ws : List Write) (k : ℕ) → k < length c → get_or (laid c ws) k 0 ≡ newest_word_of ws k (get_or c k 0)
get_or-laid c [] k h = refl
get_or-laid c (w ∷ ws) k h = get_or-laid (set c w.item w.word) ws k (rw length-set h) ∙ ap (newest_word_of ws k) (get_or-set c w.item k w.word 0 h)

-- where each item is written once, the order does not matter
set-laid : (c : List ℕ) (ws : List Write) (i x : ℕ) → names ws i ≡ false → set (laid c ws) i x ≡ laid (set c i x) ws
set-laid c [] i x n = refl
set-laid c (w ∷ ws) i x n =
    let p = or_parts (eqb w.item i) (names ws i) n in
    set-laid (set c w.item w.word) ws i x p.1 ∙ ap (λ d. laid d ws) (set_comm c w.item i w.word x (eqb-false _ _ p.0))

pub over-laid : (c : List ℕ) (ws : List Write) → rising ws ≡ true → over c ws ≡ laid c ws
over-laid c [] r = refl
over-laid c (w ∷ ws) r =
    ap (λ d. set d w.item w.word) (over-laid c ws (rising-rest w ws r))
    ∙ set-laid c ws w.item w.word (names-above w.item w.item ws (omega arith) r)

pub overs-laid : (c : List ℕ) (ss : List (List Write)) → all_rising ss ≡ true → overs c ss ≡ laid c (joined ss)
overs-laid c [] r = refl
overs-laid c (s ∷ ss) r =
    let p = and_parts (rising s) (all_rising ss) r in
    overs-laid (over c s) ss p.1 ∙ ap (λ d. laid d (joined ss)) (over-laid c s p.0) ∙ sym (laid-append c s (joined ss))

pub get_or-overs : (c : List ℕ) (ss : List (List Write)) (k : ℕ) → all_rising ss ≡ true → k < length c → get_or (overs c ss) k 0 ≡ newest_word_of (joined ss) k (get_or c k 0)
get_or-overs c ss k r h = ap (λ d. get_or d k 0) (overs-laid c ss r) ∙ get_or-laid c (joined ss) k h
