-- Laws of the words that writes replaced: laid over the contents after the writes, they give those before.
use Rattle.std.proofs.Common.{◌≡◌, ℕ, zero, suc, ◌<◌, true, false, ◌&&◌, eqb, ltb, leb, List, [], ◌∷◌, ◌++◌, length, get_or, drop, set, sym, refl, ap, ◌∙◌, arith}
use Rattle.std.proofs.lemmas.List.{set-set, set-get_or, get_or-set_same, get_or-set_other}
use Rattle.std.proofs.lemmas.Bool.{eqb-false, leb-false, or_parts}
use Rattle.entries.specs.declared.writes.Write.{Write}
use Rattle.entries.specs.Rising.{rising, rises_above}
use Rattle.entries.specs.Writes.{names}
use Rattle.entries.proofs.Puts.{names-above, rising-rest}
use Rattle.replicas.specs.Overlay.{over, joined, laid, replaced, names_beyond}
use Rattle.replicas.specs.Undos.{reworded, redone}
use Rattle.replicas.proofs.Overlays.{length_over, over-append, joined-push, over-laid}

-- of the words that an item had, the oldest is the one from before all the writes
pub over-replaced : (c : List ℕ) (ws : List Write) → over (laid c ws) (replaced c ws) ≡ c
over-replaced c [] = refl
over-replaced c (w ∷ ws) =
    ap (λ d. set d w.item (get_or c w.item 0)) (over-replaced (set c w.item w.word) ws)
    ∙ set-set c w.item w.word (get_or c w.item 0) ∙ set-get_or c w.item 0

-- ---- the sets as they were written

pub drop-redone : (c : List ℕ) (k : ℕ) (ss : List (List Write)) → redone c (drop k ss) ≡ drop k (redone c ss)
drop-redone c zero ss = refl
drop-redone c (suc k) [] = refl
drop-redone c (suc k) (s ∷ ss) = drop-redone c k ss

-- ---- one more set

reworded-replaced : (c d : List ℕ) (ws : List Write) → reworded c (replaced d ws) ≡ reworded c ws
reworded-replaced c d [] = refl
reworded-replaced c d (w ∷ ws) = ap (λ vs. record { item = w.item; word = get_or c w.item 0 } ∷ vs) (reworded-replaced c (set d w.item w.word) ws)

reworded-set : (c : List ℕ) (i x : ℕ) (ws : List Write) → names ws i ≡ false → reworded (set c i x) ws ≡ reworded c ws
reworded-set c i x [] n = refl
reworded-set c i x (w ∷ ws) n =
    let p = or_parts (eqb w.item i) (names ws i) n in
    ap (λ y. record { item = w.item; word = y } ∷ reworded (set c i x) ws) (get_or-set_other c i w.item x 0 (eqb-false _ _ p.0))
    ∙ ap (λ vs. record { item = w.item; word = get_or c w.item 0 } ∷ vs) (reworded-set c i x ws p.1)

-- writes of different items are all there afterwards
reworded-over : (c : List ℕ) (ws : List Write) → rising ws ≡ true → names_beyond (length c) ws ≡ false → reworded (over c ws) ws ≡ ws
reworded-over c [] r n = refl
reworded-over c (w ∷ ws) r n =
    let p = or_parts (leb (length c) w.item) (names_beyond (length c) ws) n in
    let h : w.item < length (over c ws) = rw length_over (leb-false _ _ p.0) in
    ap (λ x. record { item = w.item; word = x } ∷ reworded (set (over c ws) w.item w.word) ws) (get_or-set_same (over c ws) w.item w.word 0 h)
    ∙ ap (λ vs. w ∷ vs) (reworded-set (over c ws) w.item w.word ws (names-above w.item w.item ws (omega arith) r) ∙ reworded-over c ws (rising-rest w ws r) p.1)

pub over-push : (c : List ℕ) (ss : List (List Write)) (ws : List Write) → over (laid c ws) (joined (ss ++ (replaced c ws ∷ []))) ≡ over c (joined ss)
over-push c ss ws =
    ap (over (laid c ws)) (joined-push ss (replaced c ws)) ∙ over-append (laid c ws) (joined ss) (replaced c ws)
    ∙ ap (λ d. over d (joined ss)) (over-replaced c ws)

pub redone-push : (c : List ℕ) (ss : List (List Write)) (ws : List Write) → rising ws ≡ true → names_beyond (length c) ws ≡ false
    → redone (laid c ws) (ss ++ (replaced c ws ∷ [])) ≡ redone c ss ++ (ws ∷ [])
redone-push c [] ws r n = ap (λ x. x ∷ []) (reworded-replaced (laid c ws) c ws ∙ ap (λ d. reworded d ws) (sym (over-laid c ws r)) ∙ reworded-over c ws r n)
redone-push c (s ∷ ss) ws r n =
    ap (λ d. reworded d s ∷ redone (laid c ws) (ss ++ (replaced c ws ∷ []))) (over-push c ss ws)
    ∙ ap (λ x. reworded (over c (joined ss)) s ∷ x) (redone-push c ss ws r n)

-- the words that a set replaces are of its items
rises-replaced : (low : ℕ) (c : List ℕ) (ws : List Write) → rises_above low (replaced c ws) ≡ rises_above low ws
rises-replaced low c [] = refl
rises-replaced low c (w ∷ ws) = ap (λ b. ltb low w.item && b) (rises-replaced w.item (set c w.item w.word) ws)

pub rising-replaced : (c : List ℕ) (ws : List Write) → rising (replaced c ws) ≡ rising ws
rising-replaced c [] = refl
rising-replaced c (w ∷ ws) = rises-replaced w.item (set c w.item w.word) ws
