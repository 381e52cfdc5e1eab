-- Write lists laid over contents.
use Rattle.std.proofs.Common.{◌≡◌, ℕ, ◌<◌, eqb, ltb, List, [], ◌∷◌, ◌++◌, length, set, sym, refl, ap, ◌∙◌, arith}
use Rattle.std.specs.List.{AllByRecursion}
use Rattle.std.proofs.lemmas.List.{set-append_left, set-set, set_comm}
use Rattle.std.proofs.lemmas.Bool.{eqb-true, ltb-true, cond_both}
use Rattle.entries.specs.declared.writes.Write.{Write}
use Rattle.entries.specs.Writes.{put_in}
use Rattle.replicas.specs.Overlay.{over, overs}
use Rattle.replicas.proofs.Overlays.{length_over}

-- every item of the list is below m
abbrev pub Within : ℕ → List Write → Type 0
Within m ws = AllByRecursion (λ (w : Write). w.item < m) ws

pub length-overs : (c : List ℕ) (ss : List (List Write)) → length (overs c ss) ≡ length c
length-overs c [] = refl
length-overs c (s ∷ ss) = length-overs (over c s) ss ∙ length_over c s

-- a list that writes below xs leaves what comes after
pub over-front : (xs ys : List ℕ) (ws : List Write) → Within (length xs) ws → over (xs ++ ys) ws ≡ over xs ws ++ ys
over-front xs ys [] h = refl
over-front xs ys (w ∷ ws) h =
    ap (λ (z : List ℕ). set z w.item w.word) (over-front xs ys ws h.1)
    ∙ set-append_left (over xs ws) ys w.item w.word (rw length_over h.0)

-- one more write put into the list is one more write over the contents
pub over-put : (c : List ℕ) (ws : List Write) (i x : ℕ) → over c (put_in ws i x) ≡ set (over c ws) i x
over-put c [] i x = refl
over-put c (w ∷ ws) i x =
    cond_both (ltb w.item i) _ _ (λ z. over c z ≡ set (over c (w ∷ ws)) i x)
    (λ l.
    ap (λ (z : List ℕ). set z w.item w.word) (over-put c ws i x)
    ∙ set_comm (over c ws) i w.item x w.word (λ e. let b = ltb-true w.item i l in absurd (omega arith)))
    (λ _.
    cond_both (eqb w.item i) _ _ (λ z. over c z ≡ set (over c (w ∷ ws)) i x)
    (λ e. let q : w.item ≡ i = eqb-true w.item i e in rw q (sym (set-set (over c ws) i w.word x)))
    (λ _. refl))
