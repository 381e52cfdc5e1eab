-- Which items a transaction reads and writes, told by its operations and by its slot.
use Rattle.std.proofs.Common.{◌≡◌, ℕ, zero, suc, ◌<◌, ◌≤◌, Bool, true, false, ◌||◌, eqb, ltb, List, [], ◌∷◌, ◌++◌, length, set, replicate, Some, None, sym, refl, ap, ◌∙◌, ⊎_elim, arith}
use mathlib.Core.Bool.{or_assoc}
use Rattle.std.proofs.lemmas.List.{length-set, get_or-set_same, get_or-set_other, get_or_past}
use Rattle.std.proofs.lemmas.Bool.{cond_both, cases_eq, cases_lt, eqb-true, eq-eqb, ne_eqb, or_from, or_left, or_parts, both_ways}
use Rattle.std.proofs.Math.Bool.{or-false, or_comm}
use Rattle.entries.specs.declared.writes.Write.{Write}
use Rattle.entries.specs.Writes.{names, word_of, put_in}
use Rattle.entries.specs.Items.{has, with_items}
use Rattle.entries.proofs.Flags.{has-union}
use Rattle.ledgers.specs.Model.{meets}
use Rattle.law.specs.History.{Operation}
use Rattle.law.specs.History.Operation.{shown, put}
use Rattle.law.specs.Certification.{touches, writes_one_of}
use Rattle.law.proofs.Overlay.{Within}

or-known : (a b : Bool) → (b ≡ true → a ≡ true) → a ≡ (a || b)
or-known true b f = refl
or-known false true f = f refl
or-known false false f = refl

or-late : (a b c : Bool) → ((a || b) || c) ≡ ((a || c) || b)
or-late true b c = refl
or-late false b c = or_comm b c

-- the list writes one of some items
abbrev pub names_by : (ℕ → Bool) → List Write → Bool
names_by P [] = false
names_by P (w ∷ ws) = P w.item || names_by P ws

pub meets-by : (items : List Bool) (ws : List Write) → meets items ws ≡ names_by (has items) ws
meets-by items [] = refl
meets-by items (w ∷ ws) = ap (λ z. has items w.item || z) (meets-by items ws)

pub names-by : (ws : List Write) (i : ℕ) → names ws i ≡ names_by (λ j. eqb j i) ws
names-by [] i = refl
names-by (w ∷ ws) i = ap (λ z. eqb w.item i || z) (names-by ws i)

pub names-put : (P : ℕ → Bool) (ws : List Write) (i x : ℕ) → names_by P (put_in ws i x) ≡ (names_by P ws || P i)
names-put P [] i x = or-false (P i)
names-put P (w ∷ ws) i x =
    cond_both (ltb w.item i) _ _ (λ z. names_by P z ≡ (names_by P (w ∷ ws) || P i))
    (λ _. ap (λ z. P w.item || z) (names-put P ws i x) ∙ sym (or_assoc (P w.item) (names_by P ws) (P i)))
    (λ _.
    cond_both (eqb w.item i) _ _ (λ z. names_by P z ≡ (names_by P (w ∷ ws) || P i))
    (λ e. let q : w.item ≡ i = eqb-true w.item i e in rw q (or-known (P i || names_by P ws) (P i) (or_left (P i) (names_by P ws))))
    (λ _. or_comm (P i) (P w.item || names_by P ws)))

-- a list has a word for the items that it names, and for no others
pub word-named : (ws : List Write) (i x : ℕ) → word_of ws i ≡ Some x → names ws i ≡ true
word-named [] i x = λ e. let z : ◌≡◌ {A = ℕ} 0 1 = cc in absurd (omega arith)
word-named (w ∷ ws) i x =
    cond_both (eqb w.item i) (Some w.word) (word_of ws i) (λ z. z ≡ Some x → names (w ∷ ws) i ≡ true)
    (λ e _. rw e)
    (λ e q. rw e (word-named ws i x q))

pub unnamed-word : (ws : List Write) (i : ℕ) → names ws i ≡ false → word_of ws i ≡ None
unnamed-word [] i e = refl
unnamed-word (w ∷ ws) i e = let es = or_parts (eqb w.item i) (names ws i) e in rw es.0 (unnamed-word ws i es.1)

-- a list that meets none of the items has a word for none of them
pub unmet-word : (items : List Bool) (ws : List Write) (i : ℕ) → meets items ws ≡ false → has items i ≡ true → word_of ws i ≡ None
unmet-word items [] i e h = refl
unmet-word items (w ∷ ws) i e h =
    let es = or_parts (has items w.item) (meets items ws) e in
    let ne : eqb w.item i ≡ false = ne_eqb w.item i (λ q. both_ways (has items i) (rw q at es.0) h) in
    rw ne (unmet-word items ws i es.1 h)

-- flags
pub has-none : (n i : ℕ) → has (replicate n false) i ≡ false
has-none zero i = refl
has-none (suc n) zero = refl
has-none (suc n) (suc i) = has-none n i

pub has-set : (items : List Bool) (i j : ℕ) → i < length items → has (set items i true) j ≡ (has items j || eqb i j)
has-set items i j h =
    ⊎_elim
    (λ (e : j ≡ i).
    ap (has (set items i true)) e ∙ get_or-set_same items i true false h
    ∙ sym (ap (λ z. has items j || z) (eq-eqb i j (sym e)) ∙ or_comm (has items j) true))
    (λ (e : j ≡ i → ⊥).
    get_or-set_other items i j true false e ∙ sym (ap (λ z. has items j || z) (ne_eqb i j (λ q. e (sym q))) ∙ or-false (has items j)))
    (cases_eq j i)

pub has_more : (items : List Bool) (i j : ℕ) → i < length items → has items j ≡ true → has (set items i true) j ≡ true
has_more items i j h e = has-set items i j h ∙ ap (λ z. z || eqb i j) e

length-with : (items : List Bool) (ws : List Write) → length (with_items items ws) ≡ length items
length-with items [] = refl
length-with items (w ∷ ws) = length-with (set items w.item true) ws ∙ length-set items w.item true

unnamed-past : (n i : ℕ) (ws : List Write) → Within n ws → n ≤ i → names ws i ≡ false
unnamed-past n i [] h l = refl
unnamed-past n i (w ∷ ws) h l = or_from _ _ (ne_eqb w.item i (λ e. let a = h.0 in absurd (omega arith))) (unnamed-past n i ws h.1 l)

-- the items read or written
pub has-with : (items : List Bool) (ws : List Write) (i : ℕ) → Within (length items) ws → has (with_items items ws) i ≡ (has items i || names ws i)
has-with items ws i h =
    ⊎_elim (λ (l : i < length items). has-union items ws i l)
    (λ (l : length items ≤ i).
    get_or_past (with_items items ws) i false (let n = length-with items ws in omega arith)
    ∙ sym (or_from (has items i) (names ws i) (get_or_past items i false l) (unnamed-past (length items) i ws h l)))
    (cases_lt i (length items))

module _ {V : Type 0} where
  pub writes_more : (P : ℕ → Bool) (xs ys : List (Operation V)) → writes_one_of P (xs ++ ys) ≡ (writes_one_of P xs || writes_one_of P ys)
  writes_more P [] ys = refl
  writes_more P (shown j v ∷ xs) ys = writes_more P xs ys
  writes_more P (put j v ∷ xs) ys = ap (λ z. P j || z) (writes_more P xs ys) ∙ sym (or_assoc (P j) (writes_one_of P xs) (writes_one_of P ys))

  pub touches-more : (xs ys : List (Operation V)) (i : ℕ) → touches (xs ++ ys) i ≡ (touches xs i || touches ys i)
  touches-more [] ys i = refl
  touches-more (shown j v ∷ xs) ys i = ap (λ z. eqb j i || z) (touches-more xs ys i) ∙ sym (or_assoc (eqb j i) (touches xs i) (touches ys i))
  touches-more (put j v ∷ xs) ys i = ap (λ z. eqb j i || z) (touches-more xs ys i) ∙ sym (or_assoc (eqb j i) (touches xs i) (touches ys i))

  -- one more operation touches one more item
  touches-one : (ops : List (Operation V)) (op : Operation V) (i : ℕ) (t : Bool) → touches (op ∷ []) i ≡ (t || false) → touches (ops ++ (op ∷ [])) i ≡ (touches ops i || t)
  touches-one ops op i t e = touches-more ops (op ∷ []) i ∙ ap (λ z. touches ops i || z) (e ∙ or-false t)

  module _ (ws : List Write) (items : List Bool) (ops : List (Operation V)) (touching : (j : ℕ) → (has items j || names ws j) ≡ touches ops j) (i : ℕ) where
    -- a read of an item that was written touches nothing new
    pub touching-own : (x : ℕ) (v : V) → word_of ws i ≡ Some x → (j : ℕ) → (has items j || names ws j) ≡ touches (ops ++ (shown i v ∷ [])) j
    touching-own x v e j =
        touching j
        ∙ or-known (touches ops j) (eqb i j)
        (λ q. sym (touching j) ∙ ap (λ z. has items j || z) (ap (names ws) (sym (eqb-true i j q)) ∙ word-named ws i x e) ∙ or_comm (has items j) true)
        ∙ sym (touches-one ops (shown i v) j (eqb i j) refl)

    -- a read of another item joins the items read
    pub touching-read : (v : V) → i < length items → (j : ℕ) → (has (set items i true) j || names ws j) ≡ touches (ops ++ (shown i v ∷ [])) j
    touching-read v l j =
        ap (λ z. z || names ws j) (has-set items i j l) ∙ or-late (has items j) (eqb i j) (names ws j)
        ∙ ap (λ z. z || eqb i j) (touching j) ∙ sym (touches-one ops (shown i v) j (eqb i j) refl)

    -- a write is in the list
    pub touching-put : (x : ℕ) (v : V) (j : ℕ) → (has items j || names (put_in ws i x) j) ≡ touches (ops ++ (put i v ∷ [])) j
    touching-put x v j =
        ap (λ z. has items j || z)
        (names-by (put_in ws i x) j ∙ names-put (λ a. eqb a j) ws i x ∙ ap (λ z. z || eqb i j) (sym (names-by ws j)))
        ∙ sym (or_assoc (has items j) (names ws j) (eqb i j)) ∙ ap (λ z. z || eqb i j) (touching j)
        ∙ sym (touches-one ops (put i v) j (eqb i j) refl)
