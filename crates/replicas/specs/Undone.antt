-- Words that writes replaced, laid back: what an impl shows of undo replicas, proved here since it names no other place.
use Rattle.std.specs.Prelude.{◌≡◌, ℕ, zero, suc, ◌-◌, true, false, List, [], ◌∷◌, ◌++◌, length, take, drop}
use Rattle.std.proofs.Common.{eqb, get_or, set, sym, refl, ap, ◌∙◌, ⊎_elim, arith}
use Rattle.std.proofs.lemmas.List.{length-set, set-set, set_comm, set-get_or, drop_all}
use Rattle.std.proofs.lemmas.Bool.{eqb-true, eqb-false, cases_Bool}
use Rattle.entries.specs.declared.writes.Write.{Write}
use Rattle.replicas.specs.declared.logs.Log.{Log}
use Rattle.replicas.specs.Overlay.{over, overs, joined, sizes}
use Rattle.replicas.specs.Model.{version_of, contents_at}
use Rattle.replicas.specs.Logs.{sets_of, Backs}
use Rattle.replicas.specs.Undos.{reworded, redone, undo_model}

pub length_over : (c : List ℕ) (ws : List Write) → length (over c ws) ≡ length c
length_over c [] = refl
length_over c (w ∷ ws) = length-set (over c ws) w.item w.word ∙ length_over c ws

pub over-append : (c : List ℕ) (xs ys : List Write) → over c (xs ++ ys) ≡ over (over c ys) xs
over-append c [] ys = refl
over-append c (x ∷ xs) ys = ap (λ d. set d x.item x.word) (over-append c xs ys)

-- a word below the others is replaced by the one above them
set-over : (c : List ℕ) (i x y : ℕ) (ws : List Write) → set (over (set c i x) ws) i y ≡ set (over c ws) i y
set-over c i x y [] = set-set c i x y
set-over c i x y (w ∷ ws) =
    ⊎_elim
    (λ (e : eqb w.item i ≡ true).
    let q : w.item ≡ i = eqb-true _ _ e in
    rw q (set-set (over (set c i x) ws) i w.word y ∙ set-over c i x y ws ∙ sym (set-set (over c ws) i w.word y)))
    (λ (n : eqb w.item i ≡ false).
    let q = eqb-false w.item i n in
    set_comm (over (set c i x) ws) w.item i w.word y q ∙ ap (λ d. set d w.item w.word) (set-over c i x y ws) ∙ sym (set_comm (over c ws) w.item i w.word y q))
    (cases_Bool (eqb w.item i))

-- writing the words that are there again undoes the undoing
over-reworded : (c : List ℕ) (ws : List Write) → over (over c ws) (reworded c ws) ≡ c
over-reworded c [] = refl
over-reworded c (w ∷ ws) =
    set-over (over c ws) w.item w.word (get_or c w.item 0) (reworded c ws)
    ∙ ap (λ d. set d w.item (get_or c w.item 0)) (over-reworded c ws) ∙ set-get_or c w.item 0

length-reworded : (c : List ℕ) (ws : List Write) → length (reworded c ws) ≡ length ws
length-reworded c [] = refl
length-reworded c (w ∷ ws) = ap suc (length-reworded c ws)

pub sizes-redone : (c : List ℕ) (ss : List (List Write)) → sizes (redone c ss) ≡ sizes ss
sizes-redone c [] = refl
sizes-redone c (s ∷ ss) = rw (length-reworded, sizes-redone c ss)

pub length-redone : (c : List ℕ) (ss : List (List Write)) → length (redone c ss) ≡ length ss
length-redone c [] = refl
length-redone c (s ∷ ss) = ap suc (length-redone c ss)

-- the contents after the first k sets: the page with the words replaced by the later sets
pub overs-redone : (c : List ℕ) (k : ℕ) (ss : List (List Write)) → overs (over c (joined ss)) (take k (redone c ss)) ≡ over c (joined (drop k ss))
overs-redone c zero ss = refl
overs-redone c (suc k) [] = refl
overs-redone c (suc k) (s ∷ ss) =
    ap (λ d. overs d (take k (redone c ss)))
    (ap (λ d. over d (reworded (over c (joined ss)) s)) (over-append c s (joined ss)) ∙ over-reworded (over c (joined ss)) s)
    ∙ overs-redone c k ss

pub undo-backs : (page : List ℕ) (l : Log) → Backs (undo_model page l) page l
undo-backs page l = record {
  base = refl;
  items = length_over page (joined (sets_of l));
  sets = length-redone page (sets_of l);
  writes = sizes-redone page (sets_of l);
  room = refl;
  bare = λ none. ap (λ ss. over page (joined ss)) none;
}

-- the page is the contents at the version
pub undo-newest : (page : List ℕ) (l : Log) → page ≡ contents_at (undo_model page l) (version_of (undo_model page l))
undo-newest page l =
    let n = length-redone page (sets_of l) in
    sym (overs-redone page (version_of (undo_model page l) - l.base) (sets_of l) ∙ ap (λ ss. over page (joined ss)) (drop_all _ (sets_of l) (omega arith)))
