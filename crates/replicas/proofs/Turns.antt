-- One turn of each loop over records or writes.
use Rattle.std.proofs.Common.{◌≡◌, ℕ, zero, suc, ◌+◌, ◌<◌, false, leb, List, [], ◌∷◌, ◌++◌, map, length, get_or, take, set, sym, refl, ap, ◌∙◌, arith}
use Rattle.std.proofs.lemmas.List.{take_more, map_push, append_assoc, length-append}
use Rattle.std.proofs.lemmas.Bool.{cond-true, lt-ltb, leb-false, or_parts}
use Rattle.rings.specs.declared.ring.Ring.{Ring}
use Rattle.rings.specs.Held.{held, size, pushed}
use Rattle.entries.proofs.Blanks.{no_write}
use Rattle.entries.specs.declared.writes.Write.{Write}
use Rattle.replicas.specs.declared.records.Record.{Record}
use Rattle.replicas.specs.Overlay.{laid, replaced, names_beyond}
use Rattle.replicas.specs.Records.{no_record, plain, marked}
use Rattle.replicas.proofs.Overlays.{laid-append}
use Rattle.replicas.proofs.Stamps.{length_marked}

-- with one more write at the end
replaced-push : (c : List ℕ) (ws : List Write) (w : Write) → replaced c (ws ++ (w ∷ [])) ≡ replaced c ws ++ (record { item = w.item; word = get_or (laid c ws) w.item 0 } ∷ [])
replaced-push c [] w = refl
replaced-push c (v ∷ ws) w = ap (λ xs. record { item = v.item; word = get_or c v.item 0 } ∷ xs) (replaced-push (set c v.item v.word) ws w)

marked-push : (version : ℕ) (ws : List Write) (w : Write) → marked version (ws ++ (w ∷ [])) ≡ marked version ws ++ (record { item = w.item; version = version; word = w.word } ∷ [])
marked-push version [] w = refl
marked-push version (v ∷ ws) w = ap (λ xs. record { item = v.item; version = version; word = v.word } ∷ xs) (marked-push version ws w)

-- a record laid over the page
pub laid_more : (c : List ℕ) (rs : List Record) (i : ℕ) → i < length rs
    → laid c (map plain (take (i + 1) rs)) ≡ set (laid c (map plain (take i rs))) (get_or rs i no_record).item (get_or rs i no_record).word
laid_more c rs i h =
    ap (λ xs. laid c (map plain xs)) (take_more rs i no_record h) ∙ ap (laid c) (map_push plain (take i rs) (get_or rs i no_record))
    ∙ laid-append c (map plain (take i rs)) (plain (get_or rs i no_record) ∷ [])

-- one more record of a version's set, where there is room
pub push-more : (r : Ring Record) (old : List Record) (version : ℕ) (ws : List Write) (w : Write)
    → held r ≡ old ++ marked version ws → length old + length ws < size r
    → pushed r (record { item = w.item; version = version; word = w.word }) ≡ old ++ marked version (ws ++ (w ∷ []))
push-more r old version ws w e h =
    let n = ap length e ∙ length-append old (marked version ws) in
    let m = length_marked version ws in
    cond-true _ _ _ (lt-ltb (length (held r)) (size r) (omega arith))
    ∙ ap (λ rs. rs ++ (record { item = w.item; version = version; word = w.word } ∷ [])) e
    ∙ append_assoc old (marked version ws) (record { item = w.item; version = version; word = w.word } ∷ [])
    ∙ ap (λ rs. old ++ rs) (sym (marked-push version ws w))

-- the write at place i of a set
module _ (ws : List Write) (i : ℕ) (h : i < length ws) where
  pub laid-write : (c : List ℕ) → laid c (take (i + 1) ws) ≡ set (laid c (take i ws)) (get_or ws i no_write).item (get_or ws i no_write).word
  laid-write c = ap (laid c) (take_more ws i no_write h) ∙ laid-append c (take i ws) (get_or ws i no_write ∷ [])

  pub replaced-write : (c : List ℕ) → replaced c (take (i + 1) ws)
      ≡ replaced c (take i ws) ++ (record { item = (get_or ws i no_write).item; word = get_or (laid c (take i ws)) (get_or ws i no_write).item 0 } ∷ [])
  replaced-write c = ap (replaced c) (take_more ws i no_write h) ∙ replaced-push c (take i ws) (get_or ws i no_write)

pub length-replaced : (c : List ℕ) (ws : List Write) → length (replaced c ws) ≡ length ws
length-replaced c [] = refl
length-replaced c (w ∷ ws) = ap suc (length-replaced (set c w.item w.word) ws)

-- no item of the set is past the limit
pub item-below : (limit : ℕ) (ws : List Write) (i : ℕ) → names_beyond limit ws ≡ false → i < length ws → (get_or ws i no_write).item < limit
item-below limit [] i n h = absurd (omega arith)
item-below limit (w ∷ ws) zero n h = leb-false _ _ (or_parts (leb limit w.item) (names_beyond limit ws) n).0
item-below limit (w ∷ ws) (suc i) n h = item-below limit ws i (or_parts (leb limit w.item) (names_beyond limit ws) n).1 (omega arith)
