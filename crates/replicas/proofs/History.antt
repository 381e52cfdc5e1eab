-- What calls on a replica leave of its history.
use Rattle.std.proofs.Common.{◌≡◌, ℕ, ◌+◌, ◌-◌, ◌<◌, true, false, eqb, leb, List, [], ◌∷◌, ◌++◌, length, get_or, take, drop, Some, None, Ok, Option, unwrap_or, sym, refl, ap, ◌∙◌, ⊎_elim, arith, take-add}
use Rattle.std.proofs.lemmas.List.{length-drop, length_push, take-append-le, take_all}
use Rattle.std.proofs.lemmas.Bool.{cond-true, cond-false, cases_Bool, and_parts, leb-true, lt-leb}
use Rattle.entries.specs.declared.writes.Write.{Write}
use Rattle.entries.specs.Writes.{word_of}
use Rattle.replicas.specs.Overlay.{over, overs, oldest_word_of, replaced, laid}
use Rattle.replicas.specs.Model.{version_of, contents_at, after_take, after_forget}
use Rattle.replicas.specs.Laws.{OldestReplacedWord, TakeKeepsHistory, ForgetKeepsHistory, newest_of, NewestWriteCounts}
use Rattle.replicas.proofs.Overlays.{get_or-over, length_over}
use Rattle.replicas.proofs.Undone.{over-replaced}

overs-append : (c : List ℕ) (ss ts : List (List Write)) → overs c (ss ++ ts) ≡ overs (overs c ss) ts
overs-append c [] ts = refl
overs-append c (s ∷ ss) ts = overs-append (over c s) ss ts

length-laid : (c : List ℕ) (ws : List Write) → length (laid c ws) ≡ length c
length-laid c ws = sym (length_over (laid c ws) (replaced c ws)) ∙ ap length (over-replaced c ws)

pub oldest-replaced-word : OldestReplacedWord
oldest-replaced-word c ws item h =
    sym (get_or-over (laid c ws) (replaced c ws) item (let n = length-laid c ws in omega arith)) ∙ ap (λ d. get_or d item 0) (over-replaced c ws)

pub take-keeps-history : TakeKeepsHistory
take-keeps-history m ws y =
    let n = length_push m.sets ws in
    let is : after_take ws m ≡ record { base = m.base; contents = m.contents; sets = m.sets ++ (ws ∷ []); capacity = m.capacity } = cond-true _ _ _ y in (
      ap version_of is ∙ omega arith,
      (λ at h. ap (λ r. contents_at r at) is ∙ ap (overs m.contents) (take-append-le (at - m.base) m.sets (ws ∷ []) (omega arith))),
      ap (λ r. contents_at r (version_of m + 1)) is
          ∙ ap (overs m.contents) (take_all (version_of m + 1 - m.base) (m.sets ++ (ws ∷ [])) (omega arith))
          ∙ overs-append m.contents m.sets (ws ∷ [])
          ∙ ap (λ ss. over (overs m.contents ss) ws) (sym (take_all (version_of m - m.base) m.sets (omega arith))),
    )

pub forget-keeps-history : ForgetKeepsHistory
forget-keeps-history m to y =
    let b = and_parts (leb m.base to) (leb to (version_of m)) y in
    let lo = leb-true m.base to b.0 in
    let hi = leb-true to (version_of m) b.1 in
    let n = length-drop (to - m.base) m.sets in
    let is : after_forget to m ≡ record { base = to; contents = contents_at m to; sets = drop (to - m.base) m.sets; capacity = m.capacity } = cond-true _ _ _ y in (
      ap version_of is ∙ omega arith,
      λ at h.
          let e : (to - m.base) + (at - to) ≡ at - m.base = omega arith in
          ap (λ r. contents_at r at) is
          ∙ sym (overs-append m.contents (take (to - m.base) m.sets) (take (at - to) (drop (to - m.base) m.sets)))
          ∙ ap (overs m.contents) (sym (take-add (to - m.base) (at - to) m.sets) ∙ ap (λ k. take k m.sets) e),
    )

-- an item's word after a set is the set's, or else what it was
pub over_word : (c : List ℕ) (ws : List Write) (item : ℕ) → item < length c → get_or (over c ws) item 0 ≡ unwrap_or (word_of ws item) (get_or c item 0)
over_word c ws item h = get_or-over c ws item h ∙ same ws
  where
    same : (ws : List Write) → oldest_word_of ws item (get_or c item 0) ≡ unwrap_or (word_of ws item) (get_or c item 0)
    same [] = refl
    same (w ∷ ws) =
        ⊎_elim
        (λ (y : eqb w.item item ≡ true). rw y)
        (λ (n : eqb w.item item ≡ false). rw n (same ws))
        (cases_Bool (eqb w.item item))

overs-word : (c : List ℕ) (ss : List (List Write)) (item : ℕ) → item < length c → get_or (overs c ss) item 0 ≡ unwrap_or (newest_of ss item) (get_or c item 0)
overs-word c [] item h = refl
overs-word c (s ∷ ss) item h =
    overs-word (over c s) ss item (rw length_over h) ∙ ap (unwrap_or (newest_of ss item)) (over_word c s item h) ∙ pick (newest_of ss item)
  where
    pick : (o : Option ℕ) → unwrap_or o (unwrap_or (word_of s item) (get_or c item 0)) ≡ unwrap_or (elim o [ Some x ↦ Some x | None ↦ word_of s item ]) (get_or c item 0)
    pick (Some x) = refl
    pick None = refl

pub newest-write-counts : NewestWriteCounts
newest-write-counts m at item y h =
    cond-true _ _ _ y ∙ cond-false _ _ _ (lt-leb _ _ h) ∙ ap Ok (overs-word m.contents (take (at - m.base) m.sets) item h)
