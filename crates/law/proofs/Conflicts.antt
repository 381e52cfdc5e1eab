-- The newest conflict, told over the history and over the ledger.
use Rattle.std.proofs.Common.{◌≡◌, ℕ, ◌+◌, ◌-◌, ◌<◌, ◌≤◌, min, max, Bool, true, false, cond, ◌&&◌, ltb, List, [], ◌∷◌, ◌++◌, length, drop, is_ok, Some, None, Ok, Option, unwrap_or, sym, ap, ◌∙◌, ⊎_elim, arith}
use Rattle.std.proofs.lemmas.List.{drop-drop, drop_all, drop-append-le, length-drop, length_push}
use Rattle.std.proofs.lemmas.Bool.{cond_both, cond-true, cond-false, cases_lt, lt-ltb, le-ltb, ltb-true, and_left, and_parts}
use Rattle.entries.specs.declared.writes.Write.{Write}
use Rattle.entries.specs.Items.{has}
use Rattle.ledgers.specs.Model.{LedgerModel, head_of, meets, newest_in, newest, add_answer, after_add, trimmed}
use Rattle.law.specs.History.{Accepted, is_update}
use Rattle.law.specs.Certification.{writes_one_of, update_count, conflicts, newest_conflict}
use Rattle.law.proofs.Touching.{names_by, meets-by}

-- one more set: it is the newest if it meets the items
newest-push : (v : ℕ) (ss : List (List Write)) (ws : List Write) (items : List Bool)
    → newest_in v (ss ++ (ws ∷ [])) items ≡ cond (meets items ws) (Some (v + length ss)) (newest_in v ss items)
newest-push v [] ws items = ap (λ z. cond (meets items ws) (Some z) None) (omega arith)
newest-push v (s ∷ ss) ws items =
    ap (λ (z : Option ℕ). elim z [ Some n ↦ Some n | None ↦ cond (meets items s) (Some v) None ]) (newest-push (v + 1) ss ws items)
    ∙ cond_both (meets items ws) (Some (v + 1 + length ss)) (newest_in (v + 1) ss items)
    (λ z.
    elim z as (λ _. Option ℕ) [ Some n ↦ Some n | None ↦ cond (meets items s) (Some v) None ]
    ≡ cond (meets items ws) (Some (v + length (s ∷ ss))) (newest_in v (s ∷ ss) items))
    (λ e. let n : v + 1 + length ss ≡ v + length (s ∷ ss) = omega arith in ap Some n ∙ sym (cond-true (meets items ws) _ _ e))
    (λ e. sym (cond-false (meets items ws) _ _ e))

-- the newest version is not above the head
newest-top : (v : ℕ) (ss : List (List Write)) (items : List Bool) → unwrap_or (newest_in v ss items) 0 ≤ v + length ss
newest-top v [] items = omega arith
newest-top v (s ∷ ss) items = go (newest_in (v + 1) ss items) (newest-top (v + 1) ss items)
  where
    go : (o : Option ℕ) → unwrap_or o 0 ≤ v + 1 + length ss
        → unwrap_or (elim o [ Some n ↦ Some n | None ↦ cond (meets items s) (Some v) None ]) 0 ≤ v + length (s ∷ ss)
    go (Some n) h = omega arith
    go None h = cond_both (meets items s) (Some v) None (λ z. unwrap_or z 0 ≤ v + length (s ∷ ss)) (λ _. omega arith) (λ _. omega arith)

module _ (l : LedgerModel) (s : ℕ) (items : List Bool) (low : l.floor ≤ s) where
  pub newest-trimmed : (to : ℕ) → (trimmed to l).floor ≤ s → newest (trimmed to l) s items ≡ newest l s items
  newest-trimmed to h =
      let n : ℕ = min to (head_of l) - l.floor in
      let e : n + (s - (trimmed to l).floor) ≡ s - l.floor = omega arith in
      ap (λ z. newest_in (s + 1) z items) (drop-drop (s - (trimmed to l).floor) n l.sets ∙ ap (λ z. drop z l.sets) e)

  pub newest-added : (ws : List Write) (n : ℕ) → add_answer l ws ≡ Ok n
      → newest (after_add ws l) s items ≡ cond (ltb s (head_of l + 1) && meets items ws) (Some (head_of l + 1)) (newest l s items)
  newest-added ws n ok =
      let d : ℕ = s - l.floor in
      ap (λ (z : LedgerModel). newest z s items) (cond-true (is_ok (add_answer l ws)) _ l (ap is_ok ok))
      ∙ ⊎_elim
      (λ (q : s < head_of l + 1).
      let ld = length-drop d l.sets in
      let e : s + 1 + length (drop d l.sets) ≡ head_of l + 1 = omega arith in
      ap (λ z. newest_in (s + 1) z items) (drop-append-le d l.sets (ws ∷ []) (omega arith))
      ∙ newest-push (s + 1) (drop d l.sets) ws items
      ∙ ap (λ z. cond (meets items ws) (Some z) (newest l s items)) e
      ∙ ap (λ z. cond (z && meets items ws) (Some (head_of l + 1)) (newest l s items)) (sym (lt-ltb s (head_of l + 1) q)))
      (λ (q : head_of l + 1 ≤ s).
      let lp = length_push l.sets ws in
      ap (λ z. newest_in (s + 1) z items) (drop_all d (l.sets ++ (ws ∷ [])) (omega arith) ∙ sym (drop_all d l.sets (omega arith)))
      ∙ sym (cond-false (ltb s (head_of l + 1) && meets items ws) _ _ (and_left _ _ (le-ltb s (head_of l + 1) q))))
      (cases_lt s (head_of l + 1))

  pub newest-small : s ≤ head_of l → unwrap_or (newest l s items) 0 ≤ head_of l + 1
  newest-small h =
      let ld = length-drop (s - l.floor) l.sets in
      let t = newest-top (s + 1) (drop (s - l.floor) l.sets) items in
      omega arith

module _ {V : Type 0} where
  -- a transaction that is no update conflicts with nothing and is not counted
  pub conflict-reader : (P : ℕ → Bool) (t : Accepted V) (ts : List (Accepted V)) (s : ℕ) → is_update t ≡ false → newest_conflict P s (t ∷ ts) ≡ newest_conflict P s ts
  conflict-reader P t ts s q = cond-false (conflicts P s t) _ _ (ap (λ z. z && ltb s t.number && writes_one_of P t.ran.operations) q)

  pub count-reader : (t : Accepted V) (ts : List (Accepted V)) → is_update t ≡ false → update_count (t ∷ ts) ≡ update_count ts
  count-reader t ts q = cond-false (is_update t) _ _ q

  pub count-update : (t : Accepted V) (ts : List (Accepted V)) → is_update t ≡ true → update_count (t ∷ ts) ≡ update_count ts + 1
  count-update t ts q = cond-true (is_update t) _ _ q

  -- an update with the next number
  pub conflict-update : (l : LedgerModel) (t : Accepted V) (ws : List Write) (ts : List (Accepted V)) (s : ℕ) (items : List Bool) (n : ℕ)
      → add_answer l ws ≡ Ok n → is_update t ≡ true → t.number ≡ head_of l + 1 → ((P : ℕ → Bool) → names_by P ws ≡ writes_one_of P t.ran.operations)
      → l.floor ≤ s → newest_conflict (has items) s ts ≡ newest l s items → newest_conflict (has items) s (t ∷ ts) ≡ newest (after_add ws l) s items
  conflict-update l t ws ts s items n ok q nu wr low e =
      let H : ℕ = head_of l + 1 in
      let same : conflicts (has items) s t ≡ (ltb s H && meets items ws) =
      ap (λ z. z && ltb s t.number && writes_one_of (has items) t.ran.operations) q
      ∙ ap (λ z. ltb s z && writes_one_of (has items) t.ran.operations) nu
      ∙ ap (λ z. ltb s H && z) (sym (meets-by items ws ∙ wr (has items))) in
      ap (λ z. cond z (Some (max t.number (unwrap_or (newest_conflict (has items) s ts) 0))) (newest_conflict (has items) s ts)) same
      ∙ ap (λ z. cond (ltb s H && meets items ws) (Some (max t.number (unwrap_or z 0))) z) e
      ∙ cond_both (ltb s H && meets items ws) (Some (max t.number (unwrap_or (newest l s items) 0))) (newest l s items)
      (λ z. z ≡ cond (ltb s H && meets items ws) (Some H) (newest l s items))
      (λ c.
      let below = ltb-true s H (and_parts (ltb s H) (meets items ws) c).0 in
      let small = newest-small l s items low (omega arith) in
      let m : max t.number (unwrap_or (newest l s items) 0) ≡ H = omega arith in
      ap Some m ∙ sym (cond-true (ltb s H && meets items ws) _ _ c))
      (λ c. sym (cond-false (ltb s H && meets items ws) _ _ c))
      ∙ sym (newest-added l s items low ws n ok)
