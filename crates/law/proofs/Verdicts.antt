-- The verdict that a filing is due, by what the ledger answers.
use Rattle.std.proofs.Common.{◌≡◌, ℕ, ◌+◌, ◌-◌, ◌<◌, ◌≤◌, Bool, true, false, cond, eqb, ltb, leb, List, ◌∷◌, length, Some, None, Ok, Err, Option, Result, sym, refl, ap, ◌∙◌, ⊎_elim, arith}
use Rattle.std.proofs.lemmas.Bool.{cond_both, cond-true, cond-false, cases_Bool, ltb-false, ne_eqb, leb-false}
use Rattle.std.proofs.lemmas.Bool.Decides.{nat_tests}
use Rattle.entries.specs.declared.writes.Write.{Write}
use Rattle.ledgers.specs.declared.ledger.LedgerRefusal.{LedgerRefusal}
use Rattle.ledgers.specs.declared.ledger.LedgerRefusal.TheVariants.{BelowFloor, Conflict, NoWrites, LastVersion, Full}
use Rattle.ledgers.specs.Model.{LedgerModel, head_of, meets, newest, newest_answer, add_answer, fetched, last_version}
use Rattle.ledgers.specs.Filing.{certified, file_answer}
use Rattle.ledgers.proofs.Newest.{newest-is-newest}
use Rattle.law.specs.declared.codes.Code.TheVariants.{Accepted, SnapshotTrimmed, Conflicting, NumbersUsedUp, LedgerFull}
use Rattle.law.specs.History.{Verdict}
use Rattle.law.specs.Certification.{verdict, due_room, due_conflict, due_by}

-- what the ledger's answer to a filing at snapshot s comes to
abbrev pub verdict_of : LedgerModel → ℕ → Result ℕ LedgerRefusal → Verdict
verdict_of l s (Ok n) = verdict Accepted n
verdict_of l s (Err (BelowFloor f)) = verdict SnapshotTrimmed f
verdict_of l s (Err (Conflict v)) = verdict Conflicting v
verdict_of l s (Err NoWrites) = verdict Accepted s
verdict_of l s (Err LastVersion) = verdict NumbersUsedUp last_version
verdict_of l s (Err Full) = verdict LedgerFull l.capacity

module _ (l : LedgerModel) (s : ℕ) (items : List Bool) (w : Write) (ws : List Write) where
  abbrev added : Result ℕ LedgerRefusal
  added = add_answer l (w ∷ ws)

  -- a list with a write is not refused as empty
  some-writes : added ≡ cond (leb last_version (head_of l)) (Err LastVersion) (cond (leb l.capacity (length l.sets)) (Err Full) (Ok (head_of l + 1)))
  some-writes = cond-false (eqb (length (w ∷ ws)) 0) _ _ (ne_eqb (length (w ∷ ws)) 0 (λ e. omega arith))

  room-told : due_room l.floor (head_of l) l.capacity ≡ verdict_of l s added
  room-told =
      let e : head_of l - l.floor ≡ length l.sets = omega arith in
      ap (λ z. cond (leb last_version (head_of l)) (verdict NumbersUsedUp last_version) (cond (leb l.capacity z) (verdict LedgerFull l.capacity) (verdict Accepted (head_of l + 1)))) e
      ∙ cond_both (leb last_version (head_of l)) (Err LastVersion) (cond (leb l.capacity (length l.sets)) (Err Full) (Ok (head_of l + 1)))
      (λ (z : Result ℕ LedgerRefusal). cond (leb last_version (head_of l)) (verdict NumbersUsedUp last_version) (cond (leb l.capacity (length l.sets)) (verdict LedgerFull l.capacity) (verdict Accepted (head_of l + 1))) ≡ verdict_of l s z)
      (λ q. cond-true (leb last_version (head_of l)) _ _ q)
      (λ q.
      cond-false (leb last_version (head_of l)) _ _ q
      ∙ cond_both (leb l.capacity (length l.sets)) (Err Full) (Ok (head_of l + 1))
      (λ (z : Result ℕ LedgerRefusal). cond (leb l.capacity (length l.sets)) (verdict LedgerFull l.capacity) (verdict Accepted (head_of l + 1)) ≡ verdict_of l s z)
      (λ p. cond-true (leb l.capacity (length l.sets)) _ _ p) (λ p. cond-false (leb l.capacity (length l.sets)) _ _ p))
      ∙ ap (verdict_of l s) (sym some-writes)

  -- the verdict that is due is what the ledger answers, where it and the history see the same newest conflict
  pub due-told : (o : Option ℕ) → (l.floor ≤ s → o ≡ newest l s items)
      → due_by true s l.floor o (head_of l) l.capacity ≡ verdict_of l s (file_answer l s items (w ∷ ws))
  due-told o same =
      ⊎_elim
      (λ (e : ltb s l.floor ≡ true). cond-true (ltb s l.floor) _ _ e ∙ sym (ap (λ z. verdict_of l s (certified z added)) (cond-true (ltb s l.floor) _ _ e)))
      (λ (e : ltb s l.floor ≡ false).
      cond-false (ltb s l.floor) _ _ e
      ∙ ap (λ z. due_conflict z (due_room l.floor (head_of l) l.capacity)) (same (ltb-false s l.floor e))
      ∙ by (newest l s items)
      ∙ sym (ap (λ z. verdict_of l s (certified z added)) (cond-false (ltb s l.floor) _ _ e)))
      (cases_Bool (ltb s l.floor))
    where
      by : (o : Option ℕ) → due_conflict o (due_room l.floor (head_of l) l.capacity) ≡ verdict_of l s (certified (Ok o) added)
      by (Some v) = refl
      by None = room-told

  -- an accepted filing is above the floor, has no conflict, and its list is added
  pub filed-free : (n : ℕ) → file_answer l s items (w ∷ ws) ≡ Ok n → (l.floor ≤ s) × (newest_answer l s items ≡ Ok None) × (added ≡ Ok n)
  filed-free n =
      cond_both (ltb s l.floor) (Err (BelowFloor l.floor)) (Ok (newest l s items))
      (λ (z : Result (Option ℕ) LedgerRefusal). certified z added ≡ Ok n → (l.floor ≤ s) × (newest_answer l s items ≡ Ok None) × (added ≡ Ok n))
      (λ _ q. let z : ◌≡◌ {A = ℕ} 0 1 = cc in absurd (omega arith))
      (λ e. by (newest l s items) (ltb-false s l.floor e) (cond-false (ltb s l.floor) _ _ e))
    where
      by : (o : Option ℕ) → l.floor ≤ s → newest_answer l s items ≡ Ok o → certified (Ok o) added ≡ Ok n → (l.floor ≤ s) × (newest_answer l s items ≡ Ok None) × (added ≡ Ok n)
      by (Some v) low a q = let z : ◌≡◌ {A = ℕ} 0 1 = cc in absurd (omega arith)
      by None low a q = (low, a, q)

  -- then no set after the snapshot meets the items
  pub free-sets : l.floor ≤ s → newest_answer l s items ≡ Ok None → (u : ℕ) → s < u → u ≤ head_of l → meets items (fetched l u) ≡ false
  free-sets low e = newest-is-newest l s items None low e

  -- and a number was left
  pub added-early : (n : ℕ) → added ≡ Ok n → head_of l < last_version
  added-early n q = by (sym some-writes ∙ q)
    where
      by : cond (leb last_version (head_of l)) (Err LastVersion) (cond (leb l.capacity (length l.sets)) (Err Full) (Ok (head_of l + 1))) ≡ Ok n → head_of l < last_version
      by =
          cond_both (leb last_version (head_of l)) (Err LastVersion) (cond (leb l.capacity (length l.sets)) (Err Full) (Ok (head_of l + 1)))
          (λ (z : Result ℕ LedgerRefusal). z ≡ Ok n → head_of l < last_version)
          (λ _ e. let z : ◌≡◌ {A = ℕ} 0 1 = cc in absurd (omega arith))
          (λ e _. leb-false last_version (head_of l) e)

  -- no list with a write is refused as empty
  pub never-empty : file_answer l s items (w ∷ ws) ≡ Err NoWrites → ⊥
  never-empty e = let n : 0 < length (w ∷ ws) = omega arith in grind (arith, nat_tests)
