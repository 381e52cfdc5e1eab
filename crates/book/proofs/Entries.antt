-- The calls of a transaction by how they come to their slot.
use Rattle.std.proofs.Common.{◌≡◌, ℕ, ◌<◌, Bool, true, false, cond, ◌||◌, eqb, ltb, leb, List, [], ◌∷◌, set, Ok, Err, Result, sym, refl, ap, ◌∙◌, subst, ⊎_elim, arith}
use Rattle.std.proofs.lemmas.List.{set-get_or}
use Rattle.std.proofs.lemmas.Bool.{cond-true, cond-false, cases_Bool, ltb-true}
use Rattle.entries.specs.declared.writes.Write.{Write}
use Rattle.entries.specs.Codings.{Coding}
use Rattle.law.specs.declared.codes.Code.{Code}
use Rattle.law.specs.declared.codes.Code.TheVariants.{NoSuchSite, NoSuchSlot, WrongState, NotDelivered}
use Rattle.law.specs.Slots.{SlotModel, slot_count}
use Rattle.law.specs.Slots.SlotModel.{idle, opened, filed}
use Rattle.law.specs.Books.{BookModel, site_count, site_version, row_at, slot_at, with_slot, settled}
use Rattle.law.specs.Calls.{Outcome, refuse, accept, at_site, at_known_slot, begin_on, read_on, write_on, file_on, close_on, drop_on, begin_call, read_call, write_call, file_call, close_call, drop_call}
use Rattle.slots.specs.declared.slots.State.{State}
use Rattle.slots.specs.declared.slots.State.TheVariants.{Idle, Open, Filed}
use Rattle.slots.specs.Slots.{number_of, admit_answer, after_admit}
use Rattle.book.specs.declared.answers.Refused.{Refused}
use Rattle.book.specs.Answers.{answer_of}
use Rattle.book.specs.Books.{outcome}
use Rattle.book.specs.Entering.{Entry, entry, barred, admitted_by, entered, resumed}
use Rattle.book.proofs.Calls.{gone-on, refused}

-- a slot put back as it was
pub put_back : (b : BookModel) (site slot : ℕ) (x : SlotModel) → slot_at b site slot ≡ x → with_slot b site slot x ≡ b
put_back b site slot x e =
    let with : List (List SlotModel) → BookModel =
    λ z. record { ledger = b.ledger; replicas = b.replicas; slots = z; refusals = b.refusals } in
    ap (with_slot b site slot) (sym e) ∙ ap (λ z. with (set b.slots site z)) (set-get_or (row_at b site) slot idle) ∙ ap with (set-get_or b.slots site [])

module _ {V : Type 0} (k : Coding V) (b : BookModel) (site slot : ℕ) where
  abbrev here : SlotModel
  here = slot_at b site slot

  -- a call at a slot is what it does there once it is admitted
  entering : (letter : ℕ) (on : Outcome V) (go : BookModel → ℕ → Outcome V)
      → on ≡ resumed k (admitted_by b letter site slot (admit_answer letter (site_version b site) here)) go
      → at_known_slot k b site slot on ≡ resumed k (entered b letter site slot) go
  unfolding at_known_slot at_site
  entering letter on go h =
      ⊎_elim
      (λ (e : ltb site (site_count b) ≡ true).
      cond-true (ltb site (site_count b)) _ _ e
      ∙ ⊎_elim
      (λ (q : ltb slot slot_count ≡ true).
      cond-true (ltb slot slot_count) _ _ q ∙ h
      ∙ sym (ap (λ z. resumed k z go) (cond-true (ltb site (site_count b)) _ _ e ∙ cond-true (ltb slot slot_count) _ _ q)))
      (λ (q : ltb slot slot_count ≡ false).
      cond-false (ltb slot slot_count) _ _ q
      ∙ sym (ap (λ z. resumed k z go) (cond-true (ltb site (site_count b)) _ _ e ∙ cond-false (ltb slot slot_count) _ _ q)))
      (cases_Bool (ltb slot slot_count)))
      (λ (e : ltb site (site_count b) ≡ false).
      cond-false (ltb site (site_count b)) _ _ e ∙ sym (ap (λ z. resumed k z go) (cond-false (ltb site (site_count b)) _ _ e)))
      (cases_Bool (ltb site (site_count b)))

  -- the same, by the state of the slot
  entering-by : (letter : ℕ) (on : SlotModel → Outcome V) (go : BookModel → ℕ → Outcome V)
      → ((x : SlotModel) → here ≡ x → on x ≡ resumed k (admitted_by b letter site slot (admit_answer letter (site_version b site) x)) go)
      → at_known_slot k b site slot (on here) ≡ resumed k (entered b letter site slot) go
  entering-by letter on go h = entering letter (on here) go (h here refl)

  pub begin-by : begin_call k b site slot ≡ resumed k (entered b 66 site slot) (λ b' n. accept k b' n)
  unfolding begin_call begin_on
  begin-by = entering-by 66 (begin_on k b site slot) (λ b' n. accept k b' n) by
    where
      by : (x : SlotModel) → here ≡ x → begin_on k b site slot x ≡ resumed k (admitted_by b 66 site slot (admit_answer 66 (site_version b site) x)) (λ b' n. accept k b' n)
      by idle e = ap (λ z. accept k (with_slot b site slot (after_admit 66 (site_version b site) z)) (site_version b site)) (sym e)
      by (opened s ws items) e = refl
      by (filed n) e = refl

  -- what it comes to, whether it was admitted or not
  pub begin-told : (b' : BookModel) (v : Result ℕ Refused) → entry b' v ≡ entered b 66 site slot → outcome b' (answer_of k v) ≡ begin_call k b site slot
  begin-told b' (Ok n) e = gone-on k b b' 66 site slot _ (λ x m. accept k x m) begin-by n _ e refl
  begin-told b' (Err x) e = refused k b b' 66 site slot _ (λ y m. accept k y m) begin-by x _ e refl

  pub drop-by : drop_call k b site slot ≡ resumed k (entered b 88 site slot) (λ b' n. accept k (settled b' site) n)
  unfolding drop_call drop_on
  drop-by = entering-by 88 (drop_on k b site slot) (λ b' n. accept k (settled b' site) n) by
    where
      by : (x : SlotModel) → here ≡ x → drop_on k b site slot x ≡ resumed k (admitted_by b 88 site slot (admit_answer 88 (site_version b site) x)) (λ b' n. accept k (settled b' site) n)
      by idle e = refl
      by (opened s ws items) e = ap (λ z. accept k (settled (with_slot b site slot (after_admit 88 (site_version b site) z)) site) s) (sym e)
      by (filed n) e = refl

  -- a slot that does not move leaves the book
  stays : (letter : ℕ) (x : SlotModel) → here ≡ x → after_admit letter (site_version b site) x ≡ x → with_slot b site slot (after_admit letter (site_version b site) here) ≡ b
  stays letter x e q = put_back b site slot (after_admit letter (site_version b site) here) (e ∙ sym q ∙ ap (after_admit letter (site_version b site)) (sym e))

  -- a close, once it is admitted
  abbrev pub closing : BookModel → ℕ → Outcome V
  closing b' n = cond (leb n (site_version b' site)) (accept k (with_slot b' site slot idle) n) (refuse k b' NotDelivered (site_version b' site))

  pub close-by : close_call k b site slot ≡ resumed k (entered b 67 site slot) closing
  unfolding close_call close_on
  close-by = entering-by 67 (close_on k b site slot) closing by
    where
      by : (x : SlotModel) → here ≡ x → close_on k b site slot x ≡ resumed k (admitted_by b 67 site slot (admit_answer 67 (site_version b site) x)) closing
      by idle e = refl
      by (opened s ws items) e = refl
      by (filed n) e = ap (λ z. closing z n) (sym (stays 67 (filed n) e refl))

  -- a call that comes to its slot finds site and slot, and is admitted
  entered-ok : (letter : ℕ) (b' : BookModel) (n : ℕ) → record { book = b'; verdict = Ok n } ≡ entered b letter site slot
      → (ltb site (site_count b) ≡ true) × (ltb slot slot_count ≡ true)
      × (record { book = b'; verdict = Ok n } ≡ admitted_by b letter site slot (admit_answer letter (site_version b site) here))
  entered-ok letter b' n e =
      ⊎_elim
      (λ (p : ltb site (site_count b) ≡ true).
      ⊎_elim
      (λ (q : ltb slot slot_count ≡ true). (p, q, e ∙ cond-true (ltb site (site_count b)) _ _ p ∙ cond-true (ltb slot slot_count) _ _ q))
      (λ (q : ltb slot slot_count ≡ false). no-entry NoSuchSlot slot_count (e ∙ cond-true (ltb site (site_count b)) _ _ p ∙ cond-false (ltb slot slot_count) _ _ q))
      (cases_Bool (ltb slot slot_count)))
      (λ (p : ltb site (site_count b) ≡ false). no-entry NoSuchSite (site_count b) (e ∙ cond-false (ltb site (site_count b)) _ _ p))
      (cases_Bool (ltb site (site_count b)))
    where
      no-entry : {X : Type 0} (code : Code) (number : ℕ) → record { book = b'; verdict = Ok n } ≡ barred b code number → X
      no-entry code number q =
          let v : ◌≡◌ {A = Result ℕ Refused} (Ok n) (Err (record { code = code; number = number })) = ap (λ (z : Entry). z.verdict) q in
          let z : ◌≡◌ {A = ℕ} 0 1 = cc in absurd (omega arith)

  -- what R, W and F find: an open slot, which stays as it is
  pub record Opened (b' : BookModel) (n : ℕ) : Type 0 where
    pub writes : List Write
    pub reads : List Bool
    pub slot_is : slot_at b' site slot ≡ opened n writes reads
    pub same : b' ≡ b
    pub does : (on : SlotModel → Outcome V) → at_known_slot k b site slot (on here) ≡ on (opened n writes reads)

  pub open-admitted : (letter : ℕ) (b' : BookModel) (n : ℕ) → eqb letter 66 ≡ false → eqb letter 67 ≡ false → eqb letter 88 ≡ false
      → record { book = b'; verdict = Ok n } ≡ entered b letter site slot → Opened b' n
  unfolding at_known_slot at_site
  open-admitted letter b' n no-begin no-close no_drop e =
      let found = entered-ok letter b' n e in
      by here refl found.0 found.1 found.2
    where
      none : {X : Type 0} (x : SlotModel) (state : State) → admit_answer letter (site_version b site) x ≡ Err state
          → record { book = b'; verdict = Ok n } ≡ admitted_by b letter site slot (admit_answer letter (site_version b site) x) → X
      none x state q h =
          let v : ◌≡◌ {A = Result ℕ Refused} (Ok n) (Err (record { code = WrongState; number = number_of state })) =
          ap (λ (z : Entry). z.verdict) (h ∙ ap (admitted_by b letter site slot) q) in
          let z : ◌≡◌ {A = ℕ} 0 1 = cc in absurd (omega arith)

      by : (x : SlotModel) → here ≡ x → ltb site (site_count b) ≡ true → ltb slot slot_count ≡ true
          → record { book = b'; verdict = Ok n } ≡ admitted_by b letter site slot (admit_answer letter (site_version b site) x) → Opened b' n
      by idle ex p q h = none idle Idle (cond-false (eqb letter 66) _ _ no-begin) h
      by (filed m) ex p q h = none (filed m) (Filed m) (cond-false (eqb letter 67) _ _ no-close) h
      by (opened s ws items) ex p q h =
          ⊎_elim
          (λ (yes : (eqb letter 82 || (eqb letter 87 || (eqb letter 70 || eqb letter 88))) ≡ true).
          let h' = h ∙ ap (admitted_by b letter site slot) (cond-true _ _ _ yes) in
          let sn : ◌≡◌ {A = Result ℕ Refused} (Ok n) (Ok s) = ap (λ (z : Entry). z.verdict) h' in
          let ns : s ≡ n = cc in
          let bb : b' ≡ b = ap (λ (z : Entry). z.book) h' ∙ stays letter (opened s ws items) ex (cond-false (eqb letter 88) _ _ no_drop) in
          record {
            writes = ws;
            reads = items;
            slot_is = ap (λ z. slot_at z site slot) bb ∙ ex ∙ ap (λ z. opened z ws items) ns;
            same = bb;
            does = λ on. cond-true (ltb site (site_count b)) _ _ p ∙ cond-true (ltb slot slot_count) _ _ q ∙ ap on (ex ∙ ap (λ z. opened z ws items) ns);
          })
          (λ (no : (eqb letter 82 || (eqb letter 87 || (eqb letter 70 || eqb letter 88))) ≡ false). none (opened s ws items) (Open s) (cond-false _ _ _ no) h)
          (cases_Bool (eqb letter 82 || (eqb letter 87 || (eqb letter 70 || eqb letter 88))))

  -- a call that has entered has found its site
  pub entered-site : (letter : ℕ) (b' : BookModel) (n : ℕ) → record { book = b'; verdict = Ok n } ≡ entered b letter site slot → site < site_count b
  entered-site letter b' n e = ltb-true site (site_count b) (entered-ok letter b' n e).0

  -- read, write and file by how they enter; what they do with an open slot is told by `Opened`
  pub read_by : (item : ℕ) → read_call k b site slot item ≡ resumed k (entered b 82 site slot) (λ _ _. read_on k b site slot item here)
  unfolding read_call read_on
  read_by item = entering-by 82 (read_on k b site slot item) (λ _ _. read_on k b site slot item here) by
    where
      by : (x : SlotModel) → here ≡ x → read_on k b site slot item x ≡ resumed k (admitted_by b 82 site slot (admit_answer 82 (site_version b site) x)) (λ _ _. read_on k b site slot item here)
      by idle e = refl
      by (opened s ws items) e = ap (read_on k b site slot item) (sym e)
      by (filed n) e = refl

  pub write-by : (item : ℕ) (value : V) → write_call k b site slot item value ≡ resumed k (entered b 87 site slot) (λ _ _. write_on k b site slot item value here)
  unfolding write_call write_on
  write-by item value = entering-by 87 (write_on k b site slot item value) (λ _ _. write_on k b site slot item value here) by
    where
      by : (x : SlotModel) → here ≡ x → write_on k b site slot item value x ≡ resumed k (admitted_by b 87 site slot (admit_answer 87 (site_version b site) x)) (λ _ _. write_on k b site slot item value here)
      by idle e = refl
      by (opened s ws items) e = ap (write_on k b site slot item value) (sym e)
      by (filed n) e = refl

  pub file-by : file_call k b site slot ≡ resumed k (entered b 70 site slot) (λ _ _. file_on k b site slot here)
  unfolding file_call file_on
  file-by = entering-by 70 (file_on k b site slot) (λ _ _. file_on k b site slot here) by
    where
      by : (x : SlotModel) → here ≡ x → file_on k b site slot x ≡ resumed k (admitted_by b 70 site slot (admit_answer 70 (site_version b site) x)) (λ _ _. file_on k b site slot here)
      by idle e = refl
      by (opened s [] items) e = ap (file_on k b site slot) (sym e)
      by (opened s (w ∷ ws) items) e = ap (file_on k b site slot) (sym e)
      by (filed n) e = refl

  -- entering leaves as many sites
  pub same-sites : (letter : ℕ) (b' : BookModel) (n : ℕ) → record { book = b'; verdict = Ok n } ≡ entered b letter site slot → site < site_count b'
  same-sites letter b' n e =
      let found = entered-ok letter b' n e in
      by (admit_answer letter (site_version b site) here) found.2
    where
      by : (r : Result ℕ State) → record { book = b'; verdict = Ok n } ≡ admitted_by b letter site slot r → site < site_count b'
      by (Ok m) q = subst (λ (z : BookModel). site < site_count z) (sym (ap (λ (z : Entry). z.book) q)) (entered-site letter b' n e)
      by (Err x) q = subst (λ (z : BookModel). site < site_count z) (sym (ap (λ (z : Entry). z.book) q)) (entered-site letter b' n e)
