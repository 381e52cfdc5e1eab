-- One call by its letter, and a run in its midst: what is left of the calls gives what is left of the answers.
use Rattle.std.proofs.Common.{◌≡◌, ℕ, ◌+◌, ◌<◌, ◌≤◌, eqb, ◌≢◌, List, [], ◌∷◌, ◌++◌, length, get_or, take, drop, set, sym, refl, ap, ◌∙◌, subst₂, arith}
use Rattle.std.proofs.lemmas.List.{at_drop_more, at_drop_all, take_more_set, append_assoc, append-nil, drop-set-lt, drop-drop, take-append-drop}
use Rattle.std.proofs.lemmas.Bool.{cond-true, cond-false, lt-ltb, le-ltb, ne_eqb}
use Rattle.entries.specs.Codings.{Coding, Faithful}
use Rattle.replicas.specs.Model.{ReplicaModel}
use Rattle.ledgers.specs.Model.{LedgerModel}
use Rattle.law.specs.declared.calls.Call.{Call}
use Rattle.law.specs.declared.calls.Answer.{Answer}
use Rattle.law.specs.declared.codes.Code.TheVariants.{Accepted, NoSuchLetter, TooFewAnswers}
use Rattle.law.specs.Letters.{Letter, byte_of, letter_of}
use Rattle.law.specs.Letters.Letter.{begins, reads, writes, files, closes, drops, delivers, trims, restarts, versions, counts, unknown}
use Rattle.law.specs.Books.{BookModel}
use Rattle.law.specs.Calls.{Outcome, plain, step_by, step, begin_call, read_call, write_call, file_call, close_call, drop_call, deliver_call, trim_call, restart_call, version_call, count_call}
use Rattle.law.specs.Layouts.{LayoutModel, book_in_use}
use Rattle.law.specs.Runs.{too_few, calls_made, book_after, answers_to, run_answer, after_run, answers_after_run}
use Rattle.law.specs.History.{told}
use Rattle.law.specs.Law.{KeepsLaw, Laid, Led, Lawful}
use Rattle.law.proofs.Main.{run-law}
use Rattle.book.specs.Books.{outcome, call_of}
use Rattle.book.proofs.Laws.{keeps-call}

-- the letter of a letter's byte
letter-back : (l : Letter) → letter_of (byte_of l) ≡ l
letter-back begins = refl
letter-back reads = refl
letter-back writes = refl
letter-back files = refl
letter-back closes = refl
letter-back drops = refl
letter-back delivers = refl
letter-back trims = refl
letter-back restarts = refl
letter-back versions = refl
letter-back counts = refl
letter-back unknown = refl

-- a number that is no letter's
nameless : (n : ℕ) → n ≢ 66 → n ≢ 82 → n ≢ 87 → n ≢ 70 → n ≢ 67 → n ≢ 88 → n ≢ 68 → n ≢ 84 → n ≢ 85 → n ≢ 86 → n ≢ 78 → letter_of n ≡ unknown
nameless n b r w f c x d t u v m =
    cond-false (eqb n 66) _ _ (ne_eqb n 66 b)
    ∙ cond-false (eqb n 82) _ _ (ne_eqb n 82 r)
    ∙ cond-false (eqb n 87) _ _ (ne_eqb n 87 w)
    ∙ cond-false (eqb n 70) _ _ (ne_eqb n 70 f)
    ∙ cond-false (eqb n 67) _ _ (ne_eqb n 67 c)
    ∙ cond-false (eqb n 88) _ _ (ne_eqb n 88 x)
    ∙ cond-false (eqb n 68) _ _ (ne_eqb n 68 d)
    ∙ cond-false (eqb n 84) _ _ (ne_eqb n 84 t)
    ∙ cond-false (eqb n 85) _ _ (ne_eqb n 85 u)
    ∙ cond-false (eqb n 86) _ _ (ne_eqb n 86 v)
    ∙ cond-false (eqb n 78) _ _ (ne_eqb n 78 m)

module _ {V : Type 0} (k : Coding V) (b : BookModel) (c : Call V) (n : ℕ) (o : Outcome V) where
  -- the call that a number names
  by_byte : (l : Letter) → n ≡ byte_of l → o ≡ step_by k l b c → o ≡ step_by k (letter_of n) b c
  by_byte l e h = h ∙ ap (λ z. step_by k z b c) (sym (ap letter_of e ∙ letter-back l))

  pub by-begin : n ≡ 66 → o ≡ begin_call k b c.site c.slot → o ≡ step_by k (letter_of n) b c
  unfolding step_by
  by-begin = by_byte begins

  pub by_read : n ≡ 82 → o ≡ read_call k b c.site c.slot c.arg → o ≡ step_by k (letter_of n) b c
  unfolding step_by
  by_read = by_byte reads

  pub by-write : n ≡ 87 → o ≡ write_call k b c.site c.slot c.arg c.value → o ≡ step_by k (letter_of n) b c
  unfolding step_by
  by-write = by_byte writes

  pub by-file : n ≡ 70 → o ≡ file_call k b c.site c.slot → o ≡ step_by k (letter_of n) b c
  unfolding step_by
  by-file = by_byte files

  pub by-close : n ≡ 67 → o ≡ close_call k b c.site c.slot → o ≡ step_by k (letter_of n) b c
  unfolding step_by
  by-close = by_byte closes

  pub by-drop : n ≡ 88 → o ≡ drop_call k b c.site c.slot → o ≡ step_by k (letter_of n) b c
  unfolding step_by
  by-drop = by_byte drops

  pub by-deliver : n ≡ 68 → o ≡ deliver_call k b c.site → o ≡ step_by k (letter_of n) b c
  unfolding step_by
  by-deliver = by_byte delivers

  pub by-trim : n ≡ 84 → o ≡ trim_call k b c.arg → o ≡ step_by k (letter_of n) b c
  unfolding step_by
  by-trim = by_byte trims

  pub by-restart : n ≡ 85 → o ≡ restart_call k b c.site → o ≡ step_by k (letter_of n) b c
  unfolding step_by
  by-restart = by_byte restarts

  pub by-version : n ≡ 86 → o ≡ version_call k b c.site → o ≡ step_by k (letter_of n) b c
  unfolding step_by
  by-version = by_byte versions

  pub by_count : n ≡ 78 → o ≡ count_call k b → o ≡ step_by k (letter_of n) b c
  unfolding step_by
  by_count = by_byte counts

-- a number that names no call is refused
pub by-none : {V : Type 0} (k : Coding V) (b : BookModel) (c : Call V) (n : ℕ) (r : Answer V)
    → n ≢ 66 → n ≢ 82 → n ≢ 87 → n ≢ 70 → n ≢ 67 → n ≢ 88 → n ≢ 68 → n ≢ 84 → n ≢ 85 → n ≢ 86 → n ≢ 78
    → r ≡ plain k NoSuchLetter 0 → outcome b r ≡ step_by k (letter_of n) b c
unfolding step_by
by-none k b c n r h₁ h₂ h₃ h₄ h₅ h₆ h₇ h₈ h₉ h₁₀ h₁₁ e =
    ap (outcome b) e ∙ ap (λ z. step_by k z b c) (sym (nameless n h₁ h₂ h₃ h₄ h₅ h₆ h₇ h₈ h₉ h₁₀ h₁₁))

-- a call by its letter keeps the law
module _ {V : Type 0} (k : Coding V) (b : BookModel) (c : Call V) where
  lettered : (l : Letter) → step_by k l b c ≡ step k b (call_of l c.site c.slot c.arg c.value)
  unfolding step step_by
  lettered begins = refl
  lettered reads = refl
  lettered writes = refl
  lettered files = refl
  lettered closes = refl
  lettered drops = refl
  lettered delivers = refl
  lettered trims = refl
  lettered restarts = refl
  lettered versions = refl
  lettered counts = refl
  lettered unknown = refl

  pub call-law : Faithful k → (b' : BookModel) (r : Answer V) (n : ℕ) → outcome b' r ≡ step_by k (letter_of n) b c
      → KeepsLaw k b (call_of (letter_of n) c.site c.slot c.arg c.value ∷ []) (r ∷ []) b'
  call-law back b' r n e = keeps-call k back b b' r _ (e ∙ lettered (letter_of n))

-- after i calls of a run
pub record Ran {V : Type 0} (k : Coding V) (before : BookModel) (calls : List (Call V)) (start : List (Answer V)) (b : BookModel) (answers : List (Answer V)) (i : ℕ) : Type 0 where
  pub books : book_after k b (drop i calls) ≡ book_after k before calls
  pub given : take i answers ++ answers_to k b (drop i calls) ≡ answers_to k before calls
  pub rest : drop i answers ≡ drop i start

module _ {V : Type 0} (k : Coding V) (before : BookModel) (calls : List (Call V)) (start : List (Answer V)) where
  pub ran-none : Ran k before calls start before start 0
  ran-none = record { books = refl; given = refl; rest = refl }

  module _ (b : BookModel) (answers : List (Answer V)) (i : ℕ) (r : Ran k before calls start b answers i) where
    pub ran-more : (b' : BookModel) (a : Answer V) (x : Call V) (answers' : List (Answer V)) → i < length calls → i < length answers → x ≡ get_or calls i x
        → outcome b' a ≡ step_by k (letter_of x.letter) b x → answers' ≡ set answers i a → Ran k before calls start b' answers' (i + 1)
    unfolding step
    ran-more b' a x answers' h ha is e put =
        let b-is : b' ≡ (step k b x).book = ap (λ (o : Outcome V). o.book) e in
        let a-is : a ≡ (step k b x).answer = ap (λ (o : Outcome V). o.answer) e in
        let left = drop (i + 1) calls in
        let head : get_or calls i x ∷ left ≡ x ∷ left = ap (λ y. y ∷ left) (sym is) in
        record {
          books = ap (λ q. book_after k q left) b-is ∙ sym (ap (book_after k b) head) ∙ sym (at_drop_more (book_after k b) calls i x h) ∙ r.books;
          given =
              ap (λ q. q ++ answers_to k b' left) (ap (take (i + 1)) put ∙ take_more_set answers i a ha)
              ∙ append_assoc (take i answers) (a ∷ []) (answers_to k b' left)
              ∙ ap (λ q. take i answers ++ q ∷ answers_to k b' left) a-is
              ∙ ap (λ q. take i answers ++ (step k b x).answer ∷ answers_to k q left) b-is
              ∙ ap (λ q. take i answers ++ q) (sym (ap (answers_to k b) head) ∙ sym (at_drop_more (answers_to k b) calls i x h))
              ∙ r.given;
          rest =
              ap (drop (i + 1)) put ∙ drop-set-lt (i + 1) answers i a (omega arith) ∙ sym (drop-drop 1 i answers) ∙ ap (drop 1) r.rest ∙ drop-drop 1 i start;
        }

    pub ran-book : length calls ≤ i → b ≡ book_after k before calls
    ran-book h = sym (at_drop_all (book_after k b) calls i h) ∙ r.books

    pub ran-answers : length calls ≤ i → i ≤ length calls → answers ≡ answers_to k before calls ++ drop (length calls) start
    ran-answers h h' =
        let n : i ≡ length calls = omega arith in
        sym (take-append-drop i answers)
        ∙ ap (λ q. q ++ drop i answers) (sym (append-nil (take i answers)) ∙ ap (λ q. take i answers ++ q) (sym (at_drop_all (answers_to k b) calls i h)) ∙ r.given)
        ∙ ap (λ q. answers_to k before calls ++ q) (r.rest ∙ ap (λ j. drop j start) n)

module _ {V : Type 0} (k : Coding V) (b : BookModel) (calls : List (Call V)) (old : List (Answer V)) where
  -- too few places: no call is made
  module _ (few : length old < length calls) where
    none_made : calls_made calls old ≡ []
    none_made = cond-true (too_few calls old) _ _ (lt-ltb (length old) (length calls) few)

    pub refused-answer : (r : Answer V) → r ≡ plain k TooFewAnswers (length calls) → r ≡ run_answer k calls old
    refused-answer r e = e ∙ sym (cond-true (too_few calls old) _ _ (lt-ltb (length old) (length calls) few))

    pub refused-book : b ≡ after_run k b calls old
    refused-book = sym (ap (book_after k b) none_made)

    pub refused-answers : old ≡ answers_after_run k b calls old
    refused-answers = sym (ap (λ z. answers_to k b z ++ drop (length z) old) none_made)

  -- enough of them: all calls are made
  module _ (enough : length calls ≤ length old) where
    all_made : calls_made calls old ≡ calls
    all_made = cond-false (too_few calls old) _ _ (le-ltb (length old) (length calls) enough)

    pub done-answer : (r : Answer V) → r ≡ plain k Accepted (length calls) → r ≡ run_answer k calls old
    done-answer r e = e ∙ sym (cond-false (too_few calls old) _ _ (le-ltb (length old) (length calls) enough))

    pub done-book : (b' : BookModel) → b' ≡ book_after k b calls → b' ≡ after_run k b calls old
    done-book b' e = e ∙ sym (ap (book_after k b) all_made)

    pub done-answers : (new : List (Answer V)) → new ≡ answers_to k b calls ++ drop (length calls) old → new ≡ answers_after_run k b calls old
    done-answers new e = e ∙ sym (ap (λ z. answers_to k b z ++ drop (length z) old) all_made)

  -- a run keeps the law
  pub run-keeps : Faithful k → (b' : BookModel) (new : List (Answer V)) → b' ≡ after_run k b calls old → new ≡ answers_after_run k b calls old
      → KeepsLaw k b (calls_made calls old) new b'
  run-keeps back b' new eb ea = subst₂ (λ x y. KeepsLaw k b (calls_made calls old) y x) (sym eb) (sym ea) (run-law k back b calls old)

-- a book opened from a layout, run, and wound up
module _ {V : Type 0} (k : Coding V) (y : LayoutModel) (b : BookModel) (calls : List (Call V)) (old new : List (Answer V)) where
  module _ (here : b ≡ book_in_use k y) where
    pub served-answers : new ≡ answers_after_run k b calls old → new ≡ answers_after_run k (book_in_use k y) calls old
    served-answers e = e ∙ ap (λ z. answers_after_run k z calls old) here

    pub served-book : (b' : BookModel) → b' ≡ after_run k b calls old → b' ≡ after_run k (book_in_use k y) calls old
    served-book b' e = e ∙ ap (λ z. after_run k z calls old) here

  module _ (b' : BookModel) (l : LedgerModel) (rs : List ReplicaModel) (ledger-is : l ≡ b'.ledger) (bank-is : rs ≡ b'.replicas) where
    pub served-ledger : b' ≡ after_run k (book_in_use k y) calls old → l ≡ (after_run k (book_in_use k y) calls old).ledger
    served-ledger e = ledger-is ∙ ap (λ z. z.ledger) e

    pub served-bank : b' ≡ after_run k (book_in_use k y) calls old → rs ≡ (after_run k (book_in_use k y) calls old).replicas
    served-bank e = bank-is ∙ ap (λ z. z.replicas) e

    pub served-law : ((p : List V) → Laid k p y → Led k p [] b) → KeepsLaw k b (calls_made calls old) new b'
        → (p : List V) → Laid k p y → Lawful k p (told [] (calls_made calls old) new) l rs
    served-law starts keeps p h = subst₂ (Lawful k p (told [] (calls_made calls old) new)) (sym ledger-is) (sym bank-is) (keeps p [] (starts p h)).1
