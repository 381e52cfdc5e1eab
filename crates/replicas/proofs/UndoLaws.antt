-- What the calls on an undo replica answer and leave.
use Rattle.std.proofs.Common.{◌≡◌, ℕ, ◌-◌, ◌<◌, true, List, [], ◌∷◌, ◌++◌, length, get_or, drop, Ok, Err, Result, OnOk, OnErr, sym, ap, ◌∙◌}
use Rattle.std.proofs.lemmas.Bool.{cond-true}
use Rattle.rings.specs.Held.{size}
use Rattle.entries.specs.declared.writes.Write.{Write}
use Rattle.entries.specs.Rising.{rising}
use Rattle.replicas.specs.declared.replica.Refusal.{Refusal}
use Rattle.replicas.specs.declared.logs.Log.{Log}
use Rattle.replicas.specs.Overlay.{joined, oldest_word_of, over, laid, replaced}
use Rattle.replicas.specs.Model.{contents_at, after_take, after_forget}
use Rattle.replicas.specs.Logs.{sets_of, has_version, set_answer, Holds}
use Rattle.replicas.specs.Undos.{undo_model, redone}
use Rattle.replicas.specs.Undone.{overs-redone, undo-backs}
use Rattle.replicas.proofs.Admitted.{admitted}
use Rattle.replicas.proofs.Overlays.{get_or-over}
use Rattle.replicas.proofs.Undone.{drop-redone, over-push, redone-push}
use Rattle.replicas.proofs.Backed.{same-model, keeps-is, take-done, take-refused}

module _ (page : List ℕ) (l : Log) where
  -- the contents at a version are the page with the replaced words of the later sets laid over it
  undo-contents : (at : ℕ) → contents_at (undo_model page l) at ≡ over page (joined (drop (at - l.base) (sets_of l)))
  undo-contents at = overs-redone page (at - l.base) (sets_of l)

  -- an item's word is the oldest that was replaced after the version, or else that of the page
  pub undo-word : (at item : ℕ) → item < length page
      → oldest_word_of (joined (drop (at - l.base) (sets_of l))) item (get_or page item 0) ≡ get_or (contents_at (undo_model page l) at) item 0
  undo-word at item h = sym (get_or-over page (joined (drop (at - l.base) (sets_of l))) item h) ∙ ap (λ c. get_or c item 0) (sym (undo-contents at))

  -- with one more set, or as it was
  pub undo-taken : (ws : List Write) (page' : List ℕ) (l' : Log) (r : Result ℕ Refusal) → r ≡ set_answer l (length page) ws → rising ws ≡ true
      → OnOk r (page' ≡ laid page ws) → OnOk r (Holds l' l.base (sets_of l ++ (replaced page ws ∷ [])) (size l.ring))
      → OnErr r (l' ≡ l) → OnErr r (page' ≡ page) → undo_model page' l' ≡ after_take ws (undo_model page l)
  undo-taken ws page' l' (Ok v) is r p h same bare =
      same-model h.at
      (ap (λ c. over c (joined (sets_of l'))) p ∙ ap (λ ss. over (laid page ws) (joined ss)) h.with ∙ over-push page (sets_of l) ws)
      (ap (λ c. redone c (sets_of l')) p ∙ ap (redone (laid page ws)) h.with ∙ redone-push page (sets_of l) ws r (admitted _ _ _ _ ws v is).0) h.room
      ∙ take-done _ _ _ (undo-backs page l) ws v is
  undo-taken ws page' l' (Err e) is r p h same bare = ap (λ c. undo_model c l') bare ∙ ap (undo_model page) same ∙ take-refused _ _ _ (undo-backs page l) ws e is

  pub undo-forgotten : (to : ℕ) (l' : Log) → Holds l' to (drop (to - l.base) (sets_of l)) (size l.ring) → has_version l to ≡ true
      → undo_model page l' ≡ after_forget to (undo_model page l)
  undo-forgotten to l' h y =
      same-model h.at (ap (λ ss. over page (joined ss)) h.with ∙ sym (undo-contents to))
      (ap (redone page) h.with ∙ drop-redone page (to - l.base) (sets_of l)) h.room
      ∙ sym (cond-true _ _ _ (keeps-is _ _ _ (undo-backs page l) to ∙ y))
