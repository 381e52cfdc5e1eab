-- What the calls on a page replica answer and leave.
use Rattle.std.proofs.Common.{◌≡◌, ℕ, ◌-◌, ◌<◌, true, List, [], ◌∷◌, ◌++◌, length, get_or, take, drop, Ok, Err, Result, OnOk, OnErr, sym, refl, ap, ◌∙◌}
use Rattle.std.proofs.lemmas.Bool.{cond-true}
use Rattle.rings.specs.Held.{size}
use Rattle.entries.specs.declared.writes.Write.{Write}
use Rattle.replicas.specs.declared.replica.Refusal.{Refusal}
use Rattle.replicas.specs.declared.logs.Log.{Log}
use Rattle.replicas.specs.Overlay.{newest_word_of, joined, laid}
use Rattle.replicas.specs.Model.{contents_at, after_take, after_forget}
use Rattle.replicas.specs.Logs.{sets_of, has_version, set_answer, Holds}
use Rattle.replicas.specs.Pages.{page_model, page-backs}
use Rattle.replicas.proofs.Logged.{rising-take}
use Rattle.replicas.proofs.Overlays.{get_or-overs, overs-laid}
use Rattle.replicas.proofs.Backed.{same-model, keeps-is, take-done, take-refused}

module _ (page : List ℕ) (l : Log) where
  -- an item's word is that of its newest write up to the version, or else that of the page
  pub page-word : (at item : ℕ) → item < length page
      → newest_word_of (joined (take (at - l.base) (sets_of l))) item (get_or page item 0) ≡ get_or (contents_at (page_model page l) at) item 0
  page-word at item h = sym (get_or-overs page (take (at - l.base) (sets_of l)) item (rising-take (at - l.base) (sets_of l) l.rising) h)

  -- with one more set, or as it was
  pub page-taken : (ws : List Write) (l' : Log) (r : Result ℕ Refusal) → r ≡ set_answer l (length page) ws
      → OnOk r (Holds l' l.base (sets_of l ++ (ws ∷ [])) (size l.ring)) → OnErr r (l' ≡ l)
      → page_model page l' ≡ after_take ws (page_model page l)
  page-taken ws l' (Ok v) is h same = same-model h.at refl h.with h.room ∙ take-done _ _ _ (page-backs page l) ws v is
  page-taken ws l' (Err e) is h same = ap (page_model page) same ∙ take-refused _ _ _ (page-backs page l) ws e is

  -- the page with the sets up to a version laid over it is the contents there
  pub page-forgotten : (to : ℕ) (page' : List ℕ) (l' : Log) → page' ≡ laid page (joined (take (to - l.base) (sets_of l)))
      → Holds l' to (drop (to - l.base) (sets_of l)) (size l.ring) → has_version l to ≡ true
      → page_model page' l' ≡ after_forget to (page_model page l)
  page-forgotten to page' l' is h y =
      same-model h.at (is ∙ sym (overs-laid page (take (to - l.base) (sets_of l)) (rising-take (to - l.base) (sets_of l) l.rising))) h.with h.room
      ∙ sym (cond-true _ _ _ (keeps-is _ _ _ (page-backs page l) to ∙ y))
