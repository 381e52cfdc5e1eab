-- What a call's answer comes to, by what became of it.
use Rattle.std.proofs.Common.{◌≡◌, ℕ, ◌<◌, ◌≤◌, Bool, true, false, cond, ltb, Ok, Err, Result, sym, refl, ap, ◌∙◌, arith}
use Rattle.std.proofs.lemmas.Bool.{cond-false, le-ltb, ltb-true, ltb-false}
use Rattle.entries.specs.Codings.{Coding}
use Rattle.law.specs.declared.calls.Answer.{Answer}
use Rattle.law.specs.declared.codes.Code.TheVariants.{NoSuchSite, NoSuchItem}
use Rattle.law.specs.Books.{BookModel, site_count, item_count, site_version}
use Rattle.law.specs.Calls.{Outcome, refuse, accept, at_site, deliver_call, restart_call, version_call, count_call}
use Rattle.book.specs.declared.answers.Refused.{Refused}
use Rattle.book.specs.Answers.{refusal, answer_of}
use Rattle.book.specs.Books.{outcome}
use Rattle.book.specs.Entering.{version_in, item_in, entry, entered, resumed}

-- a test that was passed, and one that was not
pub passed : {A E : Type 0} (t : Bool) (a v : A) (e : E) → Ok v ≡ cond t (Ok a) (Err e) → (t ≡ true) × (v ≡ a)
passed true a v e h = let same : v ≡ a = cc in (refl, same)
passed false a v e h = let z : ◌≡◌ {A = ℕ} 0 1 = cc in absurd (omega arith)

pub failed : {A E : Type 0} (t : Bool) (a : A) (e x : E) → Err x ≡ cond t (Ok a) (Err e) → (t ≡ false) × (x ≡ e)
failed true a e x h = let z : ◌≡◌ {A = ℕ} 0 1 = cc in absurd (omega arith)
failed false a e x h = let same : x ≡ e = cc in (refl, same)

-- a site that was found has its version, and one that was not is past the last
pub site-found : (b : BookModel) (site v : ℕ) → Ok v ≡ version_in b site → (site < site_count b) × (v ≡ site_version b site)
site-found b site v h = let p = passed (ltb site (site_count b)) (site_version b site) v _ h in (ltb-true site (site_count b) p.0, p.1)

pub site-missing : (b : BookModel) (site : ℕ) (x : Refused) → Err x ≡ version_in b site → (site_count b ≤ site) × (x ≡ record { code = NoSuchSite; number = site_count b })
site-missing b site x h = let p = failed (ltb site (site_count b)) (site_version b site) _ x h in (ltb-false site (site_count b) p.0, p.1)

-- the same of an item
pub item-found : (b : BookModel) (item i : ℕ) → Ok i ≡ item_in b item → (item < item_count b) × (i ≡ item)
item-found b item i h = let p = passed (ltb item (item_count b)) item i _ h in (ltb-true item (item_count b) p.0, p.1)

pub item-missing : (b : BookModel) (item : ℕ) (x : Refused) → Err x ≡ item_in b item → (item_count b ≤ item) × (x ≡ record { code = NoSuchItem; number = item_count b })
item-missing b item x h = let p = failed (ltb item (item_count b)) item _ x h in (ltb-false item (item_count b) p.0, p.1)

-- a book and an answer, each known by another name
pub same_outcome : {V : Type 0} (b b' : BookModel) (r r' : Answer V) → b ≡ b' → r ≡ r' → outcome b r ≡ outcome b' r'
same_outcome b b' r r' e f = ap (λ z. outcome z r) e ∙ ap (outcome b') f

module _ {V : Type 0} (k : Coding V) where
  -- an answer that tells what became of a call is the call's
  pub told : (b' : BookModel) (v : Result ℕ Refused) (r : Answer V) (o : Outcome V) → outcome b' (answer_of k v) ≡ o → r ≡ answer_of k v → outcome b' r ≡ o
  told b' v r o e h = ap (outcome b') h ∙ e

  pub count-told : (b : BookModel) (r : Answer V) → r ≡ answer_of k (Ok b.refusals) → outcome b r ≡ count_call k b
  unfolding count_call
  count-told b r e = ap (outcome b) e

  pub version-told : (b : BookModel) (site : ℕ) (v : Result ℕ Refused) → v ≡ version_in b site → outcome b (answer_of k v) ≡ version_call k b site
  unfolding version_call at_site
  version-told b site v e = ap (λ z. outcome b (answer_of k z)) e ∙ by (ltb site (site_count b)) (site_version b site) _
    where
      by : (t : Bool) (n : ℕ) (x : Refused) → outcome b (answer_of k (cond t (Ok n) (Err x))) ≡ cond t (accept k b n) (refuse k b x.code x.number)
      by true n x = refl
      by false n x = refl

  -- a call on a site that there is not
  module _ (b : BookModel) (site : ℕ) (x : Refused) (v : Result ℕ Refused) (h : Err x ≡ version_in b site) (e : v ≡ Err x) where
    nowhere : (o : Outcome V) → outcome b (answer_of k v) ≡ at_site k b site o
    unfolding at_site
    nowhere o =
        let p = site-missing b site x h in
        ap (λ z. outcome b (answer_of k z)) e ∙ ap (λ z. outcome b (refusal k z)) p.1 ∙ sym (cond-false (ltb site (site_count b)) _ _ (le-ltb site (site_count b) p.0))

    pub restart-nowhere : outcome b (answer_of k v) ≡ restart_call k b site
    unfolding restart_call
    restart-nowhere = nowhere _

    pub deliver-nowhere : outcome b (answer_of k v) ≡ deliver_call k b site
    unfolding deliver_call
    deliver-nowhere = nowhere _

  module _ (b b' : BookModel) (letter site slot : ℕ) (call : Outcome V) (go : BookModel → ℕ → Outcome V)
      (by : call ≡ resumed k (entered b letter site slot) go) where
    -- a call goes on where it has entered
    pub gone-on : (n : ℕ) (o : Outcome V) → entry b' (Ok n) ≡ entered b letter site slot → o ≡ go b' n → o ≡ call
    gone-on n o e h = h ∙ sym (by ∙ ap (λ z. resumed k z go) (sym e))

    -- or it was refused
    pub refused : (x : Refused) (r : Answer V) → entry b' (Err x) ≡ entered b letter site slot → r ≡ refusal k x → outcome b' r ≡ call
    refused x r e h = ap (outcome b') h ∙ sym (by ∙ ap (λ z. resumed k z go) (sym e))
