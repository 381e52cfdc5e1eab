-- A call that equals its definition keeps the law.
use Rattle.std.proofs.Common.{◌≡◌, ℕ, [], ◌∷◌, sym, ap, subst₂}
use Rattle.entries.specs.Codings.{Coding, Faithful}
use Rattle.law.specs.declared.calls.Call.{Call}
use Rattle.law.specs.declared.calls.Answer.{Answer}
use Rattle.law.specs.Books.{BookModel}
use Rattle.law.specs.Calls.{Outcome, step_by, step, begin_call, read_call, write_call, file_call, close_call, drop_call, deliver_call, trim_call, restart_call, version_call, count_call}
use Rattle.law.specs.Letters.Letter.{begins, reads, writes, files, closes, drops, delivers, trims, restarts, versions, counts}
use Rattle.law.specs.Law.{KeepsLaw}
use Rattle.law.proofs.Main.{step-law}
use Rattle.book.specs.Books.{outcome, call_of}

module _ {V : Type 0} (k : Coding V) (back : Faithful k) (b b' : BookModel) (r : Answer V) where
  pub keeps-call : (c : Call V) → outcome b' r ≡ step k b c → KeepsLaw k b (c ∷ []) (r ∷ []) b'
  keeps-call c e =
      subst₂ (λ x y. KeepsLaw k b (c ∷ []) (y ∷ []) x) (sym (ap (λ (o : Outcome V). o.book) e)) (sym (ap (λ (o : Outcome V). o.answer) e)) (step-law k back b c)

  module _ (site slot : ℕ) where
    pub begin-law : outcome b' r ≡ begin_call k b site slot → KeepsLaw k b (call_of begins site slot 0 k.blank ∷ []) (r ∷ []) b'
    unfolding step step_by
    begin-law e = keeps-call (call_of begins site slot 0 k.blank) e

    pub read-law : (item : ℕ) → outcome b' r ≡ read_call k b site slot item → KeepsLaw k b (call_of reads site slot item k.blank ∷ []) (r ∷ []) b'
    unfolding step step_by
    read-law item e = keeps-call (call_of reads site slot item k.blank) e

    pub write-law : (item : ℕ) (value : V) → outcome b' r ≡ write_call k b site slot item value → KeepsLaw k b (call_of writes site slot item value ∷ []) (r ∷ []) b'
    unfolding step step_by
    write-law item value e = keeps-call (call_of writes site slot item value) e

    pub file-law : outcome b' r ≡ file_call k b site slot → KeepsLaw k b (call_of files site slot 0 k.blank ∷ []) (r ∷ []) b'
    unfolding step step_by
    file-law e = keeps-call (call_of files site slot 0 k.blank) e

    pub close-law : outcome b' r ≡ close_call k b site slot → KeepsLaw k b (call_of closes site slot 0 k.blank ∷ []) (r ∷ []) b'
    unfolding step step_by
    close-law e = keeps-call (call_of closes site slot 0 k.blank) e

    pub drop-law : outcome b' r ≡ drop_call k b site slot → KeepsLaw k b (call_of drops site slot 0 k.blank ∷ []) (r ∷ []) b'
    unfolding step step_by
    drop-law e = keeps-call (call_of drops site slot 0 k.blank) e

  pub deliver-law : (site : ℕ) → outcome b' r ≡ deliver_call k b site → KeepsLaw k b (call_of delivers site 0 0 k.blank ∷ []) (r ∷ []) b'
  unfolding step step_by
  deliver-law site e = keeps-call (call_of delivers site 0 0 k.blank) e

  pub trim-law : (to : ℕ) → outcome b' r ≡ trim_call k b to → KeepsLaw k b (call_of trims 0 0 to k.blank ∷ []) (r ∷ []) b'
  unfolding step step_by
  trim-law to e = keeps-call (call_of trims 0 0 to k.blank) e

  pub restart-law : (site : ℕ) → outcome b' r ≡ restart_call k b site → KeepsLaw k b (call_of restarts site 0 0 k.blank ∷ []) (r ∷ []) b'
  unfolding step step_by
  restart-law site e = keeps-call (call_of restarts site 0 0 k.blank) e

  pub version-law : (site : ℕ) → outcome b' r ≡ version_call k b site → KeepsLaw k b (call_of versions site 0 0 k.blank ∷ []) (r ∷ []) b'
  unfolding step step_by
  version-law site e = keeps-call (call_of versions site 0 0 k.blank) e

  pub count_law : outcome b' r ≡ count_call k b → KeepsLaw k b (call_of counts 0 0 0 k.blank ∷ []) (r ∷ []) b'
  unfolding step step_by
  count_law e = keeps-call (call_of counts 0 0 0 k.blank) e
