-- What a replica over a page and a log answers, by the numbers that these keep.
use Rattle.std.proofs.Common.{◌≡◌, ℕ, List, [], ◌∷◌, ◌++◌, length, is_ok, Ok, Err, sym, ap, ◌∙◌, arith}
use Rattle.std.proofs.lemmas.Bool.{cond-true, cond-false}
use Rattle.entries.specs.declared.writes.Write.{Write}
use Rattle.replicas.specs.declared.replica.Refusal.{Refusal}
use Rattle.replicas.specs.declared.logs.Log.{Log}
use Rattle.replicas.specs.Model.{ReplicaModel, version_of, used_of, keeps, take_answer, after_take}
use Rattle.replicas.specs.Logs.{records, has_version, set_answer, Backs}
use Rattle.replicas.proofs.Logged.{sets-version, sets-used}

-- models with equal parts are equal
pub same-model : {b b' n n' : ℕ} {c c' : List ℕ} {ss ss' : List (List Write)} → b ≡ b' → c ≡ c' → ss ≡ ss' → n ≡ n'
    → ◌≡◌ {A = ReplicaModel} (record { base = b; contents = c; sets = ss; capacity = n }) (record { base = b'; contents = c'; sets = ss'; capacity = n' })
same-model p q r s = cc

module _ (m : ReplicaModel) (page : List ℕ) (l : Log) (k : Backs m page l) where
  pub version-is : version_of m ≡ l.version
  version-is = let p = k.base in let q = k.sets in let v = sets-version l in omega arith

  pub used-is : used_of m ≡ length (records l)
  used-is = k.writes ∙ sym (sets-used l)

  pub keeps-is : (at : ℕ) → keeps m at ≡ has_version l at
  keeps-is at = let p = k.base in let q = version-is in cc

  pub take-is : (ws : List Write) → take_answer m ws ≡ set_answer l (length page) ws
  take-is ws = let p = used-is in let q = version-is in let r = k.room in let s = k.items in cc

  -- a set that is refused leaves the replica, and one that is taken is the last of its sets
  pub take-refused : (ws : List Write) (e : Refusal) → Err e ≡ set_answer l (length page) ws → m ≡ after_take ws m
  take-refused ws e is = sym (cond-false _ _ _ (ap is_ok (take-is ws ∙ sym is)))

  pub take-done : (ws : List Write) (v : ℕ) → Ok v ≡ set_answer l (length page) ws
      → record { base = m.base; contents = m.contents; sets = m.sets ++ (ws ∷ []); capacity = m.capacity } ≡ after_take ws m
  take-done ws v is = sym (cond-true _ _ _ (ap is_ok (take-is ws ∙ sym is)))
