-- What the records of a log stand for, and what the calls on it leave of them.
use Rattle.std.proofs.Common.{◌≡◌, ℕ, zero, suc, ◌+◌, ◌-◌, ◌<◌, ◌≤◌, true, ◌&&◌, leb, List, [], ◌∷◌, ◌++◌, map, length, take, drop, Ok, sym, refl, ap, ◌∙◌, arith}
use Rattle.std.specs.List.Sorted.{IsNonDecreasingBy}
use Rattle.std.proofs.lemmas.List.{length-drop, length_push}
use Rattle.std.proofs.lemmas.Bool.{and_parts, and_from, leb-true}
use Rattle.entries.specs.declared.writes.Write.{Write}
use Rattle.entries.specs.Rising.{rising}
use Rattle.replicas.specs.declared.records.Record.{Record}
use Rattle.replicas.specs.declared.logs.Log.{Log}
use Rattle.replicas.specs.Overlay.{sizes, joined}
use Rattle.replicas.specs.Records.{plain, marked, stamped, upto, cut, ordered}
use Rattle.replicas.specs.Kept.{Kept, all_rising}
use Rattle.replicas.specs.Model.{last_version}
use Rattle.replicas.specs.Logs.{records, sets_of, set_answer}
use Rattle.replicas.proofs.Admitted.{admitted}
use Rattle.replicas.proofs.Stamps.{length-stamped, plain-stamped, upto-stamped, take-stamped, drop-stamped, cut-stamped, length_cut, stamped-push}
use Rattle.replicas.proofs.Orders.{stamped-cut, ordered-stamped, versions-rise}

-- cutting stamped records, at the number of versions
cut_all : (b n : ℕ) (ss : List (List Write)) → length ss ≡ n → cut b n (stamped b ss) ≡ ss
cut_all b n ss e = ap (λ k. cut b k (stamped b ss)) (sym e) ∙ cut-stamped b ss

module _ (b v : ℕ) (rs : List Record) (k : Kept b v rs) where
  abbrev ss : List (List Write)
  ss = cut b (v - b) rs

  whole : stamped b ss ≡ rs
  whole = let o = k.0 in let e : b + (v - b) ≡ v = omega arith in stamped-cut b (v - b) rs (rw e k.2)

  pub log-version : b + length ss ≡ v
  log-version = let o = k.0 in let n = length_cut b (v - b) rs in omega arith

  pub log-used : length rs ≡ sizes ss
  log-used = ap length (sym whole) ∙ length-stamped b ss

  pub log-rises : IsNonDecreasingBy (λ r. r.version) rs
  log-rises = versions-rise (b + 1) v rs k.2

  -- up to a version
  module _ (to : ℕ) where
    -- how many records are of versions up to it
    log-end : upto to rs ≡ sizes (take (to - b) ss)
    log-end = ap (upto to) (sym whole) ∙ upto-stamped b to ss

    pub front-writes : map plain (take (upto to rs) rs) ≡ joined (take (to - b) ss)
    front-writes =
        ap (λ n. map plain (take n rs)) log-end ∙ ap (λ ts. map plain (take (sizes (take (to - b) ss)) ts)) (sym whole)
        ∙ ap (map plain) (take-stamped b (to - b) ss) ∙ plain-stamped b (take (to - b) ss)

    rest-stamped : drop (upto to rs) rs ≡ stamped (b + (to - b)) (drop (to - b) ss)
    rest-stamped = ap (λ n. drop n rs) log-end ∙ ap (drop (sizes (take (to - b) ss))) (sym whole) ∙ drop-stamped b (to - b) ss

    pub rest-writes : map plain (drop (upto to rs) rs) ≡ joined (drop (to - b) ss)
    rest-writes = ap (map plain) rest-stamped ∙ plain-stamped (b + (to - b)) (drop (to - b) ss)

  -- one that is kept
  module _ (to : ℕ) (y : (leb b to && leb to v) ≡ true) where
    lo : b ≤ to
    lo = leb-true _ _ (and_parts (leb b to) (leb to v) y).0

    hi : to ≤ v
    hi = leb-true _ _ (and_parts (leb b to) (leb to v) y).1

    rest-above : drop (upto to rs) rs ≡ stamped to (drop (to - b) ss)
    rest-above = let l = lo in let e : b + (to - b) ≡ to = omega arith in rest-stamped to ∙ ap (λ t. stamped t (drop (to - b) ss)) e

    rest-length : length (drop (to - b) ss) ≡ v - to
    rest-length = let l = lo in let h = hi in let n = length-drop (to - b) ss in let m = log-version in omega arith

    pub rest-sets : cut to (v - to) (drop (upto to rs) rs) ≡ drop (to - b) ss
    rest-sets = ap (cut to (v - to)) rest-above ∙ cut_all to (v - to) (drop (to - b) ss) rest-length

    pub rest-kept : Kept to v (drop (upto to rs) rs)
    rest-kept =
        let h = hi in
        (h, k.1, ap (ordered (to + 1) v) rest-above ∙ ordered-stamped to v (drop (to - b) ss) (let n = rest-length in omega arith))

  -- one more set
  module _ (ws : List Write) where
    push-stamped : rs ++ marked (v + 1) ws ≡ stamped b (ss ++ (ws ∷ []))
    push-stamped = ap (λ ts. ts ++ marked (v + 1) ws) (sym whole) ∙ ap (λ n. stamped b ss ++ marked (n + 1) ws) (sym log-version) ∙ sym (stamped-push b ss ws)

    pub push-sets : cut b ((v + 1) - b) (rs ++ marked (v + 1) ws) ≡ ss ++ (ws ∷ [])
    push-sets =
        let o = k.0 in
        ap (cut b ((v + 1) - b)) push-stamped
        ∙ cut_all b ((v + 1) - b) (ss ++ (ws ∷ [])) (let n = length_push ss ws in let l = log-version in omega arith)

    push-kept : v < last_version → Kept b (v + 1) (rs ++ marked (v + 1) ws)
    push-kept m =
        let o = k.0 in (
          omega arith,
          omega arith,
          ap (ordered (b + 1) (v + 1)) push-stamped
              ∙ ordered-stamped b (v + 1) (ss ++ (ws ∷ [])) (let n = length_push ss ws in let l = log-version in omega arith),
        )

-- ---- sets with rising items

pub rising-take : (n : ℕ) (sets : List (List Write)) → all_rising sets ≡ true → all_rising (take n sets) ≡ true
rising-take zero sets r = refl
rising-take (suc n) [] r = refl
rising-take (suc n) (s ∷ sets) r = let p = and_parts (rising s) (all_rising sets) r in and_from _ _ p.0 (rising-take n sets p.1)

pub rising-drop : (n : ℕ) (sets : List (List Write)) → all_rising sets ≡ true → all_rising (drop n sets) ≡ true
rising-drop zero sets r = r
rising-drop (suc n) [] r = refl
rising-drop (suc n) (s ∷ sets) r = rising-drop n sets (and_parts (rising s) (all_rising sets) r).1

rising-push : (sets : List (List Write)) (ws : List Write) → all_rising sets ≡ true → rising ws ≡ true → all_rising (sets ++ (ws ∷ [])) ≡ true
rising-push [] ws r q = and_from _ _ q refl
rising-push (s ∷ sets) ws r q = let p = and_parts (rising s) (all_rising sets) r in and_from _ _ p.0 (rising-push sets ws p.1 q)

-- ---- a log

module _ (l : Log) where
  pub sets-version : l.base + length (sets_of l) ≡ l.version
  sets-version = log-version l.base l.version (records l) l.kept

  pub sets-used : length (records l) ≡ sizes (sets_of l)
  sets-used = log-used l.base l.version (records l) l.kept

  -- with one more set, the writes that are kept of one which is taken: the items rise there too
  pub log-grown : (items v : ℕ) (ws kept : List Write) (rs : List Record)
      → Ok v ≡ set_answer l items ws → rs ≡ records l ++ marked v kept → rising kept ≡ true
      → Kept l.base v rs × (all_rising (cut l.base (v - l.base) rs) ≡ true) × (cut l.base (v - l.base) rs ≡ sets_of l ++ (kept ∷ []))
  log-grown items v ws kept rs e is r =
      let fits = admitted _ _ _ items ws v e in
      let now : cut l.base (v - l.base) rs ≡ sets_of l ++ (kept ∷ []) = rw (is, fits.2) (push-sets l.base l.version (records l) l.kept kept) in
      (rw (is, fits.2) (push-kept l.base l.version (records l) l.kept kept fits.1), ap all_rising now ∙ rising-push (sets_of l) kept l.rising r, now)
