-- Laws of records that stand for the sets of versions.
use Rattle.std.proofs.Common.{◌≡◌, ℕ, zero, suc, ◌+◌, ◌-◌, ◌<◌, ◌≤◌, List, [], ◌∷◌, ◌++◌, map, length, take, drop, sym, refl, ap, ◌∙◌, ⊎_elim, add-zero, arith}
use lib.Seq.{take-nil, take-append-add, drop-append-add}
use Rattle.std.proofs.lemmas.Bool.{cond-true, cond-false, le-leb, lt-leb, cases_lt}
use Rattle.std.proofs.lemmas.List.{length-append, append_assoc, append-nil, map-append, take_at, drop_at}
use Rattle.entries.specs.declared.writes.Write.{Write}
use Rattle.replicas.specs.declared.records.Record.{Record}
use Rattle.replicas.specs.Overlay.{sizes, joined}
use Rattle.replicas.specs.Records.{plain, marked, stamped, upto, cut}

-- ---- the records of one set

pub length_marked : (v : ℕ) (ws : List Write) → length (marked v ws) ≡ length ws
length_marked v [] = refl
length_marked v (w ∷ ws) = ap suc (length_marked v ws)

pub plain-marked : (v : ℕ) (ws : List Write) → map plain (marked v ws) ≡ ws
plain-marked v [] = refl
plain-marked v (w ∷ ws) = ap (λ xs. w ∷ xs) (plain-marked v ws)

-- a set of a version up to `to` is passed whole
upto-marked : (to v : ℕ) (ws : List Write) (rs : List Record) → v ≤ to → upto to (marked v ws ++ rs) ≡ length ws + upto to rs
upto-marked to v [] rs h = omega arith
upto-marked to v (w ∷ ws) rs h = let m = upto-marked to v ws rs h in cond-true _ _ _ (le-leb v to h) ∙ omega arith

-- ---- the records of several sets

pub length-stamped : (b : ℕ) (ss : List (List Write)) → length (stamped b ss) ≡ sizes ss
length-stamped b [] = refl
length-stamped b (s ∷ ss) = length-append (marked (b + 1) s) (stamped (b + 1) ss) ∙ rw (length_marked (b + 1) s, length-stamped (b + 1) ss)

pub plain-stamped : (b : ℕ) (ss : List (List Write)) → map plain (stamped b ss) ≡ joined ss
plain-stamped b [] = refl
plain-stamped b (s ∷ ss) = map-append plain (marked (b + 1) s) (stamped (b + 1) ss) ∙ rw (plain-marked (b + 1) s, plain-stamped (b + 1) ss)

upto-none : (a b : ℕ) (ss : List (List Write)) → a ≤ b → upto a (stamped b ss) ≡ 0
upto-none a b [] h = refl
upto-none a b ([] ∷ ss) h = upto-none a (b + 1) ss (omega arith)
upto-none a b ((w ∷ s) ∷ ss) h = cond-false _ _ _ (lt-leb (b + 1) a (omega arith))

-- the records up to a version are those of the sets up to it: none below the base, all above the last
pub upto-stamped : (b to : ℕ) (ss : List (List Write)) → upto to (stamped b ss) ≡ sizes (take (to - b) ss)
upto-stamped b to [] = ap sizes (sym (take-nil (to - b)))
upto-stamped b to (s ∷ ss) =
    ⊎_elim
    (λ (h : b < to).
    let e : to - b ≡ suc (to - (b + 1)) = omega arith in
    upto-marked to (b + 1) s (stamped (b + 1) ss) (omega arith) ∙ ap (λ n. length s + n) (upto-stamped (b + 1) to ss)
    ∙ ap (λ n. sizes (take n (s ∷ ss))) (sym e))
    (λ (h : to ≤ b).
    let e : to - b ≡ 0 = omega arith in
    upto-none to b (s ∷ ss) h ∙ ap (λ n. sizes (take n (s ∷ ss))) (sym e))
    (cases_lt b to)

pub take-stamped : (b k : ℕ) (ss : List (List Write)) → take (sizes (take k ss)) (stamped b ss) ≡ stamped b (take k ss)
take-stamped b zero ss = refl
take-stamped b (suc k) [] = refl
take-stamped b (suc k) (s ∷ ss) =
    ap (λ n. take (n + sizes (take k ss)) (marked (b + 1) s ++ stamped (b + 1) ss)) (sym (length_marked (b + 1) s))
    ∙ take-append-add (marked (b + 1) s) (stamped (b + 1) ss) (sizes (take k ss)) ∙ ap (λ rs. marked (b + 1) s ++ rs) (take-stamped (b + 1) k ss)

pub drop-stamped : (b k : ℕ) (ss : List (List Write)) → drop (sizes (take k ss)) (stamped b ss) ≡ stamped (b + k) (drop k ss)
drop-stamped b zero ss = rw add-zero
drop-stamped b (suc k) [] = refl
drop-stamped b (suc k) (s ∷ ss) =
    let e : (b + 1) + k ≡ b + suc k = omega arith in
    ap (λ n. drop (n + sizes (take k ss)) (marked (b + 1) s ++ stamped (b + 1) ss)) (sym (length_marked (b + 1) s))
    ∙ drop-append-add (marked (b + 1) s) (stamped (b + 1) ss) (sizes (take k ss)) ∙ drop-stamped (b + 1) k ss ∙ ap (λ v. stamped v (drop k ss)) e

-- cutting the records of sets gives the sets
pub cut-stamped : (b : ℕ) (ss : List (List Write)) → cut b (length ss) (stamped b ss) ≡ ss
cut-stamped b [] = refl
cut-stamped b (s ∷ ss) =
    let z = upto-none (b + 1) (b + 1) ss (omega arith) in
    let n = length_marked (b + 1) s in
    let u : upto (b + 1) (marked (b + 1) s ++ stamped (b + 1) ss) ≡ length s = upto-marked (b + 1) (b + 1) s (stamped (b + 1) ss) (omega arith) ∙ omega arith in
    rw (u, take_at (marked (b + 1) s) (stamped (b + 1) ss) (length s) n, drop_at (marked (b + 1) s) (stamped (b + 1) ss) (length s) n, plain-marked (b + 1) s)
    (ap (λ ts. s ∷ ts) (cut-stamped (b + 1) ss))

pub length_cut : (b n : ℕ) (rs : List Record) → length (cut b n rs) ≡ n
length_cut b zero rs = refl
length_cut b (suc n) rs = ap suc (length_cut (b + 1) n (drop (upto (b + 1) rs) rs))

pub stamped-push : (b : ℕ) (ss : List (List Write)) (ws : List Write) → stamped b (ss ++ (ws ∷ [])) ≡ stamped b ss ++ marked (b + length ss + 1) ws
stamped-push b [] ws = append-nil (marked (b + 1) ws) ∙ rw add-zero
stamped-push b (s ∷ ss) ws =
    let e : (b + 1) + length ss + 1 ≡ b + suc (length ss) + 1 = omega arith in
    ap (λ rs. marked (b + 1) s ++ rs) (stamped-push (b + 1) ss ws ∙ ap (λ v. stamped (b + 1) ss ++ marked v ws) e)
    ∙ sym (append_assoc (marked (b + 1) s) (stamped (b + 1) ss) (marked (b + suc (length ss) + 1) ws))
