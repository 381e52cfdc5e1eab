-- The index of a ledger: what it tells, and what an add leaves of it.
use Rattle.std.proofs.Common.{◌≡◌, ℕ, ◌<◌, ◌≤◌, Bool, false, cond, List, [], ◌∷◌, length, get_or, set, replicate, nat_lt, Some, None, Ok, refl, arith}
use Rattle.std.specs.Bool.{then_some}
use Rattle.std.proofs.lemmas.List.{length-set, get_or-set_same, get_or-set_other, get_or-replicate}
use Rattle.std.proofs.lemmas.Bool.Decides.{nat_tests}
use Rattle.entries.specs.declared.writes.Write.{Write}
use Rattle.entries.specs.Writes.{names}
use Rattle.ledgers.specs.Model.{LedgerModel, head_of, newest, meets, add_answer, after_add, fetched}
use Rattle.ledgers.specs.Logs.{fresh}
use Rattle.ledgers.specs.Index.{There, Last, Tells, raised, Latest}
use Rattle.ledgers.proofs.Fetches.{fetched-past, add-keeps-sets, added_is}
use Rattle.ledgers.proofs.Meets.{meets-by, meets-none, has-below}
use Rattle.ledgers.proofs.Newest.{newest-told}

-- no version of the index is past the head: one above the floor has a set
tells-upto : (m : LedgerModel) (last : List ℕ) (i : ℕ) → There m last → i < 256 → get_or last i 0 ≤ head_of m
tells-upto m last i there l = grind (arith, there i l, fetched-past m (get_or last i 0))

-- a ledger without sets
pub tells-fresh : (n : ℕ) → Tells (fresh n) (replicate 256 0)
tells-fresh n = (
  (λ i l above. absurd (omega (arith, get_or-replicate {A = ℕ} 256 i 0 0 l))),
  (λ i v h. grind (arith, nat_tests)),
)

-- the items of the set have its version, and the others what they had
raised_at : (v i : ℕ) (ws : List Write) (last : List ℕ) → i < length last → get_or (raised last ws v) i 0 ≡ cond (names ws i) v (get_or last i 0)
raised_at v i [] last l = refl
raised_at v i (w ∷ ws) last l =
    grind (arith, nat_tests, raised_at v i ws (set last w.item v), length-set {A = ℕ}, get_or-set_same last i v 0, get_or-set_other last w.item i v 0)

-- after an add, with the items of the set raised
module _ (m : LedgerModel) (last : List ℕ) (whole : length last ≡ 256) (tells : Tells m last) (ws : List Write) (v : ℕ) (e : add_answer m ws ≡ Ok v) where
  there-added : There (after_add ws m) (raised last ws v)
  there-added i l above =
      let k = add-keeps-sets m ws v e in
      let at = raised_at v i ws last (omega arith) in
      let is = added_is m ws v e in
      grind (arith, k.3 (get_or last i 0), tells-upto m last i tells.0 l, tells.0 i l)

  last-added : Last (after_add ws m) (raised last ws v)
  last-added i u h =
      let k = add-keeps-sets m ws v e in
      let at = raised_at v i ws last (omega (arith, h.0)) in
      grind (arith, nat_tests, fetched-past (after_add ws m) u, k.3 u, tells.1 i u)

  pub tells-added : Tells (after_add ws m) (raised last ws v)
  tells-added = (there-added, last-added)

-- the latest version of the items, if above the snapshot, is the newest
module _ (m : LedgerModel) (snapshot : ℕ) (items : List Bool) (last : List ℕ) (n : ℕ) (low : m.floor ≤ snapshot)
    (whole : length items ≡ 256) (tells : Tells m last) (latest : Latest items last 256 n) where
  none-later : (u : ℕ) → n < u → meets items (fetched m u) ≡ false
  none-later u up = meets-none items (fetched m u) (λ k at. grind (arith, has-below items k, tells.1 k u, latest.0 k))

  pub latest-some : snapshot < n → Some n ≡ newest m snapshot items
  latest-some up =
      let w = latest.1 (omega arith) in
      newest-told m snapshot items low (Some n) (
        up,
        omega (arith, tells-upto m last w.0 tells.0 w.1, w.3),
        grind (arith, meets-by items w.0 w.2 (fetched m n), tells.0 w.0 w.1),
        λ u lo hi. none-later u lo,
      )

  pub latest-none : n ≤ snapshot → None ≡ newest m snapshot items
  latest-none upto = newest-told m snapshot items low None (λ u lo hi. none-later u (omega arith))

  pub latest-told : then_some (nat_lt snapshot n) n ≡ newest m snapshot items
  latest-told = grind (arith, nat_tests, latest-some, latest-none)
