-- A book as it comes from a layout.
use Rattle.std.proofs.Common.{◌≡◌, ℕ, zero, suc, ◌+◌, ◌-◌, ◌<◌, ◌≤◌, min, Bool, false, ltb, leb, List, [], ◌∷◌, ◌++◌, map, length, get_or, take, drop, set, replicate, is_ok, None, Ok, sym, refl, ap, ◌∙◌, subst, ⊎_elim, arith}
use Rattle.std.specs.List.{AllByRecursion}
use Rattle.std.proofs.ByRecursion.{All-get_or, All-map}
use Rattle.std.proofs.lemmas.List.{length-set, length-map, length-replicate, replicate-append-replicate, get_or-replicate, get_or_past, set-append_left, set_past, map-set}
use Rattle.std.proofs.lemmas.Bool.{cond_both, cond-true, cond-false, cases_lt, le-leb, lt-leb, le-ltb, both_ways, or_from}
use Rattle.entries.specs.Codings.{Coding, Faithful}
use Rattle.replicas.specs.Overlay.{overs}
use Rattle.replicas.specs.Model.{ReplicaModel, version_of, items_of, cleared, open_answer, after_open}
use Rattle.banks.specs.Sites.{replica_at, no_replica, least_items, open_all_answer, is_in_use as replicas_in_use}
use Rattle.ledgers.specs.Model.{LedgerModel, newest_in}
use Rattle.law.specs.Slots.{slot_count, smallest_open_of, horizon}
use Rattle.law.specs.Slots.SlotModel.{idle}
use Rattle.law.specs.Layouts.{LayoutModel, OpeningValue, laid_out, after_lay, lay_all, book_in_use, opening_values, blanks}
use Rattle.law.proofs.Elements.{all-each}
use Rattle.law.proofs.OpenSlots.{Matches, OpenSlot}
use Rattle.law.proofs.Invariant.{view}
use Rattle.law.proofs.Steps.{Good}

-- changes that keep the size of every replica keep the number of items
least-map : (f : ReplicaModel → ReplicaModel) (rs : List ReplicaModel) → ((r : ReplicaModel) → items_of (f r) ≡ items_of r) → least_items (map f rs) ≡ least_items rs
least-map f [] h = refl
least-map f (r ∷ rs) h = ap (λ z. min z (least_items (map f rs))) (h r) ∙ ap (min (items_of r)) (least-map f rs h)

least-all : (m : ℕ) (rs : List ReplicaModel) → m ≤ least_items rs → AllByRecursion (λ (r : ReplicaModel). m ≤ items_of r) rs
least-all m [] l = tt
least-all m (r ∷ rs) l = (omega arith, least-all m rs (omega arith))

open-items : (item word : ℕ) (r : ReplicaModel) → items_of (after_open item word r) ≡ items_of r
open-items item word r =
    cond_both (is_ok (open_answer r item)) _ r (λ (z : ReplicaModel). items_of z ≡ items_of r) (λ _. length-set r.contents item word) (λ _. refl)

-- slots of which none is open
idle-row : (n j : ℕ) → get_or (replicate n idle) j idle ≡ idle
idle-row n j = ⊎_elim (λ (h : j < n). get_or-replicate n j idle idle h) (λ (h : n ≤ j). get_or_past (replicate n idle) j idle (let l = length-replicate n idle in omega arith)) (cases_lt j n)

idle-smallest : (n : ℕ) → smallest_open_of (replicate n idle) ≡ None
idle-smallest zero = refl
idle-smallest (suc n) = idle-smallest n

module _ {V : Type 0} (k : Coding V) where
  abbrev gap : ℕ
  gap = k.word k.blank

  -- a replica at version 0 that holds the words of the values p, and the blank's from there up
  pub record Fresh (p : List V) (r : ReplicaModel) : Type 0 where
    pub base : r.base ≡ 0
    pub sets : r.sets ≡ []
    pub fits : length p ≤ items_of r
    pub words : r.contents ≡ map k.word p ++ replicate (items_of r - length p) gap

  -- a layout with the values p laid into every replica, and nothing in the ledger
  pub record Laying (p : List V) (y : LayoutModel) : Type 0 where
    pub items : length p ≡ least_items y.replicas
    pub floor : y.ledger.floor ≡ 0
    pub sets : y.ledger.sets ≡ []
    pub fresh : AllByRecursion (Fresh p) y.replicas

  words-blank : (n : ℕ) → map k.word (replicate n k.blank) ≡ replicate n gap
  words-blank zero = refl
  words-blank (suc n) = ap (λ z. gap ∷ z) (words-blank n)

  -- a new layout holds the blank everywhere
  laying-out : (l : LedgerModel) (rs : List ReplicaModel) → Laying (blanks k rs) (laid_out k l rs)
  laying-out l rs =
      let m : ℕ = least_items rs in
      let lm = length-replicate m k.blank in
      record {
        items = lm ∙ sym (least-map (cleared gap) rs (λ r. length-replicate (items_of r) gap));
        floor = refl;
        sets = refl;
        fresh =
            All-map (Fresh (blanks k rs)) (cleared gap) rs
            (all-each
            (λ r h.
            let lq = length-replicate (items_of r) gap in
            let rest : ℕ = items_of (cleared gap r) - length (blanks k rs) in
            let e : m + rest ≡ items_of r = omega arith in
            record {
              base = refl;
              sets = refl;
              fits = omega arith;
              words = sym (ap (λ z. z ++ replicate rest gap) (words-blank m) ∙ replicate-append-replicate m rest gap ∙ ap (λ z. replicate z gap) e);
            })
            rs (least-all m rs (omega arith)));
      }

  -- an opening word in a replica
  fresh-word : (p : List V) (item : ℕ) (v : V) (r : ReplicaModel) → item < length p → Fresh p r → Fresh (set p item v) (after_open item (k.word v) r)
  fresh-word p item v r h f =
      let x : ℕ = k.word v in
      let b0 = f.base in
      let s0 = ap length f.sets in
      let fi = f.fits in
      let lp = length-set p item v in
      let lc = length-set r.contents item x in
      let ok : open_answer r item ≡ Ok tt =
      cond-false (ltb 0 (version_of r)) _ _ (le-ltb 0 (version_of r) (omega arith)) ∙ cond-false (leb (items_of r) item) _ _ (lt-leb (items_of r) item (omega arith)) in
      let e : items_of r - length p ≡ length (set r.contents item x) - length (set p item v) = omega arith in
      subst (Fresh (set p item v)) (sym (cond-true (is_ok (open_answer r item)) _ r (ap is_ok ok)))
      (record {
        base = f.base;
        sets = f.sets;
        fits = omega arith;
        words =
            ap (λ z. set z item x) f.words
            ∙ set-append_left (map k.word p) (replicate (items_of r - length p) gap) item x (rw length-map h)
            ∙ ap (λ z. z ++ replicate (items_of r - length p) gap) (sym (map-set k.word p item v))
            ∙ ap (λ z. map k.word (set p item v) ++ replicate z gap) e;
      })

  unused : (p : List V) (rs : List ReplicaModel) → AllByRecursion (Fresh p) rs → replicas_in_use rs ≡ false
  unused p [] h = refl
  unused p (r ∷ rs) h =
      let b0 = h.0.base in
      let s0 = ap length h.0.sets in
      or_from (ltb 0 (version_of r)) (replicas_in_use rs) (le-ltb 0 (version_of r) (omega arith)) (unused p rs h.1)

  -- laying in a value
  laying-value : (p : List V) (y : LayoutModel) (item : ℕ) (v : V) → Laying p y → Laying (set p item v) (after_lay k y item v)
  laying-value p y item v h =
      let rs : List ReplicaModel = y.replicas in
      let it = h.items in
      let first = cond-false (replicas_in_use rs) _ _ (unused p rs h.fresh) in
      ⊎_elim
      (λ (l : item < least_items rs).
      let ok : open_all_answer rs item ≡ Ok tt = first ∙ cond-false (leb (least_items rs) item) _ _ (lt-leb (least_items rs) item l) in
      subst (λ z. Laying (set p item v) (record { ledger = y.ledger; replicas = z })) (sym (cond-true (is_ok (open_all_answer rs item)) _ rs (ap is_ok ok)))
      (record {
        items = length-set p item v ∙ h.items ∙ sym (least-map (after_open item (k.word v)) rs (open-items item (k.word v)));
        floor = h.floor;
        sets = h.sets;
        fresh = All-map (Fresh (set p item v)) (after_open item (k.word v)) rs (all-each (λ r f. fresh-word p item v r (omega arith) f) rs h.fresh);
      }))
      (λ (l : least_items rs ≤ item).
      let no : is_ok (open_all_answer rs item) ≡ false = ap is_ok (first ∙ cond-true (leb (least_items rs) item) _ _ (le-leb (least_items rs) item l)) in
      subst (λ z. Laying z (after_lay k y item v)) (sym (set_past p item v (omega arith)))
      (subst (λ z. Laying p (record { ledger = y.ledger; replicas = z })) (sym (cond-false (is_ok (open_all_answer rs item)) _ rs no))
      (record { items = h.items; floor = h.floor; sets = h.sets; fresh = h.fresh })))
      (cases_lt item (least_items rs))

  laying-all : (p : List V) (y : LayoutModel) (os : List (OpeningValue V)) → Laying p y → Laying (opening_values k p os) (lay_all k y os)
  laying-all p y [] h = h
  laying-all p y (o ∷ os) h = laying-all (set p o.item o.value) (after_lay k y o.item o.value) os (laying-value p y o.item o.value h)

  pub laying : (l : LedgerModel) (rs : List ReplicaModel) (os : List (OpeningValue V)) → Laying (opening_values k (blanks k rs) os) (lay_all k (laid_out k l rs) os)
  laying l rs os = laying-all (blanks k rs) (laid_out k l rs) os (laying-out l rs)

  module _ (back : Faithful k) (p : List V) (y : LayoutModel) (h : Laying p y) where
    fresh_at : (s : ℕ) → s < length y.replicas → Fresh p (replica_at y.replicas s)
    fresh_at s hs = All-get_or (Fresh p) y.replicas s no_replica hs h.fresh

    version-none : (s : ℕ) → s < length y.replicas → version_of (replica_at y.replicas s) ≡ 0
    version-none s hs = let f = fresh_at s hs in let b0 = f.base in let s0 = ap length f.sets in omega arith

    idle-at : (s : ℕ) → s < length y.replicas → get_or (replicate (length y.replicas) (replicate slot_count idle)) s [] ≡ replicate slot_count idle
    idle-at s hs = get_or-replicate (length y.replicas) s (replicate slot_count idle) [] hs

    no-sets : (s : ℕ) (items : List Bool) (n : ℕ) → None ≡ newest_in (s + 1) (drop n []) items
    no-sets s items zero = refl
    no-sets s items (suc n) = refl

    take_none : (c : List ℕ) (n : ℕ) → overs c (take n []) ≡ c
    take_none c zero = refl
    take_none c (suc n) = refl

    -- the opened book keeps the invariant with an empty history
    pub good-open : Good k back p (book_in_use k y) (view [])
    good-open =
        let fl = h.floor in
        let ns = ap length h.sets in
        record {
          states = λ v. p;
          inv =
              record {
                states =
                    record {
                      start = refl;
                      sound = λ v. refl;
                      items = sym h.items;
                      leads = λ v lo hi. absurd (omega arith);
                      mirrors =
                          λ s hs w lo hi.
                          let f = fresh_at s hs in
                          ap (λ z. overs (replica_at y.replicas s).contents (take (w - (replica_at y.replicas s).base) z)) f.sets
                          ∙ take_none (replica_at y.replicas s).contents (w - (replica_at y.replicas s).base) ∙ f.words;
                      reached = λ s hs. let v = version-none s hs in omega arith;
                    };
                slots =
                    record {
                      sites = length-replicate (length y.replicas) (replicate slot_count idle);
                      rows = λ s hs. ap length (idle-at s hs);
                      matches =
                          λ s j hs hj.
                          subst (λ z. Matches (OpenSlot k back (length p) (λ v. p) (replica_at y.replicas s)) z None)
                          (sym (ap (λ z. get_or z j idle) (idle-at s hs) ∙ idle-row slot_count j)) tt;
                      outside = λ s j n. refl;
                    };
                heard = record { floors = sym h.floor; reaches = λ s hs. sym (version-none s hs) };
                serial =
                    record {
                      chain = omega arith;
                      updates = omega arith;
                      conflicts =
                          λ s lo items.
                          no-sets s items (s - y.ledger.floor) ∙ ap (λ z. newest_in (s + 1) (drop (s - y.ledger.floor) z) items) (sym h.sets);
                    };
                same_site =
                    record {
                      times = tt;
                      ended = tt;
                      closings = λ t time e. absurd (both_ways false refl e);
                      pairs = tt;
                      waiting = λ s j t e. let z : ◌≡◌ {A = ℕ} 0 1 = cc in absurd (omega arith);
                    };
                answered = record { lossless = refl; shown = tt; decided = tt };
              };
          tidy =
              record {
                bases =
                    λ s hs.
                    (fresh_at s hs).base
                    ∙ sym (ap (λ z. horizon z (version_of (replica_at y.replicas s))) (idle-at s hs) ∙ version-none s hs);
                floors = λ s hs. omega arith;
                numbered = record { few = omega arith; full = λ v lo hi. absurd (omega arith) };
              };
        }
